-- A station as a contract sees it. Assumes nothing.
use Rattle.rules.specs.Steps.{Station}

-- its core beside the octets of its memory, and the memory itself
pub record Seen (M : Type 0) : Type 0 where
  pub station : Station
  pub memory : M
