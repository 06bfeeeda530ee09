use Rattle.std.proofs.Common.{◌≡◌, drop}
use Rattle.scripts.specs.Numerals.{radix_of, value_from}
use Rattle.scripts.proofs.words.value.Given as goal

abbrev pub invariant-loop-octet : goal.invariant-loop-octet
invariant-loop-octet l = value_from (radix_of l.base) l.value (drop l.octet-index l.digits) ≡ value_from (radix_of l.base) 0 l.digits
