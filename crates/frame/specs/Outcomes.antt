-- Outcomes of accesses, and their tally.
use Rattle.std.specs.Prelude.{ℕ}
use Rattle.frame.specs.declared.outcome.Outcome.{Outcome}
use Rattle.frame.specs.declared.outcome.Outcome.TheVariants.{NotWanted, Done, Refused}
use Rattle.frame.specs.declared.outcome.Tally.{Tally}
use Rattle.frame.specs.declared.outcome.Tally.TheVariants.{Nothing, Success, Failure}
use Rattle.frame.specs.declared.outcome.Accessed.{Accessed}

abbrev pub met : {X F : Type 0} → Tally → Outcome X F → Tally
met t NotWanted = t
met t (Refused f) = Failure
met Nothing (Done o) = Success
met Success (Done o) = Success
met Failure (Done o) = Failure

-- what a tally adds to the working counter, if success adds n
abbrev pub worth : Tally → ℕ → ℕ
worth Nothing n = 0
worth Success n = n
worth Failure n = 0

-- a fetched octet in the place of the one that came
abbrev pub laid_whole : {F : Type 0} → ℕ → Outcome ℕ F → ℕ
laid_whole o NotWanted = o
laid_whole o (Done v) = v
laid_whole o (Refused f) = o

abbrev pub replaced : {F : Type 0} → ℕ → Outcome ℕ F → Outcome (Unit {0}) F → Accessed F
replaced o r w = record { read = r; write = w; laid = laid_whole o r }
