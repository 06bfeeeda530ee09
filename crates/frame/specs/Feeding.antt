-- A whole frame over a memory that does every access and holds one octet everywhere.
use Rattle.std.specs.Prelude.{ℕ, Bool, true, false, Some, None, Option}
use Rattle.frame.specs.declared.command.Addresses.{Addresses}
use Rattle.frame.specs.declared.outcome.Outcome.{Outcome}
use Rattle.frame.specs.declared.outcome.Outcome.TheVariants.{NotWanted, Done}
use Rattle.frame.specs.declared.outcome.Accessed.{Accessed}
use Rattle.frame.specs.declared.datagram.Wanted.{Wanted}
use Rattle.frame.specs.declared.progress.Progress.{Progress}
use Rattle.frame.specs.Outcomes.{replaced}
use Rattle.frame.specs.Frames.{wanted_by, given, answered, or_unchanged}

-- an access that is wanted is done
abbrev pub done_if : {X : Type 0} → Bool → X → Outcome X (Unit {0})
done_if true x = Done x
done_if false x = NotWanted

abbrev pub served : (holds o : ℕ) → Option Wanted → Accessed (Unit {0})
served h o None = replaced o NotWanted NotWanted
served h o (Some w) = replaced o (done_if w.read h) (done_if w.write tt)

abbrev pub fed_next : Addresses → (holds : ℕ) → Progress → (o : ℕ) → Progress
fed_next a h f o = given f o a (served h o (wanted_by f)).read (served h o (wanted_by f)).write

abbrev pub fed_octet : (holds : ℕ) → Progress → (o : ℕ) → ℕ
fed_octet h f o = or_unchanged o (answered f o (served h o (wanted_by f)).laid)
