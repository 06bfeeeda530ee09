-- What was promised of the station: its services' messages as Channel.antt says, and of an access in its turn to a buffered channel whether it is
-- refused. Assumes nothing.
use Rattle.std.specs.Prelude.{◌≡◌, ℕ, ◌≤◌, Bool, true, false, List, [], ◌∷◌, length, Some, None, Option, slice_index_or}
use Rattle.access.specs.declared.Direction.TheVariants.{Read, Write}
use Rattle.bits.specs.Shares.{splits}
use Rattle.channel.specs.Windows.{offset_in}
use Rattle.channel.specs.declared.setting.Kind.TheVariants.{Buffered}
use Rattle.channel_law.specs.Story.{Story, facts_told}
use Rattle.channel_law.specs.Law.{InTurn}
use Rattle.frame.specs.declared.outcome.Outcome.{Outcome}
use Rattle.frame.specs.declared.outcome.Outcome.TheVariants.{NotWanted, Done, Refused}
use Rattle.rules.specs.declared.fault.Fault.{Fault}
use Rattle.rules.specs.declared.data.Access.{Access}
use Rattle.rules.specs.declared.data.Call.{Call}
use Rattle.rules.specs.declared.data.Answer.{Answer}
use Rattle.rules.specs.Questions.{channel_at}
use Rattle.rules.specs.Steps.{station, history}
use Rattle.rules.specs.Account.{Account, nothing, told, accesses, read_outcome, write_outcome, after_reads, note, tell}
use Rattle.rules.specs.Promise.{Every, bare_answer, due}
use Rattle.earlier_promise.specs.Channel.{reason}
use Rattle.earlier_promise.specs.Channel as channel

abbrev pub WholeIfAny : Option Story → Type 0
WholeIfAny None = Unit {0}
WholeIfAny (Some t) = channel.Whole t

abbrev pub failed : {X : Type 0} → Outcome X Fault → Bool
failed NotWanted = false
failed (Done v) = false
failed (Refused f) = true

abbrev pub RefusedIn : Access → (refused : Bool) → Option Story → Type 0
RefusedIn x b None = Unit {0}
RefusedIn x b (Some t) =
    t.window.kind ≡ Buffered → splits x.share ≡ false → InTurn (facts_told t) x.side x.direction (offset_in t.window x.address) →
    b ≡ reason t x.direction

abbrev pub RefusedAt : List (Option Story) → Access → (refused : Bool) → Option ℕ → Type 0
RefusedAt ts x b None = Unit {0}
RefusedAt ts x b (Some n) = RefusedIn x b (slice_index_or ts n None)

abbrev pub RefusedRightly : List (Option Story) → (refused : Bool) → List Access → Type 0
RefusedRightly ts b xs = Every (λ x. RefusedAt ts x b (channel_at (told ts) x.address)) xs

pub record Answered (N number : ℕ) (a : Account) (c : Call) (y : Answer) : Type 0 where
  pub as-asked : bare_answer y ≡ due N number a (after_reads N number a c y) c
  pub reads : RefusedRightly a.current (failed (read_outcome y)) (accesses number a c Read)
  pub writes : RefusedRightly (after_reads N number a c y) (failed (write_outcome y)) (accesses number a c Write)

abbrev pub EachAnswered : (size number : ℕ) → Account → List (Call × Answer) → Type 0
EachAnswered N number a [] = Unit {0}
EachAnswered N number a (e ∷ es) = Answered N number a e.0 e.1 × EachAnswered N number (note N number a e.0 e.1) es

pub record Promise (N number : ℕ) (h : List (Call × Answer)) : Type 0 where
  pub current : Every WholeIfAny (tell N number nothing h).current
  pub past : Every channel.Whole (tell N number nothing h).past
  pub refusals : EachAnswered N number nothing h

abbrev pub StationPromised : Type 0
StationPromised =
    (m : List ℕ) (number : ℕ) (cs : List Call) → length m ≤ 61440 → Promise (length m) number (history (station m number) cs)
