-- THE PROMISE about messages, of a station with a memory of so many octets and its number, over any history of calls and answers.
-- It is told in writings, readings and messages alone, by the account of the history. Assumes nothing.
use Rattle.std.specs.Prelude.{◌≡◌, ℕ, ◌≤◌, false, List, [], ◌∷◌, length, slice_index_or}
use Rattle.bits.specs.Shares.{splits}
use Rattle.std.specs.Option.{option_map}
use Rattle.channel.specs.Windows.{offset_in}
use Rattle.channel.specs.Facts.{refusal_number}
use Rattle.channel_law.specs.Story.{Story, facts_told}
use Rattle.channel_law.specs.Law.{InTurn, reason}
use Rattle.channel_law.specs.Law as law
use Rattle.frame.specs.Frames.{answered, kept}
use Rattle.frame.specs.declared.progress.Reason.{Reason}
use Rattle.rules.specs.Data.{Option, Some, None, Result, Ok, Err, Fault, Refuses, FrameRuns, OfFrame, Local, Read, Write, Facts, Refusal, Access, Target, Running, Verdict, Outcome, NotWanted, Done, Refused, Call, Begin, Octet, End, ReadAt, WriteAt, Answer, Runs, Forwards, Kept, Dropped, Got, Stored, Refuse}
use Rattle.rules.specs.Faults.{Notice, notice}
use Rattle.rules.specs.Questions.{channel_at, asked}
use Rattle.rules.specs.Octets.{plain, mine}
use Rattle.rules.specs.Steps.{station, history, no_such_frame, octet_answer, also_done, also_refused}
use Rattle.rules.specs.Account.{Account, nothing, told, accesses, read_outcome, write_outcome, after_reads, kept_stories, note, tell}

-- MESSAGES. Every service, the current ones and those that ended, reads its messages whole. (Every reading, completed or not, shows the latest
-- writing completed before it opened, and there is one; in a mailbox besides the nth completed reading shows the nth completed writing, and
-- completed writings are completed readings plus 0 or 1.)
abbrev pub Every : {X : Type 0} → (X → Type 0) → List X → Type 0
Every P [] = Unit {0}
Every P (x ∷ xs) = P x × Every P xs

abbrev pub WholeIfAny : Option Story → Type 0
WholeIfAny None = Unit {0}
WholeIfAny (Some t) = law.Whole t

-- REFUSALS. The answer that the questions give, asked of what the calls before it tell; an octet fetched or forwarded is left out, as 0. Of an
-- octet's accesses in one direction the first refusal stands. The writes are asked once the reads are told.
abbrev pub also_asked : {X : Type 0} → X → Outcome X Fault → Result Target Fault → Outcome X Fault
also_asked v t (Ok x) = also_done t v
also_asked v t (Err f) = also_refused t f

abbrev pub asked_all : {X : Type 0} → (size : ℕ) → List (Option Facts) → X → Outcome X Fault → List Access → Outcome X Fault
asked_all N fs v t [] = t
asked_all N fs v t (x ∷ xs) = asked_all N fs v (also_asked v t (asked N fs x)) xs

abbrev pub bare : Outcome ℕ Fault → Outcome ℕ Fault
bare NotWanted = NotWanted
bare (Done v) = Done 0
bare (Refused f) = Refused f

abbrev pub bare_answer : Answer → Answer
bare_answer Runs = Runs
bare_answer (Forwards v r w) = Forwards 0 (bare r) w
bare_answer (Kept e) = Kept e
bare_answer (Dropped f) = Dropped f
bare_answer (Got v) = Got 0
bare_answer Stored = Stored
bare_answer (Refuse f) = Refuse f

abbrev pub due_begin : Option Running → Answer
due_begin None = Runs
due_begin (Some f) = Refuse (Refuses FrameRuns 0 None)

abbrev pub due_octet : (o : ℕ) → (read : Outcome ℕ Fault) → (write : Outcome (Unit {0}) Fault) → Option Running → Answer
due_octet o r w None = no_such_frame
due_octet o r w (Some f) = bare_answer (octet_answer r w (answered f.progress o 0))

abbrev pub due_verdict : (enabling : Option Fault) → Result (Unit {0}) Reason → Answer
due_verdict e (Ok u) = Kept e
due_verdict e (Err why) = Dropped (Refuses (OfFrame why) 0 None)

abbrev pub due_end : (size : ℕ) → List (Option Story) → Verdict → Option Running → Answer
due_end N ts v None = no_such_frame
due_end N ts v (Some f) = due_verdict (kept_stories N f.waiting ts).denied (kept f.progress v)

abbrev pub due_local : Answer → Result Target Fault → Answer
due_local y (Ok x) = y
due_local y (Err f) = Refuse f

abbrev pub due : (size number : ℕ) → Account → (after_reads : List (Option Story)) → Call → Answer
due N number a ts Begin = due_begin a.running
due N number a ts (Octet n o) =
    due_octet o (asked_all N (told a.current) 0 NotWanted (accesses number a (Octet n o) Read)) (asked_all N (told ts) tt NotWanted (accesses number a (Octet n o) Write))
    (mine number n a.running)
due N number a ts (End n v) = due_end N a.current v (mine number n a.running)
due N number a ts (ReadAt p) = due_local (Got 0) (asked N (told a.current) (plain Local Read p))
due N number a ts (WriteAt p o) = due_local Stored (asked N (told ts) (plain Local Write p))

-- IN WORDS. An access in its turn is refused: a write, exactly when the running frame has closed a writing there (7) or the mailbox is full (9); a
-- read, exactly when it has closed a reading there (7) or there is no message, since the mailbox is empty (10) or no writing is completed yet (11).
-- The refusal names the address of the access and the channel. An access to an area is in its turn if none of the questions for a split octet,
-- the window, the side and the order, each asked by itself, would refuse it.
abbrev pub refusal : {X : Type 0} → Outcome X Fault → Option Notice
refusal NotWanted = None
refusal (Done v) = None
refusal (Refused f) = Some (notice f)

abbrev pub turned_away : (address channel : ℕ) → Refusal → Notice
turned_away a n r = record { number = refusal_number r; address = a; channel = n }

abbrev pub RefusedIn : Access → (channel : ℕ) → (refused : Option Notice) → Option Story → Type 0
RefusedIn x n r None = Unit {0}
RefusedIn x n r (Some t) =
    splits x.share ≡ false → InTurn (facts_told t) x.side x.direction (offset_in t.window x.address) → r ≡ option_map (turned_away x.address n) (reason t x.direction)

abbrev pub RefusedAt : List (Option Story) → Access → (refused : Option Notice) → Option ℕ → Type 0
RefusedAt ts x r None = Unit {0}
RefusedAt ts x r (Some n) = RefusedIn x n r (slice_index_or ts n None)

abbrev pub RefusedRightly : List (Option Story) → (refused : Option Notice) → List Access → Type 0
RefusedRightly ts r xs = Every (λ x. RefusedAt ts x r (channel_at (told ts) x.address)) xs

-- one call, against the account of the calls before it
pub record Answered (N number : ℕ) (a : Account) (c : Call) (y : Answer) : Type 0 where
  pub as-asked : bare_answer y ≡ due N number a (after_reads N number a c y) c
  pub reads : RefusedRightly a.current (refusal (read_outcome y)) (accesses number a c Read)
  pub writes : RefusedRightly (after_reads N number a c y) (refusal (write_outcome y)) (accesses number a c Write)

abbrev pub EachAnswered : (size number : ℕ) → Account → List (Call × Answer) → Type 0
EachAnswered N number a [] = Unit {0}
EachAnswered N number a (e ∷ es) = Answered N number a e.0 e.1 × EachAnswered N number (note N number a e.0 e.1) es

-- THE PROMISE
pub record Promise (N number : ℕ) (h : List (Call × Answer)) : Type 0 where
  pub current : Every WholeIfAny (tell N number nothing h).current
  pub past : Every law.Whole (tell N number nothing h).past
  pub refusals : EachAnswered N number nothing h

-- Whatever octets the memory starts with and whatever calls are made, in frames of any number.
abbrev pub MessagesAreWhole : Type 0
MessagesAreWhole =
    (m : List ℕ) (number : ℕ) (cs : List Call) → length m ≤ 61440 → Promise (length m) number (history (station m number) cs)
