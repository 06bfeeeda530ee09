-- THE LAW OF WHOLE MESSAGES of one channel, over every run of one service. Assumes nothing.
use Rattle.std.specs.Prelude.{◌≡◌, ℕ, suc, ◌+◌, ◌-◌, ◌*◌, ◌<◌, ◌≤◌, Bool, true, false, cond, ◌⊎◌, List, [], ◌∷◌, length, Some, None, Option, ◌==◌, nat_lt, slice_index, slice_index_or}
use Rattle.access.specs.declared.Side.{Side}
use Rattle.access.specs.declared.Direction.{Direction}
use Rattle.access.specs.declared.Direction.TheVariants.{Read, Write}
use Rattle.channel.specs.declared.setting.Kind.{Kind}
use Rattle.channel.specs.declared.setting.Kind.TheVariants.{Buffered, Mailbox}
use Rattle.channel.specs.declared.setting.Window.{Window}
use Rattle.channel.specs.declared.facts.Facts.{Facts}
use Rattle.channel.specs.declared.facts.Refusal.{Refusal}
use Rattle.channel.specs.declared.facts.Refusal.TheVariants.{AlreadyClosed, MailboxFull, MailboxEmpty, NothingWritten}
use Rattle.channel.specs.Facts.{right_way, taken_of, asked}
use Rattle.channel.specs.Windows.{in_memory}
use Rattle.access.specs.Fields.{bit}
use Rattle.channel.specs.Services.{status_of}
use Rattle.channel_law.specs.Sound.{Sound}
use Rattle.channel_law.specs.Story.{Accesses, Reading, Story, new_story, taken_in, none, closed_writing, closed_reading, message_told, facts_told}
use Rattle.channel_law.specs.Runs.{Call, write, read, kept, dropped, elsewhere, Answer, done, got, refused, State, first, in_area, step, answer_to, run, history, note, tell}

-- MESSAGES. The octet last stored at an offset; a reading shows a message if each octet fetched in it is the message's there.
abbrev pub last : Accesses → ℕ → Option ℕ
last [] k = None
last (x ∷ xs) k = cond (x.0 == k) (Some x.1) (last xs k)

abbrev pub Shows : (message : Accesses) → (fetched : Accesses) → Type 0
Shows m [] = Unit {0}
Shows m (x ∷ xs) = (last m x.0 ≡ Some x.1) × Shows m xs

-- Every reading, completed or not, shows the latest writing completed before it opened, and there is one.
abbrev pub ShowsLatest : (written : List Accesses) → (before : ℕ) → (fetched : Accesses) → Type 0
ShowsLatest ws n [] = Unit {0}
ShowsLatest ws n (x ∷ xs) = (0 < n) × (n ≤ length ws) × Shows (slice_index_or ws (n - 1) []) (x ∷ xs)

abbrev pub AllShow : (written : List Accesses) → List Reading → Type 0
AllShow ws [] = Unit {0}
AllShow ws (r ∷ rs) = ShowsLatest ws r.before r.fetched × AllShow ws rs

-- A mailbox skips nothing: the nth completed reading shows the nth completed writing; completed writings are completed readings plus 0 or 1.
pub record InOrder (t : Story) : Type 0 where
  pub in_order : (n : ℕ) → n < length t.read → Shows (slice_index_or t.written n []) (slice_index_or t.read n [])
  pub none-lost : (length t.written ≡ length t.read) ⊎ (length t.written ≡ suc (length t.read))

abbrev pub InOrderOf : Kind → Story → Type 0
InOrderOf Buffered t = Unit {0}
InOrderOf Mailbox t = InOrder t

-- A transaction has taken m octets when the offsets 0 to m − 1 have each been accessed.
abbrev pub Taken : Accesses → Type 0
Taken xs = (j : ℕ) → j < taken_in xs → (v : ℕ) × (last xs j ≡ Some v)

pub record Whole (t : Story) : Type 0 where
  pub shows : AllShow t.written (t.reading ∷ t.over)
  pub order : InOrderOf t.window.kind t
  pub writing-taken : Taken t.writing
  pub reading-taken : Taken t.reading.fetched

-- REFUSALS. Every call is answered as the questions say, asked of what the calls before it tell; an octet fetched is left out, as 0.
abbrev pub bare : Answer → Answer
bare done = done
bare (got v) = got 0
bare (refused r) = refused r

abbrev pub due : Facts → Call → Answer
due f (write side k v) = answer_to done (asked f side Write k)
due f (read side k) = answer_to (got 0) (asked f side Read k)
due f kept = done
due f dropped = done
due f (elsewhere p v) = done

-- An access is in its turn if it lies in the window, its side may go this way, and it is not ahead.
pub record InTurn (f : Facts) (side : Side) (d : Direction) (k : ℕ) : Type 0 where
  pub in_window : k < f.window.length
  pub right_side : right_way f.window side d ≡ true
  pub not-ahead : k ≤ taken_of f d

-- the refusal that an answer is
abbrev pub refusal : Answer → Option Refusal
refusal done = None
refusal (got v) = None
refusal (refused r) = Some r

-- A full mailbox takes nothing; an empty one, and a buffered channel before its first completed writing, have nothing to give.
abbrev pub full : Kind → Story → Bool
full Buffered t = false
full Mailbox t = message_told Mailbox t

abbrev pub nothing_there : Kind → Refusal
nothing_there Mailbox = MailboxEmpty
nothing_there Buffered = NothingWritten

-- In its turn, a write is refused exactly when the running frame has closed a writing there (7) or the mailbox is full (9); a read exactly when it
-- has closed a reading there (7) or there is no message: the mailbox is empty (10), or no writing is completed yet (11).
abbrev pub reason : Story → Direction → Option Refusal
reason t Write = cond (closed_writing t.window t) (Some AlreadyClosed) (cond (full t.window.kind t) (Some MailboxFull) None)
reason t Read = cond (closed_reading t.window t) (Some AlreadyClosed) (cond (message_told t.window.kind t) None (Some (nothing_there t.window.kind)))

abbrev pub RefusedRightly : Story → Side → Direction → ℕ → Answer → Type 0
RefusedRightly t side d k y = InTurn (facts_told t) side d k → refusal y ≡ reason t d

abbrev pub InWords : Story → Call → Answer → Type 0
InWords t (write side k v) y = RefusedRightly t side Write k y
InWords t (read side k) y = RefusedRightly t side Read k y
InWords t kept y = Unit {0}
InWords t dropped y = Unit {0}
InWords t (elsewhere p v) y = Unit {0}

pub record Answered (t : Story) (c : Call) (y : Answer) : Type 0 where
  pub as-asked : bare y ≡ due (facts_told t) c
  pub in_words : InWords t c y

-- every call, against what the calls before it tell
abbrev pub EachAnswered : Story → List (Call × Answer) → Type 0
EachAnswered t [] = Unit {0}
EachAnswered t (e ∷ es) = Answered t e.0 e.1 × EachAnswered (note t e.0 e.1) es

-- STATUS. How many writings were completed when the latest reading opened, and the events: a writing has been completed since the latest
-- reading opened; a reading has been completed since the latest writing opened.
abbrev pub latest_over : List Reading → ℕ
latest_over [] = 0
latest_over (r ∷ rs) = r.before

abbrev pub seen_by : (before : ℕ) → Accesses → List Reading → ℕ
seen_by n [] rs = latest_over rs
seen_by n (x ∷ xs) rs = n

abbrev pub seen : Story → ℕ
seen t = seen_by t.reading.before t.reading.fetched t.over

abbrev pub events : Story → ℕ
events t = bit (nat_lt (seen t) (length t.written)) + 2 * bit (nat_lt t.opened (length t.read))

-- A mailbox tells besides whether it is full, a buffered channel the number of a buffer, 3 as long as no writing is completed.
abbrev pub StatusOf : Kind → (octet : ℕ) → Story → Type 0
StatusOf Mailbox o t = o ≡ events t + 8 * bit (message_told Mailbox t)
StatusOf Buffered o t = (n : ℕ) × ((o ≡ events t + 16 * n) × (n ≤ 3) × ((n == 3) ≡ none t.written))

abbrev pub Status : (octet : ℕ) → Story → Type 0
Status o t = StatusOf t.window.kind o t

-- A write to the area changes no octet outside it.
abbrev pub Alone : State → Type 0
Alone S = (side : Side) (k v p : ℕ) → in_area S.service.window p ≡ false → slice_index (step S (write side k v)).octets p ≡ slice_index S.octets p

-- an enabling is accepted only of such a window
pub record Fits (size : ℕ) (w : Window) : Type 0 where
  pub long : 2 ≤ w.length
  pub room : in_memory size w ≡ true

pub record Promise (w : Window) (m : List ℕ) (cs : List Call) : Type 0 where
  pub whole : Whole (tell (new_story w) (history (first w m) cs))
  pub answered : EachAnswered (new_story w) (history (first w m) cs)
  pub status : Status (status_of (run (first w m) cs).service) (tell (new_story w) (history (first w m) cs))
  pub alone : Alone (run (first w m) cs)
  pub sound : Sound (run (first w m) cs).service

-- THE LAW: for every window that fits, whatever octets the memory starts with and whatever calls are made.
abbrev pub MessagesAreWhole : Type 0
MessagesAreWhole = (w : Window) (m : List ℕ) → Fits (length m) w → (cs : List Call) → Promise w m cs
