-- What was promised of one channel: in a buffered one every reading shows the latest writing completed before it opened, in a mailbox the nth
-- completed reading shows the nth completed writing; and, of a buffered channel alone, whether an access in its turn is refused. Assumes nothing.
use Rattle.std.specs.Prelude.{◌≡◌, ℕ, Bool, true, false, ◌||◌, List, [], ◌∷◌, length}
use Rattle.access.specs.declared.Side.{Side}
use Rattle.access.specs.declared.Direction.{Direction}
use Rattle.access.specs.declared.Direction.TheVariants.{Read, Write}
use Rattle.channel.specs.declared.setting.Kind.{Kind}
use Rattle.channel.specs.declared.setting.Kind.TheVariants.{Buffered, Mailbox}
use Rattle.channel.specs.declared.setting.Window.{Window}
use Rattle.channel.specs.Services.{status_of}
use Rattle.channel_law.specs.Sound.{Sound}
use Rattle.channel_law.specs.Story.{Story, new_story, none, closed_writing, closed_reading, facts_told}
use Rattle.channel_law.specs.Runs.{Call, write, read, kept, dropped, elsewhere, Answer, done, got, refused, first, run, history, note, tell}
use Rattle.channel_law.specs.Law.{AllShow, InOrder, bare, due, InTurn, Status, Taken, Alone, Fits}

abbrev pub WholeOf : Kind → Story → Type 0
WholeOf Buffered t = AllShow t.written (t.reading ∷ t.over)
WholeOf Mailbox t = InOrder t

abbrev pub Whole : Story → Type 0
Whole t = WholeOf t.window.kind t

abbrev pub failed : Answer → Bool
failed done = false
failed (got v) = false
failed (refused r) = true

-- In a buffered channel, in its turn, a write is refused exactly when the running frame has closed a writing there; a read exactly when it has
-- closed a reading there or no writing is completed yet.
abbrev pub reason : Story → Direction → Bool
reason t Write = closed_writing t.window t
reason t Read = closed_reading t.window t || none t.written

abbrev pub RefusedRightly : Story → Side → Direction → ℕ → Answer → Type 0
RefusedRightly t side d k y = t.window.kind ≡ Buffered → InTurn (facts_told t) side d k → failed y ≡ reason t d

abbrev pub InWords : Story → Call → Answer → Type 0
InWords t (write side k v) y = RefusedRightly t side Write k y
InWords t (read side k) y = RefusedRightly t side Read k y
InWords t kept y = Unit {0}
InWords t dropped y = Unit {0}
InWords t (elsewhere p v) y = Unit {0}

pub record Answered (t : Story) (c : Call) (y : Answer) : Type 0 where
  pub as-asked : bare y ≡ due (facts_told t) c
  pub in_words : InWords t c y

abbrev pub EachAnswered : Story → List (Call × Answer) → Type 0
EachAnswered t [] = Unit {0}
EachAnswered t (e ∷ es) = Answered t e.0 e.1 × EachAnswered (note t e.0 e.1) es

pub record Promise (w : Window) (m : List ℕ) (cs : List Call) : Type 0 where
  pub whole : Whole (tell (new_story w) (history (first w m) cs))
  pub answered : EachAnswered (new_story w) (history (first w m) cs)
  pub writing-taken : Taken (tell (new_story w) (history (first w m) cs)).writing
  pub reading-taken : Taken (tell (new_story w) (history (first w m) cs)).reading.fetched
  pub status : Status (status_of (run (first w m) cs).service) (tell (new_story w) (history (first w m) cs))
  pub alone : Alone (run (first w m) cs)
  pub sound : Sound (run (first w m) cs).service

abbrev pub ChannelPromised : Type 0
ChannelPromised = (w : Window) (m : List ℕ) → Fits (length m) w → (cs : List Call) → Promise w m cs
