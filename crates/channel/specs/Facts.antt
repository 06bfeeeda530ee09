-- The questions before an access to a channel's area, asked of what is known of the channel. Assumes nothing.
use Rattle.std.specs.Prelude.{ℕ, Bool, true, false, cond, not, ◌&&◌, Ok, Err, Result, ◌==◌, nat_le}
use Rattle.access.specs.declared.Side.{Side}
use Rattle.access.specs.declared.Side.TheVariants.{Master, Local}
use Rattle.access.specs.declared.Direction.{Direction}
use Rattle.access.specs.declared.Direction.TheVariants.{Read, Write}
use Rattle.channel.specs.declared.setting.Kind.{Kind}
use Rattle.channel.specs.declared.setting.Kind.TheVariants.{Buffered, Mailbox}
use Rattle.channel.specs.declared.setting.Window.{Window}
use Rattle.channel.specs.declared.facts.Facts.{Facts}
use Rattle.channel.specs.declared.facts.Refusal.{Refusal}
use Rattle.channel.specs.declared.facts.Refusal.TheVariants.{OutsideWindow, WrongSide, AlreadyClosed, OutOfTurn, MailboxFull, MailboxEmpty, NothingWritten}

abbrev pub is_master : Side → Bool
is_master Master = true
is_master Local = false

abbrev pub same_side : Side → Side → Bool
same_side Master b = is_master b
same_side Local b = not (is_master b)

-- one side writes, the other reads
abbrev pub right_way : Window → Side → Direction → Bool
right_way w side Write = same_side side w.stores
right_way w side Read = not (same_side side w.stores)

abbrev pub taken_of : Facts → Direction → ℕ
taken_of f Write = f.stored
taken_of f Read = f.fetched

-- An access at offset k that opens a transaction: storing, is the mailbox empty; fetching, is there a message.
abbrev pub opens : Kind → Direction → (message : Bool) → ℕ → Result ℕ Refusal
opens Mailbox Write m k = cond m (Err MailboxFull) (Ok k)
opens Mailbox Read m k = cond m (Ok k) (Err MailboxEmpty)
opens Buffered Write m k = Ok k
opens Buffered Read m k = cond m (Ok k) (Err NothingWritten)

abbrev pub turn : Facts → Direction → ℕ → Result ℕ Refusal
turn f d k =
    cond (not (nat_le k (taken_of f d))) (Err OutOfTurn)
    (cond (taken_of f d == 0) (opens f.window.kind d f.message k) (Ok k))

-- ALL QUESTIONS: in the window, the right side, nothing closed yet by the running frame, not ahead of its turn, and if none is open, may one open.
abbrev pub asked : Facts → Side → Direction → (offset : ℕ) → Result ℕ Refusal
asked f side d k =
    cond (nat_le f.window.length k) (Err OutsideWindow)
    (cond (not (right_way f.window side d)) (Err WrongSide)
    (cond (is_master side && f.closed) (Err AlreadyClosed) (turn f d k)))

abbrev pub refusal_number : Refusal → ℕ
refusal_number OutsideWindow = 5
refusal_number WrongSide = 6
refusal_number AlreadyClosed = 7
refusal_number OutOfTurn = 8
refusal_number MailboxFull = 9
refusal_number MailboxEmpty = 10
refusal_number NothingWritten = 11
