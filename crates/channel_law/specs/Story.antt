-- What the calls and their answers tell of one service of a channel: writings, readings and messages, with no buffer, no role and no place of
-- memory in it. Assumes nothing.
use Rattle.std.specs.Prelude.{ℕ, ◌+◌, max, Bool, true, false, cond, not, ◌&&◌, List, [], ◌∷◌, ◌++◌, length, ◌==◌, nat_lt}
use Rattle.access.specs.declared.Side.{Side}
use Rattle.access.specs.declared.Side.TheVariants.{Master, Local}
use Rattle.channel.specs.declared.setting.Kind.{Kind}
use Rattle.channel.specs.declared.setting.Kind.TheVariants.{Buffered, Mailbox}
use Rattle.channel.specs.declared.setting.Window.{Window}
use Rattle.channel.specs.declared.facts.Facts.{Facts}
use Rattle.channel.specs.Facts.{is_master}
use Rattle.channel.specs.Services.{other_side}

-- The accesses of one transaction, each an offset and its octet, the newest first. A transaction with none is not open.
abbrev pub Accesses : Type 0
Accesses = List (ℕ × ℕ)

-- a reading: how many writings were completed when it opened, and what was fetched in it
pub record Reading : Type 0 where
  pub before : ℕ
  pub fetched : Accesses

-- One service from its enabling on: the completed writings, oldest first, and the one that is open or waits; the readings that are over,
-- completed or cancelled, the latest first, and the one that is open or waits; the completed readings, oldest first; how many readings were
-- completed when the latest writing opened; has the running frame accessed the master's transaction that is open or waits, and has it closed it.
pub record Story : Type 0 where
  pub window : Window
  pub written : List Accesses
  pub writing : Accesses
  pub over : List Reading
  pub reading : Reading
  pub read : List Accesses
  pub opened : ℕ
  pub touched : Bool
  pub closed : Bool

abbrev pub no_reading : Reading
no_reading = record { before = 0; fetched = [] }

abbrev pub new_story : Window → Story
new_story w = record { window = w; written = []; writing = []; over = []; reading = no_reading; read = []; opened = 0; touched = false; closed = false }

-- FACTS. The octets taken: offsets below were each accessed.
abbrev pub taken_in : Accesses → ℕ
taken_in [] = 0
taken_in (x ∷ xs) = max (taken_in xs) (x.0 + 1)

abbrev pub none : {X : Type 0} → List X → Bool
none [] = true
none (x ∷ xs) = false

-- the running frame has closed a writing, a reading here
abbrev pub closed_writing : Window → Story → Bool
closed_writing w t = is_master w.stores && t.closed

abbrev pub closed_reading : Window → Story → Bool
closed_reading w t = is_master (other_side w.stores) && t.closed

-- there is a message to read: the mailbox is full, a writing has been completed
abbrev pub message_told : Kind → Story → Bool
message_told Mailbox t = nat_lt (length t.read) (length t.written)
message_told Buffered t = not (none t.written)

abbrev pub facts_in : Window → Story → Facts
facts_in w t =
    record {
      window = w;
      stored = cond (closed_writing w t) 0 (taken_in t.writing);
      fetched = cond (closed_reading w t) 0 (taken_in t.reading.fetched);
      closed = t.closed;
      message = message_told w.kind t;
    }

abbrev pub facts_told : Story → Facts
facts_told t = facts_in t.window t

-- A DONE ACCESS. A transaction opens with its first octet.
-- a count, from when the transaction opened on
abbrev pub before_this : (before now : ℕ) → Accesses → ℕ
before_this n now [] = now
before_this n now (x ∷ xs) = n

abbrev pub add_store : Story → (k v : ℕ) → Story
add_store t k v = record { window = t.window; written = t.written; writing = (k, v) ∷ t.writing; over = t.over; reading = t.reading; read = t.read; opened = before_this t.opened (length t.read) t.writing; touched = t.touched; closed = t.closed }

abbrev pub fetched_more : (now : ℕ) → Reading → (k v : ℕ) → Reading
fetched_more now r k v = record { before = before_this r.before now r.fetched; fetched = (k, v) ∷ r.fetched }

abbrev pub add_fetch : Story → (k v : ℕ) → Story
add_fetch t k v = record { window = t.window; written = t.written; writing = t.writing; over = t.over; reading = fetched_more (length t.written) t.reading k v; read = t.read; opened = t.opened; touched = t.touched; closed = t.closed }

-- what the running frame did, if the access is the master's
abbrev pub noted : Side → (closing : Bool) → Story → Story
noted Master c t = record { window = t.window; written = t.written; writing = t.writing; over = t.over; reading = t.reading; read = t.read; opened = t.opened; touched = true; closed = c }
noted Local c t = t

-- THE END of a writing and of a reading
abbrev pub writing_completed : Story → Story
writing_completed t = record { window = t.window; written = t.written ++ (t.writing ∷ []); writing = []; over = t.over; reading = t.reading; read = t.read; opened = t.opened; touched = t.touched; closed = t.closed }

abbrev pub writing_cancelled : Story → Story
writing_cancelled t = record { window = t.window; written = t.written; writing = []; over = t.over; reading = t.reading; read = t.read; opened = t.opened; touched = t.touched; closed = t.closed }

abbrev pub reading_completed : Story → Story
reading_completed t = record { window = t.window; written = t.written; writing = t.writing; over = t.reading ∷ t.over; reading = no_reading; read = t.read ++ (t.reading.fetched ∷ []); opened = t.opened; touched = t.touched; closed = t.closed }

abbrev pub reading_cancelled : Story → Story
reading_cancelled t = record { window = t.window; written = t.written; writing = t.writing; over = t.reading ∷ t.over; reading = no_reading; read = t.read; opened = t.opened; touched = t.touched; closed = t.closed }

abbrev pub when : Bool → (Story → Story) → Story → Story
when true f t = f t
when false f t = t

-- The access at the last offset closes. The local side's transaction completes then, the master's waits.
abbrev pub closing : Window → ℕ → Bool
closing w k = k + 1 == w.length

abbrev pub completing : Side → (closing : Bool) → Bool
completing Local c = c
completing Master c = false

abbrev pub stored_in : Window → (k v : ℕ) → Story → Story
stored_in w k v t = when (completing w.stores (closing w k)) writing_completed (noted w.stores (closing w k) (add_store t k v))

abbrev pub fetched_in : Window → (k v : ℕ) → Story → Story
fetched_in w k v t = when (completing (other_side w.stores) (closing w k)) reading_completed (noted (other_side w.stores) (closing w k) (add_fetch t k v))

abbrev pub stored_at : (k v : ℕ) → Story → Story
stored_at k v t = stored_in t.window k v t

abbrev pub fetched_at : (k v : ℕ) → Story → Story
fetched_at k v t = fetched_in t.window k v t

-- A FRAME'S END: a kept one completes the master's transaction if the frame closed it, a dropped one cancels it if the frame accessed it.
abbrev pub frame_over : Story → Story
frame_over t = record { window = t.window; written = t.written; writing = t.writing; over = t.over; reading = t.reading; read = t.read; opened = t.opened; touched = false; closed = false }

abbrev pub kept_in : (stores : Side) → Story → Story
kept_in Master t = frame_over (when t.closed writing_completed t)
kept_in Local t = frame_over (when t.closed reading_completed t)

abbrev pub dropped_in : (stores : Side) → Story → Story
dropped_in Master t = frame_over (when t.touched writing_cancelled t)
dropped_in Local t = frame_over (when t.touched reading_cancelled t)

abbrev pub kept_story : Story → Story
kept_story t = kept_in t.window.stores t

abbrev pub dropped_story : Story → Story
dropped_story t = dropped_in t.window.stores t
