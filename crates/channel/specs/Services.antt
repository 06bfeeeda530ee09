-- A channel in service: its transactions, its buffers, its status octet. Assumes nothing.
use Rattle.std.specs.Prelude.{ℕ, ◌+◌, ◌*◌, max, Bool, true, false, cond, not, ◌&&◌, ◌||◌, ◌==◌, nat_le}
use Rattle.access.specs.declared.Side.{Side}
use Rattle.access.specs.declared.Side.TheVariants.{Master, Local}
use Rattle.channel.specs.declared.setting.Kind.{Kind}
use Rattle.channel.specs.declared.setting.Kind.TheVariants.{Buffered, Mailbox}
use Rattle.channel.specs.declared.setting.Window.{Window}
use Rattle.channel.specs.declared.facts.Facts.{Facts}
use Rattle.channel.specs.declared.service.Transaction.{Transaction}
use Rattle.channel.specs.declared.service.Transaction.TheVariants.{Idle, Open, Waiting}
use Rattle.channel.specs.declared.service.Buffer.{Buffer}
use Rattle.channel.specs.declared.service.Buffer.TheVariants.{First, Second, Third}
use Rattle.channel.specs.declared.service.Roles.{Roles}
use Rattle.channel.specs.declared.service.Shown.{Shown}
use Rattle.channel.specs.declared.service.Shown.TheVariants.{Nothing, Ready, Fetch}
use Rattle.channel.specs.declared.service.Service.{Service}
use Rattle.channel.specs.Facts.{is_master}
use Rattle.access.specs.Fields.{bit}
use Rattle.channel.specs.Windows.{place_in}

-- TRANSACTIONS. The octets that an open one has taken (0: none is open), has the running frame accessed it, has it closed it.
abbrev pub taken_by : Transaction → ℕ
taken_by Idle = 0
taken_by (Open n f) = n
taken_by Waiting = 0

abbrev pub touched_by : Transaction → Bool
touched_by Idle = false
touched_by (Open n f) = f
touched_by Waiting = true

abbrev pub closed_by : Transaction → Bool
closed_by Idle = false
closed_by (Open n f) = false
closed_by Waiting = true

-- the access at the window's last offset closes
abbrev pub closes : Window → ℕ → Bool
closes w k = nat_le w.length (k + 1)

-- one more access, at offset k, of this side's transaction
abbrev pub accessed : Side → Transaction → ℕ → (closing : Bool) → Transaction
accessed side x k false = Open (max (taken_by x) (k + 1)) (is_master side)
accessed side x k true = Waiting

-- a frame's end: an open one stays open
abbrev pub left : Transaction → Transaction
left Idle = Idle
left (Open n f) = Open n false
left Waiting = Idle

-- a dropped frame's end cancels what the frame accessed
abbrev pub cancelled : Transaction → Transaction
cancelled x = cond (touched_by x) Idle x

-- BUFFERS
abbrev pub number_of : Buffer → ℕ
number_of First = 0
number_of Second = 1
number_of Third = 2

abbrev pub present : Shown → Bool
present Nothing = false
present Ready = true
present Fetch = true

-- the roles once a reading opens: a fresh ready buffer becomes the fetch buffer
abbrev pub roles_opened : Shown → Roles → Roles
roles_opened Nothing r = r
roles_opened Ready r = record { store = r.store; ready = r.fetch; fetch = r.ready }
roles_opened Fetch r = r

abbrev pub shown_opened : Shown → Shown
shown_opened Nothing = Nothing
shown_opened Ready = Fetch
shown_opened Fetch = Fetch

-- a completed reading empties a mailbox
abbrev pub emptied : Kind → Shown → Shown
emptied Mailbox x = Nothing
emptied Buffered x = x

-- THE SERVICE, at an accepted enabling
abbrev pub begun : Window → Service
begun w =
    record {
      window = w;
      writing = Idle;
      reading = Idle;
      roles = record { store = First; ready = Second; fetch = Third };
      shown = Nothing;
      write_event = false;
      read_event = false;
    }

abbrev pub facts_of : Service → Facts
facts_of s =
    record {
      window = s.window;
      stored = taken_by s.writing;
      fetched = taken_by s.reading;
      closed = closed_by s.writing || closed_by s.reading;
      message = present s.shown;
    }

-- A completed writing exchanges store and ready, and the ready one is fresh.
abbrev pub writing_done : Service → Service
writing_done s =
    record {
      window = s.window;
      writing = Idle;
      reading = s.reading;
      roles = record { store = s.roles.ready; ready = s.roles.store; fetch = s.roles.fetch };
      shown = Ready;
      write_event = true;
      read_event = s.read_event;
    }

abbrev pub reading_done : Service → Service
reading_done s =
    record {
      window = s.window;
      writing = s.writing;
      reading = Idle;
      roles = s.roles;
      shown = emptied s.window.kind s.shown;
      write_event = s.write_event;
      read_event = true;
    }

abbrev pub writing_done_if : Bool → Service → Service
writing_done_if true s = writing_done s
writing_done_if false s = s

abbrev pub reading_done_if : Bool → Service → Service
reading_done_if true s = reading_done s
reading_done_if false s = s

-- the local side's transaction completes on closing, the master's waits
abbrev pub at_once : Side → (closing : Bool) → Bool
at_once Local c = c
at_once Master c = false

abbrev pub other_side : Side → Side
other_side Master = Local
other_side Local = Master

-- A store at offset k. An opening writing clears bit 1.
abbrev pub with_store : Service → ℕ → Service
with_store s k =
    record {
      window = s.window;
      writing = accessed s.window.stores s.writing k (closes s.window k);
      reading = s.reading;
      roles = s.roles;
      shown = s.shown;
      write_event = s.write_event;
      read_event = s.read_event && not (taken_by s.writing == 0);
    }

abbrev pub after_store : Service → ℕ → Service
after_store s k = writing_done_if (at_once s.window.stores (closes s.window k)) (with_store s k)

-- A fetch at offset k. An opening reading clears bit 0, and chooses the buffer; one that goes on stays with it.
abbrev pub opened_if : (opening : Bool) → Service → Service
opened_if true s =
    record {
      window = s.window;
      writing = s.writing;
      reading = s.reading;
      roles = roles_opened s.shown s.roles;
      shown = shown_opened s.shown;
      write_event = false;
      read_event = s.read_event;
    }
opened_if false s = s

abbrev pub opened : Service → Service
opened s = opened_if (taken_by s.reading == 0) s

abbrev pub with_fetch : Service → ℕ → Service
with_fetch s k =
    record {
      window = s.window;
      writing = s.writing;
      reading = accessed (other_side s.window.stores) s.reading k (closes s.window k);
      roles = s.roles;
      shown = s.shown;
      write_event = s.write_event;
      read_event = s.read_event;
    }

abbrev pub after_fetch : Service → ℕ → Service
after_fetch s k = reading_done_if (at_once (other_side s.window.stores) (closes s.window k)) (with_fetch (opened s) k)

-- the places in the memory that they concern
abbrev pub store_place : Service → ℕ → ℕ
store_place s k = place_in s.window (number_of s.roles.store) k

abbrev pub fetch_place : Service → ℕ → ℕ
fetch_place s k = place_in s.window (number_of (opened s).roles.fetch) k

-- A FRAME'S END. A kept one completes what waits; a dropped one cancels what its frame accessed.
abbrev pub frame_left : Service → Service
frame_left s =
    record {
      window = s.window;
      writing = left s.writing;
      reading = left s.reading;
      roles = s.roles;
      shown = s.shown;
      write_event = s.write_event;
      read_event = s.read_event;
    }

abbrev pub after_kept : Service → Service
after_kept s = frame_left (reading_done_if (closed_by s.reading) (writing_done_if (closed_by s.writing) s))

abbrev pub after_dropped : Service → Service
after_dropped s =
    record {
      window = s.window;
      writing = cancelled s.writing;
      reading = cancelled s.reading;
      roles = s.roles;
      shown = s.shown;
      write_event = s.write_event;
      read_event = s.read_event;
    }

-- THE STATUS OCTET: bits 0 and 1; bit 3, the mailbox is full; bits 5–4 number the buffer that the next reading shows, 3 if there is none yet.
abbrev pub shown_number : Roles → Shown → ℕ
shown_number r Nothing = 3
shown_number r Ready = number_of r.ready
shown_number r Fetch = number_of r.fetch

abbrev pub kind_bits : Kind → Service → ℕ
kind_bits Mailbox s = 8 * bit (present s.shown)
kind_bits Buffered s = 16 * shown_number s.roles s.shown

abbrev pub status_of : Service → ℕ
status_of s = bit s.write_event + 2 * bit s.read_event + kind_bits s.window.kind s
