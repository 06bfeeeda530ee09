-- What holds between a service with the memory and its story: each part over no more than it speaks of. Assumes nothing.
use Rattle.std.proofs.Common.{◌≡◌, ℕ, ◌+◌, ◌<◌, ◌≤◌, Bool, true, false, cond, not, ltb, List, [], length, get_or, Some}
use Rattle.access.specs.declared.Side.{Side}
use Rattle.access.specs.declared.Side.TheVariants.{Master, Local}
use Rattle.channel.specs.declared.setting.Kind.{Kind}
use Rattle.channel.specs.declared.setting.Kind.TheVariants.{Buffered, Mailbox}
use Rattle.channel.specs.declared.setting.Window.{Window}
use Rattle.channel.specs.declared.service.Transaction.{Transaction}
use Rattle.channel.specs.declared.service.Transaction.TheVariants.{Idle, Open, Waiting}
use Rattle.channel.specs.declared.service.Buffer.{Buffer}
use Rattle.channel.specs.declared.service.Roles.{Roles}
use Rattle.channel.specs.declared.service.Shown.{Shown}
use Rattle.channel.specs.declared.service.Shown.TheVariants.{Nothing, Ready, Fetch}
use Rattle.channel.specs.declared.service.Service.{Service}
use Rattle.channel.specs.Windows.{place_in}
use Rattle.channel.specs.Services.{taken_by, touched_by, closed_by, number_of, present}
use Rattle.channel_law.specs.Story.{Accesses, Reading, Story, taken_in, none}
use Rattle.channel_law.specs.Law.{last, Shows, ShowsLatest, AllShow, seen, Fits}
use Rattle.channel_law.specs.Sound.{Apart}
use Rattle.channel_law.proofs.Messages.{nth}

-- the octets that a transaction, open or closed, has taken
abbrev pub extent : ℕ → Transaction → ℕ
extent L Idle = 0
extent L (Open n f) = n
extent L Waiting = L

-- a buffer holds a whole message
abbrev pub Holds : List ℕ → Window → Buffer → Accesses → Type 0
Holds m w b message = (j : ℕ) → j < w.length → last message j ≡ Some (get_or m (place_in w (number_of b) j) 0)

-- The writing that has taken n octets, e once it is closed, stands so far in the store buffer.
pub record WritingHeld (m : List ℕ) (w : Window) (b : Buffer) (n e : ℕ) (xs : Accesses) : Type 0 where
  pub within : n < w.length
  pub taken : taken_in xs ≡ e
  pub content : (j : ℕ) → j < e → last xs j ≡ Some (get_or m (place_in w (number_of b) j) 0)

-- The reading shows its writing, which stands in the fetch buffer while the reading is open.
pub record ReadingHeld (m : List ℕ) (w : Window) (b : Buffer) (n e : ℕ) (r : Reading) (ws : List Accesses) : Type 0 where
  pub within : n < w.length
  pub taken : taken_in r.fetched ≡ e
  pub accessed' : (j : ℕ) → j < e → (v : ℕ) × (last r.fetched j ≡ Some v)
  pub latest : ShowsLatest ws r.before r.fetched
  pub buffer : 0 < n → Holds m w b (nth ws r.before)

-- the latest completed writing stands where the next reading looks
abbrev pub ShownHeld : List ℕ → Window → Roles → Shown → List Accesses → Type 0
ShownHeld m w r Nothing ws = Unit {0}
ShownHeld m w r Ready ws = Holds m w r.ready (nth ws (length ws))
ShownHeld m w r Fetch ws = Holds m w r.fetch (nth ws (length ws))

-- A mailbox, full or not: the writing has taken e octets, the reading, which opened after so many writings, d.
pub record MailboxHeld (e d : ℕ) (full : Bool) (ws : List Accesses) (before : ℕ) (rs : List Accesses) : Type 0 where
  pub counts : length ws ≡ length rs + cond full 1 0
  pub quiet : full ≡ true → e ≡ 0
  pub busy : 0 < d → (full ≡ true) × (before ≡ length ws)
  pub in_order : (n : ℕ) → n < length rs → Shows (get_or ws n []) (get_or rs n [])

abbrev pub KindHeld : Kind → (e d : ℕ) → (message : Bool) → List Accesses → (before : ℕ) → List Accesses → Type 0
KindHeld Buffered e d message ws before rs = message ≡ not (none ws)
KindHeld Mailbox e d message ws before rs = MailboxHeld e d message ws before rs

pub record Parts (m : List ℕ) (s : Service) (t : Story) : Type 0 where
  pub fits : Fits (length m) s.window
  pub roles : Apart s.roles
  pub writing : WritingHeld m s.window s.roles.store (taken_by s.writing) (extent s.window.length s.writing) t.writing
  pub reading : ReadingHeld m s.window s.roles.fetch (taken_by s.reading) (extent s.window.length s.reading) t.reading t.written
  pub shown : ShownHeld m s.window s.roles s.shown t.written
  pub some : present s.shown ≡ true → 0 < length t.written
  pub over : AllShow t.written t.over
  pub kind : KindHeld s.window.kind (extent s.window.length s.writing) (extent s.window.length s.reading) (present s.shown) t.written t.reading.before t.read

-- The events are as told; a reading that the running frame has accessed has an octet.
pub record Events (s : Service) (t : Story) : Type 0 where
  pub by-now : seen t ≤ length t.written
  pub by-then : t.opened ≤ length t.read
  pub write-event : s.write_event ≡ ltb (seen t) (length t.written)
  pub read-event : s.read_event ≡ ltb t.opened (length t.read)
  pub some-octet : touched_by s.reading ≡ true → 0 < taken_in t.reading.fetched

pub record Both (m : List ℕ) (s : Service) (t : Story) : Type 0 where
  pub parts : Parts m s t
  pub events : Events s t

-- The master's transaction x is as told of the running frame; the local side's, y, neither accessed nor closed by it.
pub record FlagsOf (x y : Transaction) (u c : Bool) : Type 0 where
  pub touched : touched_by x ≡ u
  pub closed : closed_by x ≡ c
  pub local-touched : touched_by y ≡ false
  pub local-closed : closed_by y ≡ false

abbrev pub Flags : (stores : Side) → (writing reading : Transaction) → (touched closed : Bool) → Type 0
Flags Master x y u c = FlagsOf x y u c
Flags Local x y u c = FlagsOf y x u c

-- THE INVARIANT
pub record Held (m : List ℕ) (s : Service) (t : Story) : Type 0 where
  pub same : s.window ≡ t.window
  pub parts : Parts m s t
  pub events : Events s t
  pub flags : Flags s.window.stores s.writing s.reading t.touched t.closed
