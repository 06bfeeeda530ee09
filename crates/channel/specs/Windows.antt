-- The window of a channel and its area in the memory. Assumes nothing.
use Rattle.std.specs.Prelude.{ℕ, ◌+◌, ◌-◌, ◌*◌, Bool, ◌&&◌, nat_le}
use Rattle.channel.specs.declared.setting.Kind.{Kind}
use Rattle.channel.specs.declared.setting.Kind.TheVariants.{Buffered, Mailbox}
use Rattle.channel.specs.declared.setting.Window.{Window}

-- The area: one buffer of L octets for a mailbox, three for a buffered channel.
abbrev pub size_of : Kind → (length : ℕ) → ℕ
size_of Mailbox L = L
size_of Buffered L = 3 * L

abbrev pub area_size : Window → ℕ
area_size w = size_of w.kind w.length

-- it lies in a memory of so many octets, whose place 0 has address 0x1000
abbrev pub in_memory : (size : ℕ) → Window → Bool
in_memory size w = nat_le 0x1000 w.start && nat_le (w.start - 0x1000 + area_size w) size

abbrev pub offset_in : Window → (address : ℕ) → ℕ
offset_in w a = a - w.start

-- Octet k of a buffer in the memory; a mailbox has buffer 0 alone.
abbrev pub buffer_in : Kind → ℕ → ℕ
buffer_in Mailbox b = 0
buffer_in Buffered b = b

abbrev pub place_in : Window → (buffer k : ℕ) → ℕ
place_in w b k = w.start - 0x1000 + buffer_in w.kind b * w.length + k
