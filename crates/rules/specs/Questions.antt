-- The questions before an access, in their order: the first no decides. Assumes nothing.
use Rattle.std.specs.Prelude.{ℕ, ◌-◌, Bool, true, false, cond, not, ◌&&◌, List, nat_le, nat_lt, slice_index_or}
use Rattle.memory.specs.Octets.{outside}
use Rattle.std.specs.List.{position_from}
use Rattle.cover.specs.Lowest.{covers}
use Rattle.bits.specs.Shares.{splits}
use Rattle.channel.specs.Areas.{first_of, last_of}
use Rattle.channel.specs.Windows.{offset_in}
use Rattle.channel.specs.Facts as channel
use Rattle.rules.specs.Data.{Option, Some, None, Result, Ok, Err, Fault, NoPlace, Refuses, NoRegister, NotWritable, InService, OfAccess, NotMappable, SplitOctet, Refusal, Direction, Read, Write, Access, Target, InRegister, InFree, InWindow, Facts, Register, Unlisted, Fixed, Address, Alias, OfEntity, OfChannel}
use Rattle.rules.specs.Registers.{register_of, listed, may_write}

abbrev pub is_write : Direction → Bool
is_write Read = false
is_write Write = true

-- WHERE. The channel in whose area an address lies, of what is known of each channel: nothing, of one that is out of service.
abbrev pub low_of : Option Facts → ℕ
low_of None = 1
low_of (Some f) = first_of f.window

abbrev pub high_of : Option Facts → ℕ
high_of None = 0
high_of (Some f) = last_of f.window

abbrev pub channel_at : List (Option Facts) → ℕ → Option ℕ
channel_at fs a = position_from (covers low_of high_of a) 0 fs

-- A REGISTER: is one listed there; for a write, may this side write it; for a channel's octets 0–4, is that channel out of service?
abbrev pub in_service : {X : Type 0} → Option X → Bool
in_service None = false
in_service (Some x) = true

abbrev pub setting_held : List (Option Facts) → Register → (a : ℕ) → Result Target Fault
setting_held fs Unlisted a = Ok (InRegister Unlisted)
setting_held fs (Fixed i) a = Ok (InRegister (Fixed i))
setting_held fs (Address i) a = Ok (InRegister (Address i))
setting_held fs (Alias i) a = Ok (InRegister (Alias i))
setting_held fs (OfEntity n i) a = Ok (InRegister (OfEntity n i))
setting_held fs (OfChannel n i) a =
    cond (nat_lt i 5 && in_service (slice_index_or fs n None)) (Err (Refuses InService a (Some n))) (Ok (InRegister (OfChannel n i)))

abbrev pub asked_register : List (Option Facts) → Access → Register → Result Target Fault
asked_register fs x p =
    cond (not (listed p)) (Err (Refuses NoRegister x.address None))
    (cond (not (is_write x.direction)) (Ok (InRegister p))
    (cond (not (may_write x.side p)) (Err (Refuses NotWritable x.address None))
    (setting_held fs p x.address)))

-- AN AREA: is the octet whole; then the channel's own questions
abbrev pub window_at : (n a : ℕ) → Result ℕ Refusal → Result Target Fault
window_at n a (Ok k) = Ok (InWindow n k)
window_at n a (Err r) = Err (Refuses (OfAccess r) a (Some n))

abbrev pub asked_channel : (n : ℕ) → Option Facts → Access → Result Target Fault
asked_channel n None x = Ok (InFree (x.address - 0x1000))
asked_channel n (Some f) x =
    cond (splits x.share) (Err (Refuses SplitOctet x.address (Some n)))
    (window_at n x.address (channel.asked f x.side x.direction (offset_in f.window x.address)))

abbrev pub asked_area : List (Option Facts) → Access → Option ℕ → Result Target Fault
asked_area fs x None = Ok (InFree (x.address - 0x1000))
asked_area fs x (Some n) = asked_channel n (slice_index_or fs n None) x

-- THE MEMORY: has it the place?
abbrev pub asked_memory : (size : ℕ) → List (Option Facts) → Access → Result Target Fault
asked_memory N fs x =
    cond (nat_lt (x.address - 0x1000) N) (asked_area fs x (channel_at fs x.address)) (Err (NoPlace (outside (x.address - 0x1000))))

-- ALL QUESTIONS before an access, of a memory of so many octets and what is known of the eight channels: what it reaches, or the refusal.
-- A mapped access is asked first whether its address is from 0x1000 to 0xFFFF.
abbrev pub mappable : ℕ → Bool
mappable a = nat_le 0x1000 a && nat_lt a 0x10000

abbrev pub asked : (size : ℕ) → List (Option Facts) → Access → Result Target Fault
asked N fs x =
    cond (x.mapped && not (mappable x.address)) (Err (Refuses NotMappable x.address None))
    (cond (nat_lt x.address 0x1000) (asked_register fs x (register_of x.address)) (asked_memory N fs x))
