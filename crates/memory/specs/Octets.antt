-- What a memory answers, by the list of its octets. Assumes nothing.
use Rattle.std.specs.Prelude.{◌≡◌, ℕ, ◌<◌, ◌≤◌, cond, List, length, Ok, Err, Result, nat_lt, slice_index}
use Rattle.memory.specs.declared.fault.MemoryFault.{MemoryFault}

-- the refusal that names a place, its number and its place
abbrev pub outside : ℕ → MemoryFault
outside i = record { place = i }

abbrev pub number_of : MemoryFault → ℕ
number_of f = 4

abbrev pub place_of : MemoryFault → ℕ
place_of f = f.place

-- whether a memory of n octets has a place
abbrev pub Within : (n i : ℕ) → Result Unit MemoryFault → Type 0
Within n i (Ok u) = i < n
Within n i (Err f) = (f ≡ outside i) × (n ≤ i)

-- what a read answers: the octet at a place that the memory has
abbrev pub read_of : List ℕ → ℕ → Result ℕ MemoryFault
read_of xs i = cond (nat_lt i (length xs)) (Ok (slice_index xs i)) (Err (outside i))

-- what a write answers
abbrev pub write_of : List ℕ → ℕ → Result Unit MemoryFault
write_of xs i = cond (nat_lt i (length xs)) (Ok tt) (Err (outside i))
