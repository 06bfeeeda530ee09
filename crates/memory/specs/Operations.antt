-- Lists of reads and writes on a memory, and what a read after them answers. Assumes nothing.
use Rattle.std.specs.Prelude.{ℕ, cond, List, [], ◌∷◌, length, Ok, Err, Result, ◌==◌, nat_lt, slice_index, slice_set}
use Rattle.memory.specs.declared.fault.MemoryFault.{MemoryFault}
use Rattle.memory.specs.declared.operation.Operation.{Operation}
use Rattle.memory.specs.declared.operation.Operation.TheVariants.{Read, Write}
use Rattle.memory.specs.Octets.{outside}

-- the list after one operation, and after a list of them
abbrev pub performed : List ℕ → Operation → List ℕ
performed xs (Read i) = xs
performed xs (Write i v) = slice_set xs i v

abbrev pub performed_all : List ℕ → List Operation → List ℕ
performed_all xs [] = xs
performed_all xs (o ∷ os) = performed_all (performed xs o) os

-- THE LAW, of the operations alone: what the last write at a place stored, or what stood there at first
abbrev pub latest_stored : (first : ℕ) → List Operation → (place : ℕ) → ℕ
latest_stored x [] i = x
latest_stored x (Read j ∷ os) i = latest_stored x os i
latest_stored x (Write j v ∷ os) i = latest_stored (cond (j == i) v x) os i

-- what a read of a place answers after the operations, on a memory that held the octets xs before them
abbrev pub read_after : List ℕ → List Operation → (place : ℕ) → Result ℕ MemoryFault
read_after xs os i = cond (nat_lt i (length xs)) (Ok (latest_stored (slice_index xs i) os i)) (Err (outside i))
