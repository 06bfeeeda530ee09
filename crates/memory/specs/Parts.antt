-- Where a place of two joined memories lies, of n and of m octets. Assumes nothing.
use Rattle.std.specs.Prelude.{◌≡◌, ℕ, ◌+◌, ◌-◌, ◌<◌, ◌≤◌, min, Ok, Err, Result}
use Rattle.memory.specs.declared.fault.MemoryFault.{MemoryFault}
use Rattle.memory.specs.declared.joined.Part.{Part}
use Rattle.memory.specs.declared.joined.Part.TheVariants.{First, Second}
use Rattle.memory.specs.Octets.{outside}

abbrev pub Lies : (n m i : ℕ) → Result Part MemoryFault → Type 0
Lies n m i (Ok (First j)) = (j ≡ i) × (i < n) × (i < 61440)
Lies n m i (Ok (Second j)) = (j ≡ i - n) × (n ≤ i) × (i < n + m) × (i < 61440)
Lies n m i (Err f) = (f ≡ outside i) × (min (n + m) 61440 ≤ i)
