-- The accesses of an octet as the code holds them, and the running frame after them. Assumes nothing.
use Rattle.std.specs.Prelude.{ℕ, List, [], ◌∷◌, map, Some, None, Option}
use Rattle.access.specs.declared.Side.TheVariants.{Master}
use Rattle.access.specs.declared.Direction.{Direction}
use Rattle.frame.specs.Frames.{given}
use Rattle.frame.specs.declared.command.Addresses.{Addresses}
use Rattle.frame.specs.declared.outcome.Outcome.{Outcome}
use Rattle.rules.specs.declared.fault.Fault.{Fault}
use Rattle.rules.specs.declared.data.Running.{Running}
use Rattle.rules.specs.declared.data.Access.{Access}
use Rattle.rules.specs.Octets.{plain, through_mapping, waiting_after}
use Rattle.core_steps.specs.declared.octets.OctetAccesses.{OctetAccesses}
use Rattle.core_steps.specs.declared.octets.OctetAccesses.TheVariants.{Nothing, One, Mapped}

abbrev pub accesses_in : Direction → OctetAccesses → List Access
accesses_in d Nothing = []
accesses_in d (One a) = plain Master d a ∷ []
accesses_in d (Mapped x) = map (through_mapping d) x.items

abbrev pub first_address : List Access → Option ℕ
first_address [] = None
first_address (x ∷ xs) = Some x.address

-- the running frame after an octet
abbrev pub stepped_running : Running → (o : ℕ) → Addresses → List Access → Outcome ℕ Fault → Outcome (Unit {0}) Fault → Running
stepped_running f o a xs read write = record { progress = given f.progress o a read write; waiting = waiting_after f.waiting xs o write }
