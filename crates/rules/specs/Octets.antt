-- The accesses that a frame's next octet makes, and what becomes of the running frame. Assumes nothing.
use Rattle.std.specs.Prelude.{ℕ, Bool, true, false, cond, List, [], ◌∷◌, map, ◌==◌}
use Rattle.mapping.specs.declared.mapped.Access as mapped-access
use Rattle.mapping.specs.Mapping.{mapped_accesses}
use Rattle.frame.specs.Frames.{begun_frame, wanted_by, given}
use Rattle.rules.specs.Data.{Option, Some, None, Fault, Side, Master, Direction, Read, Write, Whole, Entity, Access, Addresses, Place, Physical, Logical, Wanted, Outcome, NotWanted, Done, Refused, Registers, Running}
use Rattle.rules.specs.Registers.{register_of, with_register}

-- one access of a whole octet
abbrev pub plain : Side → Direction → (address : ℕ) → Access
plain s d a = record { side = s; direction = d; address = a; mapped = false; share = Whole }

abbrev pub through_mapping : Direction → mapped-access.Access → Access
through_mapping d x = record { side = Master; direction = d; address = x.address; mapped = true; share = x.share }

abbrev pub accesses_at : List Entity → Direction → Place → List Access
accesses_at es d (Physical a) = plain Master d a ∷ []
accesses_at es d (Logical a) = map (through_mapping d) (mapped_accesses es d a)

abbrev pub wants : Wanted → Direction → Bool
wants w Read = w.read
wants w Write = w.write

abbrev pub accesses_for : List Entity → Direction → Option Wanted → List Access
accesses_for es d None = []
accesses_for es d (Some w) = cond (wants w d) (accesses_at es d w.place) []

-- the accesses of the frame's next octet in one direction
abbrev pub accesses_of : Registers → Running → Direction → List Access
accesses_of r f d = accesses_for r.entities d (wanted_by f.progress)

-- THE RUNNING FRAME: begun; given an octet with what came of its accesses. A register octet that was written waits for the frame's end.
abbrev pub begun_running : Registers → Running
begun_running r = record { progress = begun_frame; waiting = r }

abbrev pub waiting_after : Registers → List Access → (o : ℕ) → Outcome (Unit {0}) Fault → Registers
waiting_after r [] o w = r
waiting_after r (x ∷ xs) o NotWanted = r
waiting_after r (x ∷ xs) o (Done u) = with_register r (register_of x.address) o
waiting_after r (x ∷ xs) o (Refused f) = r

abbrev pub addresses_of : Registers → (alias : ℕ) → Addresses
addresses_of r alias = record { station = r.address; alias = alias }

abbrev pub given_running : Registers → (alias : ℕ) → Running → (o : ℕ) → Outcome ℕ Fault → Outcome (Unit {0}) Fault → Running
given_running r alias f o read write =
    record {
      progress = given f.progress o (addresses_of r alias) read write;
      waiting = waiting_after f.waiting (accesses_of r f Write) o write;
    }

-- the running frame, if one runs and the frame that is handed in carries the station's number
abbrev pub mine : (number given : ℕ) → Option Running → Option Running
mine number given None = None
mine number given (Some f) = cond (number == given) (Some f) None
