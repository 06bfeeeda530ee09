-- The datagram as its octets come, what its data octets ask for, and what it adds to its counter.
use Rattle.std.specs.Prelude.{ℕ, ◌+◌, ◌*◌, ◌%◌, false, nat_le}
use Rattle.frame.specs.declared.command.Command.{Command}
use Rattle.frame.specs.declared.command.Addressing.{Addressing}
use Rattle.frame.specs.declared.command.Addressing.TheVariants.{ByPosition, ByAddress, Broadcast, ByMapping, Nobody}
use Rattle.frame.specs.declared.command.Addresses.{Addresses}
use Rattle.frame.specs.declared.outcome.Outcome.{Outcome}
use Rattle.frame.specs.declared.outcome.Tally.TheVariants.{Nothing}
use Rattle.frame.specs.declared.datagram.Datagram.{Datagram}
use Rattle.frame.specs.declared.datagram.Place.{Place}
use Rattle.frame.specs.declared.datagram.Place.TheVariants.{Physical, Logical}
use Rattle.frame.specs.declared.datagram.Wanted.{Wanted}
use Rattle.frame.specs.Commands.{addressing_of, action_of, is_addressed, shall_read, shall_write, write_worth}
use Rattle.frame.specs.Outcomes.{met, worth}

-- a number of 16 bits from its two octets
abbrev pub pair : (low high : ℕ) → ℕ
pair low high = low + 256 * high

-- at its command
abbrev pub fresh : Command → Datagram
fresh k = record { command = k; adp = 0; ado = 0; length = 0; more = false; addressed = false; read = Nothing; write = Nothing }

-- with ADP, judged
abbrev pub judged : Datagram → (adp : ℕ) → Addresses → Datagram
judged d adp a = record { command = d.command; adp = adp; ado = d.ado; length = d.length; more = d.more; addressed = is_addressed (addressing_of d.command) adp a; read = d.read; write = d.write }

-- with ADO
abbrev pub offset : Datagram → (ado : ℕ) → Datagram
offset d ado = record { command = d.command; adp = d.adp; ado = ado; length = d.length; more = d.more; addressed = d.addressed; read = d.read; write = d.write }

-- with the two octets that hold LEN in bits 0 to 10 and NEXT in bit 15
abbrev pub measured : Datagram → (low high : ℕ) → Datagram
measured d low high = record { command = d.command; adp = d.adp; ado = d.ado; length = pair low (high % 8); more = nat_le 128 high; addressed = d.addressed; read = d.read; write = d.write }

-- after a data octet
abbrev pub tallied : {F : Type 0} → Datagram → Outcome ℕ F → Outcome (Unit {0}) F → Datagram
tallied d r w = record { command = d.command; adp = d.adp; ado = d.ado; length = d.length; more = d.more; addressed = d.addressed; read = met d.read r; write = met d.write w }

-- what it adds to its counter
abbrev pub added : Datagram → ℕ
added d = worth d.read 1 + worth d.write (write_worth (action_of d.command))

-- data octet j concerns ADO + j, or the logical address + j
abbrev pub place_by : Addressing → (adp ado index : ℕ) → Place
place_by ByPosition adp ado j = Physical (ado + j)
place_by ByAddress adp ado j = Physical (ado + j)
place_by Broadcast adp ado j = Physical (ado + j)
place_by ByMapping adp ado j = Logical (adp + 65536 * ado + j)
place_by Nobody adp ado j = Physical (ado + j)

abbrev pub place_of : Datagram → (index : ℕ) → Place
place_of d j = place_by (addressing_of d.command) d.adp d.ado j

abbrev pub wanted_for : Datagram → (index : ℕ) → Wanted
wanted_for d j = record { place = place_of d j; read = shall_read (action_of d.command) d.addressed; write = shall_write (action_of d.command) d.addressed }
