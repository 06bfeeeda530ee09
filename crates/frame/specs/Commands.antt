-- What each command means.
use Rattle.std.specs.Prelude.{ℕ, Bool, true, false, cond, not, ◌||◌, ◌==◌}
use Rattle.frame.specs.declared.command.Command.{Command}
use Rattle.frame.specs.declared.command.Command.TheVariants.{Aprd, Apwr, Aprw, Fprd, Fpwr, Fprw, Brd, Bwr, Brw, Lrd, Lwr, Lrw, Armw, Frmw, Other}
use Rattle.frame.specs.declared.command.Addressing.{Addressing}
use Rattle.frame.specs.declared.command.Addressing.TheVariants.{ByPosition, ByAddress, Broadcast, ByMapping, Nobody}
use Rattle.frame.specs.declared.command.Action.{Action}
use Rattle.frame.specs.declared.command.Action.TheVariants.{Read, Write, ReadWrite, ReadOrWrite, Nothing}
use Rattle.frame.specs.declared.command.Addresses.{Addresses}

abbrev pub command_of : ℕ → Command
command_of o =
    cond (o == 1) Aprd
    (cond (o == 2) Apwr
    (cond (o == 3) Aprw
    (cond (o == 4) Fprd
    (cond (o == 5) Fpwr
    (cond (o == 6) Fprw
    (cond (o == 7) Brd
    (cond (o == 8) Bwr
    (cond (o == 9) Brw
    (cond (o == 10) Lrd
    (cond (o == 11) Lwr
    (cond (o == 12) Lrw
    (cond (o == 13) Armw
    (cond (o == 14) Frmw Other)))))))))))))

abbrev pub addressing_of : Command → Addressing
addressing_of Aprd = ByPosition
addressing_of Apwr = ByPosition
addressing_of Aprw = ByPosition
addressing_of Fprd = ByAddress
addressing_of Fpwr = ByAddress
addressing_of Fprw = ByAddress
addressing_of Brd = Broadcast
addressing_of Bwr = Broadcast
addressing_of Brw = Broadcast
addressing_of Lrd = ByMapping
addressing_of Lwr = ByMapping
addressing_of Lrw = ByMapping
addressing_of Armw = ByPosition
addressing_of Frmw = ByAddress
addressing_of Other = Nobody

abbrev pub action_of : Command → Action
action_of Aprd = Read
action_of Apwr = Write
action_of Aprw = ReadWrite
action_of Fprd = Read
action_of Fpwr = Write
action_of Fprw = ReadWrite
action_of Brd = Read
action_of Bwr = Write
action_of Brw = ReadWrite
action_of Lrd = Read
action_of Lwr = Write
action_of Lrw = ReadWrite
action_of Armw = ReadOrWrite
action_of Frmw = ReadOrWrite
action_of Other = Nothing

-- the commands whose fetched octet is ORed into the one that came
abbrev pub ors : Command → Bool
ors Aprd = false
ors Apwr = false
ors Aprw = false
ors Fprd = false
ors Fpwr = false
ors Fprw = false
ors Brd = true
ors Bwr = false
ors Brw = true
ors Lrd = false
ors Lwr = false
ors Lrw = false
ors Armw = false
ors Frmw = false
ors Other = false

-- does a datagram that came with this ADP address the station? (Of a logical one the mapping decides, octet by octet.)
abbrev pub is_addressed : Addressing → (adp : ℕ) → Addresses → Bool
is_addressed ByPosition adp a = adp == 0
is_addressed ByAddress adp a = adp == a.station || adp == a.alias
is_addressed Broadcast adp a = true
is_addressed ByMapping adp a = true
is_addressed Nobody adp a = false

-- does ADP leave as one more than it came?
abbrev pub forwards_next : Addressing → Bool
forwards_next ByPosition = true
forwards_next ByAddress = false
forwards_next Broadcast = true
forwards_next ByMapping = false
forwards_next Nobody = false

abbrev pub shall_read : Action → (addressed : Bool) → Bool
shall_read Read b = b
shall_read Write b = false
shall_read ReadWrite b = b
shall_read ReadOrWrite b = b
shall_read Nothing b = false

abbrev pub shall_write : Action → (addressed : Bool) → Bool
shall_write Read b = false
shall_write Write b = b
shall_write ReadWrite b = b
shall_write ReadOrWrite b = not b
shall_write Nothing b = false

-- what a write that succeeds adds to the working counter
abbrev pub write_worth : Action → ℕ
write_worth Read = 1
write_worth Write = 1
write_worth ReadWrite = 2
write_worth ReadOrWrite = 1
write_worth Nothing = 1
