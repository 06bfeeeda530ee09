-- Each position of a frame: what comes after it, what becomes of the datagram, what its octet asks for and leaves as.
use Rattle.std.specs.Prelude.{ℕ, ◌+◌, ◌/◌, ◌%◌, Bool, true, false, cond, ◌&&◌, Some, None, Option, ◌==◌, bit_or, nat_lt}
use Rattle.frame.specs.declared.command.Command.{Command}
use Rattle.frame.specs.declared.command.Command.TheVariants.{Other}
use Rattle.frame.specs.declared.command.Addresses.{Addresses}
use Rattle.frame.specs.declared.outcome.Outcome.{Outcome}
use Rattle.frame.specs.declared.datagram.Datagram.{Datagram}
use Rattle.frame.specs.declared.datagram.Wanted.{Wanted}
use Rattle.frame.specs.declared.cursor.Position.{Position}
use Rattle.frame.specs.declared.cursor.Position.TheVariants as at
use Rattle.frame.specs.declared.cursor.Cursor.{Cursor}
use Rattle.frame.specs.Commands.{command_of, addressing_of, forwards_next, ors}
use Rattle.frame.specs.Datagrams.{pair, fresh, judged, offset, measured, tallied, added, wanted_for}

abbrev pub to : Position → Datagram → Cursor
to p d = record { position = p; datagram = d }

abbrev pub begun : Cursor
begun = to at.HeaderLow (fresh Other)

-- data octet j of n, or the counter if there is none
abbrev pub data_from : (index length : ℕ) → Position
data_from j n = cond (nat_lt j n) (at.Data j) at.CounterLow

-- after a datagram: another, or padding
abbrev pub followed_by : (more : Bool) → Position
followed_by true = at.Command
followed_by false = at.Padding

-- an octet, or one more modulo 256
abbrev pub carried : Bool → ℕ → ℕ
carried true o = (o + 1) % 256
carried false o = o

-- what a data octet leaves as: itself with the fetched bits laid into it; for BRD and BRW that is ORed with what came
abbrev pub shown : Command → (o laid : ℕ) → ℕ
shown k o laid = cond (ors k) (bit_or o laid) laid

-- the position after this octet
abbrev pub next_at : Position → Datagram → (o : ℕ) → Position
next_at at.HeaderLow d o = at.HeaderHigh
next_at at.HeaderHigh d o = cond (o / 16 == 1) at.Command at.Passing
next_at at.Command d o = at.Index
next_at at.Index d o = at.AdpLow
next_at at.AdpLow d o = at.AdpHigh o
next_at (at.AdpHigh low) d o = at.AdoLow
next_at at.AdoLow d o = at.AdoHigh o
next_at (at.AdoHigh low) d o = at.LenLow
next_at at.LenLow d o = at.LenHigh o
next_at (at.LenHigh low) d o = at.IrqLow
next_at at.IrqLow d o = at.IrqHigh
next_at at.IrqHigh d o = data_from 0 d.length
next_at (at.Data j) d o = data_from (j + 1) d.length
next_at at.CounterLow d o = at.CounterHigh (nat_lt 255 (o + added d))
next_at (at.CounterHigh carry) d o = followed_by d.more
next_at at.Padding d o = at.Padding
next_at at.Passing d o = at.Passing

-- the datagram after this octet, of which came this
abbrev pub datagram_at : {F : Type 0} → Position → Datagram → (o : ℕ) → Addresses → Outcome ℕ F → Outcome (Unit {0}) F → Datagram
datagram_at at.HeaderLow d o a r w = d
datagram_at at.HeaderHigh d o a r w = d
datagram_at at.Command d o a r w = fresh (command_of o)
datagram_at at.Index d o a r w = d
datagram_at at.AdpLow d o a r w = d
datagram_at (at.AdpHigh low) d o a r w = judged d (pair low o) a
datagram_at at.AdoLow d o a r w = d
datagram_at (at.AdoHigh low) d o a r w = offset d (pair low o)
datagram_at at.LenLow d o a r w = d
datagram_at (at.LenHigh low) d o a r w = measured d low o
datagram_at at.IrqLow d o a r w = d
datagram_at at.IrqHigh d o a r w = d
datagram_at (at.Data j) d o a r w = tallied d r w
datagram_at at.CounterLow d o a r w = d
datagram_at (at.CounterHigh carry) d o a r w = d
datagram_at at.Padding d o a r w = d
datagram_at at.Passing d o a r w = d

-- what this octet leaves as, with `laid` for a data octet
abbrev pub leaves_at : Position → Datagram → (o laid : ℕ) → ℕ
leaves_at at.HeaderLow d o laid = o
leaves_at at.HeaderHigh d o laid = o
leaves_at at.Command d o laid = o
leaves_at at.Index d o laid = o
leaves_at at.AdpLow d o laid = carried (forwards_next (addressing_of d.command)) o
leaves_at (at.AdpHigh low) d o laid = carried (forwards_next (addressing_of d.command) && low == 255) o
leaves_at at.AdoLow d o laid = o
leaves_at (at.AdoHigh low) d o laid = o
leaves_at at.LenLow d o laid = o
leaves_at (at.LenHigh low) d o laid = o
leaves_at at.IrqLow d o laid = o
leaves_at at.IrqHigh d o laid = o
leaves_at (at.Data j) d o laid = shown d.command o laid
leaves_at at.CounterLow d o laid = (o + added d) % 256
leaves_at (at.CounterHigh carry) d o laid = carried carry o
leaves_at at.Padding d o laid = o
leaves_at at.Passing d o laid = o

-- what the next octet asks for
abbrev pub wanted_at : Position → Datagram → Option Wanted
wanted_at at.HeaderLow d = None
wanted_at at.HeaderHigh d = None
wanted_at at.Command d = None
wanted_at at.Index d = None
wanted_at at.AdpLow d = None
wanted_at (at.AdpHigh low) d = None
wanted_at at.AdoLow d = None
wanted_at (at.AdoHigh low) d = None
wanted_at at.LenLow d = None
wanted_at (at.LenHigh low) d = None
wanted_at at.IrqLow d = None
wanted_at at.IrqHigh d = None
wanted_at (at.Data j) d = Some (wanted_for d j)
wanted_at at.CounterLow d = None
wanted_at (at.CounterHigh carry) d = None
wanted_at at.Padding d = None
wanted_at at.Passing d = None

abbrev pub advanced : {F : Type 0} → Cursor → (o : ℕ) → Addresses → Outcome ℕ F → Outcome (Unit {0}) F → Cursor
advanced c o a r w = to (next_at c.position c.datagram o) (datagram_at c.position c.datagram o a r w)

abbrev pub leaves_of : Cursor → (o laid : ℕ) → ℕ
leaves_of c o laid = leaves_at c.position c.datagram o laid
