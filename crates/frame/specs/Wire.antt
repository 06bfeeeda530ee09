-- Frames on the wire, told by their fields. With each octet stands what the machine was told of it: the station's addresses then, and what
-- came of its accesses. Any may be told of any octet.
use Rattle.std.specs.Prelude.{ℕ, ◌+◌, ◌*◌, ◌/◌, ◌%◌, ◌<◌, Bool, true, false, cond, not, ◌&&◌, List, [], ◌∷◌, ◌++◌, map, length, fold}
use Rattle.std.specs.List.{list_any}
use Rattle.frame.specs.declared.command.Addresses.{Addresses}
use Rattle.frame.specs.declared.outcome.Outcome.{Outcome}
use Rattle.frame.specs.declared.outcome.Outcome.TheVariants.{NotWanted, Done, Refused}
use Rattle.frame.specs.declared.outcome.Accessed.{Accessed}
use Rattle.frame.specs.declared.datagram.Wanted.{Wanted}
use Rattle.frame.specs.declared.cursor.Cursor.{Cursor}
use Rattle.frame.specs.declared.progress.Progress.{Progress}
use Rattle.frame.specs.Commands.{command_of, addressing_of, action_of, is_addressed, forwards_next, shall_read, shall_write, write_worth}
use Rattle.frame.specs.Datagrams.{place_by}
use Rattle.frame.specs.Cursors.{advanced, leaves_of, shown}
use Rattle.frame.specs.Frames.{given, answered, or_unchanged}
use Rattle.frame.specs.Runs.{emitted}

pub record Told (F : Type 0) : Type 0 where
  pub addresses : Addresses
  pub accessed : Accessed F

abbrev pub Item : Type 0 → Type 0
Item F = ℕ × Told F

abbrev pub octets : {F : Type 0} → List (Item F) → List ℕ
octets xs = map (λ x. x.0) xs

-- THE MACHINE over a list of octets: where the cursor comes to, and what leaves
abbrev pub next : {F : Type 0} → Cursor → Item F → Cursor
next c x = advanced c x.0 x.1.addresses x.1.accessed.read x.1.accessed.write

abbrev pub out : {F : Type 0} → Cursor → Item F → ℕ
out c x = leaves_of c x.0 x.1.accessed.laid

abbrev pub after : {F : Type 0} → Cursor → List (Item F) → Cursor
after c xs = fold next c xs

abbrev pub leaving : {F : Type 0} → Cursor → List (Item F) → List ℕ
leaving c xs = emitted next out c xs

-- the running frame over it: a refused octet is forwarded as it came
abbrev pub next_frame : {F : Type 0} → Progress → Item F → Progress
next_frame f x = given f x.0 x.1.addresses x.1.accessed.read x.1.accessed.write

abbrev pub out_frame : {F : Type 0} → Progress → Item F → ℕ
out_frame f x = or_unchanged x.0 (answered f x.0 x.1.accessed.laid)

abbrev pub fed : {F : Type 0} → Progress → List (Item F) → Progress
fed f xs = fold next_frame f xs

abbrev pub forwarded : {F : Type 0} → Progress → List (Item F) → List ℕ
forwarded f xs = emitted next_frame out_frame f xs

-- A DATAGRAM by its fields. LEN is the number of its data octets. `spare` are the bits between LEN and NEXT, `beside k` is what is told of
-- the octets before and after the data.
pub record Telegram (F : Type 0) : Type 0 where
  pub command : ℕ
  pub index : ℕ
  pub adp : ℕ
  pub ado : ℕ
  pub spare : ℕ
  pub irq : ℕ
  pub items : List (Item F)
  pub counter : ℕ
  pub beside : ℕ → Told F

-- the fields that are judged and counted with fit their bits
pub record Formed {F : Type 0} (t : Telegram F) : Type 0 where
  pub adp-fits : t.adp < 65536
  pub spare-fits : t.spare < 16
  pub length-fits : length t.items < 2048
  pub counter-fits : t.counter < 65536

abbrev pub AllFormed : {F : Type 0} → List (Telegram F) → Type 0
AllFormed [] = Unit {0}
AllFormed (t ∷ ts) = Formed t × AllFormed ts

-- its octets; `more` is NEXT
abbrev pub head : {F : Type 0} → (more : Bool) → Telegram F → List (Item F)
head more t =
    (t.command, t.beside 0)
    ∷ (t.index, t.beside 1)
    ∷ (t.adp % 256, t.beside 2)
    ∷ (t.adp / 256, t.beside 3)
    ∷ (t.ado % 256, t.beside 4)
    ∷ (t.ado / 256, t.beside 5)
    ∷ (length t.items % 256, t.beside 6)
    ∷ (length t.items / 256 + 8 * t.spare + cond more 128 0, t.beside 7)
    ∷ (t.irq % 256, t.beside 8)
    ∷ (t.irq / 256, t.beside 9)
    ∷ []

abbrev pub foot : {F : Type 0} → Telegram F → List (Item F)
foot t = (t.counter % 256, t.beside 10) ∷ (t.counter / 256, t.beside 11) ∷ []

abbrev pub wire : {F : Type 0} → (more : Bool) → Telegram F → List (Item F)
wire more t = head more t ++ (t.items ++ foot t)

-- WHAT IT ASKS FOR: the station is addressed by ADP and the addresses that hold as ADP's second octet arrives
abbrev pub reaches : {F : Type 0} → Telegram F → Bool
reaches t = is_addressed (addressing_of (command_of t.command)) t.adp (t.beside 3).addresses

-- data octet j asks for the place ADO + j, or the logical address + j
abbrev pub asks : {F : Type 0} → Telegram F → (index : ℕ) → Wanted
asks t j =
    record {
      place = place_by (addressing_of (command_of t.command)) t.adp t.ado j;
      read = shall_read (action_of (command_of t.command)) (reaches t);
      write = shall_write (action_of (command_of t.command)) (reaches t);
    }

-- WHAT IT EARNS: a direction succeeds if it concerned at least one octet and none was refused
abbrev pub concerned : {X F : Type 0} → Outcome X F → Bool
concerned NotWanted = false
concerned (Done v) = true
concerned (Refused f) = true

abbrev pub refused : {X F : Type 0} → Outcome X F → Bool
refused NotWanted = false
refused (Done v) = false
refused (Refused f) = true

abbrev pub succeeds : {X F : Type 0} → List (Outcome X F) → Bool
succeeds xs = list_any concerned xs && not (list_any refused xs)

abbrev pub gained : {F : Type 0} → Telegram F → ℕ
gained t =
    cond (succeeds (map (λ x. x.1.accessed.read) t.items)) 1 0 + cond (succeeds (map (λ x. x.1.accessed.write) t.items)) (write_worth (action_of (command_of t.command))) 0

-- AS IT LEAVES: ADP + 1 by some commands, the data octets as they are shown, the counter with what was gained, all else as it came
abbrev pub passed : {F : Type 0} → Telegram F → Telegram F
passed t =
    record {
      command = t.command;
      index = t.index;
      adp = cond (forwards_next (addressing_of (command_of t.command))) ((t.adp + 1) % 65536) t.adp;
      ado = t.ado;
      spare = t.spare;
      irq = t.irq;
      items = map (λ x. (shown (command_of t.command) x.0 x.1.accessed.laid, x.1)) t.items;
      counter = (t.counter + gained t) % 65536;
      beside = t.beside;
    }

-- A FRAME: two octets with the type in the upper half of the second, datagrams of which each but the last has NEXT 1, padding
abbrev pub chain : {F : Type 0} → Telegram F → List (Telegram F) → List (Item F)
chain t [] = wire false t
chain t (u ∷ us) = wire true t ++ chain u us

abbrev pub framed : {F : Type 0} → (low high : Item F) → Telegram F → List (Telegram F) → List (Item F)
framed low high t ts = low ∷ high ∷ chain t ts
