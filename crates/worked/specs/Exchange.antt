-- Exchanges: calls of a station, each with the answer that comes, and the words in which the examples tell them. Assumes nothing.
use Rattle.std.specs.Prelude.{◌≡◌, ℕ, ◌+◌, ◌-◌, ◌*◌, ◌/◌, ◌%◌, List, [], ◌∷◌, ◌++◌, map, replicate, Some, None, Option, slice_index}
use Rattle.std.specs.Option.{option_map}
use Rattle.access.specs.Fields.{octets_of}
use Rattle.frame.specs.declared.outcome.Outcome.{Outcome}
use Rattle.frame.specs.declared.outcome.Outcome.TheVariants.{NotWanted, Done, Refused}
use Rattle.frame.specs.declared.progress.Verdict.TheVariants.{Good, Bad}
use Rattle.rules.specs.declared.fault.Fault.{Fault}
use Rattle.rules.specs.declared.data.Call.{Call}
use Rattle.rules.specs.declared.data.Call.TheVariants as call
use Rattle.rules.specs.declared.data.Answer.{Answer}
use Rattle.rules.specs.declared.data.Answer.TheVariants as answer
use Rattle.rules.specs.Faults.{number_of, address_of, channel_of}
use Rattle.rules.specs.Steps.{Station, station, runs, history}

-- A REFUSAL by its numbers: the reason's, the physical address (0 for frames and enablings) and the channel (255: none).
pub record Refusal : Type 0 where
  pub number : ℕ
  pub address : ℕ
  pub channel : ℕ

abbrev pub refusal : (number address channel : ℕ) → Refusal
refusal n a c = record { number = n; address = a; channel = c }

abbrev pub numbers : Fault → Refusal
numbers f = refusal (number_of f) (address_of f) (channel_of f)

-- AN ANSWER, its refusals by their numbers. `Forwarded`: the octet that leaves, and what came of the read and of the write; `Kept`: with the
-- enabling that was refused, if any; `No`: the call is refused.
pub data Heard : Type 0 where
  Begun : Heard
  Forwarded : ℕ → Outcome ℕ Refusal → Outcome (Unit {0}) Refusal → Heard
  Kept : Option Refusal → Heard
  Dropped : Refusal → Heard
  Got : ℕ → Heard
  Stored : Heard
  No : Refusal → Heard

abbrev pub outcome : {X : Type 0} → Outcome X Fault → Outcome X Refusal
outcome NotWanted = NotWanted
outcome (Done v) = Done v
outcome (Refused f) = Refused (numbers f)

abbrev pub heard : Answer → Heard
heard answer.Running = Begun
heard (answer.Forwards v r w) = Forwarded v (outcome r) (outcome w)
heard (answer.Kept e) = Kept (option_map numbers e)
heard (answer.Dropped f) = Dropped (numbers f)
heard (answer.Got v) = Got v
heard answer.Stored = Stored
heard (answer.Refused f) = No (numbers f)

-- AN EXCHANGE: calls in their order, each with its answer.
abbrev pub Exchange : Type 0
Exchange = List (Call × Heard)

abbrev pub calls : Exchange → List Call
calls x = map (λ e. e.0) x

-- a new station of number 1, over 1,024 octets of 0
abbrev pub new : Station
new = station (replicate 1024 0) 1

-- It takes place: a new station gives each of these calls just this answer.
abbrev pub TakesPlace : Exchange → Type 0
TakesPlace x = map (λ e. (e.0, heard e.1)) (history new (calls x)) ≡ x

-- after it, the memory has this octet at this address
abbrev pub Leaves : Exchange → (address octet : ℕ) → Type 0
Leaves x a v = slice_index (runs new (calls x)).octets (a - 0x1000) ≡ v

-- LOCAL CALLS: a read that gets an octet; one that is refused; a write that is done; reads of a channel's status and of its enable octet
abbrev pub reads : (address octet : ℕ) → Exchange
reads a v = (call.Read a, Got v) ∷ []

abbrev pub read_refused : (address number channel : ℕ) → Exchange
read_refused a n c = (call.Read a, No (refusal n a c)) ∷ []

abbrev pub writes : (address octet : ℕ) → Exchange
writes a v = (call.Write a v, Stored) ∷ []

abbrev pub status : (channel octet : ℕ) → Exchange
status n v = reads (0x0805 + 8 * n) v

abbrev pub enable : (channel octet : ℕ) → Exchange
enable n v = reads (0x0806 + 8 * n) v

-- ON THE WIRE: `a ⇒ b` comes as a and leaves as b.
abbrev pub Wire : Type 0
Wire = ℕ × ℕ

infix 60 ◌⇒◌
abbrev pub ◌⇒◌ : (comes leaves : ℕ) → Wire
a ⇒ b = (a, b)

-- one octet of the frame, with what is heard of its read and of its write
abbrev pub octet : Wire → Outcome ℕ Refusal → Outcome (Unit {0}) Refusal → Exchange
octet o r w = (call.Octet 1 o.0, Forwarded o.1 r w) ∷ []

-- with no access
abbrev pub passes : Wire → Exchange
passes o = octet o NotWanted NotWanted

-- written
abbrev pub stores : ℕ → Exchange
stores o = octet (o ⇒ o) NotWanted (Done tt)

-- read: the octet fetched leaves
abbrev pub fetches : Wire → Exchange
fetches o = octet o (Done o.1) NotWanted

-- read, then written
abbrev pub swaps : Wire → Exchange
swaps o = octet o (Done o.1) (Done tt)

-- read through a mapping: the bits fetched leave among those that came
abbrev pub lays : (fetched : ℕ) → Wire → Exchange
lays v o = octet o (Done v) NotWanted

abbrev pub stores_all : List ℕ → Exchange
stores_all [] = []
stores_all (o ∷ os) = stores o ++ stores_all os

-- a field of two octets, the low one first; `same`, one that leaves as it came
abbrev pub field : Wire → Exchange
field n = passes (n.0 % 256 ⇒ n.1 % 256) ++ passes (n.0 / 256 ⇒ n.1 / 256)

abbrev pub same : ℕ → Wire
same n = n ⇒ n

-- A DATAGRAM: command, index, ADP, ADO, LEN, IRQ, data octets, working counter. Between its data octets there may be local calls: LEN counts
-- the octets alone.
abbrev pub octets_of_call : Call → ℕ
octets_of_call call.Begin = 0
octets_of_call (call.Octet n o) = 1
octets_of_call (call.End n v) = 0
octets_of_call (call.Read a) = 0
octets_of_call (call.Write a o) = 0

abbrev pub length_of : Exchange → ℕ
length_of [] = 0
length_of (e ∷ es) = octets_of_call e.0 + length_of es

abbrev pub datagram : (command : ℕ) → (adp : Wire) → (ado : ℕ) → (octets : Exchange) → (counter : Wire) → Exchange
datagram c adp ado xs counter =
    passes (same c) ++ passes (same 0) ++ field adp ++ field (same ado) ++ field (same (length_of xs)) ++ field (same 0) ++ xs ++ field counter

-- by position
abbrev pub aprd : (adp : Wire) → (ado : ℕ) → (octets : Exchange) → (counter : Wire) → Exchange
aprd = datagram 1

abbrev pub apwr : (adp : Wire) → (ado : ℕ) → (octets : Exchange) → (counter : Wire) → Exchange
apwr = datagram 2

abbrev pub aprw : (adp : Wire) → (ado : ℕ) → (octets : Exchange) → (counter : Wire) → Exchange
aprw = datagram 3

-- by a logical address, which stands in the place of ADP and ADO
abbrev pub logical : (command address : ℕ) → (octets : Exchange) → (counter : Wire) → Exchange
logical c a = datagram c (same (a % 65536)) (a / 65536)

abbrev pub lrd : (address : ℕ) → (octets : Exchange) → (counter : Wire) → Exchange
lrd = logical 10

abbrev pub lwr : (address : ℕ) → (octets : Exchange) → (counter : Wire) → Exchange
lwr = logical 11

-- A FRAME of type 1: begin, its octets, end. It is kept; kept, and an enabling refused; dropped, by its verdict.
abbrev pub framed : Call × Heard → Exchange → Exchange
framed last x = (call.Begin, Begun) ∷ (passes (same 0x00) ++ passes (same 0x10) ++ x ++ (last ∷ []))

abbrev pub kept : Exchange → Exchange
kept x = framed (call.End 1 Good, Kept None) x

abbrev pub kept_but : Refusal → Exchange → Exchange
kept_but f x = framed (call.End 1 Good, Kept (Some f)) x

abbrev pub dropped : Exchange → Exchange
dropped x = framed (call.End 1 Bad, Dropped (refusal 18 0 255)) x

-- SETTING UP, by a frame with one APWR. Of an entity the octets 0 to 12, and it is active.
abbrev pub set_entity : (index logical length start-bit stop-bit physical physical-bit type : ℕ) → Exchange
set_entity n l k s t p b y =
    kept (apwr (0 ⇒ 1) (0x0600 + 16 * n) (stores_all (octets_of 4 l ++ octets_of 2 k ++ (s ∷ t ∷ []) ++ octets_of 2 p ++ (b ∷ y ∷ 1 ∷ []))) (0 ⇒ 1))

-- Of a channel the octets 0 to 6: start, length, control, status (without effect), enable. The enabling is accepted, and the enable octet reads
-- 1 then; or it is refused with a number, and the octet reads 0.
abbrev pub set_channel : (index start length control : ℕ) → Exchange
set_channel n s l c = apwr (0 ⇒ 1) (0x0800 + 8 * n) (stores_all (octets_of 2 s ++ octets_of 2 l ++ (c ∷ 0 ∷ 1 ∷ []))) (0 ⇒ 1)

abbrev pub accepted : (index start length control : ℕ) → Exchange
accepted n s l c = kept (set_channel n s l c) ++ enable n 1

abbrev pub denied : (number index start length control : ℕ) → Exchange
denied why n s l c = kept_but (refusal why 0 n) (set_channel n s l c) ++ enable n 0

-- control: buffered or mailbox, and the master fetches; buffered, and it stores
abbrev pub buffered : ℕ
buffered = 0x00

abbrev pub mailbox : ℕ
mailbox = 0x02

abbrev pub buffered_from_master : ℕ
buffered_from_master = 0x04
