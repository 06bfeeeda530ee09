-- The five calls: what each makes of the core and of the memory's octets, and what it answers. Assumes nothing.
use Rattle.std.specs.Prelude.{ℕ, ◌-◌, ◌/◌, List, [], ◌∷◌, map, length, replicate, slice_index_or, slice_set}
use Rattle.std.specs.Option.{option_map}
use Rattle.memory.specs.Octets.{read_of, write_of}
use Rattle.bits.specs.Shares.{laid, stored}
use Rattle.channel.specs.Areas.{status_in}
use Rattle.channel.specs.Services.{begun, facts_of, after_store, after_fetch, store_place, fetch_place, after_kept, after_dropped}
use Rattle.frame.specs.Frames.{answered, kept}
use Rattle.rules.specs.Data.{Option, Some, None, Result, Ok, Err, MemoryFault, Fault, NoPlace, Refuses, FrameRuns, NoSuchFrame, OfFrame, Local, Read, Write, Share, Window, Service, Channel, Facts, Access, Target, InRegister, InFree, InWindow, Register, Registers, Running, Core, Outcome, NotWanted, Done, Refused, Verdict, Call, Begin, Octet, End, ReadAt, WriteAt, Answer, Runs, Forwards, Kept, Dropped, Got, Stored, Refuse}
use Rattle.frame.specs.declared.progress.Reason.{Reason}
use Rattle.rules.specs.Registers.{register_of, octet_of_register, with_settings, with_alias, new_registers}
use Rattle.rules.specs.Questions.{asked}
use Rattle.rules.specs.Enabling.{Enabled, lasting, enabled}
use Rattle.rules.specs.Octets.{plain, accesses_of, begun_running, given_running, mine}

-- the station: its core, and the list of its memory's octets
pub record Station : Type 0 where
  pub core : Core
  pub octets : List ℕ

abbrev pub out_of_service : Channel
out_of_service = record { service = None }

abbrev pub in_service_as : Service → Channel
in_service_as s = record { service = Some s }

abbrev pub station : List ℕ → (number : ℕ) → Station
station m number =
    record { core = record { number = number; registers = new_registers; alias = 0; channels = replicate 8 out_of_service; running = None }; octets = m }

abbrev pub with_channels : Core → List Channel → Core
with_channels c cs = record { number = c.number; registers = c.registers; alias = c.alias; channels = cs; running = c.running }

abbrev pub with_running : Core → Option Running → Core
with_running c f = record { number = c.number; registers = c.registers; alias = c.alias; channels = c.channels; running = f }

abbrev pub over : Core → List ℕ → Station
over c m = record { core = c; octets = m }

-- what is known of each channel
abbrev pub known : List Channel → List (Option Facts)
known cs = map (λ c. option_map facts_of c.service) cs

abbrev pub asked_of : Station → Access → Result Target Fault
asked_of s x = asked (length s.octets) (known s.core.channels) x

-- ONE ACCESS: the station after it, and its answer. A memory's refusal is carried whole.
pub record Reply (X : Type 0) : Type 0 where
  pub after : Station
  pub says : Result X Fault

abbrev pub service_at : List Channel → ℕ → Option Service
service_at cs n = (slice_index_or cs n out_of_service).service

abbrev pub register_at : Station → Register → ℕ
register_at s p =
    octet_of_register (length s.octets / 1024) s.core.registers s.core.alias (λ n. status_in (service_at s.core.channels n)) p

abbrev pub with_service : Station → (n : ℕ) → Service → List ℕ → Station
with_service s n c m = over (with_channels s.core (slice_set s.core.channels n (in_service_as c))) m

-- at offset k of the window of channel n: the channel picks the buffer
abbrev pub fetch_in : Station → (n : ℕ) → Service → (k : ℕ) → Result ℕ MemoryFault → Reply ℕ
fetch_in s n c k (Ok v) = record { after = with_service s n (after_fetch c k) s.octets; says = Ok v }
fetch_in s n c k (Err e) = record { after = s; says = Err (NoPlace e) }

abbrev pub store_in : Station → (n : ℕ) → Service → (k o : ℕ) → Result (Unit {0}) MemoryFault → Reply (Unit {0})
store_in s n c k o (Ok u) = record { after = with_service s n (after_store c k) (slice_set s.octets (store_place c k) o); says = Ok tt }
store_in s n c k o (Err e) = record { after = s; says = Err (NoPlace e) }

-- at a place of the memory that is in no area: at once, and a part of an octet keeps its other bits
abbrev pub fetch_free : Station → Result ℕ MemoryFault → Reply ℕ
fetch_free s (Ok v) = record { after = s; says = Ok v }
fetch_free s (Err e) = record { after = s; says = Err (NoPlace e) }

abbrev pub store_free : Station → Share → (p o : ℕ) → Result ℕ MemoryFault → Reply (Unit {0})
store_free s h p o (Ok old) = record { after = over s.core (slice_set s.octets p (stored h old o)); says = Ok tt }
store_free s h p o (Err e) = record { after = s; says = Err (NoPlace e) }

abbrev pub fetch_window : Station → (n k p : ℕ) → Option Service → Reply ℕ
fetch_window s n k p None = fetch_free s (read_of s.octets p)
fetch_window s n k p (Some c) = fetch_in s n c k (read_of s.octets (fetch_place c k))

abbrev pub store_window : Station → Share → (n k p o : ℕ) → Option Service → Reply (Unit {0})
store_window s h n k p o None = store_free s h p o (read_of s.octets p)
store_window s h n k p o (Some c) = store_in s n c k o (write_of s.octets (store_place c k))

-- A read. A write: into a register it changes nothing here (the frame keeps what waits, the alias is set by the local call).
abbrev pub fetched : Station → Access → Result Target Fault → Reply ℕ
fetched s x (Err f) = record { after = s; says = Err f }
fetched s x (Ok (InRegister p)) = record { after = s; says = Ok (register_at s p) }
fetched s x (Ok (InFree p)) = fetch_free s (read_of s.octets p)
fetched s x (Ok (InWindow n k)) = fetch_window s n k (x.address - 0x1000) (service_at s.core.channels n)

abbrev pub stored_by : Station → Access → (o : ℕ) → Result Target Fault → Reply (Unit {0})
stored_by s x o (Err f) = record { after = s; says = Err f }
stored_by s x o (Ok (InRegister p)) = record { after = s; says = Ok tt }
stored_by s x o (Ok (InFree p)) = store_free s x.share p o (read_of s.octets p)
stored_by s x o (Ok (InWindow n k)) = store_window s x.share n k (x.address - 0x1000) o (service_at s.core.channels n)

abbrev pub reads : Station → Access → Reply ℕ
reads s x = fetched s x (asked_of s x)

abbrev pub writes : Station → Access → (o : ℕ) → Reply (Unit {0})
writes s x o = stored_by s x o (asked_of s x)

-- THE ACCESSES OF ONE OCTET in turn; a refused one stops no other. `gathered` are the bits fetched, with 0 where there are none, and `shown` the
-- octet with the fetched bits in the place of its own.
pub record Reads : Type 0 where
  pub after : Station
  pub gathered : ℕ
  pub shown : ℕ
  pub outcome : Outcome ℕ Fault

pub record Writes : Type 0 where
  pub after : Station
  pub outcome : Outcome (Unit {0}) Fault

-- the outcome so far and one more access: the first refusal stands
abbrev pub also_done : {X : Type 0} → Outcome X Fault → X → Outcome X Fault
also_done NotWanted v = Done v
also_done (Done u) v = Done v
also_done (Refused f) v = Refused f

abbrev pub also_refused : {X : Type 0} → Outcome X Fault → Fault → Outcome X Fault
also_refused NotWanted f = Refused f
also_refused (Done u) f = Refused f
also_refused (Refused g) f = Refused g

abbrev pub read_one : Access → Reads → Station → Result ℕ Fault → Reads
read_one x t s (Ok v) =
    record {
      after = s;
      gathered = laid x.share t.gathered v;
      shown = laid x.share t.shown v;
      outcome = also_done t.outcome (laid x.share t.gathered v);
    }
read_one x t s (Err f) = record { after = s; gathered = t.gathered; shown = t.shown; outcome = also_refused t.outcome f }

abbrev pub read_all : Reads → List Access → Reads
read_all t [] = t
read_all t (x ∷ xs) = read_all (read_one x t (reads t.after x).after (reads t.after x).says) xs

abbrev pub write_one : Writes → Station → Result (Unit {0}) Fault → Writes
write_one t s (Ok u) = record { after = s; outcome = also_done t.outcome u }
write_one t s (Err f) = record { after = s; outcome = also_refused t.outcome f }

abbrev pub write_all : Writes → (o : ℕ) → List Access → Writes
write_all t o [] = t
write_all t o (x ∷ xs) = write_all (write_one t (writes t.after x o).after (writes t.after x o).says) o xs

abbrev pub reads_from : Station → (o : ℕ) → List Access → Reads
reads_from s o xs = read_all (record { after = s; gathered = 0; shown = o; outcome = NotWanted }) xs

abbrev pub writes_from : Station → (o : ℕ) → List Access → Writes
writes_from s o xs = write_all (record { after = s; outcome = NotWanted }) o xs

-- OCTET: read, then write, then the frame moves on
abbrev pub octet_answer : Outcome ℕ Fault → Outcome (Unit {0}) Fault → Result ℕ Reason → Answer
octet_answer r w (Ok v) = Forwards v r w
octet_answer r w (Err e) = Refuse (Refuses (OfFrame e) 0 None)

abbrev pub octet_taken : Station → Running → (o : ℕ) → Reads → Writes → Station × Answer
octet_taken s f o r w = (
  over (with_running w.after.core (Some (given_running s.core.registers s.core.alias f o r.outcome w.outcome))) w.after.octets,
  octet_answer r.outcome w.outcome (answered f.progress o r.shown),
)

abbrev pub octet_given : Station → Running → (o : ℕ) → Station × Answer
octet_given s f o =
    let r : Reads = reads_from s o (accesses_of s.core.registers f Read) in
    octet_taken s f o r (writes_from r.after o (accesses_of s.core.registers f Write))

abbrev pub no_such_frame : Answer
no_such_frame = Refuse (Refuses NoSuchFrame 0 None)

abbrev pub octet_step : Station → (o : ℕ) → Option Running → Station × Answer
octet_step s o None = (s, no_such_frame)
octet_step s o (Some f) = octet_given s f o

-- END. Dropped: what the frame accessed is cancelled. Kept, in order: waiting transactions complete, waiting registers are set, services end,
-- enablings are judged.
abbrev pub window_in : Channel → Option Window
window_in c = option_map (λ s. s.window) c.service

abbrev pub begun_channel : Window → Channel
begun_channel w = in_service_as (begun w)

abbrev pub kept_channel : Channel → Channel
kept_channel c = record { service = option_map after_kept c.service }

abbrev pub dropped_channel : Channel → Channel
dropped_channel c = record { service = option_map after_dropped c.service }

abbrev pub kept_channels : (size : ℕ) → Registers → List Channel → Enabled window_in begun_channel out_of_service
kept_channels N r cs = enabled window_in begun_channel out_of_service N r.settings (lasting window_in begun_channel out_of_service r.settings (map kept_channel cs))

abbrev pub kept_station : Station → Registers → Enabled window_in begun_channel out_of_service → Station × Answer
kept_station s r e = (
  over (record { number = s.core.number; registers = with_settings r e.settings; alias = s.core.alias; channels = e.entries; running = None }) s.octets,
  Kept e.denied,
)

abbrev pub end_of : Station → Running → Result (Unit {0}) Reason → Station × Answer
end_of s f (Ok u) = kept_station s f.waiting (kept_channels (length s.octets) f.waiting s.core.channels)
end_of s f (Err e) = (
  over (with_running (with_channels s.core (map dropped_channel s.core.channels)) None) s.octets,
  Dropped (Refuses (OfFrame e) 0 None),
)

abbrev pub end_step : Station → Verdict → Option Running → Station × Answer
end_step s v None = (s, no_such_frame)
end_step s v (Some f) = end_of s f (kept f.progress v)

-- BEGIN
abbrev pub begin_step : Station → Option Running → Station × Answer
begin_step s None = (over (with_running s.core (Some (begun_running s.core.registers))) s.octets, Runs)
begin_step s (Some f) = (s, Refuse (Refuses FrameRuns 0 None))

-- LOCAL calls
abbrev pub read_step : Station → Result ℕ Fault → Station × Answer
read_step s (Ok v) = (s, Got v)
read_step s (Err f) = (s, Refuse f)

abbrev pub with_local : Core → (a o : ℕ) → Core
with_local c a o = record { number = c.number; registers = c.registers; alias = with_alias c.alias (register_of a) o; channels = c.channels; running = c.running }

abbrev pub write_step : Station → (a o : ℕ) → Result (Unit {0}) Fault → Station × Answer
write_step s a o (Ok u) = (over (with_local s.core a o) s.octets, Stored)
write_step s a o (Err f) = (s, Refuse f)

-- THE STEP of each call
abbrev pub step : Station → Call → Station × Answer
step s Begin = begin_step s s.core.running
step s (Octet given o) = octet_step s o (mine s.core.number given s.core.running)
step s (End given v) = end_step s v (mine s.core.number given s.core.running)
step s (ReadAt a) = read_step (reads s (plain Local Read a)).after (reads s (plain Local Read a)).says
step s (WriteAt a o) = write_step (writes s (plain Local Write a) o).after a o (writes s (plain Local Write a) o).says

-- RUNS: where a list of calls leads, and its history of calls with their answers
abbrev pub runs : Station → List Call → Station
runs s [] = s
runs s (c ∷ cs) = runs (step s c).0 cs

abbrev pub history : Station → List Call → List (Call × Answer)
history s [] = []
history s (c ∷ cs) = (c, (step s c).1) ∷ history (step s c).0 cs
