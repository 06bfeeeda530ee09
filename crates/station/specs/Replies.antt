-- What the calls of the code have made and said, as the rules tell it. Assumes nothing.
use Rattle.std.specs.Prelude.{◌≡◌, ℕ, ◌≢◌, Some, None, Ok, Err, Option, Result}
use Rattle.std.specs.Option.{option_map}
use Rattle.frame.specs.declared.outcome.Outcome.{Outcome}
use Rattle.frame.specs.declared.outcome.Outcome.TheVariants.{NotWanted, Done, Refused}
use Rattle.rules.specs.declared.fault.Fault.{Fault}
use Rattle.rules.specs.declared.fault.Fault.TheVariants.{Station as Refuses}
use Rattle.rules.specs.declared.fault.Reason.TheVariants.{NoSuchFrame}
use Rattle.rules.specs.declared.data.Core.{Core}
use Rattle.rules.specs.declared.data.Answer.{Answer}
use Rattle.rules.specs.declared.data.Answer.TheVariants.{Running as Runs, Forwards, Kept, Dropped as Drops, Got, Stored, Refused as Refuse}
use Rattle.rules.specs.Steps.{Station, Reply, Reads, Writes, no_such_frame}
use Rattle.station.specs.declared.token.Frame.{Frame}
use Rattle.station.specs.declared.token.OctetAnswer.{OctetAnswer}
use Rattle.station.specs.declared.token.EndRefusal.{EndRefusal}
use Rattle.station.specs.declared.token.EndRefusal.TheVariants.{NotThisFrame, Dropped}
use Rattle.station.specs.declared.octets.Gathered.{Gathered}

abbrev pub reply : {X : Type 0} → Station → Result X Fault → Reply X
reply s r = record { after = s; says = r }

-- the reads and the writes of an octet so far
abbrev pub reads_so : Station → Gathered → Reads
reads_so s g = record { after = s; gathered = g.gathered; shown = g.shown; outcome = g.outcome }

abbrev pub writes_so : Station → Outcome (Unit {0}) Fault → Writes
writes_so s w = record { after = s; outcome = w }

-- the outcome so far, and that of one access more: the first refusal stands
abbrev pub also : {X : Type 0} → Outcome X Fault → Outcome X Fault → Outcome X Fault
also NotWanted y = y
also (Done u) y = y
also (Refused f) y = Refused f

-- THE ANSWERS of the five calls
abbrev pub begun_as : Result Frame Fault → Answer
begun_as (Ok f) = Runs
begun_as (Err f) = Refuse f

abbrev pub octet_as : Result OctetAnswer Fault → Answer
octet_as (Ok a) = Forwards a.forwarded a.read a.write
octet_as (Err f) = Refuse f

-- an end that is kept or dropped
abbrev pub kept_as : Result (Option Fault) Fault → Answer
kept_as (Ok e) = Kept e
kept_as (Err f) = Drops f

abbrev pub ended_as : Result (Option Fault) EndRefusal → Answer
ended_as (Ok e) = Kept e
ended_as (Err (NotThisFrame f)) = no_such_frame
ended_as (Err (Dropped f)) = Drops f

abbrev pub read_as : Result ℕ Fault → Answer
read_as (Ok v) = Got v
read_as (Err f) = Refuse f

abbrev pub written_as : Result (Unit {0}) Fault → Answer
written_as (Ok u) = Stored
written_as (Err f) = Refuse f

-- a frame that is begun carries the station's number
abbrev pub Minted : (number : ℕ) → Result Frame Fault → Type 0
Minted n (Ok f) = f.number ≡ n
Minted n (Err e) = Unit {0}

-- FRAMES. The number of the frame that runs at the station, if one does: it is the station's own.
abbrev pub frame_in : Core → Option ℕ
frame_in c = option_map (λ f. c.number) c.running

-- no frame begins or ends: the one that ran, if one did, runs still
pub record SameFrame (before after : Station) : Type 0 where
  pub runs : frame_in after.core ≡ frame_in before.core

-- a frame that was begun is the one that runs
abbrev pub Begun : (after : Core) → Result Frame Fault → Type 0
Begun c (Ok f) = frame_in c ≡ Some f.number
Begun c (Err e) = Unit {0}

-- a frame that is handed back is the one handed in, and was not the one that ran: whoever ends the frame that runs gets nothing back
abbrev pub HandedBack : (before : Core) → Frame → Result (Option Fault) EndRefusal → Type 0
HandedBack c f (Ok e) = Unit {0}
HandedBack c f (Err (NotThisFrame g)) = (g ≡ f) × (frame_in c ≢ Some f.number)
HandedBack c f (Err (Dropped e)) = Unit {0}

-- the same frame
abbrev pub Same : Frame → Result (Option Fault) EndRefusal → Type 0
Same f (Ok e) = Unit {0}
Same f (Err (NotThisFrame g)) = g ≡ f
Same f (Err (Dropped e)) = Unit {0}

-- the refusal of an end
abbrev pub end_fault : EndRefusal → Fault
end_fault (NotThisFrame f) = Refuses NoSuchFrame 0 None
end_fault (Dropped f) = f
