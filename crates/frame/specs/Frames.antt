-- The running frame: begun, given an octet, ended.
use Rattle.std.specs.Prelude.{ℕ, ◌+◌, Bool, true, false, cond, None, Ok, Err, Option, Result, nat_lt}
use Rattle.frame.specs.declared.command.Addresses.{Addresses}
use Rattle.frame.specs.declared.outcome.Outcome.{Outcome}
use Rattle.frame.specs.declared.datagram.Wanted.{Wanted}
use Rattle.frame.specs.declared.cursor.Position.{Position}
use Rattle.frame.specs.declared.cursor.Position.TheVariants as at
use Rattle.frame.specs.declared.progress.Progress.{Progress}
use Rattle.frame.specs.declared.progress.Verdict.{Verdict}
use Rattle.frame.specs.declared.progress.Verdict.TheVariants.{Good, Bad}
use Rattle.frame.specs.declared.progress.Reason.{Reason}
use Rattle.frame.specs.declared.progress.Reason.TheVariants.{TooLong, Unfinished, BadCheck}
use Rattle.frame.specs.Cursors.{begun, advanced, leaves_of, wanted_at}

abbrev pub reason_number : Reason → ℕ
reason_number TooLong = 16
reason_number Unfinished = 17
reason_number BadCheck = 18

abbrev pub begun_frame : Progress
begun_frame = record { count = 0; overrun = false; cursor = begun }

-- the next octet is among the first 1,500
abbrev pub has_room : Progress → Bool
has_room f = nat_lt f.count 1500

abbrev pub wanted_by : Progress → Option Wanted
wanted_by f = cond (has_room f) (wanted_at f.cursor.position f.cursor.datagram) None

-- after an octet that is taken, of which came this; after one that is not
abbrev pub advanced_frame : {F : Type 0} → Progress → (o : ℕ) → Addresses → Outcome ℕ F → Outcome (Unit {0}) F → Progress
advanced_frame f o a r w = record { count = f.count + 1; overrun = f.overrun; cursor = advanced f.cursor o a r w }

abbrev pub overran : Progress → Progress
overran f = record { count = f.count; overrun = true; cursor = f.cursor }

abbrev pub given : {F : Type 0} → Progress → (o : ℕ) → Addresses → Outcome ℕ F → Outcome (Unit {0}) F → Progress
given f o a r w = cond (has_room f) (advanced_frame f o a r w) (overran f)

abbrev pub answered : Progress → (o laid : ℕ) → Result ℕ Reason
answered f o laid = cond (has_room f) (Ok (leaves_of f.cursor o laid)) (Err TooLong)

-- a refused octet is forwarded as it came
abbrev pub or_unchanged : ℕ → Result ℕ Reason → ℕ
or_unchanged o (Ok v) = v
or_unchanged o (Err e) = o

-- the last datagram is complete, or the frame is passing
abbrev pub ended_by : Position → Bool
ended_by at.HeaderLow = false
ended_by at.HeaderHigh = false
ended_by at.Command = false
ended_by at.Index = false
ended_by at.AdpLow = false
ended_by (at.AdpHigh low) = false
ended_by at.AdoLow = false
ended_by (at.AdoHigh low) = false
ended_by at.LenLow = false
ended_by (at.LenHigh low) = false
ended_by at.IrqLow = false
ended_by at.IrqHigh = false
ended_by (at.Data j) = false
ended_by at.CounterLow = false
ended_by (at.CounterHigh carry) = false
ended_by at.Padding = true
ended_by at.Passing = true

abbrev pub passes : Verdict → Result (Unit {0}) Reason
passes Good = Ok tt
passes Bad = Err BadCheck

-- the end of a frame: were all octets taken, did it end after its last datagram or is it passing, is the verdict good?
abbrev pub kept : Progress → Verdict → Result (Unit {0}) Reason
kept f v = cond f.overrun (Err TooLong) (cond (ended_by f.cursor.position) (passes v) (Err Unfinished))
