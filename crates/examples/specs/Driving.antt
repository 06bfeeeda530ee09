-- What a driver makes of a frame that comes in: the calls of one frame, and the octets that go out. Assumes nothing.
use Rattle.std.specs.Prelude.{ℕ, List, Some, None, Ok, Err, fold, Option, Result}
use Rattle.frame.specs.Runs.{emitted}
use Rattle.frame.specs.declared.progress.Verdict.{Verdict}
use Rattle.rules.specs.declared.fault.Fault.{Fault}
use Rattle.rules.specs.declared.data.Answer.{Answer}
use Rattle.rules.specs.declared.data.Answer.TheVariants.{Running as Runs, Forwards, Kept, Dropped, Got, Stored, Refused as Refuse}
use Rattle.rules.specs.declared.data.Call.TheVariants.{Begin, Octet, End}
use Rattle.rules.specs.Steps.{Station, step}

-- the station once it was given an octet, and the octet that goes out: one that is refused goes out as it came
abbrev pub given : (number : ℕ) → Station → ℕ → Station
given n s o = (step s (Octet n o)).0

abbrev pub goes_out : (came : ℕ) → Answer → ℕ
goes_out o Runs = o
goes_out o (Forwards v r w) = v
goes_out o (Kept e) = o
goes_out o (Dropped f) = o
goes_out o (Got v) = o
goes_out o Stored = o
goes_out o (Refuse f) = o

abbrev pub out : (number : ℕ) → Station → ℕ → ℕ
out n s o = goes_out o (step s (Octet n o)).1

-- the station after a frame's octets, and what goes out
abbrev pub given_all : (number : ℕ) → Station → List ℕ → Station
given_all n s os = fold (given n) s os

abbrev pub out_all : (number : ℕ) → Station → List ℕ → List ℕ
out_all n s os = emitted (given n) (out n) s os

-- A whole frame: begun, given, ended. If one runs already, nothing is done, and the octets go out as they came.
abbrev pub transmitted : Station → List ℕ → Verdict → Option ℕ → Station
transmitted s os v (Some n) = s
transmitted s os v None = (step (given_all s.core.number (step s Begin).0 os) (End s.core.number v)).0

abbrev pub transmitted_answer : Station → List ℕ → Verdict → Option ℕ → Answer
transmitted_answer s os v (Some n) = (step s Begin).1
transmitted_answer s os v None = (step (given_all s.core.number (step s Begin).0 os) (End s.core.number v)).1

abbrev pub transmitted_as : Option ℕ → Result (Option Fault) Fault → Answer
transmitted_as (Some n) (Ok e) = Kept e
transmitted_as (Some n) (Err f) = Refuse f
transmitted_as None (Ok e) = Kept e
transmitted_as None (Err f) = Dropped f

abbrev pub transmitted_out : Station → List ℕ → Option ℕ → List ℕ
transmitted_out s os (Some n) = os
transmitted_out s os None = out_all s.core.number (step s Begin).0 os
