-- A script: its calls, and what it tells once it is done. Assumes nothing.
use Rattle.std.specs.Prelude.{List, map}
use Rattle.rules.specs.declared.data.Call.{Call}
use Rattle.rules.specs.declared.data.Answer.{Answer}
use Rattle.station.specs.declared.script.Entry.{Entry}

abbrev pub calls_of : List Entry → List Call
calls_of es = map (λ (e : Entry). e.call) es

abbrev pub told : List Entry → List (Call × Answer)
told es = map (λ (e : Entry). (e.call, e.answer)) es
