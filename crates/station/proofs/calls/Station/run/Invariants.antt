use Rattle.std.proofs.Common.{◌≡◌, ◌++◌, take, drop}
use Rattle.rules.specs.Steps.{runs, history}
use Rattle.station.specs.Scripts.{calls_of, told}
use Rattle.station.proofs.calls.Station.run.Given as goal

-- what is left gives the rest of the history
abbrev pub invariant-loop-entry : goal.invariant-loop-entry
invariant-loop-entry g l =
    record {
      after : runs l.self.station (calls_of (drop l.entry-index l.script)) ≡ runs l.initial.self.station (calls_of l.initial.script);
      answers : told (take l.entry-index l.script) ++ history l.self.station (calls_of (drop l.entry-index l.script)) ≡ history l.initial.self.station (calls_of l.initial.script);
    }
