-- The promise on one call more: whatever list of calls led from a new station to this one. Assumes nothing.
use Rattle.std.specs.Prelude.{◌≡◌, ℕ, ◌≤◌, List, [], ◌∷◌, ◌++◌, length}
use Rattle.rules.specs.Data.{Call, Answer}
use Rattle.rules.specs.Steps.{Station, station, runs, history}
use Rattle.rules.specs.Promise.{Promise}

-- Of a run from a new station and one call more, answered so: where it leads, and the promise about the longer history.
pub record Continues (after : Station) (m : List ℕ) (number : ℕ) (cs : List Call) (c : Call) (y : Answer) : Type 0 where
  pub run : after ≡ runs (station m number) (cs ++ c ∷ [])
  pub promise : Promise (length m) number (history (station m number) cs ++ (c, y) ∷ [])

-- A call keeps the promise: whatever memory, station number and list of calls led to the station before it.
pub record Promised (before : Station) (c : Call) (after : Station) (y : Answer) : Type 0 where
  pub whenever : (m : List ℕ) (number : ℕ) (cs : List Call) → length m ≤ 61440 → before ≡ runs (station m number) cs → Continues after m number cs c y
