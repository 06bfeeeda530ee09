-- What each of the five calls promised: the station is the run that led to it plus one call, and the promise holds of the longer history.
-- Assumes nothing.
use Rattle.std.specs.Prelude.{◌≡◌, ℕ, ◌≤◌, List, [], ◌∷◌, ◌++◌, length}
use Rattle.rules.specs.declared.data.Call.{Call}
use Rattle.rules.specs.declared.data.Answer.{Answer}
use Rattle.rules.specs.Steps.{Station, station, runs, history}
use Rattle.rules.specs.After as today
use Rattle.earlier_promise.specs.Station.{Promise}

abbrev pub Promised : (before : Station) → Call → (after : Station) → Answer → Type 0
Promised before c after y =
    (m : List ℕ) (number : ℕ) (cs : List Call) → length m ≤ 61440 → before ≡ runs (station m number) cs →
    (after ≡ runs (station m number) (cs ++ (c ∷ []))) × Promise (length m) number (history (station m number) cs ++ ((c, y) ∷ []))

-- what a call promises today promises this
abbrev pub CallsPromised : Type 0
CallsPromised = (before : Station) (c : Call) (after : Station) (y : Answer) → today.Promised before c after y → Promised before c after y
