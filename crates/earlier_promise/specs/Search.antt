-- The search for the lowest entry that covers a place, which was written out and is the library's today. Assumes nothing.
use Rattle.std.specs.Prelude.{◌≡◌, ℕ, ◌+◌, cond, List, [], ◌∷◌, Some, None, Option}
use Rattle.std.specs.List.{position_from}
use Rattle.cover.specs.Lowest.{covers}

module _ {E : Type 0} (low high : E → ℕ) (place : ℕ) where
  -- the index of the first entry that covers the place, where the list begins with index n
  abbrev pub lowest-from : ℕ → List E → Option ℕ
  lowest-from n [] = None
  lowest-from n (e ∷ es) = cond (covers low high place e) (Some n) (lowest-from (n + 1) es)

abbrev pub SearchesAgree : Type 0 → Type 0
SearchesAgree E =
    (low high : E → ℕ) (place n : ℕ) (es : List E) → position_from (covers low high place) n es ≡ lowest-from low high place n es
