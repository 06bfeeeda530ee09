-- The law of the lowest covering entry.
use Rattle.std.proofs.Common.{◌≡◌, ℕ, zero, suc, ◌+◌, ◌<◌, ◌≤◌, true, false, List, [], ◌∷◌, length, Some, None, Option, sym, ◌∙◌, subst, arith, MatchOption}
use Rattle.std.specs.List.{HoldsAt, AllWithin, position_from}
use Rattle.std.proofs.lemmas.Bool.{and_parts, and_from, le-leb, leb-true, false≢true, cond_both}
use Rattle.cover.specs.Lowest.{covers, Covers, Lowest}

module _ {E : Type 0} (low high : E → ℕ) (place : ℕ) where
  pub covers-true : (e : E) → low e ≤ place → place ≤ high e → covers low high place e ≡ true
  covers-true e l h = and_from _ _ (le-leb (low e) place l) (le-leb place (high e) h)

  none_here : (e : E) → covers low high place e ≡ false → Covers low high place e → ⊥
  none_here e passes (l, h) = false≢true (sym passes ∙ covers-true e l h)

  some-here : (e : E) → covers low high place e ≡ true → Covers low high place e
  some-here e stops = let p = and_parts _ _ stops in (leb-true _ _ p.0, leb-true _ _ p.1)

  -- an entry before the others that does not cover
  every-cons : (e : E) (es : List E) (n : ℕ) → covers low high place e ≡ false → AllWithin (λ x. Covers low high place x → ⊥) es 0 n → AllWithin (λ x. Covers low high place x → ⊥) (e ∷ es) 0 (suc n)
  every-cons e es n passes every zero d _ _ = none_here e passes
  every-cons e es n passes every (suc k) d _ h = every k d (omega arith) (omega arith)

  -- the law at a list that begins with index n
  abbrev Shifted : ℕ → List E → Option ℕ → Type 0
  Shifted n es r = MatchOption r (AllWithin (λ e. Covers low high place e → ⊥) es 0 (length es)) (λ j. (k : ℕ) × (j ≡ n + k) × (k < length es) × HoldsAt (Covers low high place) es k × AllWithin (λ e. Covers low high place e → ⊥) es 0 k)

  shift : (n : ℕ) (e : E) (es : List E) (r : Option ℕ) → covers low high place e ≡ false → Shifted (n + 1) es r → Shifted n (e ∷ es) r
  shift n e es None passes every = every-cons e es (length es) passes every
  shift n e es (Some j) passes (k, is, within, at, every) = (suc k, omega arith, omega arith, at, every-cons e es k passes every)

  law-from : (n : ℕ) (es : List E) → Shifted n es (position_from (covers low high place) n es)
  law-from n [] = λ k d _ h _. omega arith
  law-from n (e ∷ es) =
      let first_one : covers low high place e ≡ true → Shifted n (e ∷ es) (Some n) = λ stops. (0, omega arith, omega arith, (λ d. some-here e stops), (λ k d _ h _. omega arith)) in
      cond_both (covers low high place e) (Some n) (position_from (covers low high place) (n + 1) es) (Shifted n (e ∷ es)) first_one (λ passes. shift n e es _ passes (law-from (n + 1) es))

  unshift : (es : List E) (r : Option ℕ) → Shifted 0 es r → Lowest low high place es r
  unshift es None every = every
  unshift es (Some j) (k, is, within, at, every) =
      let e : k ≡ j = omega arith in
      subst (λ i. (i < length es) × HoldsAt (Covers low high place) es i × AllWithin (λ x. Covers low high place x → ⊥) es 0 i) e (within, at, every)

  pub lowest-law : (es : List E) → Lowest low high place es (position_from (covers low high place) 0 es)
  lowest-law es = unshift es _ (law-from 0 es)

  pub law-at : (es : List E) (r : Option ℕ) → r ≡ position_from (covers low high place) 0 es → Lowest low high place es r
  law-at es r is = subst (Lowest low high place es) (sym is) (lowest-law es)
