-- The array that `map` makes with a closure that no call changes. Assumes nothing.
use Rattle.std.proofs.Common.{◌≡◌, ℕ, zero, suc, ◌+◌, ◌<◌, List, length, get_or, map, sym, ap, ◌∙◌, subst, arith}
use Rattle.std.specs.Array.{MapsFrom, IsMapOf}
use Rattle.std.specs.Fn.{Called, Mut}
use Rattle.std.proofs.lemmas.List.{same_lists, length-map, get_or-map, get_or_default}

-- a list of the same length that has at each place g of what another has there
pub all_of : {X Y : Type 0} (g : X → Y) (d : X) (z : Y) (xs : List X) (ys : List Y) → length ys ≡ length xs → ((k : ℕ) → k < length xs → get_or ys k z ≡ g (get_or xs k d)) → ys ≡ map g xs
all_of g d z xs ys long each =
    same_lists ys (map g xs) (long ∙ sym (length-map xs g))
    (λ k e h. let small : k < length xs = omega (arith, long) in get_or_default ys k e z h ∙ each k small ∙ sym (get_or-map g xs k d e small))

module _ {F A B : Type 0} (g : Mut F (A × Unit {0}) B) (made : A → B) (f : F) (each : (x : A) (y : B) (q : F) → Called g f (x, tt) y q → (y ≡ made x) × (q ≡ f)) (d : A) (z : B) (xs : List A) (ys : List B) where
  made_from : (n i : ℕ) → MapsFrom g f xs ys i n → (k : ℕ) → k < n → get_or ys (i + k) z ≡ made (get_or xs (i + k) d)
  made_from zero i m k h = absurd (omega arith)
  made_from (suc n) i (q, x, y, at_x, at_y, called, rest) zero h =
      let here = each x y q called in
      let place : i ≡ i + 0 = omega arith in
      subst (λ j. get_or ys j z ≡ made (get_or xs j d)) place (at_y.1 z ∙ here.0 ∙ ap made (sym (at_x.1 d)))
  made_from (suc n) i (q, x, y, at_x, at_y, called, rest) (suc k) h =
      let here = each x y q called in
      let place : i + 1 + k ≡ i + suc k = omega arith in
      subst (λ j. get_or ys j z ≡ made (get_or xs j d)) place (made_from n (i + 1) (subst (λ p. MapsFrom g p xs ys (i + 1) n) here.1 rest) k (omega arith))

  pub map_same : (n : ℕ) → length xs ≡ n → IsMapOf g f xs ys n → ys ≡ map made xs
  map_same n long m =
      all_of made d z xs ys (m.long ∙ sym long)
      (λ k h. let place : 0 + k ≡ k = omega arith in subst (λ j. get_or ys j z ≡ made (get_or xs j d)) place (made_from n 0 m.each k (omega arith)))
