-- Who serves a bit: the lowest entry of which a test holds, and the bits of an octet that are left free, entry after entry.
use Rattle.std.proofs.Common.{◌≡◌, ℕ, zero, suc, ◌+◌, ◌-◌, ◌<◌, Bool, true, false, cond, not, ◌&&◌, ◌||◌, List, [], ◌∷◌, ◌++◌, length, get_or, take, Some, sym, refl, ap, ◌∙◌, subst, ⊎_elim, le_of_suc-le-suc, not-suc-le-zero, arith}
use lib.Bits.{bit_and, and_le_l, and_le_r}
use Rattle.std.proofs.lemmas.List.{take_more}
use Rattle.std.proofs.Math.Bool.{or-false}
use Rattle.std.proofs.lemmas.Bool.{cases_Bool, and_right}
use Rattle.std.proofs.lemmas.Bool.Decides.{nat_tests}
use Rattle.std.specs.List.{position_from}
use Rattle.cover.specs.Lowest.{covers}
use Rattle.bits.specs.Bits.{octet_of}
use Rattle.bits.proofs.Octets.{is-octet, bits-lt, bit-and, bit_not, bit-full, reads}
use Rattle.mapping.specs.Mapping.{is}

-- whether the test holds of some entry, and of entry n
abbrev pub some : {X : Type 0} → (X → Bool) → List X → Bool
some p [] = false
some p (x ∷ xs) = p x || some p xs

abbrev pub holds_at : {X : Type 0} → (X → Bool) → List X → ℕ → Bool
holds_at p [] n = false
holds_at p (x ∷ xs) zero = p x
holds_at p (x ∷ xs) (suc n) = holds_at p xs n

-- entry n is the lowest of which the test holds
abbrev pub lowest : {X : Type 0} → (X → Bool) → List X → ℕ → Bool
lowest p xs n = holds_at p xs n && not (some p (take n xs))

module _ {X : Type 0} (low high : X → ℕ) (b : ℕ) where
  abbrev p : X → Bool
  p = covers low high b

  -- the search that begins with index n answers none below it
  above : (xs : List X) (n m : ℕ) → m < n → is m (position_from (covers low high b) n xs) ≡ false
  above [] n m h = refl
  above (x ∷ xs) n m h =
      ⊎_elim (λ t. ap (λ z. is m (cond z (Some n) (position_from (covers low high b) (n + 1) xs))) t ∙ grind (arith, nat_tests))
      (λ f. ap (λ z. is m (cond z (Some n) (position_from (covers low high b) (n + 1) xs))) f ∙ above xs (n + 1) m (omega arith)) (cases_Bool (p x))

  -- the search answers the lowest
  pub found-lowest : (xs : List X) (n m : ℕ) → is (n + m) (position_from (covers low high b) n xs) ≡ lowest p xs m
  found-lowest [] n m = refl
  found-lowest (x ∷ xs) n zero =
      ⊎_elim (λ t. (λ k. is (n + 0) (cond (t k) (Some n) (position_from (covers low high b) (n + 1) xs))) ∙ grind (arith, nat_tests) ∙ sym (ap (λ z. z && true) t))
      (λ f. (λ k. is (n + 0) (cond (f k) (Some n) (position_from (covers low high b) (n + 1) xs))) ∙ above xs (n + 1) (n + 0) (omega arith) ∙ sym (ap (λ z. z && true) f)) (cases_Bool (p x))
  found-lowest (x ∷ xs) n (suc m) =
      let place : n + suc m ≡ n + 1 + m = omega arith in
      ⊎_elim (λ t. (λ k. is (n + suc m) (cond (t k) (Some n) (position_from (covers low high b) (n + 1) xs))) ∙ grind (arith, nat_tests) ∙ sym (and_right (holds_at p xs m) (not (p x || some p (take m xs))) (ap (λ z. not (z || some p (take m xs))) t)))
      (λ f. (λ k. is (place k) (cond (f k) (Some n) (position_from (covers low high b) (n + 1) xs))) ∙ found-lowest xs (n + 1) m ∙ sym (ap (λ z. holds_at p xs m && not (z || some p (take m xs))) f)) (cases_Bool (p x))

beside : (a s t b : Bool) → not t ≡ (not s && not b) → not (a || t) ≡ (not (a || s) && not b)
beside true s t b e = refl
beside false s t b e = e

module _ {X : Type 0} where
  some-push : (p : X → Bool) (xs : List X) (x : X) → not (some p (xs ++ x ∷ [])) ≡ (not (some p xs) && not (p x))
  some-push p [] x = ap not (or-false (p x))
  some-push p (y ∷ xs) x = beside (p y) (some p xs) (some p (xs ++ x ∷ [])) (p x) (some-push p xs x)

  pub holds_read : (p : X → Bool) (xs : List X) (n : ℕ) (x : X) → n < length xs → holds_at p xs n ≡ p (get_or xs n x)
  holds_read p [] n x h = absurd (not-suc-le-zero h)
  holds_read p (y ∷ xs) zero x h = refl
  holds_read p (y ∷ xs) (suc n) x h = holds_read p xs n x (le_of_suc-le-suc h)

  -- p i x says that x takes bit i
  module _ (p : ℕ → X → Bool) (xs : List X) where
    -- the bits that none of the first n took
    pub Free : ℕ → ℕ → Type 0
    Free free n = free ≡ octet_of (λ i. not (some (p i) (take n xs)))

    pub free-fits : (free n : ℕ) → Free free n → free < 256
    unfolding Free
    free-fits free n w = subst (λ m. m < 256) (sym w) (bits-lt 8 (λ i. not (some (p i) (take n xs))))

    pub free-none : Free 255 0
    unfolding Free
    free-none = is-octet 255 (λ i. true) (omega arith) (λ i h. bit-full i h)

    pub free_more : (free n y : ℕ) (x : X) → n < length xs → y < 256 → y ≡ octet_of (λ i. p i (get_or xs n x)) → Free free n → Free (bit_and free (255 - y)) (n + 1)
    unfolding Free
    free_more free n y x h small told w =
        is-octet (bit_and free (255 - y)) (λ i. not (some (p i) (take (n + 1) xs))) (omega (arith, and_le_r free (255 - y)))
        (λ i l. bit-and free (255 - y) i ∙ (λ j. reads free (λ i. not (some (p i) (take n xs))) w i l j && (bit_not y small i l ∙ ap not (reads y (λ i. p i (get_or xs n x)) told i l)) j) ∙ sym (ap (λ zs. not (some (p i) zs)) (take_more xs n x h) ∙ some-push (p i) (take n xs) (get_or xs n x)))

    -- of these, the bits that the next entry takes are the ones that it serves
    pub share-is : (free n y : ℕ) (x : X) → n < length xs → y < 256 → y ≡ octet_of (λ i. p i (get_or xs n x)) → Free free n → bit_and y free ≡ octet_of (λ i. lowest (p i) xs n)
    unfolding Free
    share-is free n y x h small told w =
        is-octet (bit_and y free) (λ i. lowest (p i) xs n) (omega (arith, and_le_l y free))
        (λ i l. bit-and y free i ∙ (λ j. (reads y (λ i. p i (get_or xs n x)) told i l ∙ sym (holds_read (p i) xs n x h)) j && reads free (λ i. not (some (p i) (take n xs))) w i l j))
