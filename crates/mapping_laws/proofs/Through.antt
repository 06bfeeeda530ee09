-- Bits written and read back through an entity.
use Rattle.std.proofs.Common.{◌≡◌, ℕ, ◌+◌, ◌*◌, ◌/◌, ◌%◌, ◌<◌, ◌≤◌, Bool, true, false, cond, ◌&&◌, eqb, List, [], ◌∷◌, ◌++◌, sym, refl, ap, ◌∙◌, ⊎_elim, arith}
use Rattle.std.proofs.lemmas.Bool.{and_parts, and_right, cases_Bool, cases_eq, eqb-true, eq-eqb, ne_eqb}
use Rattle.std.proofs.lemmas.Bool.Decides.{nat_tests}
use Rattle.bits.specs.declared.share.Share.TheVariants.{Whole, Part}
use Rattle.bits.specs.Bits.{bit_at}
use Rattle.bits.specs.Shares.{share_of, laid, stored, physical_bit_of, logical_bit_of}
use Rattle.bits.proofs.Octets.{bit-of, bit-zero, bit-full}
use Rattle.mapping.specs.declared.entity.Entity.{Entity}
use Rattle.mapping.specs.declared.mapped.Access.{Access}
use Rattle.mapping.specs.Mapping.{first_bit, lands, turn_of, landing_in, access_for, landed_from}
use Rattle.mapping_laws.specs.Moves.{put, gathered, scattered, ComesBack, WrittenBitsComeBack}
use Rattle.mapping_laws.proofs.Landings.{straight}

scattered-join : (o : ℕ) (xs ys : List Access) (m : ℕ → ℕ) → scattered o (xs ++ ys) m ≡ scattered o ys (scattered o xs m)
scattered-join o [] ys m = refl
scattered-join o (x ∷ xs) ys m = scattered-join o xs ys (put m x.address (stored x.share (m x.address) o))

gathered-join : (m : ℕ → ℕ) (xs ys : List Access) (o : ℕ) → gathered m (xs ++ ys) o ≡ gathered m ys (gathered m xs o)
gathered-join m [] ys o = refl
gathered-join m (x ∷ xs) ys o = gathered-join m xs ys (laid x.share o (m x.address))

-- one access of the bits of a mask
module _ (p b t : ℕ) (even : b ≡ 255 → t ≡ 0) where
  stored-bit : (old o j : ℕ) → j < 8 → bit_at (stored (share_of b t) old o) j ≡ cond (bit_at b (logical_bit_of t j)) (bit_at o (logical_bit_of t j)) (bit_at old j)
  stored-bit old o j h =
      ⊎_elim
      (λ all. let zero = even all in let place : j ≡ logical_bit_of t j = omega arith in ap (λ z. bit_at (stored (cond z Whole (Part b t)) old o) j) (eq-eqb b 255 all) ∙ ap (λ n. bit_at o n) place ∙ sym (ap (λ z. cond z (bit_at o (logical_bit_of t j)) (bit_at old j)) (ap (λ n. bit_at n (logical_bit_of t j)) all ∙ bit-full (logical_bit_of t j) (omega arith))))
      (λ less. ap (λ z. bit_at (stored (cond z Whole (Part b t)) old o) j) (ne_eqb b 255 less) ∙ bit-of 8 (λ j. cond (bit_at b (logical_bit_of t j)) (bit_at o (logical_bit_of t j)) (bit_at old j)) j h)
      (cases_eq b 255)

  laid-bit : (o v i : ℕ) → i < 8 → bit_at (laid (share_of b t) o v) i ≡ cond (bit_at b i) (bit_at v (physical_bit_of t i)) (bit_at o i)
  laid-bit o v i h =
      ⊎_elim
      (λ all. let zero = even all in let place : i ≡ physical_bit_of t i = omega arith in ap (λ z. bit_at (laid (cond z Whole (Part b t)) o v) i) (eq-eqb b 255 all) ∙ ap (λ n. bit_at v n) place ∙ sym (ap (λ z. cond z (bit_at v (physical_bit_of t i)) (bit_at o i)) (ap (λ n. bit_at n i) all ∙ bit-full i h)))
      (λ less. ap (λ z. bit_at (laid (cond z Whole (Part b t)) o v) i) (ne_eqb b 255 less) ∙ bit-of 8 (λ i. cond (bit_at b i) (bit_at v (physical_bit_of t i)) (bit_at o i)) i h)
      (cases_eq b 255)

  abbrev one : List Access
  one = record { address = p; share = share_of b t } ∷ []

  one-put : (o : ℕ) (m : ℕ → ℕ) (q j : ℕ) → j < 8 → bit_at (scattered o (access_for p b t) m q) j ≡ cond (eqb q p && bit_at b (logical_bit_of t j)) (bit_at o (logical_bit_of t j)) (bit_at (m q) j)
  one-put o m q j h =
      ⊎_elim
      (λ none. ap (λ z. bit_at (scattered o (cond z [] one) m q) j) (eq-eqb b 0 none) ∙ sym (ap (λ z. cond z (bit_at o (logical_bit_of t j)) (bit_at (m q) j)) (and_right (eqb q p) (bit_at b (logical_bit_of t j)) (ap (λ n. bit_at n (logical_bit_of t j)) none ∙ bit-zero (logical_bit_of t j)))))
      (λ some. ap (λ z. bit_at (scattered o (cond z [] one) m q) j) (ne_eqb b 0 some) ∙ ⊎_elim
      (λ here. ap (λ z. bit_at (cond z (stored (share_of b t) (m p) o) (m q)) j) (eq-eqb q p here) ∙ stored-bit (m p) o j h ∙ ap (λ n. cond (bit_at b (logical_bit_of t j)) (bit_at o (logical_bit_of t j)) (bit_at (m n) j)) (sym here) ∙ sym (ap (λ z. cond (z && bit_at b (logical_bit_of t j)) (bit_at o (logical_bit_of t j)) (bit_at (m q) j)) (eq-eqb q p here)))
      (λ away. ap (λ z. bit_at (cond z (stored (share_of b t) (m p) o) (m q)) j) (ne_eqb q p away) ∙ sym (ap (λ z. cond (z && bit_at b (logical_bit_of t j)) (bit_at o (logical_bit_of t j)) (bit_at (m q) j)) (ne_eqb q p away)))
      (cases_eq q p))
      (cases_eq b 0)

  one-got : (m : ℕ → ℕ) (o i : ℕ) → i < 8 → bit_at (gathered m (access_for p b t) o) i ≡ cond (bit_at b i) (bit_at (m p) (physical_bit_of t i)) (bit_at o i)
  one-got m o i h =
      ⊎_elim
      (λ none. ap (λ z. bit_at (gathered m (cond z [] one) o) i) (eq-eqb b 0 none) ∙ sym (ap (λ z. cond z (bit_at (m p) (physical_bit_of t i)) (bit_at o i)) (ap (λ n. bit_at n i) none ∙ bit-zero i)))
      (λ some. ap (λ z. bit_at (gathered m (cond z [] one) o) i) (ne_eqb b 0 some) ∙ laid-bit o (m p) i h)
      (cases_eq b 0)

-- the two accesses of an entity
module _ (e : Entity) (a b : ℕ) (started : (i : ℕ) → i < 8 → bit_at b i ≡ true → first_bit e ≤ 8 * a + i) where
  abbrev near : ℕ
  near = lands e (8 * a) / 8

  abbrev turn : ℕ
  turn = turn_of e

  abbrev octet : ℕ → ℕ
  octet i = lands e (8 * a + i) / 8

  -- of two neighbouring octets one has the bit
  one_of : (c : Bool) (l q : ℕ) (x y : Bool) → l < 8 → (c ≡ true → first_bit e ≤ 8 * a + l) → cond (eqb q (near + 1) && (c && eqb (octet l) (near + 1))) x (cond (eqb q near && (c && eqb (octet l) near)) x y) ≡ cond (c && eqb (octet l) q) x y
  one_of false l q x y h from =
      (λ k. cond (and_right (eqb q (near + 1)) false refl k) x (cond (and_right (eqb q near) false refl k) x y))
  one_of true l q x y h from =
      let begun = from refl in
      grind (arith, nat_tests)

  abbrev both : List Access
  both = landed_from e a b

  abbrev first_one : List Access
  first_one = access_for near (landing_in e a b near) turn

  -- physical bit j of octet q is logical bit l, if the mask has that and it lands there
  two-put : (o : ℕ) (m : ℕ → ℕ) (q j : ℕ) → j < 8 → bit_at (scattered o both m q) j ≡ cond (bit_at b (logical_bit_of turn j) && eqb (octet (logical_bit_of turn j)) q) (bit_at o (logical_bit_of turn j)) (bit_at (m q) j)
  two-put o m q j h =
      let l : ℕ = logical_bit_of turn j in
      let small : l < 8 = omega arith in
      let shared : (p : ℕ) → bit_at (landing_in e a b p) l ≡ (bit_at b l && eqb (octet l) p) = λ p. bit-of 8 (λ i. bit_at b i && eqb (octet i) p) l small in
      let put_in : (p : ℕ) (m : ℕ → ℕ) → bit_at (scattered o (access_for p (landing_in e a b p) turn) m q) j ≡ cond (eqb q p && (bit_at b l && eqb (octet l) p)) (bit_at o l) (bit_at (m q) j) = λ p m. one-put p (landing_in e a b p) turn (straight e a b started p) o m q j h ∙ ap (λ z. cond (eqb q p && z) (bit_at o l) (bit_at (m q) j)) (shared p) in
      ap (λ m. bit_at (m q) j) (scattered-join o first_one (access_for (near + 1) (landing_in e a b (near + 1)) turn) m)
      ∙ put_in (near + 1) (scattered o first_one m)
      ∙ ap (λ z. cond (eqb q (near + 1) && (bit_at b l && eqb (octet l) (near + 1))) (bit_at o l) z) (put_in near m)
      ∙ one_of (bit_at b l) l q (bit_at o l) (bit_at (m q) j) small (started l small)

  -- logical bit i is the physical bit where it lands, if the mask has it
  two-got : (m : ℕ → ℕ) (o i : ℕ) → i < 8 → bit_at (gathered m both o) i ≡ cond (bit_at b i) (bit_at (m (octet i)) (lands e (8 * a + i) % 8)) (bit_at o i)
  two-got m o i h =
      let got : (p o : ℕ) → bit_at (gathered m (access_for p (landing_in e a b p) turn) o) i ≡ cond (bit_at b i && eqb (octet i) p) (bit_at (m p) (physical_bit_of turn i)) (bit_at o i) = λ p o. one-got p (landing_in e a b p) turn (straight e a b started p) m o i h ∙ ap (λ z. cond z (bit_at (m p) (physical_bit_of turn i)) (bit_at o i)) (bit-of 8 (λ i. bit_at b i && eqb (octet i) p) i h) in
      ap (λ n. bit_at n i) (gathered-join m first_one (access_for (near + 1) (landing_in e a b (near + 1)) turn) o)
      ∙ got (near + 1) (gathered m first_one o)
      ∙ ap (λ z. cond (bit_at b i && eqb (octet i) (near + 1)) (bit_at (m (near + 1)) (physical_bit_of turn i)) z) (got near o)
      ∙ seen (bit_at b i) (started i h)
    where
      seen : (c : Bool) → (c ≡ true → first_bit e ≤ 8 * a + i) → cond (c && eqb (octet i) (near + 1)) (bit_at (m (near + 1)) (physical_bit_of turn i)) (cond (c && eqb (octet i) near) (bit_at (m near) (physical_bit_of turn i)) (bit_at o i)) ≡ cond c (bit_at (m (octet i)) (lands e (8 * a + i) % 8)) (bit_at o i)
      seen false from = refl
      seen true from =
          let begun = from refl in
          let place : physical_bit_of turn i ≡ lands e (8 * a + i) % 8 = omega arith in
          ⊎_elim
          (λ same. let far : (octet i ≡ near + 1) → ⊥ = λ g. omega arith in (λ k. cond (ne_eqb (octet i) (near + 1) far k) (bit_at (m (near + 1)) (physical_bit_of turn i)) (cond (eq-eqb (octet i) near same k) (bit_at (m (sym same k)) (place k)) (bit_at o i))))
          (λ other. let far : octet i ≡ near + 1 = omega arith in (λ k. cond (eq-eqb (octet i) (near + 1) far k) (bit_at (m (sym far k)) (place k)) (cond (eqb (octet i) near) (bit_at (m near) (physical_bit_of turn i)) (bit_at o i))))
          (cases_eq (octet i) near)

  module _ (o : ℕ) (m : ℕ → ℕ) where
    sent : (i : ℕ) → i < 8 → bit_at b i ≡ true → bit_at (scattered o both m (octet i)) (lands e (8 * a + i) % 8) ≡ bit_at o i
    sent i h t =
        let begun = started i h t in
        let place : logical_bit_of turn (lands e (8 * a + i) % 8) ≡ i = omega arith in
        two-put o m (octet i) (lands e (8 * a + i) % 8) (omega arith)
        ∙ (λ k. cond (bit_at b (place k) && eqb (octet (place k)) (octet i)) (bit_at o (place k)) (bit_at (m (octet i)) (lands e (8 * a + i) % 8)))
        ∙ (λ k. cond (t k && eq-eqb (octet i) (octet i) refl k) (bit_at o i) (bit_at (m (octet i)) (lands e (8 * a + i) % 8)))

    kept : (q j : ℕ) → j < 8 → ((i : ℕ) → i < 8 → bit_at b i ≡ true → lands e (8 * a + i) ≡ 8 * q + j → ⊥) → bit_at (scattered o both m q) j ≡ bit_at (m q) j
    kept q j h free =
        let l : ℕ = logical_bit_of turn j in
        two-put o m q j h
        ∙ ap (λ z. cond z (bit_at o l) (bit_at (m q) j))
        (⊎_elim
        (λ t. let parts = and_parts (bit_at b l) (eqb (octet l) q) t in let begun = started l (omega arith) parts.0 in let here = eqb-true (octet l) q parts.1 in absurd (free l (omega arith) parts.0 (omega arith)))
        (λ f. f) (cases_Bool (bit_at b l && eqb (octet l) q)))

    comes_back : ComesBack e a b o m
    comes_back =
        record {
          sent = sent;
          kept = kept;
          back = λ i new h t. two-got (scattered o both m) new i h ∙ ap (λ z. cond z (bit_at (scattered o both m (octet i)) (lands e (8 * a + i) % 8)) (bit_at new i)) t ∙ sent i h t;
          beside = λ i new h f. two-got m new i h ∙ ap (λ z. cond z (bit_at (m (octet i)) (lands e (8 * a + i) % 8)) (bit_at new i)) f;
        }

pub written-bits-come-back : WrittenBitsComeBack
written-bits-come-back e d a b o m covered = comes_back e a b (λ i h t. (covered i h t).begun) o m
