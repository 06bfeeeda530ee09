-- A whole-octet access stands alone: its eight bits leave none for another.
use Rattle.std.proofs.Common.{◌≡◌, ℕ, ◌+◌, ◌*◌, ◌/◌, ◌<◌, ◌≤◌, true, false, cond, ◌&&◌, eqb, ◌≢◌, ◌⊎◌, List, [], ◌∷◌, ◌++◌, Some, None, Option, sym, refl, ap, ◌∙◌, inl, inr, ⊎_elim, arith}
use Rattle.std.proofs.lemmas.Bool.{and_parts, and_right, both_ways, cases_eq, cond_both, eqb-true, ne_eqb}
use Rattle.access.specs.declared.Direction.{Direction}
use Rattle.bits.specs.declared.share.Share.TheVariants.{Whole, Part}
use Rattle.bits.specs.Bits.{bit_at}
use Rattle.bits.specs.Shares.{share_of, splits}
use Rattle.bits.proofs.Octets.{bit-of, bit-full, octet-none}
use Rattle.mapping.specs.declared.entity.Entity.{Entity}
use Rattle.mapping.specs.declared.mapped.Access.{Access}
use Rattle.mapping.specs.Mapping.{server, is, lands, turn_of, landing_in, access_for, landed_from, served_bits, mapped_from}
use Rattle.mapping.proofs.Steps.{landed_none}
use Rattle.mapping_laws.specs.Whole.{AllParts, Sole, SoleWhole}

parts_join : (xs ys : List Access) → AllParts xs → AllParts ys → AllParts (xs ++ ys)
parts_join [] ys h g = g
parts_join (x ∷ xs) ys (h, hs) g = (h, parts_join xs ys hs g)

part_of : (b t : ℕ) → (b ≡ 255 → ⊥) → splits (share_of b t) ≡ true
part_of b t less = ap (λ z. splits (cond z Whole (Part b t))) (ne_eqb b 255 less)

access-part : (p b t : ℕ) → (b ≡ 255 → ⊥) → AllParts (access_for p b t)
access-part p b t less = cond_both (eqb b 0) [] (record { address = p; share = share_of b t } ∷ []) AllParts (λ z. tt) (λ z. (part_of b t less, tt))

-- at most one entity serves a bit
pub only : (r : Option ℕ) (n m : ℕ) → is n r ≡ true → n ≢ m → is m r ≡ false
only None n m t ne = absurd (both_ways false refl t)
only (Some k) n m t ne = let here = eqb-true n k t in ne_eqb m k (λ e. ne (here ∙ sym e))

-- an octet whose eight bits land together
module _ (e : Entity) (a b p : ℕ) (all : landing_in e a b p ≡ 255) where
  pub together : (i : ℕ) → i < 8 → (bit_at b i ≡ true) × (lands e (8 * a + i) / 8 ≡ p)
  together i h =
      let both = and_parts (bit_at b i) (eqb (lands e (8 * a + i) / 8) p) (sym (bit-of 8 (λ i. bit_at b i && eqb (lands e (8 * a + i) / 8) p) i h) ∙ ap (λ n. bit_at n i) all ∙ bit-full i h) in
      (both.0, eqb-true (lands e (8 * a + i) / 8) p both.1)

  none_beside : (q : ℕ) → p ≢ q → landing_in e a b q ≡ 0
  none_beside q ne =
      sym (octet-none (λ i. bit_at b i && eqb (lands e (8 * a + i) / 8) q) (λ i h. and_right (bit_at b i) (eqb (lands e (8 * a + i) / 8) q) (ne_eqb (lands e (8 * a + i) / 8) q (λ g. ne (sym (together i h).1 ∙ g)))))

module _ (es : List Entity) (d : Direction) (a : ℕ) where
  -- entity n serves the whole logical octet
  By : ℕ → Type 0
  By n = (i : ℕ) → i < 8 → is n (server es d (8 * a + i)) ≡ true

  -- then no other entity makes an access
  unserved : (n m : ℕ) → n ≢ m → By n → served_bits es d a m ≡ 0
  unfolding By
  unserved n m ne by = sym (octet-none (λ i. is m (server es d (8 * a + i))) (λ i h. only (server es d (8 * a + i)) n m (by i h) ne))

  nothing : (n m : ℕ) (e : Entity) → n ≢ m → By n → landed_from e a (served_bits es d a m) ≡ []
  nothing n m e ne by = ap (landed_from e a) (unserved n m ne by) ∙ sym (landed_none e a)

  nothing-after : (n m : ℕ) (rest : List Entity) → n < m → By n → mapped_from es d a m rest ≡ []
  nothing-after n m [] h by = refl
  nothing-after n m (e ∷ rest) h by = (λ k. nothing n m e (λ g. omega arith) by k ++ nothing-after n (m + 1) rest (omega arith) by k)

  all-by : (n p : ℕ) (e : Entity) → landing_in e a (served_bits es d a n) p ≡ 255 → By n
  unfolding By
  all-by n p e all i h = sym (bit-of 8 (λ i. is n (server es d (8 * a + i))) i h) ∙ (together e a (served_bits es d a n) p all i h).0

  abbrev Alone : ℕ → List Entity → Type 0
  Alone n rest = (m : ℕ) × (n ≤ m) × By m × Sole (mapped_from es d a n rest)

  law-from : (n : ℕ) (rest : List Entity) → Alone n rest ⊎ AllParts (mapped_from es d a n rest)
  law-from n [] = inr tt
  law-from n (e ∷ rest) =
      let p : ℕ = lands e (8 * a) / 8 in
      let bits : ℕ = served_bits es d a n in
      let more : List Access = mapped_from es d a (n + 1) rest in
      let whole : ℕ → Access = λ q. record { address = q; share = Whole } in
      ⊎_elim
      (λ all. inl (n, omega arith, all-by n p e all, (whole p, (λ k. (access_for p (all k) (turn_of e) ++ access_for (p + 1) (none_beside e a bits p all (p + 1) (λ g. omega arith) k) (turn_of e)) ++ nothing-after n (n + 1) rest (omega arith) (all-by n p e all) k), refl)))
      (λ less. ⊎_elim
      (λ all. inl (n, omega arith, all-by n (p + 1) e all, (whole (p + 1), (λ k. (access_for p (none_beside e a bits (p + 1) all p (λ g. omega arith) k) (turn_of e) ++ access_for (p + 1) (all k) (turn_of e)) ++ nothing-after n (n + 1) rest (omega arith) (all-by n (p + 1) e all) k), refl)))
      (λ less'. ⊎_elim
      (λ (m, le, by, (x, path, w)). inl (m, omega arith, by, (x, ap (λ z. z ++ more) (nothing m n e (λ g. omega arith) by) ∙ path, w)))
      (λ parts. inr (parts_join (landed_from e a bits) more (parts_join (access_for p (landing_in e a bits p) (turn_of e)) (access_for (p + 1) (landing_in e a bits (p + 1)) (turn_of e)) (access-part p (landing_in e a bits p) (turn_of e) less) (access-part (p + 1) (landing_in e a bits (p + 1)) (turn_of e) less')) parts))
      (law-from (n + 1) rest))
      (cases_eq (landing_in e a bits (p + 1)) 255))
      (cases_eq (landing_in e a bits p) 255)

pub sole-whole : SoleWhole
sole-whole es d a = ⊎_elim (λ alone. inl alone.3) inr (law-from es d a 0 es)
