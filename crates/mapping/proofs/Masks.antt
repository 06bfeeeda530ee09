-- The bits of a range in an octet, and where the bits of a logical octet land.
use Rattle.std.proofs.Common.{◌≡◌, ℕ, ◌+◌, ◌-◌, ◌*◌, ◌/◌, ◌%◌, ◌^◌, ◌<◌, ◌≤◌, Bool, true, false, cond, not, ◌&&◌, eqb, ltb, leb, ◌⊎◌, refl, ap, ◌∙◌, arith}
use lib.Bits.{bit_and, and_le_l, and_le_r}
use Rattle.std.proofs.lemmas.Nat.{shr_le}
use Rattle.std.proofs.lemmas.Bool.Decides.{nat_tests}
use Rattle.bits.specs.Bits.{bit_at, octet_of}
use Rattle.bits.proofs.Octets.{is-octet, bit-and, bit_not, bit-shr, bit-255, octet-none, between}
use Rattle.mapping.specs.declared.entity.Entity.{Entity}
use Rattle.mapping.specs.Mapping.{first_bit, lands, landing_in}

module _ (f l a : ℕ) where
  pub range_none : (a < f / 8) ⊎ ((f / 8 ≤ a) × (l / 8 < a)) → 0 ≡ octet_of (λ i. leb f (8 * a + i) && leb (8 * a + i) l)
  range_none out = octet-none (λ i. leb f (8 * a + i) && leb (8 * a + i) l) (λ i h. grind (arith, nat_tests))

  pub range-some : (low high : ℕ) → f / 8 ≤ a → a ≤ l / 8 → low ≡ cond (eqb a (f / 8)) (f % 8) 0 → high ≡ cond (eqb a (l / 8)) (l % 8) 7 → bit_and (255 * 2 ^ low % 256) (255 / 2 ^ (7 - high)) ≡ octet_of (λ i. leb f (8 * a + i) && leb (8 * a + i) l)
  range-some low high begun open' low-is high_is =
      let fits = and_le_r (255 * 2 ^ low % 256) (255 / 2 ^ (7 - high)) in
      let fits' = shr_le 255 (7 - high) in
      let small : high < 8 = grind (arith, nat_tests) in
      is-octet (bit_and (255 * 2 ^ low % 256) (255 / 2 ^ (7 - high))) (λ i. leb f (8 * a + i) && leb (8 * a + i) l) (omega arith)
      (λ i h. let test : (leb low i && leb i high) ≡ (leb f (8 * a + i) && leb (8 * a + i) l) = grind (arith, nat_tests) in between low high i small h ∙ test)

-- under a test, what holds where it does
under : (b p q : Bool) → (b ≡ true → p ≡ q) → (b && p) ≡ (b && q)
under true p q e = e refl
under false p q e = refl

-- of the bits of logical octet a, those that come before the end of the physical octet where its bit 0 lands, and the others
module _ (e : Entity) (a m : ℕ) (octet : m < 256) (started : (i : ℕ) → i < 8 → bit_at m i ≡ true → first_bit e ≤ 8 * a + i) where
  abbrev base : ℕ
  base = lands e (8 * a)

  near : (i : ℕ) → i < 8 → first_bit e ≤ 8 * a + i → ltb (base % 8 + i) 8 ≡ eqb (lands e (8 * a + i) / 8) (base / 8)
  near i h begun = grind (arith, nat_tests)

  far : (i : ℕ) → i < 8 → first_bit e ≤ 8 * a + i → not (ltb (base % 8 + i) 8) ≡ eqb (lands e (8 * a + i) / 8) (base / 8 + 1)
  far i h begun = grind (arith, nat_tests)

  pub near-bits : bit_and m (255 / 2 ^ (base % 8)) ≡ landing_in e a m (base / 8)
  near-bits =
      is-octet (bit_and m (255 / 2 ^ (base % 8))) (λ i. bit_at m i && eqb (lands e (8 * a + i) / 8) (base / 8)) (omega (arith, and_le_l m (255 / 2 ^ (base % 8))))
      (λ i h. bit-and m (255 / 2 ^ (base % 8)) i ∙ ap (λ b. bit_at m i && b) (bit-shr 255 (base % 8) i ∙ bit-255 (base % 8 + i)) ∙ under (bit_at m i) _ _ (λ t. near i h (started i h t)))

  pub far-bits : bit_and m (255 - 255 / 2 ^ (base % 8)) ≡ landing_in e a m (base / 8 + 1)
  far-bits =
      let small = shr_le 255 (base % 8) in
      is-octet (bit_and m (255 - 255 / 2 ^ (base % 8))) (λ i. bit_at m i && eqb (lands e (8 * a + i) / 8) (base / 8 + 1)) (omega (arith, and_le_l m (255 - 255 / 2 ^ (base % 8))))
      (λ i h. bit-and m (255 - 255 / 2 ^ (base % 8)) i ∙ ap (λ b. bit_at m i && b) (bit_not (255 / 2 ^ (base % 8)) (omega arith) i h ∙ ap not (bit-shr 255 (base % 8) i ∙ bit-255 (base % 8 + i))) ∙ under (bit_at m i) _ _ (λ t. far i h (started i h t)))
