-- Register octets of an entity are read back as they were written.
use Rattle.std.proofs.Common.{◌≡◌, ℕ, ◌+◌, ◌-◌, ◌*◌, ◌/◌, ◌%◌, ◌<◌, ◌≤◌, Bool, true, false, cond, ◌&&◌, eqb, ltb, leb, ◌≢◌, refl, ap, ◌∙◌, arith}
use Rattle.std.proofs.lemmas.Bool.{ltb-true, ltb-false, eqb-true, lt-ltb, both_ways}
use Rattle.std.proofs.lemmas.Bool.Decides.{nat_tests}
use Rattle.access.specs.Fields.{bit, octet_at, with_octet}
use Rattle.access.proofs.Fields.{reads-back}
use Rattle.mapping.specs.declared.entity.Entity.{Entity}
use Rattle.mapping.specs.Registers.{part_of, entity_octet, with_entity_octet, kept, EntitiesReadBack}

-- under each answer of a test
both : (t : Bool) (x y x' y' : ℕ) → (t ≡ true → x ≡ x') → (t ≡ false → y ≡ y') → cond t x y ≡ cond t x' y'
both true x y x' y' here past = here refl
both false x y x' y' here past = past refl

-- two octets are the same if their parts are
parts : (i l n s t p b y a l' n' s' t' p' b' y' a' : ℕ) → (i < 4 → l ≡ l') → (4 ≤ i → i < 6 → n ≡ n') → (i ≡ 6 → s ≡ s') → (i ≡ 7 → t ≡ t') → (8 ≤ i → i < 10 → p ≡ p') → (i ≡ 10 → b ≡ b') → (i ≡ 11 → y ≡ y') → (i ≡ 12 → a ≡ a') → part_of i l n s t p b y a ≡ part_of i l' n' s' t' p' b' y' a'
parts i l n s t p b y a l' n' s' t' p' b' y' a' hl hn hs ht hp hb hy ha =
    both (ltb i 4) _ _ _ _ (λ e. hl (ltb-true i 4 e))
    (λ f₁. both (ltb i 6) _ _ _ _ (λ e. hn (ltb-false i 4 f₁) (ltb-true i 6 e))
    (λ f₂. both (eqb i 6) _ _ _ _ (λ e. hs (eqb-true i 6 e))
    (λ f₃. both (eqb i 7) _ _ _ _ (λ e. ht (eqb-true i 7 e))
    (λ f₄. both (ltb i 10) _ _ _ _ (λ e. let begun : 8 ≤ i = grind (arith, nat_tests) in hp begun (ltb-true i 10 e))
    (λ f₅. both (eqb i 10) _ _ _ _ (λ e. hb (eqb-true i 10 e))
    (λ f₆. both (eqb i 11) _ _ _ _ (λ e. hy (eqb-true i 11 e))
    (λ f₇. both (eqb i 12) _ _ _ _ (λ e. ha (eqb-true i 12 e)) (λ f₈. refl))))))))

-- of a field of w octets octet q is written, if the test says so
module _ (w n q v : ℕ) (octet : v < 256) where
  field-same : (t : Bool) → t ≡ true → q < w → octet_at w (cond t (with_octet w n q v) n) q ≡ v
  field-same true e h = (reads-back w n q v octet).same h
  field-same false e h = absurd (both_ways false refl e)

  field-other : (r : ℕ) (t : Bool) → (t ≡ true → r ≢ q) → octet_at w (cond t (with_octet w n q v) n) r ≡ octet_at w n r
  field-other r true apart = (reads-back w n q v octet).other r (apart refl)
  field-other r false apart = refl

-- of eight octets' parts one was written
written : {X : Type 0} (t : Bool) (x y : X) → t ≡ true → cond t x y ≡ x
written true x y e = refl
written false x y e = absurd (both_ways false refl e)

unwritten : {X : Type 0} (t : Bool) (x y : X) → t ≡ false → cond t x y ≡ y
unwritten true x y e = absurd (both_ways true e refl)
unwritten false x y e = refl

type-bits : (v : ℕ) → bit (eqb (v % 2) 1) + 2 * bit (eqb (v / 2 % 2) 1) ≡ v % 4
type-bits v = grind (arith, nat_tests)

low_bit : (v : ℕ) → bit (eqb (v % 2) 1) ≡ v % 2
low_bit v = grind (arith, nat_tests)

low-three : (v : ℕ) → v % 8 % 8 ≡ v % 8
low-three v = omega arith

module _ (e : Entity) (i v : ℕ) (octet : v < 256) where
  at : (n : ℕ) → i ≡ n → eqb i n ≡ true
  at n h = grind (arith, nat_tests)

  past : (n j : ℕ) → j ≢ i → j ≡ n → eqb i n ≡ false
  past n j apart h = grind (arith, nat_tests)

  within : (m n : ℕ) → m ≤ i → i < n → (leb m i && ltb i n) ≡ true
  within m n l h = grind (arith, nat_tests)

  begun : (m n : ℕ) → (leb m i && ltb i n) ≡ true → m ≤ i
  begun m n t = grind (arith, nat_tests)

  three : (n s : ℕ) → i ≡ n → cond (eqb i n) (v % 8) s % 8 ≡ v % 8
  three n s h = ap (λ x. x % 8) (written (eqb i n) (v % 8) s (at n h)) ∙ low-three v

  three-left : (n s j : ℕ) → j ≢ i → j ≡ n → cond (eqb i n) (v % 8) s % 8 ≡ s % 8
  three-left n s j apart h = ap (λ x. x % 8) (unwritten (eqb i n) (v % 8) s (past n j apart h))

  same : entity_octet (with_entity_octet e i v) i ≡ kept i v
  same =
      parts i _ _ _ _ _ _ _ _ _ _ _ _ _ _ _ _ (λ l. field-same 4 e.logical i v octet (ltb i 4) (lt-ltb i 4 l) l)
      (λ l h. field-same 2 e.length (i - 4) v octet (leb 4 i && ltb i 6) (within 4 6 l h) (omega arith)) (three 6 e.start_bit) (three 7 e.stop_bit)
      (λ l h. field-same 2 e.physical (i - 8) v octet (leb 8 i && ltb i 10) (within 8 10 l h) (omega arith)) (three 10 e.physical_bit)
      (λ h. (λ k. bit (written (eqb i 11) (eqb (v % 2) 1) e.reads (at 11 h) k) + 2 * bit (written (eqb i 11) (eqb (v / 2 % 2) 1) e.writes (at 11 h) k)) ∙ type-bits v)
      (λ h. ap bit (written (eqb i 12) (eqb (v % 2) 1) e.active (at 12 h)) ∙ low_bit v)

  other : (j : ℕ) → j ≢ i → entity_octet (with_entity_octet e i v) j ≡ entity_octet e j
  other j apart =
      parts j _ _ _ _ _ _ _ _ _ _ _ _ _ _ _ _ (λ h. field-other 4 e.logical i v octet j (ltb i 4) (λ t. apart))
      (λ l h. field-other 2 e.length (i - 4) v octet (j - 4) (leb 4 i && ltb i 6) (λ t k. let from = begun 4 6 t in apart (omega arith))) (three-left 6 e.start_bit j apart) (three-left 7 e.stop_bit j apart)
      (λ l h. field-other 2 e.physical (i - 8) v octet (j - 8) (leb 8 i && ltb i 10) (λ t k. let from = begun 8 10 t in apart (omega arith))) (three-left 10 e.physical_bit j apart)
      (λ h. (λ k. bit (unwritten (eqb i 11) (eqb (v % 2) 1) e.reads (past 11 j apart h) k) + 2 * bit (unwritten (eqb i 11) (eqb (v / 2 % 2) 1) e.writes (past 11 j apart h) k)))
      (λ h. ap bit (unwritten (eqb i 12) (eqb (v % 2) 1) e.active (past 12 j apart h)))

pub entities-read-back : EntitiesReadBack
entities-read-back e i v octet = record { same = same e i v octet; other = other e i v octet }
