-- Where the accesses of a logical octet take its bits.
use Rattle.std.proofs.Common.{◌≡◌, ℕ, zero, suc, ◌+◌, ◌*◌, ◌/◌, ◌<◌, ◌≤◌, Bool, true, false, cond, not, ◌&&◌, eqb, leb, List, [], ◌∷◌, ◌++◌, length, get_or, take, drop, Some, None, Option, sym, refl, ap, ◌∙◌, ⊎_elim, zero-add, arith}
use Rattle.std.proofs.lemmas.List.{at_drop_more, at_drop_all}
use Rattle.std.proofs.lemmas.Bool.{and_parts, cases_lt, cases_eq, eq-eqb, ne_eqb, le-leb, lt-leb}
use Rattle.std.proofs.lemmas.Bool.Decides.{nat_tests}
use Rattle.access.specs.declared.Direction.{Direction}
use Rattle.cover.specs.Lowest.{Lowest}
use Rattle.bits.specs.declared.share.Share.TheVariants.{Whole, Part}
use Rattle.bits.specs.Bits.{bit_at}
use Rattle.bits.specs.Shares.{share_of, has, turn_in, physical_bit_of}
use Rattle.bits.proofs.Octets.{bit-of, bit-zero, bit-full}
use Rattle.mapping.specs.declared.entity.Entity.{Entity}
use Rattle.mapping.specs.declared.mapped.Access.{Access}
use Rattle.mapping.specs.Registers.{no_entity}
use Rattle.mapping.specs.Mapping.{first_bit, server, is, lands, turn_of, landing_in, access_for, landed_from, served_bits, mapped_from}
use Rattle.mapping.proofs.Ranges.{first_covered, last_covered, server-is}
use Rattle.mapping.proofs.Servers.{some, found-lowest, holds_read, holds_at}
use Rattle.mapping.proofs.Steps.{takes, covered-from}
use Rattle.mapping_laws.specs.Lands.{landings, landed_by, EachBitLandsOnce}
use Rattle.mapping_laws.proofs.Alone.{together}
use Rattle.mapping_laws.proofs.Lowest.{server-law}

join-at : (t : Bool) (x : ℕ) (xs ys zs : List ℕ) → zs ≡ xs ++ ys → cond t (x ∷ zs) zs ≡ cond t (x ∷ xs) xs ++ ys
join-at true x xs ys zs e = ap (λ z. x ∷ z) e
join-at false x xs ys zs e = e

pub landings-join : (i : ℕ) (xs ys : List Access) → landings i (xs ++ ys) ≡ landings i xs ++ landings i ys
landings-join i [] ys = refl
landings-join i (x ∷ xs) ys = join-at (has x.share i) (8 * x.address + physical_bit_of (turn_in x.share) i) (landings i xs) (landings i ys) (landings i (xs ++ ys)) (landings-join i xs ys)

-- one access
module _ (p b t i : ℕ) (place : i < 8) (straight : b ≡ 255 → t ≡ 0) where
  of-share : landings i (record { address = p; share = share_of b t } ∷ []) ≡ cond (bit_at b i) ((8 * p + physical_bit_of t i) ∷ []) []
  of-share =
      ⊎_elim
      (λ all. ap (λ z. landings i (record { address = p; share = cond z Whole (Part b t) } ∷ [])) (eq-eqb b 255 all) ∙ (λ k. cond (sym (ap (λ n. bit_at n i) all ∙ bit-full i place) k) ((8 * p + physical_bit_of (sym (straight all) k) i) ∷ []) []))
      (λ less. ap (λ z. landings i (record { address = p; share = cond z Whole (Part b t) } ∷ [])) (ne_eqb b 255 less))
      (cases_eq b 255)

  pub access-lands : landings i (access_for p b t) ≡ cond (bit_at b i) ((8 * p + physical_bit_of t i) ∷ []) []
  access-lands =
      ⊎_elim
      (λ none. ap (λ z. landings i (cond z [] (record { address = p; share = share_of b t } ∷ []))) (eq-eqb b 0 none) ∙ sym (ap (λ z. cond z ((8 * p + physical_bit_of t i) ∷ []) []) (ap (λ n. bit_at n i) none ∙ bit-zero i)))
      (λ some. ap (λ z. landings i (cond z [] (record { address = p; share = share_of b t } ∷ []))) (ne_eqb b 0 some) ∙ of-share)
      (cases_eq b 0)

-- the two accesses of an entity
module _ (e : Entity) (a b : ℕ) (started : (i : ℕ) → i < 8 → bit_at b i ≡ true → first_bit e ≤ 8 * a + i) where
  pub straight : (p : ℕ) → landing_in e a b p ≡ 255 → turn_of e ≡ 0
  straight p all =
      let first = together e a b p all 0 (omega arith) in
      let last = together e a b p all 7 (omega arith) in
      let begun = started 0 (omega arith) first.0 in
      let one = first.1 in
      let other = last.1 in
      omega arith

  module _ (i : ℕ) (place : i < 8) where
    abbrev here : ℕ
    here = lands e (8 * a + i)

    abbrev near : ℕ
    near = lands e (8 * a) / 8

    lands-near : (p : ℕ) → landings i (access_for p (landing_in e a b p) (turn_of e)) ≡ cond (bit_at b i && eqb (here / 8) p) ((8 * p + physical_bit_of (turn_of e) i) ∷ []) []
    lands-near p =
        access-lands p (landing_in e a b p) (turn_of e) i place (straight p) ∙ ap (λ z. cond z ((8 * p + physical_bit_of (turn_of e) i) ∷ []) []) (bit-of 8 (λ i. bit_at b i && eqb (lands e (8 * a + i) / 8) p) i place)

    two : (m : Bool) → (m ≡ true → first_bit e ≤ 8 * a + i) → cond (m && eqb (here / 8) near) ((8 * near + physical_bit_of (turn_of e) i) ∷ []) [] ++ cond (m && eqb (here / 8) (near + 1)) ((8 * (near + 1) + physical_bit_of (turn_of e) i) ∷ []) [] ≡ cond m (here ∷ []) []
    two false from = refl
    two true from =
        let begun = from refl in
        ⊎_elim
        (λ same. let it : 8 * near + physical_bit_of (turn_of e) i ≡ here = omega arith in let far : (here / 8 ≡ near + 1) → ⊥ = λ g. omega arith in (λ k. cond (eq-eqb (here / 8) near same k) (it k ∷ []) [] ++ cond (ne_eqb (here / 8) (near + 1) far k) ((8 * (near + 1) + physical_bit_of (turn_of e) i) ∷ []) []))
        (λ other. let far : here / 8 ≡ near + 1 = omega arith in let it : 8 * (near + 1) + physical_bit_of (turn_of e) i ≡ here = omega arith in (λ k. cond (ne_eqb (here / 8) near other k) ((8 * near + physical_bit_of (turn_of e) i) ∷ []) [] ++ cond (eq-eqb (here / 8) (near + 1) far k) (it k ∷ []) []))
        (cases_eq (here / 8) near)

    pub entity-lands : landings i (landed_from e a b) ≡ cond (bit_at b i) (here ∷ []) []
    entity-lands =
        landings-join i (access_for near (landing_in e a b near) (turn_of e)) (access_for (near + 1) (landing_in e a b (near + 1)) (turn_of e))
        ∙ (λ k. lands-near near k ++ lands-near (near + 1) k)
        ∙ two (bit_at b i) (started i place)

module _ (es : List Entity) (d : Direction) (a : ℕ) where
  -- the bits that an entity serves, it covers
  pub served-from : (n : ℕ) → n < length es → (i : ℕ) → i < 8 → bit_at (served_bits es d a n) i ≡ true → first_bit (get_or es n no_entity) ≤ 8 * a + i
  served-from n h i l t =
      let serves : (holds_at (takes es d a i) es n && not (some (takes es d a i) (take n es))) ≡ true = sym (found-lowest (first_covered d) (last_covered d) (8 * a + i) es 0 n) ∙ (λ k. is (zero-add n k) (sym (server-is d (8 * a + i) es) k)) ∙ sym (bit-of 8 (λ i. is n (server es d (8 * a + i))) i l) ∙ t in
      covered-from d (get_or es n no_entity) (8 * a + i) (sym (holds_read (takes es d a i) es n no_entity h) ∙ (and_parts _ _ serves).0)

  module _ (i : ℕ) (place : i < 8) where
    abbrev b : ℕ
    b = 8 * a + i

    -- where the entities from n on land the bit
    abbrev after : ℕ → Option ℕ → List ℕ
    after n None = []
    after n (Some m) = cond (leb n m) (lands (get_or es m no_entity) b ∷ []) []

    past : (n : ℕ) (r : Option ℕ) → length es ≤ n → Lowest (first_covered d) (last_covered d) b es r → [] ≡ after n r
    past n None h law = refl
    past n (Some m) h law = let inside = law.0 in sym (ap (λ z. cond z (lands (get_or es m no_entity) b ∷ []) []) (lt-leb n m (omega arith)))

    step : (n : ℕ) (r : Option ℕ) → cond (is n r) (lands (get_or es n no_entity) b ∷ []) [] ++ after (n + 1) r ≡ after n r
    step n None = refl
    step n (Some m) =
        ⊎_elim
        (λ same. (λ k. cond (eq-eqb n m same k) (lands (get_or es (same k) no_entity) b ∷ []) [] ++ cond (lt-leb (n + 1) m (omega arith) k) (lands (get_or es m no_entity) b ∷ []) []) ∙ sym (ap (λ z. cond z (lands (get_or es m no_entity) b ∷ []) []) (le-leb n m (omega arith))))
        (λ other. let test : leb (n + 1) m ≡ leb n m = grind (arith, nat_tests) in (λ k. cond (ne_eqb n m other k) (lands (get_or es n no_entity) b ∷ []) [] ++ cond (test k) (lands (get_or es m no_entity) b ∷ []) []))
        (cases_eq n m)

    from : (k n : ℕ) → length es ≤ n + k → landings i (mapped_from es d a n (drop n es)) ≡ after n (server es d b)
    from zero n h = ap (landings i) (at_drop_all (mapped_from es d a n) es n (omega arith)) ∙ past n (server es d b) (omega arith) (server-law es d b)
    from (suc k) n h =
        ⊎_elim
        (λ less. let here : mapped_from es d a n (drop n es) ≡ landed_from (get_or es n no_entity) a (served_bits es d a n) ++ mapped_from es d a (n + 1) (drop (n + 1) es) = at_drop_more (mapped_from es d a n) es n no_entity less in ap (landings i) here ∙ landings-join i (landed_from (get_or es n no_entity) a (served_bits es d a n)) (mapped_from es d a (n + 1) (drop (n + 1) es)) ∙ (λ j. (entity-lands (get_or es n no_entity) a (served_bits es d a n) (served-from n less) i place ∙ ap (λ z. cond z (lands (get_or es n no_entity) b ∷ []) []) (bit-of 8 (λ i. is n (server es d (8 * a + i))) i place)) j ++ from k (n + 1) (omega arith) j) ∙ step n (server es d b))
        (λ over. ap (landings i) (at_drop_all (mapped_from es d a n) es n over) ∙ past n (server es d b) over (server-law es d b))
        (cases_lt n (length es))

    all : (r : Option ℕ) → after 0 r ≡ landed_by es b r
    all None = refl
    all (Some m) = ap (λ z. cond z (lands (get_or es m no_entity) b ∷ []) []) (le-leb 0 m (omega arith))

pub each-bit-lands-once : EachBitLandsOnce
each-bit-lands-once es d a i h = from es d a i h (length es) 0 (omega arith) ∙ all es d a i h (server es d (8 * a + i))
