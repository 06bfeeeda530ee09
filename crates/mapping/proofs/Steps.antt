-- The accesses of a logical octet, entity by entity.
use Rattle.std.proofs.Common.{◌≡◌, ℕ, zero, suc, ◌+◌, ◌-◌, ◌*◌, ◌/◌, ◌<◌, ◌≤◌, Bool, true, false, cond, ◌&&◌, eqb, leb, List, [], ◌++◌, length, get_or, take, drop, None, Option, sym, refl, ap, ◌∙◌, subst, ⊎_elim, append_assoc, append-nil, zero-add, arith, length-drop}
use lib.Bits.{bit_and, and_zero_l, and_zero_r, and_mask}
use Rattle.std.specs.List.{AllWithin}
use Rattle.std.proofs.lemmas.List.{at_drop_more, at_drop_all, get_or-drop, take_rest}
use Rattle.std.proofs.Math.Seq.{drop-drop}
use Rattle.std.proofs.lemmas.Bool.{cases_Bool, cases_lt, and_left, and_parts}
use Rattle.std.proofs.lemmas.Bool.Decides.{nat_tests}
use Rattle.access.specs.declared.Direction.{Direction}
use Rattle.cover.specs.Lowest.{covers, Covers, Lowest}
use Rattle.bits.specs.Bits.{bit_at, octet_of}
use Rattle.bits.proofs.Octets.{bits-lt, bit-zero, bit-and, octet-same, octet-none, reads}
use Rattle.mapping.specs.declared.entity.Entity.{Entity}
use Rattle.mapping.specs.declared.mapped.Access.{Access}
use Rattle.mapping.specs.declared.serving.BitRange.{BitRange}
use Rattle.mapping.specs.Registers.{no_entity}
use Rattle.mapping.specs.Mapping.{first_bit, last_bit, works, bits_covered, first_octet, last_octet, is, lands, turn_of, landing_in, access_for, landed_from, served_bits, mapped_from, mapped_accesses}
use Rattle.mapping.proofs.Ranges.{first_covered, last_covered, server-is}
use Rattle.mapping.proofs.Servers.{lowest, found-lowest, Free, free-fits, free-none, free_more, share-is}

-- what covering a bit tells of an entity
module _ (d : Direction) (e : Entity) (b : ℕ) where
  abbrev chosen : Bool → BitRange
  chosen t = cond t (record { first = first_bit e; last = last_bit e }) (record { first = 1; last = 0 })

  covering-at : (t : Bool) → works d e ≡ t → covers (first_covered d) (last_covered d) b e ≡ (t && (leb (first_bit e) b && leb b (last_bit e)))
  covering-at true w = ap (λ z. leb (chosen z).first b && leb b (chosen z).last) w
  covering-at false w =
      let none : (leb 1 b && leb b 0) ≡ false = grind (arith, nat_tests) in
      ap (λ z. leb (chosen z).first b && leb b (chosen z).last) w ∙ none

  pub covering : covers (first_covered d) (last_covered d) b e ≡ (works d e && (leb (first_bit e) b && leb b (last_bit e)))
  covering = covering-at (works d e) refl

  pub covered-from : covers (first_covered d) (last_covered d) b e ≡ true → first_bit e ≤ b
  covered-from t = let known = sym covering ∙ t in grind (arith, nat_tests)

-- an entity that covers a bit of the octet lies in it
pub lies_in : (d : Direction) (e : Entity) (a i : ℕ) → i < 8 → covers (first_covered d) (last_covered d) (8 * a + i) e ≡ true → Covers first_octet last_octet a e
lies_in d e a i h t = let known = sym (covering d e (8 * a + i)) ∙ t in (grind (arith, nat_tests), grind (arith, nat_tests))

elsewhere : (d : Direction) (e : Entity) (a i : ℕ) → i < 8 → (Covers first_octet last_octet a e → ⊥) → covers (first_covered d) (last_covered d) (8 * a + i) e ≡ false
elsewhere d e a i h out = ⊎_elim (λ t. absurd (out (lies_in d e a i h t))) (λ f. f) (cases_Bool (covers (first_covered d) (last_covered d) (8 * a + i) e))

-- no bits make no access
landing-none : (e : Entity) (a p : ℕ) → 0 ≡ landing_in e a 0 p
landing-none e a p = octet-none (λ i. bit_at 0 i && eqb (lands e (8 * a + i) / 8) p) (λ i h. and_left (bit_at 0 i) _ (bit-zero i))

pub landed_none : (e : Entity) (a : ℕ) → [] ≡ landed_from e a 0
landed_none e a = λ k. access_for (lands e (8 * a) / 8) (landing-none e a (lands e (8 * a) / 8) k) (turn_of e) ++ access_for (lands e (8 * a) / 8 + 1) (landing-none e a (lands e (8 * a) / 8 + 1) k) (turn_of e)

module _ (es : List Entity) (d : Direction) (a : ℕ) where
  -- entity e takes bit i, were it alone
  abbrev pub takes : ℕ → Entity → Bool
  takes i e = covers (first_covered d) (last_covered d) (8 * a + i) e

  pub served-is : (n : ℕ) → served_bits es d a n ≡ octet_of (λ i. lowest (takes i) es n)
  served-is n = octet-same _ _ (λ i h. (λ k. is (sym (zero-add n) k) (server-is d (8 * a + i) es k)) ∙ found-lowest (first_covered d) (last_covered d) (8 * a + i) es 0 n)

  -- n entities are done: the bits that are left, and the accesses so far, to which the other entities add the rest
  pub record Walked (n free : ℕ) (xs : List Access) : Type 0 where
    pub left : Free takes es free n
    pub gives : xs ++ mapped_from es d a n (drop n es) ≡ mapped_accesses es d a
    pub inside : n ≤ length es

  pub walked_none : Walked 0 255 []
  walked_none = record { left = free-none takes es; gives = refl; inside = omega arith }

  pub walked_more : (n free y : ℕ) (e : Entity) (xs ys : List Access) → n < length es → y < 256 → y ≡ octet_of (λ i. takes i (get_or es n e)) → ys ≡ xs ++ landed_from (get_or es n e) a (bit_and y free) → Walked n free xs → Walked (n + 1) (bit_and free (255 - y)) ys
  walked_more n free y e xs ys h small told ys-is w =
      let rest : List Access = mapped_from es d a (n + 1) (drop (n + 1) es) in
      let share : bit_and y free ≡ served_bits es d a n = share-is takes es free n y e h small told w.left ∙ sym (served-is n) in
      let step : mapped_from es d a n (drop n es) ≡ landed_from (get_or es n e) a (served_bits es d a n) ++ rest = at_drop_more (mapped_from es d a n) es n e h in
      record {
        left = free_more takes es free n y e h small told w.left;
        gives = ap (λ z. z ++ rest) (ys-is ∙ ap (λ m. xs ++ landed_from (get_or es n e) a m) share) ∙ append_assoc xs (landed_from (get_or es n e) a (served_bits es d a n)) rest ∙ ap (λ z. xs ++ z) (sym step) ∙ w.gives;
        inside = omega arith;
      }

  -- an entity that takes none of the free bits adds nothing
  passed : (n free y : ℕ) (xs : List Access) → n < length es → y ≡ octet_of (λ i. takes i (get_or es n no_entity)) → bit_and y free ≡ 0 → bit_and free (255 - y) ≡ free → Walked n free xs → Walked (n + 1) free xs
  passed n free y xs h told nothing stays w =
      let small : y < 256 = subst (λ m. m < 256) (sym told) (bits-lt 8 (λ i. takes i (get_or es n no_entity))) in
      let same : xs ≡ xs ++ landed_from (get_or es n no_entity) a (bit_and y free) = sym (append-nil xs) ∙ ap (λ z. xs ++ z) (landed_none (get_or es n no_entity) a) ∙ ap (λ m. xs ++ landed_from (get_or es n no_entity) a m) (sym nothing) in
      subst (λ m. Walked (n + 1) m xs) stays (walked_more n free y no_entity xs xs h small told same w)

  skipped : (n free : ℕ) (xs : List Access) → n < length es → (Covers first_octet last_octet a (get_or es n no_entity) → ⊥) → Walked n free xs → Walked (n + 1) free xs
  skipped n free xs h out w =
      let fits = free-fits takes es free n w.left in
      let full : bit_and free 255 ≡ free = and_mask free 8 ∙ omega arith in
      passed n free 0 xs h (octet-none (λ i. takes i (get_or es n no_entity)) (λ i l. elsewhere d (get_or es n no_entity) a i l out)) (and_zero_l free) full w

  full : (n : ℕ) (xs : List Access) → n < length es → Walked n 0 xs → Walked (n + 1) 0 xs
  full n xs h w = passed n 0 (octet_of (λ i. takes i (get_or es n no_entity))) xs h refl (and_zero_r (octet_of (λ i. takes i (get_or es n no_entity)))) (and_zero_l (255 - octet_of (λ i. takes i (get_or es n no_entity)))) w

  -- k entities that lie elsewhere
  pub walked_by : (k n free : ℕ) (xs : List Access) → n + k ≤ length es → AllWithin (λ e. Covers first_octet last_octet a e → ⊥) (drop n es) 0 k → Walked n free xs → Walked (n + k) free xs
  walked_by zero n free xs h out w = let place : n ≡ n + 0 = omega arith in subst (λ m. Walked m free xs) place w
  walked_by (suc k) n free xs h out w =
      let place : n + k + 1 ≡ n + suc k = omega arith in
      let past = walked_by k n free xs (omega arith) (λ j e l g. out j e l (omega arith)) w in
      let here : Covers first_octet last_octet a (get_or es (n + k) no_entity) → ⊥ = subst (λ e. Covers first_octet last_octet a e → ⊥) (get_or-drop n es k no_entity) (out k no_entity (omega arith) (omega arith)) in
      subst (λ m. Walked m free xs) place (skipped (n + k) free xs (omega arith) here past)

  ended : (n free : ℕ) (xs : List Access) → length es ≤ n → Walked n free xs → xs ≡ mapped_accesses es d a
  ended n free xs h w = sym (append-nil xs) ∙ ap (λ z. xs ++ z) (sym (at_drop_all (mapped_from es d a n) es n h)) ∙ w.gives

  -- no entity is left that lies in the octet
  pub walked_all : (n free : ℕ) (xs : List Access) → AllWithin (λ e. Covers first_octet last_octet a e → ⊥) (drop n es) 0 (length (drop n es)) → Walked n free xs → xs ≡ mapped_accesses es d a
  walked_all n free xs out w =
      let long = length-drop n es in
      let inside = w.inside in
      ended (n + length (drop n es)) free xs (omega arith) (walked_by (length (drop n es)) n free xs (omega arith) out w)

  -- no bit is left
  pub walked-full : (k n : ℕ) (xs : List Access) → length es ≤ n + k → Walked n 0 xs → xs ≡ mapped_accesses es d a
  walked-full zero n xs h w = ended n 0 xs (omega arith) w
  walked-full (suc k) n xs h w =
      ⊎_elim (λ less. walked-full k (n + 1) xs (omega arith) (full n xs less w)) (λ past. ended n 0 xs past w) (cases_lt n (length es))

  -- the mask of an entity's range
  told-by : (e : Entity) (y : ℕ) (r : BitRange) → y ≡ octet_of (λ i. leb r.first (8 * a + i) && leb (8 * a + i) r.last) → r ≡ bits_covered d e → y ≡ octet_of (λ i. takes i e)
  told-by e y r y-is r-is = y-is ∙ ap (λ r. octet_of (λ i. leb r.first (8 * a + i) && leb (8 * a + i) r.last)) r-is

  -- of the entities `rest` is left, of the bits `free`, and xs are the accesses so far
  pub record Reached (rest : List Entity) (free : ℕ) (xs : List Access) : Type 0 where
    pub past : ℕ
    pub begins : rest ≡ drop past es
    pub walked : Walked past free xs
    pub few : length xs ≤ 2 * past

  pub reached_none : Reached es 255 []
  reached_none = record { past = 0; begins = refl; walked = walked_none; few = omega arith }

  -- one turn of the search: entity k of the rest lies in the octet and covers the bits of y there, and the k before it lie elsewhere
  module _ (rest : List Entity) (k free y : ℕ) (r : BitRange) (y-is : y ≡ octet_of (λ i. leb r.first (8 * a + i) && leb (8 * a + i) r.last)) (r-is : r ≡ bits_covered d (get_or rest k no_entity)) where
    abbrev entity : Entity
    entity = get_or rest k no_entity

    told : y ≡ octet_of (λ i. takes i entity)
    told = told-by entity y r y-is r-is

    pub started : (i : ℕ) → i < 8 → bit_at (bit_and y free) i ≡ true → first_bit entity ≤ 8 * a + i
    started i h t = covered-from d entity (8 * a + i) (sym (reads y (λ i. takes i entity) told i h) ∙ (and_parts (bit_at y i) (bit_at free i) (sym (bit-and y free i) ∙ t)).0)

    pub reached_more : (left : List Entity) (xs ys : List Access) → left ≡ take (length rest - (k + 1)) (drop (k + 1) rest) → k < length rest → AllWithin (λ e. Covers first_octet last_octet a e → ⊥) rest 0 k → y < 256 → ys ≡ xs ++ landed_from entity a (bit_and y free) → length ys ≤ length xs + 2 → Reached rest free xs → Reached left (bit_and free (255 - y)) ys
    reached_more left xs ys left-is h out small ys-is more w =
        let n = w.past in
        let few = w.few in
        let long : length rest ≡ length es - n = ap length w.begins ∙ length-drop n es in
        let same : entity ≡ get_or es (n + k) no_entity = ap (λ es. get_or es k no_entity) w.begins ∙ get_or-drop n es k no_entity in
        let before = walked_by k n free xs (omega arith) (subst (λ es. AllWithin (λ e. Covers first_octet last_octet a e → ⊥) es 0 k) w.begins out) w.walked in
        let place : n + k + 1 ≡ n + (k + 1) = omega arith in
        record {
          past = n + (k + 1);
          begins = left-is ∙ take_rest rest (k + 1) ∙ ap (drop (k + 1)) w.begins ∙ drop-drop (k + 1) n es;
          walked =
              subst (λ m. Walked m (bit_and free (255 - y)) ys) place
              (walked_more (n + k) free y no_entity xs ys (omega arith) small (told ∙ ap (λ e. octet_of (λ i. takes i e)) same) (ys-is ∙ ap (λ e. xs ++ landed_from e a (bit_and y free)) same) before);
          few = omega arith;
        }

  -- no entity of the rest lies in the octet
  pub reached_all : (rest : List Entity) (free : ℕ) (xs : List Access) (r : Option ℕ) → Lowest first_octet last_octet a rest r → r ≡ None → Reached rest free xs → xs ≡ mapped_accesses es d a
  reached_all rest free xs r law none w =
      walked_all w.past free xs (subst (λ es. AllWithin (λ e. Covers first_octet last_octet a e → ⊥) es 0 (length es)) w.begins (subst (Lowest first_octet last_octet a rest) none law)) w.walked

  -- no bit is left
  pub reached-full : (rest : List Entity) (xs : List Access) → Reached rest 0 xs → xs ≡ mapped_accesses es d a
  reached-full rest xs w = walked-full (length es) w.past xs (omega arith) w.walked
