-- The lowest covering entity serves a bit.
use Rattle.std.proofs.Common.{◌≡◌, ℕ, true, ◌&&◌, leb, List, length, Some, None, Option, sym, ◌∙◌, ⊎_elim, arith, MatchOption}
use Rattle.std.specs.List.{AllWithin}
use Rattle.std.proofs.lemmas.Bool.{cases_order, and_parts, leb-true}
use Rattle.std.proofs.lemmas.Bool.Decides.{nat_tests}
use Rattle.access.specs.declared.Direction.{Direction}
use Rattle.cover.specs.Lowest.{Covers, Lowest}
use Rattle.cover.proofs.Found.{law-at, covers-true}
use Rattle.mapping.specs.declared.entity.Entity.{Entity}
use Rattle.mapping.specs.Registers.{no_entity}
use Rattle.mapping.specs.Mapping.{first_bit, last_bit, works, server, lands}
use Rattle.mapping.proofs.Ranges.{first_covered, last_covered, server-is}
use Rattle.mapping.proofs.Steps.{covering}
use Rattle.mapping_laws.specs.Serves.{CoversBit, Serves, EveryBitServedByOne}

module _ (d : Direction) (b : ℕ) (e : Entity) where
  pub covers-bit : Covers (first_covered d) (last_covered d) b e → CoversBit d b e
  covers-bit (l, h) =
      let known : (works d e && (leb (first_bit e) b && leb b (last_bit e))) ≡ true = sym (covering d e b) ∙ covers-true (first_covered d) (last_covered d) b e l h in
      record { active = grind (arith, nat_tests); allowed = grind (arith, nat_tests); long = grind (arith, nat_tests); begun = grind (arith, nat_tests); ended = grind (arith, nat_tests); below = grind (arith, nat_tests) }

  pub bit-covered : CoversBit d b e → Covers (first_covered d) (last_covered d) b e
  bit-covered c =
      let a = c.active in
      let w = c.allowed in
      let known : (works d e && (leb (first_bit e) b && leb b (last_bit e))) ≡ true = grind (arith, nat_tests) in
      let both = and_parts _ _ (covering d e b ∙ known) in
      (leb-true _ _ both.0, leb-true _ _ both.1)

-- the search among the ranges has the law of the lowest
pub server-law : (es : List Entity) (d : Direction) (b : ℕ) → Lowest (first_covered d) (last_covered d) b es (server es d b)
server-law es d b = law-at (first_covered d) (last_covered d) b es (server es d b) (server-is d b es)

pub told-by-rule : (es : List Entity) (d : Direction) (b : ℕ) (r : Option ℕ) → Lowest (first_covered d) (last_covered d) b es r → MatchOption r (AllWithin (λ e. CoversBit d b e → ⊥) es 0 (length es)) (λ n. Serves es d b n)
told-by-rule es d b None every = λ k e l h c. every k e l h (bit-covered d b _ c)
told-by-rule es d b (Some n) (h, at, every) = (h, (λ e. covers-bit d b _ (at e)), (λ k e l g c. every k e l g (bit-covered d b _ c)))

one-serves : (es : List Entity) (d : Direction) (b n m : ℕ) → Serves es d b n → Serves es d b m → n ≡ m
one-serves es d b n m (hn, at_n, below-n) (hm, at-m, below-m) =
    ⊎_elim (λ e. e)
    (⊎_elim (λ less. absurd (below-m n no_entity (omega arith) less (at_n no_entity))) (λ more. absurd (below-n m no_entity (omega arith) more (at-m no_entity))))
    (cases_order n m)

lands-apart : (d : Direction) (e : Entity) (b c : ℕ) → CoversBit d b e → CoversBit d c e → lands e b ≡ lands e c → b ≡ c
lands-apart d e b c hb hc same = let from = hb.begun in let from' = hc.begun in omega arith

pub every-bit-served-by-one : EveryBitServedByOne
every-bit-served-by-one es d =
    record {
      told = λ b. told-by-rule es d b (server es d b) (server-law es d b);
      one = one-serves es d;
      apart = lands-apart d;
    }
