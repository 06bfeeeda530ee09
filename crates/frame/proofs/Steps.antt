-- Runs over lists one after the other, and the arithmetic of fields of two octets.
use Rattle.std.proofs.Common.{◌≡◌, ℕ, ◌+◌, ◌*◌, ◌/◌, ◌%◌, ◌<◌, Bool, cond, ◌&&◌, eqb, ltb, leb, List, [], ◌∷◌, ◌++◌, fold, refl, ap, arith}
use Rattle.std.proofs.lemmas.Bool.Decides.{nat_tests}
use Rattle.frame.specs.Runs.{emitted}
use Rattle.frame.specs.Datagrams.{pair}
use Rattle.frame.specs.Cursors.{carried}

module _ {S X : Type 0} (next : S → X → S) where
  pub emitted-append : {Y : Type 0} (out : S → X → Y) (s : S) (xs ys : List X) → emitted next out s (xs ++ ys) ≡ emitted next out s xs ++ emitted next out (fold next s xs) ys
  emitted-append out s [] ys = refl
  emitted-append out s (x ∷ xs) ys = ap (λ l. out s x ∷ l) (emitted-append out (next s x) xs ys)

-- a number from its two octets
pub pair-back : (n : ℕ) → pair (n % 256) (n / 256) ≡ n
pair-back n = omega arith

-- LEN and NEXT from theirs
pub length_back : (n s : ℕ) (more : Bool) → n < 2048 → pair (n % 256) ((n / 256 + 8 * s + cond more 128 0) % 8) ≡ n
length_back n s more h = grind (arith, nat_tests)

pub more-back : (n s : ℕ) (more : Bool) → n < 2048 → s < 16 → leb 128 (n / 256 + 8 * s + cond more 128 0) ≡ more
more-back n s more h k = grind (arith, nat_tests)

-- one more, in two octets with a carry
pub next_low : (b : Bool) (n : ℕ) → carried b (n % 256) ≡ cond b ((n + 1) % 65536) n % 256
next_low b n = grind (arith, nat_tests)

pub next-high : (b : Bool) (n : ℕ) → n < 65536 → carried (b && eqb (n % 256) 255) (n / 256) ≡ cond b ((n + 1) % 65536) n / 256
next-high b n h = grind (arith, nat_tests)

-- g more
pub sum_low : (n g : ℕ) → (n % 256 + g) % 256 ≡ (n + g) % 65536 % 256
sum_low n g = omega arith

pub sum-high : (n g : ℕ) → n < 65536 → g < 4 → carried (ltb 255 (n % 256 + g)) (n / 256) ≡ (n + g) % 65536 / 256
sum-high n g h k = grind (arith, nat_tests)
