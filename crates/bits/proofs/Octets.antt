-- Laws of `bit_at` and `bits_of`: a number of n bits is what its bits say, and what `&`, `|`, `!`, `<<`, `>>` do to them. They are std's laws of
-- a bit as a number, of which `bit_at` says that it is 1.
use Rattle.std.proofs.Common.{◌≡◌, ℕ, zero, suc, ◌+◌, ◌-◌, ◌*◌, ◌/◌, ◌%◌, ◌^◌, ◌<◌, ◌≤◌, Bool, true, false, cond, not, ◌&&◌, ◌||◌, eqb, ltb, leb, min, max, sym, ap, ◌∙◌, ⊎_elim, le_of_suc-le-suc, not-suc-le-zero, pow-suc, arith}
use lib.Bits.{bit_and, bit_or}
use mir.Syntax.{w8}
use Rattle.std.proofs.lemmas.Nat.{shr-shr, pow_pos}
use Rattle.std.proofs.lemmas.Nat.Bits.{bit_at-suc, bit_at-zero, bit_at-lt, bit_at_and, bit_at_or, bit_at_not, bit_at_ones, bit_at_ones_above, bit_at_cat_low, bit_at_cat_high, same_from_bits_below}
use Rattle.std.proofs.lemmas.Bool.{cases_lt}
use Rattle.std.proofs.lemmas.Bool.Decides.{nat_tests}
use Rattle.bits.specs.Bits.{bit_at, bits_of, octet_of}

-- tests of digits that are 0 or 1
digit : (x y : ℕ) → x < 2 → y < 2 → eqb x 1 ≡ eqb y 1 → x ≡ y
digit x y a b e = grind (arith, nat_tests)

digit-min : (x y : ℕ) → x < 2 → y < 2 → eqb (min x y) 1 ≡ (eqb x 1 && eqb y 1)
digit-min x y a b = grind (arith, nat_tests)

digit-max : (x y : ℕ) → x < 2 → y < 2 → eqb (max x y) 1 ≡ (eqb x 1 || eqb y 1)
digit-max x y a b = grind (arith, nat_tests)

digit_not : (x : ℕ) → x < 2 → eqb (1 - x) 1 ≡ not (eqb x 1)
digit_not x a = grind (arith, nat_tests)

pub bits-lt : (n : ℕ) (p : ℕ → Bool) → bits_of n p < 2 ^ n
unfolding bits_of
bits-lt zero p = omega arith
bits-lt (suc n) p =
    let rest = bits-lt n (λ i. p (suc i)) in
    let double = pow-suc 2 n in
    let small : (b : Bool) → cond b 1 0 < 2 = elim [ true ↦ omega arith | false ↦ omega arith ] in
    let last = small (p 0) in
    omega arith

-- bit i of the half is bit i + 1
pub bit-half : (a i : ℕ) → bit_at a (suc i) ≡ bit_at (a / 2) i
unfolding bit_at
bit-half a i = ap (λ n. eqb n 1) (bit_at-suc a i)

low_of : (r : ℕ) (b : Bool) → bit_at (r * 2 + cond b 1 0) 0 ≡ b
unfolding bit_at
low_of r true = grind (arith, nat_tests)
low_of r false = grind (arith, nat_tests)

half_of : (r : ℕ) (b : Bool) → (r * 2 + cond b 1 0) / 2 ≡ r
half_of r true = omega arith
half_of r false = omega arith

pub bit-of : (n : ℕ) (p : ℕ → Bool) (i : ℕ) → i < n → bit_at (bits_of n p) i ≡ p i
unfolding bits_of
bit-of zero p i h = absurd (not-suc-le-zero h)
bit-of (suc n) p zero h = low_of (bits_of n (λ i. p (suc i))) (p 0)
bit-of (suc n) p (suc i) h =
    let r : ℕ = bits_of n (λ i. p (suc i)) in
    bit-half (r * 2 + cond (p 0) 1 0) i ∙ ap (λ x. bit_at x i) (half_of r (p 0)) ∙ bit-of n (λ i. p (suc i)) i (le_of_suc-le-suc h)

pub same_bits : (n a b : ℕ) → a < 2 ^ n → b < 2 ^ n → ((i : ℕ) → i < n → bit_at a i ≡ bit_at b i) → a ≡ b
unfolding bit_at
same_bits n a b ha hb e = same_from_bits_below n a b ha hb (λ i l. digit (a / 2 ^ i % 2) (b / 2 ^ i % 2) (bit_at-lt a i) (bit_at-lt b i) (e i l))

pub is-octet : (x : ℕ) (p : ℕ → Bool) → x < 256 → ((i : ℕ) → i < 8 → bit_at x i ≡ p i) → x ≡ octet_of p
is-octet x p h e = same_bits 8 x (octet_of p) h (bits-lt 8 p) (λ i l. e i l ∙ sym (bit-of 8 p i l))

pub bit-and : (a b i : ℕ) → bit_at (bit_and a b) i ≡ (bit_at a i && bit_at b i)
unfolding bit_at
bit-and a b i = ap (λ n. eqb n 1) (bit_at_and a b i) ∙ digit-min (a / 2 ^ i % 2) (b / 2 ^ i % 2) (bit_at-lt a i) (bit_at-lt b i)

pub bit-or : (a b i : ℕ) → bit_at (bit_or a b) i ≡ (bit_at a i || bit_at b i)
unfolding bit_at
bit-or a b i = ap (λ n. eqb n 1) (bit_at_or a b i) ∙ digit-max (a / 2 ^ i % 2) (b / 2 ^ i % 2) (bit_at-lt a i) (bit_at-lt b i)

pub bit_not : (a : ℕ) → a < 256 → (i : ℕ) → i < 8 → bit_at (255 - a) i ≡ not (bit_at a i)
unfolding bit_at
bit_not a h i l = ap (λ n. eqb n 1) (bit_at_not w8 a i h l) ∙ digit_not (a / 2 ^ i % 2) (bit_at-lt a i)

pub bit-shr : (a k i : ℕ) → bit_at (a / 2 ^ k) i ≡ bit_at a (k + i)
unfolding bit_at
bit-shr a k i = ap (λ n. eqb (n % 2) 1) (shr-shr a k i)

-- the remainder by 256 keeps the eight low bits
pub bit-mod : (a i : ℕ) → i < 8 → bit_at (a % 256) i ≡ bit_at a i
unfolding bit_at
bit-mod a i h =
    let parts : a / 256 * 256 + a % 256 ≡ a = omega arith in
    ap (λ n. eqb n 1) (sym (bit_at_cat_low (a / 256) 8 (a % 256) i h) ∙ ap (λ n. n / 2 ^ i % 2) parts)

-- no bit of 0 is set, and of 255 the eight low ones are
pub bit-zero : (i : ℕ) → bit_at 0 i ≡ false
unfolding bit_at
bit-zero i = ap (λ n. eqb n 1) (bit_at-zero i)

pub bit-full : (i : ℕ) → i < 8 → bit_at 255 i ≡ true
unfolding bit_at
bit-full i h = ap (λ n. eqb n 1) (bit_at_ones 8 i h)

past_octet : (i : ℕ) → 8 ≤ i → bit_at 255 i ≡ false
unfolding bit_at
past_octet i h = ap (λ n. eqb n 1) (bit_at_ones_above 8 i h)

pub bit-255 : (i : ℕ) → bit_at 255 i ≡ ltb i 8
bit-255 i =
    ⊎_elim
    (λ less. let test : true ≡ ltb i 8 = grind (arith, nat_tests) in bit-full i less ∙ test)
    (λ more. let test : false ≡ ltb i 8 = grind (arith, nat_tests) in past_octet i more ∙ test)
    (cases_lt i 8)

pub bit-mul : (a k i : ℕ) → bit_at (a * 2 ^ k) i ≡ (leb k i && bit_at a (i - k))
unfolding bit_at
bit-mul a k i =
    let whole : a * 2 ^ k ≡ a * 2 ^ k + 0 = omega arith in
    ⊎_elim
    (λ less. let test : false ≡ leb k i = grind (arith, nat_tests) in ap (λ n. eqb (n / 2 ^ i % 2) 1) whole ∙ ap (λ n. eqb n 1) (bit_at_cat_low a k 0 i less ∙ bit_at-zero i) ∙ ap (λ t. t && eqb (a / 2 ^ (i - k) % 2) 1) test)
    (λ more. let test : true ≡ leb k i = grind (arith, nat_tests) in ap (λ n. eqb (n / 2 ^ i % 2) 1) whole ∙ ap (λ n. eqb n 1) (bit_at_cat_high a k 0 i (pow_pos k) more) ∙ ap (λ t. t && eqb (a / 2 ^ (i - k) % 2) 1) test)
    (cases_lt i k)

pub bit-shl : (a k i : ℕ) → i < 8 → bit_at (a * 2 ^ k % 256) i ≡ (leb k i && bit_at a (i - k))
bit-shl a k i h = bit-mod (a * 2 ^ k) i h ∙ bit-mul a k i

-- octets made of the same bits are the same, and no bit makes 0
pub octet-same : (p q : ℕ → Bool) → ((i : ℕ) → i < 8 → p i ≡ q i) → octet_of p ≡ octet_of q
octet-same p q e = is-octet (octet_of p) q (bits-lt 8 p) (λ i h. bit-of 8 p i h ∙ e i h)

pub octet-none : (p : ℕ → Bool) → ((i : ℕ) → i < 8 → p i ≡ false) → 0 ≡ octet_of p
octet-none p e = is-octet 0 p (omega arith) (λ i h. bit-zero i ∙ sym (e i h))

-- the bits of a number that is told as an octet
pub reads : (x : ℕ) (q : ℕ → Bool) → x ≡ octet_of q → (i : ℕ) → i < 8 → bit_at x i ≡ q i
reads x q e i h = ap (λ n. bit_at n i) e ∙ bit-of 8 q i h

-- the bits from low to high
pub between : (low high i : ℕ) → high < 8 → i < 8 → bit_at (bit_and (255 * 2 ^ low % 256) (255 / 2 ^ (7 - high))) i ≡ (leb low i && leb i high)
between low high i hh hi =
    let test : ((leb low i && ltb (i - low) 8) && ltb (7 - high + i) 8) ≡ (leb low i && leb i high) = grind (arith, nat_tests) in
    bit-and (255 * 2 ^ low % 256) (255 / 2 ^ (7 - high)) i
    ∙ (λ j. (bit-shl 255 low i hi ∙ ap (λ b. leb low i && b) (bit-255 (i - low))) j && (bit-shr 255 (7 - high) i ∙ bit-255 (7 - high + i)) j)
    ∙ test
