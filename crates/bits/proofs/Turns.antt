-- Octets turned by some bits, and the bits of a share.
use Rattle.std.proofs.Common.{◌≡◌, ℕ, ◌+◌, ◌-◌, ◌*◌, ◌/◌, ◌%◌, ◌^◌, ◌<◌, ◌≤◌, Bool, true, false, cond, not, ◌&&◌, ◌||◌, eqb, leb, refl, ap, ◌∙◌, ⊎_elim, arith}
use lib.Bits.{bit_and, bit_or, and_le_l, and_le_r, or_comm, or_lt}
use Rattle.std.proofs.Math.Bool.{or_self, or-false}
use Rattle.std.proofs.lemmas.Nat.Bits.{bit_at_above}
use Rattle.std.proofs.lemmas.Bool.{cases_Bool, cases_lt, both_ways}
use Rattle.std.proofs.lemmas.Bool.Decides.{nat_tests}
use Rattle.bits.specs.declared.share.Share.TheVariants.{Whole, Part}
use Rattle.bits.specs.Bits.{bit_at}
use Rattle.bits.specs.Shares.{laid, stored, physical_bit_of, logical_bit_of, AllBitsComeBack}
use Rattle.bits.proofs.Octets.{is-octet, bit-of, bit-and, bit-or, bit_not, bit-shl, bit-shr}

pub bit_high : (x j : ℕ) → x < 256 → 8 ≤ j → bit_at x j ≡ false
unfolding bit_at
bit_high x j h l = ap (λ n. eqb n 1) (bit_at_above x 8 j h l)

-- an octet turned to the left by k
turned : (x k l i : ℕ) → x < 256 → k < 8 → i < 8 → l ≡ (8 - k) % 8 → bit_at (bit_or (x * 2 ^ k % 256) (x / 2 ^ l)) i ≡ bit_at x ((i + 8 - k) % 8)
turned x k l i hx hk hi el =
    bit-or (x * 2 ^ k % 256) (x / 2 ^ l) i ∙ (λ j. bit-shl x k i hi j || bit-shr x l i j)
    ∙ ⊎_elim
    (λ less. let test : leb k i ≡ false = grind (arith, nat_tests) in let place : l + i ≡ (i + 8 - k) % 8 = omega arith in (λ j. (test j && bit_at x (i - k)) || bit_at x (place j)))
    (λ more.
    let test : leb k i ≡ true = grind (arith, nat_tests) in
    let place : i - k ≡ (i + 8 - k) % 8 = omega arith in
    (λ j. (test j && bit_at x (place j)) || bit_at x (l + i)) ∙ ⊎_elim
    (λ none. let same : l + i ≡ (i + 8 - k) % 8 = omega arith in ap (λ n. bit_at x ((i + 8 - k) % 8) || bit_at x n) same ∙ or_self (bit_at x ((i + 8 - k) % 8)))
    (λ some. ap (λ b. bit_at x ((i + 8 - k) % 8) || b) (bit_high x (l + i) hx (omega arith)) ∙ or-false (bit_at x ((i + 8 - k) % 8)))
    (cases_lt k 1))
    (cases_lt i k)

-- what `rotate_left` and `rotate_right` ensure, by bits
rotl-bit : (x t i r : ℕ) → x < 256 → i < 8 → r ≡ bit_or ((x * 2 ^ (t % 8)) % 2 ^ 8) (x / 2 ^ ((8 - t % 8) % 8)) → bit_at r i ≡ bit_at x (logical_bit_of t i)
rotl-bit x t i r hx hi e = ap (λ n. bit_at n i) e ∙ turned x (t % 8) ((8 - t % 8) % 8) i hx (omega arith) hi refl

rotr-bit : (x t i r : ℕ) → x < 256 → i < 8 → r ≡ bit_or (x / 2 ^ (t % 8)) ((x * 2 ^ ((8 - t % 8) % 8)) % 2 ^ 8) → bit_at r i ≡ bit_at x (physical_bit_of t i)
rotr-bit x t i r hx hi e =
    let k : ℕ = (8 - t % 8) % 8 in
    let place : (i + 8 - k) % 8 ≡ (i + t) % 8 = omega arith in
    ap (λ n. bit_at n i) (e ∙ or_comm (x / 2 ^ (t % 8)) ((x * 2 ^ k) % 2 ^ 8)) ∙ turned x k (t % 8) i hx (omega arith) hi (omega arith) ∙ ap (λ n. bit_at x n) place

-- one where the mask is, the other elsewhere
choose : (m o w : Bool) → ((w && not m) || (o && m)) ≡ cond m o w
choose m o w = grind (arith, cases_Bool m, cases_Bool o, cases_Bool w)

pub merged : (w o m i : ℕ) → m < 256 → i < 8 → bit_at (bit_or (bit_and w (255 - m)) (bit_and o m)) i ≡ cond (bit_at m i) (bit_at o i) (bit_at w i)
merged w o m i hm hi =
    bit-or (bit_and w (255 - m)) (bit_and o m) i
    ∙ (λ j. (bit-and w (255 - m) i ∙ ap (λ b. bit_at w i && b) (bit_not m hm i hi)) j || bit-and o m i j)
    ∙ choose (bit_at m i) (bit_at o i) (bit_at w i)

merged-lt : (w o m : ℕ) → w < 256 → m < 256 → bit_or (bit_and w (255 - m)) (bit_and o m) < 256
merged-lt w o m hw hm = or_lt 8 (bit_and w (255 - m)) (bit_and o m) (omega (arith, and_le_l w (255 - m))) (omega (arith, and_le_r o m))

pub laid_is : (b t o v r : ℕ) → b < 256 → o < 256 → v < 256 → r ≡ bit_or (v / 2 ^ (t % 8)) ((v * 2 ^ ((8 - t % 8) % 8)) % 2 ^ 8) → bit_or (bit_and o (255 - b)) (bit_and r b) ≡ laid (Part b t) o v
laid_is b t o v r hb ho hv e =
    is-octet (bit_or (bit_and o (255 - b)) (bit_and r b)) (λ i. cond (bit_at b i) (bit_at v (physical_bit_of t i)) (bit_at o i)) (merged-lt o r b ho hb)
    (λ i h. merged o r b i hb h ∙ ap (λ z. cond (bit_at b i) z (bit_at o i)) (rotr-bit v t i r hv h e))

pub stored_is : (b t old o r q : ℕ) → b < 256 → old < 256 → o < 256 → r < 256 → r ≡ bit_or ((b * 2 ^ (t % 8)) % 2 ^ 8) (b / 2 ^ ((8 - t % 8) % 8)) → q ≡ bit_or ((o * 2 ^ (t % 8)) % 2 ^ 8) (o / 2 ^ ((8 - t % 8) % 8)) → bit_or (bit_and old (255 - r)) (bit_and q r) ≡ stored (Part b t) old o
stored_is b t old o r q hb hold ho hr er eq =
    is-octet (bit_or (bit_and old (255 - r)) (bit_and q r)) (λ j. cond (bit_at b (logical_bit_of t j)) (bit_at o (logical_bit_of t j)) (bit_at old j)) (merged-lt old q r hold hr)
    (λ j h. merged old q r j hr h ∙ (λ k. cond (rotl-bit b t j r hb h er k) (rotl-bit o t j q ho h eq k) (bit_at old j)))

-- the two turns undo one another
there_back : (t i : ℕ) → i < 8 → logical_bit_of t (physical_bit_of t i) ≡ i
there_back t i h = omega arith

pub bits_come_back : AllBitsComeBack
bits_come_back Whole =
    record {
      sent = λ old o i h t. let place : physical_bit_of 0 i ≡ i = omega arith in ap (λ n. bit_at o n) place;
      kept = λ old o j h f. absurd (both_ways true f refl);
      back = λ old o new i h t. refl;
      beside = λ v new i h f. absurd (both_ways true f refl);
    }
bits_come_back (Part b t) =
    let at : (old o i : ℕ) → i < 8 → bit_at b i ≡ true → bit_at (stored (Part b t) old o) (physical_bit_of t i) ≡ bit_at o i = λ old o i h m. bit-of 8 (λ j. cond (bit_at b (logical_bit_of t j)) (bit_at o (logical_bit_of t j)) (bit_at old j)) (physical_bit_of t i) (omega arith) ∙ (λ k. cond (bit_at b (there_back t i h k)) (bit_at o (there_back t i h k)) (bit_at old (physical_bit_of t i))) ∙ ap (λ z. cond z (bit_at o i) (bit_at old (physical_bit_of t i))) m in
    record {
      sent = at;
      kept = λ old o j h f. bit-of 8 (λ j. cond (bit_at b (logical_bit_of t j)) (bit_at o (logical_bit_of t j)) (bit_at old j)) j h ∙ ap (λ z. cond z (bit_at o (logical_bit_of t j)) (bit_at old j)) f;
      back = λ old o new i h m. bit-of 8 (λ i. cond (bit_at b i) (bit_at (stored (Part b t) old o) (physical_bit_of t i)) (bit_at new i)) i h ∙ ap (λ z. cond z (bit_at (stored (Part b t) old o) (physical_bit_of t i)) (bit_at new i)) m ∙ at old o i h m;
      beside = λ v new i h f. bit-of 8 (λ i. cond (bit_at b i) (bit_at v (physical_bit_of t i)) (bit_at new i)) i h ∙ ap (λ z. cond z (bit_at v (physical_bit_of t i)) (bit_at new i)) f;
    }
