-- The octets of a memory of cells that are all 0. Assumes nothing.
use Rattle.std.proofs.Common.{◌≡◌, ℕ, zero, suc, ◌+◌, ◌*◌, ◌<◌, ◌≤◌, min, Bool, true, false, List, ◌∷◌, length, replicate, refl, ap, ◌∙◌, arith}
use Rattle.std.proofs.lemmas.Bool.{leb-true, leb-false}
use Rattle.std.proofs.lemmas.List.{take-replicate, take_all, length-replicate, replicate-append-replicate}
use Rattle.std.specs.Prelude.{nat_le}
use Rattle.memory.specs.Cuts.{counted, joined}
use Rattle.memory.specs.Halves.{halves}
use Rattle.scripts.specs.Played.{zeros}

abbrev pub cells : ℕ → List ℕ
cells n = replicate n 0

cut : (m n : ℕ) → counted m (cells n) ≡ cells (min n m)
cut m n = go (nat_le m n) refl
  where
    go : (b : Bool) → nat_le m n ≡ b → counted m (cells n) ≡ cells (min n m)
    go true e =
        let long : m ≤ n = leb-true m n e in
        let same : m ≡ min n m = omega (arith, long) in
        take-replicate m n 0 long ∙ ap cells same
    go false e =
        let short : n < m = leb-false m n e in
        let fits : length (cells n) ≤ m = omega (arith, length-replicate {A = ℕ} n 0, short) in
        let same : n ≡ min n m = omega (arith, short) in
        take_all m (cells n) fits ∙ ap cells same

halves_zeros : (k : ℕ) → halves (cells k) ≡ cells (2 * k)
halves_zeros zero = refl
halves_zeros (suc k) =
    let same : suc (suc (2 * k)) ≡ 2 * suc k = omega arith in
    ap (λ xs. 0 ∷ (0 ∷ xs)) (halves_zeros k) ∙ ap cells same

pub octets_zeros : (n : ℕ) → counted 61440 (replicate (min n 61456) 0) ≡ zeros n
octets_zeros n =
    let same : min (min n 61456) 61440 ≡ min n 61440 = omega arith in
    cut 61440 (min n 61456) ∙ ap cells same

pub words_zeros : (w : ℕ) → halves (counted 30720 (replicate (min w 61456) 0)) ≡ zeros (2 * w)
words_zeros w =
    let same : 2 * min (min w 61456) 30720 ≡ min (2 * w) 61440 = omega arith in
    ap halves (cut 30720 (min w 61456)) ∙ (halves_zeros (min (min w 61456) 30720) ∙ ap cells same)

pub both_zeros : (n w : ℕ) → joined (counted 61440 (replicate (min n 61456) 0)) (halves (counted 30720 (replicate (min w 61456) 0))) ≡ zeros (n + 2 * w)
both_zeros n w =
    let same : min (min n 61440 + min (2 * w) 61440) 61440 ≡ min (n + 2 * w) 61440 = omega arith in
    (λ i. joined (octets_zeros n i) (words_zeros w i))
    ∙ (ap (counted 61440) (replicate-append-replicate (min n 61440) (min (2 * w) 61440) 0) ∙ (cut 61440 (min n 61440 + min (2 * w) 61440) ∙ ap cells same))
