-- Reading and replacing a half of a word in the list of halves. Assumes nothing.
use Rattle.std.proofs.Common.{◌≡◌, ℕ, zero, suc, ◌+◌, ◌*◌, ◌/◌, ◌%◌, ◌<◌, min, List, [], ◌∷◌, length, get_or, set, Ok, sym, refl, ap, ◌∙◌, arith}
use Rattle.memory.specs.Octets.{read_of}
use Rattle.memory.specs.Halves.{halves, half_at, with_half, length-halves}
use Rattle.memory.specs.Cuts.{counted}
use Rattle.memory.proofs.Cuts.{length_counted, counted-get, counted_set}
use Rattle.memory.proofs.Answers.{read-inside}

-- two places further is one word further
word_more : (i : ℕ) → suc (suc i) / 2 ≡ suc (i / 2)
word_more i = omega arith

half-more : (i : ℕ) → suc (suc i) % 2 ≡ i % 2
half-more i = omega arith

pub read-half : (ws : List ℕ) (i : ℕ) → get_or (halves ws) i 0 ≡ half_at (get_or ws (i / 2) 0) i
read-half [] i = grind (arith)
read-half (w ∷ ws) zero = refl
read-half (w ∷ ws) (suc zero) = refl
read-half (w ∷ ws) (suc (suc i)) = rw (word_more, half-more) (read-half ws i)

pub write-half : (ws : List ℕ) (i v : ℕ) → v < 256 → halves (set ws (i / 2) (with_half (get_or ws (i / 2) 0) i v)) ≡ set (halves ws) i v
write-half [] i v h = refl
write-half (w ∷ ws) zero v h =
    let low : (w / 256 * 256 + v) % 256 ≡ v = omega arith in
    let high : (w / 256 * 256 + v) / 256 ≡ w / 256 = omega arith in
    rw (low, high)
write-half (w ∷ ws) (suc zero) v h =
    let low : (v * 256 + w % 256) % 256 ≡ w % 256 = omega arith in
    let high : (v * 256 + w % 256) / 256 ≡ v = omega arith in
    rw (low, high)
write-half (w ∷ ws) (suc (suc i)) v h = rw (word_more, half-more) (ap (λ l. w % 256 ∷ (w / 256 ∷ l)) (write-half ws i v h))

-- what the memory of the halves answers, by the word at a place, of words of which only the first n count
module _ (n : ℕ) (ws : List ℕ) where
  pub length_counted-words : length (halves (counted n ws)) ≡ 2 * min (length ws) n
  length_counted-words = omega (arith, length-halves (counted n ws), length_counted n ws)

  module _ (i : ℕ) (counts : i < length (halves (counted n ws))) where
    within : i / 2 < length (counted n ws)
    within = omega (arith, length-halves (counted n ws))

    same_word : get_or (counted n ws) (i / 2) 0 ≡ get_or ws (i / 2) 0
    same_word = counted-get n ws (i / 2) within

    pub word_read : (x : ℕ) → x ≡ half_at (get_or ws (i / 2) 0) i → Ok x ≡ read_of (halves (counted n ws)) i
    word_read x is =
        ap Ok (is ∙ ap (λ w. half_at w i) (sym same_word) ∙ sym (read-half (counted n ws) i))
        ∙ sym (read-inside (halves (counted n ws)) i counts)

    pub word_set : (w v : ℕ) → v < 256 → w ≡ with_half (get_or ws (i / 2) 0) i v → halves (counted n (set ws (i / 2) w)) ≡ set (halves (counted n ws)) i v
    word_set w v h is =
        let same : w ≡ with_half (get_or (counted n ws) (i / 2) 0) i v = is ∙ ap (λ x. with_half x i v) (sym same_word) in
        ap halves (counted_set n ws (i / 2) within w ∙ ap (set (counted n ws) (i / 2)) same) ∙ write-half (counted n ws) i v h

pub length_words : (ws : List ℕ) → length (halves (counted 30720 ws)) ≡ 2 * min (length ws) 30720
length_words ws = length_counted-words 30720 ws
