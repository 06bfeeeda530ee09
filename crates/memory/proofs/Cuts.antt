-- A list of which only the first n elements count. Assumes nothing.
use Rattle.std.proofs.Common.{◌≡◌, ℕ, ◌<◌, min, List, length, get_or, set, Ok, sym, ap, ◌∙◌, arith}
use Rattle.std.proofs.lemmas.List.{length-take, length-set, get_or-take, get_or-set_same, same_lists, places}
use Rattle.std.proofs.lemmas.Bool.{cases_eq}
use Rattle.memory.specs.Octets.{read_of}
use Rattle.memory.specs.Cuts.{counted}
use Rattle.memory.proofs.Answers.{read-inside}

module _ (n : ℕ) (xs : List ℕ) where
  pub length_counted : length (counted n xs) ≡ min (length xs) n
  length_counted = simp length-take (omega arith)

  -- an element that counts, read or replaced before or after the cut
  module _ (i : ℕ) (counts : i < length (counted n xs)) where
    pub counted-get : get_or (counted n xs) i 0 ≡ get_or xs i 0
    counted-get = let below : i < n = omega (arith, length_counted) in get_or-take n xs i 0 below

    pub counted_read : Ok (get_or xs i 0) ≡ read_of (counted n xs) i
    counted_read = sym (read-inside (counted n xs) i counts ∙ ap Ok counted-get)

    pub counted_set : (x : ℕ) → counted n (set xs i x) ≡ set (counted n xs) i x
    counted_set x =
        same_lists _ _ (simp (length-take, length-set) (omega arith))
        (λ k d p. let below : i < n = omega (arith, length_counted) in grind (arith, places, get_or-set_same, cases_eq k i))

pub length_row : (xs : List ℕ) → length (counted 61440 xs) ≡ min (length xs) 61440
length_row xs = length_counted 61440 xs
