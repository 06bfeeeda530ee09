-- A memory that follows another, as one list. Assumes nothing.
use Rattle.std.proofs.Common.{◌≡◌, ℕ, ◌+◌, ◌-◌, ◌<◌, ◌≤◌, min, List, ◌++◌, length, take, set, Ok, sym, refl, ap, ◌∙◌, arith}
use Rattle.std.proofs.lemmas.List.{length-append, get_or_append_left, get_or-append_right, set-append_left, set-append_right}
use Rattle.memory.specs.Octets.{read_of, write_of}
use Rattle.memory.specs.Cuts.{joined}
use Rattle.memory.proofs.Answers.{read-inside, write-inside}
use Rattle.memory.proofs.Cuts.{length_counted, counted_set, counted_read}

module _ (xs ys : List ℕ) where
  pub length_joined : length (joined xs ys) ≡ min (length xs + length ys) 61440
  length_joined = omega (arith, length_counted 61440 (xs ++ ys), length-append xs ys)

  -- place i of the whole is place j of the first or of the second
  module _ (i j : ℕ) where
    module _ (at : j ≡ i) (h : i < length xs) (below : i < 61440) where
      counts-first : i < length (joined xs ys)
      counts-first = omega (arith, length_joined)

      pub read_first : read_of xs j ≡ read_of (joined xs ys) i
      read_first =
          ap (read_of xs) at ∙ read-inside xs i h ∙ ap Ok (sym (get_or_append_left xs ys 0 i h))
          ∙ counted_read 61440 (xs ++ ys) i counts-first

      pub write_first : write_of xs j ≡ write_of (joined xs ys) i
      write_first = ap (write_of xs) at ∙ write-inside xs i h ∙ sym (write-inside (joined xs ys) i counts-first)

      pub set_first : (x : ℕ) → joined (set xs j x) ys ≡ set (joined xs ys) i x
      set_first x =
          ap (λ k. joined (set xs k x) ys) at ∙ ap (take 61440) (sym (set-append_left xs ys i x h))
          ∙ counted_set 61440 (xs ++ ys) i counts-first x

    module _ (at : j ≡ i - length xs) (follows : length xs ≤ i) (h : i < length xs + length ys) (below : i < 61440) where
      counts-second : i < length (joined xs ys)
      counts-second = omega (arith, length_joined)

      in-second : i - length xs < length ys
      in-second = omega arith

      pub read_second : read_of ys j ≡ read_of (joined xs ys) i
      read_second =
          ap (read_of ys) at ∙ read-inside ys (i - length xs) in-second
          ∙ ap Ok (sym (get_or-append_right xs ys (length xs) i 0 refl follows)) ∙ counted_read 61440 (xs ++ ys) i counts-second

      pub write_second : write_of ys j ≡ write_of (joined xs ys) i
      write_second = ap (write_of ys) at ∙ write-inside ys (i - length xs) in-second ∙ sym (write-inside (joined xs ys) i counts-second)

      pub set_second : (x : ℕ) → joined xs (set ys j x) ≡ set (joined xs ys) i x
      set_second x =
          ap (λ k. joined xs (set ys k x)) at
          ∙ ap (take 61440) (sym (set-append_right xs ys (length xs) i x refl follows)) ∙ counted_set 61440 (xs ++ ys) i counts-second x
