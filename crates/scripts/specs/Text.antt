-- The words of a text. Assumes nothing.
use Rattle.std.specs.Prelude.{ℕ, ◌==◌, List, [], ◌∷◌, ◌++◌, length, map, cond, encode_utf8, chars}
use Rattle.std.specs.Borrow.{Bor}
use Rattle.std.specs.Char.{is_whitespace}

-- a word that may be at its end, before further words; an empty one is none
abbrev pub word_before : (word : List ℕ) → List (List ℕ) → List (List ℕ)
word_before w ws = cond (length w == 0) ws (w ∷ ws)

-- the words of characters, of which the first goes on a word that has begun
abbrev pub words_after : (word : List ℕ) → (chars : List ℕ) → List (List ℕ)
words_after w [] = word_before w []
words_after w (c ∷ cs) = cond (is_whitespace c) (word_before w (words_after [] cs)) (words_after (w ++ encode_utf8 c) cs)

-- the words of a text, each by its bytes: what stands between white space, and is not empty
abbrev pub words_of : List ℕ → List (List ℕ)
words_of text = words_after [] (chars text)

-- the bytes of each of these texts
abbrev pub texts_of : List (Bor (List ℕ)) → List (List ℕ)
texts_of ws = map (λ (w : Bor (List ℕ)). w.now) ws
