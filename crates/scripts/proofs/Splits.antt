-- What `split_whitespace` gives, one after the other, are the words of the text.
use Rattle.std.proofs.Common.{◌≡◌, ℕ, ◌<◌, ◌==◌, true, false, cond, List, [], ◌∷◌, ◌++◌, length, Bor, refl, sym, ap, ◌∙◌, arith, append_assoc, append-nil, length-append, IfOk, Result, Ok, Err, Vec}
use Rattle.std.specs.Bool.{⊤}
use Rattle.std.specs.Str.{IsUtf8, NoCharPasses, NonePass, EmptyOrStartsWithPassing, chars, encode_utf8_all}
use Rattle.std.specs.Char.{is_whitespace, is_not_whitespace, encode_utf8}
use Rattle.std.specs.Iterator.{DrainsIf}
use Rattle.std.specs.Str.Iter.{split_whitespace_rest, split_whitespace_steps}
use Rattle.std.specs.declared.str.SplitWhitespace.{SplitWhitespace}
use Rattle.std.proofs.lemmas.Bool.{not-false}
use Rattle.std.proofs.lemmas.Bool.Decides.{nat_tests}
use Rattle.std.proofs.lemmas.Str.{chars-encodes, encodes_same, cons_from_encodes, encode_same, length-encode, len_utf8_bounds}
use Rattle.std.proofs.lemmas.Iterator.{IsCollectResult}
use Rattle.scripts.specs.Text.{word_before, words_after, words_of, texts_of}

-- white space before a word is passed over
after_gap : (gap cs : List ℕ) → NonePass is_not_whitespace gap → words_after [] (gap ++ cs) ≡ words_after [] cs
after_gap [] cs blank = refl
after_gap (c ∷ gap) cs blank =
    ap (λ b. cond b (words_after [] (gap ++ cs)) (words_after ([] ++ encode_utf8 c) (gap ++ cs))) (not-false (is_whitespace c) blank.0) ∙ after_gap gap cs blank.1

-- what is not white space goes on the word
after_word : (w word cs : List ℕ) → NonePass is_whitespace word → words_after w (word ++ cs) ≡ words_after (w ++ encode_utf8_all word) cs
after_word w [] cs solid = ap (λ v. words_after v cs) (sym (append-nil w))
after_word w (c ∷ word) cs solid =
    ap (λ b. cond b (word_before w (words_after [] (word ++ cs))) (words_after (w ++ encode_utf8 c) (word ++ cs))) solid.0
    ∙ (after_word (w ++ encode_utf8 c) word cs solid.1 ∙ ap (λ v. words_after v cs) (append_assoc w (encode_utf8 c) (encode_utf8_all word)))

word_before_some : (w : List ℕ) (ws : List (List ℕ)) → 0 < length w → word_before w ws ≡ w ∷ ws
word_before_some w ws some = let e : (length w == 0) ≡ false = grind (arith, nat_tests) in ap (λ b. cond b ws (w ∷ ws)) e

-- a word ends at the end of the text, and before white space
ends_word : (word es rest more : List ℕ) → 0 < length word → encode_utf8_all es ≡ rest → EmptyOrStartsWithPassing is_whitespace rest more → words_after word es ≡ word ∷ words_after [] es
ends_word word [] rest more some e ends = word_before_some word [] some
ends_word word (c ∷ es) rest more some e ends =
    let long : 0 < length rest = omega (arith, ap length e, length-append (encode_utf8 c) (encode_utf8_all es), length-encode c, len_utf8_bounds c) in
    let (d, space, begins, scalar) = ends long in
    let same : c ≡ d = (encode_same c d (encode_utf8_all es) more (e ∙ begins)).0 in
    let space_c : is_whitespace c ≡ true = ap is_whitespace same ∙ space in
    ap (λ b. cond b (word_before word (words_after [] es)) (words_after (word ++ encode_utf8 c) es)) space_c
    ∙ (word_before_some word (words_after [] es) some ∙ ap (λ ws. word ∷ ws) (sym (ap (λ b. cond b (words_after [] es) (words_after ([] ++ encode_utf8 c) es)) space_c)))

-- the characters of a text begin with those that the text begins with
peel : (gs cs rest : List ℕ) → encode_utf8_all cs ≡ encode_utf8_all gs ++ rest → (es : List ℕ) × (cs ≡ gs ++ es) × (encode_utf8_all es ≡ rest)
peel [] cs rest e = (cs, refl, e)
peel (g ∷ gs) cs rest e =
    let (es, is, more) = cons_from_encodes cs (encode_utf8_all gs ++ rest) g (e ∙ append_assoc (encode_utf8 g) (encode_utf8_all gs) rest) in
    let (fs, js, last) = peel gs es rest more in
    (fs, is ∙ ap (λ t. g ∷ t) js, last)

-- what a call of `next` says of the word and of what is left
abbrev StartsWithWord : (bs word rest : List ℕ) → Type 0
StartsWithWord bs word rest =
    (gap : List ℕ) × (bs ≡ gap ++ (word ++ rest)) × (0 < length word) × NoCharPasses is_not_whitespace gap × NoCharPasses is_whitespace word × ((more : List ℕ) × EmptyOrStartsWithPassing is_whitespace rest more)

next_word : (cs bs word rest : List ℕ) → encode_utf8_all cs ≡ bs → StartsWithWord bs word rest → (es : List ℕ) × (encode_utf8_all es ≡ rest) × (words_after [] cs ≡ word ∷ words_after [] es)
next_word cs bs word rest e (gap, split, some, (gs, gap_is, blank), (ls, word_is, solid), (more, ends)) =
    let (ds, cs_is, ds_are) = peel gs cs (word ++ rest) (e ∙ (split ∙ ap (λ g. g ++ (word ++ rest)) (sym gap_is))) in
    let (es, ds_is, es_are) = peel ls ds rest (ds_are ∙ ap (λ v. v ++ rest) (sym word_is)) in
    (es, es_are, ap (words_after []) cs_is ∙ (after_gap gs ds blank ∙ (ap (words_after []) ds_is ∙ (after_word [] ls es solid ∙ (ap (λ v. words_after v es) word_is ∙ ends_word word es rest more some es_are ends)))))

-- no word is left
no_word : (cs bs : List ℕ) → encode_utf8_all cs ≡ bs → NoCharPasses is_not_whitespace bs → words_after [] cs ≡ []
no_word cs bs e (gs, is, blank) =
    ap (words_after []) (encodes_same cs gs (e ∙ sym is) ∙ sym (append-nil gs)) ∙ after_gap gs [] blank

-- the words that calls of `next` give, up to the last
drained : (cs : List ℕ) (s : SplitWhitespace) (xs : List (Bor (List ℕ))) → encode_utf8_all cs ≡ split_whitespace_rest s → DrainsIf split_whitespace_steps ⊤ s xs → texts_of xs ≡ words_after [] cs
drained cs s [] e (t, same, last) =
    let (u, (stays, blank)) = last tt in
    sym (no_word cs (split_whitespace_rest t) (e ∙ ap split_whitespace_rest same) blank)
drained cs s (x ∷ xs) e (t, (j, step, yields), last) =
    let (es, es_are, is) = next_word cs (split_whitespace_rest s) x.now (split_whitespace_rest j) e step in
    ap (λ ws. x.now ∷ ws) (drained es j xs es_are (t, yields, last)) ∙ sym is

words_from_drains : (text : List ℕ) (s : SplitWhitespace) (xs : List (Bor (List ℕ))) → IsUtf8 text → split_whitespace_rest s ≡ text → DrainsIf split_whitespace_steps ⊤ s xs → texts_of xs ≡ words_of text
words_from_drains text s xs (cs, (scalar, is)) rest drains =
    drained cs s xs (is ∙ sym rest) drains ∙ ap (words_after []) (sym (chars-encodes cs scalar) ∙ ap chars is)

-- and so what they are collected into
pub words_from_collect : {Z E : Type 0} (text : List ℕ) (s : SplitWhitespace) (r : Result (Vec (Bor (List ℕ)) Z) E) → IsUtf8 text → split_whitespace_rest s ≡ text → IsCollectResult split_whitespace_steps s r → IfOk r (λ (v : Vec (Bor (List ℕ)) Z). texts_of v.items ≡ words_of text)
words_from_collect text s (Ok v) utf8 rest (xs, drains, (items, len)) = ap texts_of items ∙ words_from_drains text s xs utf8 rest drains
words_from_collect text s (Err e) utf8 rest collects = tt
