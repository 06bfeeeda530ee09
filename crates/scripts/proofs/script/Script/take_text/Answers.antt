use Rattle.std.proofs.Common.{◌≡◌, ℕ, cond, List, ap, ◌∙◌}
use Rattle.std.specs.Str.{IsUtf8, is_utf8}
use Rattle.std.proofs.lemmas.Bool.{false_from_ne_true}
use Rattle.std.proofs.lemmas.Str.{is_utf8-from_IsUtf8, IsUtf8-from_is_utf8}
use Rattle.scripts.specs.Text.{words_of, texts_of}
use Rattle.scripts.specs.Scripts.{Held, refused, with_words, with_text}
use Rattle.scripts.proofs.script.Script.take_text.Goals as goal

module _ (line : List ℕ) (n : ℕ) where
  of_text : IsUtf8 line → with_text line n ≡ with_words (words_of line) n
  of_text text = ap (λ b (h : Held). cond b (with_words (words_of line) n h) (refused n h)) (is_utf8-from_IsUtf8 line text)

  of_no_text : ¬ IsUtf8 line → with_text line n ≡ refused n
  of_no_text no_text =
      ap (λ b (h : Held). cond b (with_words (words_of line) n h) (refused n h)) (false_from_ne_true (is_utf8 line) (λ t. no_text (IsUtf8-from_is_utf8 line t)))

pub returns-in_ok-words_of-in-Ok : goal.returns-in_ok-words_of-in-Ok
returns-in_ok-words_of-in-Ok c =
    let text = c.in-Ok.ensures.cases in
    let words : texts_of c.deref.result.now ≡ words_of c.args.line.now = ap texts_of c.deref.ensures.value ∙ (c.in_ok-words_of-in-Ok.ensures ∙ ap words_of text.0) in
    rw (of_text c.args.line.now c.args.count text.1, ← words) c.take_words.ensures

pub returns-in-Err : goal.returns-in-Err
returns-in-Err c = rw (of_no_text c.args.line.now c.args.count c.in-Err.ensures.cases.0) c.refuse.ensures.leaves
