-- The eight channels once the services end whose enable bit is cleared.
use Rattle.std.proofs.Common.{◌≡◌, ℕ, zero, suc, ◌+◌, ◌<◌, List, [], ◌∷◌, length, get_or, sym, refl, ap, ◌∙◌, subst, arith}
use Rattle.std.specs.Array.{IsFromFnResultFrom, IsFromFnResult}
use Rattle.std.specs.Fn.{Called, Mut}
use Rattle.std.proofs.lemmas.List.{same_lists, get_or_default}
use Rattle.channel.specs.declared.setting.Setting.{Setting}
use Rattle.channel.specs.declared.record.Channel.{Channel}
use Rattle.core_steps.specs.Enablings.{lasting_kept, all_lasting}

length-lasting : (ss : List Setting) (cs : List Channel) → length ss ≡ length cs → length (all_lasting ss cs) ≡ length cs
length-lasting [] [] e = refl
length-lasting [] (c ∷ cs) e = e
length-lasting (s ∷ ss) [] e = refl
length-lasting (s ∷ ss) (c ∷ cs) e = ap suc (length-lasting ss cs (omega arith))

at-lasting : (ss : List Setting) (cs : List Channel) (n : ℕ) (s : Setting) (c z : Channel) → n < length ss → n < length cs → get_or (all_lasting ss cs) n z ≡ lasting_kept (get_or ss n s) (get_or cs n c)
at-lasting [] cs n s c z h l = absurd (omega arith)
at-lasting (x ∷ ss) [] n s c z h l = absurd (omega arith)
at-lasting (x ∷ ss) (y ∷ cs) zero s c z h l = refl
at-lasting (x ∷ ss) (y ∷ cs) (suc n) s c z h l = at-lasting ss cs n s c z (omega arith) (omega arith)

-- a list that has at each place what lasts there
pub all-lasting : (ss : List Setting) (cs ys : List Channel) (s : Setting) (z : Channel) → length ss ≡ length cs → length ys ≡ length cs → ((k : ℕ) → k < length cs → get_or ys k z ≡ lasting_kept (get_or ss k s) (get_or cs k z)) → ys ≡ all_lasting ss cs
all-lasting ss cs ys s z same long each =
    same_lists ys (all_lasting ss cs) (long ∙ sym (length-lasting ss cs same))
    (λ k d h. let small : k < length cs = omega (arith, long) in get_or_default ys k d z h ∙ each k small ∙ sym (at-lasting ss cs k s z d (omega (arith, same)) small))

-- the array that `from_fn` makes with a closure that no call changes
module _ {F B : Type 0} (g : Mut F (ℕ × Unit {0}) B) (made : ℕ → B) (f : F) (each : (i : ℕ) (y : B) (q : F) → Called g f (i, tt) y q → (y ≡ made i) × (q ≡ f)) (z : B) (ys : List B) where
  made_from : (n i : ℕ) → IsFromFnResultFrom g f ys i n → (k : ℕ) → k < n → get_or ys (i + k) z ≡ made (i + k)
  made_from zero i m k h = absurd (omega arith)
  made_from (suc n) i (q, y, at, called, rest) zero h =
      let place : i ≡ i + 0 = omega arith in
      subst (λ j. get_or ys j z ≡ made j) place (at.1 z ∙ (each i y q called).0)
  made_from (suc n) i (q, y, at, called, rest) (suc k) h =
      let place : i + 1 + k ≡ i + suc k = omega arith in
      subst (λ j. get_or ys j z ≡ made j) place (made_from n (i + 1) (subst (λ p. IsFromFnResultFrom g p ys (i + 1) n) (each i y q called).1 rest) k (omega arith))

  pub made_at : (n : ℕ) → IsFromFnResult g f ys n → (k : ℕ) → k < n → get_or ys k z ≡ made k
  made_at n m k h = let place : 0 + k ≡ k = omega arith in subst (λ j. get_or ys j z ≡ made j) place (made_from n 0 m.each k h)
