-- A call that steps as the rules say keeps the promise. Assumes nothing.
use Rattle.std.proofs.Common.{◌≡◌, List, [], ◌∷◌, ◌++◌, length, sym, refl, ap, ◌∙◌, subst}
use Rattle.rules.specs.Data.{Call, Answer}
use Rattle.rules.specs.Steps.{Station, station, step, runs, history}
use Rattle.rules.specs.Promise.{Promise}
use Rattle.rules.specs.After.{Promised}
use Rattle.rules.proofs.Law.{messages-are-whole}

pub runs-more : (s : Station) (cs : List Call) (c : Call) → runs s (cs ++ (c ∷ [])) ≡ (step (runs s cs) c).0
runs-more s [] c = refl
runs-more s (x ∷ cs) c = runs-more (step s x).0 cs c

pub history-more : (s : Station) (cs : List Call) (c : Call) → history s (cs ++ (c ∷ [])) ≡ history s cs ++ ((c, (step (runs s cs) c).1) ∷ [])
history-more s [] c = refl
history-more s (x ∷ cs) c = ap (λ h. (x, (step s x).1) ∷ h) (history-more (step s x).0 cs c)

pub promised : (before : Station) (c : Call) (after : Station) (y : Answer) → after ≡ (step before c).0 → y ≡ (step before c).1 → Promised before c after y
promised before c after y goes says =
    record {
      whenever = λ m number cs small came.
          let s : Station = station m number in
          let told : history s (cs ++ (c ∷ [])) ≡ history s cs ++ ((c, y) ∷ []) =
          history-more s cs c ∙ ap (λ z. history s cs ++ ((c, z) ∷ [])) (sym (says ∙ ap (λ (q : Station). (step q c).1) came)) in
          record {
            run = goes ∙ (ap (λ (q : Station). (step q c).0) came ∙ sym (runs-more s cs c));
            promise = subst (Promise (length m) number) told (messages-are-whole m number (cs ++ (c ∷ [])) small);
          };
    }
