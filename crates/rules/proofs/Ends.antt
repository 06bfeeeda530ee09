-- The end of a frame, of all channels. Assumes nothing.
use Rattle.std.proofs.Common.{◌≡◌, ℕ, zero, suc, ◌+◌, ◌<◌, Bool, true, false, cond, not, ◌&&◌, ◌≢◌, List, [], ◌∷◌, ◌++◌, map, length, get_or, set, sym, refl, ap, ◌∙◌, subst, ⊎_elim, arith}
use Rattle.std.proofs.Math.ListN.{get_or-map}
use Rattle.std.specs.Option.{option_map, option_or}
use Rattle.std.proofs.lemmas.List.{length-set, length-map, get_or-set_same, get_or-set_other, set_past, ext_get_or}
use Rattle.std.proofs.lemmas.Bool.{cases_eq, cases_lt}
use Rattle.channel.specs.Areas.{judged}
use Rattle.channel.specs.Services.{after_kept, after_dropped}
use Rattle.channel_law.specs.Story.{Story, new_story, writing_completed, writing_cancelled, reading_completed, reading_cancelled, kept_in, dropped_in, kept_story, dropped_story}
use Rattle.channel_law.specs.Law as law
use Rattle.channel_law.specs.Enabling.{DisjointIn, DisjointAll}
use Rattle.channel_law.proofs.Keeps.{begun-held, kept-held, dropped-held}
use Rattle.channel_law.proofs.Others.{enablings-fit}
use Rattle.channel_law.proofs.Whole as whole
use Rattle.rules.specs.Data.{Option, Some, None, Result, Ok, Err, Refuses, OfEnabling, Side, Master, Local, Window, Service, Channel, Setting, Registers, Denial}
use Rattle.rules.specs.Registers.{no_setting}
use Rattle.rules.specs.Questions.{in_service}
use Rattle.rules.specs.Enabling.{as_channel, disabled, lasting, Enabled, decided, asks, enabled_one, enabled_from}
use Rattle.rules.specs.Steps.{out_of_service, service_at, window_in, begun_channel, kept_channel, dropped_channel, kept_channels}
use Rattle.rules.specs.Account.{story_window, begun_story, ended, kept_stories}
use Rattle.rules.specs.Promise.{Every}
use Rattle.rules.proofs.Lists.{pairs_set}
use Rattle.rules.proofs.Held.{HeldIf, HeldIn, ApartIf, story_at, window_at, Channels}
use Rattle.rules.proofs.Accesses.{when-window, apart-as}

-- a story's window stays
kept-window : (side : Side) (t : Story) → (kept_in side t).window ≡ t.window
kept-window Master t = when-window t.closed writing_completed t (λ u. refl)
kept-window Local t = when-window t.closed reading_completed t (λ u. refl)

dropped-window : (side : Side) (t : Story) → (dropped_in side t).window ≡ t.window
dropped-window Master t = when-window t.touched writing_cancelled t (λ u. refl)
dropped-window Local t = when-window t.touched reading_cancelled t (λ u. refl)

-- WHAT IS DONE TO EVERY CHANNEL alike
module _ (m : List ℕ) (f : Service → Service) (g : Story → Story) (keeps : (s : Service) (t : Story) → HeldIf m (Some s) (Some t) → HeldIf m (Some (f s)) (Some (g t))) (same : (t : Story) → (g t).window ≡ t.window) where
  abbrev each : Channel → Channel
  each c = record { service = option_map f c.service }

  each-if : (o : Option Service) (t : Option Story) → HeldIf m o t → HeldIf m (option_map f o) (option_map g t)
  each-if None None h = tt
  each-if None (Some t) h = h
  each-if (Some s) None h = h
  each-if (Some s) (Some t) h = keeps s t h

  window-if : (t : Option Story) → story_window (option_map g t) ≡ story_window t
  window-if None = refl
  window-if (Some t) = ap Some (same t)

  pub all_alike : (cs : List Channel) (ts : List (Option Story)) → Channels m cs ts → Channels m (map each cs) (map (option_map g) ts)
  all_alike cs ts h =
      record {
        long = length-map cs each ∙ (h.long ∙ sym (length-map ts (option_map g)));
        held = λ n.
            subst (λ c. HeldIn m c (story_at (map (option_map g) ts) n)) (sym (get_or-map each cs n out_of_service))
            (subst (HeldIf m (option_map f (service_at cs n))) (sym (get_or-map (option_map g) ts n None)) (each-if (service_at cs n) (story_at ts n) (h.held n)));
        apart = apart-as ts (map (option_map g) ts) (λ i. ap story_window (get_or-map (option_map g) ts i None) ∙ window-if (story_at ts i)) h.apart;
      }

pub all-kept : (m : List ℕ) (cs : List Channel) (ts : List (Option Story)) → Channels m cs ts → Channels m (map kept_channel cs) (map (option_map kept_story) ts)
all-kept m cs ts h = all_alike m after_kept kept_story (λ s t. kept-held m s t) (λ t. kept-window t.window.stores t) cs ts h

pub all-dropped : (m : List ℕ) (cs : List Channel) (ts : List (Option Story)) → Channels m cs ts → Channels m (map dropped_channel cs) (map (option_map dropped_story) ts)
all-dropped m cs ts h = all_alike m after_dropped dropped_story (λ s t. dropped-held m s t) (λ t. dropped-window t.window.stores t) cs ts h

-- SERVICES THAT LAST, and those that end
module _ {E : Type 0} (window : E → Option Window) (begin : Window → E) (out : E) where
  abbrev lasts : List Setting → List E → List E
  lasts ss es = lasting window begin out ss es

  lasting-at : (ss : List Setting) (es : List E) (n : ℕ) → get_or (lasts ss es) n out ≡ cond (get_or ss n no_setting).enable (get_or es n out) out
  lasting-at [] es n = refl
  lasting-at (s ∷ ss) [] n = sym (cond_same (get_or (s ∷ ss) n no_setting).enable)
    where
      cond_same : (b : Bool) → cond b out out ≡ out
      cond_same true = refl
      cond_same false = refl
  lasting-at (s ∷ ss) (e ∷ es) zero = refl
  lasting-at (s ∷ ss) (e ∷ es) (suc n) = lasting-at ss es n

lasting-long : {E F : Type 0} (w : E → Option Window) (b : Window → E) (o : E) (w' : F → Option Window) (b' : Window → F) (o' : F) (ss : List Setting) (es : List E) (fs : List F) → length es ≡ length fs → length (lasting w b o ss es) ≡ length (lasting w' b' o' ss fs)
lasting-long w b o w' b' o' [] es fs e = refl
lasting-long w b o w' b' o' (s ∷ ss) [] [] e = refl
lasting-long w b o w' b' o' (s ∷ ss) [] (f ∷ fs) e = absurd (omega arith)
lasting-long w b o w' b' o' (s ∷ ss) (x ∷ es) [] e = absurd (omega arith)
lasting-long w b o w' b' o' (s ∷ ss) (x ∷ es) (f ∷ fs) e = ap suc (lasting-long w b o w' b' o' ss es fs (omega arith))

cond-held : (m : List ℕ) (b : Bool) (c : Channel) (t : Option Story) → HeldIn m c t → HeldIn m (cond b c out_of_service) (cond b t None)
cond-held m true c t h = h
cond-held m false c t h = tt

apart-cond : (a b : Bool) (t u : Option Story) → ApartIf (story_window t) (story_window u) → ApartIf (story_window (cond a t None)) (story_window (cond b u None))
apart-cond true true t u h = h
apart-cond true false None u h = tt
apart-cond true false (Some t) u h = tt
apart-cond false b t u h = tt

pub all-lasting : (m : List ℕ) (ss : List Setting) (cs : List Channel) (ts : List (Option Story)) → Channels m cs ts → Channels m (lasting window_in begun_channel out_of_service ss cs) (lasting story_window begun_story None ss ts)
all-lasting m ss cs ts h =
    let stories : (n : ℕ) → story_at (lasting story_window begun_story None ss ts) n ≡ cond (get_or ss n no_setting).enable (story_at ts n) None = lasting-at story_window begun_story None ss ts in
    record {
      long = lasting-long window_in begun_channel out_of_service story_window begun_story None ss cs ts h.long;
      held = λ n.
          subst (λ c. HeldIn m c (story_at (lasting story_window begun_story None ss ts) n)) (sym (lasting-at window_in begun_channel out_of_service ss cs n))
          (subst (HeldIn m (cond (get_or ss n no_setting).enable (get_or cs n out_of_service) out_of_service)) (sym (stories n)) (cond-held m (get_or ss n no_setting).enable (get_or cs n out_of_service) (story_at ts n) (h.held n)));
      apart = λ i j ne.
          subst (λ t. ApartIf (story_window t) (window_at (lasting story_window begun_story None ss ts) j)) (sym (stories i))
          (subst (λ t. ApartIf (story_window (cond (get_or ss i no_setting).enable (story_at ts i) None)) (story_window t)) (sym (stories j))
          (apart-cond (get_or ss i no_setting).enable (get_or ss j no_setting).enable (story_at ts i) (story_at ts j) (h.apart i j ne)));
    }

ended-whole : (ss : List Setting) (ts : List (Option Story)) → ((n : ℕ) (t : Story) → story_at ts n ≡ Some t → law.Whole t) → (past : List Story) → Every law.Whole past → Every law.Whole (ended ss ts ++ past)
ended-whole [] ts h past p = p
ended-whole (s ∷ ss) [] h past p = p
ended-whole (s ∷ ss) (None ∷ ts) h past p = ended-whole ss ts (λ n t e. h (suc n) t e) past p
ended-whole (s ∷ ss) (Some t ∷ ts) h past p = go s.enable (ended-whole ss ts (λ n u e. h (suc n) u e) past p)
  where
    go : (b : Bool) → Every law.Whole (ended ss ts ++ past) → Every law.Whole (cond b (ended ss ts) (t ∷ ended ss ts) ++ past)
    go true rest = rest
    go false rest = (h 0 t refl, rest)

story-whole : (m : List ℕ) (o : Option Service) (u : Option Story) (t : Story) → HeldIf m o u → u ≡ Some t → law.Whole t
story-whole m None None t h e = absurd (cc)
story-whole m None (Some u) t h e = absurd h
story-whole m (Some s) None t h e = absurd h
story-whole m (Some s) (Some u) t h e = let is : u ≡ t = (cc) in subst law.Whole is (whole.whole m s u h)

pub past-whole : (m : List ℕ) (ss : List Setting) (cs : List Channel) (ts : List (Option Story)) → Channels m cs ts → (past : List Story) → Every law.Whole past → Every law.Whole (ended ss ts ++ past)
past-whole m ss cs ts h past p = ended-whole ss ts (λ n t e. story-whole m (service_at cs n) (story_at ts n) t (h.held n) e) past p

-- ENABLINGS, one after the other
pub record Alike (m : List ℕ) (x : Enabled window_in begun_channel out_of_service) (y : Enabled story_window begun_story None) : Type 0 where
  pub channels : Channels m x.entries y.entries
  pub settings : x.settings ≡ y.settings
  pub denied : x.denied ≡ y.denied

window_same : (m : List ℕ) (o : Option Service) (t : Option Story) → HeldIf m o t → option_map (λ (s : Service). s.window) o ≡ story_window t
window_same m None None h = refl
window_same m None (Some t) h = absurd h
window_same m (Some s) None h = absurd h
window_same m (Some s) (Some t) h = ap Some h.same

abbrev by_channel : Channel → Channel
by_channel c = as_channel (window_in c)

abbrev by_story : Option Story → Channel
by_story t = as_channel (story_window t)

others_same : (m : List ℕ) (cs : List Channel) (ts : List (Option Story)) → Channels m cs ts → map by_channel cs ≡ map by_story ts
others_same m cs ts h =
    ext_get_or out_of_service (map by_channel cs) (map by_story ts) (length-map cs by_channel ∙ (h.long ∙ sym (length-map ts by_story)))
    (λ n within. get_or-map by_channel cs n out_of_service ∙ (ap as_channel (window_same m (service_at cs n) (story_at ts n) (h.held n)) ∙ sym (get_or-map by_story ts n None)))

-- a new window is apart from those in service
disjoint-at : (w : Window) (cs : List Channel) → DisjointAll w cs → (i : ℕ) → DisjointIn w (service_at cs i)
disjoint-at w [] d i = tt
disjoint-at w (c ∷ cs) d zero = d.0
disjoint-at w (c ∷ cs) d (suc i) = disjoint-at w cs d.1 i

apart-window : (w : Window) (o : Option Window) → DisjointIn w (as_channel o).service → ApartIf (Some w) o
apart-window w None d = tt
apart-window w (Some v) d = d

apart-new : (w : Window) (ts : List (Option Story)) → DisjointAll w (map by_story ts) → (i : ℕ) → ApartIf (Some w) (window_at ts i)
apart-new w ts d i = apart-window w (window_at ts i) (subst (λ (c : Channel). DisjointIn w c.service) (get_or-map by_story ts i None) (disjoint-at w (map by_story ts) d i))

apart-sym : (w : Window) (o : Option Window) → ApartIf (Some w) o → ApartIf o (Some w)
apart-sym w None d = tt
apart-sym w (Some v) d = λ a p q r s. d a r s p q

apart-set : (w : Window) (ts : List (Option Story)) (n : ℕ) → n < length ts → DisjointAll w (map by_story ts) → ((i j : ℕ) → i ≢ j → ApartIf (window_at ts i) (window_at ts j)) →
    (i j : ℕ) → i ≢ j → ApartIf (window_at (set ts n (Some (new_story w))) i) (window_at (set ts n (Some (new_story w))) j)
apart-set w ts n within d h i j ne =
    let us : List (Option Story) = set ts n (Some (new_story w)) in
    let here : window_at us n ≡ Some w = ap story_window (get_or-set_same ts n (Some (new_story w)) None within) in
    let there : (k : ℕ) → k ≢ n → window_at us k ≡ window_at ts k = λ k q. ap story_window (get_or-set_other ts n k (Some (new_story w)) None q) in
    ⊎_elim
    (λ is.
    let q : j ≢ n = λ e. ne (is ∙ sym e) in
    subst (λ v. ApartIf v (window_at us j)) (sym (ap (window_at us) is ∙ here)) (subst (ApartIf (Some w)) (sym (there j q)) (apart-new w ts d j)))
    (λ p. ⊎_elim
    (λ is. subst (λ v. ApartIf v (window_at us j)) (sym (there i p)) (subst (ApartIf (window_at ts i)) (sym (ap (window_at us) is ∙ here)) (apart-sym w (window_at ts i) (apart-new w ts d i))))
    (λ q. subst (λ v. ApartIf v (window_at us j)) (sym (there i p)) (subst (ApartIf (window_at ts i)) (sym (there j q)) (h i j ne)))
    (cases_eq j n))
    (cases_eq i n)

apart-any : (w : Window) (ts : List (Option Story)) (n : ℕ) → DisjointAll w (map by_story ts) → ((i j : ℕ) → i ≢ j → ApartIf (window_at ts i) (window_at ts j)) →
    (i j : ℕ) → i ≢ j → ApartIf (window_at (set ts n (Some (new_story w))) i) (window_at (set ts n (Some (new_story w))) j)
apart-any w ts n d h i j ne =
    ⊎_elim (λ within. apart-set w ts n within d h i j ne)
    (λ past. subst (λ us. ApartIf (window_at us i) (window_at us j)) (sym (set_past ts n (Some (new_story w)) past)) (h i j ne))
    (cases_lt n (length ts))

module _ (m : List ℕ) (N : ℕ) (size : length m ≡ N) where
  decided-alike : (n : ℕ) (s : Setting) (x : Enabled window_in begun_channel out_of_service) (y : Enabled story_window begun_story None) → Alike m x y → (r : Result Window Denial) → judged N (map by_story y.entries) s ≡ r →
      Alike m (decided window_in begun_channel out_of_service n s r x) (decided story_window begun_story None n s r y)
  decided-alike n s x y h (Err d) e =
      record { channels = h.channels; settings = ap (λ ss. set ss n (disabled s)) h.settings; denied = ap (λ f. option_or f (Some (Refuses (OfEnabling d) 0 (Some n)))) h.denied }
  decided-alike n s x y h (Ok w) e =
      let fit = enablings-fit N (map by_story y.entries) s w e in
      let fits : law.Fits (length m) w = subst (λ k. law.Fits k w) (sym size) fit.0 in
      record {
        channels = record {
          long = length-set x.entries n _ ∙ (h.channels.long ∙ sym (length-set y.entries n _));
          held = pairs_set (HeldIn m) out_of_service None x.entries y.entries n (begun_channel w) (begun_story w) h.channels.long h.channels.held (begun-held m w fits);
          apart = apart-any w y.entries n fit.1 h.channels.apart;
        };
        settings = h.settings;
        denied = h.denied;
      }

  one_alike : (n : ℕ) (s : Setting) (x : Enabled window_in begun_channel out_of_service) (y : Enabled story_window begun_story None) → Alike m x y →
      Alike m (enabled_one window_in begun_channel out_of_service N n s x) (enabled_one story_window begun_story None N n s y)
  one_alike n s x y h =
      let window : window_in (get_or x.entries n out_of_service) ≡ story_window (story_at y.entries n) = window_same m (service_at x.entries n) (story_at y.entries n) (h.channels.held n) in
      let b : Bool = asks story_window begun_story None n s y in
      let asking : asks window_in begun_channel out_of_service n s x ≡ b = ap (λ o. s.enable && not (in_service o)) window in
      let judging : judged N (map by_channel x.entries) s ≡ judged N (map by_story y.entries) s = ap (λ cs. judged N cs s) (others_same m x.entries y.entries h.channels) in
      subst (λ (q : Bool). Alike m (cond q (decided window_in begun_channel out_of_service n s (judged N (map by_channel x.entries) s) x) x) (enabled_one story_window begun_story None N n s y)) (sym asking)
      (subst (λ (r : Result Window Denial). Alike m (cond b (decided window_in begun_channel out_of_service n s r x) x) (enabled_one story_window begun_story None N n s y)) (sym judging)
      (go b))
    where
      go : (b : Bool) → Alike m (cond b (decided window_in begun_channel out_of_service n s (judged N (map by_story y.entries) s) x) x) (cond b (decided story_window begun_story None n s (judged N (map by_story y.entries) s) y) y)
      go true = decided-alike n s x y h (judged N (map by_story y.entries) s) refl
      go false = h

  from-alike : (n : ℕ) (ss : List Setting) (x : Enabled window_in begun_channel out_of_service) (y : Enabled story_window begun_story None) → Alike m x y →
      Alike m (enabled_from window_in begun_channel out_of_service N n ss x) (enabled_from story_window begun_story None N n ss y)
  from-alike n [] x y h = h
  from-alike n (s ∷ ss) x y h = from-alike (n + 1) ss _ _ (one_alike n s x y h)

  pub kept-alike : (r : Registers) (cs : List Channel) (ts : List (Option Story)) → Channels m cs ts → Alike m (kept_channels N r cs) (kept_stories N r ts)
  kept-alike r cs ts h =
      from-alike 0 r.settings _ _ (record { channels = all-lasting m r.settings (map kept_channel cs) (map (option_map kept_story) ts) (all-kept m cs ts h); settings = refl; denied = refl })
