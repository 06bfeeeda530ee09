-- An access in its turn: when it is refused, in words. Assumes nothing.
use Rattle.std.proofs.Common.{◌≡◌, ℕ, ◌+◌, ◌-◌, ◌≤◌, true, false, not, ◌&&◌, ltb, leb, List, length, get_or, sym, refl, ap, ◌∙◌, subst, arith}
use Rattle.std.proofs.Math.ListN.{get_or-map}
use Rattle.std.specs.Option.{option_map}
use Rattle.std.proofs.lemmas.Bool.{ltb-true, leb-true, lt-ltb, le-ltb, le-leb, and_parts, and_from, and_right, cond-true, cond-false}
use Rattle.bits.specs.Shares.{splits}
use Rattle.channel.specs.Areas.{first_of, last_of}
use Rattle.channel.specs.Windows.{offset_in, area_size}
use Rattle.channel.specs.Facts as channel
use Rattle.channel.specs.Services.{facts_of}
use Rattle.channel_law.specs.Story.{Story, facts_told}
use Rattle.channel_law.specs.Runs as run
use Rattle.channel_law.specs.Law as law
use Rattle.channel_law.proofs.Held as channel-held
use Rattle.channel_law.proofs.Keeps.{facts-agree}
use Rattle.channel_law.proofs.Others.{address-inside}
use Rattle.channel_law.proofs.Whole.{answered}
use Rattle.rules.specs.Data.{Option, Some, None, Result, Ok, Err, Fault, Direction, Read, Write, Service, Channel, Facts, Refusal, Access}
use Rattle.rules.specs.Questions.{channel_at, window_at, asked_channel, asked_area, mappable, asked}
use Rattle.rules.specs.Steps.{service_at}
use Rattle.rules.specs.Account.{told}
use Rattle.rules.specs.Faults.{Notice, notice}
use Rattle.rules.specs.Promise.{turned_away, RefusedIn, RefusedAt}
use Rattle.rules.proofs.Reached.{covered, found-covers}
use Rattle.rules.proofs.Held.{HeldIf, story_at, Channels}

-- the refusal that an answer to the questions is
abbrev pub noticed : {X : Type 0} → Result X Fault → Option Notice
noticed (Ok x) = None
noticed (Err f) = Some (notice f)

abbrev err : Result ℕ Refusal → Option Refusal
err (Ok k) = None
err (Err r) = Some r

window-noticed : (n a : ℕ) (r : Result ℕ Refusal) → noticed (window_at n a r) ≡ option_map (turned_away a n) (err r)
window-noticed n a (Ok k) = refl
window-noticed n a (Err f) = refl

done-err : (r : Result ℕ Refusal) → law.refusal (run.answer_to run.done r) ≡ err r
done-err (Ok k) = refl
done-err (Err f) = refl

got-err : (v : ℕ) (r : Result ℕ Refusal) → law.refusal (run.answer_to (run.got v) r) ≡ err r
got-err v (Ok k) = refl
got-err v (Err f) = refl

module _ (N : ℕ) (m : List ℕ) (cs : List Channel) (ts : List (Option Story)) (size : length m ≡ N) (small : N ≤ 61440) (h : Channels m cs ts) (x : Access) where
  -- an access to an area, of a whole octet, is asked the channel's questions
  module _ (n : ℕ) (c : Service) (t : Story) (found : channel_at (told ts) x.address ≡ Some n) (at : story_at ts n ≡ Some t) (held : channel-held.Held m c t) (whole : splits x.share ≡ false) where
    a : ℕ
    a = x.address

    facts_at : get_or (told ts) n None ≡ Some (facts_told t)
    facts_at = get_or-map (option_map facts_told) ts n None ∙ ap (option_map facts_told) at

    covers-it : (leb (first_of t.window) x.address && leb x.address (last_of t.window)) ≡ true
    covers-it = sym (ap (λ f. covered f x.address) facts_at) ∙ found-covers (told ts) x.address n found

    fits : law.Fits (length m) t.window
    fits = subst (law.Fits (length m)) held.same held.parts.fits

    pub area-asked : asked N (told ts) x ≡ window_at n x.address (channel.asked (facts_told t) x.side x.direction (offset_in t.window x.address))
    area-asked =
        let w = t.window in
        let p = and_parts (leb (first_of w) x.address) _ covers-it in
        let i = address-inside (length m) w fits x.address (leb-true _ _ p.0) (leb-true _ _ p.1) in
        let q = and_parts (leb (w.start - 0x1000) (x.address - 0x1000)) _ i.0 in
        let below = ltb-true (x.address - 0x1000) (w.start - 0x1000 + area_size w) q.1 in
        let room = leb-true (w.start - 0x1000 + area_size w) (length m) (and_parts (leb 0x1000 w.start) _ fits.room).1 in
        let high = i.1 in
        let maps : mappable x.address ≡ true = and_from _ _ (le-leb 0x1000 x.address high) (lt-ltb x.address 0x10000 (omega arith)) in
        cond-false (x.mapped && not (mappable x.address)) _ _ (and_right x.mapped (not (mappable x.address)) (ap not maps))
        ∙ (cond-false (ltb x.address 0x1000) _ _ (le-ltb x.address 0x1000 high)
        ∙ (cond-true (ltb (x.address - 0x1000) N) _ _ (lt-ltb (x.address - 0x1000) N (omega arith))
        ∙ (ap (asked_area (told ts) x) found
        ∙ (ap (λ f. asked_channel n f x) facts_at
        ∙ cond-false (splits x.share) _ _ whole))))

    words-in : (d : Direction) → x.direction ≡ d → law.InTurn (facts_told t) x.side d (offset_in t.window x.address) → noticed (asked N (told ts) x) ≡ option_map (turned_away x.address n) (law.reason t d)
    words-in Read is turn =
        let S : run.State = record { service = c; octets = m } in
        let k = offset_in t.window x.address in
        ap noticed area-asked ∙ (window-noticed n x.address _
        ∙ ap (option_map (turned_away x.address n))
        (ap (λ d. err (channel.asked (facts_told t) x.side d k)) is
        ∙ (ap (λ (f : Facts). err (channel.asked f x.side Read k)) (sym (facts-agree m c t held))
        ∙ (sym (got-err _ (channel.asked (facts_of c) x.side Read k))
        ∙ (answered S t held (run.read x.side k)).in_words turn))))
    words-in Write is turn =
        let S : run.State = record { service = c; octets = m } in
        let k = offset_in t.window x.address in
        ap noticed area-asked ∙ (window-noticed n x.address _
        ∙ ap (option_map (turned_away x.address n))
        (ap (λ d. err (channel.asked (facts_told t) x.side d k)) is
        ∙ (ap (λ (f : Facts). err (channel.asked f x.side Write k)) (sym (facts-agree m c t held))
        ∙ (sym (done-err (channel.asked (facts_of c) x.side Write k))
        ∙ (answered S t held (run.write x.side k 0)).in_words turn))))

  words-if : (n : ℕ) → channel_at (told ts) x.address ≡ Some n → (o : Option Service) (t : Option Story) → story_at ts n ≡ t → HeldIf m o t → RefusedIn x n (noticed (asked N (told ts) x)) t
  words-if n found o None at held = tt
  words-if n found None (Some t) at held = absurd held
  words-if n found (Some c) (Some t) at held = λ whole turn. words-in n c t found at held whole x.direction refl turn

  pub words-one : RefusedAt ts x (noticed (asked N (told ts) x)) (channel_at (told ts) x.address)
  words-one = go (channel_at (told ts) x.address) refl
    where
      go : (o : Option ℕ) → channel_at (told ts) x.address ≡ o → RefusedAt ts x (noticed (asked N (told ts) x)) o
      go None found = tt
      go (Some n) found = words-if n found (service_at cs n) (story_at ts n) refl (h.held n)
