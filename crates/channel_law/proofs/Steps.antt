-- Each part of a step keeps what holds between a service and its story. Assumes nothing.
use Rattle.std.proofs.Common.{◌≡◌, ℕ, ◌+◌, ◌-◌, ◌<◌, ◌≤◌, max, Bool, true, false, cond, not, eqb, ◌≢◌, ◌⊎◌, List, [], ◌∷◌, ◌++◌, length, get_or, set, Some, sym, refl, ap, ◌∙◌, subst, subst₂, inl, inr, ⊎_elim, arith}
use Rattle.std.proofs.lemmas.List.{get_or-set_same, get_or-set_other, length-set, length_push, get_or_append_left, get_or_push}
use Rattle.std.proofs.lemmas.Bool.{leb-true, leb-false, eqb-true, eqb-false, cases_eq, cases_lt, cases_Bool, true≢false, false≢true}
use Rattle.access.specs.declared.Side.{Side}
use Rattle.access.specs.declared.Side.TheVariants.{Master, Local}
use Rattle.channel.specs.declared.setting.Kind.{Kind}
use Rattle.channel.specs.declared.setting.Kind.TheVariants.{Buffered, Mailbox}
use Rattle.channel.specs.declared.setting.Window.{Window}
use Rattle.channel.specs.declared.service.Transaction.{Transaction}
use Rattle.channel.specs.declared.service.Transaction.TheVariants.{Idle, Open, Waiting}
use Rattle.channel.specs.declared.service.Buffer.{Buffer}
use Rattle.channel.specs.declared.service.Shown.{Shown}
use Rattle.channel.specs.declared.service.Shown.TheVariants.{Nothing, Ready, Fetch}
use Rattle.channel.specs.declared.service.Service.{Service}
use Rattle.channel.specs.Windows.{area_size, in_memory, place_in}
use Rattle.channel.specs.Services.{taken_by, closed_by, closes, accessed, left, number_of, present, roles_opened, shown_opened, emptied, writing_done, reading_done, with_store, opened_if, with_fetch, store_place, frame_left}
use Rattle.channel_law.specs.Story.{Accesses, Story, taken_in, add_store, before_this, add_fetch, writing_completed, writing_cancelled, reading_completed, reading_cancelled, frame_over, noted, when}
use Rattle.channel_law.specs.Law.{last, Shows, ShowsLatest}
use Rattle.channel_law.specs.Sound.{Apart}
use Rattle.channel_law.proofs.Places.{place-from, place-below, place-exists, apart}
use Rattle.channel_law.proofs.Messages.{last-same, last-other, taken_none, goes_on, nth, none-push, latest-push, nth-push, latest-some, latest-shows, latest-more, all_more}
use Rattle.channel_law.proofs.Held.{extent, Holds, WritingHeld, ReadingHeld, ShownHeld, KindHeld, Parts}

-- one that is not closed has taken what it tells; a closed one, all
pub extent-open : (L : ℕ) (x : Transaction) → closed_by x ≡ false → extent L x ≡ taken_by x
extent-open L Idle e = refl
extent-open L (Open n f) e = refl
extent-open L Waiting e = absurd (true≢false e)

pub extent-closed : (L : ℕ) (x : Transaction) → closed_by x ≡ true → extent L x ≡ L
extent-closed L Idle e = absurd (false≢true e)
extent-closed L (Open n f) e = absurd (false≢true e)
extent-closed L Waiting e = refl

no_kind : Mailbox ≡ Buffered → ⊥
no_kind e = cc

kinds : (q : Kind) → (q ≡ Mailbox) ⊎ (q ≡ Buffered)
kinds Mailbox = inl refl
kinds Buffered = inr refl

abbrev pub writing_extent : Service → ℕ
writing_extent s = extent s.window.length s.writing

abbrev pub reading_extent : Service → ℕ
reading_extent s = extent s.window.length s.reading

is-busy : (q : Kind) (e d : ℕ) (p : Bool) (ws : List Accesses) (b : ℕ) (rs : List Accesses) → KindHeld q e d p ws b rs → q ≡ Mailbox → 0 < d → p ≡ true
is-busy Mailbox e d p ws b rs h z g = (h.busy g).0
is-busy Buffered e d p ws b rs h z g = absurd (no_kind (sym z))

taken-extent : (L : ℕ) (x : Transaction) → 0 < taken_by x → 0 < extent L x
taken-extent L Idle h = h
taken-extent L (Open n f) h = h
taken-extent L Waiting h = absurd (omega arith)

-- A STORE in its turn: no closed writing waits, and a mailbox is not full.
module _ (m : List ℕ) (s : Service) (t : Story) (i : Parts m s t) (k v : ℕ) (turn : k ≤ taken_by s.writing) (more : closed_by s.writing ≡ false)
    (free : s.window.kind ≡ Mailbox → present s.shown ≡ false) where
  abbrev after : List ℕ
  after = set m (store_place s k) v

  abbrev at' : ℕ → ℕ
  at' j = place_in s.window (number_of s.roles.store) j

  kl : k < s.window.length
  kl = let x = i.writing.within in omega arith

  at-k : get_or after (at' k) 0 ≡ v
  at-k = get_or-set_same m (at' k) v 0 (place-exists s.window (length m) i.fits.room s.roles.store k kl)

  at_other : (j : ℕ) → (k ≡ j → ⊥) → get_or after (at' j) 0 ≡ get_or m (at' j) 0
  at_other j ne = get_or-set_other m (at' k) (at' j) v 0 (λ e. ne (omega arith))

  content' : (j : ℕ) → j < max (taken_by s.writing) (k + 1) → last ((k, v) ∷ t.writing) j ≡ Some (get_or after (at' j) 0)
  content' j h =
      let e = extent-open s.window.length s.writing more in
      ⊎_elim
      (λ (z : k ≡ j). subst (λ (n : ℕ). last ((k, v) ∷ t.writing) n ≡ Some (get_or after (at' n) 0)) z (last-same k v t.writing ∙ ap Some (sym at-k)))
      (λ ne. last-other k v j t.writing ne ∙ (i.writing.content j (omega arith) ∙ ap Some (sym (at_other j ne))))
      (cases_eq k j)

  -- what stands in another buffer stays
  stays : (b : Buffer) (w : Accesses) → number_of s.roles.store ≢ number_of b → (s.window.kind ≡ Mailbox → ⊥) → Holds m s.window b w → Holds after s.window b w
  stays b w ne mail h j jl =
      ⊎_elim (λ e. absurd (mail e))
      (λ e. h j jl ∙ ap Some (sym (get_or-set_other m (at' k) (place_in s.window (number_of b) j) v 0 (apart s.window (number_of b) (number_of s.roles.store) j k e (λ x. ne (sym x)) jl kl))))
      (kinds s.window.kind)

  shown' : (x : Shown) → s.shown ≡ x → ShownHeld m s.window s.roles x t.written → ShownHeld after s.window s.roles x t.written
  shown' Nothing e h = tt
  shown' Ready e h = stays s.roles.ready _ i.roles.store-ready (λ q. true≢false (sym (ap present e) ∙ free q)) h
  shown' Fetch e h = stays s.roles.fetch _ i.roles.store-fetch (λ q. true≢false (sym (ap present e) ∙ free q)) h

  kind' : (q : Kind) (e' e d : ℕ) (p : Bool) (ws : List Accesses) (b : ℕ) (rs : List Accesses) → (q ≡ Mailbox → p ≡ false) → KindHeld q e d p ws b rs → KindHeld q e' d p ws b rs
  kind' Mailbox e' e d p ws b rs no-p h = record { counts = h.counts; quiet = λ z. absurd (true≢false (sym z ∙ no-p refl)); busy = h.busy; in_order = h.in_order }
  kind' Buffered e' e d p ws b rs no-p h = h

  writing' : (side : Side) (c : Bool) → closes s.window k ≡ c →
      WritingHeld after s.window s.roles.store (taken_by (accessed side s.writing k c)) (extent s.window.length (accessed side s.writing k c)) ((k, v) ∷ t.writing)
  writing' side false e =
      let ne = leb-false s.window.length (k + 1) e in let x = i.writing.within in let y = extent-open s.window.length s.writing more in let z = i.writing.taken in
      record { within = omega arith; taken = omega arith; content = content' }
  writing' side true e =
      let is = leb-true s.window.length (k + 1) e in let x = i.writing.within in let y = extent-open s.window.length s.writing more in let z = i.writing.taken in
      record { within = omega arith; taken = omega arith; content = λ j h. content' j (omega arith) }

  pub stored : Parts after (with_store s k) (add_store t k v)
  stored = record {
    fits = record { long = i.fits.long; room = simp length-set i.fits.room };
    roles = i.roles;
    writing = writing' s.window.stores (closes s.window k) refl;
    reading = record {
      within = i.reading.within;
      taken = i.reading.taken;
      accessed' = i.reading.accessed';
      latest = i.reading.latest;
      buffer = λ h. stays s.roles.fetch _ i.roles.store-fetch (λ q. true≢false (sym (is-busy s.window.kind _ _ _ _ _ _ i.kind q (taken-extent s.window.length s.reading h)) ∙ free q)) (i.reading.buffer h);
    };
    shown = shown' s.shown refl i.shown;
    some = i.some;
    over = i.over;
    kind = kind' s.window.kind _ _ _ _ _ _ _ free i.kind;
  }

-- A CLOSED WRITING COMPLETES.
module _ (m : List ℕ) (s : Service) (t : Story) (i : Parts m s t) (closed : closed_by s.writing ≡ true) where
  abbrev all : List Accesses
  all = t.written ++ (t.writing ∷ [])

  full : extent s.window.length s.writing ≡ s.window.length
  full = extent-closed s.window.length s.writing closed

  buffer' : 0 < taken_by s.reading → Holds m s.window s.roles.fetch (nth all t.reading.before)
  buffer' h =
      let e = i.reading.taken in
      let x : 0 < taken_in t.reading.fetched = omega (arith, taken-extent s.window.length s.reading h) in
      let l = latest-some t.written t.reading.before t.reading.fetched x i.reading.latest in
      subst (Holds m s.window s.roles.fetch) (sym (nth-push t.written t.writing t.reading.before l.0 l.1)) (i.reading.buffer h)

  kind'' : (q : Kind) (e d : ℕ) (p : Bool) (b : ℕ) (rs : List Accesses) → 0 < e → KindHeld q e d p t.written b rs → KindHeld q 0 d true all b rs
  kind'' Buffered e d p b rs h x = sym (ap not (none-push t.written t.writing))
  kind'' Mailbox e d p b rs h x =
      let no-p : p ≡ true → ⊥ = λ z. let y = x.quiet z in omega arith in
      let empty : p ≡ false = ⊎_elim (λ z. absurd (no-p z)) (λ z. z) (cases_Bool p) in
      let c : length t.written ≡ length rs + 0 = x.counts ∙ ap (λ (z : Bool). length rs + cond z 1 0) empty in
      let l = length_push t.written t.writing in
      record {
        counts = omega arith;
        quiet = λ _. refl;
        busy = λ g. absurd (no-p (x.busy g).0);
        in_order = λ n g. subst (λ (y : Accesses). Shows y (get_or rs n [])) (sym (get_or_append_left t.written (t.writing ∷ []) [] n (omega arith))) (x.in_order n g);
      }

  pub writing-completes : Parts m (writing_done s) (writing_completed t)
  writing-completes =
      let two = i.fits.long in let l = length_push t.written t.writing in let f = full in
      record {
        fits = i.fits;
        roles = record { store-ready = λ z. i.roles.store-ready (sym z); store-fetch = i.roles.ready-fetch; ready-fetch = i.roles.store-fetch };
        writing = record { within = omega arith; taken = refl; content = λ j h. absurd (omega arith) };
        reading = record { within = i.reading.within; taken = i.reading.taken; accessed' = i.reading.accessed'; latest = latest-more t.written t.writing t.reading.before t.reading.fetched i.reading.latest; buffer = buffer' };
        shown = subst (Holds m s.window s.roles.store) (sym (latest-push t.written t.writing)) (λ j h. i.writing.content j (omega arith));
        some = λ _. omega arith;
        over = all_more t.written t.writing t.over i.over;
        kind = kind'' s.window.kind _ _ _ _ _ (omega arith) i.kind;
      }

-- A READING OPENS, or goes on: the buffer, and how many writings were completed.
abbrev pub numbered : Story → Story
numbered t = record {
  window = t.window;
  written = t.written;
  writing = t.writing;
  over = t.over;
  reading = record { before = before_this t.reading.before (length t.written) t.reading.fetched; fetched = t.reading.fetched };
  read = t.read;
  opened = t.opened;
  touched = t.touched;
  closed = t.closed;
}

module _ (m : List ℕ) (s : Service) (t : Story) (i : Parts m s t) (more : closed_by s.reading ≡ false) where
  abbrev number : ℕ
  number = before_this t.reading.before (length t.written) t.reading.fetched

  none_open : taken_by s.reading ≡ 0 → t.reading.fetched ≡ []
  none_open z = let e = extent-open s.window.length s.reading more in let y = i.reading.taken in taken_none t.reading.fetched (omega arith)

  same_number : 0 < taken_by s.reading → number ≡ t.reading.before
  same_number h = let e = extent-open s.window.length s.reading more in let y = i.reading.taken in goes_on t.reading.before (length t.written) t.reading.fetched (omega arith)

  new-number : taken_by s.reading ≡ 0 → number ≡ length t.written
  new-number z = ap (before_this t.reading.before (length t.written)) (none_open z)

  roles' : (x : Shown) → Apart (roles_opened x s.roles)
  roles' Nothing = i.roles
  roles' Ready = record { store-ready = i.roles.store-fetch; store-fetch = i.roles.store-ready; ready-fetch = λ z. i.roles.ready-fetch (sym z) }
  roles' Fetch = i.roles

  store_same : (x : Shown) → s.roles.store ≡ (roles_opened x s.roles).store
  store_same Nothing = refl
  store_same Ready = refl
  store_same Fetch = refl

  present-same : (x : Shown) → present x ≡ present (shown_opened x)
  present-same Nothing = refl
  present-same Ready = refl
  present-same Fetch = refl

  shown'' : (x : Shown) → ShownHeld m s.window s.roles x t.written → ShownHeld m s.window (roles_opened x s.roles) (shown_opened x) t.written
  shown'' Nothing h = tt
  shown'' Ready h = h
  shown'' Fetch h = h

  kind''' : (q : Kind) (e d : ℕ) (p : Bool) (b b' : ℕ) (rs : List Accesses) → d ≡ 0 → KindHeld q e d p t.written b rs → KindHeld q e d p t.written b' rs
  kind''' Buffered e d p b b' rs z h = h
  kind''' Mailbox e d p b b' rs z h = record { counts = h.counts; quiet = h.quiet; busy = λ g. absurd (omega arith); in_order = h.in_order }

  opened-held : (o : Bool) → eqb (taken_by s.reading) 0 ≡ o → Parts m (opened_if o s) (numbered t)
  opened-held false e =
      let ne = eqb-false (taken_by s.reading) 0 e in
      let h : 0 < taken_by s.reading = omega arith in
      record {
        fits = i.fits;
        roles = i.roles;
        writing = i.writing;
        shown = i.shown;
        some = i.some;
        over = i.over;
        reading = subst (λ (n : ℕ). ReadingHeld m s.window s.roles.fetch (taken_by s.reading) (extent s.window.length s.reading) (record { before = n; fetched = t.reading.fetched }) t.written) (sym (same_number h)) i.reading;
        kind = subst (λ (n : ℕ). KindHeld s.window.kind (writing_extent s) (reading_extent s) (present s.shown) t.written n t.read) (sym (same_number h)) i.kind;
      }
  opened-held true e =
      let z = eqb-true (taken_by s.reading) 0 e in
      let y = extent-open s.window.length s.reading more in
      record {
        fits = i.fits;
        roles = roles' s.shown;
        writing = subst (λ (b : Buffer). WritingHeld m s.window b (taken_by s.writing) (writing_extent s) t.writing) (store_same s.shown) i.writing;
        reading = record {
          within = i.reading.within;
          taken = i.reading.taken;
          accessed' = i.reading.accessed';
          latest = subst (λ (xs : Accesses). ShowsLatest t.written number xs) (sym (none_open z)) tt;
          buffer = λ h. absurd (omega arith);
        };
        shown = shown'' s.shown i.shown;
        some = λ p. i.some (present-same s.shown ∙ p);
        over = i.over;
        kind = subst (λ (p : Bool). KindHeld s.window.kind (writing_extent s) (reading_extent s) p t.written number t.read) (present-same s.shown) (kind''' s.window.kind (writing_extent s) (reading_extent s) (present s.shown) t.reading.before number t.read (y ∙ z) i.kind);
      }

  -- what the reading finds
  module _ (there : taken_by s.reading ≡ 0 → present s.shown ≡ true) where
    ready-there : (x : Shown) → present x ≡ true → ShownHeld m s.window s.roles x t.written → Holds m s.window (roles_opened x s.roles).fetch (nth t.written (length t.written))
    ready-there Nothing p h = absurd (false≢true p)
    ready-there Ready p h = h
    ready-there Fetch p h = h

    finds : (o : Bool) → eqb (taken_by s.reading) 0 ≡ o → Holds m s.window (opened_if o s).roles.fetch (nth t.written number)
    finds false e =
        let ne = eqb-false (taken_by s.reading) 0 e in
        let h : 0 < taken_by s.reading = omega arith in
        subst (λ (n : ℕ). Holds m s.window s.roles.fetch (nth t.written n)) (sym (same_number h)) (i.reading.buffer h)
    finds true e =
        let z = eqb-true (taken_by s.reading) 0 e in
        subst (λ (n : ℕ). Holds m s.window (roles_opened s.shown s.roles).fetch (nth t.written n)) (sym (new-number z)) (ready-there s.shown (there z) i.shown)

    numbers : (0 < number) × (number ≤ length t.written)
    numbers =
        ⊎_elim
        (λ h.
        let e = extent-open s.window.length s.reading more in let y = i.reading.taken in
        let l = latest-some t.written t.reading.before t.reading.fetched (omega arith) i.reading.latest in
        let q = same_number h in let l0 = l.0 in let l1 = l.1 in
        (omega arith, omega arith))
        (λ h. let z : taken_by s.reading ≡ 0 = omega arith in let q = new-number z in let g = i.some (there z) in (omega arith, omega arith))
        (cases_lt 0 (taken_by s.reading))

    -- in a mailbox it is full, and the latest writing is shown
    mail : (q : Kind) (e d : ℕ) (p : Bool) (rs : List Accesses) → d ≡ taken_by s.reading → (taken_by s.reading ≡ 0 → p ≡ true) → KindHeld q e d p t.written t.reading.before rs → q ≡ Mailbox → (p ≡ true) × (number ≡ length t.written)
    mail Buffered e d p rs z g h c = absurd (no_kind (sym c))
    mail Mailbox e d p rs z g h c =
        ⊎_elim
        (λ o. let x = h.busy (omega arith) in (x.0, same_number o ∙ x.1))
        (λ o. let w : taken_by s.reading ≡ 0 = omega arith in (g w, new-number w))
        (cases_lt 0 (taken_by s.reading))

-- AN OCTET IS FETCHED by a reading whose writing stands in the fetch buffer.
abbrev pub taking : Story → (k v : ℕ) → Story
taking t k v = record {
  window = t.window;
  written = t.written;
  writing = t.writing;
  over = t.over;
  reading = record { before = t.reading.before; fetched = (k, v) ∷ t.reading.fetched };
  read = t.read;
  opened = t.opened;
  touched = t.touched;
  closed = t.closed;
}

module _ (m : List ℕ) (s : Service) (t : Story) (i : Parts m s t) (k : ℕ) (turn : k ≤ taken_by s.reading) (more : closed_by s.reading ≡ false)
    (some : 0 < t.reading.before) (by-now : t.reading.before ≤ length t.written) (found : Holds m s.window s.roles.fetch (nth t.written t.reading.before))
    (mail' : s.window.kind ≡ Mailbox → (present s.shown ≡ true) × (t.reading.before ≡ length t.written)) where
  abbrev octet : ℕ
  octet = get_or m (place_in s.window (number_of s.roles.fetch) k) 0

  latest' : ShowsLatest t.written t.reading.before ((k, octet) ∷ t.reading.fetched)
  latest' = let x = i.reading.within in (some, by-now, (found k (omega arith), latest-shows t.written t.reading.before t.reading.fetched i.reading.latest))

  accessed'' : (j : ℕ) → j < max (taken_by s.reading) (k + 1) → (v : ℕ) × (last ((k, octet) ∷ t.reading.fetched) j ≡ Some v)
  accessed'' j h =
      let e = extent-open s.window.length s.reading more in
      ⊎_elim
      (λ (z : k ≡ j). (octet, subst (λ (n : ℕ). last ((k, octet) ∷ t.reading.fetched) n ≡ Some octet) z (last-same k octet t.reading.fetched)))
      (λ ne. let g = i.reading.accessed' j (omega arith) in (g.0, last-other k octet j t.reading.fetched ne ∙ g.1))
      (cases_eq k j)

  reading' : (side : Side) (c : Bool) → closes s.window k ≡ c →
      ReadingHeld m s.window s.roles.fetch (taken_by (accessed side s.reading k c)) (extent s.window.length (accessed side s.reading k c)) (record { before = t.reading.before; fetched = (k, octet) ∷ t.reading.fetched }) t.written
  reading' side false e =
      let ne = leb-false s.window.length (k + 1) e in let x = i.reading.within in let y = extent-open s.window.length s.reading more in let z = i.reading.taken in
      record { within = omega arith; taken = omega arith; accessed' = accessed''; latest = latest'; buffer = λ _. found }
  reading' side true e =
      let is = leb-true s.window.length (k + 1) e in let x = i.reading.within in let y = extent-open s.window.length s.reading more in let z = i.reading.taken in
      record { within = omega arith; taken = omega arith; accessed' = λ j h. accessed'' j (omega arith); latest = latest'; buffer = λ h. absurd (omega arith) }

  kind'''' : (q : Kind) (e d d' : ℕ) (p : Bool) (rs : List Accesses) → (q ≡ Mailbox → (p ≡ true) × (t.reading.before ≡ length t.written)) → KindHeld q e d p t.written t.reading.before rs → KindHeld q e d' p t.written t.reading.before rs
  kind'''' Buffered e d d' p rs g h = h
  kind'''' Mailbox e d d' p rs g h = record { counts = h.counts; quiet = h.quiet; busy = λ _. g refl; in_order = h.in_order }

  taken_more : Parts m (with_fetch s k) (taking t k octet)
  taken_more = record {
    fits = i.fits;
    roles = i.roles;
    writing = i.writing;
    reading = reading' _ (closes s.window k) refl;
    shown = i.shown;
    some = i.some;
    over = i.over;
    kind = kind'''' s.window.kind _ _ _ _ _ mail' i.kind;
  }

-- both together: a fetch in its turn, where a message is there if a reading opens
module _ (m : List ℕ) (s : Service) (t : Story) (i : Parts m s t) (k : ℕ) (turn : k ≤ taken_by s.reading) (more : closed_by s.reading ≡ false)
    (there : taken_by s.reading ≡ 0 → present s.shown ≡ true) where
  pub fetched-if : (o : Bool) → eqb (taken_by s.reading) 0 ≡ o →
      Parts m (with_fetch (opened_if o s) k) (add_fetch t k (get_or m (place_in s.window (number_of (opened_if o s).roles.fetch) k) 0))
  fetched-if false e =
      let p = numbers m s t i more there in
      taken_more m s (numbered t) (opened-held m s t i more false e) k turn more p.0 p.1 (finds m s t i more there false e)
      (mail m s t i more there s.window.kind (writing_extent s) (reading_extent s) (present s.shown) t.read (extent-open s.window.length s.reading more) there i.kind)
  fetched-if true e =
      let p = numbers m s t i more there in
      let g = mail m s t i more there s.window.kind (writing_extent s) (reading_extent s) (present s.shown) t.read (extent-open s.window.length s.reading more) there i.kind in
      taken_more m (opened_if true s) (numbered t) (opened-held m s t i more true e) k turn more p.0 p.1 (finds m s t i more there true e)
      (λ q. (sym (present-same m s t i more s.shown) ∙ (g q).0, (g q).1))

-- A CLOSED READING COMPLETES.
module _ (m : List ℕ) (s : Service) (t : Story) (i : Parts m s t) (closed : closed_by s.reading ≡ true) where
  shut : extent s.window.length s.reading ≡ s.window.length
  shut = extent-closed s.window.length s.reading closed

  shown''' : (q : Kind) → ShownHeld m s.window s.roles (emptied q s.shown) t.written
  shown''' Mailbox = tt
  shown''' Buffered = i.shown

  some' : (q : Kind) → present (emptied q s.shown) ≡ true → 0 < length t.written
  some' Mailbox e = absurd (false≢true e)
  some' Buffered e = i.some e

  kind⁵ : (q : Kind) (e d : ℕ) → 0 < d → KindHeld q e d (present s.shown) t.written t.reading.before t.read → KindHeld q e 0 (present (emptied q s.shown)) t.written 0 (t.read ++ (t.reading.fetched ∷ []))
  kind⁵ Buffered e d g h = h
  kind⁵ Mailbox e d g h =
      let b = h.busy g in
      let n = b.1 in
      let c : length t.written ≡ length t.read + 1 = h.counts ∙ ap (λ (z : Bool). length t.read + cond z 1 0) b.0 in
      let l = length_push t.read t.reading.fetched in
      record {
        counts = omega arith;
        quiet = λ z. absurd (false≢true z);
        busy = λ z. absurd (omega arith);
        in_order = λ j z.
            ⊎_elim
            (λ x. subst (Shows (get_or t.written j [])) (sym (get_or_append_left t.read (t.reading.fetched ∷ []) [] j x)) (h.in_order j x))
            (λ x.
            let at : length t.read ≡ j = omega arith in
            let number : t.reading.before - 1 ≡ j = omega arith in
            subst (Shows (get_or t.written j [])) (sym (get_or_push t.read t.reading.fetched [] j at))
            (subst (λ (y : ℕ). Shows (get_or t.written y []) t.reading.fetched) number (latest-shows t.written t.reading.before t.reading.fetched i.reading.latest)))
            (cases_lt j (length t.read));
      }

  pub reading-completes : Parts m (reading_done s) (reading_completed t)
  reading-completes =
      let two = i.fits.long in let f = shut in
      record {
        fits = i.fits;
        roles = i.roles;
        writing = i.writing;
        reading = record { within = omega arith; taken = refl; accessed' = λ j h. absurd (omega arith); latest = tt; buffer = λ h. absurd (omega arith) };
        shown = shown''' s.window.kind;
        some = some' s.window.kind;
        over = (i.reading.latest, i.over);
        kind = kind⁵ s.window.kind _ _ (omega arith) i.kind;
      }

-- A FRAME'S END
module _ (m : List ℕ) (s : Service) (t : Story) (i : Parts m s t) where
  kind⁶ : (q : Kind) (e d d' : ℕ) (p : Bool) (ws : List Accesses) (b b' : ℕ) (rs : List Accesses) → d' ≡ 0 → KindHeld q e d p ws b rs → KindHeld q e d' p ws b' rs
  kind⁶ Buffered e d d' p ws b b' rs z h = h
  kind⁶ Mailbox e d d' p ws b b' rs z h = record { counts = h.counts; quiet = h.quiet; busy = λ g. absurd (omega arith); in_order = h.in_order }

  kind⁷ : (q : Kind) (e d : ℕ) (p : Bool) (ws : List Accesses) (b : ℕ) (rs : List Accesses) → KindHeld q e d p ws b rs → KindHeld q 0 d p ws b rs
  kind⁷ Buffered e d p ws b rs h = h
  kind⁷ Mailbox e d p ws b rs h = record { counts = h.counts; quiet = λ _. refl; busy = h.busy; in_order = h.in_order }

  abbrev pub with-writing : Transaction → Service
  with-writing x = record { window = s.window; writing = x; reading = s.reading; roles = s.roles; shown = s.shown; write_event = s.write_event; read_event = s.read_event }

  abbrev pub with-reading : Transaction → Service
  with-reading x = record { window = s.window; writing = s.writing; reading = x; roles = s.roles; shown = s.shown; write_event = s.write_event; read_event = s.read_event }

  -- a writing is cancelled, or goes on
  pub writing-cancelled : (b : Bool) → Parts m (with-writing (cond b Idle s.writing)) (when b writing_cancelled t)
  writing-cancelled true =
      let two = i.fits.long in
      record {
        fits = i.fits;
        roles = i.roles;
        writing = record { within = omega arith; taken = refl; content = λ j h. absurd (omega arith) };
        reading = i.reading;
        shown = i.shown;
        some = i.some;
        over = i.over;
        kind = kind⁷ s.window.kind _ _ _ _ _ _ i.kind;
      }
  writing-cancelled false = record { fits = i.fits; roles = i.roles; writing = i.writing; reading = i.reading; shown = i.shown; some = i.some; over = i.over; kind = i.kind }

  pub reading-cancelled : (b : Bool) → Parts m (with-reading (cond b Idle s.reading)) (when b reading_cancelled t)
  reading-cancelled true =
      let two = i.fits.long in
      record {
        fits = i.fits;
        roles = i.roles;
        writing = i.writing;
        reading = record { within = omega arith; taken = refl; accessed' = λ j h. absurd (omega arith); latest = tt; buffer = λ h. absurd (omega arith) };
        shown = i.shown;
        some = i.some;
        over = (i.reading.latest, i.over);
        kind = kind⁶ s.window.kind _ _ _ _ _ _ _ _ refl i.kind;
      }
  reading-cancelled false = record { fits = i.fits; roles = i.roles; writing = i.writing; reading = i.reading; shown = i.shown; some = i.some; over = i.over; kind = i.kind }

  left-taken : (x : Transaction) → taken_by x ≡ taken_by (left x)
  left-taken Idle = refl
  left-taken (Open n f) = refl
  left-taken Waiting = refl

  left-extent : (L : ℕ) (x : Transaction) → closed_by x ≡ false → extent L x ≡ extent L (left x)
  left-extent L Idle e = refl
  left-extent L (Open n f) e = refl
  left-extent L Waiting e = absurd (true≢false e)

  pub frame-left : closed_by s.writing ≡ false → closed_by s.reading ≡ false → Parts m (frame_left s) t
  frame-left p q =
      let wt = left-taken s.writing in let we = left-extent s.window.length s.writing p in
      let rt = left-taken s.reading in let re = left-extent s.window.length s.reading q in
      record {
        fits = i.fits;
        roles = i.roles;
        writing = subst₂ (λ (n e : ℕ). WritingHeld m s.window s.roles.store n e t.writing) wt we i.writing;
        reading = subst₂ (λ (n e : ℕ). ReadingHeld m s.window s.roles.fetch n e t.reading t.written) rt re i.reading;
        shown = i.shown;
        some = i.some;
        over = i.over;
        kind = subst₂ (λ (e d : ℕ). KindHeld s.window.kind e d (present s.shown) t.written t.reading.before t.read) we re i.kind;
      }

  -- what is told of the running frame is no part of it
  pub frame-over : Parts m s (frame_over t)
  frame-over = record { fits = i.fits; roles = i.roles; writing = i.writing; reading = i.reading; shown = i.shown; some = i.some; over = i.over; kind = i.kind }

  pub frame-noted : (side : Side) (c : Bool) → Parts m s (noted side c t)
  frame-noted Master c = record { fits = i.fits; roles = i.roles; writing = i.writing; reading = i.reading; shown = i.shown; some = i.some; over = i.over; kind = i.kind }
  frame-noted Local c = i

-- ANOTHER MEMORY that agrees with this one on the area
abbrev pub Agree : Window → List ℕ → List ℕ → Type 0
Agree w m n = (p : ℕ) → w.start - 0x1000 ≤ p → p < w.start - 0x1000 + area_size w → get_or n p 0 ≡ get_or m p 0

module _ (m n : List ℕ) (s : Service) (t : Story) (i : Parts m s t) (long : length n ≡ length m) (agree : Agree s.window m n) where
  there : (b : Buffer) (j : ℕ) → j < s.window.length → get_or m (place_in s.window (number_of b) j) 0 ≡ get_or n (place_in s.window (number_of b) j) 0
  there b j jl = sym (agree (place_in s.window (number_of b) j) (place-from s.window (number_of b) j) (place-below s.window b j jl))

  holds : (b : Buffer) (w : Accesses) → Holds m s.window b w → Holds n s.window b w
  holds b w h j jl = h j jl ∙ ap Some (there b j jl)

  shown⁴ : (x : Shown) → ShownHeld m s.window s.roles x t.written → ShownHeld n s.window s.roles x t.written
  shown⁴ Nothing h = tt
  shown⁴ Ready h = holds s.roles.ready _ h
  shown⁴ Fetch h = holds s.roles.fetch _ h

  extent-within : (L : ℕ) (x : Transaction) → taken_by x < L → extent L x ≤ L
  extent-within L Idle h = omega arith
  extent-within L (Open k f) h = omega arith
  extent-within L Waiting h = omega arith

  pub elsewhere-held : Parts n s t
  elsewhere-held =
      let x = extent-within s.window.length s.writing i.writing.within in
      record {
        fits = record { long = i.fits.long; room = subst (λ (z : ℕ). in_memory z s.window ≡ true) (sym long) i.fits.room };
        roles = i.roles;
        writing = record { within = i.writing.within; taken = i.writing.taken; content = λ j h. i.writing.content j h ∙ ap Some (there s.roles.store j (omega arith)) };
        reading = record { within = i.reading.within; taken = i.reading.taken; accessed' = i.reading.accessed'; latest = i.reading.latest; buffer = λ h. holds s.roles.fetch _ (i.reading.buffer h) };
        shown = shown⁴ s.shown i.shown;
        some = i.some;
        over = i.over;
        kind = i.kind;
      }
