-- Each part of a step keeps what the events tell. Assumes nothing.
use Rattle.std.proofs.Common.{◌≡◌, ℕ, ◌<◌, ◌≤◌, Bool, true, false, cond, not, ◌&&◌, eqb, ltb, List, [], ◌∷◌, length, get_or, set, sym, refl, ap, ◌∙◌, subst, arith}
use Rattle.std.proofs.Math.Bool.{and-true}
use Rattle.std.proofs.lemmas.List.{length_push}
use Rattle.std.proofs.lemmas.Bool.{eqb-true, eqb-false, lt-ltb, le-ltb, and_right, false≢true}
use Rattle.access.specs.declared.Side.{Side}
use Rattle.access.specs.declared.Side.TheVariants.{Master, Local}
use Rattle.channel.specs.declared.service.Transaction.{Transaction}
use Rattle.channel.specs.declared.service.Transaction.TheVariants.{Idle, Open, Waiting}
use Rattle.channel.specs.declared.service.Service.{Service}
use Rattle.channel.specs.Windows.{place_in}
use Rattle.channel.specs.Services.{taken_by, touched_by, closed_by, left, number_of, present, writing_done, reading_done, with_store, opened_if, with_fetch, store_place, frame_left}
use Rattle.channel.specs.declared.setting.Kind.TheVariants.{Mailbox}
use Rattle.channel_law.specs.Story.{Accesses, Reading, Story, taken_in, add_store, before_this, add_fetch, noted, writing_completed, writing_cancelled, reading_completed, reading_cancelled, frame_over, when}
use Rattle.channel_law.specs.Law.{seen_by, seen}
use Rattle.channel_law.proofs.Messages.{taken_none, goes_on}
use Rattle.channel_law.proofs.Held.{Parts, Events, Both}
use Rattle.channel_law.proofs.Steps.{extent-open, extent-closed, stored, writing-completes, fetched-if, reading-completes, with-writing, with-reading, writing-cancelled, reading-cancelled, frame-left, frame-over, frame-noted}

-- a reading with an octet is the latest that opened
seen-some : (n : ℕ) (xs : Accesses) (rs : List Reading) → 0 < taken_in xs → seen_by n xs rs ≡ n
seen-some n [] rs h = absurd (omega arith)
seen-some n (x ∷ xs) rs h = refl

module _ (m : List ℕ) (s : Service) (t : Story) (h : Both m s t) where
  abbrev i : Parts m s t
  i = h.parts

  abbrev e : Events s t
  e = h.events

  -- A STORE: an opening writing clears the read event.
  module _ (k v : ℕ) (turn : k ≤ taken_by s.writing) (more : closed_by s.writing ≡ false) (free : s.window.kind ≡ Mailbox → present s.shown ≡ false) where
    store-events : (b : Bool) → eqb (taken_by s.writing) 0 ≡ b → (before_this t.opened (length t.read) t.writing ≤ length t.read) × ((s.read_event && not b) ≡ ltb (before_this t.opened (length t.read) t.writing) (length t.read))
    store-events true z =
        let y = extent-open s.window.length s.writing more in let x = i.writing.taken in let o = eqb-true (taken_by s.writing) 0 z in
        let q : before_this t.opened (length t.read) t.writing ≡ length t.read = ap (before_this t.opened (length t.read)) (taken_none t.writing (omega arith)) in
        (omega arith, and_right s.read_event false refl ∙ sym (le-ltb _ _ (omega arith)))
    store-events false z =
        let y = extent-open s.window.length s.writing more in let x = i.writing.taken in let o = eqb-false (taken_by s.writing) 0 z in
        let q : before_this t.opened (length t.read) t.writing ≡ t.opened = goes_on t.opened (length t.read) t.writing (omega arith) in
        let b = e.by-then in
        (omega arith, and-true s.read_event ∙ (e.read-event ∙ ap (λ (n : ℕ). ltb n (length t.read)) (sym q)))

    pub stored-both : Both (set m (store_place s k) v) (with_store s k) (add_store t k v)
    stored-both =
        let x = store-events (eqb (taken_by s.writing) 0) refl in
        record {
          parts = stored m s t i k v turn more free;
          events = record { by-now = e.by-now; by-then = x.0; write-event = e.write-event; read-event = x.1; some-octet = e.some-octet };
        }

  -- A FETCH: an opening reading clears the write event.
  module _ (k : ℕ) (turn : k ≤ taken_by s.reading) (more : closed_by s.reading ≡ false) (there : taken_by s.reading ≡ 0 → present s.shown ≡ true) where
    abbrev octet : Bool → ℕ
    octet o = get_or m (place_in s.window (number_of (opened_if o s).roles.fetch) k) 0

    pub fetched-both : (o : Bool) → eqb (taken_by s.reading) 0 ≡ o → Both m (with_fetch (opened_if o s) k) (add_fetch t k (octet o))
    fetched-both true z =
        let y = extent-open s.window.length s.reading more in let x = i.reading.taken in let o = eqb-true (taken_by s.reading) 0 z in
        let q : before_this t.reading.before (length t.written) t.reading.fetched ≡ length t.written = ap (before_this t.reading.before (length t.written)) (taken_none t.reading.fetched (omega arith)) in
        record {
          parts = fetched-if m s t i k turn more there true z;
          events = record { by-now = omega arith; by-then = e.by-then; write-event = sym (le-ltb _ _ (omega arith)); read-event = e.read-event; some-octet = λ _. omega arith };
        }
    fetched-both false z =
        let y = extent-open s.window.length s.reading more in let x = i.reading.taken in let o = eqb-false (taken_by s.reading) 0 z in
        let g : 0 < taken_in t.reading.fetched = omega arith in
        let q : before_this t.reading.before (length t.written) t.reading.fetched ≡ t.reading.before = goes_on t.reading.before (length t.written) t.reading.fetched g in
        let r : seen t ≡ before_this t.reading.before (length t.written) t.reading.fetched = seen-some t.reading.before t.reading.fetched t.over g ∙ sym q in
        record {
          parts = fetched-if m s t i k turn more there false z;
          events = record {
            by-now = subst (λ (n : ℕ). n ≤ length t.written) r e.by-now;
            by-then = e.by-then;
            write-event = e.write-event ∙ ap (λ (n : ℕ). ltb n (length t.written)) r;
            read-event = e.read-event;
            some-octet = λ _. omega arith;
          };
        }

  -- COMPLETIONS set the events.
  pub writing-completes-both : closed_by s.writing ≡ true → Both m (writing_done s) (writing_completed t)
  writing-completes-both c =
      let l = length_push t.written t.writing in let b = e.by-now in
      record {
        parts = writing-completes m s t i c;
        events = record { by-now = omega arith; by-then = e.by-then; write-event = sym (lt-ltb _ _ (omega arith)); read-event = e.read-event; some-octet = e.some-octet };
      }

  pub reading-completes-both : closed_by s.reading ≡ true → Both m (reading_done s) (reading_completed t)
  reading-completes-both c =
      let l = length_push t.read t.reading.fetched in let b = e.by-then in
      let two = i.fits.long in let x = i.reading.taken in let f = extent-closed s.window.length s.reading c in
      let r : seen t ≡ t.reading.before = seen-some t.reading.before t.reading.fetched t.over (omega arith) in
      record {
        parts = reading-completes m s t i c;
        events = record {
          by-now = subst (λ (n : ℕ). n ≤ length t.written) r e.by-now;
          by-then = omega arith;
          write-event = e.write-event ∙ ap (λ (n : ℕ). ltb n (length t.written)) r;
          read-event = sym (lt-ltb _ _ (omega arith));
          some-octet = λ z. absurd (false≢true z);
        };
      }

  -- CANCELLING puts neither back.
  pub writing-cancelled-both : (b : Bool) → Both m (with-writing m s t i (cond b Idle s.writing)) (when b writing_cancelled t)
  writing-cancelled-both true = record { parts = writing-cancelled m s t i true; events = record { by-now = e.by-now; by-then = e.by-then; write-event = e.write-event; read-event = e.read-event; some-octet = e.some-octet } }
  writing-cancelled-both false = record { parts = writing-cancelled m s t i false; events = record { by-now = e.by-now; by-then = e.by-then; write-event = e.write-event; read-event = e.read-event; some-octet = e.some-octet } }

  pub reading-cancelled-both : (b : Bool) → (b ≡ true → touched_by s.reading ≡ true) → Both m (with-reading m s t i (cond b Idle s.reading)) (when b reading_cancelled t)
  reading-cancelled-both true was =
      let r : seen t ≡ t.reading.before = seen-some t.reading.before t.reading.fetched t.over (e.some-octet (was refl)) in
      record {
        parts = reading-cancelled m s t i true;
        events = record {
          by-now = subst (λ (n : ℕ). n ≤ length t.written) r e.by-now;
          by-then = e.by-then;
          write-event = e.write-event ∙ ap (λ (n : ℕ). ltb n (length t.written)) r;
          read-event = e.read-event;
          some-octet = λ z. absurd (false≢true z);
        };
      }
  reading-cancelled-both false was = record { parts = reading-cancelled m s t i false; events = record { by-now = e.by-now; by-then = e.by-then; write-event = e.write-event; read-event = e.read-event; some-octet = e.some-octet } }

  -- A FRAME'S END leaves them.
  left-quiet : (x : Transaction) → touched_by (left x) ≡ true → ⊥
  left-quiet Idle z = false≢true z
  left-quiet (Open n f) z = false≢true z
  left-quiet Waiting z = false≢true z

  pub frame-left-both : closed_by s.writing ≡ false → closed_by s.reading ≡ false → Both m (frame_left s) t
  frame-left-both p q = record {
    parts = frame-left m s t i p q;
    events = record { by-now = e.by-now; by-then = e.by-then; write-event = e.write-event; read-event = e.read-event; some-octet = λ z. absurd (left-quiet s.reading z) };
  }

  pub frame-over-both : Both m s (frame_over t)
  frame-over-both = record { parts = frame-over m s t i; events = record { by-now = e.by-now; by-then = e.by-then; write-event = e.write-event; read-event = e.read-event; some-octet = e.some-octet } }

  pub frame-noted-both : (side : Side) (c : Bool) → Both m s (noted side c t)
  frame-noted-both Master c = record { parts = frame-noted m s t i Master c; events = record { by-now = e.by-now; by-then = e.by-then; write-event = e.write-event; read-event = e.read-event; some-octet = e.some-octet } }
  frame-noted-both Local c = h
