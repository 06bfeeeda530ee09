-- Each call keeps the invariant: a done store, a done fetch, a kept and a dropped frame end, an enabling, a change of the memory outside the area.
-- Assumes nothing.
use Rattle.std.proofs.Common.{◌≡◌, ℕ, ◌+◌, ◌-◌, ◌<◌, Bool, true, false, cond, ◌&&◌, ◌||◌, eqb, ltb, leb, List, [], length, get_or, set, Ok, sym, refl, ap, ◌∙◌, subst, subst₂, ⊎_elim, arith}
use Rattle.std.proofs.Math.Bool.{or-false}
use Rattle.std.proofs.lemmas.List.{get_or-set_other, length-set}
use Rattle.std.proofs.lemmas.Bool.{leb-false, le-leb, lt-leb, eq-eqb, ne_eqb, lt-ltb, le-ltb, ltb-false, and_from, cases_eq, cases_Bool, and_cases, or_parts, true≢false, false≢true}
use Rattle.access.specs.declared.Side.{Side}
use Rattle.access.specs.declared.Side.TheVariants.{Master, Local}
use Rattle.access.specs.declared.Direction.TheVariants.{Read, Write}
use Rattle.channel.specs.declared.setting.Kind.{Kind}
use Rattle.channel.specs.declared.setting.Kind.TheVariants.{Buffered, Mailbox}
use Rattle.channel.specs.declared.setting.Window.{Window}
use Rattle.channel.specs.declared.facts.Facts.{Facts}
use Rattle.channel.specs.declared.service.Transaction.{Transaction}
use Rattle.channel.specs.declared.service.Transaction.TheVariants.{Idle, Open, Waiting}
use Rattle.channel.specs.declared.service.Service.{Service}
use Rattle.channel.specs.Facts.{is_master, asked}
use Rattle.channel.specs.Windows.{area_size, place_in}
use Rattle.channel.specs.Services.{taken_by, touched_by, closed_by, closes, accessed, left, cancelled, number_of, present, begun, facts_of, writing_done_if, reading_done_if, at_once, other_side, with_store, after_store, opened_if, opened, with_fetch, after_fetch, store_place, fetch_place, after_kept, after_dropped}
use Rattle.channel_law.specs.Story.{Accesses, Story, new_story, message_told, facts_in, facts_told, add_store, add_fetch, noted, writing_completed, writing_cancelled, reading_completed, reading_cancelled, when, closing, completing, stored_in, fetched_in, stored_at, fetched_at, frame_over, kept_in, dropped_in, kept_story, dropped_story}
use Rattle.channel_law.specs.Runs.{in_area}
use Rattle.channel_law.specs.Law.{Fits}
use Rattle.channel_law.proofs.Held.{extent, KindHeld, MailboxHeld, Both, Flags, Held}
use Rattle.channel_law.proofs.Steps.{extent-open, writing_extent, reading_extent, Agree, elsewhere-held}
use Rattle.channel_law.proofs.Events.{stored-both, fetched-both, writing-completes-both, reading-completes-both, writing-cancelled-both, reading-cancelled-both, frame-left-both, frame-over-both, frame-noted-both}
use Rattle.channel_law.proofs.Places.{place-from, place-below, place-exists}
use Rattle.channel_law.proofs.Asked.{allowed, opens-write, opens-read, side-writes, side-reads}

-- AT AN ENABLING
begun-kind : (q : Kind) → KindHeld q 0 0 false [] 0 []
begun-kind Buffered = refl
begun-kind Mailbox = record { counts = refl; quiet = λ e. absurd (false≢true e); busy = λ h. absurd (omega arith); in_order = λ n h. absurd (omega arith) }

begun-flags : (p : Side) → Flags p Idle Idle false false
begun-flags Master = record { touched = refl; closed = refl; local-touched = refl; local-closed = refl }
begun-flags Local = record { touched = refl; closed = refl; local-touched = refl; local-closed = refl }

pub begun-held : (m : List ℕ) (w : Window) → Fits (length m) w → Held m (begun w) (new_story w)
begun-held m w fits =
    let two = fits.long in
    record {
      same = refl;
      parts = record {
        fits = fits;
        roles = record { store-ready = λ e. omega arith; store-fetch = λ e. omega arith; ready-fetch = λ e. omega arith };
        writing = record { within = omega arith; taken = refl; content = λ j h. absurd (omega arith) };
        reading = record { within = omega arith; taken = refl; accessed' = λ j h. absurd (omega arith); latest = tt; buffer = λ h. absurd (omega arith) };
        shown = tt;
        some = λ e. absurd (false≢true e);
        over = tt;
        kind = begun-kind w.kind;
      };
      events = record { by-now = omega arith; by-then = omega arith; write-event = refl; read-event = refl; some-octet = λ e. absurd (false≢true e) };
      flags = begun-flags w.stores;
    }

-- THE FACTS that the service gives are those that the story tells.
stored-open : (L : ℕ) (x : Transaction) → taken_by x ≡ cond (closed_by x) 0 (extent L x)
stored-open L Idle = refl
stored-open L (Open n f) = refl
stored-open L Waiting = refl

taken-master : (L : ℕ) (x : Transaction) (c : Bool) (n : ℕ) → closed_by x ≡ c → n ≡ extent L x → taken_by x ≡ cond c 0 n
taken-master L x c n e g = stored-open L x ∙ (ap (λ (b : Bool). cond b 0 (extent L x)) e ∙ ap (cond c 0) (sym g))

stored-told : (p : Side) (L : ℕ) (x y : Transaction) (u c : Bool) (n : ℕ) → Flags p x y u c → n ≡ extent L x → taken_by x ≡ cond (is_master p && c) 0 n
stored-told Master L x y u c n f g = taken-master L x c n f.closed g
stored-told Local L x y u c n f g = sym (extent-open L x f.local-closed) ∙ sym g

fetched-told : (p : Side) (L : ℕ) (x y : Transaction) (u c : Bool) (n : ℕ) → Flags p x y u c → n ≡ extent L y → taken_by y ≡ cond (is_master (other_side p) && c) 0 n
fetched-told Master L x y u c n f g = sym (extent-open L y f.local-closed) ∙ sym g
fetched-told Local L x y u c n f g = taken-master L y c n f.closed g

closed-told : (p : Side) (x y : Transaction) (u c : Bool) → Flags p x y u c → (closed_by x || closed_by y) ≡ c
closed-told Master x y u c f = ap (λ (b : Bool). closed_by x || b) f.local-closed ∙ (or-false (closed_by x) ∙ f.closed)
closed-told Local x y u c f = ap (λ (b : Bool). b || closed_by y) f.local-closed ∙ f.closed

mailbox-told : (e d : ℕ) (p : Bool) (ws : List Accesses) (b : ℕ) (rs : List Accesses) → MailboxHeld e d p ws b rs → p ≡ ltb (length rs) (length ws)
mailbox-told e d true ws b rs h = let c = h.counts in sym (lt-ltb (length rs) (length ws) (omega arith))
mailbox-told e d false ws b rs h = let c = h.counts in sym (le-ltb (length rs) (length ws) (omega arith))

pub message-told : (q : Kind) (e d : ℕ) (p : Bool) (t : Story) → KindHeld q e d p t.written t.reading.before t.read → p ≡ message_told q t
message-told Buffered e d p t h = h
message-told Mailbox e d p t h = mailbox-told e d p t.written t.reading.before t.read h

facts-are : (w : Window) (a a' b b' : ℕ) (c c' g g' : Bool) → a ≡ a' → b ≡ b' → c ≡ c' → g ≡ g' →
    ◌≡◌ {A = Facts} (record { window = w; stored = a; fetched = b; closed = c; message = g }) (record { window = w; stored = a'; fetched = b'; closed = c'; message = g' })
facts-are w a a' b b' c c' g g' p q r s = cc

pub facts-agree : (m : List ℕ) (s : Service) (t : Story) → Held m s t → facts_of s ≡ facts_told t
facts-agree m s t h =
    let i = h.parts in
    let inside : facts_of s ≡ facts_in s.window t =
    facts-are s.window _ _ _ _ _ _ _ _
    (stored-told s.window.stores s.window.length s.writing s.reading t.touched t.closed _ h.flags i.writing.taken)
    (fetched-told s.window.stores s.window.length s.writing s.reading t.touched t.closed _ h.flags i.reading.taken)
    (closed-told s.window.stores s.writing s.reading t.touched t.closed h.flags)
    (message-told s.window.kind (writing_extent s) (reading_extent s) (present s.shown) t i.kind) in
    subst (λ (w : Window). facts_of s ≡ facts_in w t) h.same inside

-- A DONE ACCESS. The last offset closes.
closes-told : (w : Window) (k : ℕ) → k < w.length → closes w k ≡ closing w k
closes-told w k h =
    ⊎_elim
    (λ (e : k + 1 ≡ w.length). le-leb w.length (k + 1) (omega arith) ∙ sym (eq-eqb (k + 1) w.length e))
    (λ ne. lt-leb w.length (k + 1) (omega arith) ∙ sym (ne_eqb (k + 1) w.length ne))
    (cases_eq (k + 1) w.length)

at-once-told : (p : Side) (c : Bool) → at_once p c ≡ completing p c
at-once-told Master c = refl
at-once-told Local c = refl

at-once-closes : (p side : Side) (x : Transaction) (k : ℕ) (c : Bool) → at_once p c ≡ true → closed_by (accessed side x k c) ≡ true
at-once-closes Master side x k c e = absurd (false≢true e)
at-once-closes Local side x k true e = refl
at-once-closes Local side x k false e = absurd (false≢true e)

both_of : (m : List ℕ) (s : Service) (t : Story) → Held m s t → Both m s t
both_of m s t h = record { parts = h.parts; events = h.events }

finish-writing : (m : List ℕ) (b : Bool) (s : Service) (t : Story) → (b ≡ true → closed_by s.writing ≡ true) → Both m s t → Both m (writing_done_if b s) (when b writing_completed t)
finish-writing m true s t was i = writing-completes-both m s t i (was refl)
finish-writing m false s t was i = i

finish-reading : (m : List ℕ) (b : Bool) (s : Service) (t : Story) → (b ≡ true → closed_by s.reading ≡ true) → Both m s t → Both m (reading_done_if b s) (when b reading_completed t)
finish-reading m true s t was i = reading-completes-both m s t i (was refl)
finish-reading m false s t was i = i

-- the window stays
window-writing : (b : Bool) (s : Service) → s.window ≡ (writing_done_if b s).window
window-writing true s = refl
window-writing false s = refl

window-reading : (b : Bool) (s : Service) → s.window ≡ (reading_done_if b s).window
window-reading true s = refl
window-reading false s = refl

window-noted : (p : Side) (c : Bool) (t : Story) → (noted p c t).window ≡ t.window
window-noted Master c t = refl
window-noted Local c t = refl

window-when : (b : Bool) (f : Story → Story) → ((t : Story) → (f t).window ≡ t.window) → (t : Story) → (when b f t).window ≡ t.window
window-when true f same t = same t
window-when false f same t = refl

-- the master's access is noted, the local side's is not
flags-store : (p : Side) (c : Bool) (r : Service) (t : Story) (x : Transaction) (k : ℕ) → r.writing ≡ accessed p x k c → Flags p x r.reading t.touched t.closed →
    Flags p (writing_done_if (at_once p c) r).writing (writing_done_if (at_once p c) r).reading (when (at_once p c) writing_completed (noted p c t)).touched (when (at_once p c) writing_completed (noted p c t)).closed
flags-store Master true r t x k e f = record { touched = ap touched_by e; closed = ap closed_by e; local-touched = f.local-touched; local-closed = f.local-closed }
flags-store Master false r t x k e f = record { touched = ap touched_by e; closed = ap closed_by e; local-touched = f.local-touched; local-closed = f.local-closed }
flags-store Local true r t x k e f = record { touched = f.touched; closed = f.closed; local-touched = refl; local-closed = refl }
flags-store Local false r t x k e f = record { touched = f.touched; closed = f.closed; local-touched = ap touched_by e; local-closed = ap closed_by e }

flags-fetch : (p : Side) (c : Bool) (r : Service) (t : Story) (y : Transaction) (k : ℕ) → r.reading ≡ accessed (other_side p) y k c → Flags p r.writing y t.touched t.closed →
    Flags p (reading_done_if (at_once (other_side p) c) r).writing (reading_done_if (at_once (other_side p) c) r).reading (when (at_once (other_side p) c) reading_completed (noted (other_side p) c t)).touched (when (at_once (other_side p) c) reading_completed (noted (other_side p) c t)).closed
flags-fetch Local true r t y k e f = record { touched = ap touched_by e; closed = ap closed_by e; local-touched = f.local-touched; local-closed = f.local-closed }
flags-fetch Local false r t y k e f = record { touched = ap touched_by e; closed = ap closed_by e; local-touched = f.local-touched; local-closed = f.local-closed }
flags-fetch Master true r t y k e f = record { touched = f.touched; closed = f.closed; local-touched = refl; local-closed = refl }
flags-fetch Master false r t y k e f = record { touched = f.touched; closed = f.closed; local-touched = ap touched_by e; local-closed = ap closed_by e }

-- no closed transaction of the access's direction waits
writing-open : (p : Side) (x y : Transaction) (u c : Bool) → Flags p x y u c → (is_master p && (closed_by x || closed_by y)) ≡ false → closed_by x ≡ false
writing-open Master x y u c f e = (or_parts (closed_by x) (closed_by y) e).0
writing-open Local x y u c f e = f.local-closed

reading-open : (p : Side) (x y : Transaction) (u c : Bool) → Flags p x y u c → (is_master (other_side p) && (closed_by x || closed_by y)) ≡ false → closed_by y ≡ false
reading-open Master x y u c f e = f.local-closed
reading-open Local x y u c f e = (or_parts (closed_by x) (closed_by y) e).1

-- a mailbox that is stored into is not full
not_full : (q : Kind) (e d : ℕ) (p : Bool) (ws : List Accesses) (b : ℕ) (rs : List Accesses) (n : ℕ) → KindHeld q e d p ws b rs → e ≡ n → (n ≡ 0 → q ≡ Mailbox → p ≡ false) → q ≡ Mailbox → p ≡ false
not_full Buffered e d p ws b rs n h z g m = cc
not_full Mailbox e d p ws b rs n h z g m = ⊎_elim (λ f. g (sym z ∙ h.quiet f) refl) (λ f. f) (cases_Bool p)

pub store-held : (m : List ℕ) (s : Service) (t : Story) → Held m s t → (side : Side) (k v j : ℕ) → asked (facts_of s) side Write k ≡ Ok j → Held (set m (store_place s k) v) (after_store s k) (stored_at k v t)
store-held m s t h side k v j e =
    let i = h.parts in
    let p = s.window.stores in
    let c = closes s.window k in
    let a = allowed (facts_of s) side Write k j e in
    let who = side-writes side p a.right_side in
    let more = writing-open p s.writing s.reading t.touched t.closed h.flags (subst (λ (z : Side). (is_master z && (closed_by s.writing || closed_by s.reading)) ≡ false) who a.not-closed) in
    let free = not_full s.window.kind (writing_extent s) (reading_extent s) (present s.shown) t.written t.reading.before t.read (taken_by s.writing) i.kind (extent-open s.window.length s.writing more) (λ z. opens-write s.window.kind (present s.shown) k j (a.may-open z)) in
    let one : Both (set m (store_place s k) v) (with_store s k) (add_store t k v) = stored-both m s t (both_of m s t h) k v a.not-ahead more free in
    let two : Both (set m (store_place s k) v) (with_store s k) (noted p c (add_store t k v)) = frame-noted-both (set m (store_place s k) v) (with_store s k) (add_store t k v) one p c in
    let three : Both (set m (store_place s k) v) (after_store s k) (when (at_once p c) writing_completed (noted p c (add_store t k v))) = finish-writing (set m (store_place s k) v) (at_once p c) (with_store s k) (noted p c (add_store t k v)) (at-once-closes p p s.writing k c) two in
    let all : Held (set m (store_place s k) v) (after_store s k) (when (at_once p c) writing_completed (noted p c (add_store t k v))) =
    record {
      same = sym (window-writing (at_once p c) (with_store s k)) ∙ (h.same ∙ sym (window-when (at_once p c) writing_completed (λ _. refl) (noted p c (add_store t k v)) ∙ window-noted p c (add_store t k v)));
      parts = three.parts;
      events = three.events;
      flags = subst (λ (w : Window). Flags w.stores (after_store s k).writing (after_store s k).reading (when (at_once p c) writing_completed (noted p c (add_store t k v))).touched (when (at_once p c) writing_completed (noted p c (add_store t k v))).closed) (window-writing (at_once p c) (with_store s k))
          (flags-store p c (with_store s k) (add_store t k v) s.writing k refl h.flags);
    } in
    let last = subst (λ (b : Bool). Held (set m (store_place s k) v) (after_store s k) (when (at_once p b) writing_completed (noted p b (add_store t k v)))) (closes-told s.window k a.in_window) all in
    let told : Held (set m (store_place s k) v) (after_store s k) (stored_in s.window k v t) =
    subst (λ (b : Bool). Held (set m (store_place s k) v) (after_store s k) (when b writing_completed (noted p (closing s.window k) (add_store t k v)))) (at-once-told p (closing s.window k)) last in
    subst (λ (w : Window). Held (set m (store_place s k) v) (after_store s k) (stored_in w k v t)) h.same told

-- the octet that a fetch finds, once the buffer is chosen
abbrev fetched_by : List ℕ → Service → (opening : Bool) → ℕ → ℕ
fetched_by m s o k = get_or m (place_in s.window (number_of (opened_if o s).roles.fetch) k) 0

-- a fetch whose transaction r has noted: it completes at once, or waits, or stays open
fetch-finish : (m : List ℕ) (s : Service) (t : Story) → Held m s t → (k v : ℕ) (r : Service) → k < s.window.length → r.window ≡ s.window → r.writing ≡ s.writing →
    r.reading ≡ accessed (other_side s.window.stores) s.reading k (closes s.window k) → Both m r (add_fetch t k v) →
    Held m (reading_done_if (at_once (other_side s.window.stores) (closes s.window k)) r) (fetched_at k v t)
fetch-finish m s t h k v r kl same-window same-writing is i =
    let p = s.window.stores in
    let c = closes s.window k in
    let b = at_once (other_side p) c in
    let two : Both m r (noted (other_side p) c (add_fetch t k v)) = frame-noted-both m r (add_fetch t k v) i (other_side p) c in
    let three : Both m (reading_done_if b r) (when b reading_completed (noted (other_side p) c (add_fetch t k v))) = finish-reading m b r (noted (other_side p) c (add_fetch t k v)) (λ z. ap closed_by is ∙ at-once-closes (other_side p) (other_side p) s.reading k c z) two in
    let all : Held m (reading_done_if b r) (when b reading_completed (noted (other_side p) c (add_fetch t k v))) =
    record {
      same = sym (window-reading b r) ∙ (same-window ∙ (h.same ∙ sym (window-when b reading_completed (λ _. refl) (noted (other_side p) c (add_fetch t k v)) ∙ window-noted (other_side p) c (add_fetch t k v))));
      parts = three.parts;
      events = three.events;
      flags = subst (λ (w : Window). Flags w.stores (reading_done_if b r).writing (reading_done_if b r).reading (when b reading_completed (noted (other_side p) c (add_fetch t k v))).touched (when b reading_completed (noted (other_side p) c (add_fetch t k v))).closed) (sym same-window ∙ window-reading b r)
          (flags-fetch p c r (add_fetch t k v) s.reading k is (subst (λ (x : Transaction). Flags p x s.reading t.touched t.closed) (sym same-writing) h.flags));
    } in
    let last = subst (λ (z : Bool). Held m (reading_done_if b r) (when (at_once (other_side p) z) reading_completed (noted (other_side p) z (add_fetch t k v)))) (closes-told s.window k kl) all in
    let told : Held m (reading_done_if b r) (fetched_in s.window k v t) =
    subst (λ (z : Bool). Held m (reading_done_if b r) (when z reading_completed (noted (other_side p) (closing s.window k) (add_fetch t k v)))) (at-once-told (other_side p) (closing s.window k)) last in
    subst (λ (w : Window). Held m (reading_done_if b r) (fetched_in w k v t)) h.same told

fetch-by : (m : List ℕ) (s : Service) (t : Story) → Held m s t → (k : ℕ) → k < s.window.length → (o : Bool) → Both m (with_fetch (opened_if o s) k) (add_fetch t k (fetched_by m s o k)) →
    Held m (reading_done_if (at_once (other_side s.window.stores) (closes s.window k)) (with_fetch (opened_if o s) k)) (fetched_at k (fetched_by m s o k) t)
fetch-by m s t h k kl true i = fetch-finish m s t h k (fetched_by m s true k) (with_fetch (opened_if true s) k) kl refl refl refl i
fetch-by m s t h k kl false i = fetch-finish m s t h k (fetched_by m s false k) (with_fetch (opened_if false s) k) kl refl refl refl i

pub fetch-held : (m : List ℕ) (s : Service) (t : Story) → Held m s t → (side : Side) (k j : ℕ) → asked (facts_of s) side Read k ≡ Ok j → Held m (after_fetch s k) (fetched_at k (get_or m (fetch_place s k) 0) t)
fetch-held m s t h side k j e =
    let i = h.parts in
    let p = s.window.stores in
    let a = allowed (facts_of s) side Read k j e in
    let who = side-reads side p a.right_side in
    let more = reading-open p s.writing s.reading t.touched t.closed h.flags (subst (λ (z : Side). (is_master z && (closed_by s.writing || closed_by s.reading)) ≡ false) who a.not-closed) in
    let one = fetched-both m s t (both_of m s t h) k a.not-ahead more (λ z. opens-read s.window.kind (present s.shown) k j (a.may-open z)) (eqb (taken_by s.reading) 0) refl in
    fetch-by m s t h k a.in_window (eqb (taken_by s.reading) 0) one

-- A FRAME'S END
flags-over : (p : Side) (x y : Transaction) → touched_by x ≡ false → closed_by x ≡ false → touched_by y ≡ false → closed_by y ≡ false → Flags p x y false false
flags-over Master x y a b c d = record { touched = a; closed = b; local-touched = c; local-closed = d }
flags-over Local x y a b c d = record { touched = c; closed = d; local-touched = a; local-closed = b }

left-touched : (x : Transaction) → touched_by (left x) ≡ false
left-touched Idle = refl
left-touched (Open n f) = refl
left-touched Waiting = refl

left-closed : (x : Transaction) → closed_by (left x) ≡ false
left-closed Idle = refl
left-closed (Open n f) = refl
left-closed Waiting = refl

cancelled-touched : (x : Transaction) → touched_by (cancelled x) ≡ false
cancelled-touched Idle = refl
cancelled-touched (Open n true) = refl
cancelled-touched (Open n false) = refl
cancelled-touched Waiting = refl

cancelled-closed : (x : Transaction) → closed_by (cancelled x) ≡ false
cancelled-closed Idle = refl
cancelled-closed (Open n true) = refl
cancelled-closed (Open n false) = refl
cancelled-closed Waiting = refl

-- what waits completes: then nothing waits
abbrev completed : Service → (b c : Bool) → Service
completed s b c = reading_done_if c (writing_done_if b s)

writing-free : (s : Service) (b c : Bool) → closed_by s.writing ≡ b → closed_by (completed s b c).writing ≡ false
writing-free s true true e = refl
writing-free s true false e = refl
writing-free s false true e = e
writing-free s false false e = e

reading-free : (s : Service) (b c : Bool) → closed_by s.reading ≡ c → closed_by (completed s b c).reading ≡ false
reading-free s true true e = refl
reading-free s true false e = e
reading-free s false true e = refl
reading-free s false false e = e

reading-waits : (s : Service) (b : Bool) → closed_by s.reading ≡ true → closed_by (writing_done_if b s).reading ≡ true
reading-waits s true e = e
reading-waits s false e = e

window-completed : (s : Service) (b c : Bool) → s.window ≡ (completed s b c).window
window-completed s b c = window-writing b s ∙ window-reading c (writing_done_if b s)

-- a frame's end as it is told, from the service's own record of it
kept-told : (m : List ℕ) (s : Service) (t : Story) (p : Side) (x y : Transaction) → Flags p x y t.touched t.closed →
    Both m s (frame_over (when (closed_by y) reading_completed (when (closed_by x) writing_completed t))) → Both m s (kept_in p t)
kept-told m s t Master x y f i =
    subst₂ (λ (b c : Bool). Both m s (frame_over (when c reading_completed (when b writing_completed t)))) f.closed f.local-closed i
kept-told m s t Local x y f i =
    subst₂ (λ (b c : Bool). Both m s (frame_over (when c reading_completed (when b writing_completed t)))) f.local-closed f.closed i

dropped-told : (m : List ℕ) (s : Service) (t : Story) (p : Side) (x y : Transaction) → Flags p x y t.touched t.closed →
    Both m s (frame_over (when (touched_by y) reading_cancelled (when (touched_by x) writing_cancelled t))) → Both m s (dropped_in p t)
dropped-told m s t Master x y f i =
    subst₂ (λ (b c : Bool). Both m s (frame_over (when c reading_cancelled (when b writing_cancelled t)))) f.touched f.local-touched i
dropped-told m s t Local x y f i =
    subst₂ (λ (b c : Bool). Both m s (frame_over (when c reading_cancelled (when b writing_cancelled t)))) f.local-touched f.touched i

-- the story of a frame's end notes nothing of a running frame, and keeps the window
pub record Over (t t' : Story) : Type 0 where
  pub touched : t'.touched ≡ false
  pub closed : t'.closed ≡ false
  pub window : t'.window ≡ t.window

over-kept : (p : Side) (t : Story) → Over t (kept_in p t)
over-kept Master t = record { touched = refl; closed = refl; window = window-when t.closed writing_completed (λ _. refl) t }
over-kept Local t = record { touched = refl; closed = refl; window = window-when t.closed reading_completed (λ _. refl) t }

over-dropped : (p : Side) (t : Story) → Over t (dropped_in p t)
over-dropped Master t = record { touched = refl; closed = refl; window = window-when t.touched writing_cancelled (λ _. refl) t }
over-dropped Local t = record { touched = refl; closed = refl; window = window-when t.touched reading_cancelled (λ _. refl) t }

over-held : (m : List ℕ) (s r : Service) (t t' : Story) → s.window ≡ t.window → s.window ≡ r.window → Over t t' → Both m r t' → Flags r.window.stores r.writing r.reading false false → Held m r t'
over-held m s r t t' same stays o i f =
    record {
      same = sym stays ∙ (same ∙ sym o.window);
      parts = i.parts;
      events = i.events;
      flags = subst₂ (λ (u c : Bool). Flags r.window.stores r.writing r.reading u c) (sym o.touched) (sym o.closed) f;
    }

pub kept-held : (m : List ℕ) (s : Service) (t : Story) → Held m s t → Held m (after_kept s) (kept_story t)
kept-held m s t h =
    let b = closed_by s.writing in let c = closed_by s.reading in
    let one : Both m (writing_done_if b s) (when b writing_completed t) = finish-writing m b s t (λ z. z) (both_of m s t h) in
    let two : Both m (completed s b c) (when c reading_completed (when b writing_completed t)) = finish-reading m c (writing_done_if b s) (when b writing_completed t) (reading-waits s b) one in
    let three : Both m (after_kept s) (when c reading_completed (when b writing_completed t)) = frame-left-both m (completed s b c) _ two (writing-free s b c refl) (reading-free s b c refl) in
    let four : Both m (after_kept s) (kept_in s.window.stores t) = kept-told m (after_kept s) t s.window.stores s.writing s.reading h.flags (frame-over-both m (after_kept s) _ three) in
    let all : Held m (after_kept s) (kept_in s.window.stores t) =
    over-held m s (after_kept s) t (kept_in s.window.stores t) h.same (window-completed s b c) (over-kept s.window.stores t) four
    (flags-over _ _ _ (left-touched (completed s b c).writing) (left-closed (completed s b c).writing) (left-touched (completed s b c).reading) (left-closed (completed s b c).reading)) in
    subst (λ (w : Window). Held m (after_kept s) (kept_in w.stores t)) h.same all

pub dropped-held : (m : List ℕ) (s : Service) (t : Story) → Held m s t → Held m (after_dropped s) (dropped_story t)
dropped-held m s t h =
    let b = touched_by s.writing in let c = touched_by s.reading in
    let one = writing-cancelled-both m s t (both_of m s t h) b in
    let two : Both m (after_dropped s) (when c reading_cancelled (when b writing_cancelled t)) = reading-cancelled-both m _ (when b writing_cancelled t) one c (λ z. z) in
    let three : Both m (after_dropped s) (dropped_in s.window.stores t) = dropped-told m (after_dropped s) t s.window.stores s.writing s.reading h.flags (frame-over-both m (after_dropped s) _ two) in
    let all : Held m (after_dropped s) (dropped_in s.window.stores t) =
    over-held m s (after_dropped s) t (dropped_in s.window.stores t) h.same refl (over-dropped s.window.stores t) three
    (flags-over _ _ _ (cancelled-touched s.writing) (cancelled-closed s.writing) (cancelled-touched s.reading) (cancelled-closed s.reading)) in
    subst (λ (w : Window). Held m (after_dropped s) (dropped_in w.stores t)) h.same all

-- A CHANGE OF THE MEMORY outside the area
pub memory-held : (m n : List ℕ) (s : Service) (t : Story) → Held m s t → length n ≡ length m → Agree s.window m n → Held n s t
memory-held m n s t h long agree = record { same = h.same; parts = elsewhere-held m n s t h.parts long agree; events = h.events; flags = h.flags }

pub write-elsewhere : (m : List ℕ) (s : Service) (t : Story) → Held m s t → (p v : ℕ) → in_area s.window p ≡ false → Held (set m p v) s t
write-elsewhere m s t h p v e =
    memory-held m (set m p v) s t h (length-set m p v) (λ q lo hi.
    get_or-set_other m p q v 0 (λ z.
    ⊎_elim (λ x. let y = leb-false (s.window.start - 0x1000) p x in omega arith) (λ x. let y = ltb-false p (s.window.start - 0x1000 + area_size s.window) x in omega arith)
    (and_cases (leb (s.window.start - 0x1000) p) (ltb p (s.window.start - 0x1000 + area_size s.window)) e)))

-- AN ACCESS changes its own area alone, and concerns a place that the memory has.
pub store-inside : (m : List ℕ) (s : Service) (t : Story) → Held m s t → (k : ℕ) → k < s.window.length → (in_area s.window (store_place s k) ≡ true) × (store_place s k < length m)
store-inside m s t h k kl = (
  and_from _ _ (le-leb _ _ (place-from s.window (number_of s.roles.store) k)) (lt-ltb _ _ (place-below s.window s.roles.store k kl)),
  place-exists s.window (length m) h.parts.fits.room s.roles.store k kl,
)

pub fetch-inside : (m : List ℕ) (s : Service) (t : Story) → Held m s t → (k : ℕ) → k < s.window.length → (in_area s.window (fetch_place s k) ≡ true) × (fetch_place s k < length m)
fetch-inside m s t h k kl =
    let b = (opened s).roles.fetch in (
      and_from _ _ (le-leb _ _ (place-from s.window (number_of b) k)) (lt-ltb _ _ (place-below s.window b k kl)),
      place-exists s.window (length m) h.parts.fits.room b k kl,
    )

pub store-elsewhere : (m : List ℕ) (s : Service) (t : Story) → Held m s t → (k v p : ℕ) → k < s.window.length → in_area s.window p ≡ false → get_or (set m (store_place s k) v) p 0 ≡ get_or m p 0
store-elsewhere m s t h k v p kl out = get_or-set_other m (store_place s k) p v 0 (λ e. true≢false (sym (store-inside m s t h k kl).0 ∙ (ap (in_area s.window) (sym e) ∙ out)))
