-- One access: what it reaches, what it answers, and that the invariant of the channels holds after it. Assumes nothing.
use Rattle.std.proofs.Common.{◌≡◌, ℕ, ◌+◌, ◌-◌, ◌<◌, ◌≤◌, Bool, true, false, ◌&&◌, leb, ◌≢◌, List, length, get_or, set, sym, refl, ap, ◌∙◌, subst, ⊎_elim, arith}
use Rattle.std.proofs.Math.ListN.{get_or-map}
use Rattle.std.specs.Option.{option_map}
use Rattle.std.proofs.lemmas.List.{length-set, get_or-set_same, get_or-set_other, get_or_past}
use Rattle.std.proofs.lemmas.Bool.{cases_Bool, cases_eq, cases_lt, ltb-true, leb-true, le-leb, and_parts, and_from, false≢true}
use Rattle.memory.proofs.Answers.{read-inside, write-inside}
use Rattle.bits.specs.Shares.{stored}
use Rattle.channel.specs.Areas.{first_of, last_of}
use Rattle.channel.specs.Windows.{offset_in, area_size}
use Rattle.channel.specs.Facts as channel
use Rattle.channel.specs.Services.{other_side, facts_of, after_store, after_fetch, store_place, fetch_place}
use Rattle.channel_law.specs.Story.{Story, facts_told, when, completing, closing, noted, add_store, add_fetch, writing_completed, reading_completed, stored_at, fetched_at}
use Rattle.channel_law.specs.Runs.{in_area}
use Rattle.channel_law.specs.Law as law
use Rattle.channel_law.specs.Enabling.{Disjoint}
use Rattle.channel_law.proofs.Asked.{allowed, asked-offset}
use Rattle.channel_law.proofs.Held as channel-held
use Rattle.channel_law.proofs.Keeps.{facts-agree, store-held, fetch-held, write-elsewhere, store-inside, fetch-inside}
use Rattle.channel_law.proofs.Others.{disjoint-places}
use Rattle.rules.specs.Data.{Option, Some, None, Result, Ok, Err, Fault, Side, Master, Local, Read, Write, Window, Service, Channel, Facts, Core, Access, Target, InRegister, InFree, InWindow}
use Rattle.rules.specs.Questions.{asked}
use Rattle.rules.specs.Steps.{Station, out_of_service, in_service_as, service_at, known, asked_of, over, with_channels, register_at, fetch_in, store_in, fetch_free, store_free, fetch_window, store_window, fetched, stored_by, reads, writes}
use Rattle.rules.specs.Account.{told, told_at, story_window}
use Rattle.rules.proofs.Lists.{pairs-set-in}
use Rattle.rules.proofs.Reached.{covered, window-reached, free-reached}
use Rattle.rules.proofs.Held.{HeldIf, HeldIn, ApartIf, story_at, window_at, Channels, known-told}

-- what an access leaves of the core
pub record Rest (c d : Core) : Type 0 where
  pub number : d.number ≡ c.number
  pub registers : d.registers ≡ c.registers
  pub alias : d.alias ≡ c.alias
  pub running : d.running ≡ c.running

pub rest-same : (c : Core) → Rest c c
rest-same c = record { number = refl; registers = refl; alias = refl; running = refl }

-- A STORY keeps its window.
pub when-window : (b : Bool) (f : Story → Story) (t : Story) → ((u : Story) → (f u).window ≡ u.window) → (when b f t).window ≡ t.window
when-window true f t h = h t
when-window false f t h = refl

noted-window : (side : Side) (c : Bool) (t : Story) → (noted side c t).window ≡ t.window
noted-window Master c t = refl
noted-window Local c t = refl

stored-window : (k v : ℕ) (t : Story) → (stored_at k v t).window ≡ t.window
stored-window k v t =
    let w = t.window in
    when-window (completing w.stores (closing w k)) writing_completed (noted w.stores (closing w k) (add_store t k v)) (λ u. refl)
    ∙ noted-window w.stores (closing w k) (add_store t k v)

fetched-window : (k v : ℕ) (t : Story) → (fetched_at k v t).window ≡ t.window
fetched-window k v t =
    let w = t.window in
    when-window (completing (other_side w.stores) (closing w k)) reading_completed (noted (other_side w.stores) (closing w k) (add_fetch t k v)) (λ u. refl)
    ∙ noted-window (other_side w.stores) (closing w k) (add_fetch t k v)

-- a story that is there stands within the list
some-within : (ts : List (Option Story)) (n : ℕ) (t : Story) → story_at ts n ≡ Some t → n < length ts
some-within ts n t e =
    ⊎_elim (λ h. h) (λ h. absurd (let z = get_or_past ts n None h in cc)) (cases_lt n (length ts))

-- areas stay apart where a story changes but for its window
windows-set : (ts : List (Option Story)) (n : ℕ) (t u : Story) → story_at ts n ≡ Some t → u.window ≡ t.window → (i : ℕ) → window_at (set ts n (Some u)) i ≡ window_at ts i
windows-set ts n t u at same i =
    ⊎_elim
    (λ is.
    ap (λ k. window_at (set ts n (Some u)) k) is ∙ (ap story_window (get_or-set_same ts n (Some u) None (some-within ts n t at))
    ∙ (ap Some same ∙ (sym (ap story_window at) ∙ ap (window_at ts) (sym is)))))
    (λ apart. ap story_window (get_or-set_other ts n i (Some u) None apart))
    (cases_eq i n)

pub apart-as : (ts us : List (Option Story)) → ((i : ℕ) → window_at us i ≡ window_at ts i) → ((i j : ℕ) → i ≢ j → ApartIf (window_at ts i) (window_at ts j)) → (i j : ℕ) → i ≢ j → ApartIf (window_at us i) (window_at us j)
apart-as ts us same h i j ne = subst (λ w. ApartIf w (window_at us j)) (sym (same i)) (subst (ApartIf (window_at ts i)) (sym (same j)) (h i j ne))

-- A WINDOW that is reached has a service and a story.
pub record Both (m : List ℕ) (cs : List Channel) (ts : List (Option Story)) (x : Access) (n k : ℕ) : Type 0 where
  pub service : Service
  pub story : Story
  pub service-at : service_at cs n ≡ Some service
  pub story-at : story_at ts n ≡ Some story
  pub held : channel-held.Held m service story
  pub offset : k ≡ offset_in story.window x.address
  pub ok : channel.asked (facts_of service) x.side x.direction k ≡ Ok k
  pub within : k < service.window.length

both_of : (m : List ℕ) (cs : List Channel) (ts : List (Option Story)) (x : Access) (n k : ℕ) (f : Facts) (o : Option Service) (t : Option Story) → service_at cs n ≡ o → story_at ts n ≡ t → HeldIf m o t →
    option_map facts_told t ≡ Some f → channel.asked f x.side x.direction (offset_in f.window x.address) ≡ Ok k → Both m cs ts x n k
both_of m cs ts x n k f None None so st h e ok = absurd (cc)
both_of m cs ts x n k f None (Some t) so st h e ok = absurd h
both_of m cs ts x n k f (Some c) None so st h e ok = absurd h
both_of m cs ts x n k f (Some c) (Some t) so st h e ok =
    let is : facts_told t ≡ f = (cc) in
    let agree : facts_of c ≡ f = facts-agree m c t h ∙ is in
    let at : k ≡ offset_in f.window x.address = asked-offset f x.side x.direction _ k ok in
    let all : channel.asked (facts_of c) x.side x.direction k ≡ Ok k =
    ap (λ (g : Facts). channel.asked g x.side x.direction k) agree ∙ (ap (channel.asked f x.side x.direction) at ∙ ok) in
    record {
      service = c;
      story = t;
      service-at = so;
      story-at = st;
      held = h;
      offset = at ∙ ap (λ (g : Facts). offset_in g.window x.address) (sym is);
      ok = all;
      within = (allowed (facts_of c) x.side x.direction k k all).in_window;
    }

pub both-reached : (N : ℕ) (m : List ℕ) (cs : List Channel) (ts : List (Option Story)) → Channels m cs ts → (x : Access) (n k : ℕ) → asked N (told ts) x ≡ Ok (InWindow n k) → Both m cs ts x n k
both-reached N m cs ts h x n k e =
    let w = window-reached N (told ts) x n k e in
    both_of m cs ts x n k w.facts (service_at cs n) (story_at ts n) refl refl (h.held n) (sym (get_or-map (option_map facts_told) ts n None) ∙ w.known) w.ok

-- A READ of one access: refused as asked, or done, and told.
pub data ReadView (N : ℕ) (s : Station) (ts : List (Option Story)) (x : Access) : Type 0 where
  read-refused : (f : Fault) → asked N (told ts) x ≡ Err f → reads s x ≡ record { after = s; says = Err f } → ReadView N s ts x
  read_done : (g : Target) (v : ℕ) (c : Core) → asked N (told ts) x ≡ Ok g → reads s x ≡ record { after = over c s.octets; says = Ok v } → Rest s.core c →
      Channels s.octets c.channels (told_at (λ k. fetched_at k v) ts (Ok g)) → ReadView N s ts x

pub data WriteView (N : ℕ) (s : Station) (ts : List (Option Story)) (x : Access) (o : ℕ) : Type 0 where
  write-refused : (f : Fault) → asked N (told ts) x ≡ Err f → writes s x o ≡ record { after = s; says = Err f } → WriteView N s ts x o
  write_done : (g : Target) (t : Station) → asked N (told ts) x ≡ Ok g → writes s x o ≡ record { after = t; says = Ok tt } → Rest s.core t.core → length t.octets ≡ length s.octets →
      Channels t.octets t.core.channels (told_at (λ k. stored_at k o) ts (Ok g)) → WriteView N s ts x o

-- the core asks as the account does
pub asked-as-told : (N : ℕ) (s : Station) (ts : List (Option Story)) → length s.octets ≡ N → Channels s.octets s.core.channels ts → (x : Access) → asked_of s x ≡ asked N (told ts) x
asked-as-told N s ts size h x =
    ap (λ n. asked n (known s.core.channels) x) size ∙ ap (λ fs. asked N fs x) (known-told s.octets s.core.channels ts h)

module _ (N : ℕ) (s : Station) (ts : List (Option Story)) (size : length s.octets ≡ N) (h : Channels s.octets s.core.channels ts) (x : Access) where
  abbrev m : List ℕ
  m = s.octets

  abbrev cs : List Channel
  cs = s.core.channels

  -- in a window
  read-window : x.direction ≡ Read → (n k : ℕ) → asked N (told ts) x ≡ Ok (InWindow n k) → asked_of s x ≡ Ok (InWindow n k) → ReadView N s ts x
  read-window way n k e is =
      let b = both-reached N m cs ts h x n k e in
      let c = b.service in let t = b.story in
      let place : fetch_place c k < length m = (fetch-inside m c t b.held k b.within).1 in
      let v : ℕ = get_or m (fetch_place c k) 0 in
      let ok : channel.asked (facts_of c) x.side Read k ≡ Ok k = ap (λ d. channel.asked (facts_of c) x.side d k) (sym way) ∙ b.ok in
      let new : channel-held.Held m (after_fetch c k) (fetched_at k v t) = fetch-held m c t b.held x.side k k ok in
      let within : n < length ts = some-within ts n t b.story-at in
      let stories : set ts n (Some (fetched_at k v t)) ≡ told_at (λ j. fetched_at j v) ts (Ok (InWindow n k)) = ap (λ u. set ts n (option_map (fetched_at k v) u)) (sym b.story-at) in
      read_done (InWindow n k) v (with_channels s.core (set cs n (in_service_as (after_fetch c k)))) e
      (ap (fetched s x) is ∙ (ap (fetch_window s n k (x.address - 0x1000)) b.service-at ∙ ap (fetch_in s n c k) (read-inside m (fetch_place c k) place)))
      (record { number = refl; registers = refl; alias = refl; running = refl })
      (subst (Channels m (set cs n (in_service_as (after_fetch c k)))) stories
      (record {
        long = length-set cs n _ ∙ (h.long ∙ sym (length-set ts n _));
        held = pairs-set-in (HeldIn m) out_of_service None cs ts n (in_service_as (after_fetch c k)) (Some (fetched_at k v t)) (let z = h.long in omega arith) within (λ i ne. h.held i) new;
        apart = apart-as ts (set ts n (Some (fetched_at k v t))) (windows-set ts n t (fetched_at k v t) b.story-at (fetched-window k v t)) h.apart;
      }))

  pub read_view : x.direction ≡ Read → ReadView N s ts x
  read_view way = go (asked N (told ts) x) refl
    where
      go : (r : Result Target Fault) → asked N (told ts) x ≡ r → ReadView N s ts x
      go (Err f) e = read-refused f e (ap (fetched s x) (asked-as-told N s ts size h x ∙ e))
      go (Ok (InRegister p)) e = read_done (InRegister p) (register_at s p) s.core e (ap (fetched s x) (asked-as-told N s ts size h x ∙ e)) (rest-same s.core) h
      go (Ok (InFree p)) e =
          let f = free-reached N (told ts) x p e in
          let place : p < length m = (let z = f.within in omega arith) in
          read_done (InFree p) (get_or m p 0) s.core e (ap (fetched s x) (asked-as-told N s ts size h x ∙ e) ∙ ap (fetch_free s) (read-inside m p place)) (rest-same s.core) h
      go (Ok (InWindow n k)) e = read-window way n k e (asked-as-told N s ts size h x ∙ e)

  -- A WRITE at a place in no area leaves every channel as it is.
  outside-area : (w : Window) (a : ℕ) → law.Fits (length m) w → 0x1000 ≤ a → (leb (first_of w) a && leb a (last_of w)) ≡ false → in_area w (a - 0x1000) ≡ false
  outside-area w a fits high out =
      ⊎_elim
      (λ inside.
      let p = and_parts (leb (w.start - 0x1000) (a - 0x1000)) _ inside in
      let lo = leb-true (w.start - 0x1000) (a - 0x1000) p.0 in
      let hi = ltb-true (a - 0x1000) (w.start - 0x1000 + area_size w) p.1 in
      let st = leb-true 0x1000 w.start (and_parts (leb 0x1000 w.start) _ fits.room).0 in
      absurd (false≢true (sym out ∙ and_from _ _ (le-leb (first_of w) a (omega arith)) (le-leb a (last_of w) (omega arith)))))
      (λ e. e)
      (cases_Bool (in_area w (a - 0x1000)))

  free-if : (p v : ℕ) (o : Option Service) (t : Option Story) → p ≡ x.address - 0x1000 → 0x1000 ≤ x.address → covered (option_map facts_told t) x.address ≡ false → HeldIf m o t → HeldIf (set m p v) o t
  free-if p v None None at high out held = tt
  free-if p v None (Some t) at high out held = held
  free-if p v (Some c) None at high out held = held
  free-if p v (Some c) (Some t) at high out held =
      let fits : law.Fits (length m) t.window = subst (law.Fits (length m)) held.same held.parts.fits in
      write-elsewhere m c t held p v
      (ap (λ w. in_area w p) held.same ∙ (ap (in_area t.window) at ∙ outside-area t.window x.address fits high out))

  write-free : (o p : ℕ) → asked N (told ts) x ≡ Ok (InFree p) → asked_of s x ≡ Ok (InFree p) → WriteView N s ts x o
  write-free o p e is =
      let f = free-reached N (told ts) x p e in
      let place : p < length m = (let z = f.within in omega arith) in
      let v : ℕ = stored x.share (get_or m p 0) o in
      write_done (InFree p) (over s.core (set m p v)) e (ap (stored_by s x o) is ∙ ap (store_free s x.share p o) (read-inside m p place)) (rest-same s.core) (length-set m p v)
      (record {
        long = h.long;
        held = λ n. free-if p v (service_at cs n) (story_at ts n) f.place f.high (ap (λ g. covered g x.address) (sym (get_or-map (option_map facts_told) ts n None)) ∙ f.uncovered n) (h.held n);
        apart = h.apart;
      })

  -- A write in a window leaves every other channel as it is.
  other-if : (n k v : ℕ) (c : Service) (t : Story) → channel-held.Held m c t → k < c.window.length → (o : Option Service) (u : Option Story) → ApartIf (Some t.window) (story_window u) → HeldIf m o u → HeldIf (set m (store_place c k) v) o u
  other-if n k v c t hc kl None None ap' held = tt
  other-if n k v c t hc kl None (Some u) ap' held = held
  other-if n k v c t hc kl (Some d) None ap' held = held
  other-if n k v c t hc kl (Some d) (Some u) ap' held =
      let disjoint : Disjoint c.window d.window = subst (λ w. Disjoint w d.window) (sym hc.same) (subst (Disjoint t.window) (sym held.same) ap') in
      write-elsewhere m d u held (store_place c k) v
      (disjoint-places (length m) c.window d.window hc.parts.fits held.parts.fits disjoint (store_place c k) (store-inside m c t hc k kl).0)

  write-window : x.direction ≡ Write → (o n k : ℕ) → asked N (told ts) x ≡ Ok (InWindow n k) → asked_of s x ≡ Ok (InWindow n k) → WriteView N s ts x o
  write-window way o n k e is =
      let b = both-reached N m cs ts h x n k e in
      let c = b.service in let t = b.story in
      let place : store_place c k < length m = (store-inside m c t b.held k b.within).1 in
      let ok : channel.asked (facts_of c) x.side Write k ≡ Ok k = ap (λ d. channel.asked (facts_of c) x.side d k) (sym way) ∙ b.ok in
      let after : List ℕ = set m (store_place c k) o in
      let new : channel-held.Held after (after_store c k) (stored_at k o t) = store-held m c t b.held x.side k o k ok in
      let within : n < length ts = some-within ts n t b.story-at in
      let stories : set ts n (Some (stored_at k o t)) ≡ told_at (λ j. stored_at j o) ts (Ok (InWindow n k)) = ap (λ u. set ts n (option_map (stored_at k o) u)) (sym b.story-at) in
      write_done (InWindow n k) (over (with_channels s.core (set cs n (in_service_as (after_store c k)))) after) e
      (ap (stored_by s x o) is ∙ (ap (store_window s x.share n k (x.address - 0x1000) o) b.service-at ∙ ap (store_in s n c k o) (write-inside m (store_place c k) place)))
      (record { number = refl; registers = refl; alias = refl; running = refl })
      (length-set m (store_place c k) o)
      (subst (Channels after (set cs n (in_service_as (after_store c k)))) stories
      (record {
        long = length-set cs n _ ∙ (h.long ∙ sym (length-set ts n _));
        held = pairs-set-in (HeldIn after) out_of_service None cs ts n (in_service_as (after_store c k)) (Some (stored_at k o t)) (let z = h.long in omega arith) within
            (λ i ne. other-if n k o c t b.held b.within (service_at cs i) (story_at ts i) (subst (λ w. ApartIf w (window_at ts i)) (ap story_window b.story-at) (h.apart n i (λ q. ne (sym q)))) (h.held i)) new;
        apart = apart-as ts (set ts n (Some (stored_at k o t))) (windows-set ts n t (stored_at k o t) b.story-at (stored-window k o t)) h.apart;
      }))

  pub write_view : x.direction ≡ Write → (o : ℕ) → WriteView N s ts x o
  write_view way o = go (asked N (told ts) x) refl
    where
      go : (r : Result Target Fault) → asked N (told ts) x ≡ r → WriteView N s ts x o
      go (Err f) e = write-refused f e (ap (stored_by s x o) (asked-as-told N s ts size h x ∙ e))
      go (Ok (InRegister p)) e = write_done (InRegister p) s e (ap (stored_by s x o) (asked-as-told N s ts size h x ∙ e)) (rest-same s.core) refl h
      go (Ok (InFree p)) e = write-free o p e (asked-as-told N s ts size h x ∙ e)
      go (Ok (InWindow n k)) e = write-window way o n k e (asked-as-told N s ts size h x ∙ e)
