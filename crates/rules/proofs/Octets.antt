-- The accesses of one octet in one direction: one of a whole octet, or all of parts. Assumes nothing.
use Rattle.std.proofs.Common.{◌≡◌, ℕ, ◌≤◌, Bool, true, false, cond, ◌⊎◌, List, [], ◌∷◌, map, length, get_or, sym, refl, ap, ◌∙◌, subst, inl, inr, ⊎_elim}
use Rattle.std.proofs.lemmas.Bool.{false≢true}
use Rattle.bits.specs.Shares.{splits, laid}
use Rattle.mapping.specs.declared.mapped.Access as mapped-access
use Rattle.mapping.specs.Mapping.{mapped_accesses}
use Rattle.mapping_laws.specs.Whole as mapping
use Rattle.mapping_laws.proofs.Alone.{sole-whole}
use Rattle.frame.specs.Frames.{wanted_by}
use Rattle.channel_law.specs.Story.{Story, stored_at, fetched_at}
use Rattle.rules.specs.Data.{Option, Some, None, Result, Ok, Err, Fault, Direction, Read, Write, Whole, Entity, Core, Access, Target, InRegister, InFree, InWindow, Place, Physical, Logical, Wanted, Outcome, NotWanted, Done, Refused, Registers, Running}
use Rattle.rules.specs.Questions.{channel_at, asked}
use Rattle.rules.specs.Octets.{plain, through_mapping, accesses_at, wants, accesses_for, accesses_of}
use Rattle.rules.specs.Steps.{Station, Reply, over, Reads, Writes, also_done, also_refused, read_one, read_all, write_one, write_all, reads_from, writes_from}
use Rattle.rules.specs.Account.{told, told_at, told_all, reads_told, writes_told}
use Rattle.rules.specs.Promise.{Every, also_asked, asked_all, bare, refusal, RefusedIn, RefusedAt, RefusedRightly}
use Rattle.rules.proofs.Reached.{window-reached}
use Rattle.rules.proofs.Held.{Channels}
use Rattle.rules.specs.Faults.{Notice, notice}
use Rattle.rules.proofs.Words.{noticed, words-one}
use Rattle.rules.proofs.Accesses.{Rest, rest-same, ReadView, read-refused, read_done, WriteView, write-refused, write_done, read_view, write_view}

-- all of one direction
abbrev pub Ways : Direction → List Access → Type 0
Ways d xs = Every (λ x. x.direction ≡ d) xs

abbrev pub Parts : List Access → Type 0
Parts xs = Every (λ x. splits x.share ≡ true) xs

abbrev pub Sole : List Access → Type 0
Sole xs = (x : Access) × (xs ≡ x ∷ []) × (x.share ≡ Whole)

-- the accesses of a frame's octet are so
map-parts : (d : Direction) (xs : List mapped-access.Access) → mapping.AllParts xs → Parts (map (through_mapping d) xs)
map-parts d [] h = tt
map-parts d (x ∷ xs) h = (h.0, map-parts d xs h.1)

map-ways : (d : Direction) (xs : List mapped-access.Access) → Ways d (map (through_mapping d) xs)
map-ways d [] = tt
map-ways d (x ∷ xs) = (refl, map-ways d xs)

at-shape : (es : List Entity) (d : Direction) (p : Place) → Sole (accesses_at es d p) ⊎ Parts (accesses_at es d p)
at-shape es d (Physical a) = inl (plain _ d a, refl, refl)
at-shape es d (Logical a) =
    ⊎_elim (λ s. inl (through_mapping d s.0, ap (map (through_mapping d)) s.1, s.2)) (λ p. inr (map-parts d (mapped_accesses es d a) p)) (sole-whole es d a)

at-ways : (es : List Entity) (d : Direction) (p : Place) → Ways d (accesses_at es d p)
at-ways es d (Physical a) = (refl, tt)
at-ways es d (Logical a) = map-ways d (mapped_accesses es d a)

cond-shape : (b : Bool) (xs : List Access) → Sole xs ⊎ Parts xs → Sole (cond b xs []) ⊎ Parts (cond b xs [])
cond-shape true xs h = h
cond-shape false xs h = inr tt

cond-ways : (b : Bool) (d : Direction) (xs : List Access) → Ways d xs → Ways d (cond b xs [])
cond-ways true d xs h = h
cond-ways false d xs h = tt

for-shape : (es : List Entity) (d : Direction) (w : Option Wanted) → (Sole (accesses_for es d w) ⊎ Parts (accesses_for es d w)) × Ways d (accesses_for es d w)
for-shape es d None = (inr tt, tt)
for-shape es d (Some w) = (cond-shape (wants w d) _ (at-shape es d w.place), cond-ways (wants w d) d _ (at-ways es d w.place))

pub shape : (r : Registers) (f : Running) (d : Direction) → (Sole (accesses_of r f d) ⊎ Parts (accesses_of r f d)) × Ways d (accesses_of r f d)
shape r f d = for-shape r.entities d (wanted_by f.progress)

-- PARTS reach no window, so they tell nothing of any service.
part-quiet : (N : ℕ) (g : ℕ → Story → Story) (ts : List (Option Story)) (x : Access) → splits x.share ≡ true → (r : Result Target Fault) → asked N (told ts) x ≡ r → told_at g ts r ≡ ts
part-quiet N g ts x part (Err f) e = refl
part-quiet N g ts x part (Ok (InRegister p)) e = refl
part-quiet N g ts x part (Ok (InFree p)) e = refl
part-quiet N g ts x part (Ok (InWindow n k)) e = absurd (false≢true (sym (window-reached N (told ts) x n k e).whole ∙ part))

parts-quiet : (N : ℕ) (g : ℕ → Story → Story) (ts : List (Option Story)) (xs : List Access) → Parts xs → told_all N g ts xs ≡ ts
parts-quiet N g ts [] h = refl
parts-quiet N g ts (x ∷ xs) h =
    ap (λ us. told_all N g us xs) (part-quiet N g ts x h.0 (asked N (told ts) x) refl) ∙ parts-quiet N g ts xs h.1

parts-read : (N : ℕ) (ts : List (Option Story)) (xs : List Access) → Parts xs → (r : Outcome ℕ Fault) → reads_told N ts xs r ≡ ts
parts-read N ts xs h NotWanted = refl
parts-read N ts xs h (Done v) = parts-quiet N (λ k. fetched_at k v) ts xs h
parts-read N ts xs h (Refused f) = refl

parts-written : (N : ℕ) (ts : List (Option Story)) (xs : List Access) → Parts xs → (o : ℕ) (r : Outcome (Unit {0}) Fault) → writes_told N ts xs o r ≡ ts
parts-written N ts xs h o NotWanted = refl
parts-written N ts xs h o (Done v) = parts-quiet N (λ k. stored_at k o) ts xs h
parts-written N ts xs h o (Refused f) = refl

part-words-in : (x : Access) (n : ℕ) (r : Option Notice) → splits x.share ≡ true → (t : Option Story) → RefusedIn x n r t
part-words-in x n r part None = tt
part-words-in x n r part (Some t) = λ whole turn. absurd (false≢true (sym whole ∙ part))

part-words : (ts : List (Option Story)) (x : Access) (r : Option Notice) → splits x.share ≡ true → (n : Option ℕ) → RefusedAt ts x r n
part-words ts x r part None = tt
part-words ts x r part (Some n) = part-words-in x n r part (get_or ts n None)

parts-words : (ts : List (Option Story)) (r : Option Notice) (xs : List Access) → Parts xs → RefusedRightly ts r xs
parts-words ts r [] h = tt
parts-words ts r (x ∷ xs) h = (part-words ts x r h.0 (channel_at (told ts) x.address), parts-words ts r xs h.1)

-- THE READS of an octet, done and told
pub record ReadsDone (N : ℕ) (s : Station) (ts : List (Option Story)) (xs : List Access) (r : Reads) : Type 0 where
  pub rest : Rest s.core r.after.core
  pub octets : r.after.octets ≡ s.octets
  pub channels : Channels s.octets r.after.core.channels (reads_told N ts xs r.outcome)
  pub due : bare r.outcome ≡ asked_all N (told ts) 0 NotWanted xs
  pub words : RefusedRightly ts (refusal r.outcome) xs

pub record WritesDone (N : ℕ) (s : Station) (ts : List (Option Story)) (o : ℕ) (xs : List Access) (w : Writes) : Type 0 where
  pub rest : Rest s.core w.after.core
  pub size : length w.after.octets ≡ length s.octets
  pub channels : Channels w.after.octets w.after.core.channels (writes_told N ts xs o w.outcome)
  pub due : w.outcome ≡ asked_all N (told ts) tt NotWanted xs
  pub words : RefusedRightly ts (refusal w.outcome) xs

rest-trans : {c d e : Core} → Rest c d → Rest d e → Rest c e
rest-trans p q = record { number = q.number ∙ p.number; registers = q.registers ∙ p.registers; alias = q.alias ∙ p.alias; running = q.running ∙ p.running }

bare-done : (t : Outcome ℕ Fault) (v : ℕ) → bare (also_done t v) ≡ also_done (bare t) 0
bare-done NotWanted v = refl
bare-done (Done u) v = refl
bare-done (Refused f) v = refl

bare-refused : (t : Outcome ℕ Fault) (f : Fault) → bare (also_refused t f) ≡ also_refused (bare t) f
bare-refused NotWanted f = refl
bare-refused (Done u) f = refl
bare-refused (Refused g) f = refl

module _ (N : ℕ) (small : N ≤ 61440) where
  abbrev begun-reads : Station → ℕ → Reads
  begun-reads s o = record { after = s; gathered = 0; shown = o; outcome = NotWanted }

  abbrev begun-writes : Station → Writes
  begun-writes s = record { after = s; outcome = NotWanted }

  -- one whole octet
  module _ (s : Station) (ts : List (Option Story)) (size : length s.octets ≡ N) (h : Channels s.octets s.core.channels ts) (x : Access) (whole : x.share ≡ Whole) (o : ℕ) where
    words-as : (r : Option Notice) → noticed (asked N (told ts) x) ≡ r → RefusedRightly ts r (x ∷ [])
    words-as r e = (subst (λ c. RefusedAt ts x c (channel_at (told ts) x.address)) e (words-one N s.octets s.core.channels ts size small h x), tt)

    one-read : x.direction ≡ Read → ReadsDone N s ts (x ∷ []) (reads_from s o (x ∷ []))
    one-read way = go (read_view N s ts size h x way)
      where
        go : ReadView N s ts x → ReadsDone N s ts (x ∷ []) (reads_from s o (x ∷ []))
        go (read-refused f e is) =
            subst (λ (q : Reply ℕ). ReadsDone N s ts (x ∷ []) (read_one x (begun-reads s o) q.after q.says)) (sym is)
            (record { rest = rest-same s.core; octets = refl; channels = h; due = sym (ap (also_asked 0 NotWanted) e); words = words-as (Some (notice f)) (ap noticed e) })
        go (read_done g v c e is rest ch) =
            let got : laid x.share 0 v ≡ v = ap (λ q. laid q 0 v) whole in
            subst (λ (q : Reply ℕ). ReadsDone N s ts (x ∷ []) (read_one x (begun-reads s o) q.after q.says)) (sym is)
            (record {
              rest = rest;
              octets = refl;
              channels = subst (Channels s.octets c.channels) (ap (λ w. told_at (λ k. fetched_at k w) ts (Ok g)) (sym got) ∙ ap (told_at (λ k. fetched_at k (laid x.share 0 v)) ts) (sym e)) ch;
              due = sym (ap (also_asked 0 NotWanted) e);
              words = words-as None (ap noticed e);
            })

    one-write : x.direction ≡ Write → WritesDone N s ts o (x ∷ []) (writes_from s o (x ∷ []))
    one-write way = go (write_view N s ts size h x way o)
      where
        go : WriteView N s ts x o → WritesDone N s ts o (x ∷ []) (writes_from s o (x ∷ []))
        go (write-refused f e is) =
            subst (λ (q : Reply (Unit {0})). WritesDone N s ts o (x ∷ []) (write_one (begun-writes s) q.after q.says)) (sym is)
            (record { rest = rest-same s.core; size = refl; channels = h; due = sym (ap (also_asked tt NotWanted) e); words = words-as (Some (notice f)) (ap noticed e) })
        go (write_done g t e is rest len ch) =
            subst (λ (q : Reply (Unit {0})). WritesDone N s ts o (x ∷ []) (write_one (begun-writes s) q.after q.says)) (sym is)
            (record {
              rest = rest;
              size = len;
              channels = subst (Channels t.octets t.core.channels) (ap (told_at (λ k. stored_at k o) ts) (sym e)) ch;
              due = sym (ap (also_asked tt NotWanted) e);
              words = words-as None (ap noticed e);
            })

  -- parts, one after the other: the stories stay as they are
  record PartsRead (ts : List (Option Story)) (xs : List Access) (t r : Reads) : Type 0 where
    rest : Rest t.after.core r.after.core
    octets : r.after.octets ≡ t.after.octets
    channels : Channels t.after.octets r.after.core.channels ts
    due : bare r.outcome ≡ asked_all N (told ts) 0 (bare t.outcome) xs

  parts-reads : (ts : List (Option Story)) (xs : List Access) → Parts xs → Ways Read xs → (t : Reads) → length t.after.octets ≡ N → Channels t.after.octets t.after.core.channels ts → PartsRead ts xs t (read_all t xs)
  parts-reads ts [] parts ways t size h = record { rest = rest-same t.after.core; octets = refl; channels = h; due = refl }
  parts-reads ts (x ∷ xs) parts ways t size h = go (read_view N t.after ts size h x ways.0) (λ u size' h'. parts-reads ts xs parts.1 ways.1 u size' h')
    where
      go : ReadView N t.after ts x → ((u : Reads) → length u.after.octets ≡ N → Channels u.after.octets u.after.core.channels ts → PartsRead ts xs u (read_all u xs)) →
          PartsRead ts (x ∷ xs) t (read_all t (x ∷ xs))
      go (read-refused f e is) more =
          let u : Reads = read_one x t t.after (Err f) in
          let r = more u size h in
          subst (λ (q : Reply ℕ). PartsRead ts (x ∷ xs) t (read_all (read_one x t q.after q.says) xs)) (sym is)
          (record {
            rest = r.rest;
            octets = r.octets;
            channels = r.channels;
            due = r.due ∙ ap (λ w. asked_all N (told ts) 0 w xs) (bare-refused t.outcome f ∙ sym (ap (also_asked 0 (bare t.outcome)) e));
          })
      go (read_done g v c e is rest ch) more =
          let u : Reads = read_one x t (over c t.after.octets) (Ok v) in
          let quiet : told_at (λ k. fetched_at k v) ts (Ok g) ≡ ts = part-quiet N (λ k. fetched_at k v) ts x parts.0 (Ok g) e in
          let r = more u size (subst (Channels t.after.octets c.channels) quiet ch) in
          subst (λ (q : Reply ℕ). PartsRead ts (x ∷ xs) t (read_all (read_one x t q.after q.says) xs)) (sym is)
          (record {
            rest = rest-trans rest r.rest;
            octets = r.octets;
            channels = r.channels;
            due = r.due ∙ ap (λ w. asked_all N (told ts) 0 w xs) (bare-done t.outcome (laid x.share t.gathered v) ∙ sym (ap (also_asked 0 (bare t.outcome)) e));
          })

  record PartsWritten (ts : List (Option Story)) (xs : List Access) (t w : Writes) : Type 0 where
    rest : Rest t.after.core w.after.core
    size : length w.after.octets ≡ length t.after.octets
    channels : Channels w.after.octets w.after.core.channels ts
    due : w.outcome ≡ asked_all N (told ts) tt t.outcome xs

  parts-writes : (ts : List (Option Story)) (o : ℕ) (xs : List Access) → Parts xs → Ways Write xs → (t : Writes) → length t.after.octets ≡ N → Channels t.after.octets t.after.core.channels ts → PartsWritten ts xs t (write_all t o xs)
  parts-writes ts o [] parts ways t size h = record { rest = rest-same t.after.core; size = refl; channels = h; due = refl }
  parts-writes ts o (x ∷ xs) parts ways t size h = go (write_view N t.after ts size h x ways.0 o) (λ u size' h'. parts-writes ts o xs parts.1 ways.1 u size' h')
    where
      go : WriteView N t.after ts x o → ((u : Writes) → length u.after.octets ≡ N → Channels u.after.octets u.after.core.channels ts → PartsWritten ts xs u (write_all u o xs)) →
          PartsWritten ts (x ∷ xs) t (write_all t o (x ∷ xs))
      go (write-refused f e is) more =
          let u : Writes = write_one t t.after (Err f) in
          let r = more u size h in
          subst (λ (q : Reply (Unit {0})). PartsWritten ts (x ∷ xs) t (write_all (write_one t q.after q.says) o xs)) (sym is)
          (record {
            rest = r.rest;
            size = r.size;
            channels = r.channels;
            due = r.due ∙ ap (λ w. asked_all N (told ts) tt w xs) (sym (ap (also_asked tt t.outcome) e));
          })
      go (write_done g b e is rest len ch) more =
          let u : Writes = write_one t b (Ok tt) in
          let quiet : told_at (λ k. stored_at k o) ts (Ok g) ≡ ts = part-quiet N (λ k. stored_at k o) ts x parts.0 (Ok g) e in
          let r = more u (len ∙ size) (subst (Channels b.octets b.core.channels) quiet ch) in
          subst (λ (q : Reply (Unit {0})). PartsWritten ts (x ∷ xs) t (write_all (write_one t q.after q.says) o xs)) (sym is)
          (record {
            rest = rest-trans rest r.rest;
            size = r.size ∙ len;
            channels = r.channels;
            due = r.due ∙ ap (λ w. asked_all N (told ts) tt w xs) (sym (ap (also_asked tt t.outcome) e));
          })

  -- ALL ACCESSES of an octet in a direction
  module _ (s : Station) (ts : List (Option Story)) (size : length s.octets ≡ N) (h : Channels s.octets s.core.channels ts) (o : ℕ) (xs : List Access) where
    pub reads-done : Sole xs ⊎ Parts xs → Ways Read xs → ReadsDone N s ts xs (reads_from s o xs)
    reads-done (inl (x, is, whole)) ways =
        subst (λ ys. ReadsDone N s ts ys (reads_from s o ys)) (sym is) (one-read s ts size h x whole o (subst (Ways Read) is ways).0)
    reads-done (inr parts) ways =
        let p = parts-reads ts xs parts ways (begun-reads s o) size h in
        record {
          rest = p.rest;
          octets = p.octets;
          channels = subst (Channels s.octets (reads_from s o xs).after.core.channels) (sym (parts-read N ts xs parts (reads_from s o xs).outcome)) p.channels;
          due = p.due;
          words = parts-words ts (refusal (reads_from s o xs).outcome) xs parts;
        }

    pub writes-done : Sole xs ⊎ Parts xs → Ways Write xs → WritesDone N s ts o xs (writes_from s o xs)
    writes-done (inl (x, is, whole)) ways =
        subst (λ ys. WritesDone N s ts o ys (writes_from s o ys)) (sym is) (one-write s ts size h x whole o (subst (Ways Write) is ways).0)
    writes-done (inr parts) ways =
        let p = parts-writes ts o xs parts ways (begun-writes s) size h in
        record {
          rest = p.rest;
          size = p.size;
          channels = subst (Channels (writes_from s o xs).after.octets (writes_from s o xs).after.core.channels) (sym (parts-written N ts xs parts o (writes_from s o xs).outcome)) p.channels;
          due = p.due;
          words = parts-words ts (refusal (writes_from s o xs).outcome) xs parts;
        }
