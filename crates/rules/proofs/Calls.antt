-- Each call keeps the invariant, and is answered as promised. Assumes nothing.
use Rattle.std.proofs.Common.{◌≡◌, ℕ, ◌≤◌, Bool, true, false, cond, eqb, List, [], ◌∷◌, map, length, sym, refl, ap, ◌∙◌, subst}
use Rattle.std.specs.Option.{option_map}
use Rattle.std.proofs.lemmas.Bool.{cond-true, cond-false}
use Rattle.channel_law.specs.Story.{Story, kept_story, fetched_at, stored_at}
use Rattle.channel_law.specs.Law as law
use Rattle.frame.specs.Cursors.{leaves_of}
use Rattle.frame.specs.Frames.{has_room, answered, kept}
use Rattle.frame.specs.declared.progress.Reason.{Reason}
use Rattle.frame.specs.declared.progress.Reason.TheVariants.{TooLong}
use Rattle.rules.specs.Data.{Option, Some, None, Result, Ok, Err, Fault, Local, Direction, Read, Write, Verdict, Registers, Running, Access, Outcome, NotWanted, Done, Refused, Call, Begin, Octet, End, ReadAt, WriteAt, Answer, Forwards, Kept, Got, Stored}
use Rattle.rules.specs.Registers.{register_of, with_alias, with_settings}
use Rattle.rules.specs.Questions.{asked, channel_at}
use Rattle.rules.specs.Octets.{plain, accesses_for, accesses_of, given_running, mine}
use Rattle.rules.specs.Steps.{Station, Reply, over, with_running, Reads, Writes, reads_from, writes_from, octet_answer, octet_taken, octet_given, octet_step, no_such_frame, kept_channels, kept_station, end_of, end_step, begin_step, read_step, write_step, step}
use Rattle.rules.specs.Account.{Account, told, told_at, reads_told, writes_told, frame_accesses, accesses, after_reads, after_accesses, given, kept_stories, kept_account, waiting_of, refused_octet, note}
use Rattle.rules.specs.Promise.{Every, asked_all, bare, bare_answer, refusal, due, due_octet, due_end, due_verdict, due_local, RefusedAt, RefusedRightly, Answered}
use Rattle.rules.proofs.Held.{Channels, Held}
use Rattle.rules.specs.Faults.{Notice, notice}
use Rattle.rules.proofs.Words.{noticed, words-one}
use Rattle.rules.proofs.Accesses.{ReadView, read-refused, read_done, WriteView, write-refused, write_done, read_view, write_view}
use Rattle.rules.proofs.Octets.{shape, ReadsDone, WritesDone, reads-done, writes-done}
use Rattle.rules.proofs.Ends.{all-kept, all-dropped, past-whole, Alike, kept-alike}

-- the account that tells of this station, with these stories
abbrev pub account_of : Station → List (Option Story) → List Story → Account
account_of s ts past = record { registers = s.core.registers; alias = s.core.alias; running = s.core.running; current = ts; past = past }

-- what is to be shown of a call that led here with this answer
pub record Goes (N : ℕ) (number : ℕ) (a : Account) (c : Call) (r : Station × Answer) : Type 0 where
  pub held : Held N number r.0 (note N number a c r.1)
  pub answered : Answered N number a c r.1

module _ (N : ℕ) (small : N ≤ 61440) (s : Station) (ts : List (Option Story)) (past : List Story) (size : length s.octets ≡ N) (h : Channels s.octets s.core.channels ts) (whole : Every law.Whole past) where
  abbrev number : ℕ
  number = s.core.number

  abbrev a : Account
  a = account_of s ts past

  -- the station as it is
  stays : Held N number s a
  stays = record { small = small; size = size; same_number = refl; registers = refl; alias = refl; running = refl; channels = h; past = whole }

  -- BEGIN
  begin-goes : (f : Option Running) → s.core.running ≡ f → Goes N number a Begin (begin_step s f)
  begin-goes None e =
      record {
        held = record { small = small; size = size; same_number = refl; registers = refl; alias = refl; running = refl; channels = h; past = whole };
        answered = record { as-asked = sym (ap (λ f. due N number (record { registers = s.core.registers; alias = s.core.alias; running = f; current = ts; past = past }) ts Begin) e); reads = tt; writes = tt };
      }
  begin-goes (Some f) e =
      record {
        held = stays;
        answered = record { as-asked = sym (ap (λ f. due N number (record { registers = s.core.registers; alias = s.core.alias; running = f; current = ts; past = past }) ts Begin) e); reads = tt; writes = tt };
      }

  -- LOCAL calls
  words_of : (x : Access) (r : Option Notice) → noticed (asked N (told ts) x) ≡ r → RefusedRightly ts r (x ∷ [])
  words_of x r e = (subst (λ c. RefusedAt ts x c (channel_at (told ts) x.address)) e (words-one N s.octets s.core.channels ts size small h x), tt)

  read_goes : (p : ℕ) → Goes N number a (ReadAt p) (step s (ReadAt p))
  read_goes p = go (read_view N s ts size h (plain Local Read p) refl)
    where
      go : ReadView N s ts (plain Local Read p) → Goes N number a (ReadAt p) (step s (ReadAt p))
      go (read-refused f e is) =
          subst (λ (q : Reply ℕ). Goes N number a (ReadAt p) (read_step q.after q.says)) (sym is)
          (record { held = stays; answered = record { as-asked = sym (ap (due_local (Got 0)) e); reads = words_of (plain Local Read p) (Some (notice f)) (ap noticed e); writes = tt } })
      go (read_done g v c e is rest ch) =
          subst (λ (q : Reply ℕ). Goes N number a (ReadAt p) (read_step q.after q.says)) (sym is)
          (record {
            held = record {
              small = small;
              size = size;
              same_number = rest.number;
              registers = rest.registers;
              alias = rest.alias;
              running = rest.running;
              channels = subst (Channels s.octets c.channels) (ap (told_at (λ k. fetched_at k v) ts) (sym e)) ch;
              past = whole;
            };
            answered = record { as-asked = sym (ap (due_local (Got 0)) e); reads = words_of (plain Local Read p) None (ap noticed e); writes = tt };
          })

  write_goes : (p o : ℕ) → Goes N number a (WriteAt p o) (step s (WriteAt p o))
  write_goes p o = go (write_view N s ts size h (plain Local Write p) refl o)
    where
      go : WriteView N s ts (plain Local Write p) o → Goes N number a (WriteAt p o) (step s (WriteAt p o))
      go (write-refused f e is) =
          subst (λ (q : Reply (Unit {0})). Goes N number a (WriteAt p o) (write_step q.after p o q.says)) (sym is)
          (record { held = stays; answered = record { as-asked = sym (ap (due_local Stored) e); reads = tt; writes = words_of (plain Local Write p) (Some (notice f)) (ap noticed e) } })
      go (write_done g t e is rest len ch) =
          subst (λ (q : Reply (Unit {0})). Goes N number a (WriteAt p o) (write_step q.after p o q.says)) (sym is)
          (record {
            held = record {
              small = small;
              size = len ∙ size;
              same_number = rest.number;
              registers = rest.registers;
              alias = ap (λ l. with_alias l (register_of p) o) rest.alias;
              running = rest.running;
              channels = subst (Channels t.octets t.core.channels) (ap (told_at (λ k. stored_at k o) ts) (sym e)) ch;
              past = whole;
            };
            answered = record { as-asked = sym (ap (due_local Stored) e); reads = tt; writes = words_of (plain Local Write p) None (ap noticed e) };
          })

  -- A FRAME that is handed in: the running one, if it carries the station's number
  is-running : (n : ℕ) (r : Option Running) (f : Running) → mine number n r ≡ Some f → r ≡ Some f
  is-running n None f e = absurd (cc)
  is-running n (Some g) f e = go (eqb number n) e
    where
      go : (b : Bool) → cond b (Some g) None ≡ Some f → Some g ≡ Some f
      go true d = d
      go false d = absurd (cc)

  -- OCTET for no such frame
  no-octet : (n o : ℕ) → mine number n s.core.running ≡ None → Goes N number a (Octet n o) (s, no_such_frame)
  no-octet n o e =
      let none : (d : Direction) → accesses number a (Octet n o) d ≡ [] = λ d. ap (λ q. frame_accesses s.core.registers q d) e in
      record {
        held = record {
          small = small;
          size = size;
          same_number = refl;
          registers = refl;
          alias = refl;
          running = sym (ap (refused_octet a (Octet n o)) e);
          channels = h;
          past = whole;
        };
        answered = record {
          as-asked = sym (ap (due_octet o _ _) e);
          reads = subst (RefusedRightly ts _) (sym (none Read)) tt;
          writes = subst (RefusedRightly ts _) (sym (none Write)) tt;
        };
      }

  bare-bare : (r : Outcome ℕ Fault) → bare (bare r) ≡ bare r
  bare-bare NotWanted = refl
  bare-bare (Done v) = refl
  bare-bare (Refused f) = refl

  due-answer : (o : ℕ) (r : Outcome ℕ Fault) (w : Outcome (Unit {0}) Fault) (g : Option Running) (f : Running) → g ≡ Some f → (q : Result ℕ Reason) → answered f.progress o 0 ≡ q → due_octet o r w g ≡ bare_answer (octet_answer r w q)
  due-answer o r w g f e q is = ap (due_octet o r w) e ∙ ap (λ z. bare_answer (octet_answer r w z)) is

  module _ (n o : ℕ) (f : Running) (e : mine number n s.core.running ≡ Some f) where
    abbrev regs : Registers
    regs = s.core.registers

    runs-now : s.core.running ≡ Some f
    runs-now = is-running n s.core.running f e

    made : (d : Direction) → accesses number a (Octet n o) d ≡ accesses_of regs f d
    made d = ap (λ q. frame_accesses regs q d) e

    next-told : (r : Outcome ℕ Fault) (w : Outcome (Unit {0}) Fault) → given a (Octet n o) r w ≡ Some (given_running regs s.core.alias f o r w)
    next-told r w = ap (option_map (λ g. given_running regs s.core.alias g o r w)) runs-now

    -- past the 1,500 octets nothing is accessed
    no_room : has_room f.progress ≡ false → (d : Direction) → accesses_of regs f d ≡ []
    no_room full d = ap (accesses_for regs.entities d) (cond-false (has_room f.progress) _ _ full)

    overrun : has_room f.progress ≡ false → Goes N number a (Octet n o) (octet_given s f o)
    overrun full =
        let too_long : (laid : ℕ) → answered f.progress o laid ≡ Err TooLong = λ laid. cond-false (has_room f.progress) _ _ full in
        let none : (d : Direction) → accesses number a (Octet n o) d ≡ [] = λ d. made d ∙ no_room full d in
        subst (λ (xs : List Access). Goes N number a (Octet n o) (let r : Reads = reads_from s o xs in octet_taken s f o r (writes_from r.after o (accesses_of regs f Write)))) (sym (no_room full Read))
        (subst (λ (xs : List Access). Goes N number a (Octet n o) (octet_taken s f o (reads_from s o []) (writes_from s o xs))) (sym (no_room full Write))
        (subst (λ (y : Answer). Goes N number a (Octet n o) (over (with_running s.core (Some (given_running regs s.core.alias f o NotWanted NotWanted))) s.octets, y)) (sym (ap (octet_answer NotWanted NotWanted) (too_long o)))
        (record {
          held = record {
            small = small;
            size = size;
            same_number = refl;
            registers = refl;
            alias = refl;
            running = sym (ap (refused_octet a (Octet n o)) e ∙ next-told NotWanted NotWanted);
            channels = h;
            past = whole;
          };
          answered = record {
            as-asked = sym (due-answer o _ _ (mine number n s.core.running) f e (Err TooLong) (too_long 0));
            reads = subst (RefusedRightly ts _) (sym (none Read)) tt;
            writes = subst (RefusedRightly ts _) (sym (none Write)) tt;
          };
        })))

    -- within them: read, then write
    taken : has_room f.progress ≡ true → Goes N number a (Octet n o) (octet_given s f o)
    taken room =
        let xs : List Access = accesses_of regs f Read in
        let ys : List Access = accesses_of regs f Write in
        let R : Reads = reads_from s o xs in
        let rd : ReadsDone N s ts xs R = reads-done N small s ts size h o xs (shape regs f Read).0 (shape regs f Read).1 in
        let us : List (Option Story) = reads_told N ts xs R.outcome in
        let ch : Channels R.after.octets R.after.core.channels us = subst (λ m. Channels m R.after.core.channels us) (sym rd.octets) rd.channels in
        let W : Writes = writes_from R.after o ys in
        let wd : WritesDone N R.after us o ys W = writes-done N small R.after us (ap length rd.octets ∙ size) ch o ys (shape regs f Write).0 (shape regs f Write).1 in
        let r : Outcome ℕ Fault = R.outcome in
        let w : Outcome (Unit {0}) Fault = W.outcome in
        let v : ℕ = leaves_of f.progress.cursor o R.shown in
        let ok : (laid : ℕ) → answered f.progress o laid ≡ Ok (leaves_of f.progress.cursor o laid) = λ laid. cond-true (has_room f.progress) _ _ room in
        let reads-told : us ≡ after_reads N number a (Octet n o) (Forwards v r w) = ap (λ zs. reads_told N ts zs r) (sym (made Read)) in
        let all_told : writes_told N us ys o w ≡ after_accesses N number a (Octet n o) (Forwards v r w) =
        ap (λ zs. writes_told N us zs o w) (sym (made Write)) ∙ ap (λ vs. writes_told N vs (accesses number a (Octet n o) Write) o w) reads-told in
        let dr : Outcome ℕ Fault = asked_all N (told ts) 0 NotWanted (accesses number a (Octet n o) Read) in
        let dw : Outcome (Unit {0}) Fault = asked_all N (told (after_reads N number a (Octet n o) (Forwards v r w))) tt NotWanted (accesses number a (Octet n o) Write) in
        let reading : bare dr ≡ bare r = ap bare (ap (asked_all N (told ts) 0 NotWanted) (made Read) ∙ sym rd.due) ∙ bare-bare r in
        let writing : dw ≡ w =
        ap (asked_all N (told (after_reads N number a (Octet n o) (Forwards v r w))) tt NotWanted) (made Write) ∙ (ap (λ vs. asked_all N (told vs) tt NotWanted ys) (sym reads-told) ∙ sym wd.due) in
        subst (λ (y : Answer). Goes N number a (Octet n o) (over (with_running W.after.core (Some (given_running regs s.core.alias f o r w))) W.after.octets, y)) (sym (ap (octet_answer r w) (ok R.shown)))
        (record {
          held = record {
            small = small;
            size = wd.size ∙ (ap length rd.octets ∙ size);
            same_number = wd.rest.number ∙ rd.rest.number;
            registers = wd.rest.registers ∙ rd.rest.registers;
            alias = wd.rest.alias ∙ rd.rest.alias;
            running = sym (next-told r w);
            channels = subst (Channels W.after.octets W.after.core.channels) all_told wd.channels;
            past = whole;
          };
          answered = record {
            as-asked = sym (due-answer o dr dw (mine number n s.core.running) f e _ (ok 0) ∙ (ap (λ q. Forwards 0 q dw) reading ∙ ap (Forwards 0 (bare r)) writing));
            reads = subst (RefusedRightly ts (refusal r)) (sym (made Read)) rd.words;
            writes = subst (λ vs. RefusedRightly vs (refusal w) (accesses number a (Octet n o) Write)) reads-told (subst (RefusedRightly us (refusal w)) (sym (made Write)) wd.words);
          };
        })

    octet-taken : (b : Bool) → has_room f.progress ≡ b → Goes N number a (Octet n o) (octet_given s f o)
    octet-taken true room = taken room
    octet-taken false full = overrun full

  octet-goes : (n o : ℕ) (f : Option Running) → mine number n s.core.running ≡ f → Goes N number a (Octet n o) (octet_step s o f)
  octet-goes n o None e = no-octet n o e
  octet-goes n o (Some f) e = octet-taken n o f e (has_room f.progress) refl

  -- END
  no_end : (n : ℕ) (v : Verdict) → mine number n s.core.running ≡ None → Goes N number a (End n v) (s, no_such_frame)
  no_end n v e = record { held = stays; answered = record { as-asked = sym (ap (due_end N ts v) e); reads = tt; writes = tt } }

  module _ (n : ℕ) (v : Verdict) (f : Running) (e : mine number n s.core.running ≡ Some f) where
    ends : (r : Result (Unit {0}) Reason) → kept f.progress v ≡ r → Goes N number a (End n v) (end_of s f r)
    ends (Err why) is =
        record {
          held = record {
            small = small;
            size = size;
            same_number = refl;
            registers = refl;
            alias = refl;
            running = refl;
            channels = all-dropped s.octets s.core.channels ts h;
            past = whole;
          };
          answered = record { as-asked = sym (ap (due_end N ts v) e ∙ ap (due_verdict (kept_stories N f.waiting ts).denied) is); reads = tt; writes = tt };
        }
    ends (Ok u) is =
        let m = s.octets in
        let cs = s.core.channels in
        let r = f.waiting in
        let alike : Alike m (kept_channels N r cs) (kept_stories N r ts) = kept-alike m N size r cs ts h in
        let waits : waiting_of s.core.registers s.core.running ≡ r = ap (waiting_of s.core.registers) (is-running n s.core.running f e) in
        let goes : Goes N number a (End n v) (kept_station s r (kept_channels N r cs)) =
        record {
          held =
              subst (λ (q : Registers). Held N number (kept_station s r (kept_channels N r cs)).0 (kept_account a q (kept_stories N q ts))) (sym waits)
              (record {
                small = small;
                size = size;
                same_number = refl;
                registers = ap (with_settings r) alike.settings;
                alias = refl;
                running = refl;
                channels = alike.channels;
                past = past-whole m r.settings (map _ cs) (map (option_map kept_story) ts) (all-kept m cs ts h) past whole;
              });
          answered = record { as-asked = ap Kept alike.denied ∙ sym (ap (due_end N ts v) e ∙ ap (due_verdict (kept_stories N r ts).denied) is); reads = tt; writes = tt };
        } in
        subst (λ k. Goes N number a (End n v) (kept_station s r (kept_channels k r cs))) (sym size) goes

  end_goes : (n : ℕ) (v : Verdict) (f : Option Running) → mine number n s.core.running ≡ f → Goes N number a (End n v) (end_step s v f)
  end_goes n v None e = no_end n v e
  end_goes n v (Some f) e = ends n v f e (kept f.progress v) refl

  -- EVERY CALL
  goes : (c : Call) → Goes N number a c (step s c)
  goes Begin = begin-goes s.core.running refl
  goes (Octet n o) = octet-goes n o (mine number n s.core.running) refl
  goes (End n v) = end_goes n v (mine number n s.core.running) refl
  goes (ReadAt p) = read_goes p
  goes (WriteAt p o) = write_goes p o

-- of any station and account that fit
same-account : (N number : ℕ) (s : Station) (b : Account) → Held N number s b → account_of s b.current b.past ≡ b
same-account _ _ s b h =
    ap (λ r. record { registers = r; alias = s.core.alias; running = s.core.running; current = b.current; past = b.past }) h.registers
    ∙ (ap (λ l. record { registers = b.registers; alias = l; running = s.core.running; current = b.current; past = b.past }) h.alias
    ∙ ap (λ f. record { registers = b.registers; alias = b.alias; running = f; current = b.current; past = b.past }) h.running)

pub call-goes : (N number : ℕ) (s : Station) (b : Account) → Held N number s b → (c : Call) → Goes N number b c (step s c)
call-goes N number s b h c =
    subst (λ k. Goes N k b c (step s c)) h.same_number
    (subst (λ (d : Account). Goes N s.core.number d c (step s c)) (same-account N number s b h)
    (goes N h.small s b.current b.past h.size h.channels h.past c))
