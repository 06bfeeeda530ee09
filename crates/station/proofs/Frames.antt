-- Which frame runs after each call. Assumes nothing.
use Rattle.std.proofs.Common.{◌≡◌, ℕ, Bool, true, false, cond, eqb, List, [], ◌∷◌, Some, None, Ok, Err, Option, Result, sym, refl, ap, ◌∙◌}
use Rattle.std.proofs.lemmas.Bool.{eq-eqb, cond-true}
use Rattle.std.specs.Option.{option_map}
use Rattle.memory.specs.Octets.{read_of, write_of}
use Rattle.memory.specs.declared.fault.MemoryFault.{MemoryFault}
use Rattle.access.specs.declared.Side.TheVariants.{Local}
use Rattle.access.specs.declared.Direction.TheVariants.{Read, Write}
use Rattle.bits.specs.declared.share.Share.{Share}
use Rattle.channel.specs.declared.service.Service.{Service}
use Rattle.channel.specs.Services.{store_place, fetch_place}
use Rattle.frame.specs.Frames.{kept}
use Rattle.frame.specs.declared.progress.Reason.{Reason}
use Rattle.frame.specs.declared.progress.Verdict.{Verdict}
use Rattle.rules.specs.declared.fault.Fault.{Fault}
use Rattle.rules.specs.declared.data.Access.{Access}
use Rattle.rules.specs.declared.data.Target.{Target}
use Rattle.rules.specs.declared.data.Target.TheVariants.{Register, Free, Window}
use Rattle.rules.specs.declared.data.Running.{Running}
use Rattle.rules.specs.declared.data.Call.TheVariants.{Octet, End, Read as ReadCall, Write as WriteCall}
use Rattle.rules.specs.Octets.{plain, accesses_of, mine}
use Rattle.rules.specs.Steps.{Station, Reads, Writes, service_at, asked_of, fetch_in, store_in, fetch_free, store_free, fetch_window, store_window, fetched, stored_by, reads, writes, read_one, read_all, write_one, write_all, reads_from, writes_from, octet_step, end_of, end_step, read_step, write_step, step, no_such_frame}
use Rattle.station.specs.declared.token.Frame.{Frame}
use Rattle.station.specs.declared.token.EndRefusal.{EndRefusal}
use Rattle.station.specs.declared.token.EndRefusal.TheVariants.{NotThisFrame, Dropped}
use Rattle.station.specs.Replies.{ended_as, frame_in, SameFrame, Same, HandedBack}

-- the frame that runs at a station
abbrev runs_at : Station → Option ℕ
runs_at s = frame_in s.core

-- AN ACCESS leaves it.
free-read : (s : Station) (r : Result ℕ MemoryFault) → runs_at (fetch_free s r).after ≡ runs_at s
free-read s (Ok v) = refl
free-read s (Err e) = refl

free-written : (s : Station) (h : Share) (p o : ℕ) (r : Result ℕ MemoryFault) → runs_at (store_free s h p o r).after ≡ runs_at s
free-written s h p o (Ok v) = refl
free-written s h p o (Err e) = refl

buffer-read : (s : Station) (n : ℕ) (c : Service) (k : ℕ) (r : Result ℕ MemoryFault) → runs_at (fetch_in s n c k r).after ≡ runs_at s
buffer-read s n c k (Ok v) = refl
buffer-read s n c k (Err e) = refl

buffer-written : (s : Station) (n : ℕ) (c : Service) (k o : ℕ) (r : Result (Unit {0}) MemoryFault) → runs_at (store_in s n c k o r).after ≡ runs_at s
buffer-written s n c k o (Ok u) = refl
buffer-written s n c k o (Err e) = refl

window-read : (s : Station) (n k p : ℕ) (c : Option Service) → runs_at (fetch_window s n k p c).after ≡ runs_at s
window-read s n k p None = free-read s (read_of s.octets p)
window-read s n k p (Some c) = buffer-read s n c k (read_of s.octets (fetch_place c k))

window-written : (s : Station) (h : Share) (n k p o : ℕ) (c : Option Service) → runs_at (store_window s h n k p o c).after ≡ runs_at s
window-written s h n k p o None = free-written s h p o (read_of s.octets p)
window-written s h n k p o (Some c) = buffer-written s n c k o (write_of s.octets (store_place c k))

target-read : (s : Station) (x : Access) (r : Result Target Fault) → runs_at (fetched s x r).after ≡ runs_at s
target-read s x (Err f) = refl
target-read s x (Ok (Register p)) = refl
target-read s x (Ok (Free p)) = free-read s (read_of s.octets p)
target-read s x (Ok (Window n k)) = window-read s n k _ (service_at s.core.channels n)

target-written : (s : Station) (x : Access) (o : ℕ) (r : Result Target Fault) → runs_at (stored_by s x o r).after ≡ runs_at s
target-written s x o (Err f) = refl
target-written s x o (Ok (Register p)) = refl
target-written s x o (Ok (Free p)) = free-written s x.share p o (read_of s.octets p)
target-written s x o (Ok (Window n k)) = window-written s x.share n k _ o (service_at s.core.channels n)

-- A LOCAL CALL leaves it.
local-read : (t : Station) (r : Result ℕ Fault) → runs_at (read_step t r).0 ≡ runs_at t
local-read t (Ok v) = refl
local-read t (Err f) = refl

local-written : (t : Station) (a o : ℕ) (r : Result (Unit {0}) Fault) → runs_at (write_step t a o r).0 ≡ runs_at t
local-written t a o (Ok u) = refl
local-written t a o (Err f) = refl

pub read_same : (s next : Station) (a : ℕ) → next ≡ (step s (ReadCall a)).0 → SameFrame s next
read_same s next a goes =
    let x : Access = plain Local Read a in
    record { runs = ap runs_at goes ∙ local-read (reads s x).after (reads s x).says ∙ target-read s x (asked_of s x) }

pub write_same : (s next : Station) (a o : ℕ) → next ≡ (step s (WriteCall a o)).0 → SameFrame s next
write_same s next a o goes =
    let x : Access = plain Local Write a in
    record { runs = ap runs_at goes ∙ local-written (writes s x o).after a o (writes s x o).says ∙ target-written s x o (asked_of s x) }

-- ALL ACCESSES of an octet leave it.
one-read : (x : Access) (t : Reads) (s : Station) (r : Result ℕ Fault) → (read_one x t s r).after ≡ s
one-read x t s (Ok v) = refl
one-read x t s (Err f) = refl

all_read : (t : Reads) (xs : List Access) → runs_at (read_all t xs).after ≡ runs_at t.after
all_read t [] = refl
all_read t (x ∷ xs) =
    all_read (read_one x t (reads t.after x).after (reads t.after x).says) xs
    ∙ (ap runs_at (one-read x t (reads t.after x).after (reads t.after x).says) ∙ target-read t.after x (asked_of t.after x))

one_written : (t : Writes) (s : Station) (r : Result (Unit {0}) Fault) → (write_one t s r).after ≡ s
one_written t s (Ok v) = refl
one_written t s (Err f) = refl

all-written : (t : Writes) (o : ℕ) (xs : List Access) → runs_at (write_all t o xs).after ≡ runs_at t.after
all-written t o [] = refl
all-written t o (x ∷ xs) =
    all-written (write_one t (writes t.after x o).after (writes t.after x o).says) o xs
    ∙ (ap runs_at (one_written t (writes t.after x o).after (writes t.after x o).says) ∙ target-written t.after x o (asked_of t.after x))

-- AN OCTET leaves it.
number_of : (number n : ℕ) (r : Option Running) → option_map (λ (f : Running). number) r ≡ Some n → number ≡ n
number_of number n None e = cc
number_of number n (Some f) e = cc

octet-after : (s : Station) (o : ℕ) (number n : ℕ) (r : Option Running) → s.core.number ≡ number → s.core.running ≡ r → runs_at (octet_step s o (mine number n r)).0 ≡ runs_at s
octet-after s o number n None e g = refl
octet-after s o number n (Some f) e g = go (eqb number n)
  where
    before : runs_at s ≡ Some s.core.number
    before = ap (option_map (λ (f : Running). s.core.number)) g

    rd : Reads
    rd = reads_from s o (accesses_of s.core.registers f Read)

    wr : Writes
    wr = writes_from rd.after o (accesses_of s.core.registers f Write)

    through : runs_at wr.after ≡ runs_at s
    through = all-written (record { after = rd.after; outcome = _ }) o (accesses_of s.core.registers f Write) ∙ all_read (record { after = s; gathered = 0; shown = o; outcome = _ }) (accesses_of s.core.registers f Read)

    go : (t : Bool) → runs_at (octet_step s o (cond t (Some f) None)).0 ≡ runs_at s
    go true = ap Some (number_of wr.after.core.number s.core.number wr.after.core.running (through ∙ before)) ∙ sym before
    go false = refl

pub octet_same : (s next : Station) (n o : ℕ) → next ≡ (step s (Octet n o)).0 → SameFrame s next
octet_same s next n o goes = record { runs = ap runs_at goes ∙ octet-after s o s.core.number n s.core.running refl refl }

-- AN END that hands a frame back is not that of the frame that runs.
not-refused : (s : Station) (f : Running) (r : Result (Unit {0}) Reason) → no_such_frame ≡ (end_of s f r).1 → ⊥
not-refused s f (Ok u) e = cc
not-refused s f (Err w) e = cc

stray : (s : Station) (v : Verdict) (number n : ℕ) (r : Option Running) → no_such_frame ≡ (end_step s v (mine number n r)).1 → option_map (λ (f : Running). number) r ≡ Some n → ⊥
stray s v number n None e i = cc
stray s v number n (Some f) e i =
    not-refused s f (kept f.progress v)
    (e ∙ ap (λ (o : Option Running). (end_step s v o).1) (cond-true (eqb number n) (Some f) None (eq-eqb number n (number_of number n (Some f) i))))

pub handed_back : (s : Station) (f : Frame) (v : Verdict) (r : Result (Option Fault) EndRefusal) → ended_as r ≡ (step s (End f.number v)).1 → Same f r → HandedBack s.core f r
handed_back s f v (Ok e) h g = tt
handed_back s f v (Err (NotThisFrame b)) h g = (g, λ i. stray s v s.core.number f.number s.core.running h i)
handed_back s f v (Err (Dropped e)) h g = tt
