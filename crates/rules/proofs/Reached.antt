-- What an access reaches, by the questions. Assumes nothing.
use Rattle.std.proofs.Common.{◌≡◌, ℕ, ◌-◌, ◌<◌, ◌≤◌, Bool, true, false, cond, not, ◌&&◌, ltb, leb, ◌⊎◌, List, length, get_or, sym, refl, ap, ◌∙◌, subst, inl, inr, ⊎_elim, arith}
use Rattle.std.proofs.lemmas.Bool.{and_parts, leb-true, ltb-true, ltb-false, and_left, and_right, lt-leb, cases_lt, false≢true}
use Rattle.std.proofs.lemmas.List.{get_or_past}
use Rattle.cover.specs.Lowest.{covers, Covers, Lowest}
use Rattle.cover.proofs.Found.{covers-true, lowest-law}
use Rattle.bits.specs.Shares.{splits}
use Rattle.channel.specs.Windows.{offset_in}
use Rattle.channel.specs.Facts as channel
use Rattle.rules.specs.Data.{Option, Some, None, Result, Ok, Err, Fault, Refusal, Access, Target, InRegister, InFree, InWindow, Facts, Register, Unlisted, Fixed, Address, Alias, OfEntity, OfChannel}
use Rattle.rules.specs.Registers.{register_of, listed, may_write}
use Rattle.rules.specs.Questions.{is_write, low_of, high_of, channel_at, in_service, setting_held, asked_register, window_at, asked_channel, asked_area, mappable, asked}

-- a question that is answered yes
pub yes-to : {X Y : Type 0} (b : Bool) (f : Y) (r : Result X Y) (x : X) → cond b (Err f) r ≡ Ok x → (b ≡ false) × (r ≡ Ok x)
yes-to true f r x e = absurd (cc)
yes-to false f r x e = (refl, e)

no_target : (r : Register) (n k : ℕ) → ◌≡◌ {A = Result Target Fault} (Ok (InRegister r)) (Ok (InWindow n k)) → ⊥
no_target r n k e = cc

no-free : (r : Register) (p : ℕ) → ◌≡◌ {A = Result Target Fault} (Ok (InRegister r)) (Ok (InFree p)) → ⊥
no-free r p e = cc

-- below 0x1000 only a register is reached
setting-register : (fs : List (Option Facts)) (p : Register) (a : ℕ) (t : Target) → setting_held fs p a ≡ Ok t → t ≡ InRegister p
setting-register fs Unlisted a t e = cc
setting-register fs (Fixed i) a t e = cc
setting-register fs (Address i) a t e = cc
setting-register fs (Alias i) a t e = cc
setting-register fs (OfEntity n i) a t e = cc
setting-register fs (OfChannel n i) a t e = let z = (yes-to (ltb i 5 && in_service (get_or fs n None)) _ _ t e).1 in cc

either-register : (b : Bool) (p : Register) (r : Result Target Fault) (t : Target) → (r ≡ Ok t → t ≡ InRegister p) → cond b (Ok (InRegister p)) r ≡ Ok t → t ≡ InRegister p
either-register true p r t g e = cc
either-register false p r t g e = g e

pub register-reached : (fs : List (Option Facts)) (x : Access) (p : Register) (t : Target) → asked_register fs x p ≡ Ok t → t ≡ InRegister p
register-reached fs x p t e =
    either-register (not (is_write x.direction)) p _ t
    (λ d. setting-register fs p x.address t (yes-to (not (may_write x.side p)) _ _ t d).1)
    (yes-to (not (listed p)) _ _ t e).1

-- THE SEARCH. The channel found covers the address; if none is found, none covers it.
abbrev pub covered : Option Facts → ℕ → Bool
covered f a = covers low_of high_of a f

pub out-covers-nothing : (a : ℕ) → covered None a ≡ false
out-covers-nothing a =
    ⊎_elim (λ h. and_left (leb 1 a) (leb a 0) (lt-leb 1 a h)) (λ h. and_right (leb 1 a) (leb a 0) (lt-leb a 0 h)) (cases_lt a 1)

pub found-covers : (fs : List (Option Facts)) (a n : ℕ) → channel_at fs a ≡ Some n → covered (get_or fs n None) a ≡ true
found-covers fs a n e =
    let law : Lowest low_of high_of a fs (Some n) = rw e at (lowest-law low_of high_of a fs) in
    let at : Covers low_of high_of a (get_or fs n None) = law.1 None in covers-true low_of high_of a (get_or fs n None) at.0 at.1

not-covered : (a : ℕ) (f : Option Facts) → (Covers low_of high_of a f → ⊥) → covered f a ≡ false
not-covered a f none = go (covered f a) refl
  where
    go : (b : Bool) → covered f a ≡ b → b ≡ false
    go true is = let p = and_parts _ _ is in absurd (none (leb-true _ _ p.0, leb-true _ _ p.1))
    go false is = refl

pub none-covers : (fs : List (Option Facts)) (a : ℕ) → channel_at fs a ≡ None → (n : ℕ) → covered (get_or fs n None) a ≡ false
none-covers fs a e n =
    let law : Lowest low_of high_of a fs None = rw e at (lowest-law low_of high_of a fs) in
    ⊎_elim (λ within. not-covered a (get_or fs n None) (law n None (omega arith) within)) (λ past. rw (get_or_past fs n None past) (out-covers-nothing a)) (cases_lt n (length fs))

-- A WINDOW that is reached: the channel is in service, the octet whole, and its questions are all answered yes.
pub record InWindowOf (fs : List (Option Facts)) (x : Access) (n k : ℕ) : Type 0 where
  pub facts : Facts
  pub known : get_or fs n None ≡ Some facts
  pub whole : splits x.share ≡ false
  pub ok : channel.asked facts x.side x.direction (offset_in facts.window x.address) ≡ Ok k

-- A FREE PLACE that is reached: no channel in service covers its address, and the memory has it.
pub record FreeOf (N : ℕ) (fs : List (Option Facts)) (x : Access) (p : ℕ) : Type 0 where
  pub place : p ≡ x.address - 0x1000
  pub high : 0x1000 ≤ x.address
  pub within : p < N
  pub uncovered : (n : ℕ) → covered (get_or fs n None) x.address ≡ false

window-is : (n m a k : ℕ) (r : Result ℕ Refusal) → window_at m a r ≡ Ok (InWindow n k) → (m ≡ n) × (r ≡ Ok k)
window-is n m a k (Ok j) e = ((cc), (cc))
window-is n m a k (Err f) e = absurd (cc)

window-not-free : (m a p : ℕ) (r : Result ℕ Refusal) → window_at m a r ≡ Ok (InFree p) → ⊥
window-not-free m a p (Ok j) e = cc
window-not-free m a p (Err f) e = cc

channel-window : (fs : List (Option Facts)) (x : Access) (m n k : ℕ) (f : Option Facts) → get_or fs m None ≡ f → asked_channel m f x ≡ Ok (InWindow n k) → InWindowOf fs x n k
channel-window fs x m n k None is e = absurd (cc)
channel-window fs x m n k (Some f) is e =
    let w = yes-to (splits x.share) _ _ _ e in
    let z = window-is n m x.address k _ w.1 in
    record { facts = f; known = subst (λ i. get_or fs i None ≡ Some f) z.0 is; whole = w.0; ok = z.1 }

area-window : (fs : List (Option Facts)) (x : Access) (n k : ℕ) (o : Option ℕ) → asked_area fs x o ≡ Ok (InWindow n k) → InWindowOf fs x n k
area-window fs x n k None e = absurd (cc)
area-window fs x n k (Some m) e = channel-window fs x m n k (get_or fs m None) refl e

-- a test that has come out
pub by_cond : {X : Type 0} (b : Bool) (x y z : X) → cond b x y ≡ z → ((b ≡ true) × (x ≡ z)) ⊎ ((b ≡ false) × (y ≡ z))
by_cond true x y z e = inl (refl, e)
by_cond false x y z e = inr (refl, e)

-- the place is there, or the memory refuses
pub have-place : {X Y : Type 0} (b : Bool) (f : Y) (r : Result X Y) (x : X) → cond b r (Err f) ≡ Ok x → (b ≡ true) × (r ≡ Ok x)
have-place true f r x e = (refl, e)
have-place false f r x e = absurd (cc)

pub window-reached : (N : ℕ) (fs : List (Option Facts)) (x : Access) (n k : ℕ) → asked N fs x ≡ Ok (InWindow n k) → InWindowOf fs x n k
window-reached N fs x n k e =
    ⊎_elim
    (λ r. absurd (let z = register-reached fs x (register_of x.address) _ r.1 in cc))
    (λ r. area-window fs x n k (channel_at fs x.address) (have-place (ltb (x.address - 0x1000) N) _ _ _ r.1).1)
    (by_cond (ltb x.address 0x1000) _ _ _ (yes-to (x.mapped && not (mappable x.address)) _ _ _ e).1)

area-free : (fs : List (Option Facts)) (x : Access) (p : ℕ) (o : Option ℕ) → channel_at fs x.address ≡ o → asked_area fs x o ≡ Ok (InFree p) →
    (p ≡ x.address - 0x1000) × ((n : ℕ) → covered (get_or fs n None) x.address ≡ false)
area-free fs x p None is e = ((cc), none-covers fs x.address is)
area-free fs x p (Some m) is e = go (get_or fs m None) refl e
  where
    go : (f : Option Facts) → get_or fs m None ≡ f → asked_channel m f x ≡ Ok (InFree p) → (p ≡ x.address - 0x1000) × ((n : ℕ) → covered (get_or fs n None) x.address ≡ false)
    go None at e' = absurd (false≢true (sym (out-covers-nothing x.address) ∙ (ap (λ f. covered f x.address) (sym at) ∙ found-covers fs x.address m is)))
    go (Some f) at e' = absurd (window-not-free m x.address p _ (yes-to (splits x.share) _ _ _ e').1)

pub free-reached : (N : ℕ) (fs : List (Option Facts)) (x : Access) (p : ℕ) → asked N fs x ≡ Ok (InFree p) → FreeOf N fs x p
free-reached N fs x p e =
    ⊎_elim
    (λ r. absurd (let z = register-reached fs x (register_of x.address) _ r.1 in cc))
    (λ r.
    let h = have-place (ltb (x.address - 0x1000) N) _ _ _ r.1 in
    let g = area-free fs x p (channel_at fs x.address) refl h.1 in
    let l = ltb-true (x.address - 0x1000) N h.0 in
    let a = ltb-false x.address 0x1000 r.0 in
    let z = g.0 in
    record { place = z; high = a; within = omega arith; uncovered = g.1 })
    (by_cond (ltb x.address 0x1000) _ _ _ (yes-to (x.mapped && not (mappable x.address)) _ _ _ e).1)
