-- One channel beside others: accepted enablings, and areas that do not touch. Assumes nothing.
use Rattle.std.proofs.Common.{◌≡◌, ℕ, ◌+◌, ◌-◌, ◌≤◌, true, false, not, ltb, leb, List, [], ◌∷◌, Some, None, Ok, Option, subst, ⊎_elim, arith}
use Rattle.std.proofs.lemmas.Bool.{leb-true, leb-false, ltb-true, ltb-false, le-leb, lt-ltb, and_parts, and_from, and_cases, or_parts, not-false, cases_Bool}
use Rattle.channel.specs.declared.setting.Kind.{Kind}
use Rattle.channel.specs.declared.setting.Kind.TheVariants.{Buffered, Mailbox}
use Rattle.channel.specs.declared.setting.Window.{Window}
use Rattle.channel.specs.declared.setting.Denial.TheVariants.{Length, Memory, Overlap}
use Rattle.channel.specs.declared.service.Service.{Service}
use Rattle.channel.specs.declared.record.Channel.{Channel}
use Rattle.channel.specs.Settings.{window_of}
use Rattle.channel.specs.Windows.{size_of, area_size, in_memory}
use Rattle.channel.specs.Areas.{first_of, last_of, touches, touches_in, touches_any, judged_window, judged_if}
use Rattle.channel_law.specs.Runs.{in_area}
use Rattle.channel_law.specs.Law.{Fits}
use Rattle.channel_law.proofs.Asked.{passes}
use Rattle.channel_law.specs.Enabling.{Disjoint, DisjointIn, DisjointAll, EnablingsFit}

-- AN ACCEPTED ENABLING
pub apart-disjoint : (w v : Window) → touches w v ≡ false → Disjoint w v
apart-disjoint w v e a p q r s =
    ⊎_elim (λ x. let y = leb-false (first_of w) (last_of v) x in omega arith) (λ x. let y = leb-false (first_of v) (last_of w) x in omega arith)
    (and_cases (leb (first_of w) (last_of v)) (leb (first_of v) (last_of w)) e)

in-disjoint : (w : Window) (o : Option Service) → touches_in w o ≡ false → DisjointIn w o
in-disjoint w None e = tt
in-disjoint w (Some s) e = apart-disjoint w s.window e

all-disjoint : (w : Window) (cs : List Channel) → touches_any w cs ≡ false → DisjointAll w cs
all-disjoint w [] e = tt
all-disjoint w (c ∷ cs) e = let p = or_parts (touches_in w c.service) (touches_any w cs) e in (in-disjoint w c.service p.0, all-disjoint w cs p.1)

judged-fits : (size : ℕ) (cs : List Channel) (v w : Window) → judged_window size cs v ≡ Ok w → Fits size w × DisjointAll w cs
judged-fits size cs v w e =
    let a = passes Length (ltb v.length 2) _ w e in
    let b = passes Memory (not (in_memory size v)) _ w a.1 in
    let c = passes Overlap (touches_any v cs) _ w b.1 in
    let is : v ≡ w = (let z = c.1 in cc) in
    subst (λ (u : Window). Fits size u × DisjointAll u cs) is
    (record { long = ltb-false v.length 2 a.0; room = not-false _ b.0 }, all-disjoint v cs c.0)

judged-if : (size : ℕ) (cs : List Channel) (o : Option Window) (w : Window) → judged_if size cs o ≡ Ok w → Fits size w × DisjointAll w cs
judged-if size cs None w e = absurd cc
judged-if size cs (Some v) w e = judged-fits size cs v w e

pub enablings-fit : EnablingsFit
enablings-fit size cs s w e = judged-if size cs (window_of s) w e

-- A PLACE of an area, and its address. An address of an area in the memory has its place there.
size-some : (q : Kind) (L : ℕ) → 2 ≤ L → 2 ≤ size_of q L
size-some Mailbox L h = h
size-some Buffered L h = omega arith

pub address-inside : (n : ℕ) (w : Window) → Fits n w → (a : ℕ) → first_of w ≤ a → a ≤ last_of w → (in_area w (a - 0x1000) ≡ true) × (0x1000 ≤ a)
address-inside n w f a lo hi =
    let x = size-some w.kind w.length f.long in
    let y = leb-true 0x1000 w.start (and_parts (leb 0x1000 w.start) _ f.room).0 in
    (and_from _ _ (le-leb (w.start - 0x1000) (a - 0x1000) (omega arith)) (lt-ltb (a - 0x1000) (w.start - 0x1000 + area_size w) (omega arith)), omega arith)

-- two areas that do not touch have no place in common
pub disjoint-places : (n : ℕ) (w v : Window) → Fits n w → Fits n v → Disjoint w v → (p : ℕ) → in_area w p ≡ true → in_area v p ≡ false
disjoint-places n w v f g d p e =
    let a = and_parts (leb (w.start - 0x1000) p) _ e in
    let lo = leb-true (w.start - 0x1000) p a.0 in let hi = ltb-true p (w.start - 0x1000 + area_size w) a.1 in
    let y = leb-true 0x1000 w.start (and_parts (leb 0x1000 w.start) _ f.room).0 in
    let z = leb-true 0x1000 v.start (and_parts (leb 0x1000 v.start) _ g.room).0 in
    ⊎_elim
    (λ x.
    let b = and_parts (leb (v.start - 0x1000) p) _ x in
    let l = leb-true (v.start - 0x1000) p b.0 in let h = ltb-true p (v.start - 0x1000 + area_size v) b.1 in
    absurd (d (p + 0x1000) (omega arith) (omega arith) (omega arith) (omega arith)))
    (λ x. x)
    (cases_Bool (in_area v p))
