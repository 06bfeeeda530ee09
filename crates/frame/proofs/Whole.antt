-- The laws of whole frames.
use Rattle.std.proofs.Common.{◌≡◌, ℕ, zero, suc, ◌+◌, ◌/◌, ◌%◌, ◌≤◌, min, Bool, true, false, cond, ltb, List, [], ◌∷◌, ◌++◌, map, length, take, drop, Err, sym, refl, ap, ◌∙◌, arith, le-ltb, lt-ltb}
use Rattle.std.proofs.lemmas.List.{length-append, length-take, map-append, append_assoc, take-append-le, take-append-drop, take_all}
use Rattle.std.proofs.lemmas.List.Sums.{fold-append}
use Rattle.std.proofs.lemmas.Bool.Decides.{nat_tests}
use Rattle.frame.specs.declared.command.Command.TheVariants.{Other}
use Rattle.frame.specs.declared.datagram.Datagram.{Datagram}
use Rattle.frame.specs.declared.cursor.Position.{Position}
use Rattle.frame.specs.declared.cursor.Position.TheVariants as at
use Rattle.frame.specs.declared.cursor.Cursor.{Cursor}
use Rattle.frame.specs.declared.progress.Progress.{Progress}
use Rattle.frame.specs.declared.progress.Verdict.{Verdict}
use Rattle.frame.specs.declared.progress.Reason.TheVariants.{Unfinished}
use Rattle.frame.specs.Datagrams.{fresh}
use Rattle.frame.specs.Cursors.{to, begun, next_at, leaves_at}
use Rattle.frame.specs.Frames.{begun_frame, ended_by, passes, kept}
use Rattle.frame.specs.Wire.{Item, octets, next, out, after, leaving, fed, forwarded, Telegram, AllFormed, head, foot, wire, passed, chain, framed}
use Rattle.frame.specs.Laws.{PaddingLeaves, PassingLeaves, FrameLeaves, FrameEnds, CutFrameDoesNotEnd, FirstOctetsCount, FirstOctetsLeave, FrameIsKept, PassingIsKept, LongFrameIsDropped, CutFrameIsDropped}
use Rattle.frame.proofs.Steps.{emitted-append}
use Rattle.frame.proofs.Telegrams.{headed, after_items, after-wire, wire-leaves}

-- ONCE ENDED, a frame stays ended, and its octets leave as they came
stays-next : (p : Position) (d : Datagram) (o : ℕ) → ended_by p ≡ true → ended_by (next_at p d o) ≡ true
stays-next p d o e = grind arith

same_out : (p : Position) (d : Datagram) (o laid : ℕ) → ended_by p ≡ true → leaves_at p d o laid ≡ o
same_out p d o laid e = grind arith

-- a position that is not ended yet, if it was not ended later
not_yet : (b c : Bool) → (b ≡ true → c ≡ true) → c ≡ false → b ≡ false
not_yet b c h e = grind arith

-- after the two octets of the header
abbrev opened : Bool → Cursor
opened b = to (cond b at.Command at.Passing) (fresh Other)

module _ {F : Type 0} where
  stays : (c : Cursor) (xs : List (Item F)) → ended_by c.position ≡ true → ended_by (after c xs).position ≡ true
  stays c [] e = e
  stays c (x ∷ xs) e = stays (next c x) xs (stays-next c.position c.datagram x.0 e)

  pub padding-leaves : PaddingLeaves F
  padding-leaves c [] e = refl
  padding-leaves c (x ∷ xs) e =
      λ i. same_out c.position c.datagram x.0 x.1.accessed.laid e i ∷ padding-leaves (next c x) xs (stays-next c.position c.datagram x.0 e) i

  pub passing-leaves : PassingLeaves F
  passing-leaves low high xs e =
      rw e (ap (λ l. low.0 ∷ high.0 ∷ l) (padding-leaves (opened false) xs refl))

  -- A CHAIN of datagrams, whatever their lengths: the last octet but one leaves it unfinished, the last one ends it
  after-chain : (d : Datagram) (t : Telegram F) (ts : List (Telegram F)) → AllFormed (t ∷ ts) → (after (to at.Command d) (chain t ts)).position ≡ at.Padding
  after-chain d t [] f = ap (λ c. c.position) (after-wire d false t f.0)
  after-chain d t (u ∷ us) f =
      ap (λ c. c.position) (fold-append next (to at.Command d) (wire true t) (chain u us))
      ∙ ap (λ c. (after c (chain u us)).position) (after-wire d true t f.0)
      ∙ after-chain (headed true t t.items) u us f.1

  chain-leaves : (d : Datagram) (t : Telegram F) (ts : List (Telegram F)) → AllFormed (t ∷ ts) → leaving (to at.Command d) (chain t ts) ≡ octets (chain (passed t) (map passed ts))
  chain-leaves d t [] f = wire-leaves d false t f.0
  chain-leaves d t (u ∷ us) f =
      emitted-append next out (to at.Command d) (wire true t) (chain u us)
      ∙ ap (λ c. leaving (to at.Command d) (wire true t) ++ leaving c (chain u us)) (after-wire d true t f.0)
      ∙ (λ i. wire-leaves d true t f.0 i ++ chain-leaves (headed true t t.items) u us f.1 i)
      ∙ sym (map-append (λ x. x.0) (wire true (passed t)) (chain (passed u) (map passed us)))

  abbrev low-counter : Telegram F → List (Item F)
  low-counter t = (t.counter % 256, t.beside 10) ∷ []

  abbrev front : Telegram F → List (Telegram F) → List (Item F)
  front t [] = (head false t ++ t.items) ++ low-counter t
  front t (u ∷ us) = wire true t ++ front u us

  abbrev last : Telegram F → List (Telegram F) → List (Item F)
  last t [] = (t.counter / 256, t.beside 11) ∷ []
  last t (u ∷ us) = last u us

  chain-splits : (t : Telegram F) (ts : List (Telegram F)) → chain t ts ≡ front t ts ++ last t ts
  chain-splits t [] =
      sym (append_assoc (head false t) t.items (foot t)) ∙ sym (append_assoc (head false t ++ t.items) (low-counter t) (last t []))
  chain-splits t (u ∷ us) = ap (λ l. wire true t ++ l) (chain-splits u us) ∙ sym (append_assoc (wire true t) (front u us) (last u us))

  last_one : (t : Telegram F) (ts : List (Telegram F)) → length (last t ts) ≡ 1
  last_one t [] = refl
  last_one t (u ∷ us) = last_one u us

  after_front : (d : Datagram) (t : Telegram F) (ts : List (Telegram F)) → AllFormed (t ∷ ts) → ended_by (after (to at.Command d) (front t ts)).position ≡ false
  after_front d t [] f =
      ap (λ c. ended_by c.position) (fold-append next (to at.Command d) (head false t ++ t.items) (low-counter t))
      ∙ ap (λ c. ended_by (after c (low-counter t)).position) (after_items d false t f.0)
  after_front d t (u ∷ us) f =
      ap (λ c. ended_by c.position) (fold-append next (to at.Command d) (wire true t) (front u us))
      ∙ ap (λ c. ended_by (after c (front u us)).position) (after-wire d true t f.0)
      ∙ after_front (headed true t t.items) u us f.1

  -- FRAMES
  pub frame-leaves : FrameLeaves F
  frame-leaves low high t ts padding e f =
      let c = opened true in
      let done : ended_by (after c (chain t ts)).position ≡ true = ap ended_by (after-chain (fresh Other) t ts f) in
      rw e (ap (λ l. low.0 ∷ high.0 ∷ l)
      (emitted-append next out c (chain t ts) padding
      ∙ (λ i. chain-leaves (fresh Other) t ts f i ++ padding-leaves (after c (chain t ts)) padding done i)
      ∙ sym (map-append (λ x. x.0) (chain (passed t) (map passed ts)) padding)))

  pub frame-ends : FrameEnds F
  frame-ends low high t ts padding e f =
      let c = opened true in
      let done : ended_by (after c (chain t ts)).position ≡ true = ap ended_by (after-chain (fresh Other) t ts f) in
      ap (λ b. ended_by (after (opened b) (chain t ts ++ padding)).position) e ∙ rw fold-append (stays (after c (chain t ts)) padding done)

  -- a part of a list that was run through with no end in it
  cut : (c : Cursor) (xs : List (Item F)) (k : ℕ) → ended_by (after c xs).position ≡ false → ended_by (after c (take k xs)).position ≡ false
  cut c xs k e =
      not_yet (ended_by (after c (take k xs)).position) (ended_by (after c xs).position)
      (λ h. rw (← take-append-drop k xs, fold-append) (stays (after c (take k xs)) (drop k xs) h)) e

  pub cut-frame-does-not-end : CutFrameDoesNotEnd F
  cut-frame-does-not-end low high t ts k e f h =
      let first : List (Item F) = low ∷ high ∷ front t ts in
      let split : framed low high t ts ≡ first ++ last t ts = ap (λ l. low ∷ high ∷ l) (chain-splits t ts) in
      let long : length (framed low high t ts) ≡ length first + length (last t ts) = ap length split ∙ length-append first (last t ts) in
      let one = last_one t ts in
      let going : ended_by (after begun first).position ≡ false = ap (λ b. ended_by (after (opened b) (front t ts)).position) e ∙ after_front (fresh Other) t ts f in
      let short : k ≤ length first = omega arith in
      rw (split, take-append-le k first (last t ts) short) (cut begun first k going)

-- THE FIRST 1,500 OCTETS, with room for r more
abbrev running : (count : ℕ) → (overrun : Bool) → Cursor → Progress
running n o c = record { count = n; overrun = o; cursor = c }

module _ {F : Type 0} where
  full : (n : ℕ) (c : Cursor) (xs : List (Item F)) → ltb n 1500 ≡ false → fed (running n true c) xs ≡ running n true c
  full n c [] e = refl
  full n c (x ∷ xs) e = rw e (full n c xs e)

  counted : (r n : ℕ) (c : Cursor) (xs : List (Item F)) → n + r ≡ 1500 →
      fed (running n false c) xs ≡ running (n + min (length xs) r) (ltb r (length xs)) (after c (take r xs))
  counted zero n c [] e = grind (arith, nat_tests)
  counted zero n c (x ∷ xs) e =
      let none : ltb n 1500 ≡ false = le-ltb n 1500 (omega arith) in
      rw none (full n c xs none ∙ grind (arith, nat_tests))
  counted (suc r) n c [] e =
      grind (arith, nat_tests)
  counted (suc r) n c (x ∷ xs) e =
      let some : ltb n 1500 ≡ true = lt-ltb n 1500 (omega arith) in
      rw some (counted r (n + 1) (next c x) xs (omega arith) ∙ grind (arith, nat_tests))

  full-leaves : (n : ℕ) (o : Bool) (c : Cursor) (xs : List (Item F)) → ltb n 1500 ≡ false → forwarded (running n o c) xs ≡ octets xs
  full-leaves n o c [] e = refl
  full-leaves n o c (x ∷ xs) e =
      rw e (ap (λ l. x.0 ∷ l) (full-leaves n true c xs e))

  first-leave : (r n : ℕ) (c : Cursor) (xs : List (Item F)) → n + r ≡ 1500 → forwarded (running n false c) xs ≡ leaving c (take r xs) ++ octets (drop r xs)
  first-leave zero n c xs e = full-leaves n false c xs (le-ltb n 1500 (omega arith))
  first-leave (suc r) n c [] e = refl
  first-leave (suc r) n c (x ∷ xs) e =
      let some : ltb n 1500 ≡ true = lt-ltb n 1500 (omega arith) in
      rw some (ap (λ l. out c x ∷ l) (first-leave r (n + 1) (next c x) xs (omega arith)))

  pub first-octets-count : FirstOctetsCount F
  first-octets-count xs = let same : 0 + min (length xs) 1500 ≡ min (length xs) 1500 = omega arith in counted 1500 0 begun xs refl ∙ ap (λ n. running n (ltb 1500 (length xs)) (after begun (take 1500 xs))) same

  pub first-octets-leave : FirstOctetsLeave F
  first-octets-leave xs = first-leave 1500 0 begun xs refl

  -- AT THE END of a frame of at most 1,500 octets
  judged : (xs : List (Item F)) (v : Verdict) → length xs ≤ 1500 → kept (fed begun_frame xs) v ≡ cond (ended_by (after begun xs).position) (passes v) (Err Unfinished)
  judged xs v h =
      rw (first-octets-count xs, le-ltb 1500 (length xs) h, take_all 1500 xs h)

  pub frame-is-kept : FrameIsKept F
  frame-is-kept low high t ts padding v e f h =
      rw (judged (framed low high t ts ++ padding) v h, frame-ends low high t ts padding e f)

  pub passing-is-kept : PassingIsKept F
  passing-is-kept low high xs v e h =
      let done : ended_by (after begun (low ∷ high ∷ xs)).position ≡ true = ap (λ b. ended_by (after (opened b) xs).position) e ∙ stays (opened false) xs refl in
      rw (judged (low ∷ high ∷ xs) v h, done)

  pub long-frame-is-dropped : LongFrameIsDropped F
  long-frame-is-dropped xs v h =
      rw (first-octets-count xs, lt-ltb 1500 (length xs) h)

  pub cut-frame-is-dropped : CutFrameIsDropped F
  cut-frame-is-dropped low high t ts k v e f h l =
      let short : length (take k (framed low high t ts)) ≤ 1500 = simp length-take (omega arith) in
      rw (judged (take k (framed low high t ts)) v short, cut-frame-does-not-end low high t ts k e f h)
