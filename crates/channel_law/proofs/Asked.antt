-- What an access that no question refuses tells. Assumes nothing.
use Rattle.std.proofs.Common.{◌≡◌, ℕ, ◌<◌, ◌≤◌, Bool, true, false, cond, not, ◌&&◌, eqb, leb, Ok, Err, Result, sym, refl, ◌∙◌}
use Rattle.std.proofs.lemmas.Bool.{leb-true, leb-false, eq-eqb, cond-true, not-false, false≢true}
use Rattle.access.specs.declared.Side.{Side}
use Rattle.access.specs.declared.Side.TheVariants.{Master, Local}
use Rattle.access.specs.declared.Direction.{Direction}
use Rattle.access.specs.declared.Direction.TheVariants.{Read, Write}
use Rattle.channel.specs.declared.setting.Kind.{Kind}
use Rattle.channel.specs.declared.setting.Kind.TheVariants.{Buffered, Mailbox}
use Rattle.channel.specs.declared.facts.Facts.{Facts}
use Rattle.channel.specs.declared.facts.Refusal.TheVariants.{OutsideWindow, WrongSide, AlreadyClosed, OutOfTurn}
use Rattle.channel.specs.Facts.{is_master, same_side, right_way, taken_of, opens, asked}
use Rattle.channel.specs.Services.{other_side}

-- a question that does not refuse answered no
pub passes : {T E : Type 0} (r : E) (b : Bool) (x : Result T E) (v : T) → cond b (Err r) x ≡ Ok v → (b ≡ false) × (x ≡ Ok v)
passes r true x v e = absurd cc
passes r false x v e = (refl, e)

pub record Allowed (f : Facts) (side : Side) (d : Direction) (k j : ℕ) : Type 0 where
  pub in_window : k < f.window.length
  pub right_side : right_way f.window side d ≡ true
  pub not-closed : (is_master side && f.closed) ≡ false
  pub not-ahead : k ≤ taken_of f d
  pub may-open : taken_of f d ≡ 0 → opens f.window.kind d f.message k ≡ Ok j

pub allowed : (f : Facts) (side : Side) (d : Direction) (k j : ℕ) → asked f side d k ≡ Ok j → Allowed f side d k j
allowed f side d k j e =
    let a = passes OutsideWindow (leb f.window.length k) _ j e in
    let b = passes WrongSide (not (right_way f.window side d)) _ j a.1 in
    let c = passes AlreadyClosed (is_master side && f.closed) _ j b.1 in
    let g = passes OutOfTurn (not (leb k (taken_of f d))) _ j c.1 in
    record {
      in_window = leb-false _ _ a.0;
      right_side = not-false _ b.0;
      not-closed = c.0;
      not-ahead = leb-true _ _ (not-false _ g.0);
      may-open = λ z. sym (cond-true (eqb (taken_of f d) 0) _ _ (eq-eqb (taken_of f d) 0 z)) ∙ g.1;
    }

pub opens-write : (q : Kind) (m : Bool) (k j : ℕ) → opens q Write m k ≡ Ok j → q ≡ Mailbox → m ≡ false
opens-write Mailbox true k j e z = cc
opens-write Mailbox false k j e z = refl
opens-write Buffered m k j e z = cc

pub opens-read : (q : Kind) (m : Bool) (k j : ℕ) → opens q Read m k ≡ Ok j → m ≡ true
opens-read Mailbox true k j e = refl
opens-read Mailbox false k j e = cc
opens-read Buffered true k j e = refl
opens-read Buffered false k j e = cc

-- the answer is the offset itself
opens-offset : (q : Kind) (d : Direction) (m : Bool) (k j : ℕ) → opens q d m k ≡ Ok j → j ≡ k
opens-offset Mailbox Write true k j e = cc
opens-offset Mailbox Write false k j e = cc
opens-offset Mailbox Read true k j e = cc
opens-offset Mailbox Read false k j e = cc
opens-offset Buffered Write m k j e = cc
opens-offset Buffered Read true k j e = cc
opens-offset Buffered Read false k j e = cc

either : (b : Bool) (q : Kind) (d : Direction) (m : Bool) (k j : ℕ) → cond b (opens q d m k) (Ok k) ≡ Ok j → j ≡ k
either true q d m k j e = opens-offset q d m k j e
either false q d m k j e = cc

pub asked-offset : (f : Facts) (side : Side) (d : Direction) (k j : ℕ) → asked f side d k ≡ Ok j → j ≡ k
asked-offset f side d k j e =
    let a = passes OutsideWindow (leb f.window.length k) _ j e in
    let b = passes WrongSide (not (right_way f.window side d)) _ j a.1 in
    let c = passes AlreadyClosed (is_master side && f.closed) _ j b.1 in
    let g = passes OutOfTurn (not (leb k (taken_of f d))) _ j c.1 in
    either (eqb (taken_of f d) 0) f.window.kind d f.message k j g.1

-- the side that stores writes, the other one reads
pub side-writes : (a b : Side) → same_side a b ≡ true → a ≡ b
side-writes Master Master e = refl
side-writes Master Local e = absurd (false≢true e)
side-writes Local Master e = absurd (false≢true e)
side-writes Local Local e = refl

pub side-reads : (a b : Side) → not (same_side a b) ≡ true → a ≡ other_side b
side-reads Master Master e = absurd (false≢true e)
side-reads Master Local e = refl
side-reads Local Master e = refl
side-reads Local Local e = absurd (false≢true e)
