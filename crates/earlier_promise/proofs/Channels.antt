-- Of one channel: today's words give the earlier ones. Assumes nothing.
use Rattle.std.proofs.Common.{◌≡◌, ℕ, Bool, true, false, cond, not, ◌||◌, List, [], ◌∷◌, Some, None, is_some, refl, ap, ◌∙◌}
use Rattle.access.specs.declared.Side.{Side}
use Rattle.access.specs.declared.Direction.{Direction}
use Rattle.access.specs.declared.Direction.TheVariants.{Read, Write}
use Rattle.channel.specs.declared.setting.Kind.{Kind}
use Rattle.channel.specs.declared.setting.Kind.TheVariants.{Buffered, Mailbox}
use Rattle.channel.specs.declared.facts.Refusal.{Refusal}
use Rattle.channel.specs.declared.facts.Refusal.TheVariants.{AlreadyClosed, MailboxFull}
use Rattle.channel_law.specs.Story.{Story, none, closed_writing, closed_reading, message_told}
use Rattle.channel_law.specs.Runs.{Call, write, read, kept, dropped, elsewhere, Answer, done, got, refused, note}
use Rattle.channel_law.specs.Law.{AllShow, InOrderOf, full, nothing_there}
use Rattle.channel_law.specs.Law as today
use Rattle.earlier_promise.specs.Channel.{WholeOf, Whole, failed, reason, RefusedRightly, InWords, EachAnswered}

whole-of : (k : Kind) (t : Story) → AllShow t.written (t.reading ∷ t.over) → InOrderOf k t → WholeOf k t
whole-of Buffered t shows order = shows
whole-of Mailbox t shows order = order

pub whole : (t : Story) → today.Whole t → Whole t
whole t w = whole-of t.window.kind t w.shows w.order

failed-is : (y : Answer) → failed y ≡ is_some (today.refusal y)
failed-is done = refl
failed-is (got v) = refl
failed-is (refused r) = refl

write-reason : (c : Bool) → is_some (cond c (Some AlreadyClosed) (cond false (Some MailboxFull) None)) ≡ c
write-reason true = refl
write-reason false = refl

read-reason : (c b : Bool) (r : Refusal) → is_some (cond c (Some AlreadyClosed) (cond (not b) None (Some r))) ≡ c || b
read-reason true b r = refl
read-reason false true r = refl
read-reason false false r = refl

pub reasons : (t : Story) (d : Direction) → t.window.kind ≡ Buffered → is_some (today.reason t d) ≡ reason t d
reasons t Write k =
    ap (λ (x : Kind). is_some (cond (closed_writing t.window t) (Some AlreadyClosed) (cond (full x t) (Some MailboxFull) None))) k
    ∙ write-reason (closed_writing t.window t)
reasons t Read k =
    ap (λ (x : Kind). is_some (cond (closed_reading t.window t) (Some AlreadyClosed) (cond (message_told x t) None (Some (nothing_there x))))) k
    ∙ read-reason (closed_reading t.window t) (none t.written) (nothing_there Buffered)

refused-rightly : (t : Story) (side : Side) (d : Direction) (k : ℕ) (y : Answer) → today.RefusedRightly t side d k y → RefusedRightly t side d k y
refused-rightly t side d k y h buffered turn = failed-is y ∙ (ap is_some (h turn) ∙ reasons t d buffered)

in-words : (t : Story) (c : Call) (y : Answer) → today.InWords t c y → InWords t c y
in-words t (write side k v) y h = refused-rightly t side Write k y h
in-words t (read side k) y h = refused-rightly t side Read k y h
in-words t kept y h = tt
in-words t dropped y h = tt
in-words t (elsewhere p v) y h = tt

pub each-answered : (t : Story) (es : List (Call × Answer)) → today.EachAnswered t es → EachAnswered t es
each-answered t [] h = tt
each-answered t (e ∷ es) h =
    (record { as-asked = h.0.as-asked; in_words = in-words t e.0 e.1 h.0.in_words }, each-answered (note t e.0 e.1) es h.1)
