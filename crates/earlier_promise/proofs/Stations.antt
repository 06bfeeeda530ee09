-- Of the station: today's words give the earlier ones. Assumes nothing.
use Rattle.std.proofs.Common.{◌≡◌, ℕ, Bool, List, [], ◌∷◌, Some, None, Option, is_some, slice_index_or, refl, ap, ◌∙◌}
use Rattle.std.specs.Option.{option_map}
use Rattle.access.specs.declared.Direction.TheVariants.{Read, Write}
use Rattle.channel.specs.declared.facts.Refusal.{Refusal}
use Rattle.channel_law.specs.Story.{Story}
use Rattle.channel_law.specs.Law as law
use Rattle.frame.specs.declared.outcome.Outcome.{Outcome}
use Rattle.frame.specs.declared.outcome.Outcome.TheVariants.{NotWanted, Done, Refused}
use Rattle.rules.specs.declared.fault.Fault.{Fault}
use Rattle.rules.specs.declared.data.Access.{Access}
use Rattle.rules.specs.declared.data.Call.{Call}
use Rattle.rules.specs.declared.data.Answer.{Answer}
use Rattle.rules.specs.Faults.{Notice}
use Rattle.rules.specs.Questions.{channel_at}
use Rattle.rules.specs.Account.{Account, told, accesses, read_outcome, write_outcome, after_reads, note}
use Rattle.rules.specs.Promise.{Every, turned_away}
use Rattle.rules.specs.Promise as today
use Rattle.earlier_promise.specs.Channel as channel
use Rattle.earlier_promise.specs.Station.{WholeIfAny, failed, RefusedIn, RefusedAt, RefusedRightly, EachAnswered, Promise}
use Rattle.earlier_promise.proofs.Channels.{whole, reasons}

pub each : {X : Type 0} → (P Q : X → Type 0) → ((x : X) → P x → Q x) → (xs : List X) → Every P xs → Every Q xs
each P Q f [] h = tt
each P Q f (x ∷ xs) h = (f x h.0, each P Q f xs h.1)

whole-if-any : (t : Option Story) → today.WholeIfAny t → WholeIfAny t
whole-if-any None h = tt
whole-if-any (Some t) h = whole t h

failed-is : {X : Type 0} → (o : Outcome X Fault) → failed o ≡ is_some (today.refusal o)
failed-is NotWanted = refl
failed-is (Done v) = refl
failed-is (Refused f) = refl

some-mapped : (f : Refusal → Notice) (r : Option Refusal) → is_some (option_map f r) ≡ is_some r
some-mapped f None = refl
some-mapped f (Some r) = refl

refused-in : (x : Access) (n : ℕ) (r : Option Notice) (t : Option Story) → today.RefusedIn x n r t → RefusedIn x (is_some r) t
refused-in x n r None h = tt
refused-in x n r (Some t) h = λ buffered whole-octet turn.
    ap is_some (h whole-octet turn) ∙ (some-mapped (turned_away x.address n) (law.reason t x.direction) ∙ reasons t x.direction buffered)

refused-at : (ts : List (Option Story)) (x : Access) (r : Option Notice) (n : Option ℕ) → today.RefusedAt ts x r n → RefusedAt ts x (is_some r) n
refused-at ts x r None h = tt
refused-at ts x r (Some n) h = refused-in x n r (slice_index_or ts n None) h

refused-rightly : (ts : List (Option Story)) (r : Option Notice) (b : Bool) (xs : List Access) → b ≡ is_some r → today.RefusedRightly ts r xs → RefusedRightly ts b xs
refused-rightly ts r b xs e h =
    each (λ x. today.RefusedAt ts x r (channel_at (told ts) x.address)) (λ x. RefusedAt ts x b (channel_at (told ts) x.address))
    (λ x g. subst-at ts x r b e g) xs h
  where
    subst-at : (ts : List (Option Story)) (x : Access) (r : Option Notice) (b : Bool) → b ≡ is_some r → today.RefusedAt ts x r (channel_at (told ts) x.address) → RefusedAt ts x b (channel_at (told ts) x.address)
    subst-at ts x r b e g = rw e (refused-at ts x r (channel_at (told ts) x.address) g)

pub each-answered : (N number : ℕ) (a : Account) (es : List (Call × Answer)) → today.EachAnswered N number a es → EachAnswered N number a es
each-answered N number a [] h = tt
each-answered N number a (e ∷ es) h = (
  record {
    as-asked = h.0.as-asked;
    reads = refused-rightly a.current (today.refusal (read_outcome e.1)) (failed (read_outcome e.1)) (accesses number a e.0 Read) (failed-is (read_outcome e.1)) h.0.reads;
    writes =
        refused-rightly (after_reads N number a e.0 e.1) (today.refusal (write_outcome e.1)) (failed (write_outcome e.1)) (accesses number a e.0 Write) (failed-is (write_outcome e.1)) h.0.writes;
  },
  each-answered N number (note N number a e.0 e.1) es h.1,
)

pub promise : (N number : ℕ) (h : List (Call × Answer)) → today.Promise N number h → Promise N number h
promise N number h p =
    record {
      current = each today.WholeIfAny WholeIfAny whole-if-any _ p.current;
      past = each law.Whole channel.Whole whole _ p.past;
      refusals = each-answered N number _ h p.refusals;
    }
