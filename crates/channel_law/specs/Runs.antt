-- Whole runs of one service over a list of octets: what each call does and answers, and what a history tells. Assumes nothing.
use Rattle.std.specs.Prelude.{ℕ, ◌+◌, ◌-◌, Bool, cond, ◌&&◌, List, [], ◌∷◌, Ok, Err, Result, nat_le, nat_lt, slice_index, slice_set}
use Rattle.access.specs.declared.Side.{Side}
use Rattle.access.specs.declared.Direction.TheVariants.{Read, Write}
use Rattle.channel.specs.declared.setting.Window.{Window}
use Rattle.channel.specs.declared.facts.Refusal.{Refusal}
use Rattle.channel.specs.declared.service.Service.{Service}
use Rattle.channel.specs.Facts.{asked}
use Rattle.channel.specs.Windows.{area_size}
use Rattle.channel.specs.Services.{begun, facts_of, after_store, after_fetch, store_place, fetch_place, after_kept, after_dropped}
use Rattle.channel_law.specs.Story.{Story, stored_at, fetched_at, kept_story, dropped_story}

-- A side writes an octet at an offset, or reads at one; the running frame ends kept or dropped, and another is then running; anybody writes an
-- octet at a place of the memory outside the area.
pub data Call : Type 0 where
  write : Side → (offset octet : ℕ) → Call
  read : Side → (offset : ℕ) → Call
  kept : Call
  dropped : Call
  elsewhere : (place octet : ℕ) → Call

pub data Answer : Type 0 where
  done : Answer
  got : ℕ → Answer
  refused : Refusal → Answer

pub record State : Type 0 where
  pub service : Service
  pub octets : List ℕ

abbrev pub first : Window → List ℕ → State
first w m = record { service = begun w; octets = m }

-- the area's places in the memory, whose place 0 has address 0x1000
abbrev pub in_area : Window → ℕ → Bool
in_area w p = nat_le (w.start - 0x1000) p && nat_lt p (w.start - 0x1000 + area_size w)

-- the questions are asked first
abbrev pub after_write : State → (k v : ℕ) → Result ℕ Refusal → State
after_write S k v (Ok j) = record { service = after_store S.service k; octets = slice_set S.octets (store_place S.service k) v }
after_write S k v (Err r) = S

abbrev pub after_read : State → ℕ → Result ℕ Refusal → State
after_read S k (Ok j) = record { service = after_fetch S.service k; octets = S.octets }
after_read S k (Err r) = S

abbrev pub step : State → Call → State
step S (write side k v) = after_write S k v (asked (facts_of S.service) side Write k)
step S (read side k) = after_read S k (asked (facts_of S.service) side Read k)
step S kept = record { service = after_kept S.service; octets = S.octets }
step S dropped = record { service = after_dropped S.service; octets = S.octets }
step S (elsewhere p v) = record { service = S.service; octets = cond (in_area S.service.window p) S.octets (slice_set S.octets p v) }

abbrev pub answer_to : Answer → Result ℕ Refusal → Answer
answer_to y (Ok j) = y
answer_to y (Err r) = refused r

abbrev pub answer : State → Call → Answer
answer S (write side k v) = answer_to done (asked (facts_of S.service) side Write k)
answer S (read side k) = answer_to (got (slice_index S.octets (fetch_place S.service k))) (asked (facts_of S.service) side Read k)
answer S kept = done
answer S dropped = done
answer S (elsewhere p v) = done

abbrev pub run : State → List Call → State
run S [] = S
run S (c ∷ cs) = run (step S c) cs

abbrev pub history : State → List Call → List (Call × Answer)
history S [] = []
history S (c ∷ cs) = (c, answer S c) ∷ history (step S c) cs

-- WHAT A CALL AND ITS ANSWER TELL
abbrev pub told_write : Story → (k v : ℕ) → Answer → Story
told_write t k v done = stored_at k v t
told_write t k v (got o) = t
told_write t k v (refused r) = t

abbrev pub told_read : Story → ℕ → Answer → Story
told_read t k done = t
told_read t k (got o) = fetched_at k o t
told_read t k (refused r) = t

abbrev pub note : Story → Call → Answer → Story
note t (write side k v) y = told_write t k v y
note t (read side k) y = told_read t k y
note t kept y = kept_story t
note t dropped y = dropped_story t
note t (elsewhere p v) y = t

abbrev pub tell : Story → List (Call × Answer) → Story
tell t [] = t
tell t (e ∷ es) = tell (note t e.0 e.1) es
