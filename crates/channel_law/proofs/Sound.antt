-- A service stays sound. Assumes nothing.
use Rattle.std.proofs.Common.{◌≡◌, ℕ, ◌+◌, ◌<◌, Bool, true, false, cond, eqb, sym, refl, arith}
use Rattle.std.proofs.lemmas.Bool.{leb-false}
use Rattle.access.specs.declared.Side.{Side}
use Rattle.channel.specs.declared.setting.Window.{Window}
use Rattle.channel.specs.declared.service.Transaction.{Transaction}
use Rattle.channel.specs.declared.service.Transaction.TheVariants.{Idle, Open, Waiting}
use Rattle.channel.specs.declared.service.Roles.{Roles}
use Rattle.channel.specs.declared.service.Shown.{Shown}
use Rattle.channel.specs.declared.service.Shown.TheVariants.{Nothing, Ready, Fetch}
use Rattle.channel.specs.declared.service.Service.{Service}
use Rattle.channel.specs.Services.{taken_by, touched_by, closed_by, closes, accessed, left, roles_opened, writing_done_if, reading_done_if, at_once, other_side, with_store, opened_if, opened, with_fetch, frame_left}
use Rattle.channel_law.specs.Sound.{Apart, Sound, ServicesStaySound}

more : (w : Window) (side : Side) (x : Transaction) (k : ℕ) (c : Bool) → closes w k ≡ c → taken_by x < w.length → taken_by (accessed side x k c) < w.length
more w side x k true e h = omega arith
more w side x k false e h = let g = leb-false w.length (k + 1) e in omega arith

left_below : (L : ℕ) (x : Transaction) → taken_by x < L → taken_by (left x) < L
left_below L Idle h = h
left_below L (Open n f) h = h
left_below L Waiting h = h

cancelled-below : (L : ℕ) (x : Transaction) (b : Bool) → taken_by x < L → taken_by (cond b Idle x) < L
cancelled-below L x true h = omega arith
cancelled-below L x false h = h

writing-done : (b : Bool) (s : Service) → Sound s → Sound (writing_done_if b s)
writing-done false s h = h
writing-done true s h =
    let w = h.writing in
    record {
      roles = record { store-ready = λ e. h.roles.store-ready (sym e); store-fetch = h.roles.ready-fetch; ready-fetch = h.roles.store-fetch };
      writing = omega arith;
      reading = h.reading;
    }

reading-done : (b : Bool) (s : Service) → Sound s → Sound (reading_done_if b s)
reading-done false s h = h
reading-done true s h = let w = h.reading in record { roles = h.roles; writing = h.writing; reading = omega arith }

roles-opened : (x : Shown) (r : Roles) → Apart r → Apart (roles_opened x r)
roles-opened Nothing r h = h
roles-opened Ready r h = record { store-ready = h.store-fetch; store-fetch = h.store-ready; ready-fetch = λ e. h.ready-fetch (sym e) }
roles-opened Fetch r h = h

open-sound : (b : Bool) (s : Service) → Sound s → Sound (opened_if b s)
open-sound false s h = h
open-sound true s h = record { roles = roles-opened s.shown s.roles h.roles; writing = h.writing; reading = h.reading }

fetch-sound : (s : Service) (k : ℕ) → Sound s → Sound (with_fetch s k)
fetch-sound s k h = record { roles = h.roles; writing = h.writing; reading = more s.window (other_side s.window.stores) s.reading k (closes s.window k) refl h.reading }

left-sound : (s : Service) → Sound s → Sound (frame_left s)
left-sound s h = record { roles = h.roles; writing = left_below _ s.writing h.writing; reading = left_below _ s.reading h.reading }

pub services-stay-sound : ServicesStaySound
services-stay-sound = record {
  begins = λ w h. record { roles = record { store-ready = λ e. omega arith; store-fetch = λ e. omega arith; ready-fetch = λ e. omega arith }; writing = h; reading = h };
  stores = λ s k h. writing-done (at_once s.window.stores (closes s.window k)) (with_store s k) (record { roles = h.roles; writing = more s.window s.window.stores s.writing k (closes s.window k) refl h.writing; reading = h.reading });
  fetches = λ s k h. reading-done (at_once (other_side s.window.stores) (closes s.window k)) (with_fetch (opened s) k) (fetch-sound (opened s) k (open-sound (eqb (taken_by s.reading) 0) s h));
  keeps = λ s h. left-sound _ (reading-done (closed_by s.reading) (writing_done_if (closed_by s.writing) s) (writing-done (closed_by s.writing) s h));
  drops = λ s h. record { roles = h.roles; writing = cancelled-below _ s.writing (touched_by s.writing) h.writing; reading = cancelled-below _ s.reading (touched_by s.reading) h.reading };
}
