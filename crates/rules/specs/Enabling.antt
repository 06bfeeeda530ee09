-- What a kept end makes of services: those that end, and those that begin. Over any record of the channels. Assumes nothing.
use Rattle.std.specs.Prelude.{ℕ, ◌+◌, Bool, false, cond, not, ◌&&◌, List, [], ◌∷◌, map, slice_index_or, slice_set}
use Rattle.std.specs.Option.{option_or}
use Rattle.channel.specs.Areas.{judged}
use Rattle.channel.specs.Services.{begun}
use Rattle.rules.specs.Data.{Option, Some, None, Result, Ok, Err, Fault, Refuses, OfEnabling, Setting, Window, Channel, Denial}
use Rattle.rules.specs.Questions.{in_service}

-- a channel, by its window in service: all that an enabling asks of the others
abbrev pub as_channel : Option Window → Channel
as_channel None = record { service = None }
as_channel (Some w) = record { service = Some (begun w) }

abbrev pub disabled : Setting → Setting
disabled s = record { start = s.start; length = s.length; control = s.control; enable = false }

-- Of any record E of a channel that tells its window in service, `begin` being one that begins and `out` one out of service.
module _ {E : Type 0} (window : E → Option Window) (begin : Window → E) (out : E) where
  -- the services that last: their enable bit is still set
  abbrev pub lasting : List Setting → List E → List E
  lasting [] es = []
  lasting (s ∷ ss) [] = []
  lasting (s ∷ ss) (e ∷ es) = cond s.enable e out ∷ lasting ss es

  -- the channels, their settings, and the lowest enabling that was refused
  pub record Enabled : Type 0 where
    pub entries : List E
    pub settings : List Setting
    pub denied : Option Fault

  -- a refused one keeps enable 0
  abbrev pub decided : (n : ℕ) → Setting → Result Window Denial → Enabled → Enabled
  decided n s (Ok w) x = record { entries = slice_set x.entries n (begin w); settings = x.settings; denied = x.denied }
  decided n s (Err d) x =
      record { entries = x.entries; settings = slice_set x.settings n (disabled s); denied = option_or x.denied (Some (Refuses (OfEnabling d) 0 (Some n))) }

  abbrev pub asks : (n : ℕ) → Setting → Enabled → Bool
  asks n s x = s.enable && not (in_service (window (slice_index_or x.entries n out)))

  abbrev pub enabled_one : (size n : ℕ) → Setting → Enabled → Enabled
  enabled_one N n s x = cond (asks n s x) (decided n s (judged N (map (λ e. as_channel (window e)) x.entries) s) x) x

  -- from channel n on, one after the other: one accepted counts for those after it
  abbrev pub enabled_from : (size n : ℕ) → List Setting → Enabled → Enabled
  enabled_from N n [] x = x
  enabled_from N n (s ∷ ss) x = enabled_from N (n + 1) ss (enabled_one N n s x)

  abbrev pub enabled : (size : ℕ) → List Setting → List E → Enabled
  enabled N ss es = enabled_from N 0 ss (record { entries = es; settings = ss; denied = None })
