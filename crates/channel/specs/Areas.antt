-- Channels and their areas in service, and the judging of an enabling. Assumes nothing.
use Rattle.std.specs.Prelude.{ℕ, ◌+◌, ◌-◌, Bool, false, cond, not, ◌&&◌, List, Some, None, Ok, Err, Option, Result, nat_le, nat_lt}
use Rattle.std.specs.List.{list_any}
use Rattle.channel.specs.declared.setting.Setting.{Setting}
use Rattle.channel.specs.declared.setting.Window.{Window}
use Rattle.channel.specs.declared.setting.Denial.{Denial}
use Rattle.channel.specs.declared.setting.Denial.TheVariants.{Control, Length, Memory, Overlap}
use Rattle.channel.specs.declared.service.Service.{Service}
use Rattle.channel.specs.declared.record.Channel.{Channel}
use Rattle.channel.specs.Settings.{window_of}
use Rattle.channel.specs.Windows.{area_size, in_memory}
use Rattle.channel.specs.Services.{status_of}

-- The area of a window, from its first address to its last. A channel out of service has none: it ends before it begins.
abbrev pub first_of : Window → ℕ
first_of w = w.start

abbrev pub last_of : Window → ℕ
last_of w = w.start + area_size w - 1

abbrev pub low_in : Option Service → ℕ
low_in None = 1
low_in (Some s) = first_of s.window

abbrev pub high_in : Option Service → ℕ
high_in None = 0
high_in (Some s) = last_of s.window

abbrev pub low : Channel → ℕ
low c = low_in c.service

abbrev pub high : Channel → ℕ
high c = high_in c.service

abbrev pub status_in : Option Service → ℕ
status_in None = 0
status_in (Some s) = status_of s

-- ENABLINGS. Two areas have an address in common:
abbrev pub touches : Window → Window → Bool
touches w v = nat_le (first_of w) (last_of v) && nat_le (first_of v) (last_of w)

abbrev pub touches_in : Window → Option Service → Bool
touches_in w None = false
touches_in w (Some s) = touches w s.window

abbrev pub touches_any : Window → List Channel → Bool
touches_any w cs = list_any (λ c. touches_in w c.service) cs

-- The questions before an enabling, of a memory of so many octets and the channels beside: the first no decides.
abbrev pub judged_window : (size : ℕ) → List Channel → Window → Result Window Denial
judged_window size cs w =
    cond (nat_lt w.length 2) (Err Length)
    (cond (not (in_memory size w)) (Err Memory)
    (cond (touches_any w cs) (Err Overlap) (Ok w)))

abbrev pub judged_if : (size : ℕ) → List Channel → Option Window → Result Window Denial
judged_if size cs None = Err Control
judged_if size cs (Some w) = judged_window size cs w

abbrev pub judged : (size : ℕ) → List Channel → Setting → Result Window Denial
judged size cs s = judged_if size cs (window_of s)
