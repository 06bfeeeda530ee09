-- An enabling asks of the other channels only their windows in service.
use Rattle.std.proofs.Common.{◌≡◌, ℕ, cond, not, ◌||◌, ltb, List, [], ◌∷◌, map, Some, None, Ok, Err, Option, refl}
use Rattle.std.specs.Option.{option_map}
use Rattle.channel.specs.declared.setting.Setting.{Setting}
use Rattle.channel.specs.declared.setting.Window.{Window}
use Rattle.channel.specs.declared.setting.Denial.TheVariants.{Length, Memory, Overlap}
use Rattle.channel.specs.declared.service.Service.{Service}
use Rattle.channel.specs.declared.record.Channel.{Channel}
use Rattle.channel.specs.Settings.{window_of}
use Rattle.channel.specs.Windows.{in_memory}
use Rattle.channel.specs.Areas.{touches_in, touches_any, judged_if, judged}
use Rattle.rules.specs.Enabling.{as_channel}
use Rattle.rules.specs.Steps.{window_in}

abbrev windows_of : List Channel → List Channel
windows_of cs = map (λ (e : Channel). as_channel (window_in e)) cs

touches-one : (w : Window) (o : Option Service) → touches_in w (as_channel (option_map (λ s. s.window) o)).service ≡ touches_in w o
touches-one w None = refl
touches-one w (Some s) = refl

touches-same : (w : Window) (cs : List Channel) → touches_any w (windows_of cs) ≡ touches_any w cs
touches-same w [] = refl
touches-same w (c ∷ cs) = λ k. touches-one w c.service k || touches-same w cs k

judged-if : (N : ℕ) (cs : List Channel) (o : Option Window) → judged_if N (windows_of cs) o ≡ judged_if N cs o
judged-if N cs None = refl
judged-if N cs (Some w) =
    λ k. cond (ltb w.length 2) (Err Length) (cond (not (in_memory N w)) (Err Memory) (cond (touches-same w cs k) (Err Overlap) (Ok w)))

pub judged_same : (N : ℕ) (cs : List Channel) (s : Setting) → judged N (map (λ (e : Channel). as_channel (window_in e)) cs) s ≡ judged N cs s
judged_same N cs s = judged-if N cs (window_of s)
