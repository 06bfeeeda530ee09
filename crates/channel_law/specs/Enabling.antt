-- The law of an accepted enabling. Assumes nothing.
use Rattle.std.specs.Prelude.{◌≡◌, ℕ, ◌≤◌, List, [], ◌∷◌, Some, None, Ok, Option}
use Rattle.channel.specs.declared.setting.Setting.{Setting}
use Rattle.channel.specs.declared.setting.Window.{Window}
use Rattle.channel.specs.declared.service.Service.{Service}
use Rattle.channel.specs.declared.record.Channel.{Channel}
use Rattle.channel.specs.Areas.{first_of, last_of, judged}
use Rattle.channel_law.specs.Law.{Fits}

-- no address lies in both areas
abbrev pub Disjoint : Window → Window → Type 0
Disjoint w v = (a : ℕ) → first_of w ≤ a → a ≤ last_of w → first_of v ≤ a → a ≤ last_of v → ⊥

abbrev pub DisjointIn : Window → Option Service → Type 0
DisjointIn w None = Unit {0}
DisjointIn w (Some s) = Disjoint w s.window

abbrev pub DisjointAll : Window → List Channel → Type 0
DisjointAll w [] = Unit {0}
DisjointAll w (c ∷ cs) = DisjointIn w c.service × DisjointAll w cs

-- THE LAW: an accepted window fits the memory, and has no address in common with an area in service.
abbrev pub EnablingsFit : Type 0
EnablingsFit = (size : ℕ) (cs : List Channel) (s : Setting) (w : Window) → judged size cs s ≡ Ok w → Fits size w × DisjointAll w cs
