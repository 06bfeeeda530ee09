-- Definitions that moved mean what they meant. Assumes nothing.
use Rattle.std.proofs.Common.{◌+◌, cond, [], ◌∷◌, Some, refl, ap}
use Rattle.cover.specs.Lowest.{covers}
use Rattle.rules.specs.declared.data.Register.TheVariants.{Unlisted, Fixed, Address, Alias, OfEntity, OfChannel}
use Rattle.earlier_promise.specs.Search.{SearchesAgree}
use Rattle.earlier_promise.specs.Shown.{OctetsAgree}

pub searches : (E : Type 0) → SearchesAgree E
searches E low high place n [] = refl
searches E low high place n (e ∷ es) = ap (cond (covers low high place e) (Some n)) (searches E low high place (n + 1) es)

pub octets : OctetsAgree
octets N r alias status Unlisted = refl
octets N r alias status (Fixed i) = refl
octets N r alias status (Address i) = refl
octets N r alias status (Alias i) = refl
octets N r alias status (OfEntity n i) = refl
octets N r alias status (OfChannel n i) = refl
