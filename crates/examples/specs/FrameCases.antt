-- Worked frames.
use Rattle.std.specs.Prelude.{◌≡◌, ℕ, true, false, List, [], ◌∷◌, map}
use Rattle.frame.specs.declared.outcome.Outcome.TheVariants.{NotWanted, Done}
use Rattle.frame.specs.declared.outcome.Accessed.{Accessed}
use Rattle.frame.specs.Outcomes.{replaced}
use Rattle.frame.specs.Cursors.{begun}
use Rattle.frame.specs.Wire.{Told, Item, after, leaving}

abbrev pub told : Accessed (Unit {0}) → Told (Unit {0})
told a = record { addresses = record { station = 0x1001; alias = 0 }; accessed = a }

-- an octet of which no access is wanted; a data octet that is read as 0x5a and written
abbrev pub plain : ℕ → Item (Unit {0})
plain o = (o, told (replaced o NotWanted NotWanted))

abbrev pub done : ℕ → Item (Unit {0})
done o = (o, told (replaced o (Done 0x5a) (Done tt)))

-- header, APRW, index, ADP
abbrev pub up_to : (adp₀ adp₁ : ℕ) → List (Item (Unit {0}))
up_to low high = map plain (0 ∷ 0x10 ∷ 3 ∷ 7 ∷ low ∷ high ∷ [])

-- a whole APRW of one data octet, with its counter
abbrev pub whole : (counter₀ counter₁ : ℕ) → List (Item (Unit {0}))
whole low high = plain 0 ∷ plain 0x10 ∷ plain 3 ∷ plain 7 ∷ plain 0 ∷ plain 0 ∷ plain 0 ∷ plain 0x10 ∷ plain 1 ∷ plain 0 ∷ plain 0 ∷ plain 0 ∷ done 0x0f ∷ plain low ∷ plain high ∷ []

-- ADP 0xFFFF forwards 0x0000, not addressed; 0 forwards 1, addressed; the counter 0xFFFF after a fully done APRW is 0x0002
pub record WorkedFrames : Type 0 where
  pub last-leaves : leaving begun (up_to 0xff 0xff) ≡ 0 ∷ 0x10 ∷ 3 ∷ 7 ∷ 0 ∷ 0 ∷ []
  pub last-passed : (after begun (up_to 0xff 0xff)).datagram.addressed ≡ false
  pub first-leaves : leaving begun (up_to 0 0) ≡ 0 ∷ 0x10 ∷ 3 ∷ 7 ∷ 1 ∷ 0 ∷ []
  pub first-addressed : (after begun (up_to 0 0)).datagram.addressed ≡ true
  pub counter-leaves : leaving begun (whole 0xff 0xff) ≡ 0 ∷ 0x10 ∷ 3 ∷ 7 ∷ 1 ∷ 0 ∷ 0 ∷ 0x10 ∷ 1 ∷ 0 ∷ 0 ∷ 0 ∷ 0x5a ∷ 2 ∷ 0 ∷ []
