-- What the words of a script stand for, by their bytes. Assumes nothing.
use Rattle.std.specs.Prelude.{ℕ, ◌+◌, ◌*◌, min, cond, List, [], ◌∷◌, length, drop, Some, None, Option, ◌==◌, nat_eq, nat_lt, codes}
use Rattle.std.specs.List.{starts_with}
use Rattle.std.specs.Char.{digit_value}
use Rattle.scripts.specs.declared.words.Base.{Base}
use Rattle.scripts.specs.declared.words.Base.TheVariants.{Decimal, Hexadecimal}

-- the base of a numeral, as a number
abbrev pub radix_of : Base → ℕ
radix_of Decimal = 10
radix_of Hexadecimal = 16

-- the value of a digit to this base, of either case
abbrev pub digit_of : (radix byte : ℕ) → Option ℕ
digit_of radix b = cond (nat_lt (digit_value b) radix) (Some (digit_value b)) None

-- the largest number of 32 bits; a number with one digit more, cut there
abbrev pub largest : ℕ
largest = 4294967295

abbrev pub with_digit : (radix n d : ℕ) → ℕ
with_digit radix n d = min (min (n * radix) largest + d) largest

abbrev pub onward : Option ℕ → (ℕ → Option ℕ) → Option ℕ
onward None f = None
onward (Some d) f = f d

-- a number so far, and the digits that follow
abbrev pub value_from : (radix n : ℕ) → List ℕ → Option ℕ
value_from radix n [] = Some n
value_from radix n (b ∷ bs) = onward (digit_of radix b) (λ d. value_from radix (with_digit radix n d) bs)

-- at least one digit, and nothing else
abbrev pub numeral_of : (radix : ℕ) → List ℕ → Option ℕ
numeral_of radix bs = cond (length bs == 0) None (value_from radix 0 bs)

-- a number: decimal, or hexadecimal after 0x
abbrev pub number_of : List ℕ → Option ℕ
number_of bs = cond (starts_with nat_eq bs (codes "0x")) (numeral_of 16 (drop 2 bs)) (numeral_of 10 bs)

-- a number, if it is below a limit
abbrev pub below : (limit : ℕ) → Option ℕ → Option ℕ
below n None = None
below n (Some v) = cond (nat_lt v n) (Some v) None

-- an octet: two hexadecimal digits
abbrev pub octet_of : List ℕ → Option ℕ
octet_of bs = cond (length bs == 2) (below 256 (numeral_of 16 bs)) None
