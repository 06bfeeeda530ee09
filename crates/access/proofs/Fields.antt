-- Fields and their octets. Assumes nothing.
use Rattle.std.proofs.Common.{◌≡◌, ℕ, zero, suc, ◌+◌, ◌*◌, ◌/◌, ◌%◌, ◌^◌, ◌<◌, List, [], ◌∷◌, length, get_or, set, sym, refl, ap, ◌∙◌, subst, arith}
use native.Mathlib.Nat.{pow-succ'}
use Rattle.std.proofs.lemmas.List.{length-set, get_or-set_same, get_or-set_other}
use Rattle.access.specs.Fields.{octets_of, field_of, with_octet, ReadsBack, FieldsReadBack}

-- each element is an octet
abbrev pub Octets : List ℕ → Type 0
Octets [] = Unit {0}
Octets (x ∷ xs) = (x < 256) × Octets xs

pub octets-are : (w n : ℕ) → Octets (octets_of w n)
octets-are zero n = tt
octets-are (suc w) n = (omega arith, octets-are w (n / 256))

pub octets-length : (w n : ℕ) → length (octets_of w n) ≡ w
octets-length zero n = refl
octets-length (suc w) n = ap suc (octets-length w (n / 256))

pub octets-set : (xs : List ℕ) (i v : ℕ) → v < 256 → Octets xs → Octets (set xs i v)
octets-set [] i v h o = tt
octets-set (x ∷ xs) zero v h (o, os) = (h, os)
octets-set (x ∷ xs) (suc i) v h (o, os) = (o, octets-set xs i v h os)

-- a field has the octets that it was made of, and fits them
pub octets-field : (xs : List ℕ) → Octets xs → octets_of (length xs) (field_of xs) ≡ xs
octets-field [] o = refl
octets-field (x ∷ xs) (o, os) =
    let low : (x + 256 * field_of xs) % 256 ≡ x = omega arith in
    let rest : (x + 256 * field_of xs) / 256 ≡ field_of xs = omega arith in
    rw (low, rest) (ap (λ ys. x ∷ ys) (octets-field xs os))

pub field_fits : (xs : List ℕ) → Octets xs → field_of xs < 256 ^ length xs
field_fits [] o = omega arith
field_fits (x ∷ xs) (o, os) = omega (arith, pow-succ' 256 (length xs), field_fits xs os)

module _ (w n i v : ℕ) (h : v < 256) where
  abbrev written : List ℕ
  written = set (octets_of w n) i v

  are : Octets written
  are = octets-set (octets_of w n) i v h (octets-are w n)

  long : length written ≡ w
  long = length-set (octets_of w n) i v ∙ octets-length w n

  pub octets-after : octets_of w (with_octet w n i v) ≡ written
  octets-after = subst (λ k. octets_of k (field_of written) ≡ written) long (octets-field written are)

  pub reads-back : ReadsBack w n i v
  reads-back =
      record {
        same = λ within. ap (λ xs. get_or xs i 0) octets-after ∙ get_or-set_same (octets_of w n) i v 0 (subst (λ k. i < k) (sym (octets-length w n)) within);
        other = λ j apart. ap (λ xs. get_or xs j 0) octets-after ∙ get_or-set_other (octets_of w n) i j v 0 apart;
        fits = subst (λ k. field_of written < 256 ^ k) long (field_fits written are);
      }

pub fields-read-back : FieldsReadBack
fields-read-back w n i v h = reads-back w n i v h
