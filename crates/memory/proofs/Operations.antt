-- Reads after any list of operations. Assumes nothing.
use Rattle.std.proofs.Common.{◌≡◌, ℕ, ◌<◌, ◌≤◌, Bool, true, false, cond, eqb, ltb, List, [], ◌∷◌, length, get_or, drop, set, Ok, Err, refl, ap, ◌∙◌, arith}
use Rattle.std.proofs.lemmas.List.{length-set, get_or-set_same, get_or-set_other, at_drop_all}
use Rattle.std.proofs.lemmas.Bool.{cases_eq, ltb-true}
use Rattle.memory.specs.declared.operation.Operation.{Operation}
use Rattle.memory.specs.declared.operation.Operation.TheVariants.{Read, Write}
use Rattle.memory.specs.Octets.{read_of, outside}
use Rattle.memory.specs.Operations.{performed_all, latest_stored, read_after}

-- a list keeps its length
pub length-performed : (xs : List ℕ) (os : List Operation) → length (performed_all xs os) ≡ length xs
length-performed xs [] = refl
length-performed xs (Read j ∷ os) = length-performed xs os
length-performed xs (Write j v ∷ os) = length-performed (set xs j v) os ∙ length-set xs j v

written : (xs : List ℕ) (j v i : ℕ) → i < length xs → get_or (set xs j v) i 0 ≡ cond (eqb j i) v (get_or xs i 0)
written xs j v i h = grind (arith, get_or-set_same, get_or-set_other, cases_eq j i)

pub last_stored : (xs : List ℕ) (os : List Operation) (i : ℕ) → i < length xs → get_or (performed_all xs os) i 0 ≡ latest_stored (get_or xs i 0) os i
last_stored xs [] i h = refl
last_stored xs (Read j ∷ os) i h = last_stored xs os i h
last_stored xs (Write j v ∷ os) i h =
    let k : i < length (set xs j v) = simp length-set h in
    last_stored (set xs j v) os i k ∙ ap (λ x. latest_stored x os i) (written xs j v i h)

-- the end of a list of operations
pub all_done : (xs : List ℕ) (os : List Operation) (i : ℕ) → length os ≤ i → performed_all xs (drop i os) ≡ xs
all_done xs os i h = at_drop_all (performed_all xs) os i h

-- two choices by one test that agree where it holds
cond-left : {X : Type 0} (b : Bool) (x y z : X) → (b ≡ true → x ≡ y) → cond b x z ≡ cond b y z
cond-left true x y z same = same refl
cond-left false x y z same = refl

-- what a read then answers
pub read-then : (xs : List ℕ) (os : List Operation) (i : ℕ) → read_of (performed_all xs os) i ≡ read_after xs os i
read-then xs os i =
    ap (λ n. cond (ltb i n) (Ok (get_or (performed_all xs os) i 0)) (Err (outside i))) (length-performed xs os)
    ∙ cond-left (ltb i (length xs)) _ _ _ (λ t. ap Ok (last_stored xs os i (ltb-true i (length xs) t)))
