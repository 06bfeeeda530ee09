-- Lists by their places, with a default past the end. Assumes nothing.
use Rattle.std.proofs.Common.{◌≡◌, ℕ, ◌<◌, ◌≢◌, List, length, get_or, set, ⊎_elim, arith}
use Rattle.std.proofs.lemmas.List.{get_or-set_other, set_past}
use Rattle.std.proofs.lemmas.Grind.{get_or-set_at}
use Rattle.std.proofs.lemmas.Bool.{cases_eq, cases_lt}

-- what holds at each place of two lists still does once both are set at one place that they have
pub pairs-set-in : {X Y : Type 0} (P : X → Y → Type 0) (d : X) (e : Y) (xs : List X) (ys : List Y) (n : ℕ) (x : X) (y : Y) →
    n < length xs → n < length ys → ((i : ℕ) → i ≢ n → P (get_or xs i d) (get_or ys i e)) → P x y → (i : ℕ) → P (get_or (set xs n x) i d) (get_or (set ys n y) i e)
pairs-set-in P d e xs ys n x y in-xs in_ys others here i =
    ⊎_elim
    (λ is. rw (get_or-set_at xs n i x d is in-xs, get_or-set_at ys n i y e is in_ys) here)
    (λ apart. rw (get_or-set_other xs n i x d apart, get_or-set_other ys n i y e apart) (others i apart))
    (cases_eq i n)

-- the same, of two lists of one length, wherever the place is
pub pairs_set : {X Y : Type 0} (P : X → Y → Type 0) (d : X) (e : Y) (xs : List X) (ys : List Y) (n : ℕ) (x : X) (y : Y) →
    length xs ≡ length ys → ((i : ℕ) → P (get_or xs i d) (get_or ys i e)) → P x y → (i : ℕ) → P (get_or (set xs n x) i d) (get_or (set ys n y) i e)
pairs_set P d e xs ys n x y long all here i =
    ⊎_elim
    (λ within. pairs-set-in P d e xs ys n x y within (omega arith) (λ k apart. all k) here i)
    (λ past. rw (set_past xs n x past, set_past ys n y (omega arith)) (all i))
    (cases_lt n (length xs))
