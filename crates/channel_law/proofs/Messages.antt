-- Messages: the octet last stored at an offset, and a list of writings to which one more comes. Assumes nothing.
use Rattle.std.proofs.Common.{◌≡◌, ℕ, ◌-◌, ◌<◌, ◌≤◌, false, eqb, List, [], ◌∷◌, ◌++◌, length, get_or, Some, sym, refl, subst, arith}
use Rattle.std.proofs.lemmas.List.{get_or_append_left, get_or_push, length_push}
use Rattle.std.proofs.lemmas.Bool.{cond-true, cond-false, eq-eqb, ne_eqb}
use Rattle.channel_law.specs.Story.{Accesses, Reading, taken_in, none, before_this}
use Rattle.channel_law.specs.Law.{last, Shows, ShowsLatest, AllShow}

pub last-same : (k v : ℕ) (xs : Accesses) → last ((k, v) ∷ xs) k ≡ Some v
last-same k v xs = cond-true (eqb k k) _ _ (eq-eqb k k refl)

pub last-other : (k v j : ℕ) (xs : Accesses) → (k ≡ j → ⊥) → last ((k, v) ∷ xs) j ≡ last xs j
last-other k v j xs ne = cond-false (eqb k j) _ _ (ne_eqb k j ne)

pub taken_none : (xs : Accesses) → taken_in xs ≡ 0 → xs ≡ []
taken_none [] e = refl
taken_none (x ∷ xs) e = absurd (omega arith)

pub goes_on : (n now : ℕ) (xs : Accesses) → 0 < taken_in xs → before_this n now xs ≡ n
goes_on n now [] h = absurd (omega arith)
goes_on n now (x ∷ xs) h = refl

abbrev pub nth : List Accesses → ℕ → Accesses
nth ws n = get_or ws (n - 1) []

pub none-push : (ws : List Accesses) (w : Accesses) → none (ws ++ (w ∷ [])) ≡ false
none-push [] w = refl
none-push (x ∷ ws) w = refl

pub latest-push : (ws : List Accesses) (w : Accesses) → nth (ws ++ (w ∷ [])) (length (ws ++ (w ∷ []))) ≡ w
latest-push ws w = let e = length_push ws w in get_or_push ws w [] (length (ws ++ (w ∷ [])) - 1) (omega arith)

pub nth-push : (ws : List Accesses) (w : Accesses) (n : ℕ) → 0 < n → n ≤ length ws → nth (ws ++ (w ∷ [])) n ≡ nth ws n
nth-push ws w n p h = get_or_append_left ws (w ∷ []) [] (n - 1) (omega arith)

-- of a reading in which an octet was fetched
pub latest-some : (ws : List Accesses) (n : ℕ) (xs : Accesses) → 0 < taken_in xs → ShowsLatest ws n xs → (0 < n) × (n ≤ length ws) × Shows (nth ws n) xs
latest-some ws n [] h l = absurd (omega arith)
latest-some ws n (x ∷ xs) h l = l

pub latest-shows : (ws : List Accesses) (n : ℕ) (xs : Accesses) → ShowsLatest ws n xs → Shows (nth ws n) xs
latest-shows ws n [] l = tt
latest-shows ws n (x ∷ xs) l = l.2

-- a further completed writing leaves what is shown
pub latest-more : (ws : List Accesses) (w : Accesses) (n : ℕ) (xs : Accesses) → ShowsLatest ws n xs → ShowsLatest (ws ++ (w ∷ [])) n xs
latest-more ws w n [] l = tt
latest-more ws w n (x ∷ xs) l =
    let e = length_push ws w in
    let p = l.0 in let q = l.1 in
    (p, omega arith, subst (λ (y : Accesses). Shows y (x ∷ xs)) (sym (nth-push ws w n p q)) l.2)

pub all_more : (ws : List Accesses) (w : Accesses) (rs : List Reading) → AllShow ws rs → AllShow (ws ++ (w ∷ [])) rs
all_more ws w [] h = tt
all_more ws w (r ∷ rs) h = (latest-more ws w r.before r.fetched h.0, all_more ws w rs h.1)
