-- What a memory answers inside and outside its list. Assumes nothing.
use Rattle.std.proofs.Common.{◌≡◌, ℕ, ◌<◌, ◌≤◌, ltb, List, length, get_or, set, Ok, Err, Result, IsErrAnd, sym, ap, ◌∙◌}
use Rattle.std.proofs.lemmas.Bool.{lt-ltb, le-ltb, cond-true, cond-false}
use Rattle.std.proofs.lemmas.List.{set_past}
use Rattle.memory.specs.declared.fault.MemoryFault.{MemoryFault}
use Rattle.memory.specs.Octets.{outside, read_of, write_of}

-- a refusal that is passed on, as that of a place
passed_on : {X : Type 0} (r : Result X MemoryFault) (f : MemoryFault) (i : ℕ) → IsErrAnd r (λ e. e ≡ f) → f ≡ outside i → r ≡ Err (outside i)
passed_on (Ok x) f i same is = absurd same
passed_on (Err e) f i same is = ap Err (same ∙ is)

module _ (xs : List ℕ) (i : ℕ) where
  pub read-inside : i < length xs → read_of xs i ≡ Ok (get_or xs i 0)
  read-inside h = cond-true (ltb i (length xs)) _ _ (lt-ltb i (length xs) h)

  pub write-inside : i < length xs → write_of xs i ≡ Ok tt
  write-inside h = cond-true (ltb i (length xs)) _ _ (lt-ltb i (length xs) h)

  module _ (past : length xs ≤ i) (f : MemoryFault) where
    pub read_refused : (r : Result ℕ MemoryFault) → IsErrAnd r (λ e. e ≡ f) → f ≡ outside i → r ≡ read_of xs i
    read_refused r same is = passed_on r f i same is ∙ sym (cond-false (ltb i (length xs)) _ _ (le-ltb i (length xs) past))

    pub write_refused : (r : Result (Unit {0}) MemoryFault) → IsErrAnd r (λ e. e ≡ f) → f ≡ outside i → r ≡ write_of xs i
    write_refused r same is = passed_on r f i same is ∙ sym (cond-false (ltb i (length xs)) _ _ (le-ltb i (length xs) past))

  pub refused_set : length xs ≤ i → (x : ℕ) → xs ≡ set xs i x
  refused_set past x = sym (set_past xs i x past)
