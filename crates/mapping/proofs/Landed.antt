-- A list of accesses, one more at its end.
use Rattle.std.proofs.Common.{◌≡◌, ℕ, ◌+◌, ◌*◌, ◌/◌, List, ◌++◌, ap, ◌∙◌, append_assoc}
use Rattle.mapping.specs.declared.entity.Entity.{Entity}
use Rattle.mapping.specs.declared.mapped.Access.{Access}
use Rattle.mapping.specs.Mapping.{lands, turn_of, access_for, landing_in, landed_from}

-- both accesses of an entity
pub two-more : (e : Entity) (a b f t near far : ℕ) (xs ys zs : List Access) → f ≡ lands e (8 * a) → t ≡ turn_of e → near ≡ landing_in e a b (lands e (8 * a) / 8) → far ≡ landing_in e a b (lands e (8 * a) / 8 + 1) → ys ≡ xs ++ access_for (f / 8) near t → zs ≡ ys ++ access_for (f / 8 + 1) far t → zs ≡ xs ++ landed_from e a b
two-more e a b f t near far xs ys zs f-is t-is near-is far-is ys-is zs-is =
    zs-is ∙ ap (λ z. z ++ access_for (f / 8 + 1) far t) ys-is
    ∙ append_assoc xs (access_for (f / 8) near t) (access_for (f / 8 + 1) far t)
    ∙ (λ k. xs ++ (access_for (f-is k / 8) (near-is k) (t-is k) ++ access_for (f-is k / 8 + 1) (far-is k) (t-is k)))
