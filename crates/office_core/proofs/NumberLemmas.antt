-- Changes with their numbers, from a number on.
use Rattle.std.proofs.Common.{◌≡◌, ℕ, ◌+◌, List, [], ◌∷◌, ◌++◌, true, false, if◌then◌else◌, nat_le, refl, ap, ◌∙◌, append_assoc, add-one}
use Rattle.std.specs.List.{filter}
use Rattle.zone_core.specs.Changes.{ChangeOf}
use Rattle.office_model.specs.Replies.{NumberedOf}
use Rattle.office_core.specs.Machine.{numbered}

-- those whose number is not below a least one
abbrev pub from_on : ℕ → List NumberedOf → List NumberedOf
from_on from ns = filter (λ c. nat_le from c.number) ns

-- the next change, and then those after it
pub next_numbered : (from n : ℕ) (x : ChangeOf) (xs : List ChangeOf) (before : List NumberedOf) → (before ++ from_on from (numbered n (x ∷ []))) ++ from_on from (numbered (n + 1) xs) ≡ before ++ from_on from (numbered n (x ∷ xs))
next_numbered from n x xs before =
    let y : NumberedOf = record { number = n; removed = x.removed; added = x.added } in
    let rest : List NumberedOf = from_on from (numbered (n + 1) xs) in
    let first : from_on from (numbered n (x ∷ [])) ++ rest ≡ (if nat_le from n then y ∷ rest else rest) =
    elim (nat_le from n) as (λ b. (if b then y ∷ [] else []) ++ rest ≡ (if b then y ∷ rest else rest)) [ true ↦ refl | false ↦ refl ] in
    append_assoc before (from_on from (numbered n (x ∷ []))) rest
    ∙ ap (λ (l : List NumberedOf). before ++ l) (first ∙ ap (λ (m : ℕ). let after : List NumberedOf = from_on from (numbered m xs) in if nat_le from n then y ∷ after else after) (add-one n))
