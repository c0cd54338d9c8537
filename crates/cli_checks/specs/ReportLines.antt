-- What lines of reports on a policy have: rules, rights and callers. And texts that are reported one after the other.
use Rattle.std.specs.Prelude.{◌≡◌, ℕ, List, [], ◌∷◌, ◌++◌, codes, Option, Some, None, slice_get}
use Rattle.dns_data.specs.Types.{type_text}
use Rattle.grant_policy.specs.declared.rule.Rule.{Rule}
use Rattle.grant_policy.specs.Words.{action_text}
use Rattle.policy_tools.specs.declared.exposure.Right.{Right}

abbrev pub id_of : Option Rule → List ℕ
id_of None = []
id_of (Some rule) = rule.id

-- a space, and the id of the rule of a place
abbrev pub id_text : List Rule → ℕ → List ℕ
id_text rules place = 32 ∷ id_of (slice_get rules place)

-- a type, an action, and the id of the rule that grants it, with a space before each
abbrev pub right_text : List Rule → Right → List ℕ
right_text rules right = (32 ∷ type_text right.record_type ++ 32 ∷ action_text right.action) ++ id_text rules right.rule

-- another caller, and `*` for any that no rule names
abbrev pub other_text : Option (List ℕ) → List ℕ
other_text None = codes " *"
other_text (Some caller) = 32 ∷ caller

-- what is told of each of a list, one after the other
abbrev pub AreTexts : {X : Type 0} → (X → List ℕ → Type 0) → List X → List ℕ → Type 0
AreTexts {X} IsText [] text = text ≡ []
AreTexts {X} IsText (x ∷ xs) text = (here : List ℕ) × (rest : List ℕ) × (text ≡ here ++ rest) × IsText x here × AreTexts IsText xs rest
