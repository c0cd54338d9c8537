-- What `check policy --zones` prints: which rules of a policy speak of no name in the zones of a list, of which of the zones no rule speaks,
-- and what a caller may not list in them.
use Rattle.std.specs.Prelude.{◌≡◌, ◌⊎◌, ℕ, List, [], ◌∷◌, ◌++◌, codes, Option, Some, None}
use Rattle.std.specs.List.{flat_map}
use Rattle.dns_names.specs.Spelling.{name_text}
use Rattle.dns_data.specs.Types.{type_text}
use Rattle.grant_policy.specs.declared.rule.Rule.{Rule}
use Rattle.policy_tools.specs.declared.readers.Hidden.{Hidden}
use Rattle.policy_tools.specs.Readers.{MayListAll, IsHidden}
use Rattle.policy_tools.specs.Slices.{Matters, IsSpokenOf, AreKept}
use Rattle.cli_checks.specs.declared.check.Findings.{Findings}
use Rattle.cli_checks.specs.ReportLines.{AreTexts}
use Rattle.cli_checks.specs.ZoneCheck.{told}

-- ---- lines

-- a rule, by its id
abbrev pub stray_line : Rule → List ℕ
stray_line rule = codes "stray " ++ (rule.id ++ 10 ∷ [])

-- a zone, by its origin
abbrev pub unspoken_line : List (List ℕ) → List ℕ
unspoken_line origin = codes "unspoken " ++ (name_text origin ++ 10 ∷ [])

-- a zone, and in it a name and a type
abbrev pub hidden_line : List (List ℕ) → Hidden → List ℕ
hidden_line origin hidden = codes "hidden " ++ (name_text origin ++ 32 ∷ (name_text hidden.name ++ 32 ∷ (type_text hidden.record_type ++ 10 ∷ [])))

-- ---- the report

-- the rules that speak of no name within one of these origins, in order
abbrev pub IsStrayText : List Rule → List (List (List ℕ)) → List ℕ → Type 0
IsStrayText rules origins text =
    (stray : List Rule) × AreKept (λ rule. ¬ Matters origins rule) rules stray × (text ≡ flat_map stray_line stray)

-- the origins within which no rule speaks of a name, in order
abbrev pub IsUnspokenText : List Rule → List (List (List ℕ)) → List ℕ → Type 0
IsUnspokenText rules origins text =
    (unspoken : List (List (List ℕ))) × AreKept (λ origin. ¬ IsSpokenOf rules origin) origins unspoken × (text ≡ flat_map unspoken_line unspoken)

-- a caller may list all of a zone, and nothing is told of it; or it may not list something there, and that is told
abbrev pub IsHiddenText : List Rule → List ℕ → List (List ℕ) → List ℕ → Type 0
IsHiddenText rules reader origin text =
    (MayListAll rules reader origin × (text ≡ []))
    ⊎ ((hidden : Hidden) × IsHidden rules reader origin hidden × (text ≡ hidden_line origin hidden))

-- of each zone, in order, where there is such a caller
abbrev pub AreHiddenTexts : List Rule → Option (List ℕ) → List (List (List ℕ)) → List ℕ → Type 0
AreHiddenTexts rules None origins text = text ≡ []
AreHiddenTexts rules (Some reader) origins text = AreTexts (IsHiddenText rules reader) origins text

-- all of them, one after the other; something was found exactly where there is a text
abbrev pub IsZonesReport : List Rule → Option (List ℕ) → List (List (List ℕ)) → Findings → List ℕ → Type 0
IsZonesReport rules reader origins findings text =
    ((stray : List ℕ) × (unspoken : List ℕ) × (hidden : List ℕ) × IsStrayText rules origins stray × IsUnspokenText rules origins unspoken
    × AreHiddenTexts rules reader origins hidden × (text ≡ (stray ++ unspoken) ++ hidden)) × (findings ≡ told text)
