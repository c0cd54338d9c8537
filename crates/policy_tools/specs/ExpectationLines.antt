-- The grammar of expectations: a line each, of words with blanks between them.
use Rattle.std.specs.Prelude.{◌≡◌, ◌≢◌, ◌⊎◌, ℕ, ◌+◌, List, [], ◌∷◌, ◌++◌, Bool, true, false, ◌||◌, ◌==◌, Option, Some, None, codes}
use Rattle.std.specs.List.{AllByRecursion, slice_split}
use Rattle.dns_names.specs.Labels.{IsName}
use Rattle.dns_names.specs.Spelling.{SpellsAbsolute}
use Rattle.dns_data.specs.Types.{IsCalled}
use Rattle.grant_policy.specs.declared.effect.Effect.{Effect}
use Rattle.grant_policy.specs.declared.effect.Effect.TheVariants.{Grant, Deny}
use Rattle.grant_policy.specs.declared.scope.Scope.{Scope}
use Rattle.grant_policy.specs.declared.scope.Scope.TheVariants.{Name, Subtree, Below}
use Rattle.grant_policy.specs.Identifiers.{IsIdentifier}
use Rattle.grant_policy.specs.Words.{action_text}
use Rattle.policy_tools.specs.declared.expectation.ExpectedDecision.{ExpectedDecision}
use Rattle.policy_tools.specs.declared.expectation.Limit.{Limit}
use Rattle.policy_tools.specs.declared.expectation.Expectation.{Expectation}
use Rattle.policy_tools.specs.declared.expectation.Expectation.TheVariants.{Decides, Keeps}
use Rattle.policy_tools.specs.declared.expectation_lines.ExpectationLine.{ExpectationLine}

-- ---- words

-- a space, a tab or a carriage return
abbrev pub is_blank : ℕ → Bool
is_blank o = o == 32 || (o == 9 || o == 13)

abbrev pub AreBlank : List ℕ → Type 0
AreBlank text = AllByRecursion (λ o. is_blank o ≡ true) text

-- `#` or `;`
abbrev pub begins_comment : ℕ → Bool
begins_comment o = o == 35 || o == 59

-- a comment, which has the rest of the line, or nothing
abbrev pub IsComment : List ℕ → Type 0
IsComment [] = Unit {0}
IsComment (o ∷ text) = begins_comment o ≡ true

-- one octet or more, none of them blank, the first of which begins no comment
abbrev pub IsWord : List ℕ → Type 0
IsWord [] = ⊥
IsWord (o ∷ text) = (begins_comment o ≡ false) × AllByRecursion (λ x. is_blank x ≡ false) (o ∷ text)

-- what is after a word: a blank, or nothing
abbrev pub EndsWord : List ℕ → Type 0
EndsWord [] = Unit {0}
EndsWord (o ∷ text) = is_blank o ≡ true

-- words with blanks between them, and maybe before them and after them, and then maybe a comment
abbrev pub AreWords : List (List ℕ) → List ℕ → Type 0
AreWords [] line = (blanks : List ℕ) × (comment : List ℕ) × (line ≡ blanks ++ comment) × AreBlank blanks × IsComment comment
AreWords (word ∷ words) line =
    (blanks : List ℕ) × (rest : List ℕ) × (line ≡ blanks ++ (word ++ rest)) × AreBlank blanks × IsWord word × EndsWord rest × AreWords words rest

-- ---- lines

-- the word of what is expected
abbrev pub effect_word : Effect → List ℕ
effect_word Grant = codes "granted"
effect_word Deny = codes "denied"

-- `by` and the rule, if one is named
abbrev pub SpellsRule : Option (List ℕ) → List (List ℕ) → Type 0
SpellsRule None words = words ≡ []
SpellsRule (Some id) words = (words ≡ codes "by" ∷ id ∷ []) × IsIdentifier id

-- `granted` or `denied`, the caller, the name, the type and the action, and by which rule
pub record SpellsDecision (expected : ExpectedDecision) (words : List (List ℕ)) : Type 0 where
  pub name : List ℕ
  pub record_type : List ℕ
  pub rule : List (List ℕ)
  pub are : words ≡ effect_word expected.effect ∷ expected.caller ∷ name ∷ record_type ∷ action_text expected.action ∷ rule
  pub identifier : IsIdentifier expected.caller
  pub valid : IsName expected.name
  pub name_is : SpellsAbsolute expected.name name
  pub type_is : IsCalled expected.record_type record_type
  pub rule_is : SpellsRule expected.rule rule

-- an identifier that is not `nobody`
abbrev pub AreListable : List (List ℕ) → Type 0
AreListable callers = AllByRecursion (λ c. IsIdentifier c × (c ≢ codes "nobody")) callers

-- the callers, or `nobody`
abbrev pub SpellsListed : List (List ℕ) → List (List ℕ) → Type 0
SpellsListed [] words = words ≡ codes "nobody" ∷ []
SpellsListed (caller ∷ callers) words = (words ≡ caller ∷ callers) × AreListable (caller ∷ callers)

-- `*`, or one
abbrev pub SpellsOne : {X : Type 0} → (X → List ℕ → Type 0) → Option (List X) → List ℕ → Type 0
SpellsOne Spells None word = word ≡ codes "*"
SpellsOne Spells (Some (x ∷ [])) word = (word ≢ codes "*") × Spells x word
SpellsOne Spells (Some _) word = ⊥

-- at the name alone, at it and below, or below it alone
abbrev pub place_word : Scope → List ℕ
place_word Name = codes "at"
place_word Subtree = codes "within"
place_word Below = codes "below"

-- `only`, the callers, `may`, the action, the type, and at which names
pub record SpellsLimit (limit : Limit) (words : List (List ℕ)) : Type 0 where
  pub callers : List (List ℕ)
  pub action : List ℕ
  pub record_type : List ℕ
  pub name : List ℕ
  pub are : words ≡ codes "only" ∷ (callers ++ (codes "may" ∷ action ∷ record_type ∷ place_word limit.scope ∷ name ∷ []))
  pub callers_are : SpellsListed limit.callers callers
  pub action_is : SpellsOne (λ a word. action_text a ≡ word) limit.actions action
  pub type_is : SpellsOne IsCalled limit.types record_type
  pub valid : IsName limit.at
  pub name_is : SpellsAbsolute limit.at name

abbrev pub SpellsExpectation : Expectation → List (List ℕ) → Type 0
SpellsExpectation (Decides expected) words = SpellsDecision expected words
SpellsExpectation (Keeps limit) words = SpellsLimit limit words

-- ---- texts

-- the lines of a text, between its line feeds
abbrev pub lines_of : List ℕ → List (List ℕ)
lines_of text = slice_split (λ o. o == 10) text

-- each line, from this number on, has no words, or spells the next expectation
abbrev pub AreExpectations : ℕ → List (List ℕ) → List ExpectationLine → Type 0
AreExpectations number [] rows = rows ≡ []
AreExpectations number (line ∷ lines) rows =
    (AreWords [] line × AreExpectations (number + 1) lines rows)
    ⊎ ((words : List (List ℕ)) × (row : ExpectationLine) × (others : List ExpectationLine) × (rows ≡ row ∷ others) × (row.line ≡ number) × AreWords words line × SpellsExpectation row.expectation words × AreExpectations (number + 1) lines others)
