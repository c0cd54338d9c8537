-- What `policy` prints: the rules of a policy, or those of them that can matter in some zones.
use Rattle.std.specs.Prelude.{◌≡◌, Bool, ℕ, ◌==◌, ◌||◌, List, [], ◌∷◌, length, not, Option, Some, None, Result, Ok, Err}
use Rattle.std.specs.List.{filter, slice_split}
use Rattle.dns_names.specs.declared.name_fault.NameFault.TheVariants.{Empty}
use Rattle.dns_names.specs.Reading.{absolute_name}
use Rattle.grant_policy.specs.declared.rule.Rule.{Rule}
use Rattle.grant_policy.specs.Documents.{document_of}
use Rattle.grant_policy.specs.Reading.{policy_of}
use Rattle.policy_tools.specs.ExpectationLines.{is_blank}
use Rattle.policy_tools.specs.Slices.{AreKept, DecideSame, Matters}
use Rattle.policy_build.specs.Making.{built_of, rules_made}
use Rattle.policy_build.specs.Reading.{source_of}
use Rattle.cli_core.specs.declared.commands.policy.PolicySource.{PolicySource}
use Rattle.cli_core.specs.declared.commands.policy.PolicySource.TheVariants.{Groups, Rules}
use Rattle.cli_core.specs.declared.refusal.Refusal.{Refusal}
use Rattle.cli_core.specs.declared.refusal.Refusal.TheVariants.{Name}
use Rattle.cli_core.specs.LineFaults.{◌>>=◌, of_builds, of_names, of_policies}
use Rattle.cli_checks.specs.declared.check.Findings.{Findings}
use Rattle.cli_checks.specs.declared.check.Findings.TheVariants.{Absent}

-- ---- the zones that a text names

-- a blank or a line feed
abbrev pub is_gap : ℕ → Bool
is_gap o = is_blank o || (o == 10)

-- the words of a text, with gaps between them
abbrev pub words_in : List ℕ → List (List ℕ)
words_in text = filter (λ part. not (length part == 0)) (slice_split is_gap text)

-- the names that words are, or the refusal of the first that is no absolute name
abbrev pub names_from : List (List ℕ) → Result (List (List (List ℕ))) Refusal
names_from [] = Ok []
names_from (word ∷ words) = of_names (absolute_name word) >>= λ name. names_from words >>= λ names. Ok (name ∷ names)

-- one or more; a text without words is refused as an empty name is
abbrev pub some_names : List (List ℕ) → Result (List (List (List ℕ))) Refusal
some_names [] = Err (Name Empty)
some_names (word ∷ words) = names_from (word ∷ words)

-- if a text is given
abbrev pub zones_if : Option (List ℕ) → Result (Option (List (List (List ℕ)))) Refusal
zones_if None = Ok None
zones_if (Some text) = some_names (words_in text) >>= λ zones. Ok (Some zones)

-- ---- the rules

-- those of the policy of a text, or those that are made of a file of groups
abbrev pub rules_from : PolicySource → List ℕ → Result (List Rule) Refusal
rules_from Rules text = of_policies (policy_of (document_of text))
rules_from Groups text = of_builds (source_of (document_of text)) >>= λ source. of_builds (built_of source) >>= λ built. Ok (rules_made built.rules)

-- the rules, and the origins of the zones for which they are wanted
pub record PrintedOf : Type 0 where
  pub rules : List Rule
  pub zones : Option (List (List (List ℕ)))

-- those of a text, for these zones
abbrev pub printed_from : PolicySource → Option (List (List (List ℕ))) → List ℕ → Result PrintedOf Refusal
printed_from source zones text = rules_from source text >>= λ rules. Ok (record { rules = rules; zones = zones })

-- all rules; or those that speak of some name within one of the zones, in order, which decide the same at all names within them
abbrev pub AreWanted : Option (List (List (List ℕ))) → List Rule → List Rule → Type 0
AreWanted None rules wanted = wanted ≡ rules
AreWanted (Some zones) rules wanted = AreKept (Matters zones) rules wanted × DecideSame zones rules wanted

-- the text is that of a policy of these rules; which is nothing that a check finds
abbrev pub IsPolicyText : PrintedOf → Findings → List ℕ → Type 0
IsPolicyText printed findings text =
    ((wanted : List Rule) × AreWanted printed.zones printed.rules wanted × (policy_of (document_of text) ≡ Ok wanted)) × (findings ≡ Absent)
