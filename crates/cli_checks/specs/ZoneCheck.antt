-- What `check zone` prints: a line for each record that is at fault by one of the rules that are asked for; and where they are asked for,
-- for each record set that is large, and each record whose address several names have.
use Rattle.std.specs.Prelude.{◌≡◌, ℕ, Bool, true, false, not, ◌&&◌, ◌==◌, List, [], ◌∷◌, ◌++◌, codes, if◌then◌else◌, Option, Some, None, option_map, Result, Ok, slice_get}
use Rattle.std.specs.List.{flat_map}
use Rattle.dns_data.specs.declared.record.Record.{Record}
use Rattle.dns_data.specs.Text.{record_line}
use Rattle.zone_core.specs.Sets.{listing}
use Rattle.zone_core.specs.Zones.{ZoneOf}
use Rattle.zone_tools.specs.declared.zone_rule.ZoneRule.{ZoneRule}
use Rattle.zone_tools.specs.declared.zone_finding.Finding.{Finding}
use Rattle.zone_tools.specs.ZoneRules.{rule_of, rule_place, rule_text}
use Rattle.zone_tools.specs.ZoneFindings.{AreFindings}
use Rattle.zone_tools.specs.LargeSets.{AreLargeSets}
use Rattle.zone_tools.specs.SharedAddresses.{AreShared}
use Rattle.zone_tools.specs.declared.name_server.NameServer.{NameServer}
use Rattle.zone_tools.specs.declared.name_server.Reaction.{Reaction}
use Rattle.zone_tools.specs.declared.name_server.Reaction.TheVariants.{Takes}
use Rattle.zone_tools.specs.ServerReactions.{reaction, server_of_word}
use Rattle.cli_core.specs.declared.job.RuleChoice.{RuleChoice}
use Rattle.cli_core.specs.declared.job.RuleChoice.TheVariants as choice
use Rattle.cli_core.specs.declared.job.ZoneRules.{ZoneRules}
use Rattle.cli_core.specs.declared.job.Advice.{Advice}
use Rattle.cli_core.specs.declared.job.Advice.TheVariants.{Unasked, Wanted}
use Rattle.cli_checks.specs.declared.check.Findings.{Findings}
use Rattle.cli_checks.specs.declared.check.Findings.TheVariants.{Absent, Present}
use Rattle.cli_checks.specs.declared.zone_check.RuleFilter.{RuleFilter}
use Rattle.cli_checks.specs.declared.zone_check.RuleFilter.TheVariants as filter
use Rattle.cli_checks.specs.declared.zone_check.ZoneTests.{ZoneTests}
use Rattle.cli_core.specs.declared.refusal.Refusal.{Refusal}
use Rattle.cli_core.specs.declared.refusal.Refusal.TheVariants.{NoRule, NoServer}
use Rattle.cli_core.specs.LineFaults.{◌>>=◌, or_refused}

-- ---- the rules that are asked for

abbrev pub rule_named : List ℕ → Result ZoneRule Refusal
rule_named word = or_refused (rule_of word) NoRule

abbrev pub filter_of : RuleChoice → Result RuleFilter Refusal
filter_of choice.All = Ok filter.All
filter_of (choice.Only word) = rule_named word.now >>= λ rule. Ok (filter.Only rule)
filter_of (choice.Not word) = rule_named word.now >>= λ rule. Ok (filter.Not rule)

-- the server that a word names, if one is given
abbrev pub server_named : List ℕ → Result NameServer Refusal
server_named word = or_refused (server_of_word word) NoServer

abbrev pub server_if : Option (List ℕ) → Result (Option NameServer) Refusal
server_if None = Ok None
server_if (Some word) = server_named word >>= λ server. Ok (Some server)

-- what words ask for: the rule is read before the server
abbrev pub tests_of : ZoneRules → Result ZoneTests Refusal
tests_of rules =
    filter_of rules.choice >>= λ filter. server_if (option_map (λ s. s.now) rules.server)
    >>= λ server. Ok (record { rules = filter; server = server; most = rules.most; advice = rules.advice })

abbrev pub asks_for : RuleFilter → ZoneRule → Bool
asks_for filter.All rule = true
asks_for (filter.Only one) rule = rule_place one == rule_place rule
asks_for (filter.Not one) rule = not (rule_place one == rule_place rule)

-- whether a server refuses a record, or warns of it
abbrev pub is_minded : Reaction → Bool
is_minded Takes = false
is_minded _ = true

abbrev pub minds : Option NameServer → ZoneRule → Bool
minds None rule = true
minds (Some server) rule = is_minded (reaction server rule)

abbrev pub is_asked : ZoneTests → ZoneRule → Bool
is_asked tests rule = asks_for tests.rules rule && minds tests.server rule

-- ---- the text

-- a word, and the line of a record
abbrev pub worded : List ℕ → Record → List ℕ
worded word r = word ++ 32 ∷ (record_line r ++ 10 ∷ [])

-- the word of a rule, and the line of a record
abbrev pub line_by : ZoneRule → Option Record → List ℕ
line_by rule None = []
line_by rule (Some r) = worded (rule_text rule) r

-- the line of a finding, if its rule is asked for
abbrev pub finding_text : ZoneTests → List Record → Finding → List ℕ
finding_text tests records finding = if is_asked tests finding.rule then line_by finding.rule (slice_get records finding.place) else []

-- something was found exactly where there is a text
abbrev pub told : List ℕ → Findings
told [] = Absent
told (o ∷ os) = Present

-- the first records of the sets that have more records than these, or more than 65,000 octets, in record order
abbrev pub IsSetsText : Option ℕ → List Record → List ℕ → Type 0
IsSetsText None rs text = text ≡ []
IsSetsText (Some most) rs text = (large : List Record) × AreLargeSets most rs large × (text ≡ flat_map (worded (codes "large-set")) large)

-- the records whose addresses several names have, by address
abbrev pub IsAdviceText : Advice → List Record → List ℕ → Type 0
IsAdviceText Unasked rs text = text ≡ []
IsAdviceText Wanted rs text = (shared : List Record) × AreShared [] rs shared × (text ≡ flat_map (worded (codes "shared-address")) shared)

-- the findings of a zone, one a line, in the order of its records; its large sets and its shared addresses; and whether there are some
abbrev pub IsZoneReport : ZoneOf → ZoneTests → Findings → List ℕ → Type 0
IsZoneReport zone tests findings text =
    ((found : List Finding) × (sets : List ℕ) × (advice : List ℕ) × AreFindings zone.origin (listing zone.records) found
    × IsSetsText tests.most (listing zone.records) sets × IsAdviceText tests.advice (listing zone.records) advice
    × (text ≡ (flat_map (finding_text tests (listing zone.records)) found ++ sets) ++ advice)) × (findings ≡ told text)
