-- What `check reach` prints: a line for each group of names for which a caller can have questions about a zone answered otherwise, by any
-- updates that a policy lets it make.
use Rattle.std.specs.Prelude.{◌≡◌, ℕ, List, map, codes}
use Rattle.std.specs.List.{Contains, flat_map}
use Rattle.std.specs.List.Sorted.{IsStrictlySortedBy}
use Rattle.grant_policy.specs.declared.rule.Rule.{Rule}
use Rattle.zone_core.specs.Sets.{listing}
use Rattle.zone_core.specs.Zones.{ZoneOf}
use Rattle.zone_answers.specs.declared.query_type.QueryType.{QueryType}
use Rattle.zone_answers.specs.Answers.{Name}
use Rattle.zone_answers.specs.AnswerChanges.{Differs, AreTypes}
use Rattle.answer_reach.specs.declared.reached.ReachedNames.{ReachedNames}
use Rattle.answer_reach.specs.declared.reached.ReachedNames.TheVariants.{At, Others}
use Rattle.answer_reach.specs.declared.reached.ReachedAnswers.{ReachedAnswers}
use Rattle.answer_reach.specs.Turns.{CanMake}
use Rattle.answer_reach.specs.ReachedGroups.{IsListed, IsGroup, group_cmp}
use Rattle.cli_checks.specs.declared.check.Findings.{Findings}
use Rattle.cli_text.specs.ChangedAnswerLines.{questions_line}
use Rattle.cli_checks.specs.ZoneCheck.{told}

-- ---- lines

-- names that a caller reaches alike, and types, as `diff --answers` prints them
abbrev pub reached_names_line : ReachedNames → List QueryType → List ℕ
reached_names_line (At name) types = questions_line (codes "at") name types
reached_names_line (Others above) types = questions_line (codes "below") above types

abbrev pub reached_line : ReachedAnswers → List ℕ
reached_line row = reached_names_line row.names row.types.items

-- ---- which lines

-- the rows of a caller of a policy, and a zone: whatever the caller makes of the zone, each question that is then answered otherwise is in a
-- row; groups are in order, each in one row; each is of a name that is named, or of the names below it that are not; and each row has types,
-- in order
pub record AreReached (rules : List Rule) (caller : List ℕ) (zone : ZoneOf) (rows : List ReachedAnswers) : Type 0 where
  pub sound : (after : ZoneOf) → CanMake rules caller zone after → (name : Name) (asked : QueryType)
      → Differs zone.origin (listing zone.records) (listing after.records) name asked → IsListed rules (listing zone.records) rows name asked
  pub order : IsStrictlySortedBy group_cmp (map (λ row. row.names) rows)
  pub groups : (row : ReachedAnswers) → Contains rows row → IsGroup zone.origin rules (listing zone.records) row.names
  pub types : (row : ReachedAnswers) → Contains rows row → AreTypes row.types.items

-- the lines of such rows; something was found exactly where there are some
abbrev pub IsReachReport : List Rule → List ℕ → ZoneOf → Findings → List ℕ → Type 0
IsReachReport rules caller zone findings text =
    (rows : List ReachedAnswers) × AreReached rules caller zone rows × (text ≡ flat_map reached_line rows) × (findings ≡ told text)
