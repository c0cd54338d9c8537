-- Which questions a caller can reach, over all names, of which infinitely many are below others.
use Rattle.std.specs.Prelude.{◌≡◌, ◌⊎◌, ℕ, List, ◌∷◌, ◌++◌}
use Rattle.std.specs.List.{Contains}
use Rattle.std.specs.Ordering.{nat_cmp, on, then_cmp}
use Rattle.std.specs.declared.cmp.Ordering.{Ordering}
use Rattle.dns_names.specs.Labels.{IsWithin}
use Rattle.dns_names.specs.Order.{canonical_cmp}
use Rattle.dns_data.specs.declared.record.Record.{Record}
use Rattle.dns_data.specs.declared.rdata.Data.TheVariants as variants
use Rattle.grant_policy.specs.declared.rule.Rule.{Rule}
use Rattle.zone_answers.specs.declared.query_type.QueryType.{QueryType}
use Rattle.zone_answers.specs.Answers.{Name, Exists}
use Rattle.answer_reach.specs.declared.reached.ReachedNames.{ReachedNames}
use Rattle.answer_reach.specs.declared.reached.ReachedNames.TheVariants.{At, Others}
use Rattle.answer_reach.specs.declared.reached.ReachedAnswers.{ReachedAnswers}

-- a name exists, or the target of an alias or the name of a rule is at it or below it
abbrev pub IsNamed : List Rule → List Record → Name → Type 0
IsNamed rules rs name =
    Exists rs name
    ⊎ (((r : Record) × (target : Name) × Contains rs r × (r.rdata ≡ variants.Cname target) × IsWithin target name)
    ⊎ ((rule : Rule) × Contains rules rule × IsWithin rule.at name))

-- the names of a group: one; or all below a name that are at or below none that is named and nearer
abbrev pub IsIn : List Rule → List Record → ReachedNames → Name → Type 0
IsIn rules rs (At own) name = name ≡ own
IsIn rules rs (Others above) name = (front : Name) × (label : List ℕ) × (name ≡ front ++ label ∷ above) × ¬ IsNamed rules rs (label ∷ above)

-- a row has a question: its name is in the group of the row, and its type is one of those of the row
abbrev pub IsListed : List Rule → List Record → List ReachedAnswers → Name → QueryType → Type 0
IsListed rules rs rows name asked = (row : ReachedAnswers) × Contains rows row × IsIn rules rs row.names name × Contains row.types.items asked

-- ---- the order of rows

-- the name that a group is at or below
abbrev pub name_in : ReachedNames → Name
name_in (At own) = own
name_in (Others above) = above

-- the one name before those below it
abbrev pub place_in : ReachedNames → ℕ
place_in (At own) = 0
place_in (Others above) = 1

-- groups by their names in canonical order (RFC 4034 section 6.1)
abbrev pub group_cmp : ReachedNames → ReachedNames → Ordering
group_cmp = then_cmp (on name_in canonical_cmp) (on place_in nat_cmp)

-- the group of a known name within the origin, or of those below it
abbrev pub IsGroup : Name → List Rule → List Record → ReachedNames → Type 0
IsGroup origin rules rs group = IsWithin (name_in group) origin × IsNamed rules rs (name_in group)
