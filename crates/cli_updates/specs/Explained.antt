-- What `plan --explain` prints of all that the items of an update ask for: what a policy decides, as lines before the reply, or as objects.
use Rattle.std.specs.Prelude.{ℕ, List, [], ◌∷◌, ◌++◌, decimal}
use Rattle.std.specs.List.{flat_map}
use Rattle.dns_names.specs.Spelling.{name_text}
use Rattle.dns_data.specs.Types.{type_text}
use Rattle.grant_policy.specs.declared.rule.Rule.{Rule}
use Rattle.grant_policy.specs.Decisions.{Verdict, decision}
use Rattle.grant_policy.specs.Isolated.{question}
use Rattle.grant_policy.specs.Words.{action_text}
use Rattle.zone_core.specs.Kinds.{list_word}
use Rattle.zone_core.specs.Updates.{UpdateOf}
use Rattle.office_core.specs.Footprints.{Point, footprint}
use Rattle.cli_core.specs.declared.job.TextForm.{TextForm}
use Rattle.cli_core.specs.declared.job.TextForm.TheVariants.{Plain, Json}
use Rattle.cli_updates.specs.declared.explained.AskedPoint.{AskedPoint}
use Rattle.cli_updates.specs.PointObjects.{decided_object}
use Rattle.cli_text.specs.Rights.{verdict_line}

abbrev pub point_in : AskedPoint → Point
point_in p = record { place = p.place; name = p.name.now; record_type = p.record_type; action = p.action }

-- the list of an item and its number there, from 0; its name, and the type and the action that it asks for; and what is decided
abbrev pub decided_line : Point → Verdict → List ℕ
decided_line p verdict =
    list_word p.place.list ++ 32 ∷ (decimal p.place.item ++ 32 ∷ (name_text p.name ++ 32 ∷ (type_text p.record_type ++ 32 ∷ (action_text p.action
    ++ 32 ∷ verdict_line verdict))))

-- both in a form: a line, or an object and a comma
abbrev pub decided_text : TextForm → Point → Verdict → List ℕ
decided_text Plain p verdict = decided_line p verdict
decided_text Json p verdict = decided_object p verdict ++ 44 ∷ []

-- what the rules of a policy decide of a point, in a form
abbrev pub point_text : TextForm → List Rule → List ℕ → Point → List ℕ
point_text form rules caller p = decided_text form p (decision (question caller p.name p.record_type p.action) rules)

abbrev pub point_texts : TextForm → List Rule → List ℕ → List Point → List ℕ
point_texts form rules caller points = flat_map (point_text form rules caller) points

-- those of an update of the zone of an origin: of its prerequisites, and then of its operations, item by item, and of an item type by type
abbrev pub update_texts : TextForm → List Rule → List ℕ → List (List ℕ) → UpdateOf → List ℕ
update_texts form rules caller origin update = point_texts form rules caller (footprint origin update)

-- the lines of an update
abbrev pub update_lines : List Rule → List ℕ → List (List ℕ) → UpdateOf → List ℕ
update_lines rules caller origin update = update_texts Plain rules caller origin update
