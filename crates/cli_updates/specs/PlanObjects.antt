-- What `plan --json` prints: what becomes of an update, as an object of JSON (RFC 8259).
use Rattle.std.specs.Prelude.{ℕ, List, [], ◌∷◌, ◌++◌, codes, decimal, Option, Some, None, option_map}
use Rattle.dns_data.specs.declared.record.Record.{Record}
use Rattle.zone_core.specs.Changes.{ChangeOf, change_in}
use Rattle.zone_core.specs.Effects.{zone_after}
use Rattle.zone_core.specs.Zones.{ZoneOf, serial_of}
use Rattle.zone_core.specs.Updates.{UpdateOf}
use Rattle.office_model.specs.declared.reply.UpdateReply.{UpdateReply}
use Rattle.office_model.specs.declared.reply.UpdateReply.TheVariants.{NoError}
use Rattle.office_core.specs.Steps.{change_made}
use Rattle.wire_json.specs.Json.{member, object}
use Rattle.wire_json.specs.Replies.{lines_value, update_body}
use Rattle.cli_core.specs.declared.job.PlanObject.{PlanObject}
use Rattle.cli_core.specs.declared.job.PlanObject.TheVariants.{Reply, Answers, Explained}
use Rattle.cli_updates.specs.declared.plan_object.Outcome.{Outcome}
use Rattle.cli_updates.specs.declared.plan_object.Outcome.TheVariants as outcome

-- ---- what becomes of an update

-- it is refused with a reply; or made, with a change if it changes something, and a serial after it
pub data OutcomeOf : Type 0 where
  refused : UpdateReply → OutcomeOf
  made : Option ChangeOf → ℕ → OutcomeOf

abbrev pub outcome_in : Outcome → OutcomeOf
outcome_in (outcome.Refused reply) = refused reply
outcome_in (outcome.Made change serial) = made (option_map change_in change) serial

-- of an update of a zone, by what the office would refuse
abbrev pub outcome_of : ZoneOf → UpdateOf → Option UpdateReply → OutcomeOf
outcome_of zone update (Some reply) = refused reply
outcome_of zone update None = let after = zone_after zone update in made (change_made zone.records after.records) (serial_of after)

-- ---- the object

abbrev pub added_by : Option ChangeOf → List Record
added_by None = []
added_by (Some c) = c.added

abbrev pub removed_by : Option ChangeOf → List Record
removed_by None = []
removed_by (Some c) = c.removed

-- a value, as the member of a plan that explains, before other members
abbrev pub before_reply : PlanObject → List ℕ → List (List ℕ) → List (List ℕ)
before_reply Reply value more = more
before_reply Answers value more = more
before_reply Explained value more = member (codes "items") value ∷ more

-- the same, or as that of the questions that a server answers otherwise after an update that is made
abbrev pub before_removed : PlanObject → List ℕ → List (List ℕ) → List (List ℕ)
before_removed Reply value more = more
before_removed Answers value more = member (codes "answers") value ∷ more
before_removed Explained value more = member (codes "items") value ∷ more

-- The reply as the office answers it; and of an update that is made the records that come and go, and the serial; and in forms a member
-- more. The keys are in byte order.
abbrev pub outcome_object : PlanObject → List ℕ → OutcomeOf → List ℕ
outcome_object form value (refused reply) = object (before_reply form value (member (codes "reply") (update_body reply) ∷ []))
outcome_object form value (made change serial) =
    object
    (member (codes "added") (lines_value (added_by change))
    ∷ before_removed form value
    (member (codes "removed") (lines_value (removed_by change)) ∷ member (codes "reply") (update_body NoError) ∷ member (codes "serial") (decimal serial) ∷ []))

-- ---- piece by piece

-- the items, and the comma after them
abbrev pub items_piece : List ℕ → List ℕ
items_piece items = codes "\"items\":" ++ (items ++ 44 ∷ [])

-- the questions, and the comma after them
abbrev pub answers_piece : List ℕ → List ℕ
answers_piece questions = codes "\"answers\":" ++ (questions ++ 44 ∷ [])

-- the member more of an outcome, and the comma after it
abbrev pub piece_of : PlanObject → List ℕ → OutcomeOf → List ℕ
piece_of Reply value o = []
piece_of Answers value (refused reply) = []
piece_of Answers value (made change serial) = answers_piece value
piece_of Explained value o = items_piece value

abbrev pub reply_piece : UpdateReply → List ℕ
reply_piece reply = codes "\"reply\":" ++ update_body reply

-- the members up to the reply
abbrev pub change_members : List ℕ → Option ChangeOf → List ℕ
change_members piece change =
    codes "{\"added\":" ++ (lines_value (added_by change) ++ (44 ∷ (piece ++ (codes "\"removed\":" ++ (lines_value (removed_by change) ++ 44 ∷ [])))))

-- the object, and a line end
abbrev pub outcome_text : List ℕ → OutcomeOf → List ℕ
outcome_text piece (refused reply) = 123 ∷ (piece ++ (reply_piece reply ++ codes "}\n"))
outcome_text piece (made change serial) =
    change_members piece change ++ (reply_piece NoError ++ (codes ",\"serial\":" ++ (decimal serial ++ codes "}\n")))
