-- What `plan` prints: what the office would answer to an update of a zone by a caller, what that would change, and in forms which questions
-- a server answers otherwise then, or what the policy decides of each item; as lines or as an object of JSON; of an input that is a master file, a line `--`, and items.
use Rattle.std.specs.Prelude.{◌≡◌, ℕ, List, [], ◌∷◌, ◌++◌, codes, decimal, Option, Some, None, Result, Ok, Err}
use Rattle.std.specs.List.{flat_map}
use Rattle.dns_data.specs.declared.record.Record.{Record}
use Rattle.dns_data.specs.Text.{record_line}
use Rattle.grant_policy.specs.declared.rule.Rule.{Rule}
use Rattle.grant_policy.specs.Documents.{document_of}
use Rattle.grant_policy.specs.Reading.{policy_of}
use Rattle.zone_core.specs.Zones.{ZoneOf, serial_of}
use Rattle.zone_core.specs.Updates.{UpdateOf}
use Rattle.zone_core.specs.Effects.{zone_after}
use Rattle.zone_core.specs.Changes.{ChangeOf}
use Rattle.office_model.specs.declared.reply.UpdateReply.{UpdateReply}
use Rattle.office_model.specs.declared.reply.UpdateReply.TheVariants.{NoError}
use Rattle.office_core.specs.Machine.{zone_refusal}
use Rattle.office_core.specs.Steps.{held_in, change_made}
use Rattle.office_model.specs.ReplyWords.{reply_words}
use Rattle.cli_updates.specs.declared.plan.Asker.{Asker}
use Rattle.cli_updates.specs.declared.plan.ZoneUpdate.{ZoneUpdate}
use Rattle.cli_core.specs.declared.job.PlanForm.{PlanForm}
use Rattle.cli_core.specs.declared.job.PlanForm.TheVariants.{Lines, Object}
use Rattle.cli_core.specs.declared.job.PlanLines.{PlanLines}
use Rattle.cli_core.specs.declared.job.PlanLines.TheVariants.{Records, Answers, Explained}
use Rattle.cli_core.specs.declared.job.PlanObject.{PlanObject}
use Rattle.cli_core.specs.declared.job.PlanObject.TheVariants as plan_object
use Rattle.cli_core.specs.declared.refusal.Refusal.{Refusal}
use Rattle.cli_core.specs.declared.refusal.Refusal.TheVariants.{NoDivider}
use Rattle.cli_core.specs.declared.line_fault.JobFault.{JobFault}
use Rattle.cli_updates.specs.declared.plan_fault.PlanFault.{PlanFault}
use Rattle.cli_updates.specs.declared.plan_fault.PlanFault.TheVariants.{Policy, Input}
use Rattle.cli_core.specs.LineFaults.{◌>>=◌, or_refused, limited, of_policies, Makes}
use Rattle.cli_core.specs.Replies.{Answered}
use Rattle.cli_text.specs.Parts.{divided}
use Rattle.cli_text.specs.Apply.{zone_of_text, update_behind}
use Rattle.cli_text.specs.ChangedAnswerLines.{AreAnswerLines}
use Rattle.cli_text.specs.LineObjects.{objects_array}
use Rattle.cli_text.specs.declared.line_objects.LineKind.TheVariants as kind
use Rattle.cli_text.specs.Rights.{caller_in}
use Rattle.cli_updates.specs.Explained.{update_lines}
use Rattle.cli_updates.specs.IdleLines.{idle_lines}
use Rattle.cli_updates.specs.PointObjects.{items_value}
use Rattle.cli_updates.specs.PlanObjects.{outcome_of, outcome_object}
use Rattle.cli_updates.specs.Texts.{Told}
use Rattle.cli_core.specs.Inputs.{InputOf}

-- ---- who asks

-- a caller, and the rules of a policy
pub record AskerOf : Type 0 where
  pub rules : List Rule
  pub caller : List ℕ

abbrev pub asker_in : Asker → AskerOf
asker_in a = record { rules = a.policy; caller = a.caller }

-- a caller, and the policy of a text
abbrev pub asker_of : List ℕ → List ℕ → Result AskerOf Refusal
asker_of caller text = of_policies (policy_of (document_of text)) >>= λ rules. Ok (record { rules = rules; caller = caller })

-- the caller that a word is, and the policy that is the input
abbrev pub asker_read : List ℕ → List ℕ → Result AskerOf Refusal
asker_read word input = caller_in word >>= λ caller. limited input >>= asker_of caller

-- ---- what is asked

-- a zone, and an update of it
pub record ZoneUpdateOf : Type 0 where
  pub zone : ZoneOf
  pub update : UpdateOf

abbrev pub zone_update : ZoneUpdate → ZoneUpdateOf
zone_update u = record { zone = u.zone; update = u.update }

-- ---- the answer

abbrev pub reply_line : UpdateReply → List ℕ
reply_line reply = reply_words reply ++ 10 ∷ []

-- a record after a sign
abbrev pub signed_line : List ℕ → Record → List ℕ
signed_line sign r = sign ++ 32 ∷ (record_line r ++ 10 ∷ [])

abbrev pub signed_lines : List ℕ → List Record → List ℕ
signed_lines sign records = flat_map (signed_line sign) records

-- the records that go, and those that come
abbrev pub change_lines : Option ChangeOf → List ℕ
change_lines None = []
change_lines (Some c) = signed_lines (codes "-") c.removed ++ signed_lines (codes "+") c.added

abbrev pub serial_line : ZoneOf → List ℕ
serial_line zone = codes "serial " ++ decimal (serial_of zone) ++ 10 ∷ []

-- the reply; and of an update that is made its change, and the serial after it
abbrev pub plan_lines : ZoneOf → UpdateOf → Option UpdateReply → List ℕ
plan_lines zone update (Some refused) = reply_line refused
plan_lines zone update None =
    let after = zone_after zone update in reply_line NoError ++ (change_lines (change_made zone.records after.records) ++ serial_line after)

-- what the office would refuse, of an update of a zone
abbrev pub plan_refusal : AskerOf → ZoneUpdateOf → Option UpdateReply
plan_refusal asker u = zone_refusal asker.rules asker.caller u.zone.origin u.update (held_in u.zone)

-- what the office would answer to it, and change
abbrev pub planned : AskerOf → ZoneUpdateOf → List ℕ
planned asker u = plan_lines u.zone u.update (plan_refusal asker u)

-- ---- the answers of a server

-- the lines of the questions that a server answers otherwise after an update, if it is made
abbrev pub AreLinesOf : ZoneUpdateOf → Option UpdateReply → List ℕ → Type 0
AreLinesOf u (Some refused) lines = lines ≡ []
AreLinesOf u None lines = AreAnswerLines u.zone (zone_after u.zone u.update) lines

-- ---- what does nothing

-- the lines of the operations that change nothing, of an update that is made
abbrev pub idle_lines_of : ZoneUpdateOf → Option UpdateReply → List ℕ
idle_lines_of u (Some refused) = []
idle_lines_of u None = idle_lines u.zone u.update

-- the reply and what follows it, in a form
abbrev pub IsReplyText : PlanLines → AskerOf → ZoneUpdateOf → List ℕ → Type 0
IsReplyText Answers asker u text = (lines : List ℕ) × AreLinesOf u (plan_refusal asker u) lines × (text ≡ planned asker u ++ lines)
IsReplyText Records asker u text = text ≡ planned asker u
IsReplyText Explained asker u text = text ≡ planned asker u ++ idle_lines_of u (plan_refusal asker u)

-- the lines that are printed: of a plan that explains, what the policy decides of all that the items ask for comes first, and what does
-- nothing last
abbrev pub ArePlanLines : PlanLines → AskerOf → ZoneUpdateOf → List ℕ → Type 0
ArePlanLines Records asker u text = IsReplyText Records asker u text
ArePlanLines Answers asker u text = IsReplyText Answers asker u text
ArePlanLines Explained asker u text =
    text ≡ update_lines asker.rules asker.caller u.zone.origin u.update ++ (planned asker u ++ idle_lines_of u (plan_refusal asker u))

-- the object of what becomes of the update, with a value as its member more, and a line end
abbrev pub object_with : PlanObject → List ℕ → AskerOf → ZoneUpdateOf → List ℕ
object_with object value asker u = outcome_object object value (outcome_of u.zone u.update (plan_refusal asker u)) ++ 10 ∷ []

-- the object that is printed: of a plan that explains with what is decided of all that the items ask for; and in a form with the questions
-- that a server answers otherwise after an update that is made, as an array of the objects of their lines
abbrev pub IsPlanObject : PlanObject → AskerOf → ZoneUpdateOf → List ℕ → Type 0
IsPlanObject plan_object.Reply asker u text = text ≡ object_with plan_object.Reply [] asker u
IsPlanObject plan_object.Answers asker u text =
    (lines : List ℕ) × AreLinesOf u (plan_refusal asker u) lines × (text ≡ object_with plan_object.Answers (objects_array kind.Questions lines) asker u)
IsPlanObject plan_object.Explained asker u text =
    text ≡ object_with plan_object.Explained (items_value asker.rules asker.caller u.zone.origin u.update) asker u

-- what is printed, in a form
abbrev pub IsPlanText : PlanForm → AskerOf → ZoneUpdateOf → List ℕ → Type 0
IsPlanText (Lines lines) asker u text = ArePlanLines lines asker u text
IsPlanText (Object object) asker u text = IsPlanObject object asker u text

-- what is appended in a form to a text, of a zone and an update of it
abbrev pub AreLinesAfter : PlanLines → ZoneOf → UpdateOf → List ℕ → List ℕ → Type 0
AreLinesAfter Records zone update old new = new ≡ old ++ serial_line (zone_after zone update)
AreLinesAfter Explained zone update old new = new ≡ (old ++ serial_line (zone_after zone update)) ++ idle_lines zone update
AreLinesAfter Answers zone update old new =
    (lines : List ℕ) × AreAnswerLines zone (zone_after zone update) lines × (new ≡ (old ++ serial_line (zone_after zone update)) ++ lines)

-- ---- the zone and the update

-- those of an input, whatever its size
abbrev pub zone_update_in : List ℕ → Result ZoneUpdateOf Refusal
zone_update_in input =
    or_refused (divided input) NoDivider
    >>= λ parts. zone_of_text parts.file >>= λ zone. update_behind parts >>= λ update. Ok (record { zone = zone; update = update })

-- those of an input
abbrev pub zone_update_read : List ℕ → Result ZoneUpdateOf Refusal
zone_update_read input = limited input >>= zone_update_in

-- ---- two inputs

-- what is printed of the input that is the policy, by itself: nothing, if it has one and the word is a caller
abbrev pub asker_text : List ℕ → List ℕ → Result (List ℕ) Refusal
asker_text word input = asker_read word input >>= λ asker. Ok []

-- The word of the caller, what was left to read of the policy, what the writer held before and after, how it went, that the input did not
-- fail, that it did, and the writer's failures before and after: the caller and the policy that were read, and nothing is written; or
-- their refusal is.
abbrev pub IsAskerRead : List ℕ → Option (List ℕ) → Option (List ℕ) → Option (List ℕ) → Result Asker JobFault → Type 0 → Type 0 → ℕ → ℕ → Type 0
IsAskerRead word left before after (Ok asker) fine failed writes writes_after =
    Makes left (asker_read word) (Ok (asker_in asker)) × fine × (after ≡ before) × (writes_after ≡ writes)
IsAskerRead word left before after (Err fault) fine failed writes writes_after =
    Answered left (asker_text word) before after (Err fault) fine failed writes writes_after

-- what is answered to the zone and its update, where the policy was read
abbrev pub IsAnswered : PlanForm → List ℕ → InputOf → InputOf → Option (List ℕ) → Option (List ℕ) → Result (Unit {0}) JobFault → ℕ → ℕ → Type 0
IsAnswered form word policy input before after result writes writes_after =
    (asker : AskerOf) × Makes policy.left (asker_read word) (Ok asker) × policy.fine
    × Told (IsPlanText form asker) zone_update_read input.left before after result input.fine input.failed writes writes_after

-- The form, the word of the caller, what is known of the policy and of the other input, what the writer held before and after, how it went, and the
-- writer's failures before and after: the policy was refused, or not read, and the other input was let be; or else the input was
-- answered by it.
abbrev pub IsPlanned : PlanForm → List ℕ → InputOf → InputOf → Option (List ℕ) → Option (List ℕ) → Result (Unit {0}) PlanFault → ℕ → ℕ → Type 0
IsPlanned form word policy input before after (Err (Policy fault)) writes writes_after =
    Answered policy.left (asker_text word) before after (Err fault) policy.fine policy.failed writes writes_after × input.fine
IsPlanned form word policy input before after (Err (Input fault)) writes writes_after = IsAnswered form word policy input before after (Err fault) writes writes_after
IsPlanned form word policy input before after (Ok done) writes writes_after = IsAnswered form word policy input before after (Ok done) writes writes_after
