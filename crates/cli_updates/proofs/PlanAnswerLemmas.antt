-- The object of a plan with the questions that a server answers otherwise, by what the office would answer.
use Rattle.std.proofs.Common.{◌≡◌, ◌≢◌, ◌∙◌, ℕ, List, [], ◌∷◌, ◌++◌, Option, Some, None, refl, sym, ap}
use Rattle.zone_core.specs.Prerequisites.{verdict}
use Rattle.zone_core.specs.Zones.{ZoneOf, serial_of}
use Rattle.zone_core.specs.Updates.{UpdateOf, first_outside}
use Rattle.zone_core.specs.Effects.{zone_after}
use Rattle.zone_core.specs.Changes.{ChangeOf}
use Rattle.office_model.specs.declared.reply.UpdateReply.{UpdateReply}
use Rattle.office_model.specs.declared.reply.UpdateReply.TheVariants.{NoError}
use Rattle.office_core.specs.Footprints.{footprint}
use Rattle.office_core.specs.Permissions.{first_denial}
use Rattle.office_core.specs.Machine.{zone_refusal}
use Rattle.office_core.specs.Steps.{Makes, held_in}
use Rattle.office_core.proofs.MadeLemmas.{never_made}
use Rattle.cli_core.specs.declared.job.PlanObject.TheVariants.{Answers}
use Rattle.cli_text.specs.ChangedAnswerLines.{AreAnswerLines}
use Rattle.cli_text.specs.LineObjects.{objects_array}
use Rattle.cli_text.specs.declared.line_objects.LineKind.TheVariants as kind
use Rattle.cli_updates.specs.Plan.{AskerOf, ZoneUpdateOf, AreLinesOf, IsPlanObject}
use Rattle.cli_updates.specs.PlanObjects.{OutcomeOf, refused, made, outcome_of, outcome_object, outcome_text, answers_piece}
use Rattle.cli_updates.proofs.PlanObjectLemmas.{object_made}

abbrev array_of : List ℕ → List ℕ
array_of lines = objects_array kind.Questions lines

module _ (asker : AskerOf) (zone : ZoneOf) (update : UpdateOf) (reply : UpdateReply) (change : Option ChangeOf) where
  abbrev asked : ZoneUpdateOf
  asked = record { zone = zone; update = update }

  abbrev refusal : Option UpdateReply
  refusal = zone_refusal asker.rules asker.caller zone.origin update (held_in zone)

  abbrev serial_after : ℕ
  serial_after = serial_of (zone_after zone update)

  abbrev of_refusal : Option UpdateReply → OutcomeOf
  of_refusal r = outcome_of zone update r

  -- ---- an update that is made

  makes_none : (r : Option UpdateReply) → refusal ≡ r → Makes zone update r reply change → reply ≡ NoError
      → (made change serial_after ≡ of_refusal r) × ((lines : List ℕ) → AreAnswerLines zone (zone_after zone update) lines → AreLinesOf asked r lines)
  makes_none None e makes is = (ap (λ (c : Option ChangeOf). made c serial_after) makes.1, λ lines are. are)
  makes_none (Some r) e makes is =
      absurd (never_made (first_outside zone.origin update) (first_denial asker.rules asker.caller (footprint zone.origin update)) (verdict zone.records update.prerequisites)
      (e ∙ ap (λ (x : UpdateReply). Some x) (sym makes.0 ∙ is)))

  pub object_of_made : (lines text : List ℕ) → Makes zone update refusal reply change → reply ≡ NoError → AreAnswerLines zone (zone_after zone update) lines
      → text ≡ outcome_text (answers_piece (array_of lines)) (made change serial_after) → IsPlanObject Answers asker asked text
  object_of_made lines text makes is are e =
      let both = makes_none refusal refl makes is in (
        lines,
        both.1 lines are,
        object_made Answers (array_of lines) (made change serial_after) (answers_piece (array_of lines)) text refl e
            ∙ ap (λ (o : OutcomeOf). outcome_object Answers (array_of lines) o ++ 10 ∷ []) both.0,
      )

  -- ---- one that is refused

  makes_some : (r : Option UpdateReply) → Makes zone update r reply change → reply ≢ NoError → (refused reply ≡ of_refusal r) × AreLinesOf asked r []
  makes_some None makes other = absurd (other makes.0)
  makes_some (Some r) makes other = (ap (λ (x : UpdateReply). refused x) makes.0, refl)

  pub object_of_refused : (text : List ℕ) → Makes zone update refusal reply change → reply ≢ NoError → text ≡ outcome_text [] (refused reply) → IsPlanObject Answers asker asked text
  object_of_refused text makes other e =
      let both = makes_some refusal makes other in (
        [],
        both.1,
        object_made Answers (array_of []) (refused reply) [] text refl e ∙ ap (λ (o : OutcomeOf). outcome_object Answers (array_of []) o ++ 10 ∷ []) both.0,
      )
