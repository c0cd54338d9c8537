-- The lines of a plan, by what the office would answer.
use Rattle.std.proofs.Common.{◌≡◌, ◌≢◌, ◌∙◌, ℕ, List, [], ◌++◌, Option, Some, None, refl, sym, ap, subst, append_assoc, append-nil}
use Rattle.zone_core.specs.Prerequisites.{verdict}
use Rattle.zone_core.specs.Zones.{ZoneOf}
use Rattle.zone_core.specs.Updates.{UpdateOf, first_outside}
use Rattle.zone_core.specs.Effects.{zone_after}
use Rattle.zone_core.specs.Changes.{ChangeOf}
use Rattle.office_model.specs.declared.reply.UpdateReply.{UpdateReply}
use Rattle.office_model.specs.declared.reply.UpdateReply.TheVariants.{NoError}
use Rattle.office_core.specs.Footprints.{footprint}
use Rattle.office_core.specs.Permissions.{first_denial}
use Rattle.office_core.specs.Machine.{zone_refusal}
use Rattle.office_core.specs.Steps.{Makes, held_in}
use Rattle.office_core.proofs.MadeLemmas.{never_made}
use Rattle.cli_core.specs.declared.job.PlanLines.{PlanLines}
use Rattle.cli_core.specs.declared.job.PlanLines.TheVariants.{Records, Answers, Explained}
use Rattle.cli_updates.specs.IdleLines.{idle_lines}
use Rattle.cli_updates.specs.Plan.{AskerOf, ZoneUpdateOf, reply_line, change_lines, serial_line, plan_lines, planned, idle_lines_of, AreLinesOf, IsReplyText, AreLinesAfter}

module _ (asker : AskerOf) (zone : ZoneOf) (update : UpdateOf) (reply : UpdateReply) (change : Option ChangeOf) where
  abbrev asked : ZoneUpdateOf
  asked = record { zone = zone; update = update }

  abbrev refused : Option UpdateReply
  refused = zone_refusal asker.rules asker.caller zone.origin update (held_in zone)

  -- an update that is made is not refused
  none_refused : Makes zone update refused reply change → reply ≡ NoError → refused ≡ None
  none_refused makes is = by_refusal refused refl makes
    where
      by_refusal : (r : Option UpdateReply) → refused ≡ r → Makes zone update r reply change → refused ≡ None
      by_refusal None e made = e
      by_refusal (Some r) e made =
          absurd (never_made (first_outside zone.origin update) (first_denial asker.rules asker.caller (footprint zone.origin update)) (verdict zone.records update.prerequisites)
          (e ∙ ap (λ (x : UpdateReply). Some x) (sym made.0 ∙ is)))

  pub lines_made : Makes zone update refused reply change → reply ≡ NoError
      → planned asker asked ≡ reply_line reply ++ (change_lines change ++ serial_line (zone_after zone update))
  lines_made makes is = by_refusal refused refl makes
    where
      by_refusal : (r : Option UpdateReply) → refused ≡ r → Makes zone update r reply change
          → plan_lines zone update r ≡ reply_line reply ++ (change_lines change ++ serial_line (zone_after zone update))
      by_refusal None e made = λ i. reply_line (sym is i) ++ (change_lines (sym made.1 i) ++ serial_line (zone_after zone update))
      by_refusal (Some r) e made =
          absurd (never_made (first_outside zone.origin update) (first_denial asker.rules asker.caller (footprint zone.origin update)) (verdict zone.records update.prerequisites)
          (e ∙ ap (λ (x : UpdateReply). Some x) (sym made.0 ∙ is)))

  pub lines_refused : Makes zone update refused reply change → reply ≢ NoError → planned asker asked ≡ reply_line reply
  lines_refused makes other = by_refusal refused makes
    where
      by_refusal : (r : Option UpdateReply) → Makes zone update r reply change → plan_lines zone update r ≡ reply_line reply
      by_refusal None made = absurd (other made.0)
      by_refusal (Some r) made = ap reply_line (sym made.0)

  -- ---- in a form

  -- what was appended to the reply and the change of an update that is made
  lines_after : (old new : List ℕ) → Makes zone update refused reply change → reply ≡ NoError → old ≡ reply_line reply ++ change_lines change
      → new ≡ old ++ serial_line (zone_after zone update) → new ≡ planned asker asked
  lines_after old new makes is so e =
      e ∙ (ap (λ bs. bs ++ serial_line (zone_after zone update)) so
      ∙ (append_assoc (reply_line reply) (change_lines change) (serial_line (zone_after zone update)) ∙ sym (lines_made makes is)))

  pub text_made : (form : PlanLines) (old new : List ℕ) → Makes zone update refused reply change → reply ≡ NoError → old ≡ reply_line reply ++ change_lines change
      → AreLinesAfter form zone update old new → IsReplyText form asker asked new
  text_made Records old new makes is so after = lines_after old new makes is so after
  text_made Explained old new makes is so after =
      let whole = old ++ serial_line (zone_after zone update) in
      let idle = idle_lines zone update in
      after ∙ (ap (λ bs. bs ++ idle) (lines_after old whole makes is so refl)
      ∙ ap (λ (r : Option UpdateReply). planned asker asked ++ idle_lines_of asked r) (sym (none_refused makes is)))
  text_made Answers old new makes is so after =
      let whole = old ++ serial_line (zone_after zone update) in (
        after.0,
        subst (λ r. AreLinesOf asked r after.0) (sym (none_refused makes is)) after.1,
        after.2 ∙ ap (λ bs. bs ++ after.0) (lines_after old whole makes is so refl),
      )

  pub text_refused : (form : PlanLines) (text : List ℕ) → Makes zone update refused reply change → reply ≢ NoError → text ≡ reply_line reply → IsReplyText form asker asked text
  text_refused Records text makes other e = e ∙ sym (lines_refused makes other)
  text_refused Explained text makes other e = by_refusal refused refl makes
    where
      by_refusal : (r : Option UpdateReply) → refused ≡ r → Makes zone update r reply change → text ≡ planned asker asked ++ idle_lines_of asked refused
      by_refusal None at made = absurd (other made.0)
      by_refusal (Some r) at made =
          e ∙ (sym (lines_refused makes other)
          ∙ (sym (append-nil (planned asker asked)) ∙ ap (λ (x : Option UpdateReply). planned asker asked ++ idle_lines_of asked x) (sym at)))
  text_refused Answers text makes other e =
      ([], none_after refused makes, e ∙ (sym (lines_refused makes other) ∙ sym (append-nil (planned asker asked))))
    where
      none_after : (r : Option UpdateReply) → Makes zone update r reply change → AreLinesOf asked r []
      none_after None made = absurd (other made.0)
      none_after (Some r) made = refl
