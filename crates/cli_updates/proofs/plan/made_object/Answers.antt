use Rattle.std.proofs.Common.{◌∙◌, ap, subst, option_map, List, ℕ}
use Rattle.std.specs.Prelude.{string_bytes}
use Rattle.std.proofs.lemmas.Result.{IfOk-weaker}
use Rattle.zone_core.specs.Changes.{change_in}
use Rattle.zone_core.specs.Zones.{ZoneOf, serial_of}
use Rattle.cli_text.specs.ChangedAnswerLines.{AreAnswerLines}
use Rattle.cli_text.specs.LineObjects.{objects_array}
use Rattle.cli_text.specs.declared.line_objects.LineKind.TheVariants as kind
use Rattle.cli_updates.specs.PlanObjects.{answers_piece, made, outcome_text}
use Rattle.cli_updates.proofs.plan.made_object.Goals as goal

pub returns : goal.returns
returns c =
    let change = option_map change_in c.args.change in
    let lines = string_bytes c.in_ok-lines.lines in
    let are = subst (λ (z : ZoneOf). AreAnswerLines c.args.zone z lines) c.in_ok-outcome.ensures.zone c.in_ok-lines.ensures in
    let piece =
    c.deref.ensures.value ∙ (c.in_ok-member.ensures ∙ ap (λ (bytes : List ℕ). answers_piece (objects_array kind.Questions bytes)) c.as_bytes.ensures.value) in
    let serial = c.serial-serial.ensures ∙ ap serial_of c.in_ok-outcome.ensures.zone in
    IfOk-weaker c.outcome_text.result _ _ (λ text e. (lines, are, e ∙ (λ i. outcome_text (piece i) (made change (serial i))))) c.outcome_text.ensures
