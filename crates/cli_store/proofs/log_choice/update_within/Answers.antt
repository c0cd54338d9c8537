use Rattle.std.proofs.Common.{◌∙◌, ap}
use Rattle.std.specs.List.{list_any}
use Rattle.dns_names.specs.Labels.{is_within}
use Rattle.zone_core.specs.Updates.{tested_name, acted_name}
use Rattle.cli_store.proofs.LogLemmas.{by_first, by_second, items_within}
use Rattle.cli_store.proofs.log_choice.update_within.Goals as goal

pub returns-then-prerequisites_within : goal.returns-then-prerequisites_within
returns-then-prerequisites_within c =
    let top = c.args.top.now in
    let update = c.args.update.now in
    let tested = c.prerequisites_within.ensures ∙ ap (list_any (λ p. is_within (tested_name p) top)) c.prerequisites.ensures.value in
    by_first (list_any (λ p. is_within (tested_name p) top) update.prerequisites) (list_any (λ op. is_within (acted_name op) top) update.operations) c.prerequisites_within.result tested c.if-prerequisites_within.true
    ∙ items_within update top

pub returns-else-prerequisites_within : goal.returns-else-prerequisites_within
returns-else-prerequisites_within c =
    let top = c.args.top.now in
    let update = c.args.update.now in
    let tested = c.prerequisites_within.ensures ∙ ap (list_any (λ p. is_within (tested_name p) top)) c.prerequisites.ensures.value in
    let acted = c.operations_within.ensures ∙ ap (list_any (λ op. is_within (acted_name op) top)) c.operations.ensures.value in
    by_second (list_any (λ p. is_within (tested_name p) top) update.prerequisites) (list_any (λ op. is_within (acted_name op) top) update.operations) c.prerequisites_within.result c.operations_within.result tested c.if-prerequisites_within.false acted
    ∙ items_within update top
