use Rattle.std.proofs.Common.{[], List, take, ap, sym, ◌∙◌}
use Rattle.zone_core.specs.declared.update.Operation.{Operation}
use Rattle.zone_core.specs.Updates.{update_of}
use Rattle.zone_tools.proofs.IdleLemmas.{first_build}
use Rattle.zone_tools.proofs.idle.until.Goals as goal

pub unreachable-requires : goal.unreachable-requires
unreachable-requires c =
    first_build c.args.update.now c.args.count c.in-Err.field-0 c.operations.ensures.update c.requires
    (sym (c.build.ensures.exact ∙ ap (λ p. update_of p c.in_ok-operations.operations.items) c.new.ensures.items ∙ ap (λ (ops : List Operation). update_of [] ops) (c.in_ok-operations.ensures ∙ ap (take c.args.count) c.operations.ensures.value)) ∙ c.in-Err.is)
