use Rattle.std.proofs.Common.{sym, ◌∙◌}
use Rattle.zone_core.specs.Sets.{set_of}
use Rattle.zone_core.proofs.WholeSetLemmas.{held_before}
use Rattle.zone_core.proofs.verdict.next_set_fails.Goals as goal

pub returns-then-is_tested : goal.returns-then-is_tested
returns-then-is_tested c =
    sym (held_before (set_of c.args.records.now) c.args.all.now c.args.earlier.now c.args.prerequisite.now c.requires.earlier (sym c.is_tested.ensures ∙ c.if-is_tested.true))
