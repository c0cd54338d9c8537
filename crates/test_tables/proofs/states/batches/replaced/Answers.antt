use Rattle.std.proofs.Common.{sym, ◌∙◌}
use Rattle.std.proofs.lemmas.Bool.{not-false}
use Rattle.dns_names.specs.Order.{same_name}
use Rattle.zone_core.proofs.SetLemmas.{name_is}
use Rattle.test_tables.proofs.states.batches.replaced.Goals as goal

pub replacement_batch-requires-clause-origin : goal.replacement_batch-requires-clause-origin
replacement_batch-requires-clause-origin c =
    let differ = sym c.ne.ensures ∙ c.if-ne.false in
    let same = name_is c.origin.result.now c.origin-else-branch.result.now (not-false (same_name c.origin.result.now c.origin-else-branch.result.now) differ) in
    sym c.origin.ensures.value ∙ same ∙ c.origin-else-branch.ensures.value
