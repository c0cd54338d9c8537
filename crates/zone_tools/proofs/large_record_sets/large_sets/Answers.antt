use Rattle.std.proofs.Common.{ap, subst, ◌∙◌}
use Rattle.std.specs.List.{filter}
use Rattle.std.proofs.lemmas.List.{take_all}
use Rattle.zone_core.specs.Sets.{listing, InOrder}
use Rattle.zone_tools.specs.LargeSets.{begins_large}
use Rattle.zone_tools.proofs.LargeSetLemmas.{large_are}
use Rattle.zone_tools.proofs.large_record_sets.large_sets.Goals as goal

pub returns-clause-exact : goal.returns-clause-exact
returns-clause-exact c =
    let rs = listing c.args.zone.now.records in
    let all = c.records-record-items.result.now in
    c.loop-record.invariant ∙ ap (filter (begins_large c.args.most rs)) (take_all c.loop-record.record-index all c.loop-record-test.false ∙ c.records-record-items.ensures.value)

pub returns-clause-found : goal.returns-clause-found
returns-clause-found c =
    large_are c.args.most (listing c.args.zone.now.records) c.loop-record.found.items (subst InOrder c.records-record-items.ensures.value c.records-record-items.ensures.order) (returns-clause-exact c)
