use Rattle.std.proofs.Common.{◌+◌, refl, subst, ap, ◌∙◌}
use Rattle.std.specs.Prelude.{IsSome}
use Rattle.std.specs.BTreeMap.{get}
use Rattle.dns_names.specs.Order.{canonical_cmp}
use Rattle.cli_store.proofs.ZoneListLemmas.{one_counted, none_counted}
use Rattle.cli_store.proofs.zone_list.count_one.Goals as goal

pub returns-in-Some-clause-counts : goal.returns-in-Some-clause-counts
returns-in-Some-clause-counts c = λ other.
    let there = c.in-Some.ensures.value in
    let written = c.get_mut.follows.holds (c.in-Some.count.now + 1) in
    (written.3 (subst IsSome there refl)).0 other ∙ one_counted (get canonical_cmp c.args.counts.now) c.args.origin.now other c.in-Some.count.now there

pub returns-in-None-clause-counts : goal.returns-in-None-clause-counts
returns-in-None-clause-counts c = λ other.
    ap (λ m. get canonical_cmp m other) c.get_mut.follows.holds-at-none ∙ none_counted (get canonical_cmp c.args.counts.now) c.args.origin.now other c.in-None.ensures.value
