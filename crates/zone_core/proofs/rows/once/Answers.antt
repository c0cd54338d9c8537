use Rattle.std.proofs.Common.{rules, sym, ap, subst, ◌∙◌}
use Rattle.std.proofs.lemmas.Fn.{dedup_same}
use Rattle.zone_core.specs.Sets.{set_of, InOrder}
use Rattle.zone_core.proofs.SortLemmas.{repeats, dedup_set, dedup_order}
use Rattle.zone_core.proofs.rows.once.Goals as goal

pub returns-clause-order : goal.returns-clause-order
returns-clause-order c =
    let is = dedup_same _ repeats _ (λ x y b g v w called. search rules) c.args.records.items c.dedup_by.new.self.items c.dedup_by.ensures.filtered in
    subst InOrder (sym is) (dedup_order c.args.records.items c.requires)

pub returns-clause-set : goal.returns-clause-set
returns-clause-set c =
    let is = dedup_same _ repeats _ (λ x y b g v w called. search rules) c.args.records.items c.dedup_by.new.self.items c.dedup_by.ensures.filtered in
    ap set_of is ∙ dedup_set c.args.records.items
