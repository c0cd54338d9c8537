use Rattle.std.proofs.Common.{[], option_map, refl, sym, subst, ◌∙◌}
use Rattle.office_model.specs.States.{subtree_at, zone_at}
use Rattle.office_model.specs.Tables.{included}
use Rattle.office_core.proofs.SubtreeLemmas.{none_in_order}
use Rattle.office_core.proofs.SubtreesLemmas.{AreSoFar, zones_in_order, so_far_none, so_far_more}
use Rattle.office_core.proofs.subtrees.within_each.Goals as goal

pub loop-top-init : goal.loop-top-init
loop-top-init g c = record {
  order = none_in_order c.new-all.result.items c.new-all.ensures.items;
  grants = refl;
  so_far = λ honest s holds. subst (AreSoFar c.args.grants.now (zone_at s c.args.origin.now) []) (sym c.new-all.ensures.items) (so_far_none c.args.grants.now (zone_at s c.args.origin.now));
  same = λ s holds. holds;
  only = λ honest s holds. holds;
  crash = λ s t leaves. leaves;
  honest = λ honest. honest;
  counts = refl;
}

pub loop-top-preserved : goal.loop-top-preserved
loop-top-preserved g c = record {
  order = c.in_ok-all.ensures.order;
  grants = c.subtree.ensures.same ∙ c.loop-top.invariant.grants;
  so_far = λ honest s holds.
      let origin = c.args.origin.now in
      let tops = c.args.tops.now in
      so_far_more c.args.grants.now (zone_at s origin) tops c.loop-top.top-index c.top-item.result c.loop-top.all.items c.in-Some.more.items c.in_ok-all.all.items c.loop-top-test.true c.top-item.is
      (zones_in_order s origin tops (g.met.T.ZoneTable.zones c.args.table.now s holds) c.requires.apart)
      (sym (λ k. option_map (λ rs. rs.items) (c.in-Some.is k))
      ∙ c.in_ok-more.ensures.answer honest s (c.loop-top.invariant.same s holds)
      ∙ (λ k. option_map (included (c.loop-top.invariant.grants k)) (subtree_at s origin c.top-item.result)))
      c.in_ok-all.ensures.whole
      (c.loop-top.invariant.so_far (c.subtree.ensures.reads.3 honest) s holds);
  same = λ s holds. c.subtree.ensures.reads.0 s (c.loop-top.invariant.same s holds);
  only = λ honest s holds. c.loop-top.invariant.only (c.subtree.ensures.reads.3 honest) s (c.in_ok-more.ensures.reads.1 honest s holds);
  crash = λ s t leaves. c.subtree.ensures.reads.2 s t (c.loop-top.invariant.crash s t leaves);
  honest = λ honest. c.loop-top.invariant.honest (c.subtree.ensures.reads.3 honest);
  counts = c.in_ok-more.ensures.reads.4 ∙ c.loop-top.invariant.counts;
}
