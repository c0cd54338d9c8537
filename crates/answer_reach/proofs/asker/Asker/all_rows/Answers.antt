use Rattle.std.proofs.Common.{◌≡◌, List, sym, ap, subst, ◌∙◌}
use Rattle.std.specs.List.Sorted.{IsStrictlySortedBy}
use Rattle.dns_names.specs.Order.{canonical_cmp}
use Rattle.zone_core.specs.Sets.{listing}
use Rattle.zone_core.specs.Zones.{ZoneOf}
use Rattle.zone_core.specs.Delegations.{AreNamesOf}
use Rattle.zone_answers.specs.Answers.{Name}
use Rattle.std.proofs.lemmas.Result.{IfOk-weaker}
use Rattle.answer_reach.specs.ReachTests.{named, IsMap}
use Rattle.answer_reach.proofs.GrowLemmas.{map_sorted}
use Rattle.answer_reach.proofs.SkippedLemmas.{stays_up}
use Rattle.answer_reach.proofs.asker.Asker.all_rows.Goals as goal

pub lists-requires : goal.lists-requires
lists-requires c = subst (λ (names : List Name). IsStrictlySortedBy canonical_cmp names) (sym c.deref.ensures.value) c.in_ok-known.ensures.order

pub whole-requires : goal.whole-requires
whole-requires c =
    map_sorted c.args.self.now.rights.now.rules c.args.self.now.rights.now.caller c.args.self.now.index.now.origin (listing c.args.self.now.index.now.records) c.deref.result.now c.in_ok-lists.lists (subst (λ (names : List Name). IsStrictlySortedBy canonical_cmp names) (sym c.deref.ensures.value) c.in_ok-known.ensures.order) c.in_ok-lists.ensures

pub rows_for-requires-clause-sorted : goal.rows_for-requires-clause-sorted
rows_for-requires-clause-sorted c =
    map_sorted c.args.self.now.rights.now.rules c.args.self.now.rights.now.caller c.args.self.now.index.now.origin (listing c.args.self.now.index.now.records) c.deref.result.now c.in_ok-lists.lists (subst (λ (names : List Name). IsStrictlySortedBy canonical_cmp names) (sym c.deref.ensures.value) c.in_ok-known.ensures.order) c.in_ok-lists.ensures

pub rows_for-requires-clause-stays : goal.rows_for-requires-clause-stays
rows_for-requires-clause-stays c =
    stays_up c.args.self.now.rights.now.rules c.args.self.now.rights.now.caller c.args.self.now.index.now.origin (listing c.args.self.now.index.now.records) c.deref.result.now c.in_ok-lists.lists c.in_ok-lists.ensures

pub returns : goal.returns
returns c =
    let zone : c.zone-zone.result.now ≡ c.args.self.now.index.now = c.zone-zone.ensures in
    let o : c.origin.result.now ≡ c.args.self.now.index.now.origin = c.origin.ensures.value ∙ ap (λ (z : ZoneOf). z.origin) zone in
    let r : c.records.result.now ≡ listing c.args.self.now.index.now.records = c.records.ensures.value ∙ ap (λ (z : ZoneOf). listing z.records) zone in
    let given : c.rules-rules.result.now ≡ c.args.self.now.rights.now.rules = c.rules-rules.ensures.rules ∙ c.policy.ensures in
    let all : named c.origin.result.now c.rules-rules.result.now c.records.result.now ≡ named c.args.self.now.index.now.origin c.args.self.now.rights.now.rules (listing c.args.self.now.index.now.records) =
    λ i. named (o i) (given i) (r i) in
    let known : AreNamesOf c.in_ok-known.known.items (named c.args.self.now.index.now.origin c.args.self.now.rights.now.rules (listing c.args.self.now.index.now.records)) =
    subst (λ (l : List Name). AreNamesOf c.in_ok-known.known.items l) all c.in_ok-known.ensures in
    IfOk-weaker c.rows_for.result _ _ (λ rows each.
    record {
      names = c.deref-2.result.now;
      known = subst (λ (l : List Name). AreNamesOf l (named c.args.self.now.index.now.origin c.args.self.now.rights.now.rules (listing c.args.self.now.index.now.records))) (sym c.deref-2.ensures.value) known;
      lists = c.in_ok-lists.lists;
      are = subst (λ (l : List Name). IsMap c.args.self.now.rights.now.rules c.args.self.now.rights.now.caller c.args.self.now.index.now.origin (listing c.args.self.now.index.now.records) l c.in_ok-lists.lists) (c.deref.ensures.value ∙ sym c.deref-2.ensures.value) c.in_ok-lists.ensures;
      each = each;
    }) c.rows_for.ensures
