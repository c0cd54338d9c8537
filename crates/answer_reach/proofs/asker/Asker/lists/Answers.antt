use Rattle.std.proofs.Common.{◌≡◌, List, sym, ap, subst, ◌∙◌}
use Rattle.std.specs.List.{filter, flat_map}
use Rattle.std.specs.List.Sorted.{IsSorted}
use Rattle.std.proofs.lemmas.List.Kept.{IsStrictlySortedBy-filter}
use Rattle.dns_names.specs.Order.{canonical_cmp}
use Rattle.dns_data.specs.declared.record.Record.{Record}
use Rattle.dns_data.specs.declared.record_type.RecordType.TheVariants as types
use Rattle.zone_core.specs.Sets.{listing}
use Rattle.zone_core.specs.Zones.{ZoneOf}
use Rattle.zone_core.specs.Delegations.{AreNamesOf}
use Rattle.zone_answers.specs.Answers.{Name}
use Rattle.zone_answers.proofs.CutLemmas.{sorted_names}
use Rattle.answer_reach.specs.Reach.{may_come}
use Rattle.answer_reach.specs.ReachTests.{stays_cut, staying_from, opens}
use Rattle.answer_reach.proofs.PlaceLemmas.{stays_there, opens_there}
use Rattle.answer_reach.proofs.asker.Asker.lists.Goals as goal

pub openers-requires : goal.openers-requires
openers-requires c =
    let test = stays_cut c.args.self.now.rights.now.rules c.args.self.now.rights.now.caller c.args.self.now.index.now.origin (listing c.args.self.now.index.now.records) in
    let all = ap (filter test) c.deref.ensures.value ∙ stays_there c.args.self.now.rights.now.rules c.args.self.now.rights.now.caller c.args.self.now.index.now.origin (listing c.args.self.now.index.now.records) c.args.known.now c.in_ok-places.places.items c.in_ok-places.ensures in
    subst (λ (names : List Name). IsSorted canonical_cmp names) (sym (c.deref-2.ensures.value ∙ c.in_ok-cuts.ensures ∙ all)) (sorted_names (filter test c.args.known.now) (IsStrictlySortedBy-filter canonical_cmp test c.args.known.now c.requires))

pub returns : goal.returns
returns c =
    let rs = listing c.args.self.now.index.now.records in
    let rows : c.records.result.now ≡ rs = c.records.ensures.value ∙ ap (λ (z : ZoneOf). listing z.records) c.zone.ensures in
    let home : c.origin.result.now ≡ c.args.self.now.index.now.origin = c.origin.ensures.value ∙ ap (λ (z : ZoneOf). z.origin) c.zone-2.ensures in
    record {
      arising = c.in_ok-arising.ensures;
      staying = subst (λ (l : List Record). AreNamesOf c.in_ok-staying.staying.items (flat_map (staying_from c.args.self.now.rights.now.rules c.args.self.now.rights.now.caller c.args.self.now.index.now.origin (listing c.args.self.now.index.now.records)) l)) rows c.in_ok-staying.ensures;
      under = c.in_ok-under.ensures;
      cuts = c.in_ok-cuts.ensures ∙ ap (filter (stays_cut c.args.self.now.rights.now.rules c.args.self.now.rights.now.caller c.args.self.now.index.now.origin (listing c.args.self.now.index.now.records))) c.deref.ensures.value ∙ stays_there c.args.self.now.rights.now.rules c.args.self.now.rights.now.caller c.args.self.now.index.now.origin (listing c.args.self.now.index.now.records) c.args.known.now c.in_ok-places.places.items c.in_ok-places.ensures;
      openers =
          c.in_ok-openers.ensures
          ∙ (λ i. filter (opens c.args.self.now.rights.now.rules c.args.self.now.rights.now.caller c.args.self.now.index.now.origin (listing c.args.self.now.index.now.records) (c.deref-2.ensures.value i)) (c.deref-3.ensures.value i))
          ∙ opens_there c.args.self.now.rights.now.rules c.args.self.now.rights.now.caller c.args.self.now.index.now.origin (listing c.args.self.now.index.now.records) c.args.known.now c.in_ok-places.places.items c.in_ok-places.ensures c.in_ok-cuts.cuts.items;
      soa = c.may_come-soa.ensures ∙ ap (λ (n : Name). may_come c.args.self.now.rights.now.rules c.args.self.now.rights.now.caller c.args.self.now.index.now.origin (listing c.args.self.now.index.now.records) n types.Soa) home;
      serial = c.any_updates-serial.ensures;
    }
