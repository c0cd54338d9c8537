use Rattle.std.proofs.Common.{◌≡◌, List, sym, ap, subst, ◌∙◌}
use Rattle.std.proofs.lemmas.Result.{IfOk-weaker}
use Rattle.std.specs.List.Sorted.{IsSorted}
use Rattle.dns_names.specs.Order.{canonical_cmp}
use Rattle.zone_core.specs.Sets.{listing}
use Rattle.zone_core.specs.Zones.{ZoneOf}
use Rattle.zone_core.specs.Delegations.{AreNamesOf, cut_owners}
use Rattle.zone_answers.specs.Answers.{Name}
use Rattle.answer_reach.proofs.GrowLemmas.{sorted_names_of}
use Rattle.answer_reach.proofs.asker.Asker.cut_places.Goals as goal

pub places-requires : goal.places-requires
places-requires c =
    subst (λ (names : List Name). IsSorted canonical_cmp names) (sym c.deref.ensures.value)
    (sorted_names_of c.in_ok-cuts.cuts.items (cut_owners c.origin.result.now c.records.result.now) c.in_ok-cuts.ensures)

pub returns : goal.returns
returns c =
    let z = c.args.self.now.index.now in
    let o : c.origin.result.now ≡ z.origin = c.origin.ensures.value ∙ ap (λ (x : ZoneOf). x.origin) c.zone-zone.ensures in
    let r : c.records.result.now ≡ listing z.records = c.records.ensures.value ∙ ap (λ (x : ZoneOf). listing x.records) c.zone-zone.ensures in
    let all : cut_owners c.origin.result.now c.records.result.now ≡ cut_owners z.origin (listing z.records) = λ i. cut_owners (o i) (r i) in
    let cuts = c.deref.result.now in
    IfOk-weaker c.places.result _ _ (λ names are. record {
      cuts = cuts;
      owners = subst (λ (l : List Name). AreNamesOf l (cut_owners z.origin (listing z.records))) (sym c.deref.ensures.value) (subst (λ (l : List Name). AreNamesOf c.in_ok-cuts.cuts.items l) all c.in_ok-cuts.ensures);
      are = are;
    }) c.places.ensures
