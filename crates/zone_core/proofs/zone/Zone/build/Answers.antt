use Rattle.std.proofs.Common.{◌≡◌, sym, ap, subst, ◌∙◌, None, Ok}
use Rattle.std.specs.List.{AllByRecursion}
use Rattle.dns_data.specs.Rdata.{IsRecord}
use Rattle.zone_core.specs.Sets.{set_of, InOrder}
use Rattle.zone_core.specs.Zones.{fault_in, min_rrset_ttls, latest}
use Rattle.zone_core.specs.Views.{AreOfZone, min_ttl_rows}
use Rattle.zone_core.proofs.MinTtlLemmas.{min_ttl_order, min_ttl_set}
use Rattle.zone_core.proofs.WholeLemmas.{min_ttl_zone}
use Rattle.zone_core.proofs.BuildLemmas.{built_ok, built_refuses, never_refused, zone_is}
use Rattle.zone_core.proofs.zone.Zone.build.Goals as goal

pub fault_in-requires : goal.fault_in-requires
fault_in-requires c = subst InOrder (sym (c.deref-2.ensures.value ∙ c.in_ok-records.ensures)) (min_ttl_order c.in_ok-latest_rows.field-0.items c.in_ok-latest_rows.ensures.order)

pub of_rows-requires : goal.of_rows-requires
of_rows-requires c =
    let origin = c.args.origin in
    let is = c.in_ok-records.ensures in
    let all : AllByRecursion IsRecord (min_ttl_rows c.in_ok-latest_rows.field-0.items) = subst (AllByRecursion IsRecord) (c.deref.ensures.value ∙ is) c.reveal_records.ensures in
    let none : fault_in origin (set_of (min_ttl_rows c.in_ok-latest_rows.field-0.items)) ≡ None = ap (λ xs. fault_in origin (set_of xs)) (sym (c.deref-2.ensures.value ∙ is)) ∙ sym c.fault_in.ensures ∙ c.in-None.is in
    subst (AreOfZone origin) (sym is) (min_ttl_zone origin c.in_ok-latest_rows.field-0.items c.in_ok-latest_rows.ensures.order all none)

pub returns-in-Some-clause-only : goal.returns-in-Some-clause-only
returns-in-Some-clause-only c = λ zone.
    let rs = c.in_ok-records.records.items in
    let same : set_of rs ≡ min_rrset_ttls (latest c.args.records.items) = ap set_of c.in_ok-records.ensures ∙ min_ttl_set c.in_ok-latest_rows.field-0.items c.in_ok-latest_rows.ensures.order ∙ ap min_rrset_ttls c.in_ok-latest_rows.ensures.set in
    let fault : c.fault_in.result ≡ fault_in c.args.origin (set_of rs) = c.fault_in.ensures ∙ ap (λ xs. fault_in c.args.origin (set_of xs)) c.deref-2.ensures.value in
    absurd (never_refused c.args.origin c.args.records.items rs same c.fault_in.result c.in-Some.fault fault c.in-Some.is zone)

pub returns-in-Some-clause-exact : goal.returns-in-Some-clause-exact
returns-in-Some-clause-exact c =
    let rs = c.in_ok-records.records.items in
    let same : set_of rs ≡ min_rrset_ttls (latest c.args.records.items) = ap set_of c.in_ok-records.ensures ∙ min_ttl_set c.in_ok-latest_rows.field-0.items c.in_ok-latest_rows.ensures.order ∙ ap min_rrset_ttls c.in_ok-latest_rows.ensures.set in
    let fault : c.fault_in.result ≡ fault_in c.args.origin (set_of rs) = c.fault_in.ensures ∙ ap (λ xs. fault_in c.args.origin (set_of xs)) c.deref-2.ensures.value in
    built_refuses c.args.origin c.args.records.items rs same c.fault_in.result c.in-Some.fault fault c.in-Some.is

pub returns-in-None-clause-only : goal.returns-in-None-clause-only
returns-in-None-clause-only c = λ zone.
    let rs = c.in_ok-records.records.items in
    let same : set_of rs ≡ min_rrset_ttls (latest c.args.records.items) = ap set_of c.in_ok-records.ensures ∙ min_ttl_set c.in_ok-latest_rows.field-0.items c.in_ok-latest_rows.ensures.order ∙ ap min_rrset_ttls c.in_ok-latest_rows.ensures.set in
    let fault : c.fault_in.result ≡ fault_in c.args.origin (set_of rs) = c.fault_in.ensures ∙ ap (λ xs. fault_in c.args.origin (set_of xs)) c.deref-2.ensures.value in
    ap Ok (zone_is c.args.origin c.args.records.items rs same ∙ sym c.of_rows.ensures)

pub returns-in-None-clause-exact : goal.returns-in-None-clause-exact
returns-in-None-clause-exact c =
    let rs = c.in_ok-records.records.items in
    let same : set_of rs ≡ min_rrset_ttls (latest c.args.records.items) = ap set_of c.in_ok-records.ensures ∙ min_ttl_set c.in_ok-latest_rows.field-0.items c.in_ok-latest_rows.ensures.order ∙ ap min_rrset_ttls c.in_ok-latest_rows.ensures.set in
    let fault : c.fault_in.result ≡ fault_in c.args.origin (set_of rs) = c.fault_in.ensures ∙ ap (λ xs. fault_in c.args.origin (set_of xs)) c.deref-2.ensures.value in
    built_ok c.args.origin c.args.records.items rs same c.fault_in.result fault c.in-None.is ∙ ap Ok (sym c.of_rows.ensures)
