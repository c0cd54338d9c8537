use Rattle.std.proofs.Common.{◌≡◌, ◌∙◌, ap, sym, subst, List}
use Rattle.std.specs.List.{filter}
use Rattle.std.proofs.lemmas.Result.{IfOk-weaker}
use Rattle.dns_data.specs.declared.record.Record.{Record}
use Rattle.zone_tools.specs.SharedAddresses.{AreShared, AreDistinct, has_place, is_shared}
use Rattle.zone_tools.proofs.SharedLemmas.{shared_are}
use Rattle.zone_tools.proofs.RepeatedLemmas.{are_records, shared_of_repeated}
use Rattle.zone_tools.proofs.shared.shared_addresses.Goals as goal

pub returns : goal.returns
returns c =
    let origin = c.args.origin.now in
    let rs = c.args.records.now in
    let repeated = c.in_ok-repeated.repeated.items in
    let have = c.in_ok-repeated.ensures in
    let uses = c.in_ok-records.records.items in
    let placed = c.in_ok-placed.ensures ∙ ap (filter (has_place origin)) c.deref.ensures.value in
    let distinct = subst (λ (all : List Record). AreDistinct all uses) placed c.in_ok-records.ensures in
    let same = ap (λ (us : List Record). filter (is_shared us) us) c.deref-2.ensures.value in
    let are = shared_are origin repeated uses (are_records origin rs repeated have c.reveal_records.ensures) distinct in
    IfOk-weaker c.shared.result (λ shared. shared.items ≡ filter (is_shared c.deref-2.result.now) c.deref-2.result.now) (λ shared. AreShared origin rs shared.items)
    (λ shared e. shared_of_repeated origin rs repeated have shared.items (subst (AreShared origin repeated) (sym (e ∙ same)) are)) c.shared.ensures
