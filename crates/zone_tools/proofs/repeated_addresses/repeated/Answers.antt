use Rattle.std.proofs.Common.{◌≡◌, ◌∙◌, ap, sym, subst, List}
use Rattle.std.specs.List.{filter}
use Rattle.std.specs.List.Sorted.{IsPermutation, IsSorted}
use Rattle.std.proofs.lemmas.Result.{IfOk-weaker}
use Rattle.dns_data.specs.declared.record.Record.{Record}
use Rattle.zone_tools.specs.SharedAddresses.{HaveRepeated, same_neighbours}
use Rattle.zone_tools.proofs.RepeatedLemmas.{are_repeated}
use Rattle.zone_tools.proofs.repeated_addresses.repeated.Goals as goal

pub returns : goal.returns
returns c =
    let rs = c.args.records.now in
    let sorted = c.in_ok-hosts.hosts.items in
    let there = subst (λ (hosts : List Record). IsPermutation hosts sorted) c.in_ok-host_addresses.ensures c.in_ok-hosts.ensures.same in
    let same = ap same_neighbours c.deref.ensures.value in
    IfOk-weaker c.same_neighbours.result (λ same. same.items ≡ same_neighbours c.deref.result.now) (λ repeated. HaveRepeated rs repeated.items)
    (λ found e. subst (HaveRepeated rs) (sym (e ∙ same)) (are_repeated rs sorted there c.in_ok-hosts.ensures.order)) c.same_neighbours.ensures
