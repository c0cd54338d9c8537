use Rattle.std.proofs.Common.{rules}
use Rattle.std.proofs.lemmas.List.Sorted.{ranks_by}
use Rattle.std.specs.Cmp.{nat_cmp_total}
use Rattle.dns_data.specs.declared.record.Record.{Record}
use Rattle.zone_tools.specs.SharedAddresses.{address_number, number_order}
use Rattle.zone_tools.proofs.PointerLemmas.{sorted_by_calls}
use Rattle.zone_tools.proofs.repeated_addresses.by_number.Goals as goal

pub returns-clause-order : goal.returns-clause-order
returns-clause-order c =
    sorted_by_calls number_order c.sort_by.new.self.items (ranks_by nat_cmp_total (λ (r : Record). address_number r.rdata)) c.in_ok-sort_by.ensures.sorted
    (λ a r f' called. search rules)
