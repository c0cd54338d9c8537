use Rattle.std.proofs.Common.{◌≢◌, sym, ◌∙◌, Equal}
use Rattle.dns_data.specs.RecordOrder.{data_order}
use Rattle.dns_data.proofs.OrderLemmas.{decided}
use Rattle.dns_data.proofs.RecordOrderLemmas.{record_is, answers, differ_answers}
use Rattle.dns_data.proofs.order.record_order.Goals as goal

pub returns-in-Equal-clause-same : goal.returns-in-Equal-clause-same
returns-in-Equal-clause-same c =
    answers c.args.first.now c.args.second.now (sym c.cmp.ensures ∙ c.in-Equal.is) c.data_order.result c.data_order.ensures.same

pub returns-in_default : goal.returns-in_default
returns-in_default c =
    let a = c.args.first.now in
    let b = c.args.second.now in
    let differ : c.cmp.result ≢ Equal = c.in_default.not-Equal in
    record {
      order = decided c.cmp.result (data_order a.rdata b.rdata) differ ∙ rw c.cmp.ensures (record_is a b);
      same = differ_answers a b c.cmp.result c.cmp.ensures differ;
    }
