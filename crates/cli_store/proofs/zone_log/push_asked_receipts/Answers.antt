use Rattle.std.specs.List.{filter, flat_map}
use Rattle.cli_store.specs.Log.{asks_receipt, receipt_shown}
use Rattle.cli_store.proofs.LogLemmas.{all_taken}
use Rattle.cli_store.proofs.zone_log.push_asked_receipts.Goals as goal

pub returns : goal.returns
returns c =
    let l = c.loop-kept in
    all_taken (λ ks. flat_map (receipt_shown c.args.asked.now.form) (filter (asks_receipt c.args.asked.now) ks)) c.args.text.now.items c.args.all.now l.kept-index l.text.items c.loop-kept-test.false l.invariant
