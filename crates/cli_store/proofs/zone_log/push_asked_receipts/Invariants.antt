use Rattle.std.proofs.Common.{◌≡◌, ◌++◌, take}
use Rattle.std.specs.List.{filter, flat_map}
use Rattle.cli_store.specs.Log.{asks_receipt, receipt_shown}
use Rattle.cli_store.proofs.zone_log.push_asked_receipts.Given as goal

abbrev pub invariant-loop-kept : goal.invariant-loop-kept
invariant-loop-kept l = l.text.items ≡ l.initial.text.items ++ flat_map (receipt_shown l.asked.form) (filter (asks_receipt l.asked) (take l.kept-index l.all))
