use Rattle.cli_store.proofs.ZoneListLaws.{each_receipt_counts_once}
use Rattle.cli_store.proofs.list_laws.each_receipt_counts_once.Goals as goal

pub returns : goal.returns
returns c = each_receipt_counts_once
