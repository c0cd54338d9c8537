use Rattle.cli_store.proofs.LogLaws.{changes_are_asked, receipts_are_asked}
use Rattle.cli_store.proofs.list_laws.asked_is_printed.Goals as goal

pub returns : goal.returns
returns c = record { changes = changes_are_asked; receipts = receipts_are_asked }
