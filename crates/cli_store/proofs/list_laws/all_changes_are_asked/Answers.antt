use Rattle.cli_store.proofs.LogLaws.{all_changes_are_asked}
use Rattle.cli_store.proofs.list_laws.all_changes_are_asked.Goals as goal

pub returns : goal.returns
returns c = all_changes_are_asked
