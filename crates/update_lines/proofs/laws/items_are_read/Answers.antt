use Rattle.update_lines.proofs.PrintLaws.{update_printed, update_read}
use Rattle.update_lines.proofs.laws.items_are_read.Goals as goal

pub returns : goal.returns
returns c = λ update is. (update_printed update is, update_read update is)
