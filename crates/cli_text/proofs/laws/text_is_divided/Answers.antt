use Rattle.cli_text.proofs.PartLemmas.{is_divided, divided_is}
use Rattle.cli_text.proofs.laws.text_is_divided.Goals as goal

pub returns : goal.returns
returns c = λ text parts. (is_divided text parts, divided_is text parts)
