use Rattle.cli_updates.proofs.FewItemLaws.{splits_have_few_items}
use Rattle.cli_updates.proofs.SerialLaws.{advances_keep_order}
use Rattle.cli_updates.proofs.SplitLaws.{splits_are_parts}
use Rattle.cli_updates.proofs.laws.splits_are_parts.Goals as goal

pub returns-clause-parts : goal.returns-clause-parts
returns-clause-parts c = splits_are_parts

pub returns-clause-few : goal.returns-clause-few
returns-clause-few c = splits_have_few_items

pub returns-clause-serials : goal.returns-clause-serials
returns-clause-serials c = advances_keep_order
