use Rattle.std.proofs.Common.{arith}
use Rattle.update_lines.proofs.FieldLemmas.{record_short}
use Rattle.update_lines.proofs.item.read_record.Goals as goal

pub returns-in_default : goal.returns-in_default
returns-in_default c = record_short c.args.items.now (omega arith)
