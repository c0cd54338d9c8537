use Rattle.std.proofs.Common.{arith}
use Rattle.cli_text.proofs.ItemLemmas.{bad_line-within}
use Rattle.cli_text.proofs.apply.read_update.Goals as goal

pub overflow_add-lines-in-Err-BadLine : goal.overflow_add-lines-in-Err-BadLine
overflow_add-lines-in-Err-BadLine c =
    let refused = rw c.in-Err-BadLine.field-0-is at c.in-Err-BadLine.ensures.exact in
    let line = bad_line-within c.args.parts.now.items.now c.in-Err-BadLine.line refused in
    omega (arith, line, c.line_ends.ensures.within, c.line_ends-in-Err-BadLine.ensures.within, c.requires)
