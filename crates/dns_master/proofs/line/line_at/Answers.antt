use Rattle.std.proofs.Common.{◌∙◌, ap, take, drop, arith}
use Rattle.std.proofs.lemmas.List.{length-take-le}
use Rattle.dns_master.proofs.LineLemmas.{counted_on, line_ends_within}
use Rattle.dns_master.proofs.line.line_at.Goals as goal

pub overflow_add-result-2 : goal.overflow_add-result-2
overflow_add-result-2 c =
    let text = c.args.text.now in
    let all = counted_on text c.split_at-2.result.1.now c.args.mark.at c.args.start c.args.mark.line c.line_ends-2.result c.if-start-mark.false c.requires.marks.line (c.split_at-2.ensures.back ∙ ap (drop c.args.mark.at) c.split_at.ensures.front) c.line_ends-2.ensures.value in
    omega (arith, all, line_ends_within (take c.args.start text), length-take-le c.args.start text c.requires.within)

pub returns : goal.returns
returns c =
    counted_on c.args.text.now c.split_at-2.result.1.now c.args.mark.at c.args.start c.args.mark.line c.line_ends-2.result c.if-start-mark.false c.requires.marks.line (c.split_at-2.ensures.back ∙ ap (drop c.args.mark.at) c.split_at.ensures.front) c.line_ends-2.ensures.value
