use Rattle.std.proofs.Common.{sym, ◌∙◌, add-one}
use Rattle.cli_text.proofs.LineLemmas.{line_len-some, line_len-none}
use Rattle.cli_text.proofs.parts.line_len.Goals as goal

pub returns-in-Some : goal.returns-in-Some
returns-in-Some c =
    let first = c.in-Some.ensures in
    add-one c.in-Some.end ∙ sym (line_len-some c.args.text.now c.in-Some.end first.0.high first.0.before first.1)

pub returns-in-None : goal.returns-in-None
returns-in-None c = sym (line_len-none c.args.text.now c.in-None.ensures)
