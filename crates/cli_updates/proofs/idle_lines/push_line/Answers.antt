use Rattle.cli_updates.proofs.idle_lines.push_line.Goals as goal

pub returns : goal.returns
returns c = rw c.text-why.ensures at c.writeln.ensures.bytes
