use Rattle.std.proofs.Common.{sym}
use Rattle.std.proofs.lemmas.List.{take_all}
use Rattle.dns_master.proofs.other_type.front_of.Goals as goal

pub returns-else-len-text : goal.returns-else-len-text
returns-else-len-text c = sym (take_all c.args.len c.args.text.now c.if-len-text.false)
