use Rattle.answer_reach.proofs.GrowLemmas.{read_short, read_long}
use Rattle.answer_reach.proofs.names.wildcard.Goals as goal

pub returns-in-Ok : goal.returns-in-Ok
returns-in-Ok c = read_short c.args.above.now c.in-Ok.name c.in-Ok.ensures.exact

pub returns-in-Err-NameTooLong : goal.returns-in-Err-NameTooLong
returns-in-Err-NameTooLong c = read_long c.args.above.now (rw c.in-Err-NameTooLong.field-0-is at c.in-Err-NameTooLong.ensures.exact)
