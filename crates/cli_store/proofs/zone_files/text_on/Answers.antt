use Rattle.cli_store.proofs.ZoneFileLemmas.{text_is, text_none}
use Rattle.cli_store.proofs.zone_files.text_on.Goals as goal

pub returns-in-Ok : goal.returns-in-Ok
returns-in-Ok c = rw c.in-Ok.ensures.cases.0 (text_is c.args.line c.args.word.now c.in-Ok.ensures.cases.1)

pub returns-in-Err : goal.returns-in-Err
returns-in-Err c = rw c.refused.ensures (text_none c.args.line c.args.word.now c.in-Err.ensures.cases.0)
