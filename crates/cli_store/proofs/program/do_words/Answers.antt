use Rattle.std.proofs.Common.{inr, refl}
use Rattle.cli_store.proofs.program.do_words.Goals as goal

pub returns-in-Err : goal.returns-in-Err
returns-in-Err g c = inr (c.in-Err.fault, c.in-Err.ensures.reported, c.tell_fault.ensures, (refl, (refl, refl)), (refl, refl))
