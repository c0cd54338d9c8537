-- One answer for what the function ensures, so that a wrong body is refused soon.
use Rattle.refuse_store.proofs.stores.adopt_of_version.Goals as goal

pub returns-in-Err : goal.returns-in-Err
returns-in-Err g c = c.in-Err.ensures.wrong
