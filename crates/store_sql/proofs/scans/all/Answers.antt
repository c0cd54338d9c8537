use Rattle.std.proofs.Common.{[], refl}
use Rattle.store_sql.proofs.scans.all.Goals as goal

pub returns-in-Ok-clause-shown : goal.returns-in-Ok-clause-shown
returns-in-Ok-clause-shown g c = λ clean.
    let it = c.in-Ok.ensures.taken in
    let shown = it.2 clean in
    let read = it.1 [] (rw c.new.ensures.items (refl, tt)) in
    (shown.0, shown.1, rw read.0 shown.2)

pub returns-in-Ok-clause-read : goal.returns-in-Ok-clause-read
returns-in-Ok-clause-read g c = (c.in-Ok.ensures.taken.1 [] (rw c.new.ensures.items (refl, tt))).1
