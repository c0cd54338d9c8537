use Rattle.std.proofs.Common.{sym, refl}
use Rattle.zone_core.proofs.verdict.verdict.Goals as goal

pub returns-in-Some-first_set_failed : goal.returns-in-Some-first_set_failed
returns-in-Some-first_set_failed c =
    rw (sym c.first_failed.ensures, c.in_default.is, sym c.first_set_failed.ensures, c.in-Some-first_set_failed.is) refl
