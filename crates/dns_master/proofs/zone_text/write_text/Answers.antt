use Rattle.std.proofs.Common.{arith}
use Rattle.dns_master.proofs.DeviceLemmas.{part_front}
use Rattle.dns_master.proofs.zone_text.write_text.Goals as goal

pub returns-in-Err : goal.returns-in-Err
returns-in-Err g c = let e = c.in-Err.ensures in (part_front _ _ _ e.0, omega (arith, e.1))
