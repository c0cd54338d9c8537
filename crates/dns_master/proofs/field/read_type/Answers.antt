use Rattle.std.proofs.Common.{refl}
use Rattle.dns_master.proofs.TypeLemmas.{type_read, type_refused}
use Rattle.dns_master.proofs.field.read_type.Goals as goal

pub returns-in-Ok : goal.returns-in-Ok
returns-in-Ok c = (type_read c.args.raw.now c.in-Ok.record_type).1 ((c.in-Ok.ensures.found c.in-Ok.record_type).0 refl)

pub returns-in-Err : goal.returns-in-Err
returns-in-Err c = type_refused c.args.raw.now c.in-Err.fault c.in-Err.ensures.found c.in-Err.ensures.refused
