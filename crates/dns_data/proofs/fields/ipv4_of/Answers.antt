use Rattle.std.proofs.Common.{sym}
use Rattle.dns_data.proofs.FieldLaws.{ipv4_only}
use Rattle.dns_data.proofs.AddressLemmas.{ipv4_not}
use Rattle.dns_data.proofs.fields.ipv4_of.Goals as goal

pub returns-in-Ok : goal.returns-in-Ok
returns-in-Ok c = sym (ipv4_only c.args.raw.now c.in-Ok.address c.in-Ok.ensures)

pub returns-in-Err : goal.returns-in-Err
returns-in-Err c = sym (ipv4_not c.args.raw.now c.in-Err.ensures)
