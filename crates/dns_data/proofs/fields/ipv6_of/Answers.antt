use Rattle.std.proofs.Common.{sym}
use Rattle.dns_data.proofs.FieldLaws.{ipv6_only}
use Rattle.dns_data.proofs.AddressLemmas.{ipv6_not}
use Rattle.dns_data.proofs.fields.ipv6_of.Goals as goal

pub returns-in-Ok : goal.returns-in-Ok
returns-in-Ok c = sym (ipv6_only c.args.raw.now c.in-Ok.address c.in-Ok.ensures)

pub returns-in-Err : goal.returns-in-Err
returns-in-Err c = sym (ipv6_not c.args.raw.now c.in-Err.ensures)
