use Rattle.dns_data.proofs.TypeLemmas.{by_number}
use Rattle.dns_data.proofs.record_type.RecordType.from_number.Goals as goal

pub returns : goal.returns
returns c = by_number c.args.number c.numbered.result c.numbered.ensures
