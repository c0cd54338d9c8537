use Rattle.std.proofs.Common.{arith}
use Rattle.dns_data.proofs.KeptLaws.{tag_is_place, place_is_low}
use Rattle.dns_data.proofs.record_type.RecordType.place.Goals as goal

pub returns-clause-value : goal.returns-clause-value
returns-clause-value c = tag_is_place c.args.self

pub returns-clause-below : goal.returns-clause-below
returns-clause-below c = omega (arith, tag_is_place c.args.self, place_is_low c.args.self)
