use Rattle.std.proofs.Common.{◌∙◌}
use Rattle.dns_data.specs.declared.data_fault.DataFault.TheVariants.{TypeNotKept}
use Rattle.dns_data.proofs.TypeLemmas.{by_name, found_ok}
use Rattle.dns_data.proofs.record_type.RecordType.read.Goals as goal

pub returns-clause-found : goal.returns-clause-found
returns-clause-found c = by_name c.args.text.now TypeNotKept c.called.result c.ok_or.result c.called.ensures c.ok_or.ensures.value

pub returns-clause-exact : goal.returns-clause-exact
returns-clause-exact c = found_ok TypeNotKept c.called.result c.ok_or.result c.ok_or.ensures.value ∙ c.called.ensures
