use Rattle.dns_master.proofs.OtherGrammarLaws.{other_found}
use Rattle.dns_master.proofs.part_laws.others_are_stated.Goals as goal

pub returns : goal.returns
returns c = λ origin owner white items o is bytes e. other_found origin owner white items o is bytes e
