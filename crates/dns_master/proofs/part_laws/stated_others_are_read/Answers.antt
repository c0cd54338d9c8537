use Rattle.dns_master.proofs.FileLaws.{owner_there}
use Rattle.dns_master.proofs.OtherGrammarLaws.{other_only}
use Rattle.dns_master.proofs.part_laws.stated_others_are_read.Goals as goal

pub returns : goal.returns
returns c = λ origin owner white items o name is some h. other_only origin owner white items o is (owner_there o.owner owner name some) h
