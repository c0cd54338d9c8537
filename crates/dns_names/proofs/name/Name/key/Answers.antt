use Rattle.dns_names.proofs.KeyLaws.{key_order, key_unique, key_ranges, key_begins}
use Rattle.dns_names.proofs.name.Name.key.Goals as goal

pub returns-clause-order : goal.returns-clause-order
returns-clause-order c = key_order c.args.self.now

pub returns-clause-unique : goal.returns-clause-unique
returns-clause-unique c = key_unique c.args.self.now

pub returns-clause-range : goal.returns-clause-range
returns-clause-range c = key_ranges c.args.self.now

pub returns-clause-begins : goal.returns-clause-begins
returns-clause-begins c = key_begins c.args.self.now
