use Rattle.dns_names.proofs.NameLemmas.{same_from_key}
use Rattle.dns_names.proofs.name.NamePartialEq.eq.Goals as goal

pub returns : goal.returns
returns c = same_from_key c.args.self.now c.args.other.now c.eq.result (rw (← c.key.ensures.key, ← c.key-2.ensures.key) c.eq.ensures)
