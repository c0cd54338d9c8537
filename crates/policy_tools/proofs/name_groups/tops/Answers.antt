use Rattle.policy_tools.proofs.NameGroupLemmas.{tops_are}
use Rattle.policy_tools.proofs.name_groups.tops.Goals as goal

pub returns : goal.returns
returns c = tops_are c.args.rules.now c.in_ok-tops.tops.items c.sort_unstable.new.self.items c.dedup.new.self.items c.in_ok-tops.ensures.names c.in_ok-tops.ensures.valid c.sort_unstable.ensures.permutation c.sort_unstable.ensures.sorted c.dedup.ensures.filtered
