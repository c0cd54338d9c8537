use Rattle.policy_build.proofs.PrintingLemmas.{put_table}
use Rattle.policy_build.proofs.printing.put.Goals as goal

pub returns : goal.returns
returns c = put_table c.in_ok-key.key c.args.key.now c.args.value c.args.table.now.entries c.insert.new.self.entries c.in_ok-insert.ensures.entries c.in_ok-key.ensures.ok
