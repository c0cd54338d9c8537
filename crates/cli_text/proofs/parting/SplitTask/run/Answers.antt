use Rattle.std.proofs.Common.{Vec, Global, ℕ}
use Rattle.cli_text.specs.Parting.{part_printed}
use Rattle.cli_core.proofs.JobLemmas.{answered_written}
use Rattle.cli_text.proofs.parting.SplitTask.run.Goals as goal

pub returns : goal.returns
returns g c =
    answered_written _ (part_printed c.args.self.part c.args.self.origin.now) _ _ _ _ _ _ (λ (lines : Vec ℕ Global). lines.items) c.answer.result c.write_octets.result c.answer.ensures c.write_octets.ensures
