use Rattle.std.specs.Prelude.{string_bytes}
use Rattle.cli_updates.specs.Split.{split_text}
use Rattle.cli_core.proofs.JobLemmas.{answered_written}
use Rattle.cli_updates.proofs.split.SplitTask.run.Goals as goal

pub returns : goal.returns
returns g c = answered_written _ (split_text c.args.self.id.now) _ _ _ _ _ _ string_bytes c.answer.result c.write_answer.result c.answer.ensures c.write_answer.ensures
