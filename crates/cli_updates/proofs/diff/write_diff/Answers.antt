use Rattle.cli_updates.specs.Diff.{new_read, IsDiffText}
use Rattle.cli_updates.proofs.ToldLemmas.{told_written}
use Rattle.cli_updates.proofs.diff.write_diff.Goals as goal

pub returns : goal.returns
returns g c = told_written (IsDiffText c.args.form c.args.old) (new_read c.args.old) _ _ _ _ _ _ _ (λ text. text.items) c.answer.result c.write_octets.result c.answer.ensures c.write_octets.ensures
