use Rattle.std.proofs.Common.{option_map}
use Rattle.std.specs.Prelude.{string_bytes}
use Rattle.cli_text.specs.Explain.{explain_made, explain_text}
use Rattle.cli_text.proofs.ExplainLemmas.{unread_given}
use Rattle.cli_core.proofs.JobLemmas.{answered_written}
use Rattle.cli_text.proofs.explain.ExplainTask.run.Goals as goal

pub returns : goal.returns
returns g c =
    let asked = c.args.self in
    let number = option_map (λ n. n.now) asked.number in
    answered_written _ (explain_text number asked.form) _ _ _ _ _ _ string_bytes c.answer.result c.write_answer.result
    (unread_given string_bytes _ (explain_made number asked.form) c.answer.result _ _ (g.met.R.Input.still c.args._reader.now) c.answer.ensures) c.write_answer.ensures
