use Rattle.std.proofs.Common.{◌≡◌, subst}
use Rattle.std.proofs.lemmas.Result.{IfOk-weaker}
use Rattle.std.specs.Prelude.{string_bytes}
use Rattle.std.specs.List.{flat_map}
use Rattle.cli_text.specs.ChangedAnswerLines.{changed_line, AreChanged, AreAnswerLines}
use Rattle.cli_text.proofs.changed_answers.answer_lines.Goals as goal

pub returns : goal.returns
returns c =
    let found = c.in_ok-rows.ensures in
    let rows = c.in_ok-rows.rows.items in
    let before = c.in_ok-before.before in
    let after = c.in_ok-after.after in
    let changed : AreChanged before after rows = record { exact = found.exact; order = found.order; groups = found.groups; types = found.types } in
    let of_zones = subst (λ z. AreChanged c.args.old z rows) c.in_ok-after.ensures (subst (λ z. AreChanged z after rows) c.in_ok-before.ensures changed) in
    IfOk-weaker c.rows_text.result (λ text. string_bytes text ≡ flat_map changed_line rows) (λ text. AreAnswerLines c.args.old c.args.new (string_bytes text))
    (λ text e. (rows, of_zones, e)) (rw c.deref.ensures.value at c.rows_text.ensures)
