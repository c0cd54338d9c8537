use Rattle.std.proofs.Common.{◌≡◌, inr}
use Rattle.std.proofs.lemmas.Result.{IfOk-weaker}
use Rattle.cli_checks.specs.PolicyZones.{hidden_line, IsHiddenText}
use Rattle.cli_checks.proofs.policy_zones.hidden_text.Goals as goal

pub returns-in-Some : goal.returns-in-Some
returns-in-Some c =
    let hidden = c.in-Some.hidden in
    let is = rw c.in-Some.is at c.in_ok-hidden_from.ensures.witness in
    IfOk-weaker c.hidden_line.result (λ text. text.items ≡ hidden_line c.args.origin.now hidden) (λ text. IsHiddenText c.args.policy.now c.args.reader.now c.args.origin.now text.items) (λ text e. inr (hidden, is, e)) c.hidden_line.ensures
