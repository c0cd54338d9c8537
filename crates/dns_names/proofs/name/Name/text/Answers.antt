use Rattle.std.proofs.Common.{◌≡◌, Ok, ap, ◌∙◌, subst, string_bytes}
use Rattle.std.proofs.lemmas.Result.{IfOk-weaker}
use Rattle.dns_names.specs.Labels.{IsName}
use Rattle.dns_names.specs.Reading.{absolute_name}
use Rattle.dns_names.specs.Spelling.{name_text}
use Rattle.dns_names.proofs.ReadingLaws.{absolute_again}
use Rattle.dns_names.proofs.name.Name.text.Goals as goal

pub returns-clause-again : goal.returns-clause-again
returns-clause-again c =
    let name = c.args.self.now in
    let is = subst IsName c.self.view_is c.self.invariant.name in
    IfOk-weaker c.to_string.result (λ text. string_bytes text ≡ name_text name) (λ text. absolute_name (string_bytes text) ≡ Ok name) (λ text e. ap absolute_name e ∙ absolute_again name is) c.to_string.ensures.ok
