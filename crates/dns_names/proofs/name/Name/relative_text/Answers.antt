use Rattle.std.proofs.Common.{◌≡◌, Ok, ap, ◌∙◌, subst, string_bytes}
use Rattle.std.proofs.lemmas.Result.{IfOk-weaker}
use Rattle.dns_names.specs.Labels.{IsName}
use Rattle.dns_names.specs.Reading.{relative_name}
use Rattle.dns_names.specs.Spelling as spelling
use Rattle.dns_names.proofs.RelativeLemmas.{relative_again}
use Rattle.dns_names.proofs.name.Name.relative_text.Goals as goal

pub returns-clause-again : goal.returns-clause-again
returns-clause-again c =
    let name = c.args.self.now in
    let origin = c.args.origin.now in
    let is = subst IsName c.self.view_is c.self.invariant.name in
    let of = subst IsName c.origin.view_is c.origin.invariant.name in
    IfOk-weaker c.to_string.result (λ text. string_bytes text ≡ spelling.relative_text origin name) (λ text. relative_name origin (string_bytes text) ≡ Ok name) (λ text e. ap (relative_name origin) e ∙ relative_again origin name of is) c.to_string.ensures.ok
