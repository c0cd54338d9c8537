use Rattle.std.proofs.Common.{ap, ◌∙◌, List}
use Rattle.std.proofs.lemmas.Result.{err_from_is_err_and}
use Rattle.grant_policy.specs.declared.rule.Rule.{Rule}
use Rattle.grant_policy.specs.Documents.{document_of}
use Rattle.grant_policy.specs.Reading.{policy_of}
use Rattle.policy_build.specs.Making.{built_view}
use Rattle.cli_checks.proofs.PrintedLemmas.{build_refused, never_refused, policy_built}
use Rattle.cli_checks.proofs.printed_policy.built_policy.Goals as goal

pub returns-in_err-built-clause-made : goal.returns-in_err-built-clause-made
returns-in_err-built-clause-made c =
    let p = err_from_is_err_and c.from_residual-in_err-built.result c.from_residual-in_err-built.ensures.1 in
    rw (p.1, p.2) (build_refused (λ (policy : List Rule). policy) c.args.text.now c.in_ok-source.source c.in_err-built.field-0.0 c.in_ok-source.ensures.exact c.in_err-built.ensures)

pub returns-in_err-read_rules-clause-made : goal.returns-in_err-read_rules-clause-made
returns-in_err-read_rules-clause-made c =
    let p = err_from_is_err_and c.from_residual-in_err-read_rules.result c.from_residual-in_err-read_rules.ensures.1 in
    let are = c.built_rules_decide_as_the_file_means.ensures.policy c.in_ok-source.source (built_view c.in_ok-built.built) c.in_ok-built.ensures in
    let again = ap (λ t. policy_of (document_of t)) c.as_bytes.ensures.value ∙ c.in_ok-text.ensures.again are in
    rw (p.1, p.2) (never_refused (λ (policy : List Rule). policy) c.in_err-read_rules.field-0.0 _ _ _ again c.in_err-read_rules.ensures.exact)

pub returns-clause-made : goal.returns-clause-made
returns-clause-made c =
    let are = c.built_rules_decide_as_the_file_means.ensures.policy c.in_ok-source.source (built_view c.in_ok-built.built) c.in_ok-built.ensures in
    let again = ap (λ t. policy_of (document_of t)) c.as_bytes.ensures.value ∙ c.in_ok-text.ensures.again are in
    policy_built c.args.text.now c.in_ok-source.source (built_view c.in_ok-built.built) c.in_ok-source.ensures.exact c.in_ok-built.ensures _ _ again c.in_ok-read_rules.ensures.exact
