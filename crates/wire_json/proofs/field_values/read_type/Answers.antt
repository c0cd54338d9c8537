use Rattle.std.proofs.Common.{◌∙◌, sym, ap, List, ℕ, Result}
use Rattle.std.specs.Result.{result_ok}
use Rattle.dns_data.specs.Types.{type_named}
use Rattle.wire_json.specs.declared.body_fault.BodyFault.{BodyFault}
use Rattle.wire_json.specs.Faults.{or_bad, ◌>>=◌}
use Rattle.wire_json.proofs.field_values.read_type.Goals as goal

pub returns-in-Ok-clause-exact : goal.returns-in-Ok-clause-exact
returns-in-Ok-clause-exact c =
    ap (λ (r : Result (List ℕ) BodyFault). r >>= λ text. or_bad (type_named text)) c.in_ok-text.ensures.exact
    ∙ ap (λ (text : List ℕ). or_bad (type_named text)) (sym c.as_bytes.ensures.value)
    ∙ ap or_bad (sym c.read.ensures.exact ∙ ap result_ok c.in-Ok.is)

pub returns-in-Err-clause-exact : goal.returns-in-Err-clause-exact
returns-in-Err-clause-exact c =
    ap (λ (r : Result (List ℕ) BodyFault). r >>= λ text. or_bad (type_named text)) c.in_ok-text.ensures.exact
    ∙ ap (λ (text : List ℕ). or_bad (type_named text)) (sym c.as_bytes.ensures.value)
    ∙ ap or_bad (sym c.read.ensures.exact ∙ ap result_ok c.in-Err.is)
