use Rattle.std.proofs.Common.{◌∙◌}
use Rattle.std.specs.List.{list_any}
use Rattle.dns_names.specs.Labels.{is_within}
use Rattle.office_core.proofs.listed.granted_names.Goals as goal

pub returns-clause-granted : goal.returns-clause-granted
returns-clause-granted c = λ name record_type inside granted.
    c.in_ok-tops.ensures.covers name ∙ (λ k. list_any (λ top. is_within name top) (c.deref.ensures.value k)) ∙ c.in_ok-names.ensures.granted name record_type inside granted
