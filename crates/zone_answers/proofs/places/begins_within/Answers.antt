use Rattle.std.proofs.Common.{◌∙◌, sym}
use Rattle.std.proofs.lemmas.Bool.Decides.{same_from_decides}
use Rattle.dns_names.specs.Labels.{is_within}
use Rattle.dns_names.proofs.NameLemmas.{is_within-Decides, within_from_key}
use Rattle.zone_answers.proofs.PlaceLemmas.{begins_first}
use Rattle.zone_answers.proofs.places.begins_within.Goals as goal

pub returns-in-len1-up : goal.returns-in-len1-up
returns-in-len1-up c = λ name is.
    let owner = c.first-item.result.owner in
    let begins = within_from_key owner name c.key.result.now c.args.key.now c.starts_with.result c.key.ensures.key is c.starts_with.ensures.value in
    same_from_decides c.starts_with.result (is_within owner name) begins (is_within-Decides owner name)
    ∙ sym (begins_first c.args.rest.now c.first-item.result name c.in-len1-up.len_at_least c.first-item.is)
