use Rattle.policy_tools.specs.Claims.{rules_of}
use Rattle.policy_tools.specs.NameGroups.{AddsGroup, PushesRow}
use Rattle.policy_tools.proofs.NameGroupLemmas.{on_ok, adds_row}
use Rattle.policy_tools.proofs.name_groups.add_group.Goals as goal

pub returns : goal.returns
returns c =
    let claims = c.args.claims.now in
    let group = c.args.group in
    let rights = c.in_ok-rights.rights in
    let old = c.args.rows.now.items in
    let new = c.push_row.new.rows.items in
    on_ok (PushesRow (record { group = group; rights = rights }) old new) (AddsGroup (rules_of claims) group old new)
    (adds_row claims c.args.name.now group rights old new c.requires.few c.requires.claims c.requires.name c.requires.among c.requires.alike c.in_ok-rights.ensures)
    c.push_row.result c.push_row.ensures
