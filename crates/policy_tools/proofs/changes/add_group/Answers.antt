use Rattle.policy_tools.specs.Claims.{rules_of}
use Rattle.policy_tools.specs.Changes.{AddsChanges, PushesChanges}
use Rattle.policy_tools.proofs.NameGroupLemmas.{on_ok}
use Rattle.policy_tools.proofs.ChangeLemmas.{adds_changes}
use Rattle.policy_tools.proofs.changes.add_group.Goals as goal

pub returns : goal.returns
returns c =
    let old = c.args.versions.old.now in
    let new = c.args.versions.new.now in
    let group = c.args.group in
    let changes = c.in_ok-changes.changes in
    let rows = c.args.rows.now.items in
    let rows' = c.push_row.new.rows.items in
    on_ok (PushesChanges (record { group = group; changes = changes }) rows rows') (AddsChanges (rules_of old) (rules_of new) group rows rows')
    (adds_changes c.args.versions.places.now old new c.args.name.now group c.in_ok-old.old c.in_ok-new.new changes rows rows' c.requires.versions c.requires.represents c.in_ok-old.ensures c.in_ok-new.ensures c.in_ok-changes.ensures)
    c.push_row.result c.push_row.ensures
