use Rattle.std.proofs.Common.{ap, ◌∙◌}
use Rattle.store_rows.specs.ChangeRows.{gathered}
use Rattle.store_rows.proofs.ReadChangeLemmas.{told_changes}
use Rattle.store_rows.proofs.zone_changes.longest_history.Goals as goal

pub returns : goal.returns
returns c = λ version all s held st same e.
    ap gathered c.own_changes-changed.ensures ∙ told_changes c.in_ok-origin.origin c.reveal_origin.ensures c.args.changed.items c.requires.each c.requires.order version all s held st same e
