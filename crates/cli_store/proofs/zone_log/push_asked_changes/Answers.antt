use Rattle.std.proofs.Common.{◌+◌, [], ◌∷◌, map, refl}
use Rattle.std.specs.List.{filter, flat_map}
use Rattle.zone_core.specs.Changes.{change_in}
use Rattle.office_core.specs.Machine.{numbered}
use Rattle.cli_store.specs.Log.{asks_change, change_shown, numbered_as}
use Rattle.cli_store.proofs.LogLemmas.{one_taken, change_taken}
use Rattle.cli_store.proofs.zone_log.push_asked_changes.Goals as goal

pub loop-i-preserved : goal.loop-i-preserved
loop-i-preserved c =
    let p = asks_change c.args.asked.now in
    let shown = change_shown c.args.asked.now.form in
    let i = c.loop-i.i in
    let change = c.index-changes-i.result in
    one_taken (λ cs. flat_map shown (filter p (numbered 1 (map change_in cs)))) c.args.text.now.items c.args.changes.now i change
    (flat_map shown (filter p (numbered_as (i + 1) (change_in change) ∷ []))) c.loop-i.text.items c.push_asked_change.new.text.items c.loop-i-test.true c.index-changes-i.is
    (λ cs long. change_taken shown p cs i (i + 1) change long refl) c.loop-i.invariant c.in_ok-push_asked_change.ensures
