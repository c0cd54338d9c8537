use Rattle.std.proofs.Common.{◌≡◌, ap, ◌∙◌}
use Rattle.std.proofs.lemmas.Result.{IfOk-weaker}
use Rattle.zone_core.specs.Sets.{Records, set_of}
use Rattle.zone_core.specs.Changes.{change_in, change_between}
use Rattle.office_store.proofs.migration_change.change_to.Goals as goal

pub returns : goal.returns
returns c =
    let old : Records = set_of c.args.records.now in
    IfOk-weaker c.between.result _ (λ change. change_in change ≡ change_between old c.args.zone.now.records)
    (λ change e. e ∙ ap (λ (x : Records). change_between old x) c.records.ensures.set) c.between.ensures
