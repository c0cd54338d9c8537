use Rattle.std.specs.Prelude.{◌≡◌, Result, Ok, Err, IfOk}
use Rattle.std.specs.declared.alloc.AllocError.{AllocError}
use Rattle.zone_core.specs.declared.change.Change.{Change}
use Rattle.zone_core.specs.Sets.{Records, minus, AreRows}
use Rattle.zone_core.specs.Effects.{zone_after}
use Rattle.zone_core.specs.Changes.{change_in, change_between}
use Rattle.zone_core.proofs.OutcomeLemmas.{change_is}
use Rattle.zone_core.proofs.change.Change.of_update.Goals as goal

is_between : (before after : Records) (r : Result Change AllocError) → IfOk r (λ x. AreRows x.removed.items (minus before after)) → IfOk r (λ x. AreRows x.added.items (minus after before)) → IfOk r (λ x. change_in x ≡ change_between before after)
is_between before after (Ok x) goes comes = change_is x.removed.items x.added.items before after goes comes
is_between before after (Err e) goes comes = tt

pub returns : goal.returns
returns c =
    let zone = c.args.zone.now in
    let made = c.update_change.ensures in
    is_between zone.records (zone_after zone c.args.update.now).records c.update_change.result made.removed made.added
