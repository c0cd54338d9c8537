use Rattle.zone_core.specs.Sets.{set_of}
use Rattle.zone_core.proofs.OutcomeLemmas.{change_is}
use Rattle.zone_core.proofs.change.Change.between.Goals as goal

pub returns : goal.returns
returns c =
    change_is c.in_ok-difference.field-0.items c.in_ok-difference-2.field-0.items (set_of c.args.before.now) (set_of c.args.after.now) c.in_ok-difference.ensures c.in_ok-difference-2.ensures
