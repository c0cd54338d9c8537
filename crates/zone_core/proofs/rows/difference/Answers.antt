use Rattle.std.proofs.Common.{refl}
use Rattle.zone_core.specs.Sets.{set_of}
use Rattle.zone_core.proofs.ChangeLemmas.{differing}
use Rattle.zone_core.proofs.rows.difference.Goals as goal

pub returns : goal.returns
returns c =
    let rs = c.args.records.now in
    let others = c.args.others.now in
    differing rs others c.new-found.result.items c.push_difference.new.found.items (set_of rs) (set_of others) c.requires.records refl refl c.new-found.ensures.items c.in_ok-push_difference.ensures
