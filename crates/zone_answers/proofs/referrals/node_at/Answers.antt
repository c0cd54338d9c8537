use Rattle.std.proofs.Common.{◌-◌, length, take, drop}
use Rattle.zone_core.proofs.RangeLemmas.{rest_is}
use Rattle.zone_answers.proofs.PlaceLemmas.{node_here}
use Rattle.zone_answers.proofs.referrals.node_at.Goals as goal

pub returns : goal.returns
returns c = λ name is.
    let rs = c.args.records.now in
    let n = c.count_before.result in
    node_here rs c.requires name n c.count_before.ensures.bound (c.count_before.ensures.place name is) (take (length rs - n) (drop n rs)) (rest_is rs n) c.count_at.result c.count_at.ensures.bound (c.count_at.ensures.place name is)
