use Rattle.std.proofs.Common.{◌-◌, length, take, drop}
use Rattle.zone_core.proofs.RangeLemmas.{rest_is}
use Rattle.zone_answers.proofs.PlaceLemmas.{node_here}
use Rattle.zone_answers.proofs.referrals.referral_at.Goals as goal

pub returns : goal.returns
returns c =
    let rs = c.args.records.now in
    let cut = c.args.cut.now in
    let n = c.count_before.result in
    let bound = c.count_before.ensures.bound in
    let rest = take (length rs - n) (drop n rs) in
    record {
      servers = c.set_in.ensures rs cut c.requires (node_here rs c.requires cut n bound (c.count_before.ensures.place cut c.key.ensures.key) rest (rest_is rs n) c.count_at.result c.count_at.ensures.bound (c.count_at.ensures.place cut c.key-2.ensures.key));
      rest = (n, bound, rest_is rs n);
    }
