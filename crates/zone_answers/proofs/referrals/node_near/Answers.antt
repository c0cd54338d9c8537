use Rattle.std.proofs.Common.{◌+◌, ◌-◌, ◌<◌, ◌≤◌, ◌≡◌, ◌∙◌, length, take, drop, ap, arith, length-take, length-drop}
use Rattle.std.proofs.lemmas.List.{drop-drop}
use Rattle.dns_data.specs.declared.record.Record.{Record}
use Rattle.zone_core.proofs.RangeLemmas.{rest_is}
use Rattle.zone_answers.proofs.PlaceLemmas.{node_here}
use Rattle.zone_answers.proofs.ReferralLemmas.{near_tell}
use Rattle.zone_answers.proofs.referrals.node_near.Goals as goal

pub returns : goal.returns
returns c = λ name is.
    let rs = c.args.records.now in
    let rest = c.args.rest.now in
    let s = c.requires.rest.0 in
    let also = c.requires.rest.1 in
    let last = c.requires.rest.2 in
    let m = c.min.result in
    let n = c.count_before-count.result in
    let bound : n ≤ length (take m rest) = c.count_before-count.ensures.bound in
    let below : n < length (take m rest) = omega (arith, bound, c.if-count-few.false) in
    let from = take (length rest - n) (drop n rest) in
    let from_is : from ≡ drop (s + n) rs = rest_is rest n ∙ ap (drop n) last ∙ drop-drop n s rs in
    let short : s + n ≤ length rs = omega (arith, ap (length {A = Record}) last, length-drop s rs, length-take m rest) in
    node_here rs c.requires.order name (s + n) short (near_tell rs rest s m n name also last c.if-count-eq0.false below (c.count_before-count.ensures.place name is))
    from from_is c.count_at.result c.count_at.ensures.bound (c.count_at.ensures.place name is)
