use Rattle.std.proofs.Common.{[], ◌∷◌, map, sym}
use Rattle.std.proofs.lemmas.List.{append-nil, map_push}
use Rattle.zone_core.proofs.BehindLemmas.{behind_all, behind_more}
use Rattle.zone_answers.specs.Answers.{answered_as}
use Rattle.zone_answers.proofs.rows.push_all_as.Goals as goal

pub loop-record-init : goal.loop-record-init
loop-record-init c = sym (append-nil c.args.rows.now.items)

pub loop-record-preserved : goal.loop-record-preserved
loop-record-preserved c =
    let own = answered_as c.args.owner.now in
    let r = c.record-item.result in
    behind_more (map own) c.args.rows.now.items c.args.records.now c.loop-record.record-index r (own r ∷ []) (λ ps. map_push own ps r) c.loop-record-test.true c.record-item.is c.loop-record.invariant c.in_ok-push_as.ensures

pub returns : goal.returns
returns c = behind_all (map (answered_as c.args.owner.now)) c.args.rows.now.items c.args.records.now c.loop-record.record-index c.loop-record.invariant c.loop-record-test.false
