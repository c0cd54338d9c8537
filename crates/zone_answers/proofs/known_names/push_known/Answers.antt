use Rattle.std.proofs.Common.{List, ◌++◌, sym, ap, ◌∙◌, append_assoc}
use Rattle.std.specs.List.{flat_map}
use Rattle.std.proofs.lemmas.List.{append-nil}
use Rattle.zone_core.proofs.BehindLemmas.{behind_all, behind_more, flat_map_push}
use Rattle.zone_answers.specs.Answers.{Name}
use Rattle.zone_answers.specs.ChangeTests.{up_to, target_in, known_by}
use Rattle.zone_answers.proofs.known_names.push_known.Goals as goal

pub loop-record-init : goal.loop-record-init
loop-record-init c = sym (append-nil c.args.names.now.items)

pub loop-record-preserved : goal.loop-record-preserved
loop-record-preserved c =
    let origin = c.args.origin.now in
    let r = c.record-item.result in
    behind_more (flat_map (known_by origin)) c.args.names.now.items c.args.records.now c.loop-record.record-index r (known_by origin r) (flat_map_push (known_by origin) r) c.loop-record-test.true c.record-item.is c.loop-record.invariant
    (c.in_ok-push_target.ensures ∙ ap (λ (l : List Name). l ++ target_in origin r.rdata) c.in_ok-push_up_to.ensures ∙ append_assoc c.loop-record.names.items (up_to origin r.owner) (target_in origin r.rdata))

pub returns : goal.returns
returns c =
    behind_all (flat_map (known_by c.args.origin.now)) c.args.names.now.items c.args.records.now c.loop-record.record-index c.loop-record.invariant c.loop-record-test.false
