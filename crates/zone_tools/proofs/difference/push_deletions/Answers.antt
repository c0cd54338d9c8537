use Rattle.std.proofs.Common.{List, map, ap, sym, ◌∙◌}
use Rattle.std.specs.List.{filter}
use Rattle.std.proofs.lemmas.List.{append-nil}
use Rattle.dns_data.specs.declared.record.Record.{Record}
use Rattle.zone_core.specs.Sets.{key_of, set_of}
use Rattle.zone_core.proofs.BehindLemmas.{behind_all, behind_more, behind_same, filter_skip, map_filter_push}
use Rattle.zone_tools.specs.Differences.{is_gone, deletion}
use Rattle.zone_tools.proofs.difference.push_deletions.Goals.{then-is_gone+in_ok-push_deletion, else-is_gone}
use Rattle.zone_tools.proofs.difference.push_deletions.Goals as goal

pub loop-record-preserved : goal.loop-record-preserved
loop-record-preserved c =
    let p = λ (r : Record). is_gone (set_of c.args.new.now) (key_of r) in
    let made = λ (rs : List Record). map deletion (filter p rs) in
    let before = c.args.operations.now.items in
    let rs = c.args.records.now in
    let i = c.loop-record.record-index in
    let r = c.record-item.result in
    elim c.if-is_gone.branch [
      | then-is_gone+in_ok-push_deletion w ↦
          rw w.operations-is (behind_more made before rs i r _ (map_filter_push deletion p r (sym c.is_gone.ensures ∙ w.if-is_gone.true)) c.loop-record-test.true c.record-item.is c.loop-record.invariant w.in_ok-push_deletion.ensures)
      | else-is_gone w ↦
          rw w.operations-is (behind_same made before rs i r (λ ps. ap (map deletion) (filter_skip p r (sym c.is_gone.ensures ∙ w.if-is_gone.false) ps)) c.loop-record-test.true c.record-item.is c.loop-record.invariant)
    ]

pub loop-record-init : goal.loop-record-init
loop-record-init c = sym (append-nil c.args.operations.now.items)

pub returns : goal.returns
returns c =
    behind_all (λ (rs : List Record). map deletion (filter (λ r. is_gone (set_of c.args.new.now) (key_of r)) rs)) c.args.operations.now.items c.args.records.now c.loop-record.record-index c.loop-record.invariant c.loop-record-test.false
