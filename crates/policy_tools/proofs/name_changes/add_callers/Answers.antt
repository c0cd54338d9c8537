use Rattle.std.proofs.Common.{List, ℕ, ◌++◌, map, take, sym, subst}
use Rattle.std.proofs.lemmas.List.{take_all}
use Rattle.std.proofs.lemmas.List.Elements.{All-contains}
use Rattle.policy_tools.specs.declared.name_rights.CallerRights.{CallerRights}
use Rattle.policy_tools.specs.Changes.{IsSeen, AreChangeRows}
use Rattle.policy_tools.proofs.ChangeLemmas.{callers_more, no_callers}
use Rattle.policy_tools.proofs.name_changes.add_callers.Goals as goal

pub add_caller-requires : goal.add_caller-requires
add_caller-requires c =
    All-contains (λ (row : CallerRights). IsSeen c.args.versions.old.now c.args.versions.new.now row.caller) c.args.callers.now c.row-item.result c.requires
    (c.loop-row.row-index, c.loop-row-test.true, sym c.row-item.is)

pub loop-row-init : goal.loop-row-init
loop-row-init c = λ seen are. no_callers c.args.versions.old.now c.args.versions.new.now c.args.versions.others.now seen c.args.rows.now.items c.args.callers.now are

pub loop-row-preserved : goal.loop-row-preserved
loop-row-preserved c = λ seen are.
    let callers = c.args.callers.now in
    let n = c.loop-row.row-index in
    let row = c.row-item.result in
    subst (λ (l : List (List ℕ)). AreChangeRows c.args.versions.old.now c.args.versions.new.now c.args.versions.others.now l c.add_caller.new.rows.items)
    (callers_more seen callers n row c.loop-row-test.true c.row-item.is)
    (c.in_ok-add_caller.ensures (seen ++ map (λ (r : CallerRights). r.caller) (take n callers)) (c.loop-row.invariant seen are))

pub returns : goal.returns
returns c = λ seen are.
    subst (λ (l : List CallerRights). AreChangeRows c.args.versions.old.now c.args.versions.new.now c.args.versions.others.now (seen ++ map (λ (r : CallerRights). r.caller) l) c.loop-row.rows.items)
    (take_all c.loop-row.row-index c.args.callers.now c.loop-row-test.false) (c.loop-row.invariant seen are)
