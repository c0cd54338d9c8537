use Rattle.std.proofs.Common.{sym, ap, subst, ◌∙◌}
use Rattle.std.proofs.lemmas.Result.{IfOk-weaker}
use Rattle.zone_core.specs.Sets.{set_of, part, at_name, InOrder}
use Rattle.zone_core.specs.Effects.{effects}
use Rattle.zone_core.specs.Nodes.{IsNode, Becomes}
use Rattle.zone_core.proofs.ChangeLemmas.{node_is, set_is, removed_here, added_here}
use Rattle.zone_core.proofs.change.push_change_at.Goals as goal

pub effects-requires : goal.effects-requires
effects-requires c = subst (IsNode c.args.name.now) (sym c.in_ok-copied.ensures) (node_is c.args.name.now c.args.records.now c.requires c.at_name-before.result.now c.at_name-before.ensures)

pub push_between-requires-clause-after : goal.push_between-requires-clause-after
push_between-requires-clause-after c =
    let o = c.args.origin.now in
    let n = c.args.name.now in
    let rs = c.args.records.now in
    let ops = c.args.operations.now in
    let before = c.at_name-before.result.now in
    let becomes : Becomes n c.in_ok-after.after.items (part (effects o (set_of rs) ops) (at_name n)) =
    c.in_ok-after.ensures (set_of rs) (ap set_of c.in_ok-copied.ensures ∙ set_is n rs c.requires before c.at_name-before.ensures) in
    subst InOrder (sym c.deref.ensures.value) becomes.node.order

pub push_between-requires-clause-before : goal.push_between-requires-clause-before
push_between-requires-clause-before c = (node_is c.args.name.now c.args.records.now c.requires c.at_name-before.result.now c.at_name-before.ensures).order

pub returns-clause-removed : goal.returns-clause-removed
returns-clause-removed c =
    let o = c.args.origin.now in
    let n = c.args.name.now in
    let rs = c.args.records.now in
    let ops = c.args.operations.now in
    let before = c.at_name-before.result.now in
    let becomes : Becomes n c.in_ok-after.after.items (part (effects o (set_of rs) ops) (at_name n)) =
    c.in_ok-after.ensures (set_of rs) (ap set_of c.in_ok-copied.ensures ∙ set_is n rs c.requires before c.at_name-before.ensures) in
    let now = c.push_between.new.self.removed.items in
    IfOk-weaker c.push_between.result _ _
    (λ _ e. removed_here n rs c.requires before c.at_name-before.ensures (effects o (set_of rs) ops) c.in_ok-after.after.items becomes c.args.change.now.removed.items now (rw (sym c.deref.ensures.value) e))
    c.push_between.ensures.removed

pub returns-clause-added : goal.returns-clause-added
returns-clause-added c =
    let o = c.args.origin.now in
    let n = c.args.name.now in
    let rs = c.args.records.now in
    let ops = c.args.operations.now in
    let before = c.at_name-before.result.now in
    let becomes : Becomes n c.in_ok-after.after.items (part (effects o (set_of rs) ops) (at_name n)) =
    c.in_ok-after.ensures (set_of rs) (ap set_of c.in_ok-copied.ensures ∙ set_is n rs c.requires before c.at_name-before.ensures) in
    let now = c.push_between.new.self.added.items in
    IfOk-weaker c.push_between.result _ _
    (λ _ e. added_here n rs c.requires before c.at_name-before.ensures (effects o (set_of rs) ops) c.in_ok-after.after.items becomes c.args.change.now.added.items now (rw (sym c.deref.ensures.value) e))
    c.push_between.ensures.added
