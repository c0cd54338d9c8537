use Rattle.std.proofs.Common.{◌≡◌, true, false, sym, subst, ◌∙◌}
use Rattle.dns_names.specs.Order.{same_name}
use Rattle.zone_core.specs.Sets.{key_of, set_of}
use Rattle.zone_core.specs.Effects.{delete_name, goes, is_guarded}
use Rattle.zone_core.specs.Nodes.{Becomes}
use Rattle.zone_core.proofs.NodeLemmas.{cut_node, guarded_here, goes_here, nothing_kept}
use Rattle.zone_core.proofs.effect.delete_name.Goals as goal

pub returns-then-eq : goal.returns-then-eq
returns-then-eq c =
    let same : same_name c.args.name.now c.args.origin.now ≡ true = sym c.eq.ensures ∙ c.if-eq.true in
    subst (λ rs. Becomes c.args.name.now rs (delete_name c.args.origin.now (set_of c.args.node.items) c.args.name.now)) (sym c.guarded.ensures)
    (cut_node c.args.name.now c.args.node.items c.requires (λ r. is_guarded (key_of r).1) (goes c.args.origin.now c.args.name.now) (λ r e. guarded_here c.args.name.now r e c.args.origin.now same))

pub returns-else-eq : goal.returns-else-eq
returns-else-eq c =
    let other : same_name c.args.name.now c.args.origin.now ≡ false = sym c.eq.ensures ∙ c.if-eq.false in
    let none = cut_node c.args.name.now c.args.node.items c.requires (λ r. false) (goes c.args.origin.now c.args.name.now) (λ r e. goes_here c.args.name.now r e c.args.origin.now other) in
    subst (λ rs. Becomes c.args.name.now rs (delete_name c.args.origin.now (set_of c.args.node.items) c.args.name.now)) (nothing_kept c.args.node.items ∙ sym c.clear.ensures.items) none
