use Rattle.std.proofs.Common.{◌≡◌, Some, None, sym, refl}
use Rattle.zone_core.specs.Sets.{set_of}
use Rattle.zone_core.specs.Zones.{soa_at}
use Rattle.zone_core.proofs.NodeLemmas.{soa_node}
use Rattle.zone_core.proofs.effect.takes_over.Goals as goal

pub returns-in-Some : goal.returns-in-Some
returns-in-Some c =
    let rr = c.args.rr.now in
    let found : Some c.in-Some.old.now ≡ soa_at rr.owner (set_of c.args.node.now) = rw (sym (soa_node rr.owner c.args.node.now c.requires), sym c.soa_in.ensures, c.in-Some.is) refl in
    rw (sym found, sym c.serial_in.ensures, sym c.serial_in-in-Some.ensures) c.serial_less.ensures.value

pub returns-in-None : goal.returns-in-None
returns-in-None c =
    let rr = c.args.rr.now in
    let none : None ≡ soa_at rr.owner (set_of c.args.node.now) = rw (sym (soa_node rr.owner c.args.node.now c.requires), sym c.soa_in.ensures, c.in-None.is) refl in
    rw (sym none) refl
