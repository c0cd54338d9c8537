use Rattle.std.proofs.Common.{refl}
use Rattle.std.proofs.lemmas.List.{get_or_default}
use Rattle.office_core.specs.declared.memory.HeldZone.{HeldZone}
use Rattle.office_core.proofs.memory.put.Goals as goal

pub returns : goal.returns
returns c =
    let zones = c.args.zones.now in
    let held : HeldZone = record { zone = c.args.zone; changes = c.push.new.self } in
    let same = get_or_default zones c.args.at c.index-zones-at.result held c.requires.inside in
    let read = c.index-zones-at.is in
    let items = c.in-Ok.ensures.items in
    record {
      held = held;
      put = refl;
      becomes = (refl, (cc));
    }
