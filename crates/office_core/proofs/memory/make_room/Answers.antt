use Rattle.std.proofs.Common.{refl, ap}
use Rattle.std.specs.Prelude.{slice_index_or}
use Rattle.std.proofs.lemmas.List.{get_or_default}
use Rattle.office_core.specs.declared.memory.HeldZone.{HeldZone}
use Rattle.office_core.proofs.memory.make_room.Goals as goal

pub returns-clause-same : goal.returns-clause-same
returns-clause-same c =
    let zones = c.args.zones.now in
    let held : HeldZone = record { zone = (slice_index_or zones c.args.at c.index-zones-at.result).zone; changes = c.reserve.new.self } in
    let same = get_or_default zones c.args.at c.index-zones-at.result held c.requires in
    let read = c.index-zones-at.is in
    let items = c.reserve.ensures.items in
    record {
      held = held;
      put = refl;
      becomes = (ap (λ h. h.zone) same, (cc));
    }
