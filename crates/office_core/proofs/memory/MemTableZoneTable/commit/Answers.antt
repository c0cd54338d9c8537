use Rattle.std.proofs.Common.{◌≡◌, ◌<◌, Some, None, get_or, length, refl, sym, ap, ◌∙◌, subst}
use Rattle.std.specs.List.{find, position}
use Rattle.std.specs.Vec.{with_items}
use Rattle.std.proofs.lemmas.List.{get_or_default}
use Rattle.std.proofs.lemmas.List.Quantifiers.{position-Some}
use Rattle.zone_core.specs.Changes.{FitsIn, changed}
use Rattle.zone_core.specs.Zones.{IsZone}
use Rattle.office_model.specs.States.{State}
use Rattle.office_model.specs.Tables.{Fits, addition_in}
use Rattle.office_core.specs.Memory.{EachIsZone, HasRoomAt, HoldsChange, HoldsSame, HoldsState, IsPutAt, MemoryOf, held_among, is_of, receipt_rows}
use Rattle.office_core.proofs.MemoryLemmas.{IsChangedAt, fits_found, fits_zone, found_at, has_place, holds_change, holds_receipt, holds_same, kept_rows, made_are_zones, made_zones, moved, of_origin, on_err, one_receipt, put_items, room_are_zones, room_same, same_receipts, same_rows}
use Rattle.office_core.proofs.memory.MemTableZoneTable.commit.Goals as goal

pub returns-in_err-keep-clause-failed : goal.returns-in_err-keep-clause-failed
returns-in_err-keep-clause-failed c =
    let old : MemoryOf = record { zones = c.self.inside.zones.items; receipts = receipt_rows c.self.inside.receipts } in
    let new : MemoryOf = record { zones = c.self.inside.zones.items; receipts = receipt_rows c.keep.new.receipts } in
    on_err c.from_residual.result _
    (λ s h. holds_same old new s (λ o. refl) (same_rows c.self.inside.receipts c.keep.new.receipts c.in_err-keep.ensures.same) (subst (λ q. HoldsState q s) (sym c.self.view_is) h))

pub returns-in_default-clause-made : goal.returns-in_default-clause-made
returns-in_default-clause-made c = λ u s h.
    let a = c.args.addition in
    let old : MemoryOf = record { zones = c.self.inside.zones.items; receipts = receipt_rows c.self.inside.receipts } in
    let new : MemoryOf = record { zones = c.self.inside.zones.items; receipts = receipt_rows c.keep.new.receipts } in
    let kept = kept_rows c.self.inside.receipts c.keep.new.receipts a.caller a.id a.receipt c.in_ok-keep.ensures.kept in
    holds_receipt old new s a c.in_default.is (one_receipt old new a.caller a.id a.receipt c.self.invariant.zones kept c.reveal_update.ensures c.self.invariant) refl kept
    (subst (λ q. HoldsState q s) (sym c.self.view_is) h)

pub unreachable-requires : goal.unreachable-requires
unreachable-requires c =
    let a = c.args.addition in
    let old : MemoryOf = record { zones = c.self.inside.zones.items; receipts = receipt_rows c.self.inside.receipts } in
    let fits = subst (λ q. Unit {0} → (s : State) → HoldsState q s → Fits s (addition_in a)) (sym c.self.view_is) c.requires.fits in
    let none : position (is_of a.receipt.origin) old.zones ≡ None = sym (c.in_default-place.ensures ∙ ap (position (is_of a.receipt.origin)) c.deref.ensures.value) in
    has_place old a c.in-Some.change c.self.invariant fits c.in-Some.is none

pub changed-requires-clause-fits : goal.changed-requires-clause-fits
changed-requires-clause-fits c =
    let a = c.args.addition in
    let origin = a.receipt.origin in
    let change = c.in-Some.change in
    let zones = c.self.inside.zones.items in
    let at = c.in-Some-place.at in
    let old : MemoryOf = record { zones = zones; receipts = receipt_rows c.self.inside.receipts } in
    let all_fit = subst (λ q. Unit {0} → (s : State) → HoldsState q s → Fits s (addition_in a)) (sym c.self.view_is) c.requires.fits in
    let held = c.index.result.now in
    let place : position (is_of origin) zones ≡ Some at = sym (c.in-Some-place.ensures ∙ ap (position (is_of origin)) c.deref.ensures.value) in
    let found : find (is_of origin) zones ≡ Some held = found_at (is_of origin) zones at held place ∙ ap Some (sym c.index.ensures) in
    let fits = fits_found old a change held c.self.invariant all_fit c.in-Some.is found in
    moved (λ z r s. FitsIn z.records r s) c.in_ok-zone.zone held.zone change.removed.items change.removed.items change.added.items change.added.items c.in_ok-zone.ensures
    refl refl fits.records

pub changed-requires-clause-zone : goal.changed-requires-clause-zone
changed-requires-clause-zone c =
    let a = c.args.addition in
    let origin = a.receipt.origin in
    let change = c.in-Some.change in
    let zones = c.self.inside.zones.items in
    let at = c.in-Some-place.at in
    let old : MemoryOf = record { zones = zones; receipts = receipt_rows c.self.inside.receipts } in
    let all_fit = subst (λ q. Unit {0} → (s : State) → HoldsState q s → Fits s (addition_in a)) (sym c.self.view_is) c.requires.fits in
    let held = c.index.result.now in
    let place : position (is_of origin) zones ≡ Some at = sym (c.in-Some-place.ensures ∙ ap (position (is_of origin)) c.deref.ensures.value) in
    let found : find (is_of origin) zones ≡ Some held = found_at (is_of origin) zones at held place ∙ ap Some (sym c.index.ensures) in
    let fits = fits_found old a change held c.self.invariant all_fit c.in-Some.is found in
    moved (λ z r s. IsZone (record { origin = z.origin; records = changed z.records r s })) c.in_ok-zone.zone held.zone change.removed.items change.removed.items change.added.items change.added.items c.in_ok-zone.ensures refl refl
    (fits_zone origin held change (of_origin zones origin held found) fits)

pub returns-in_err-make_room-clause-failed : goal.returns-in_err-make_room-clause-failed
returns-in_err-make_room-clause-failed c =
    let a = c.args.addition in
    let origin = a.receipt.origin in
    let change = c.in-Some.change in
    let zones = c.self.inside.zones.items in
    let at = c.in-Some-place.at in
    let place : position (is_of origin) zones ≡ Some at = sym (c.in-Some-place.ensures ∙ ap (position (is_of origin)) c.deref.ensures.value) in
    let room = c.make_room.new.zones in
    let with_room : IsPutAt zones room at HoldsSame = subst (λ q. IsPutAt q room at HoldsSame) c.deref_mut.ensures.value c.make_room.ensures.same in
    let items = put_items c.self.inside.zones zones room at HoldsSame with_room refl in
    let old : MemoryOf = record { zones = zones; receipts = receipt_rows c.self.inside.receipts } in
    let new : MemoryOf = record { zones = (with_items c.self.inside.zones room).items; receipts = receipt_rows c.self.inside.receipts } in
    on_err c.from_residual-in_err-make_room.result _
    (λ s h. holds_same old new s (λ o. ap (λ q. held_among q o) items ∙ room_same zones room origin at place with_room o) (λ caller id. refl)
    (subst (λ q. HoldsState q s) (sym c.self.view_is) h))

pub returns-in_err-keep-2-clause-failed : goal.returns-in_err-keep-2-clause-failed
returns-in_err-keep-2-clause-failed c =
    let a = c.args.addition in
    let origin = a.receipt.origin in
    let change = c.in-Some.change in
    let zones = c.self.inside.zones.items in
    let at = c.in-Some-place.at in
    let place : position (is_of origin) zones ≡ Some at = sym (c.in-Some-place.ensures ∙ ap (position (is_of origin)) c.deref.ensures.value) in
    let room = c.make_room.new.zones in
    let with_room : IsPutAt zones room at HoldsSame = subst (λ q. IsPutAt q room at HoldsSame) c.deref_mut.ensures.value c.make_room.ensures.same in
    let items = put_items c.self.inside.zones zones room at HoldsSame with_room refl in
    let old : MemoryOf = record { zones = zones; receipts = receipt_rows c.self.inside.receipts } in
    let new : MemoryOf = record { zones = (with_items c.self.inside.zones room).items; receipts = receipt_rows c.keep-2.new.receipts } in
    on_err c.from_residual-in_err-keep-2.result _
    (λ s h. holds_same old new s (λ o. ap (λ q. held_among q o) items ∙ room_same zones room origin at place with_room o)
    (same_rows c.self.inside.receipts c.keep-2.new.receipts c.in_err-keep-2.ensures.same) (subst (λ q. HoldsState q s) (sym c.self.view_is) h))

pub put-requires-clause-room : goal.put-requires-clause-room
put-requires-clause-room c =
    let a = c.args.addition in
    let origin = a.receipt.origin in
    let change = c.in-Some.change in
    let zones = c.self.inside.zones.items in
    let at = c.in-Some-place.at in
    let place : position (is_of origin) zones ≡ Some at = sym (c.in-Some-place.ensures ∙ ap (position (is_of origin)) c.deref.ensures.value) in
    let room = c.make_room.new.zones in
    let with_room : IsPutAt zones room at HoldsSame = subst (λ q. IsPutAt q room at HoldsSame) c.deref_mut.ensures.value c.make_room.ensures.same in
    let items = put_items c.self.inside.zones zones room at HoldsSame with_room refl in
    subst (λ q. HasRoomAt q at) (sym (c.deref_mut-2.ensures.value ∙ items)) c.in_ok-make_room.ensures.room

pub invariant_of-self : goal.invariant_of-self
invariant_of-self c =
    let old : MemoryOf = record { zones = c.self.inside.zones.items; receipts = receipt_rows c.self.inside.receipts } in
    let new : MemoryOf = record { zones = c.self.inside.zones.items; receipts = receipt_rows c.keep.new.receipts } in
    same_receipts old new c.self.invariant.zones (same_rows c.self.inside.receipts c.keep.new.receipts c.in_err-keep.ensures.same) c.self.invariant

pub invariant_of-self-in_default : goal.invariant_of-self-in_default
invariant_of-self-in_default c =
    let a = c.args.addition in
    let old : MemoryOf = record { zones = c.self.inside.zones.items; receipts = receipt_rows c.self.inside.receipts } in
    let new : MemoryOf = record { zones = c.self.inside.zones.items; receipts = receipt_rows c.keep.new.receipts } in
    one_receipt old new a.caller a.id a.receipt c.self.invariant.zones
    (kept_rows c.self.inside.receipts c.keep.new.receipts a.caller a.id a.receipt c.in_ok-keep.ensures.kept) c.reveal_update.ensures c.self.invariant

pub invariant_of-self-in_err-keep-2 : goal.invariant_of-self-in_err-keep-2
invariant_of-self-in_err-keep-2 c =
    let origin = c.args.addition.receipt.origin in
    let zones = c.self.inside.zones.items in
    let at = c.in-Some-place.at in
    let held = c.index.result.now in
    let place : position (is_of origin) zones ≡ Some at = sym (c.in-Some-place.ensures ∙ ap (position (is_of origin)) c.deref.ensures.value) in
    let inside : at < length zones = (position-Some (is_of origin) zones at held place).0 in
    let room = c.make_room.new.zones in
    let with_room : IsPutAt zones room at HoldsSame = subst (λ q. IsPutAt q room at HoldsSame) c.deref_mut.ensures.value c.make_room.ensures.same in
    let items = put_items c.self.inside.zones zones room at HoldsSame with_room refl in
    let old : MemoryOf = record { zones = zones; receipts = receipt_rows c.self.inside.receipts } in
    let new : MemoryOf = record { zones = (with_items c.self.inside.zones room).items; receipts = receipt_rows c.keep-2.new.receipts } in
    same_receipts old new (subst EachIsZone (sym items) (room_are_zones zones room at c.self.invariant.zones inside with_room))
    (same_rows c.self.inside.receipts c.keep-2.new.receipts c.in_err-keep-2.ensures.same) c.self.invariant

pub invariant_of-self-2 : goal.invariant_of-self-2
invariant_of-self-2 c =
    let a = c.args.addition in
    let origin = a.receipt.origin in
    let change = c.in-Some.change in
    let zones = c.self.inside.zones.items in
    let at = c.in-Some-place.at in
    let old : MemoryOf = record { zones = zones; receipts = receipt_rows c.self.inside.receipts } in
    let all_fit = subst (λ q. Unit {0} → (s : State) → HoldsState q s → Fits s (addition_in a)) (sym c.self.view_is) c.requires.fits in
    let held = c.index.result.now in
    let place : position (is_of origin) zones ≡ Some at = sym (c.in-Some-place.ensures ∙ ap (position (is_of origin)) c.deref.ensures.value) in
    let found : find (is_of origin) zones ≡ Some held = found_at (is_of origin) zones at held place ∙ ap Some (sym c.index.ensures) in
    let fits = fits_found old a change held c.self.invariant all_fit c.in-Some.is found in
    let room = c.make_room.new.zones in
    let with_room : IsPutAt zones room at HoldsSame = subst (λ q. IsPutAt q room at HoldsSame) c.deref_mut.ensures.value c.make_room.ensures.same in
    let items = put_items c.self.inside.zones zones room at HoldsSame with_room refl in
    let after = c.put.new.zones in
    let zone = c.in_ok-zone-2.zone in
    let here : c.deref_mut-2.result.now ≡ room = c.deref_mut-2.ensures.value ∙ items in
    let changed_there : IsPutAt room after at (HoldsChange zone change) = subst (λ q. IsPutAt q after at (HoldsChange zone change)) here c.put.ensures in
    let all_items = put_items (with_items c.self.inside.zones room) c.deref_mut-2.result.now after at (HoldsChange zone change) c.put.ensures c.deref_mut-2.ensures.value in
    let is_zone = subst IsZone (sym c.in_ok-zone-2.ensures) (moved (λ z r s. IsZone (record { origin = z.origin; records = changed z.records r s })) c.in_ok-zone.zone held.zone
    change.removed.items change.removed.items change.added.items change.added.items c.in_ok-zone.ensures refl refl
    (fits_zone origin held change (of_origin zones origin held found) fits)) in
    let are_zones : EachIsZone after = made_are_zones zones room after at change zone c.self.invariant.zones with_room changed_there is_zone in
    let new : MemoryOf = record { zones = (with_items (with_items c.self.inside.zones room) after).items; receipts = receipt_rows c.keep-2.new.receipts } in
    one_receipt old new a.caller a.id a.receipt (subst EachIsZone (sym all_items) are_zones)
    (kept_rows c.self.inside.receipts c.keep-2.new.receipts a.caller a.id a.receipt c.in_ok-keep-2.ensures.kept) c.reveal_update.ensures c.self.invariant

pub returns-clause-made : goal.returns-clause-made
returns-clause-made c = λ u s h.
    let a = c.args.addition in
    let origin = a.receipt.origin in
    let change = c.in-Some.change in
    let zones = c.self.inside.zones.items in
    let at = c.in-Some-place.at in
    let old : MemoryOf = record { zones = zones; receipts = receipt_rows c.self.inside.receipts } in
    let all_fit = subst (λ q. Unit {0} → (s : State) → HoldsState q s → Fits s (addition_in a)) (sym c.self.view_is) c.requires.fits in
    let held = c.index.result.now in
    let place : position (is_of origin) zones ≡ Some at = sym (c.in-Some-place.ensures ∙ ap (position (is_of origin)) c.deref.ensures.value) in
    let found : find (is_of origin) zones ≡ Some held = found_at (is_of origin) zones at held place ∙ ap Some (sym c.index.ensures) in
    let fits = fits_found old a change held c.self.invariant all_fit c.in-Some.is found in
    let room = c.make_room.new.zones in
    let with_room : IsPutAt zones room at HoldsSame = subst (λ q. IsPutAt q room at HoldsSame) c.deref_mut.ensures.value c.make_room.ensures.same in
    let items = put_items c.self.inside.zones zones room at HoldsSame with_room refl in
    let after = c.put.new.zones in
    let zone = c.in_ok-zone-2.zone in
    let here : c.deref_mut-2.result.now ≡ room = c.deref_mut-2.ensures.value ∙ items in
    let changed_there : IsPutAt room after at (HoldsChange zone change) = subst (λ q. IsPutAt q after at (HoldsChange zone change)) here c.put.ensures in
    let all_items = put_items (with_items c.self.inside.zones room) c.deref_mut-2.result.now after at (HoldsChange zone change) c.put.ensures c.deref_mut-2.ensures.value in
    let is_zone = subst IsZone (sym c.in_ok-zone-2.ensures) (moved (λ z r s. IsZone (record { origin = z.origin; records = changed z.records r s })) c.in_ok-zone.zone held.zone
    change.removed.items change.removed.items change.added.items change.added.items c.in_ok-zone.ensures refl refl
    (fits_zone origin held change (of_origin zones origin held found) fits)) in
    let are_zones : EachIsZone after = made_are_zones zones room after at change zone c.self.invariant.zones with_room changed_there is_zone in
    let inside : at < length zones = (position-Some (is_of origin) zones at held place).0 in
    let zone_is : IsChangedAt zones at change zone = λ d.
    let before : c.in_ok-zone.zone ≡ (get_or zones at d).zone = c.in_ok-zone.ensures ∙ ap (λ q. q.zone) (c.index.ensures ∙ get_or_default zones at held d inside) in
    c.in_ok-zone-2.ensures ∙ (λ i. record { origin = (before i).origin; records = changed (before i).records change.removed.items change.added.items }) in
    let new : MemoryOf = record { zones = (with_items (with_items c.self.inside.zones room) after).items; receipts = receipt_rows c.keep-2.new.receipts } in
    let kept = kept_rows c.self.inside.receipts c.keep-2.new.receipts a.caller a.id a.receipt c.in_ok-keep-2.ensures.kept in
    let is = one_receipt old new a.caller a.id a.receipt (subst EachIsZone (sym all_items) are_zones) kept c.reveal_update.ensures c.self.invariant in
    holds_change old new s a change c.in-Some.is is
    (λ o. ap (λ q. held_among q o) all_items ∙ made_zones zones room after origin at change zone place with_room changed_there zone_is o)
    kept (subst (λ q. HoldsState q s) (sym c.self.view_is) h)
