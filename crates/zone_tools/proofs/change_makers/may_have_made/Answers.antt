use Rattle.std.proofs.Common.{◌≡◌, true, false, is_some, sym, ap, subst, ◌∙◌}
use Rattle.std.specs.Result.{IfOk}
use Rattle.zone_core.specs.Zones.{ZoneOf, IsZone, built, zone_of}
use Rattle.zone_core.specs.Updates.{ActsWithin, item_names}
use Rattle.zone_core.specs.Parts.{at_names}
use Rattle.zone_core.specs.Faults.{Refuses}
use Rattle.zone_core.specs.Changes.{change_in, is_empty}
use Rattle.zone_core.proofs.ChangedLemmas.{kept_in_part}
use Rattle.zone_tools.specs.Makers.{read_by, zone_read}
use Rattle.zone_tools.proofs.MakerLemmas.{not_so, none_is, if_weaker, may_is, read_rows, built_ok, refused_not}
use Rattle.zone_tools.specs.Past.{lacks}
use Rattle.zone_tools.proofs.TouchLemmas.{never_lacks}
use Rattle.zone_tools.proofs.change_makers.may_have_made.Goals as goal

pub returns-then-is_empty : goal.returns-then-is_empty
returns-then-is_empty c = λ set is. not_so (λ may. let bad : true ≡ false = sym c.if-is_empty.true ∙ c.is_empty.ensures ∙ may.something in cc)

pub returns-then-is_some : goal.returns-then-is_some
returns-then-is_some c = λ set is. not_so (λ may. let bad : true ≡ false = sym c.if-is_some.true ∙ c.is_some.ensures ∙ ap is_some (c.outside.ensures.inside.1 may.inside) in cc)

pub returns-then-lacks : goal.returns-then-lacks
returns-then-lacks c = λ set is.
    not_so (λ may.
    let never = never_lacks (zone_read c.args.origin.now set c.args.update.now) c.args.update.now (change_in c.args.change.now) c.operations.ensures.update may in
    let bad : true ≡ false =
    sym c.if-lacks.true ∙ c.lacks.ensures ∙ (λ i. lacks (c.requires i) (c.operations.ensures.value i)) ∙ never in
    cc)

pub makes-requires : goal.makes-requires
makes-requires c =
    let zone = c.in-Ok.zone in
    let inside : ActsWithin c.args.origin.now c.args.update.now = c.outside.ensures.inside.0 (none_is c.outside.result (sym c.is_some.ensures ∙ c.if-is_some.false)) in
    let built_zone : zone ≡ zone_of c.args.origin.now c.in_ok-rows.rows.items =
    built_ok c.args.origin.now c.in_ok-own.own c.in_ok-rows.rows.items zone c.build.result c.in_ok-own.ensures c.in-Ok.is c.build.ensures.exact in
    subst (λ o. ActsWithin o c.args.update.now) (sym (ap (λ (z : ZoneOf). z.origin) built_zone)) inside

pub returns-in-Ok : goal.returns-in-Ok
returns-in-Ok c = λ set is.
    let origin = c.args.origin.now in
    let update = c.args.update.now in
    let rows = c.in_ok-rows.rows.items in
    let zone = c.in-Ok.zone in
    let inside : ActsWithin origin update = c.outside.ensures.inside.0 (none_is c.outside.result (sym c.is_some.ensures ∙ c.if-is_some.false)) in
    let built_zone : zone ≡ zone_of origin rows = built_ok origin c.in_ok-own.own rows zone c.build.result c.in_ok-own.ensures c.in-Ok.is c.build.ensures.exact in
    let acts : ActsWithin zone.origin update = subst (λ o. ActsWithin o update) (sym (ap (λ (z : ZoneOf). z.origin) built_zone)) inside in
    let same : zone ≡ zone_read origin set update =
    built_zone ∙ read_rows origin (read_by origin update set) rows (kept_in_part set (at_names origin (item_names update)) is.kept) (c.in_ok-rows.ensures set is) in
    let some : is_empty (change_in c.args.change.now) ≡ false = sym c.is_empty.ensures ∙ c.if-is_empty.false in
    if_weaker c.makes.result
    (λ b told. may_is zone (zone_read origin set update) update (change_in c.args.change.now) b same (subst (λ r. IfOk r IsZone) c.in-Ok.is c.build.ensures.found) acts some told) c.makes.ensures

pub returns-in_default : goal.returns-in_default
returns-in_default c = λ set is.
    let origin = c.args.origin.now in
    let update = c.args.update.now in
    let rows = c.in_ok-rows.rows.items in
    let refused = subst (λ o. Refuses c.in-Err.fault (built o rows)) c.in_ok-own.ensures c.in-Err.ensures.exact in
    not_so (λ may. refused_not origin rows c.in-Err.fault c.in_default.not-NoMemory refused
    (subst IsZone (sym (read_rows origin (read_by origin update set) rows (kept_in_part set (at_names origin (item_names update)) is.kept) (c.in_ok-rows.ensures set is))) may.is_zone))
