use Rattle.std.proofs.Common.{◌+◌, take, sym, subst}
use Rattle.std.proofs.lemmas.List.{take_all}
use Rattle.zone_core.specs.Sets.{set_of, part, at_name}
use Rattle.zone_core.specs.Parts.{at_names}
use Rattle.zone_core.specs.Rebuilt.{AreAllOf}
use Rattle.store_cache.proofs.CacheLemmas.{all_at_name, all_at_origin, all_filtered}
use Rattle.store_cache.proofs.cached_zone.CachedZone.copied_at.Goals as goal

pub loop-name-init : goal.loop-name-init
loop-name-init c =
    let self = c.args.self.now in
    all_at_origin (set_of self.rows) self.origin c.in_ok-records.records.items (all_filtered self.rows c.in_ok-records.records.items (at_name self.origin) c.in_ok-records.ensures.rows c.in_ok-records.ensures.value)

pub loop-name-preserved : goal.loop-name-preserved
loop-name-preserved c =
    let self = c.args.self.now in
    let name = c.name-item.result in
    let more = c.in_ok-more.ensures in
    subst (λ rs. AreAllOf rs (part (set_of self.rows) (at_names self.origin (take (c.loop-name.name-index + 1) c.args.names.now)))) (sym c.in_ok-append.ensures.items)
    (all_at_name (set_of self.rows) self.origin c.args.names.now c.loop-name.name-index name c.loop-name-test.true c.name-item.is c.loop-name.records.items c.in_ok-more.more.items c.loop-name.invariant
    (all_filtered self.rows c.in_ok-more.more.items (at_name name) more.rows more.value))

pub returns : goal.returns
returns c =
    let self = c.args.self.now in
    subst (λ ns. AreAllOf c.loop-name.records.items (part (set_of self.rows) (at_names self.origin ns))) (take_all c.loop-name.name-index c.args.names.now c.loop-name-test.false) c.loop-name.invariant
