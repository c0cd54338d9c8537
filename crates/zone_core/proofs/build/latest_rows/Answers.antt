use Rattle.std.proofs.Common.{◌≡◌, ap, subst, ◌∙◌}
use Rattle.std.proofs.lemmas.Result.{IfOk-weaker}
use Rattle.zone_core.specs.Sets.{set_of}
use Rattle.zone_core.specs.Zones.{latest}
use Rattle.zone_core.specs.KeyPrefixes.{ShareOctets}
use Rattle.zone_core.proofs.build.latest_rows.Goals as goal

pub in_order_behind-requires : goal.in_order_behind-requires
in_order_behind-requires c = subst (ShareOctets c.shared_of-shared.result) c.deref.ensures.value c.shared_of-shared.ensures

pub returns-clause-set : goal.returns-clause-set
returns-clause-set c =
    IfOk-weaker c.in_order_behind.result (λ rows. set_of rows.items ≡ set_of c.reversed-records.result.items) (λ rows. set_of rows.items ≡ latest c.args.records.items)
    (λ rows e. e ∙ ap set_of c.reversed-records.ensures) c.in_order_behind.ensures.set
