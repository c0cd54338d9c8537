use Rattle.std.proofs.lemmas.Result.{err_from_is_err_and}
use Rattle.sqlite.specs.Held.{state}
use Rattle.cli_store.proofs.ListPutLemmas.{leads_more, leads_last, leads_all}
use Rattle.cli_store.proofs.import_list.put_all.Goals as goal

pub loop-zone-init : goal.loop-zone-init
loop-zone-init g c = λ after new fails outcome puts. puts

pub loop-zone-preserved : goal.loop-zone-preserved
loop-zone-preserved g c =
    leads_more (state g.S.Store) (g.M.Surroundings.around c.args.around.now) c.args.existing c.args.zones.now c.loop-zone.zone-index c.zone-item.result _ _ _ _ _ _ _ _ _ c.loop-zone-test.true c.zone-item.is c.loop-zone.invariant c.in_ok-pass_told.ensures

pub returns-in_err-pass_told : goal.returns-in_err-pass_told
returns-in_err-pass_told g c =
    let p = err_from_is_err_and c.from_residual.result c.from_residual.ensures.1 in
    rw (p.1, p.2) (leads_last (state g.S.Store) (g.M.Surroundings.around c.args.around.now) c.args.existing c.args.zones.now c.loop-zone.zone-index c.zone-item.result _ _ _ _ _ _ _ _ _ c.loop-zone-test.true c.zone-item.is c.loop-zone.invariant _ c.in_err-pass_told.ensures)

pub returns : goal.returns
returns g c =
    leads_all (state g.S.Store) (g.M.Surroundings.around c.args.around.now) c.args.existing c.args.zones.now c.loop-zone.zone-index _ _ _ _ _ _ c.loop-zone-test.false c.loop-zone.invariant
