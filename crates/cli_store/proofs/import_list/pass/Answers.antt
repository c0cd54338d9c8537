use Rattle.std.proofs.Common.{◌∙◌}
use Rattle.std.proofs.lemmas.Result.{err_from_is_err_and}
use Rattle.std.specs.Prelude.{string_bytes}
use Rattle.store_faults.specs.declared.store_fault.StoreFault.TheVariants as store
use Rattle.cli_store.specs.ZoneFiles.{zone_file_view}
use Rattle.cli_store.proofs.ListPutLemmas.{passes_put, passes_kept, passes_none}
use Rattle.cli_store.proofs.import_list.pass.Goals as goal

pub returns-in_err-line : goal.returns-in_err-line
returns-in_err-line g c =
    let p = err_from_is_err_and c.from_residual-in_err-line.result c.from_residual-in_err-line.ensures.1 in
    rw p.1 (passes_none (g.M.Surroundings.around c.args.around.now) c.args.existing (zone_file_view c.args.zone.now) _ _ store.NoMemory p.0 c.in_ok-kept.ensures.same tt p.2)

pub returns-then-kept : goal.returns-then-kept
returns-then-kept g c =
    let kept = c.in_ok-kept.ensures.kept c.if-kept.true in
    passes_kept (g.M.Surroundings.around c.args.around.now) c.args.existing (zone_file_view c.args.zone.now) _ _ (string_bytes c.in_ok-line.line) c.in_ok-kept.ensures.same kept
    (λ clean s holds. c.in_ok-kept.ensures.there clean kept s holds ∙ c.if-kept.true) c.in_ok-line.ensures

pub returns : goal.returns
returns g c =
    passes_put (g.M.Surroundings.around c.args.around.now) c.args.existing (zone_file_view c.args.zone.now) _ _ _ _ c.in_ok-kept.ensures.same
    (λ clean kept s holds. c.in_ok-kept.ensures.there clean kept s holds ∙ c.if-kept.false) c.put_file.ensures
