use Rattle.std.proofs.Common.{List, ℕ, ◌++◌, Option, None, slice_index_or, ap, sym, ◌∙◌}
use Rattle.std.specs.List.{flat_map}
use Rattle.dns_data.specs.declared.record.Record.{Record}
use Rattle.cli_store.specs.ZoneHistory.{blame_line}
use Rattle.cli_store.proofs.BlameLemmas.{zip_end, zip_next}
use Rattle.cli_store.proofs.zone_blame.blamed_text.Goals as goal

pub loop-i-preserved : goal.loop-i-preserved
loop-i-preserved c =
    let f = λ (p : Record × Option ℕ). blame_line c.args.name.now p.0 p.1 in
    let r = c.index-records-i.result in
    c.in_ok-push_blamed.ensures
    ∙ ap (λ (t : List ℕ). t ++ f (r, slice_index_or c.args.found.now c.loop-i.i None)) c.loop-i.invariant
    ∙ sym (zip_next f c.loop-i.i c.args.records.now c.args.found.now r None c.loop-i-test.true c.requires c.index-records-i.is)

pub returns : goal.returns
returns c = c.loop-i.invariant ∙ ap (λ (pairs : List (Record × Option ℕ)). flat_map (λ (p : Record × Option ℕ). blame_line c.args.name.now p.0 p.1) pairs) (zip_end c.loop-i.i c.args.records.now c.args.found.now c.loop-i-test.false)
