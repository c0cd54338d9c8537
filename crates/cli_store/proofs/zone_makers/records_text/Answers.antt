use Rattle.std.proofs.Common.{List, ℕ, ◌++◌, Option, None, Vec, Global, map, slice_index_or, ap, sym, ◌∙◌}
use Rattle.std.specs.List.{flat_map}
use Rattle.dns_data.specs.declared.record.Record.{Record}
use Rattle.cli_store.specs.BlameReceipts.{receipts_line}
use Rattle.cli_store.proofs.BlameLemmas.{zip_end, zip_next}
use Rattle.cli_store.proofs.zone_makers.records_text.Goals as goal

pub loop-i-preserved : goal.loop-i-preserved
loop-i-preserved c =
    let found = c.args.found.now in
    let f = λ (p : Record × Option ℕ). receipts_line c.args.name.now found.senders.items (map (λ (v : Vec ℕ Global). v.items) found.lists.items) p.0 p.1 in
    let r = c.index-records-i.result in
    c.in_ok-push_record.ensures
    ∙ ap (λ (t : List ℕ). t ++ f (r, slice_index_or c.args.numbers.now c.loop-i.i None)) c.loop-i.invariant
    ∙ sym (zip_next f c.loop-i.i c.args.records.now c.args.numbers.now r None c.loop-i-test.true c.requires c.index-records-i.is)

pub returns : goal.returns
returns c =
    let found = c.args.found.now in
    let f = λ (p : Record × Option ℕ). receipts_line c.args.name.now found.senders.items (map (λ (v : Vec ℕ Global). v.items) found.lists.items) p.0 p.1 in
    c.loop-i.invariant ∙ ap (flat_map f) (zip_end c.loop-i.i c.args.records.now c.args.numbers.now c.loop-i-test.false)
