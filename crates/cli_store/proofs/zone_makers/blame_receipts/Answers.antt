use Rattle.std.proofs.Common.{option_map, inl, refl, Err}
use Rattle.std.specs.Prelude.{string_bytes}
use Rattle.std.specs.Result.{result_map_both}
use Rattle.sqlite.specs.Held.{state}
use Rattle.cli_store.specs.BlameReceipts.{receipts_in, AreReceiptsRead}
use Rattle.cli_store.proofs.FilesLemmas.{got_seen}
use Rattle.cli_store.proofs.BlameReceiptLemmas.{receipts_made}
use Rattle.cli_store.proofs.zone_makers.blame_receipts.Goals as goal

pub returns-in-Ok : goal.returns-in-Ok
returns-in-Ok g c =
    let shows = state g.S.Store in
    let path = c.args.stored.store.now in
    let finds = g.P.StoreFiles.finds c.args.files path in
    let refuses = g.P.StoreFiles.refuses c.args.files path in
    let connects = g.P.StoreFiles.connects c.args.files path in
    let asked = c.in-Ok.asked in
    let got = c.asked_by-conn.result in
    let made = result_map_both string_bytes (λ fault. fault) c.text_of.result in (
      made,
      receipts_made shows c.args.stored.origin.now (option_map (λ n. n.now) c.args.name) finds refuses connects asked got.0 (result_map_both receipts_in (λ fault. fault) got.1) made c.in-Ok.ensures
          (got_seen shows finds refuses connects receipts_in (AreReceiptsRead asked.origin) got.0 got.1 c.asked_by-conn.ensures) c.text_of.ensures,
      c.report.ensures,
    )

pub returns-in-Err : goal.returns-in-Err
returns-in-Err g c = (Err c.in-Err.fault, inl (c.in-Err.ensures, refl), c.write_refusal.ensures)
