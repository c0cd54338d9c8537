use Rattle.std.proofs.Common.{List, ℕ, inl, refl, Err}
use Rattle.std.specs.Prelude.{string_bytes}
use Rattle.std.specs.Result.{result_map_both}
use Rattle.dns_names.specs.Reading.{absolute_name}
use Rattle.sqlite.specs.Held.{state}
use Rattle.cli_core.specs.LineFaults.{of_names}
use Rattle.cli_store.specs.ZoneHistory.{history_in, undo_text, IsHistoryRead}
use Rattle.cli_store.proofs.FilesLemmas.{got_seen}
use Rattle.cli_store.proofs.HistoryLemmas.{told_made}
use Rattle.cli_store.proofs.zone_undo.undo.Goals as goal

pub returns-in-Ok : goal.returns-in-Ok
returns-in-Ok g c =
    let shows = state g.S.Store in
    let path = c.args.words.zone.store.now in
    let finds = g.P.StoreFiles.finds c.args.files path in
    let refuses = g.P.StoreFiles.refuses c.args.files path in
    let connects = g.P.StoreFiles.connects c.args.files path in
    let origin = c.in-Ok.origin in
    let got = c.asked_by-conn.result in
    let made = result_map_both string_bytes (λ fault. fault) c.text_of-text.result in (
      made,
      told_made shows (of_names (absolute_name c.args.words.zone.origin.now)) (λ (o : List (List ℕ)). o) (undo_text c.args.words.first c.args.words.last) finds refuses connects origin got.0 (result_map_both history_in (λ fault. fault) got.1) made
          c.in-Ok.ensures (got_seen shows finds refuses connects history_in (IsHistoryRead origin) got.0 got.1 c.asked_by-conn.ensures) c.text_of-text.ensures,
      c.report.ensures,
    )

pub returns-in-Err : goal.returns-in-Err
returns-in-Err g c = (Err c.in-Err.fault, inl (c.in-Err.ensures, refl), c.write_refusal.ensures)
