use Rattle.std.proofs.Common.{List, ℕ, inl, refl, Err}
use Rattle.std.specs.Result.{result_map_both}
use Rattle.dns_names.specs.Reading.{absolute_name}
use Rattle.dns_data.specs.declared.record.Record.{Record}
use Rattle.sqlite.specs.Held.{state}
use Rattle.cli_text.specs.Canon.{zone_text_in}
use Rattle.cli_core.specs.LineFaults.{of_names}
use Rattle.cli_store.specs.ZoneHistory.{history_in, past_text, records_after, IsHistoryRead}
use Rattle.cli_store.proofs.FilesLemmas.{got_seen}
use Rattle.cli_store.proofs.HistoryLemmas.{of_history_seen, seen_twice, told_made}
use Rattle.cli_store.proofs.past_zone.export_at.Goals as goal

pub returns-in-Ok : goal.returns-in-Ok
returns-in-Ok g c =
    let shows = state g.S.Store in
    let path = c.args.stored.store.now in
    let finds = g.P.StoreFiles.finds c.args.files path in
    let refuses = g.P.StoreFiles.refuses c.args.files path in
    let connects = g.P.StoreFiles.connects c.args.files path in
    let origin = c.in-Ok.origin in
    let got = c.asked_by-conn.result in
    let form = c.args.which.1 in
    let number = c.args.which.0 in
    let text = λ (rs : List Record). zone_text_in form origin rs in
    let rows = result_map_both (λ rows. rows.items) (λ fault. fault) c.past_of-past.result in
    let made = result_map_both text (λ fault. fault) rows in (
      made,
      told_made shows (of_names (absolute_name c.args.stored.origin.now)) (λ (o : List (List ℕ)). o) (past_text form number) finds refuses connects origin got.0 (result_map_both history_in (λ fault. fault) got.1) made
          c.in-Ok.ensures (got_seen shows finds refuses connects history_in (IsHistoryRead origin) got.0 got.1 c.asked_by-conn.ensures)
          (of_history_seen text (records_after number) (result_map_both history_in (λ fault. fault) got.1) rows c.past_of-past.ensures),
      seen_twice text (λ rows. rows.items) _ _ _ _ c.past_of-past.result c.print_past.result c.print_past.ensures,
    )

pub returns-in-Err : goal.returns-in-Err
returns-in-Err g c = (Err c.in-Err.fault, inl (c.in-Err.ensures, refl), c.write_refusal.ensures)
