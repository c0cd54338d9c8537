use Rattle.std.proofs.Common.{◌≡◌, List, Some, Ok, map, ap, sym, ◌∙◌}
use Rattle.dns_data.specs.declared.record.Record.{Record}
use Rattle.zone_core.specs.declared.change.Change.{Change}
use Rattle.zone_core.specs.Changes.{change_in}
use Rattle.zone_core.specs.Sets.{Records, listing}
use Rattle.zone_tools.specs.History.{before}
use Rattle.cli_store.specs.ZoneHistory.{before_later, history_in, later}
use Rattle.cli_store.proofs.HistoryLemmas.{rows_are}
use Rattle.cli_store.proofs.zone_history.ZoneHistory.records_after.Goals as goal

pub returns : goal.returns
returns c =
    let held = history_in c.args.self.now in
    let cs = map change_in c.in-Some.later.now in
    let is : later c.args.number held.changes ≡ Some cs = sym (rw c.in-Some.is at c.later.ensures ∙ ap (λ (xs : List Change). later c.args.number (map change_in xs)) c.deref.ensures.value) in
    ap (before_later held) is ∙ ap (λ (rs : List Record). Ok rs) (ap (λ (set : Records). listing (before cs set)) (sym c.records.ensures.set) ∙ sym (rows_are _ _ c.in_ok-records_before.ensures.exact))
