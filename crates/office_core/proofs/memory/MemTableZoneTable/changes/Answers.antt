use Rattle.std.proofs.Common.{Some, ap, ◌∙◌}
use Rattle.std.specs.List.{find}
use Rattle.std.specs.Prelude.{map}
use Rattle.zone_core.specs.Changes.{change_in}
use Rattle.office_core.specs.Memory.{is_of, receipt_rows}
use Rattle.office_core.proofs.MemoryLemmas.{changes_told}
use Rattle.office_core.proofs.memory.MemTableZoneTable.changes.Goals as goal

pub returns-clause-answer : goal.returns-clause-answer
returns-clause-answer c = λ u s h.
    let origin = c.args.origin.now in
    let zones = c.self.inside.zones.items in
    let held = c.in-Some.held.now in
    let found = c.in-Some.ensures ∙ ap (find (is_of origin)) c.deref.ensures.value in
    let told = changes_told c.args.self.now zones (receipt_rows c.self.inside.receipts) s origin (Some held) c.self.view_is h found in
    ap Some (c.in_ok-copied_changes.ensures ∙ ap (map change_in) c.deref-2.ensures.value) ∙ told
