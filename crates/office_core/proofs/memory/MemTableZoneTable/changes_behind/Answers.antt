use Rattle.std.proofs.Common.{List, Some, ap, option_map, sym, ◌∙◌}
use Rattle.std.specs.List.{find}
use Rattle.std.specs.Prelude.{drop, take, map}
use Rattle.std.proofs.lemmas.List.{drop-map, take-map}
use Rattle.zone_core.specs.declared.change.Change.{Change}
use Rattle.zone_core.specs.Changes.{ChangeOf, change_in}
use Rattle.office_core.specs.Memory.{is_of, receipt_rows}
use Rattle.office_core.proofs.MemoryLemmas.{changes_told}
use Rattle.office_core.proofs.memory.MemTableZoneTable.changes_behind.Goals as goal

pub returns-clause-answer : goal.returns-clause-answer
returns-clause-answer c = λ u s h.
    let origin = c.args.origin.now in
    let zones = c.self.inside.zones.items in
    let held = c.in-Some.held.now in
    let found = c.in-Some.ensures ∙ ap (find (is_of origin)) c.deref.ensures.value in
    let told = changes_told c.args.self.now zones (receipt_rows c.self.inside.receipts) s origin (Some held) c.self.view_is h found in
    let behind = λ (cs : List ChangeOf). take c.args.most (drop c.args.count cs) in
    ap Some
    (c.in_ok-copied_changes.ensures
    ∙ ap (map change_in) (c.behind-changes.ensures ∙ ap (λ (cs : List Change). take c.args.most (drop c.args.count cs)) c.deref-2.ensures.value)
    ∙ sym (take-map change_in c.args.most (drop c.args.count held.changes.items))
    ∙ ap (take c.args.most) (sym (drop-map change_in c.args.count held.changes.items)))
    ∙ ap (option_map behind) told
