use Rattle.std.proofs.Common.{◌≡◌, ◌-◌, List, Some, drop, length, map, ap, sym, ◌∙◌, arith}
use Rattle.std.proofs.lemmas.List.{drop-map, length-drop, length-map, take_all}
use Rattle.zone_core.specs.declared.change.Change.{Change}
use Rattle.zone_core.specs.Changes.{ChangeOf, change_in}
use Rattle.cli_store.proofs.HistoryLemmas.{picked}
use Rattle.cli_store.proofs.zone_history.later.Goals as goal

pub returns-then-number-changes : goal.returns-then-number-changes
returns-then-number-changes c =
    let n = c.args.number in
    let xs = c.args.changes.now in
    ap (λ (ys : List Change). Some (map change_in ys)) (take_all (length xs - n) (drop n xs) (omega (arith, length-drop n xs)))
    ∙ ap (λ (ys : List ChangeOf). Some ys) (sym (drop-map change_in n xs))
    ∙ sym (picked n (map change_in xs) (omega (arith, c.if-number-changes.true, length-map xs change_in)))
