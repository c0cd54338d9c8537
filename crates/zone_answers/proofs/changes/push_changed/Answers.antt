use Rattle.std.proofs.Common.{◌∙◌, ◌++◌, List, map, ap, sym, append-nil}
use Rattle.zone_core.specs.Sets.{listing}
use Rattle.zone_answers.specs.ChangeTests.{RowOf, row_of}
use Rattle.zone_answers.proofs.UnchangedLemmas.{unchanged_rows}
use Rattle.zone_answers.proofs.changes.push_changed.Goals as goal

pub returns-then-unchanged : goal.returns-then-unchanged
returns-then-unchanged c =
    let rows = map row_of c.args.rows.now.items in
    sym (append-nil rows)
    ∙ ap (λ (l : List RowOf). rows ++ l)
    (sym (unchanged_rows c.args.old.now.origin (listing c.args.old.now.records) (listing c.args.new.now.records) c.args.name.now (sym c.in_ok-unchanged.ensures ∙ c.if-unchanged.true)))
