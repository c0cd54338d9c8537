use Rattle.std.proofs.Common.{◌≡◌, ◌++◌, [], sym, ap, ◌∙◌, arith}
use Rattle.std.proofs.lemmas.List.{nil_from_length}
use Rattle.zone_core.specs.Merges.{merged}
use Rattle.zone_core.proofs.ChangedLemmas.{changed_are}
use Rattle.zone_core.proofs.merge.merged.Goals as goal

pub loop-row-init : goal.loop-row-init
loop-row-init c =
    let none = c.in_ok-all.ensures.items in
    let items = c.into_iter-row-iterator.ensures.into_iter_gives.0 in
    λ i. none i ++ merged (items i) c.args.removed.now c.args.added.now

pub loop-row-preserved : goal.loop-row-preserved
loop-row-preserved c =
    let left = c.loop-row.left in
    c.in_ok-left.ensures c.next.new.self.rest.items
    ∙ ap (λ xs. c.loop-row.all.items ++ merged xs left.gone.now left.come.now) (sym c.in-Some.ensures.steps.0)
    ∙ c.loop-row.invariant

pub returns : goal.returns
returns c set rows_are fits =
    let left = c.loop-row.left in
    let it = c.loop-row.row-iterator.rest in
    let none : it.items ≡ [] = nil_from_length it.items (omega (arith, it.ok.0, c.in-None.ensures.steps.0)) in
    changed_are set c.args.rows.items c.args.removed.now c.args.added.now rows_are fits c.push_copies.new.rows.items
    (c.in_ok-push_copies.ensures ∙ ap (λ xs. c.loop-row.all.items ++ merged xs left.gone.now left.come.now) (sym none) ∙ c.loop-row.invariant)
