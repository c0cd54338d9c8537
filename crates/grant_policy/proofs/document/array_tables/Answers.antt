use Rattle.std.proofs.Common.{◌+◌, List, Option, drop, map, sym, ap, ◌∙◌}
use Rattle.std.specs.Option.{ok_or}
use Rattle.std.proofs.lemmas.List.{map_push}
use Rattle.toml.specs.Data.{Members}
use Rattle.toml.specs.View.{items_view, table_view}
use Rattle.grant_policy.specs.Reading.{tables_of}
use Rattle.grant_policy.specs.declared.policy_fault.PolicyFault.TheVariants.{BadValue}
use Rattle.grant_policy.specs.declared.policy_fault.PolicyPlace.TheVariants.{Rules}
use Rattle.grant_policy.proofs.ReadLemmas.{item_here, tables_front, tables_more, tables_stop, tables_done}
use Rattle.grant_policy.proofs.document.array_tables.Goals as goal

pub loop-item-preserved : goal.loop-item-preserved
loop-item-preserved c =
    let items = c.args.items.now in
    let tables = c.loop-item.tables.items in
    let i = c.loop-item.item-index in
    let v = c.item-item.result in
    let here = item_here items i v c.loop-item-test.true c.item-item.is in
    rw c.in_ok-push-in-Some.ensures.items (c.loop-item.invariant ∙ tables_more items (map (λ t. table_view t.now) tables) i v (table_view c.in-Some.table.now) here (sym c.in-Some.ensures)
    ∙ ap (λ (l : List Members). tables_front l (tables_of (items_view (drop (i + 1) items)))) (sym (map_push (λ t. table_view t.now) tables c.in-Some.table)))

pub returns-in-None : goal.returns-in-None
returns-in-None c =
    let items = c.args.items.now in
    let i = c.loop-item.item-index in
    let v = c.item-item.result in
    let here = item_here items i v c.loop-item-test.true c.item-item.is in
    ap (λ (r : Option (List Members)). ok_or r (BadValue Rules)) (c.loop-item.invariant ∙ tables_stop items (map (λ t. table_view t.now) c.loop-item.tables.items) i v here (sym c.in-None.ensures))

pub returns : goal.returns
returns c =
    ap (λ (r : Option (List Members)). ok_or r (BadValue Rules)) (c.loop-item.invariant ∙ tables_done c.args.items.now (map (λ t. table_view t.now) c.loop-item.tables.items) c.loop-item.item-index c.loop-item-test.false)
