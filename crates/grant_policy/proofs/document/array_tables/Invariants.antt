use Rattle.std.proofs.Common.{◌≡◌, drop, map}
use Rattle.toml.specs.View.{items_view, table_view}
use Rattle.grant_policy.specs.Reading.{tables_of}
use Rattle.grant_policy.proofs.ReadLemmas.{tables_front}
use Rattle.grant_policy.proofs.document.array_tables.Given as goal

-- the tables so far stand before the others
abbrev pub invariant-loop-item : goal.invariant-loop-item
invariant-loop-item l =
    tables_of (items_view l.items) ≡ tables_front (map (λ t. table_view t.now) l.tables.items) (tables_of (items_view (drop l.item-index l.items)))
