use Rattle.std.proofs.Common.{◌≡◌, ◌∙◌, ap, codes, map, string_bytes}
use Rattle.toml.specs.Data.{Data, array}
use Rattle.toml.specs.View.{items_view, members_view, table_view}
use Rattle.toml.proofs.Views.{view-Array}
use Rattle.policy_build.specs.Printing.{put_member}
use Rattle.policy_build.proofs.PrintingLemmas.{policy_members, printed}
use Rattle.policy_build.proofs.printing.rules_text.Goals as goal

pub returns-in-Ok : goal.returns-in-Ok
returns-in-Ok g c =
    let items = items_view c.in_ok-tables.tables.items in
    let e : table_view c.put.new.table ≡ policy_members items =
    c.in_ok-put.ensures
    ∙ ap (λ (d : Data). put_member (codes "rule") d (table_view c.new-top.result)) (view-Array c.in_ok-tables.tables)
    ∙ ap (put_member (codes "rule") (array items)) (ap members_view c.new-top.ensures.empty) in
    λ all are.
    printed items (map g.T.Printed.rule c.args.rules.now) (table_view c.put.new.table) (string_bytes c.in-Ok.text) e (rw c.as_str.ensures.value at c.as_str.utf8) c.in-Ok.ensures.reads_back (c.in_ok-tables.ensures.spells all) c.in_ok-tables.ensures.shallow are
