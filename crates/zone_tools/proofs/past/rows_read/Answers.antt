use Rattle.std.proofs.Common.{List, ℕ, ◌++◌, sym, ap, subst, ◌∙◌}
use Rattle.zone_core.specs.Delegations.{AreNamesOf}
use Rattle.zone_core.specs.Updates.{item_names}
use Rattle.zone_tools.specs.Past.{rows_at}
use Rattle.zone_tools.proofs.PastLemmas.{read_first, read_more, read_all}
use Rattle.zone_tools.proofs.past.rows_read.Goals as goal

pub loop-name-init : goal.loop-name-init
loop-name-init c = λ set is.
    read_first c.args.past.now set c.args.origin.now c.push_at.new.rows.items (c.in_ok-push_at.ensures ∙ ap (λ rs. rs ++ rows_at c.args.past.now c.args.origin.now) c.new-rows.ensures.items) is

pub loop-name-preserved : goal.loop-name-preserved
loop-name-preserved c = λ set is.
    read_more c.args.past.now set c.args.origin.now c.deref-name-items.result.now c.loop-name.name-index c.name-item.result c.loop-name.rows.items c.push_at-in-loop-name.new.rows.items
    c.loop-name-test.true c.name-item.is c.in_ok-push_at-2.ensures is (c.loop-name.invariant set is)

pub returns : goal.returns
returns c = λ set is.
    read_all c.args.past.now set c.args.origin.now c.args.update.now c.deref-name-items.result.now c.loop-name.name-index c.loop-name.rows.items
    (subst (λ (names : List (List (List ℕ))). AreNamesOf names (item_names c.args.update.now)) (sym c.deref-name-items.ensures.value) c.in_ok-names.ensures.names) c.loop-name-test.false (c.loop-name.invariant set is)
