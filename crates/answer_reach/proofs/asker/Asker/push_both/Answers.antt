use Rattle.std.proofs.Common.{◌≡◌, ◌∙◌, ◌++◌, map, append_assoc}
use Rattle.zone_core.specs.Sets.{listing}
use Rattle.zone_answers.proofs.KnownLemmas.{if_same}
use Rattle.answer_reach.specs.declared.reached.ReachedNames.TheVariants.{At, Others}
use Rattle.answer_reach.specs.ReachTests.{row_of, row_for}
use Rattle.answer_reach.proofs.asker.Asker.push_both.Goals as goal

pub returns : goal.returns
returns c =
    let row = row_for c.args.self.now.rights.now.rules c.args.self.now.rights.now.caller c.args.self.now.index.now.origin (listing c.args.self.now.index.now.records) c.args.lists.now in
    let rows = map row_of c.args.rows.now.items in
    let n = c.args.name.now in
    let first : map row_of c.push_row.new.rows.items ≡ rows ++ row (At n) = c.in_ok-push_row.ensures ∙ (λ i. rows ++ row (At (c.in_ok-try_copy.ensures i))) in
    if_same c.push_row-2.result _ _ _ c.push_row-2.ensures ((λ i. first i ++ row (Others (c.in_ok-try_copy-2.ensures i))) ∙ append_assoc rows (row (At n)) (row (Others n)))
