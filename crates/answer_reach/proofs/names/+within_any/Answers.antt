use Rattle.std.proofs.Common.{length, sym, ◌∙◌}
use Rattle.std.proofs.lemmas.Bool.{eqb-true}
use Rattle.answer_reach.proofs.GrowLemmas.{within_has, within_none}
use Rattle.answer_reach.proofs.names.+within_any.Goals as goal

pub returns-then-is_empty : goal.returns-then-is_empty
returns-then-is_empty t c =
    within_none c.args.names.now c.args.name.now (eqb-true (length c.args.names.now) 0 (sym c.is_empty.ensures ∙ c.if-is_empty.true))

pub returns-then-has_name : goal.returns-then-has_name
returns-then-has_name t c = sym (within_has c.args.names.now c.args.name.now (sym c.has_name.ensures ∙ c.if-has_name.true))
