use Rattle.std.proofs.Common.{sym, ◌∙◌}
use Rattle.policy_tools.proofs.FreeNameLemmas.{two_fit, two_full, one_fit, one_full, no_label}
use Rattle.policy_tools.proofs.free_names.free_child.Goals as goal

pub long_child-requires-clause-room : goal.long_child-requires-clause-room
long_child-requires-clause-room c = two_fit c.args.top.now (sym c.in_ok-has_two.ensures.read ∙ c.if-has_two.true)

pub short_child-requires-clause-full : goal.short_child-requires-clause-full
short_child-requires-clause-full c = two_full c.args.top.now (sym c.in_ok-has_two.ensures.read ∙ c.if-has_two.false)

pub short_child-requires-clause-room : goal.short_child-requires-clause-room
short_child-requires-clause-room c = one_fit c.args.top.now (sym c.in_ok-has_one.ensures.read ∙ c.if-has_one.true)

pub returns : goal.returns
returns c = λ label is free. no_label c.args.top.now (one_full c.args.top.now (sym c.in_ok-has_one.ensures.read ∙ c.if-has_one.false)) label is
