use Rattle.std.proofs.Common.{subst}
use Rattle.std.specs.FinMap.{empty}
use Rattle.zone_tools.specs.Past.{IsPast}
use Rattle.zone_tools.proofs.PastLemmas.{past_none, with_empty}
use Rattle.zone_tools.proofs.past.past_of.Goals as goal

pub returns : goal.returns
returns c =
    subst (IsPast c.put_all.new.past) (with_empty c.args.records.now) (c.in_ok-put_all.ensures empty (past_none c.new-past.result c.new-past.ensures.empty))
