use Rattle.std.proofs.Common.{option_map}
use Rattle.zone_core.specs.Changes.{change_in}
use Rattle.office_model.specs.Tables.{addition_in}
use Rattle.office_core.proofs.CommitLemmas.{commits}
use Rattle.office_core.proofs.update.prepared.Goals as goal

pub returns-clause-commits : goal.returns-clause-commits
returns-clause-commits g c honest s held =
    let holds = c.in_ok-reply.ensures.reads.1 honest s held in
    commits c.args.submission.now.policy.now s c.args.submission.now.caller.now c.args.submission.now.id.now c.args.submission.now.origin.now c.args.submission.now.update.now
    (g.met.T.ZoneTable.zones c.args.table.now s holds) (c.requires.fresh (c.decided.ensures.reads.3 honest) s holds) c.decided.ensures.update
    c.in_ok-reply.reply (option_map change_in c.in_ok-reply.change) (c.in_ok-reply.ensures.makes honest s holds) (addition_in c.in_ok-addition.addition) c.in_ok-addition.ensures
