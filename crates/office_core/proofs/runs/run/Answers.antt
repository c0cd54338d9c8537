use Rattle.office_core.specs.Runs.{IsRun, kept, given}
use Rattle.office_core.specs.Promises.{CallsAreRight}
use Rattle.office_core.specs.RightAnswers.{AnswersAreRight}
use Rattle.office_core.specs.Isolation.{AreAnsweredAlone}
use Rattle.office_core.proofs.AloneLemmas.{run_alone, run_right, run_told, of_ok, all_ok}
use Rattle.office_core.proofs.runs.run.Goals as goal

pub returns-clause-promises : goal.returns-clause-promises
returns-clause-promises g c honest s holds =
    all_ok (λ replies. CallsAreRight c.args.policy.now s (kept c.args.calls.now replies.items))
    (λ replies. run_right c.args.policy.now s c.args.calls.now replies.items (g.met.T.ZoneTable.zones c.args.table.now s holds)
    (g.met.T.ZoneTable.receipts c.args.table.now s holds) c.reveal_updates.ensures)
    c.replies_to.result

pub returns-clause-answers : goal.returns-clause-answers
returns-clause-answers g c honest s holds =
    of_ok (λ replies. IsRun (g.T.ZoneTable.holds c.replies_to.new.table) c.args.policy.now s c.args.calls.now replies.items)
    (λ replies. AnswersAreRight c.args.policy.now s (kept c.args.calls.now replies.items) (given c.args.calls.now replies.items))
    (λ replies run. run_told (g.T.ZoneTable.holds c.replies_to.new.table) c.args.policy.now s c.args.calls.now replies.items (g.met.T.ZoneTable.zones c.args.table.now s holds)
    (g.met.T.ZoneTable.receipts c.args.table.now s holds) c.reveal_updates.ensures run)
    c.replies_to.result (c.replies_to.ensures.run honest s holds)

pub returns-clause-alone : goal.returns-clause-alone
returns-clause-alone g c honest s holds =
    of_ok (λ replies. IsRun (g.T.ZoneTable.holds c.replies_to.new.table) c.args.policy.now s c.args.calls.now replies.items)
    (λ replies. AreAnsweredAlone c.args.policy.now s (kept c.args.calls.now replies.items) (given c.args.calls.now replies.items))
    (λ replies run. run_alone (g.T.ZoneTable.holds c.replies_to.new.table) c.args.policy.now s c.args.calls.now replies.items (g.met.T.ZoneTable.zones c.args.table.now s holds) c.reveal_updates.ensures run)
    c.replies_to.result (c.replies_to.ensures.run honest s holds)
