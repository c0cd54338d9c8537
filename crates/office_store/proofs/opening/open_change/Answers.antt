use Rattle.std.proofs.Common.{length, true, false, nat_lt, ◌≡◌, arith}
use Rattle.std.proofs.lemmas.Result.{on_ok_weaker}
use Rattle.office_store.proofs.HistoryLemmas.{noted_next, noted_same}
use Rattle.office_store.proofs.opening.open_change.Goals as goal

pub returns-then-count-number-clause-opened : goal.returns-then-count-number-clause-opened
returns-then-count-number-clause-opened c =
    on_ok_weaker c.begin_change.result (λ next cs knows.
    let fewer : nat_lt (length cs) c.args.number ≡ true = grind (arith, c.count.ensures cs knows, c.if-count-number.true) in
    noted_next c.args.history.now c.begin_change.new.self cs c.args.number fewer (next cs) knows) c.begin_change.ensures.next

pub returns-clause-opened : goal.returns-clause-opened
returns-clause-opened c = λ cs knows.
    let many : nat_lt (length cs) c.args.number ≡ false = grind (arith, c.count.ensures cs knows, c.if-count-number.false) in
    noted_same c.args.history.now cs c.args.number many knows
