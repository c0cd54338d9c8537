use Rattle.std.proofs.Common.{sym, subst}
use Rattle.std.specs.Prelude.{OnOk, OnErr}
use Rattle.office_model.specs.States.{State}
use Rattle.office_model.specs.Tables.{Fits, addition_in, committed}
use Rattle.office_core.specs.Memory.{HoldsState}
use Rattle.office_core.proofs.fail_table.FailTableZoneTable.commit.Goals as goal

pub commit-requires : goal.commit-requires
commit-requires g c = record {
  fits = subst (λ q. Unit {0} → (s : State) → HoldsState q s → Fits s (addition_in c.args.addition)) (sym c.in_ok-call.ensures.table) c.requires.fits;
}

pub returns-clause-made : goal.returns-clause-made
returns-clause-made g c = λ u.
    subst (λ q. OnOk c.commit.result ((s : State) → HoldsState q s → HoldsState c.commit.new.self (committed (addition_in c.args.addition) s))) c.in_ok-call.ensures.table
    (c.commit.ensures.made u)

pub returns-clause-failed : goal.returns-clause-failed
returns-clause-failed g c =
    subst (λ q. OnErr c.commit.result ((s : State) → HoldsState q s → HoldsState c.commit.new.self s)) c.in_ok-call.ensures.table c.commit.ensures.failed
