-- Connections that were served, seen by what a table and a listener are made of.
use Rattle.std.proofs.Common.{◌≡◌, List, [], ◌∷◌, Result, ap}
use Rattle.grant_policy.specs.declared.rule.Rule.{Rule}
use Rattle.cli_core.specs.declared.line_fault.JobFault.{JobFault}
use Rattle.wire_tcp.specs.Limits.{Limits}
use Rattle.wire_tcp.specs.Connections.{Visit, Parties, Moment, IsVisit, AreVisits, Asked, Writing, AreServedFrom}

module _ {T U H K P : Type 0} (w : Parties U K P) (table : T → U) (listener : H → K) where
  -- who calls and what is asked, by what they are made of
  abbrev pub seen_by : Parties T H P
  seen_by = record {
    holds = λ t. w.holds (table t);
    leaves = λ t. w.leaves (table t);
    failures = λ t. w.failures (table t);
    fault = λ t. w.fault (table t);
    gives = λ before peer after. w.gives (listener before) peer (listener after);
    ends = λ before peer ended after. w.ends (listener before) peer ended (listener after);
    flow = w.flow;
    times = w.times;
  }

  abbrev moment_of : Moment T H → Moment U K
  moment_of m = record { table = table m.table; kept = m.kept; listener = listener m.listener }

  visit_of : (rules : List Rule) (limits : Limits) (v : Visit) (a b : Moment T H) → IsVisit seen_by rules limits v a b → IsVisit w rules limits v (moment_of a) (moment_of b)
  visit_of rules limits v a b is = record {
    came = is.came;
    went = is.went;
    between = listener is.between;
    given = is.given;
    back = is.back;
    served = is.served;
    waited = is.waited;
    tried = is.tried;
    aged = is.aged;
    run = is.run;
    keeps = is.keeps;
    store = is.store;
  }

  visits_of : (rules : List Rule) (limits : Limits) (visits : List Visit) (a b : Moment T H) → AreVisits seen_by rules limits visits a b
      → AreVisits w rules limits visits (moment_of a) (moment_of b)
  visits_of rules limits [] a b is = ap moment_of is
  visits_of rules limits (v ∷ visits) a b is =
      (moment_of is.0, visit_of rules limits v a is.0 is.1, visits_of rules limits visits is.0 b is.2)

  pub served_of : (asked : Asked) (a : T) (l : H) (b : T) (m : H) (result : Result (Unit {0}) JobFault) (lines trace : Writing) → AreServedFrom seen_by asked a l b m result lines trace
      → AreServedFrom w asked (table a) (listener l) (table b) (listener m) result lines trace
  served_of asked a l b m result lines trace served s held =
      let all = served s held in
      let first : Moment T H = record { table = a; kept = s; listener = l } in
      let last : Moment T H = record { table = b; kept = all.1; listener = m } in (
        all.0,
        all.1,
        all.2,
        record { each = visits_of asked.rules asked.limits all.0 first last all.3.each; run = all.3.run; promised = all.3.promised },
        all.4,
        all.5,
      )
