-- Calls that turn a state into another.
use Rattle.std.proofs.Common.{inl, inr, Result, Ok, Err, OnOk, OnErr}
use Rattle.std.specs.Result.{IsErr}
use Rattle.sqlite.specs.State.{State as Shown, HasCleanDisk}
use Rattle.office_model.specs.States.{State}
use Rattle.store_sql.specs.Rows.{BatchOf}
use Rattle.store_rows.specs.Batches.{Leads}
use Rattle.office_store.specs.Holds.{HoldsState, LeavesStates}
use Rattle.office_store.specs.Queries.{Asked}
use Rattle.office_store.specs.Turns.{Turns}

-- what a crash leaves for sure it leaves also among two
pub weaker : (conn : Shown) (s t : State) → LeavesStates conn s s → LeavesStates conn s t
weaker conn s t left clean db may = elim (left clean db may) [ inl it ↦ inl it | inr it ↦ inl it ]

-- a refusal after questions alone
pub refused : {X E : Type 0} (old new : Shown) (e : E) (after : State → State) → Asked old new → Turns {X = X} {E = E} old new (Err e) after
refused old new e after asked = record {
  made = λ clean. tt;
  failed = λ s h. asked.same s h;
  kept = λ clean. tt;
  crash = λ s h left. weaker new s (after s) (asked.crash s s left);
  honest = asked.honest;
}

pub refused_so : {X E : Type 0} (old new : Shown) (r : Result X E) (after : State → State) → IsErr r → Asked old new → Turns old new r after
refused_so old new (Ok x) after is asked = absurd cc
refused_so old new (Err e) after is asked = refused old new e after asked

-- a batch after questions
pub written : {X E : Type 0} (old mid new : Shown) (r : Result X E) (w : BatchOf) (after : State → State) → Asked old mid
    → OnOk r ((s t : State) → Leads w s t → HoldsState mid s → HoldsState new t)
    → OnErr r ((s : State) → HoldsState mid s → HoldsState new s)
    → OnOk r ((s t : State) → Leads w s t → HoldsState mid s → LeavesStates new t t)
    → OnErr r ((s t : State) → Leads w s t → HoldsState mid s → LeavesStates mid s s → LeavesStates new s t)
    → (HasCleanDisk new → HasCleanDisk mid)
    → (HasCleanDisk new → (s : State) → HoldsState old s → Leads w s (after s))
    → Turns old new r after
written old mid new (Ok x) w after asked made failed kept crash honest leads = record {
  made = λ clean s h. made s (after s) (leads clean s h) (asked.same s h);
  failed = tt;
  kept = λ clean s h. kept s (after s) (leads clean s h) (asked.same s h);
  crash = tt;
  honest = λ clean. asked.honest (honest clean);
}
written old mid new (Err e) w after asked made failed kept crash honest leads = record {
  made = λ clean. tt;
  failed = λ s h. failed s (asked.same s h);
  kept = λ clean. tt;
  crash = λ s h left clean db may. crash s (after s) (leads clean s h) (asked.same s h) (asked.crash s s left) clean db may;
  honest = λ clean. asked.honest (honest clean);
}

-- the same call, whose answer or refusal is handed on
pub handed_ok : {X Y E : Type 0} (old new : Shown) (x : X) (y : Y) (after : State → State) → Turns {X = X} {E = E} old new (Ok x) after → Turns {X = Y} {E = E} old new (Ok y) after
handed_ok old new x y after turns = record { made = turns.made; failed = tt; kept = turns.kept; crash = tt; honest = turns.honest }

pub handed_err : {X Y E F : Type 0} (old new : Shown) (e : E) (r : Result Y F) (after : State → State) → IsErr r → Turns {X = X} {E = E} old new (Err e) after → Turns old new r after
handed_err old new e (Ok y) after is turns = absurd cc
handed_err old new e (Err f) after is turns = record { made = λ clean. tt; failed = turns.failed; kept = λ clean. tt; crash = turns.crash; honest = turns.honest }

-- a call that turns the state, after questions
pub turned_then : {X E : Type 0} (old mid new : Shown) (r : Result X E) (after : State → State) → Asked old mid → Turns mid new r after → Turns old new r after
turned_then old mid new (Ok x) after asked turns = record {
  made = λ clean s h. turns.made clean s (asked.same s h);
  failed = tt;
  kept = λ clean s h. turns.kept clean s (asked.same s h);
  crash = tt;
  honest = λ clean. asked.honest (turns.honest clean);
}
turned_then old mid new (Err e) after asked turns = record {
  made = λ clean. tt;
  failed = λ s h. turns.failed s (asked.same s h);
  kept = λ clean. tt;
  crash = λ s h left. turns.crash s (asked.same s h) (asked.crash s s left);
  honest = λ clean. asked.honest (turns.honest clean);
}
