-- A zone that is taken out of the rows that a connection holds.
use Rattle.std.proofs.Common.{◌⊎◌, inl, inr, pos, ℕ, List, Result, Ok, Err}
use Rattle.std.specs.Result.{IsErr}
use Rattle.sqlite_trees.specs.Tree.{Trees}
use Rattle.sqlite.specs.State.{State as Shown, HasCleanDisk}
use Rattle.dns_names.specs.Labels.{IsName}
use Rattle.dns_names.specs.Spelling.{name_text}
use Rattle.office_model.specs.States.{State}
use Rattle.store_sql.specs.Rows.{RowsOf, without_origin}
use Rattle.store_sql.specs.Holds.{AreRows, Holds, Leaves, Keeps}
use Rattle.store_sql.proofs.Commits.{holds_on}
use Rattle.store_rows.specs.Removals.{without_zone}
use Rattle.store_rows.proofs.GoneZoneLemmas.{gone_rows_are_gone_zones}
use Rattle.office_store.specs.Holds.{HoldsState, IsStateIn}
use Rattle.office_store.specs.Turns.{Turns}

module _ (old new : Shown) (origin : List (List ℕ)) (named : IsName origin) (honest : HasCleanDisk new → HasCleanDisk old) where
  abbrev after : State → State
  after s = without_zone s origin

  abbrev rest : RowsOf → RowsOf
  rest = without_origin (name_text origin)

  -- the rows that are left are the state without the zone
  left_rows : (s : State) → (h : HoldsState old s) → (db : Trees) → AreRows db (rest h.rows) → IsStateIn db (after s)
  left_rows s h db is = (rest h.rows, gone_rows_are_gone_zones (pos 2) h.rows s origin h.are named, is)

  pub taken_out : {X E : Type 0} (x : X) → ((rows : RowsOf) → Holds old rows → Holds new (rest rows)) → ((rows : RowsOf) → Holds old rows → Leaves new (λ db. AreRows db (rest rows)))
      → Turns {X = X} {E = E} old new (Ok x) after
  taken_out x made kept = record {
    made = λ clean s h. record { rows = rest h.rows; are = gone_rows_are_gone_zones (pos 2) h.rows s origin h.are named; held = made h.rows h.held };
    failed = tt;
    kept = λ clean s h now db may. inl (left_rows s h db (kept h.rows h.held now db may));
    crash = tt;
    honest = honest;
  }

  not_out : {X E : Type 0} (e : E) → Keeps old new → ((rows : RowsOf) → Holds old rows → Leaves new (λ db. old.may_leave db ⊎ AreRows db (rest rows)))
      → Turns {X = X} {E = E} old new (Err e) after
  not_out e keeps crash = record {
    made = λ clean. tt;
    failed = λ s h. record { rows = h.rows; are = h.are; held = holds_on old new h.rows keeps h.held };
    kept = λ clean. tt;
    crash = λ s h left clean db may. elim (crash h.rows h.held clean db may) [
      | inl before ↦ elim (left (honest clean) db before) [ inl it ↦ inl it | inr it ↦ inl it ]
      | inr is ↦ inr (left_rows s h db is)
    ];
    honest = honest;
  }

  -- the same at the exit of a `?`
  pub stays_in : {X E : Type 0} (r : Result X E) → IsErr r → Keeps old new → ((rows : RowsOf) → Holds old rows → Leaves new (λ db. old.may_leave db ⊎ AreRows db (rest rows))) → Turns old new r after
  stays_in (Ok x) is keeps crash = absurd cc
  stays_in (Err e) is keeps crash = not_out e keeps crash
