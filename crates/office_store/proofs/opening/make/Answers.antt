use Rattle.std.proofs.Common.{inl, inr, pos}
use Rattle.store_sql.specs.Holds.{made_rows}
use Rattle.store_sql.proofs.Commits.{on_err}
use Rattle.store_rows.proofs.BatchLaws.{new_tables}
use Rattle.office_store.proofs.opening.make.Goals as goal

pub returns-in_err-make_tables-clause-crash : goal.returns-in_err-make_tables-clause-crash
returns-in_err-make_tables-clause-crash g c =
    on_err c.from_residual.result _ (λ clean db may. elim (c.in_err-make_tables.ensures.crash clean db may) [ inl it ↦ inl it | inr it ↦ inr (made_rows (pos 2), new_tables (pos 2), it) ])

pub returns-clause-made : goal.returns-clause-made
returns-clause-made g c = record { rows = made_rows (pos 2); are = new_tables (pos 2); held = c.in_ok-make_tables.ensures.made }

pub returns-clause-kept : goal.returns-clause-kept
returns-clause-kept g c = λ clean db may. inl (made_rows (pos 2), new_tables (pos 2), c.in_ok-make_tables.ensures.kept clean db may)
