use Rattle.std.proofs.Common.{inl, inr, pos}
use Rattle.sqlite.specs.Held.{state}
use Rattle.store_sql.specs.Rows.{written}
use Rattle.store_sql.proofs.Commits.{holds_on, on_err}
use Rattle.office_store.proofs.batch.write_to.Goals as goal

pub returns-in_err-write-clause-failed : goal.returns-in_err-write-clause-failed
returns-in_err-write-clause-failed g c = on_err c.from_residual.result _ (λ s h. record { rows = h.rows; are = h.are; held = holds_on (state g.S.Store c.args.conn.now) (state g.S.Store c.write.new.conn) h.rows c.in_err-write.ensures.failed h.held })

pub returns-in_err-write-clause-crash : goal.returns-in_err-write-clause-crash
returns-in_err-write-clause-crash g c =
    on_err c.from_residual.result _ (λ s t leads h left clean db may. elim (c.in_err-write.ensures.crash h.rows h.held clean db may) [
      | inl before ↦ elim (left (c.write.ensures.honest clean) db before) [ inl it ↦ inl it | inr it ↦ inl it ]
      | inr it ↦ inr (written c.args.batch.now h.rows, leads (pos 2) h.rows h.are, it)
    ])

pub returns-clause-made : goal.returns-clause-made
returns-clause-made g c = λ s t leads h. record { rows = written c.args.batch.now h.rows; are = leads (pos 2) h.rows h.are; held = c.in_ok-write.ensures.made h.rows h.held }

pub returns-clause-kept : goal.returns-clause-kept
returns-clause-kept g c = λ s t leads h clean db may. inl (written c.args.batch.now h.rows, leads (pos 2) h.rows h.are, c.in_ok-write.ensures.kept h.rows h.held clean db may)
