use Rattle.std.proofs.Common.{◌≡◌, ◌∙◌, ◌++◌, ◌∷◌, [], Err, None, Some, inl, inr, ap, sym, subst, arith}
use Rattle.std.specs.Prelude.{option_copied}
use Rattle.sqlite.specs.Given.{GivesOn, row_if}
use Rattle.sqlite.specs.Held.{state}
use Rattle.sqlite.specs.State.{HasCleanDisk}
use Rattle.sqlite.proofs.Callers.{given_begin, unchanged_then}
use Rattle.sqlite.proofs.StateLemmas.{survives_then}
use Rattle.store_sql.proofs.PlainQueries.{shown_from, writes_on}
use Rattle.store_sql.proofs.WholeTables.{begin_none}
use Rattle.store_sql.proofs.scans.take_each.Goals as goal

pub returns-in_default-clause-taken : goal.returns-in_default-clause-taken
returns-in_default-clause-taken g c =
    let old = c.args.rows.now.conn.now in
    let before = c.rows.rows.conn.now in
    let now = c.advance.new.self.conn.now in
    let inv = c.rows.invariant in
    let was = inv.taken in
    let none : row_if c.advance.new.self.has_row now ≡ None = sym c.get.ensures ∙ ap option_copied c.in_default.is in (
      was.0,
      was.1,
      λ clean sql plain begun.
          let early : HasCleanDisk (state g.S.Store before) = omega (arith, c.advance.ensures.survives.clean) in
          let shown = subst (GivesOn g.S.Store sql [] before now was.0) none (c.in_ok-advance.ensures.ok clean sql [] was.0 (was.2 early sql begun)) in
          shown_from sql [] (state g.S.Store old) (state g.S.Store before) (state g.S.Store now) was.0 plain (inv.same early) shown,
    )

pub returns-in_err-take_numbered-clause-bad : goal.returns-in_err-take_numbered-clause-bad
returns-in_err-take_numbered-clause-bad g c clean is =
    let before = c.rows.rows.conn.now in
    let now = c.advance.new.self.conn.now in
    let early : HasCleanDisk (state g.S.Store before) = omega (arith, c.advance.ensures.survives.clean) in
    let told = rw is at c.from_residual-in_err-take_numbered.ensures.1 in
    let was = c.rows.invariant.taken in
    let some : row_if c.advance.new.self.has_row now ≡ Some c.in-Some.row.now = sym c.get.ensures ∙ ap option_copied c.in-Some.is in (
      (c.in_ok-advance.ensures.same clean).0.is_open,
      λ sql begun.
          let given = subst (GivesOn g.S.Store sql [] before now was.0) some (c.in_ok-advance.ensures.ok clean sql [] was.0 (was.2 early sql begun)) in
          (was.0 ++ c.in-Some.row.now ∷ [], given_begin g.S.Store sql [] now _ given, begin_none g.R.FromRow.stored g.C.RowCheck.is_good was.0 c.in-Some.row.now (c.in_err-take_numbered.ensures.bad (ap Err (sym told)))),
    )

pub returns-in_err-advance-clause-writes : goal.returns-in_err-advance-clause-writes
returns-in_err-advance-clause-writes g c =
    let moved = c.advance.ensures in
    let inv = c.rows.invariant in
    writes_on (state g.S.Store c.args.rows.now.conn.now) (state g.S.Store c.rows.rows.conn.now) (state g.S.Store c.advance.new.self.conn.now) inv.survives inv.same moved.survives (moved.mode inv.ended)
    (λ clean. elim (c.in_err-advance.ensures.kept clean) [ inl fails ↦ inr fails.3 | inr same ↦ inl same ])

pub returns-in_default-clause-writes : goal.returns-in_default-clause-writes
returns-in_default-clause-writes g c =
    let moved = c.advance.ensures in
    let inv = c.rows.invariant in
    writes_on (state g.S.Store c.args.rows.now.conn.now) (state g.S.Store c.rows.rows.conn.now) (state g.S.Store c.advance.new.self.conn.now) inv.survives inv.same moved.survives (moved.mode inv.ended)
    (λ clean. inl (c.in_ok-advance.ensures.same clean))

pub returns-in_err-take_numbered-clause-writes : goal.returns-in_err-take_numbered-clause-writes
returns-in_err-take_numbered-clause-writes g c =
    let moved = c.advance.ensures in
    let inv = c.rows.invariant in
    writes_on (state g.S.Store c.args.rows.now.conn.now) (state g.S.Store c.rows.rows.conn.now) (state g.S.Store c.advance.new.self.conn.now) inv.survives inv.same moved.survives (moved.mode inv.ended)
    (λ clean. inl (c.in_ok-advance.ensures.same clean))

pub returns-clause-writes : goal.returns-clause-writes
returns-clause-writes g c = let inv = c.rows.invariant in record { survives = inv.survives; ended = inv.ended; left = λ clean. inl (inv.same clean) }

pub rows-preserved : goal.rows-preserved
rows-preserved g c =
    let old = state g.S.Store c.args.rows.now.conn.now in
    let before = state g.S.Store c.rows.rows.conn.now in
    let now = state g.S.Store c.advance.new.self.conn.now in
    let moved = c.advance.ensures in
    let inv = c.rows.invariant in
    let was = inv.taken in
    let some : row_if c.advance.new.self.has_row c.advance.new.self.conn.now ≡ Some c.in-Some.row.now = sym c.get.ensures ∙ ap option_copied c.in-Some.is in
    record {
      same_reference = moved.same_reference ∙ inv.same_reference;
      survives = survives_then old before now _ _ _ (λ _ db none. none) (λ _ db none. none) inv.survives moved.survives;
      ended = moved.mode inv.ended;
      same = λ clean. unchanged_then old before now (inv.same (omega (arith, moved.survives.clean))) (c.in_ok-advance.ensures.same clean);
      taken = (
        was.0 ++ c.in-Some.row.now ∷ [],
        c.in_ok-take_numbered.ensures.taken c.args.check.now was.0 was.1,
        λ clean sql begun.
            subst (GivesOn g.S.Store sql [] c.rows.rows.conn.now c.advance.new.self.conn.now was.0) some (c.in_ok-advance.ensures.ok clean sql [] was.0 (was.2 (omega (arith, moved.survives.clean)) sql begun)),
      );
    }
