use Rattle.std.proofs.Common.{◌∙◌, not, sym, ap}
use Rattle.std.specs.Int.{w64}
use Rattle.std.proofs.lemmas.Int.{to_z-of_z}
use Rattle.sqlite.specs.Held.{state}
use Rattle.store_sql.specs.Holds.{IsSettled}
use Rattle.store_sql.proofs.Commits.{on_err, none_made}
use Rattle.store_sql.proofs.creation.make_tables.Goals as goal

pub returns-in_err-commit-clause-failed : goal.returns-in_err-commit-clause-failed
returns-in_err-commit-clause-failed g c =
    let old = state g.S.Store c.args.conn.now in
    let new = state g.S.Store c.commit.new.conn in
    let settled : IsSettled old = λ up. sym (c.is_autocommit-is_alone.ensures.settled (c.is_autocommit-is_alone.ensures.value ∙ ap not c.requires.mode) up) in
    on_err c.from_residual.result _ (λ up. none_made old new new c.requires.none settled c.in_err-commit.ensures.failed up)

pub returns-in_err-commit-clause-crash : goal.returns-in_err-commit-clause-crash
returns-in_err-commit-clause-crash g c = on_err c.from_residual.result _ (rw (to_z-of_z w64 c.args.version c.ranges.version) at c.in_err-commit.ensures.crash)

pub returns-clause-made : goal.returns-clause-made
returns-clause-made g c = rw (to_z-of_z w64 c.args.version c.ranges.version) at c.in_ok-commit.ensures.made

pub returns-clause-kept : goal.returns-clause-kept
returns-clause-kept g c = rw (to_z-of_z w64 c.args.version c.ranges.version) at c.in_ok-commit.ensures.kept
