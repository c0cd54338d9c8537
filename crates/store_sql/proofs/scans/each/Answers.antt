use Rattle.std.proofs.Common.{◌≡◌, ◌∙◌, true, not, Result, Ok, Err, MatchResult, OnOk, sym, ap, rules}
use Rattle.std.specs.List.{IsDistinct}
use Rattle.std.specs.Ordering.{int_eq}
use Rattle.sqlite.specs.Held.{state}
use Rattle.sqlite.proofs.Callers.{shown_begins}
use Rattle.store_sql.specs.declared.rows_fault.RowsFault.{RowsFault}
use Rattle.store_sql.specs.declared.rows_fault.RowsFault.TheVariants.{BadRow}
use Rattle.store_sql.specs.Holds.{IsSettled}
use Rattle.store_sql.proofs.Commits.{clean_if_open, only_asks}
use Rattle.store_sql.proofs.PlainQueries.{asks_only}
use Rattle.store_sql.proofs.WholeTables.{never_twice, stores_read}
use Rattle.store_sql.proofs.scans.each.Goals as goal

pub returns-in_err-check_open-clause-asks : goal.returns-in_err-check_open-clause-asks
returns-in_err-check_open-clause-asks g c =
    let new = c.check_open.new.conn in
    let settled : IsSettled (state g.S.Store c.args.conn.now) = λ up. sym (c.is_autocommit-is_alone.ensures.settled (c.is_autocommit-is_alone.ensures.value ∙ ap not c.requires.idle) up) in
    only_asks (state g.S.Store c.args.conn.now) (state g.S.Store new) settled c.check_open.ensures.stays c.check_open.ensures.back c.check_open.ensures.ended (g.met.S.Store.settled new.store)

pub returns-then-not-has_tables-clause-asks : goal.returns-then-not-has_tables-clause-asks
returns-then-not-has_tables-clause-asks g c =
    let new = c.check_open.new.conn in
    let settled : IsSettled (state g.S.Store c.args.conn.now) = λ up. sym (c.is_autocommit-is_alone.ensures.settled (c.is_autocommit-is_alone.ensures.value ∙ ap not c.requires.idle) up) in
    only_asks (state g.S.Store c.args.conn.now) (state g.S.Store new) settled c.check_open.ensures.stays c.check_open.ensures.back c.check_open.ensures.ended (g.met.S.Store.settled new.store)

pub returns-in_err-scan-clause-asks : goal.returns-in_err-scan-clause-asks
returns-in_err-scan-clause-asks g c =
    let new = c.scan.new.conn in
    let settled : IsSettled (state g.S.Store c.args.conn.now) = λ up. sym (c.is_autocommit-is_alone.ensures.settled (c.is_autocommit-is_alone.ensures.value ∙ ap not c.requires.idle) up) in
    asks_only (state g.S.Store c.args.conn.now) (state g.S.Store new) settled (clean_if_open _ _ (g.met.S.Store.shut_if_dirty new.store)) (g.met.S.Store.settled new.store) c.scan.ensures.writes

pub returns-clause-asks : goal.returns-clause-asks
returns-clause-asks g c =
    let new = c.scan.new.conn in
    let settled : IsSettled (state g.S.Store c.args.conn.now) = λ up. sym (c.is_autocommit-is_alone.ensures.settled (c.is_autocommit-is_alone.ensures.value ∙ ap not c.requires.idle) up) in
    asks_only (state g.S.Store c.args.conn.now) (state g.S.Store new) settled (clean_if_open _ _ (g.met.S.Store.shut_if_dirty new.store)) (g.met.S.Store.settled new.store) c.scan.ensures.writes

-- where no rowid came twice
if_apart : (r : Result (Unit {0}) RowsFault) (D P : Type 0) → MatchResult r (λ _. D) (λ e. (e ≡ BadRow) × ¬ D) → (D → P) → OnOk r P
if_apart (Ok u) D P h more = more h
if_apart (Err e) D P h more = tt

-- and where one did
if_twice : (r : Result (Unit {0}) RowsFault) (D : Type 0) → MatchResult r (λ _. D) (λ e. (e ≡ BadRow) × ¬ D) → r ≡ Err BadRow → ¬ D
if_twice (Ok u) D h is = absurd cc
if_twice (Err e) D h is = h.1

pub returns-clause-taken : goal.returns-clause-taken
returns-clause-taken g c =
    let ids = c.in_ok-scan.field-0.items in
    let it = c.in_ok-scan.ensures.taken in
    if_apart c.check_apart.result (IsDistinct int_eq ids) _ c.check_apart.ensures (λ distinct.
    (it.1.rows, it.1.taken, λ clean. (it.0, it.2 clean, stores_read g.R.FromRow.stored it.0 ids it.1.rows it.1.numbered distinct)))

pub returns-clause-bad : goal.returns-clause-bad
returns-clause-bad g c clean is =
    let ids = c.in_ok-scan.field-0.items in
    let it = c.in_ok-scan.ensures.taken in
    let yes : c.has_tables.result ≡ true = search rules in
    let plain = c.requires.plain (c.has_tables.ensures.known.0 yes) in
    let twice = if_twice c.check_apart.result (IsDistinct int_eq ids) c.check_apart.ensures is in (
      (c.in_ok-scan.ensures.same clean).0.is_open,
      λ office. (it.0, shown_begins c.args.sql.now _ (state g.S.Store c.args.conn.now) (state g.S.Store c.scan.new.conn) it.0 plain (it.2 clean), never_twice g.R.FromRow.stored _ it.0 ids it.1.rows it.1.numbered twice),
    )
