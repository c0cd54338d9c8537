use Rattle.std.proofs.Common.{◌≡◌, pos, Ok, sym, subst, IsPermutation}
use Rattle.sqlite.specs.Held.{state}
use Rattle.store_sql.specs.Lookups.{receipts_of}
use Rattle.office_store.proofs.QueryLemmas.{answered_once, refused_early, refused_once}
use Rattle.office_store.proofs.reads.receipt_at.Goals as goal

pub returns-clause-answer : goal.returns-clause-answer
returns-clause-answer g c =
    λ clean s h.
    let caller = c.args.caller.now in
    let id = c.args.id.now in
    let all = h.rows.receipts in
    let asked = c.in_ok-rows.ensures.answer clean h.rows h.held in
    let by_caller = subst (λ t. IsPermutation (receipts_of t c.as_str-2.result.now all) c.in_ok-rows.rows.items) c.as_str.ensures.octets asked in
    let by_id = subst (λ t. IsPermutation (receipts_of caller t all) c.in_ok-rows.rows.items) c.as_str-2.ensures.octets by_caller in
    let rows = subst (λ rs. IsPermutation (receipts_of caller id all) rs) (sym c.deref.ensures.value) by_id in
    let told : Ok (s.receipts caller id) ≡ Ok c.in_ok-receipt.receipt = c.in_ok-receipt.ensures.held (pos 2) h.rows s caller id h.are rows in
    let same : s.receipts caller id ≡ c.in_ok-receipt.receipt = cc in
    sym same

pub returns-in_err-check_alone-clause-asks : goal.returns-in_err-check_alone-clause-asks
returns-in_err-check_alone-clause-asks g c = refused_early (state g.S.Store c.args.conn.now) c.from_residual.result c.from_residual.ensures.0

pub returns-in_err-rows-clause-asks : goal.returns-in_err-rows-clause-asks
returns-in_err-rows-clause-asks g c = refused_once (state g.S.Store c.args.conn.now) (state g.S.Store c.receipts_of.new.conn) c.from_residual-in_err-rows.result c.from_residual-in_err-rows.ensures.0 c.receipts_of.ensures.asks

pub returns-in_err-receipt-clause-asks : goal.returns-in_err-receipt-clause-asks
returns-in_err-receipt-clause-asks g c = refused_once (state g.S.Store c.args.conn.now) (state g.S.Store c.receipts_of.new.conn) c.from_residual-in_err-receipt.result c.from_residual-in_err-receipt.ensures.0 c.receipts_of.ensures.asks

pub returns-clause-asks : goal.returns-clause-asks
returns-clause-asks g c = answered_once (state g.S.Store c.args.conn.now) (state g.S.Store c.receipts_of.new.conn) c.receipts_of.ensures.asks c.in_ok-rows.ensures.same
