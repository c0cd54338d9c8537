use Rattle.std.proofs.Common.{◌≡◌, ◌++◌, ◌∷◌, [], sym, ap, ◌∙◌}
use Rattle.std.proofs.lemmas.List.{map-append}
use Rattle.sqlite_keyed.proofs.ListLemmas.{all-append}
use Rattle.store_sql.specs.Rows.{ReceiptRowOf}
use Rattle.store_rows.specs.Checks.{IsReceiptRow, row_key}
use Rattle.store_rows.proofs.StateChecks.{row_is}
use Rattle.store_rows.proofs.ordered.receipt_keys_by.Goals as goal

pub loop-row-preserved : goal.loop-row-preserved
loop-row-preserved c =
    let l = c.loop-row in
    let row = c.in-Some.row in
    let found = c.in_ok-caller.ensures.found in
    let key : record { caller = c.in_ok-caller.caller; id = c.in_ok-caller.id } ≡ row_key row =
    λ k. record { caller = sym (ap (λ (r : ReceiptRowOf). r.caller) found.0.1) k; id = sym (ap (λ (r : ReceiptRowOf). r.id) found.0.1) k } in record {
      keys = c.in_ok-push.ensures.items ∙ (λ k. l.invariant.keys k ++ key k ∷ []) ∙ sym (map-append row_key l.yielded (row ∷ []));
      each = all-append IsReceiptRow l.yielded (row ∷ []) l.invariant.each (row_is row c.in_ok-caller.caller c.in_ok-caller.id c.in_ok-caller._receipt found.0 found.1, tt);
    }
