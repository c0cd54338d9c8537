use Rattle.std.proofs.Common.{List, ℕ, map, IsPermutation, sym, subst}
use Rattle.std.proofs.lemmas.Result.{err_from_is_err_and}
use Rattle.std.proofs.lemmas.List.Sorted.{IsPermutation-map, IsPermutation-sym}
use Rattle.dns_names.specs.Spelling.{name_text}
use Rattle.store_rows.proofs.ListedLemmas.{origins_read}
use Rattle.store_rows.proofs.ordered.origins.Goals as goal

pub returns-in_err-origins-clause-held : goal.returns-in_err-origins-clause-held
returns-in_err-origins-clause-held c = λ version all s st moved.
    let p = err_from_is_err_and c.from_residual.result c.from_residual.ensures.1 in
    rw (p.1, p.2) (c.in_err-origins.ensures.only (origins_read version all s st c.args.rows.now moved))

pub returns-clause-held : goal.returns-clause-held
returns-clause-held c = λ version all s st moved.
    c.in_ok-sorted_origins.ensures.held version all s st (subst (IsPermutation all.zones) (sym c.in_ok-origins.ensures.found.0) moved)

pub returns-clause-found : goal.returns-clause-found
returns-clause-found c =
    let rows = c.args.rows.now in
    let old = c.in_ok-origins.origins.items in
    let new = c.in_ok-sorted_origins.field-0.items in
    let sorted = c.in_ok-sorted_origins.ensures.found in
    let moved = subst (λ (l : List (List ℕ)). IsPermutation l (map name_text new)) c.in_ok-origins.ensures.found.0 (IsPermutation-map name_text old new sorted.0) in
    (IsPermutation-sym rows (map name_text new) moved, sorted.1, sorted.2)
