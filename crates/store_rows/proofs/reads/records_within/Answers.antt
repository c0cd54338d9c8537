use Rattle.std.proofs.Common.{◌≡◌, true, filter, sym, ap, subst, ◌∙◌, rules, IsPermutation}
use Rattle.std.proofs.lemmas.Result.{err_from_is_err_and}
use Rattle.std.proofs.lemmas.List.Sorted.{ranks_by, answers_always}
use Rattle.std.specs.Ordering.{is_lt}
use Rattle.dns_names.specs.Labels.{is_within}
use Rattle.dns_data.specs.RecordOrder.{record_order, record_order_total}
use Rattle.zone_core.specs.Sets.{listing, part, within}
use Rattle.zone_core.specs.Zones.{ZoneOf}
use Rattle.store_rows.proofs.RowSteps.{done, ok_is, refuses_given}
use Rattle.store_rows.specs.Orders.{rises}
use Rattle.store_rows.specs.RowReading.{each_read, record_in}
use Rattle.store_rows.proofs.ZoneReadLemmas.{zone_of_state, subtree_read, subtree_stored, subtree_sorted, subtree_rises, part_listing}
use Rattle.store_rows.proofs.reads.records_within.Goals as goal

pub returns-in_err-records-clause-held : goal.returns-in_err-records-clause-held
returns-in_err-records-clause-held c = λ version all s o top zone st e same.
    let found = zone_of_state version all s o zone st e in
    let tree = subtree_read o top found.0 all.records c.args.rows.now found.1 same in
    let p = err_from_is_err_and c.from_residual.result c.from_residual.ensures.1 in
    rw (p.1, p.2)
    (refuses_given c.in_err-records.field-0.0 (each_read record_in c.args.rows.now) tree.records (listing (part zone.records (within top))) (subtree_stored o top found.0 all.records c.args.rows.now found.1 same) c.in_err-records.ensures)

pub returns-then-not-are_in_order-clause-held : goal.returns-then-not-are_in_order-clause-held
returns-then-not-are_in_order-clause-held c = λ version all s o top zone st e same.
    let found = zone_of_state version all s o zone st e in
    let rows = c.args.rows.now in
    let tree = subtree_read o top found.0 all.records rows found.1 same in
    let items = ok_is tree.records c.in_ok-records.records.items (sym (subtree_stored o top found.0 all.records rows found.1 same) ∙ c.in_ok-records.ensures) in
    let own = filter (λ r. is_within r.owner top) found.0 in
    let moved = subst (IsPermutation own) items tree.moved in
    let sorted = c.in_ok-sort_by.ensures.sorted (λ a b. is_lt (record_order a b)) (ranks_by record_order_total (λ x. x)) (answers_always _ _ _ (λ f a r g called. search rules)) in
    let is = subtree_sorted o top found.0 all.records rows found.1 same c.in_ok-records.records.items c.sort_by.new.self.items moved c.sort_by.ensures.permutation sorted in
    let told : c.are_in_order.result ≡ true = c.are_in_order.ensures ∙ ap (rises record_order) (c.deref.ensures.value ∙ is) ∙ subtree_rises o top found.0 all.records rows found.1 same in
    absurd (let no = c.if-not-are_in_order.true in cc)

pub returns-clause-held : goal.returns-clause-held
returns-clause-held c = λ version all s o top zone st e same.
    let found = zone_of_state version all s o zone st e in
    let rows = c.args.rows.now in
    let tree = subtree_read o top found.0 all.records rows found.1 same in
    let items = ok_is tree.records c.in_ok-records.records.items (sym (subtree_stored o top found.0 all.records rows found.1 same) ∙ c.in_ok-records.ensures) in
    let own = filter (λ r. is_within r.owner top) found.0 in
    let moved = subst (IsPermutation own) items tree.moved in
    let sorted = c.in_ok-sort_by.ensures.sorted (λ a b. is_lt (record_order a b)) (ranks_by record_order_total (λ x. x)) (answers_always _ _ _ (λ f a r g called. search rules)) in
    let is = subtree_sorted o top found.0 all.records rows found.1 same c.in_ok-records.records.items c.sort_by.new.self.items moved c.sort_by.ensures.permutation sorted in
    ap done (ap (λ (z : ZoneOf). listing (part z.records (within top))) found.2 ∙ part_listing o found.0 (within top) found.1.zone ∙ sym is)

pub returns-clause-found : goal.returns-clause-found
returns-clause-found c = (c.in_ok-records.records.items, c.in_ok-records.ensures, c.sort_by.ensures.permutation, sym (c.are_in_order.ensures ∙ ap (rises record_order) c.deref.ensures.value) ∙ c.if-not-are_in_order.false)
