use Rattle.std.proofs.Common.{◌≡◌, rules, true, sym, ap, ◌∙◌}
use Rattle.std.proofs.lemmas.List.Sorted.{IsPermutation-refl, ranks_by, answers_always}
use Rattle.std.specs.Ordering.{is_lt}
use Rattle.store_rows.specs.Orders.{rises}
use Rattle.store_rows.proofs.OrderLemmas.{rises_up, up_sorted}
use Rattle.store_rows.proofs.ascending.sorted.Goals as goal

pub returns-then-rise : goal.returns-then-rise
returns-then-rise g c =
    let compare = g.T.Ordered.compare in
    let total = g.met.T.Ordered.total in
    let up : rises compare c.args.all.items ≡ true = sym (c.if-rise.ensures ∙ ap (rises compare) c.deref.ensures.value) in
    (IsPermutation-refl c.args.all.items, up_sorted compare total c.args.all.items (rises_up compare total c.args.all.items up))

pub returns : goal.returns
returns g c =
    let compare = g.T.Ordered.compare in
    (c.sort_by.ensures.permutation, c.in_ok-sort_by.ensures.sorted (λ a b. is_lt (compare a b)) (ranks_by g.met.T.Ordered.total (λ x. x)) (answers_always _ _ _ (λ f a r h called. search rules)))
