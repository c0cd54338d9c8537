use Rattle.std.proofs.Common.{cond, Some, refl, sym, ap, ◌∙◌, subst}
use Rattle.std.specs.Prelude.{IsSome, option_and_then}
use Rattle.std.specs.BTreeMap.{get, is_at}
use Rattle.std.specs.Cmp.Lexicographic.{slice_cmp}
use Rattle.std.specs.Map.{lookup}
use Rattle.std.specs.Ordering.{nat_cmp}
use Rattle.office_core.proofs.MemoryLemmas.{kept_in, same_in, on_err}
use Rattle.office_core.proofs.memory.keep.Goals as goal

pub returns-in_err-insert-in-Some-clause-same : goal.returns-in_err-insert-in-Some-clause-same
returns-in_err-insert-in-Some-clause-same c =
    let m = c.args.receipts.now in
    let own = c.in-Some.own.now in
    let all = c.insert.new.self in
    let there = c.in-Some.ensures.value in
    let written = c.get_mut.follows.holds all in
    on_err c.from_residual.result _
    (same_in m (c.get_mut.follows.lender all) c.args.caller own all (λ i. ap (option_and_then (λ o. get (slice_cmp nat_cmp) o i)) (sym there)) (written.3 (subst IsSome there refl)).0
    c.in_err-insert-in-Some.ensures.err)

pub returns-in_ok-insert-in-Some-clause-kept : goal.returns-in_ok-insert-in-Some-clause-kept
returns-in_ok-insert-in-Some-clause-kept c =
    let m = c.args.receipts.now in
    let own = c.in-Some.own.now in
    let all = c.insert.new.self in
    let there = c.in-Some.ensures.value in
    let written = c.get_mut.follows.holds all in
    kept_in m (c.get_mut.follows.lender all) c.args.caller c.args.id c.args.receipt own all (λ i. ap (option_and_then (λ o. get (slice_cmp nat_cmp) o i)) (sym there))
    (written.3 (subst IsSome there refl)).0 c.in_ok-insert-in-Some.ensures.updates.0

pub returns-in_ok-insert-in-None-2-clause-kept : goal.returns-in_ok-insert-in-None-2-clause-kept
returns-in_ok-insert-in-None-2-clause-kept c =
    let m = c.args.receipts.now in
    let own = c.new-own.result in
    let all = c.insert-in-None.new.self in
    let absent = c.in-None.ensures.value in
    let empty = c.new-own.ensures.empty in
    kept_in m c.insert-in-None-2.new.self c.args.caller c.args.id c.args.receipt own all
    (λ i. ap (option_and_then (λ o. get (slice_cmp nat_cmp) o i)) (sym absent) ∙ ap (lookup (is_at (slice_cmp nat_cmp i))) (sym empty))
    (λ q. c.in_ok-insert-in-None-2.ensures.updates.0 q ∙ ap (λ r. cond (is_at (slice_cmp nat_cmp c.args.caller) q) (Some all) (get (slice_cmp nat_cmp) r q)) c.get_mut.follows.holds-at-none)
    c.in_ok-insert-in-None.ensures.updates.0
