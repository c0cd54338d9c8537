use Rattle.std.proofs.Common.{◌≡◌, ◌<◌, ◌==◌, ℕ, zero, suc, length, false, sym, ap, ◌∙◌, arith}
use Rattle.std.specs.Ordering.{is_lt}
use Rattle.dns_data.specs.RecordOrder.{record_order}
use Rattle.office_core.proofs.SubtreesLemmas.{behind_by}
use Rattle.office_core.proofs.subtrees.are_behind.Goals as goal

some : (n : ℕ) → false ≡ (n == 0) → 0 < n
some zero e = absurd cc
some (suc n) e = omega arith

pub returns : goal.returns
returns c =
    let first = c.args.first.now in
    let second = c.args.second.now in
    let a = c.index-first-first.result in
    let b = c.index-second-0.result in
    let told : c.is_lt.result ≡ is_lt (record_order a b) = c.is_lt.ensures ∙ ap is_lt c.record_order.ensures.order in
    let both = behind_by first second a b c.requires.first c.requires.second (some (length first) c.if-is_empty.ensures) (some (length second) c.if-is_empty-2.ensures) c.index-first-first.is c.index-second-0.is in
    (λ less. both.0 (sym told ∙ less), λ order. told ∙ both.1 order)
