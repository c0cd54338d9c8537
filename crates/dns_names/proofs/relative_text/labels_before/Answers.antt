use Rattle.std.proofs.Common.{◌≡◌, sym, ap, ◌∙◌, ◌-◌, ◌+◌, length, take, List, ℕ, arith}
use Rattle.std.proofs.Math.Seq.{take-length}
use Rattle.dns_names.proofs.RelativeLemmas.{one_less}
use Rattle.dns_names.proofs.relative_text.labels_before.Goals as goal

pub loop-init : goal.loop-init
loop-init c =
    let name = c.args.name.now in
    let all : length name ≡ length name - 0 = omega arith in (
      0,
      omega (arith, ap (length {A = List ℕ}) (c.into_iter-iterator.ensures.into_iter_gives ∙ c.labels-items.ensures.labels)),
      c.labels-before.ensures.labels ∙ sym (take-length name) ∙ ap (λ (k : ℕ). take k name) all,
    )

pub loop-preserved : goal.loop-preserved
loop-preserved c =
    let l = c.loop.invariant in
    let name = c.args.name.now in
    let n = length name - l.0 in
    let less : n - 1 ≡ length name - (l.0 + 1) = omega arith in (
      l.0 + 1,
      omega (arith, l.1, ap (length {A = List ℕ}) c.in-Some.ensures.steps),
      one_less name c.loop.before c.next_back.new.self c.next_back.result n (omega arith) l.2 c.next_back.ensures.steps ∙ ap (λ (k : ℕ). take k name) less,
    )

pub returns : goal.returns
returns c =
    let l = c.loop.invariant in
    let all : l.0 ≡ length c.args.origin.now = omega (arith, l.1, ap (length {A = List ℕ}) c.in-None.ensures.steps.0) in
    l.2 ∙ ap (λ (k : ℕ). take (length c.args.name.now - k) c.args.name.now) all
