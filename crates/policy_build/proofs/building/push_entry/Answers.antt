use Rattle.std.proofs.Common.{◌≡◌, ◌+◌, ◌*◌, ◌≤◌, ◌∙◌, ℕ, List, [], length, map, ap, sym, arith, Bor}
use Rattle.std.proofs.lemmas.List.{length-map}
use Rattle.grant_policy.specs.declared.callers.Callers.{Callers}
use Rattle.policy_build.specs.declared.building.Pair.{Pair}
use Rattle.policy_build.specs.declared.names.Names.{Names}
use Rattle.policy_build.specs.Entries.{entry_of}
use Rattle.policy_build.specs.Making.{PairOf, pair_of, products}
use Rattle.policy_build.proofs.LoopLemmas.{few_kept}
use Rattle.policy_build.proofs.MakingLaws.{products_length}
use Rattle.policy_build.proofs.building.push_entry.Goals as goal

pairs_fit : (pairs : List Pair) (cs : List (Bor Callers)) (ns : List (Bor Names)) (r a b : ℕ) → map pair_of pairs ≡ products [] (map (λ x. x.now) cs) (map (λ x. x.now) ns) → a ≡ length cs → b ≡ length ns → r + a * b ≤ 1024 → r + length pairs ≤ 1024
pairs_fit pairs cs ns r a b e ea eb few =
    let xs = map (λ (x : Bor Callers). x.now) cs in
    let bs = map (λ (x : Bor Names). x.now) ns in
    let count : length (map pair_of pairs) ≡ 0 + length xs * length bs = ap (length {A = PairOf}) e ∙ products_length [] xs bs in
    let same : a * b ≡ length xs * length bs = ap (λ (x : ℕ). x * b) (ea ∙ sym (length-map cs (λ (x : Bor Callers). x.now))) ∙ ap (λ (y : ℕ). length xs * y) (eb ∙ sym (length-map ns (λ (x : Bor Names). x.now))) in
    omega (arith, count, same, few, length-map pairs pair_of)

fits : (c : goal.After-deref-5) → c.len.result + length c.in_ok-pairs.pairs.items ≤ 1024
fits c =
    let a : c.len-2.result ≡ length c.deref-3.result.now = omega (arith, ap (length {A = Bor Callers}) c.deref-3.ensures.value) in
    let b : c.len-3.result ≡ length c.deref-4.result.now = omega (arith, ap (length {A = Bor Names}) c.deref-4.ensures.value) in
    pairs_fit c.in_ok-pairs.pairs.items c.deref-3.result.now c.deref-4.result.now c.len.result c.len-2.result c.len-3.result c.in_ok-pairs.ensures a b c.in_ok-check_count.ensures.few

pub push_rules-requires : goal.push_rules-requires
push_rules-requires c = omega (arith, fits c, ap (length {A = Pair}) c.deref-5.ensures.value)

pub returns-clause-few : goal.returns-clause-few
returns-clause-few c =
    let a : c.len-2.result ≡ length c.deref-3.result.now = omega (arith, ap (length {A = Bor Callers}) c.deref-3.ensures.value) in
    let b : c.len-3.result ≡ length c.deref-4.result.now = omega (arith, ap (length {A = Bor Names}) c.deref-4.ensures.value) in
    let fit = pairs_fit c.in_ok-pairs.pairs.items c.deref-3.result.now c.deref-4.result.now c.len.result c.len-2.result c.len-3.result c.in_ok-pairs.ensures a b c.in_ok-check_count.ensures.few in
    few_kept c.push_rules.result (entry_of c.args.entry.now) c.args.number (length c.deref-5.result.now) 1 c.args.rules.now.items c.push_rules.new.rules.items (map pair_of c.deref-5.result.now) c.push_rules.ensures (omega (arith, fit, length-map c.deref-5.result.now pair_of, ap (length {A = Pair}) c.deref-5.ensures.value))
