use Rattle.std.proofs.Common.{◌+◌, ◌∙◌, List, drop, map, ap, sym, Bor}
use Rattle.grant_policy.specs.declared.callers.Callers.{Callers}
use Rattle.grant_policy.proofs.ReadLemmas.{mapped_here}
use Rattle.policy_build.specs.declared.names.Names.{Names}
use Rattle.policy_build.specs.Making.{PairOf, pair_of, products}
use Rattle.policy_build.proofs.LoopLemmas.{products_more}
use Rattle.policy_build.proofs.building.pairs_of.Goals as goal

pub loop-one-preserved : goal.loop-one-preserved
loop-one-preserved c =
    let cs = map (λ (x : Bor Callers). x.now) c.args.callers.now in
    let ns = map (λ (x : Bor Names). x.now) c.args.names.now in
    let i = c.loop-one.one-index in
    let one = c.one-item.result in
    c.loop-one.invariant
    ∙ products_more cs ns (map pair_of c.loop-one.pairs.items) i one.now (mapped_here (λ (x : Bor Callers). x.now) c.args.callers.now i one c.loop-one-test.true c.one-item.is)
    ∙ ap (λ (l : List PairOf). products l (drop (i + 1) cs) ns) (sym c.in_ok-push_pairs.ensures)
