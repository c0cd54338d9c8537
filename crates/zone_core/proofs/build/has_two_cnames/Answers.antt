use Rattle.std.proofs.Common.{◌≡◌, ◌-◌, get_or, sym, ◌∙◌, arith, below_more}
use Rattle.std.proofs.lemmas.List.{get_or_default}
use Rattle.zone_core.specs.Views.{are_two_cnames}
use Rattle.zone_core.proofs.AdjacentLemmas.{two_cnames_found, no_two_cnames}
use Rattle.zone_core.proofs.build.has_two_cnames.Goals as goal

pub returns-then-are_two_cnames : goal.returns-then-are_two_cnames
returns-then-are_two_cnames c =
    let r = c.index-records-i.result in
    let s = c.index-records-i-in-loop-i.result in
    sym (two_cnames_found c.args.records.now c.requires c.loop-i.i r s (omega (arith, c.loop-i.auto.i)) c.loop-i-test.true c.index-records-i.is c.index-records-i-in-loop-i.is (sym c.are_two_cnames.ensures ∙ c.if-are_two_cnames.true))

pub loop-i-preserved : goal.loop-i-preserved
loop-i-preserved c =
    let rs = c.args.records.now in
    let i = c.loop-i.i in
    let r = c.index-records-i.result in
    let s = c.index-records-i-in-loop-i.result in
    below_more _ _ c.loop-i.invariant (λ some d.
    let here : get_or rs (i - 1) d ≡ r = sym (c.index-records-i.is ∙ get_or_default rs (i - 1) r d (omega (arith, c.loop-i-test.true))) in
    let there : get_or rs i d ≡ s = sym (c.index-records-i-in-loop-i.is ∙ get_or_default rs i s d c.loop-i-test.true) in
    (λ j. are_two_cnames (here j) (there j)) ∙ sym c.are_two_cnames.ensures ∙ c.if-are_two_cnames.false)

pub returns : goal.returns
returns c = sym (no_two_cnames c.args.records.now c.requires (λ k below. c.loop-i.invariant k (omega (arith, c.loop-i-test.false))))
