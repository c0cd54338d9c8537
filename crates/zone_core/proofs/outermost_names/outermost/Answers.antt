use Rattle.std.proofs.Common.{◌≡◌, ◌+◌, [], ◌∷◌, ◌++◌, sym, ap, subst, ◌∙◌}
use Rattle.std.specs.List.{list_any}
use Rattle.dns_names.specs.Labels.{is_within}
use Rattle.zone_core.proofs.BelowLemmas.{Name}
use Rattle.zone_core.proofs.OutermostLemmas.{AreUnderway, underway_left, underway_more}
use Rattle.zone_core.proofs.outermost_names.outermost.Goals.{then-not-is_within_last+in_ok-try_copy+in_ok-push, else-not-is_within_last}
use Rattle.zone_core.proofs.outermost_names.outermost.Goals as goal

pub loop-name-preserved : goal.loop-name-preserved
loop-name-preserved c =
    let names = c.args.names.now in
    let i = c.loop-name.name-index in
    let name = c.name-item.result in
    let tops = c.loop-name.tops.items in
    let tells : c.is_within_last.result ≡ list_any (λ top. is_within name top) tops = c.is_within_last.ensures ∙ ap (list_any (λ top. is_within name top)) c.deref.ensures.value in
    elim c.if-not-is_within_last.branch [
      | then-not-is_within_last+in_ok-try_copy+in_ok-push w ↦
          subst (AreUnderway names (i + 1)) (sym ((λ k. (w.tops-is k).items) ∙ w.in_ok-push.ensures.items ∙ ap (λ (x : Name). tops ++ x ∷ []) w.in_ok-try_copy.ensures))
          (underway_more names c.requires i name c.loop-name-test.true c.name-item.is tops c.loop-name.invariant (sym tells ∙ w.if-not-is_within_last.true))
      | else-not-is_within_last w ↦
          subst (AreUnderway names (i + 1)) (sym (λ k. (w.tops-is k).items))
          (underway_left names c.requires i name c.loop-name-test.true c.name-item.is tops c.loop-name.invariant (sym tells ∙ w.if-not-is_within_last.false))
    ]
