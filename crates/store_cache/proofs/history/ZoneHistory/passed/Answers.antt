use Rattle.std.proofs.Common.{◌≡◌, ◌≤◌, ◌&&◌, not, List, length, take, drop, ap, subst, ◌∙◌}
use Rattle.std.specs.List.{filter}
use Rattle.grant_policy.specs.Grants.{GrantsOf}
use Rattle.store_cache.specs.declared.history.Touched.{Touched}
use Rattle.store_cache.specs.History.{includes_none}
use Rattle.store_cache.proofs.HistoryLemmas.{touched_drop, touched_passed}
use Rattle.store_cache.proofs.history.ZoneHistory.passed.Goals as goal

pub returns-clause-passed : goal.returns-clause-passed
returns-clause-passed c = λ cs are.
    let o = c.args.self.now.origin in
    let count = c.args.count in
    let g = c.args.grants.now in
    let sees = c.include-sees_soa.result in
    let all = c.args.self.now.changes.items in
    let p = c.passed_of.result in
    let rest : c.behind.result.now ≡ drop count all = c.behind.ensures ∙ ap (drop count) c.deref.ensures.value in
    touched_passed o g sees c.args.most p (drop count all) (drop count cs) c.include-sees_soa.ensures.value (touched_drop o count all cs are)
    (subst (λ (l : List Touched). p.read ≤ length l) rest c.passed_of.ensures.there)
    (subst (λ (l : List Touched). p.seen ≡ length (filter (λ t. not (not (t.soa && sees) && includes_none g t.points.items)) (take p.read l))) rest
    (subst (λ (h : GrantsOf). p.seen ≡ length (filter (λ t. not (not (t.soa && sees) && includes_none h t.points.items)) (take p.read c.behind.result.now))) c.include-sees_soa.ensures.same c.passed_of.ensures.seen))
    c.passed_of.ensures.few
