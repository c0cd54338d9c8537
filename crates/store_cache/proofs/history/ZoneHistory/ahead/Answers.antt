use Rattle.std.proofs.Common.{◌≡◌, ◌&&◌, not, List, IsTrue, length, take, drop, ap, sym, subst, ◌∙◌, arith}
use Rattle.std.specs.List.{list_all}
use Rattle.grant_policy.specs.Grants.{GrantsOf}
use Rattle.store_cache.specs.declared.history.Touched.{Touched}
use Rattle.store_cache.specs.History.{are_hidden, includes_none}
use Rattle.store_cache.proofs.HistoryLemmas.{touched_drop, touched_hidden}
use Rattle.store_cache.proofs.history.ZoneHistory.ahead.Goals as goal

pub returns-in-Ok-clause-hidden : goal.returns-in-Ok-clause-hidden
returns-in-Ok-clause-hidden c = λ cs are.
    let o = c.args.self.now.origin in
    let count = c.args.count in
    let g = c.args.grants.now in
    let n = c.first_hidden-hidden.result in
    let sees = c.include-sees_soa.result in
    let all = c.args.self.now.changes.items in
    let rest : c.behind-rest.result.now ≡ drop count all = c.behind-rest.ensures ∙ ap (drop count) c.deref.ensures.value in
    let none : IsTrue (list_all (λ (t : Touched). not (t.soa && sees) && includes_none g t.points.items) (take n (drop count all))) =
    subst (λ (l : List Touched). IsTrue (list_all (λ (t : Touched). not (t.soa && sees) && includes_none g t.points.items) (take n l))) rest
    (subst (λ (h : GrantsOf). IsTrue (list_all (λ (t : Touched). not (t.soa && sees) && includes_none h t.points.items) (take n c.behind-rest.result.now))) c.include-sees_soa.ensures.same c.first_hidden-hidden.ensures.hidden) in
    subst (λ m. IsTrue (are_hidden g (drop count cs) m)) (sym c.in-Ok.ensures.1)
    (touched_hidden o g sees n (drop count all) (drop count cs) c.include-sees_soa.ensures.value (touched_drop o count all cs are) (omega (arith, c.first_hidden-hidden.ensures.there, ap (λ (l : List Touched). length l) rest)) none)
