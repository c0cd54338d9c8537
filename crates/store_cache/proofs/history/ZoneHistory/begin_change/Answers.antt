use Rattle.std.proofs.Common.{◌≡◌, List, [], ◌∷◌, ◌++◌, length, length-append, sym, ap, subst, ◌∙◌, arith}
use Rattle.store_cache.specs.declared.history.Touched.{Touched}
use Rattle.store_cache.specs.History.{AreTouched, without_records}
use Rattle.store_cache.proofs.HistoryLemmas.{touched_empty}
use Rattle.store_cache.proofs.history.ZoneHistory.begin_change.Goals as goal

pub returns-clause-next : goal.returns-clause-next
returns-clause-next c = λ cs knows.
    let o = c.args.self.now.origin in
    let ts = c.args.self.now.changes.items in
    let new = c.new.result in (
      subst (λ l. AreTouched o l (cs ++ without_records ∷ [])) (sym c.in_ok-push.ensures.items) (touched_empty o ts cs new without_records knows.0 knows.1 (λ g. sym (c.new.ensures g o))),
      ap (λ (l : List Touched). length l) c.in_ok-push.ensures.items ∙ (let e : length (ts ++ new ∷ []) ≡ length (cs ++ without_records ∷ []) = omega (arith, knows.1, length-append ts (new ∷ []), length-append cs (without_records ∷ [])) in e),
    )
