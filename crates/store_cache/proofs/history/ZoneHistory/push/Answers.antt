use Rattle.std.proofs.Common.{◌≡◌, suc, Bool, true, cond, ◌++◌, [], ◌∷◌, List, length, length-append, drop, ap, sym, subst, ◌∙◌, arith}
use Rattle.std.specs.Result.{is_ok}
use Rattle.std.proofs.lemmas.List.{drop-drop}
use Rattle.zone_core.specs.Changes.{change_in}
use Rattle.store_cache.specs.declared.history.Touched.{Touched}
use Rattle.store_cache.specs.History.{AreTouched, Covers}
use Rattle.store_cache.proofs.HistoryLemmas.{next_read, no_refusal, touched_push}
use Rattle.store_cache.proofs.history.ZoneHistory.push.Goals as goal

pub loop-change-preserved : goal.loop-change-preserved
loop-change-preserved c =
    let ok : is_ok c.push.result ≡ true = no_refusal c.push.result (sym c.if-is_err.ensures.value) in
    let pushed : c.push.new.self.items ≡ c.loop-change.self.changes.items ++ c.in-Ok.touched ∷ [] = c.push.ensures.items ∙ ap (λ (b : Bool). cond b (c.loop-change.self.changes.items ++ c.in-Ok.touched ∷ []) c.loop-change.self.changes.items) ok in
    record {
      origin = c.loop-change.invariant.origin;
      many = omega (arith, ap (λ (l : List Touched). length l) pushed, length-append c.loop-change.self.changes.items (c.in-Ok.touched ∷ []), c.loop-change.invariant.many);
      touched = λ cs before read.
          let o = c.args.self.now.origin in
          let n = length c.args.self.now.changes.items in
          let i = c.loop-change.change-index in
          let item = c.change-item.result in
          let are = c.loop-change.invariant.touched cs before read in
          let next = next_read c.args.changes.now (drop n cs) i item read c.loop-change-test.true c.change-item.is in
          let here : drop (length c.loop-change.self.changes.items) cs ≡ drop i (drop n cs) = ap (λ m. drop m cs) c.loop-change.invariant.many ∙ sym (drop-drop i n cs) in
          let covers = subst (λ p. Covers p c.in-Ok.touched (change_in item)) c.loop-change.invariant.origin c.in-Ok.ensures in
          subst (λ ts. AreTouched o ts cs) (sym pushed) (touched_push o c.loop-change.self.changes.items cs c.in-Ok.touched (change_in item) (drop (suc i) (drop n cs)) are (here ∙ next) covers);
    }
