use Rattle.std.proofs.Common.{◌≡◌, List, [], ◌∷◌, ◌++◌, ◌&&◌, not, length, length-append, sym, ap, subst, ◌∙◌, arith}
use Rattle.dns_data.specs.declared.record.Record.{Record}
use Rattle.dns_data.specs.Rdata.{type_of}
use Rattle.grant_policy.specs.Grants.{includes}
use Rattle.store_cache.specs.declared.history.Touched.{Touched}
use Rattle.store_cache.specs.History.{AreTouched}
use Rattle.store_cache.proofs.HistoryLemmas.{knows_front, on_err, touched_last}
use Rattle.store_cache.proofs.history.ZoneHistory.note.Goals as goal

pub returns-clause-last : goal.returns-clause-last
returns-clause-last c = λ cs d more knows also.
    let o = c.args.self.now.origin in
    let front = c.pop.new.self.items in
    let was = c.in-Some.last in
    let before : c.args.self.now.changes.items ≡ front ++ was ∷ [] = c.in-Some.ensures.items in
    let many : length (front ++ was ∷ []) ≡ length (cs ++ d ∷ []) = ap (λ (l : List Touched). length l) (sym before) ∙ knows.1 in
    let new = c.note.new.self in
    let made : AreTouched o (front ++ new ∷ []) (cs ++ more ∷ []) =
    touched_last o front cs was new d more (subst (λ l. AreTouched o l (cs ++ d ∷ [])) before knows.0) many (λ covers g.
    also (λ (r : Record). not (includes g r.owner (type_of r.rdata))) ∙ ap (λ b. b && not (includes g c.args.rr.now.owner (type_of c.args.rr.now.rdata))) (covers g) ∙ sym (c.in_ok-note.ensures g)) in (
      subst (λ l. AreTouched o l (cs ++ more ∷ [])) (sym c.in_ok-push.ensures.items) made,
      ap (λ (l : List Touched). length l) c.in_ok-push.ensures.items ∙ (let e : length (front ++ new ∷ []) ≡ length (cs ++ more ∷ []) = omega (arith, many, length-append front (was ∷ []), length-append front (new ∷ []), length-append cs (d ∷ []), length-append cs (more ∷ [])) in e),
    )

pub returns-in_err-note-clause-failed : goal.returns-in_err-note-clause-failed
returns-in_err-note-clause-failed c = on_err c.from_residual.result _ (λ cs knows. knows_front c.args.self.now.origin c.args.self.now.changes.items c.pop.new.self.items c.in-Some.last cs c.in-Some.ensures.items knows.0 knows.1)

pub returns-in_err-push-clause-failed : goal.returns-in_err-push-clause-failed
returns-in_err-push-clause-failed c =
    let last = c.in-Some.last in
    let before : c.args.self.now.changes.items ≡ c.push.new.self.items ++ last ∷ [] = c.in-Some.ensures.items ∙ ap (λ (l : List Touched). l ++ last ∷ []) (sym c.in_err-push.ensures.items) in
    on_err c.from_residual-in_err-push.result _ (λ cs knows. knows_front c.args.self.now.origin c.args.self.now.changes.items c.push.new.self.items last cs before knows.0 knows.1)
