use Rattle.std.proofs.Common.{◌≡◌, ◌∙◌, ◌++◌, ◌+◌, ◌<◌, List, ◌∷◌, [], ℕ, Bool, cond, ap, sym, take, length, get_or, arith, rules}
use Rattle.std.specs.List.{filter}
use Rattle.std.proofs.lemmas.List.{take_all, take_more}
use Rattle.zone_core.specs.Sets.{listing}
use Rattle.zone_answers.specs.declared.query_type.QueryType.{QueryType}
use Rattle.zone_answers.specs.AnswerChanges.{query_types}
use Rattle.answer_reach.specs.ReachTests.{reaches_in}
use Rattle.answer_reach.proofs.GrowLemmas.{filter_more}
use Rattle.answer_reach.proofs.asker.Asker.types_in.Goals as goal

-- one type more
kept_more : (p : QueryType → Bool) (xs : List QueryType) (i : ℕ) (d : QueryType) (now next : List QueryType) → i < length xs → now ≡ filter p (take i xs)
    → next ≡ now ++ cond (p (get_or xs i d)) (get_or xs i d ∷ []) [] → next ≡ filter p (take (i + 1) xs)
kept_more p xs i d now next below so_far more =
    more ∙ ap (λ l. l ++ cond (p (get_or xs i d)) (get_or xs i d ∷ []) []) so_far ∙ sym (filter_more p (get_or xs i d) (take i xs)) ∙ ap (filter p) (sym (take_more xs i d below))

pub loop-asked-preserved : goal.loop-asked-preserved
loop-asked-preserved c =
    let l = c.loop-asked in
    kept_more (reaches_in c.args.self.now.rights.now.rules c.args.self.now.rights.now.caller c.args.self.now.index.now.origin (listing c.args.self.now.index.now.records) c.args.lists.now c.args.names.now) query_types l.asked-index _ l.types.items _ (search (rules, arith)) l.invariant c.in_ok-push_type.ensures

pub returns : goal.returns
returns c =
    let l = c.loop-asked in
    l.invariant ∙ ap (filter (reaches_in c.args.self.now.rights.now.rules c.args.self.now.rights.now.caller c.args.self.now.index.now.origin (listing c.args.self.now.index.now.records) c.args.lists.now c.args.names.now)) (take_all l.asked-index query_types (search (rules, arith)))
