use Rattle.std.proofs.Common.{◌≡◌, ◌∙◌, ◌++◌, ◌+◌, ◌<◌, List, ◌∷◌, [], ℕ, Bool, true, false, cond, refl, ap, sym, take, length, get_or, arith, rules}
use Rattle.std.specs.List.{filter}
use Rattle.std.proofs.lemmas.List.{append-nil, take_all, take_more}
use Rattle.zone_core.specs.Sets.{listing}
use Rattle.zone_core.proofs.BehindLemmas.{filter_push, filter_skip}
use Rattle.zone_answers.specs.declared.query_type.QueryType.{QueryType}
use Rattle.zone_answers.specs.AnswerChanges.{query_types}
use Rattle.zone_answers.specs.ChangeTests.{differs}
use Rattle.zone_answers.proofs.changes.types_in.Goals as goal

-- one type more
kept_more : (p : QueryType → Bool) (xs : List QueryType) (i : ℕ) (d : QueryType) (now next : List QueryType) → i < length xs → now ≡ filter p (take i xs)
    → next ≡ now ++ cond (p (get_or xs i d)) (get_or xs i d ∷ []) [] → next ≡ filter p (take (i + 1) xs)
kept_more p xs i d now next below so_far more =
    more ∙ ap (λ l. l ++ cond (p x) (x ∷ []) []) so_far ∙ by_test (p x) refl ∙ ap (filter p) (sym (take_more xs i d below))
  where
    x : QueryType
    x = get_or xs i d

    by_test : (b : Bool) → p (get_or xs i d) ≡ b → filter p (take i xs) ++ cond (p (get_or xs i d)) (get_or xs i d ∷ []) [] ≡ filter p (take i xs ++ get_or xs i d ∷ [])
    by_test true e = ap (λ b. filter p (take i xs) ++ cond b (get_or xs i d ∷ []) []) e ∙ sym (filter_push p (get_or xs i d) e (take i xs))
    by_test false e =
        ap (λ b. filter p (take i xs) ++ cond b (get_or xs i d ∷ []) []) e ∙ append-nil (filter p (take i xs)) ∙ sym (filter_skip p (get_or xs i d) e (take i xs))

pub loop-asked-preserved : goal.loop-asked-preserved
loop-asked-preserved c =
    let l = c.loop-asked in
    kept_more (differs c.args.old.now.origin (listing c.args.old.now.records) (listing c.args.new.now.records) c.args.group.now) query_types l.asked-index _ l.types.items _
    (search (rules, arith)) l.invariant c.in_ok-push_type.ensures

pub returns : goal.returns
returns c =
    let l = c.loop-asked in
    l.invariant
    ∙ ap (filter (differs c.args.old.now.origin (listing c.args.old.now.records) (listing c.args.new.now.records) c.args.group.now)) (take_all l.asked-index query_types (search (rules, arith)))
