use Rattle.std.specs.List.{list_any}
use Rattle.std.proofs.Common.{List, ℕ, eqb, refl, inl, inr, sym, ap, ◌∙◌}
use Rattle.std.proofs.lemmas.Bool.{both_ways}
use Rattle.policy_tools.proofs.ClaimLemmas.{number_from, number_to}
use Rattle.policy_tools.proofs.idle.push_idle.Goals as goal

pub returns-then-contains : goal.returns-then-contains
returns-then-contains c =
    let row = c.args.row in
    let among = c.contains.ensures.value ∙ ap (λ (l : List ℕ). list_any (λ k. eqb k row.rule) l) c.deref.ensures.value in
    inl (refl, number_from row.takers.items row.rule (sym among ∙ c.if-contains.true))

pub returns : goal.returns
returns c =
    let row = c.args.row in
    let among = c.contains.ensures.value ∙ ap (λ (l : List ℕ). list_any (λ k. eqb k row.rule) l) c.deref.ensures.value in
    inr (c.in_ok-push.ensures.items, λ in'. both_ways c.contains.result c.if-contains.false (among ∙ number_to row.takers.items row.rule in'))
