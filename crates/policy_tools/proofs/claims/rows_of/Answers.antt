use Rattle.std.proofs.Common.{ℕ, List, [], ◌∷◌, ◌++◌, take, refl, sym, ap, ◌∙◌, subst}
use Rattle.std.proofs.lemmas.List.{map_push, take_more, take_all, length-map}
use Rattle.std.proofs.lemmas.List.Elements.{All-nil, All-push}
use Rattle.policy_tools.specs.declared.claims.Claim.{Claim}
use Rattle.policy_tools.specs.declared.claims.Coverage.{Coverage}
use Rattle.policy_tools.specs.Claims.{AreEntries, IsRow, rules_of}
use Rattle.policy_tools.proofs.claims.rows_of.Goals as goal

pub loop-name-init : goal.loop-name-init
loop-name-init c = rw c.new-rows.ensures.items (record { names = refl; rows = All-nil (IsRow (rules_of c.args.claims.now)) })

pub returns-clause-names : goal.returns-clause-names
returns-clause-names c = c.loop-name.invariant.names ∙ take_all c.loop-name.name-index c.args.names.now c.loop-name-test.false

pub returns-clause-rows : goal.returns-clause-rows
returns-clause-rows c = c.loop-name.invariant.rows

pub loop-name-preserved : goal.loop-name-preserved
loop-name-preserved c =
    let claims = c.args.claims.now in
    let names = c.args.names.now in
    let n = c.loop-name.name-index in
    let rows = c.loop-name.rows.items in
    let name = c.name-item.result in
    let f : Coverage → List (List ℕ) = λ (r : Coverage). r.name.now in
    let are = subst (λ (m : ℕ). AreEntries (rules_of claims) name m c.in_ok-entries.entries.items) (sym (length-map claims (λ (x : Claim). x.rule.now))) c.in_ok-entries.ensures in
    rw c.in_ok-push.ensures.items (record {
      names = map_push f rows _ ∙ ap (λ (l : List (List (List ℕ))). l ++ name ∷ []) c.loop-name.invariant.names ∙ ap (λ (x : List (List ℕ)). take n names ++ x ∷ []) c.name-item.is ∙ sym (take_more names n name c.loop-name-test.true);
      rows = All-push (IsRow (rules_of claims)) rows _ c.loop-name.invariant.rows are;
    })
