use Rattle.std.proofs.Common.{◌≡◌, ◌<◌, ◌≤◌, Bool, true, false, List, ℕ, length, get_or, sym, ap, ◌∙◌, subst, arith}
use Rattle.std.proofs.lemmas.List.{length-map, length-replicate, get_or-replicate, with_items_is}
use Rattle.std.proofs.lemmas.List.Elements.{All-get_or, All-map, All-weaker}
use Rattle.std.proofs.lemmas.Result.{IfOk-weaker}
use Rattle.grant_policy.specs.declared.rule.Rule.{Rule}
use Rattle.policy_tools.specs.declared.claims.Claim.{Claim}
use Rattle.policy_tools.specs.Taking.{AreCallers}
use Rattle.policy_tools.specs.Idle.{AreTakers}
use Rattle.policy_tools.specs.Claims.{AreBelow, IsClaim, rules_of}
use Rattle.policy_tools.proofs.ClaimLemmas.{all_below, rule_at, takers_are}
use Rattle.policy_tools.proofs.taking.takers.Goals as goal

pub mark_rows-requires : goal.mark_rows-requires
mark_rows-requires c =
    let claims = c.args.claims.now in
    let rules = rules_of claims in
    let rows = c.args.rows.now in
    let long = length-map claims (λ (x : Claim). x.rule.now) in
    let made = ap (length {A = Bool}) (c.in_ok-found.ensures.items_if_clones_equal (λ y e. e)) ∙ length-replicate (length claims) false in
    rw c.deref_mut.ensures.value
    (λ k d lt k' d' lt'. omega (arith, all_below rules (get_or rows k d).name.now (length rules) (get_or rows k d).entries.items (c.requires.rows k d lt) k' d' lt', long, made))

pub returns : goal.returns
returns c =
    let claims = c.args.claims.now in
    let rules = rules_of claims in
    let claim = c.index-claims-number.result in
    let i = c.args.number in
    let init = c.in_ok-found.found.items in
    let found = c.mark_rows.new.found in
    let filled = c.in_ok-found.ensures.items_if_clones_equal (λ y e. e) in
    let long : length init ≡ length claims = ap (length {A = Bool}) filled ∙ length-replicate (length claims) false in
    let kept : length found ≡ length init = c.mark_rows.auto.found ∙ ap (length {A = Bool}) c.deref_mut.ensures.value in
    let same = c.deref.ensures.value ∙ with_items_is c.in_ok-found.found found (c.mark_rows.auto.found ∙ c.deref_mut.ensures.len) in
    let rules_long = length-map claims (λ (x : Claim). x.rule.now) in
    let own = subst (λ (x : Claim). IsClaim x) (sym c.index-claims-number.is) (All-get_or IsClaim claims i claim c.requires.number c.requires.claims) in
    let are = All-map (λ (r : Rule). AreCallers r.callers) (λ (x : Claim). x.rule.now) claims (All-weaker IsClaim (λ (x : Claim). AreCallers x.rule.now.callers) (λ x y. y.1) claims c.requires.claims) in
    let few : length rules ≤ 1024 = omega (arith, rules_long, c.requires.few) in
    let marks = rw c.deref_mut.ensures.value at c.mark_rows.ensures in
    let clear = λ (j : ℕ) (below : j < length claims). ap (λ (l : List Bool). get_or l j false) filled ∙ get_or-replicate (length claims) j false false below in
    IfOk-weaker c.marked.result (λ takers. AreBelow (λ j. get_or found j false ≡ true) (length found) takers.items) (λ takers. AreTakers rules i takers.items)
    (λ takers below. takers_are rules few c.args.rows.now c.requires.rows c.requires.names are i claim (rule_at claims i claim c.requires.number c.index-claims-number.is) own.0 init found takers.items
    (kept ∙ long ∙ sym rules_long) (λ j lt. clear j (omega (arith, lt, kept, long))) (λ j lt. marks j (omega (arith, lt, kept))) below)
    (rw same at c.marked.ensures)
