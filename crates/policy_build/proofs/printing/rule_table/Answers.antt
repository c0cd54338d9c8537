use Rattle.std.proofs.Common.{◌≡◌, ◌≤◌, ◌∙◌, List, ℕ, ap, subst, sym, codes, string_bytes}
use Rattle.toml.specs.Data.{Data, Members, no_members, string, members_depth}
use Rattle.toml.specs.View.{table_view, members_view}
use Rattle.dns_data.specs.Types.{type_text}
use Rattle.grant_policy.specs.declared.rule.Rule.{Rule}
use Rattle.grant_policy.specs.Documents.{SpellsRule}
use Rattle.grant_policy.specs.Words.{action_text, effect_text, scope_text}
use Rattle.policy_build.specs.Printing.{put_member, rule_with, selection_data}
use Rattle.policy_build.proofs.PrintingLemmas.{the_members, rule_spelled, rule_shallow}
use Rattle.policy_build.proofs.printing.rule_table.Goals as goal

the_table : (rule : Rule) (caller at : List ℕ) (m0 m1 m2 m3 m4 m5 m6 m7 : Members)
    → m0 ≡ no_members
    → m1 ≡ put_member (codes "id") (string rule.id) m0
    → m2 ≡ put_member (codes "effect") (string (effect_text rule.effect)) m1
    → m3 ≡ put_member (codes "caller") (string caller) m2
    → m4 ≡ put_member (codes "scope") (string (scope_text rule.scope)) m3
    → m5 ≡ put_member (codes "at") (string at) m4
    → m6 ≡ put_member (codes "types") (selection_data type_text rule.types) m5
    → m7 ≡ put_member (codes "actions") (selection_data action_text rule.actions) m6
    → m7 ≡ the_members rule caller at
the_table rule caller at m0 m1 m2 m3 m4 m5 m6 m7 e0 e1 e2 e3 e4 e5 e6 e7 =
    e7
    ∙ ap (put_member (codes "actions") (selection_data action_text rule.actions)) (e6
    ∙ ap (put_member (codes "types") (selection_data type_text rule.types)) (e5
    ∙ ap (put_member (codes "at") (string at)) (e4
    ∙ ap (put_member (codes "scope") (string (scope_text rule.scope))) (e3
    ∙ ap (put_member (codes "caller") (string caller)) (e2
    ∙ ap (put_member (codes "effect") (string (effect_text rule.effect))) (e1
    ∙ ap (put_member (codes "id") (string rule.id)) e0))))))

other : (k : List ℕ) (ms n : Members) (d e : Data) → n ≡ put_member k d ms → d ≡ e → n ≡ put_member k e ms
other k ms n d e is same = is ∙ ap (λ x. put_member k x ms) same

is_table : (c : goal.After-drop-at-2) → table_view c.put-2.new.table ≡ the_members (rule_with c.args.rule.now) c.callers_text.result.now (string_bytes c.in_ok-at.at)
is_table c =
    the_table (rule_with c.args.rule.now) c.callers_text.result.now (string_bytes c.in_ok-at.at) _ _ _ _ _ _ _ _
    (ap members_view c.new-table.ensures.empty)
    (other (codes "id") (table_view c.new-table.result) _ _ _ c.in_ok-put_text.ensures (ap string c.as_str.ensures.octets))
    (other (codes "effect") (table_view c.put_text.new.table) _ _ _ c.in_ok-put_text-2.ensures (ap string c.text.ensures))
    c.in_ok-put_text-3.ensures
    (other (codes "scope") (table_view c.put_text-3.new.table) _ _ _ c.in_ok-put_text-4.ensures (ap string c.text-2.ensures))
    (other (codes "at") (table_view c.put_text-4.new.table) _ _ _ c.in_ok-put_text-5.ensures (ap string c.as_str-2.ensures.value))
    (other (codes "types") (table_view c.put_text-5.new.table) _ _ _ c.in_ok-put.ensures c.in_ok-types.ensures)
    (other (codes "actions") (table_view c.put.new.table) _ _ _ c.in_ok-put-2.ensures c.in_ok-actions.ensures)

pub returns-clause-spells : goal.returns-clause-spells
returns-clause-spells c =
    let rule = rule_with c.args.rule.now in
    λ some. subst (SpellsRule rule) (sym (is_table c)) (rule_spelled rule c.callers_text.result.now (string_bytes c.in_ok-at.at) c.as_str.ensures.identifier c.callers_text.ensures c.in_ok-at.ensures.name c.in_ok-at.ensures.spells some.types some.actions)

pub returns-clause-shallow : goal.returns-clause-shallow
returns-clause-shallow c =
    subst (λ (m : Members). members_depth m ≤ 1) (sym (is_table c)) (rule_shallow (rule_with c.args.rule.now) c.callers_text.result.now (string_bytes c.in_ok-at.at))
