use Rattle.std.proofs.Common.{◌≡◌, ◌+◌, ◌<◌, ◌≤◌, ◌∙◌, ◌∷◌, [], List, length, map, ap, sym, arith, length-append}
use Rattle.std.proofs.lemmas.List.{length-map, map-append}
use Rattle.std.proofs.lemmas.Result.{err_from_is_err_and}
use Rattle.toml.specs.View.{table_view}
use Rattle.grant_policy.specs.declared.rule.Rule.{Rule}
use Rattle.grant_policy.specs.Reading.{is_among}
use Rattle.grant_policy.proofs.ReadLemmas.{Refuses-on, rules_from, rules_more, rules_stop, rules_done, named_push, mapped_here, mapped_at}
use Rattle.grant_policy.proofs.DocumentLaws.{tables_make}
use Rattle.grant_policy.proofs.document.read_rules.Goals as goal

pub returns-in_err-read_rule-clause-exact : goal.returns-in_err-read_rule-clause-exact
returns-in_err-read_rule-clause-exact c =
    let p = err_from_is_err_and c.from_residual.result c.from_residual.ensures.1 in
    let ts = c.args.tables.now in
    let i = c.loop-i.i in
    let done = c.loop-i.rules.items in
    let table = c.index-tables-i.result in
    let lt : i < length ts = omega arith in
    let count : i + 1 ≡ length (map (λ (r : Rule). r.id) done) + 1 = omega (arith, c.loop-i.invariant.count, length-map done (λ (r : Rule). r.id)) in
    let here = mapped_here (λ t. table_view t.now) ts i table lt c.index-tables-i.is in
    rw (p.1, p.2) (Refuses-on _ _ _ (λ fault e. c.loop-i.invariant.read ∙ rules_stop (map (λ t. table_view t.now) ts) done i (table_view table.now) fault here e) (c.in_err-read_rule.ensures.exact (map (λ (r : Rule). r.id) done) c.loop-i.invariant.seen count))

pub loop-i-preserved : goal.loop-i-preserved
loop-i-preserved c =
    let ts = c.args.tables.now in
    let i = c.loop-i.i in
    let done = c.loop-i.rules.items in
    let ids = map (λ (r : Rule). r.id) done in
    let rule = c.in_ok-read_rule.field-0 in
    let table = c.index-tables-i.result in
    let items = c.in_ok-push.ensures.items in
    let lt : i < length ts = omega arith in
    let count : i + 1 ≡ length ids + 1 = omega (arith, c.loop-i.invariant.count, length-map done (λ (r : Rule). r.id)) in
    let here = mapped_here (λ t. table_view t.now) ts i table lt c.index-tables-i.is in
    let at = mapped_at (λ t. table_view t.now) ts i table lt c.index-tables-i.is in
    record {
      count = omega (arith, ap (length {A = Rule}) items, length-append done (rule ∷ []), c.loop-i.invariant.count);
      seen = λ q. c.in_ok-read_rule.ensures.added ids c.loop-i.invariant.seen q ∙ ap (is_among q) (sym (ap (map (λ (r : Rule). r.id)) items ∙ map-append (λ (r : Rule). r.id) done (rule ∷ [])));
      read =
          c.loop-i.invariant.read
          ∙ rules_more (map (λ t. table_view t.now) ts) done i (table_view table.now) rule here (c.in_ok-read_rule.ensures.exact ids c.loop-i.invariant.seen count)
          ∙ ap (λ (l : List Rule). rules_from (map (λ t. table_view t.now) ts) l (i + 1)) (sym items);
      named = rw items (named_push done (map (λ t. table_view t.now) ts) rule (table_view table.now) c.loop-i.invariant.named (rw c.loop-i.invariant.count at) c.in_ok-read_rule.ensures.named);
    }

pub returns-clause-are : goal.returns-clause-are
returns-clause-are c =
    let ts = c.args.tables.now in
    let mss = map (λ t. table_view t.now) ts in
    let past : length mss ≤ c.loop-i.i = omega (arith, length-map ts (λ t. table_view t.now)) in
    let short : length mss ≤ 1024 = omega (arith, length-map ts (λ t. table_view t.now), c.requires) in
    tables_make mss c.loop-i.rules.items (c.loop-i.invariant.read ∙ rules_done mss c.loop-i.rules.items c.loop-i.i past) c.loop-i.invariant.named short
