use Rattle.std.proofs.Common.{length, sym, ap, ◌∙◌, arith}
use Rattle.grant_policy.specs.declared.rule.Rule.{Rule}
use Rattle.policy_tools.specs.Exposures.{named_of}
use Rattle.policy_tools.proofs.ClaimLemmas.{item_at}
use Rattle.policy_tools.proofs.IsolatedLemmas.{isolated_none, isolated_alone, soa_seen, name_shared, right_below}
use Rattle.policy_tools.proofs.exposure.exposure_by_entries.Goals as goal

pub returns-in-Some : goal.returns-in-Some
returns-in-Some c =
    let entries = c.args.entries.now in
    rw c.in_ok-name.ensures (soa_seen c.args.rules.now c.args.caller.now c.args.name.now entries c.requires.entries (length entries) c.in-Some.right c.requires.name c.in-Some.ensures)

pub returns-in_default-own_right : goal.returns-in_default-own_right
returns-in_default-own_right c = isolated_none c.args.rules.now c.args.caller.now c.args.name.now c.args.entries.now c.requires.entries c.in_default.ensures c.in_default-own_right.ensures

pub returns-in_default-other_right : goal.returns-in_default-other_right
returns-in_default-other_right c = isolated_alone c.args.rules.now c.args.caller.now c.args.name.now c.args.entries.now c.requires.entries c.in_default.ensures c.in_default-other_right.ensures

pub offset_bounds-rules-theirs : goal.offset_bounds-rules-theirs
offset_bounds-rules-theirs c = omega (arith, c.requires.few, right_below c.args.rules.now c.args.caller.now c.args.name.now c.args.entries.now c.requires.entries c.in-Some-other_right.theirs c.in-Some-other_right.ensures)

pub bounds-rules-theirs : goal.bounds-rules-theirs
bounds-rules-theirs c = right_below c.args.rules.now c.args.caller.now c.args.name.now c.args.entries.now c.requires.entries c.in-Some-other_right.theirs c.in-Some-other_right.ensures

pub returns : goal.returns
returns c =
    let rules = c.args.rules.now in
    let caller = c.args.caller.now in
    let entries = c.args.entries.now in
    let name = c.args.name.now in
    let theirs = c.in-Some-other_right.theirs in
    let below = right_below rules caller name entries c.requires.entries theirs c.in-Some-other_right.ensures in
    let at = item_at rules theirs.rule c.index-rules-theirs.result below c.index-rules-theirs.is in
    let whose = c.in_ok-other.ensures ∙ ap (λ (r : Rule). named_of r.callers) (sym c.index-rules-theirs.is) in
    rw c.in_ok-name-2.ensures (name_shared rules caller name entries c.requires.entries (length entries) c.in-Some-own_right.own theirs c.index-rules-theirs.result c.in_ok-other.other c.requires.few c.requires.name at whose c.in-Some-own_right.ensures.1 c.in-Some-other_right.ensures)
