use Rattle.std.proofs.Common.{sym, ap, ◌∙◌, arith}
use Rattle.grant_policy.specs.declared.rule.Rule.{Rule}
use Rattle.policy_tools.specs.Exposures.{named_of}
use Rattle.policy_tools.proofs.ClaimLemmas.{item_at}
use Rattle.policy_tools.proofs.LimitLemmas.{kept_at, excess_is, right_within}
use Rattle.policy_tools.proofs.limits.excess_by_entries.Goals as goal

pub returns-in_default : goal.returns-in_default
returns-in_default c = kept_at c.args.rules.now c.args.limit.now c.args.name.now c.args.entries.now c.among-wanted.result.bits c.requires.entries c.among-wanted.ensures (rw c.as_slice-listed.ensures.callers at c.in_default.ensures)

pub offset_bounds-rules-right : goal.offset_bounds-rules-right
offset_bounds-rules-right c = omega (arith, c.requires.few, right_within c.args.rules.now c.args.limit.now c.args.name.now c.args.entries.now c.among-wanted.result.bits c.requires.entries c.among-wanted.ensures c.in-Some.right (rw c.as_slice-listed.ensures.callers at c.in-Some.ensures))

pub bounds-rules-right : goal.bounds-rules-right
bounds-rules-right c = right_within c.args.rules.now c.args.limit.now c.args.name.now c.args.entries.now c.among-wanted.result.bits c.requires.entries c.among-wanted.ensures c.in-Some.right (rw c.as_slice-listed.ensures.callers at c.in-Some.ensures)

pub returns : goal.returns
returns c =
    let rules = c.args.rules.now in
    let entries = c.args.entries.now in
    let limit = c.args.limit.now in
    let name = c.args.name.now in
    let right = c.in-Some.right in
    let bits = c.among-wanted.result.bits in
    let found = rw c.as_slice-listed.ensures.callers at c.in-Some.ensures in
    let below = right_within rules limit name entries bits c.requires.entries c.among-wanted.ensures right found in
    let at = item_at rules right.rule c.index-rules-right.result below c.index-rules-right.is in
    let whose = c.in_ok-caller.ensures ∙ ap (λ (r : Rule). named_of r.callers) (sym c.index-rules-right.is) in
    rw c.in_ok-name.ensures (excess_is rules limit name entries bits c.requires.entries c.among-wanted.ensures right c.index-rules-right.result c.in_ok-caller.caller c.requires.few c.as_slice-listed.ensures.len c.requires.name c.requires.covered at whose found)
