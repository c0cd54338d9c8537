use Rattle.std.proofs.Common.{◌≡◌, ℕ, Bool, ◌||◌, length, take, sym, ap, ◌∙◌, subst, arith}
use Rattle.grant_policy.specs.declared.callers.Callers.TheVariants.{One}
use Rattle.policy_tools.specs.Points.{has_point}
use Rattle.policy_tools.proofs.ClaimLemmas.{item_at, decided_yes, decided_no}
use Rattle.policy_tools.proofs.EntryRightLemmas.{NoneAmong, behind, behind_back, among_here, none_first, none_more, not_included}
use Rattle.policy_tools.proofs.entry_rights.own_right.Goals as goal
use Rattle.policy_tools.proofs.entry_rights.own_right.Goals.{then-include+in_default, else-include}

pub loop-entry-init : goal.loop-entry-init
loop-entry-init c = record { decided = c.none-decided.ensures; none = none_first (One c.args.caller.now) c.args.entries.now c.args.wanted }

pub returns-in-Some : goal.returns-in-Some
returns-in-Some c =
    let entries = c.args.entries.now in
    let caller = One c.args.caller.now in
    let n = c.loop-entry.entry-index in
    let e = c.entry-item.result in
    let right = c.in-Some.right in
    let of = sym c.include.ensures.value ∙ c.if-include.true in (
      sym (c.wanted-looked_for.ensures right.record_type right.action) ∙ c.in-Some.ensures.in_wanted,
      among_here caller entries n e right (item_at entries n e c.loop-entry-test.true c.entry-item.is) c.loop-entry-test.true
          (behind caller (take n entries) e c.loop-entry.decided.bits c.without-own.result.bits c.wanted-looked_for.result.bits right of c.without-own.ensures c.loop-entry.invariant.decided c.in-Some.ensures),
    )

pub loop-entry-preserved : goal.loop-entry-preserved
loop-entry-preserved c =
    let entries = c.args.entries.now in
    let caller = One c.args.caller.now in
    let wanted = c.args.wanted in
    let n = c.loop-entry.entry-index in
    let e = c.entry-item.result in
    let lt = c.loop-entry-test.true in
    let is = c.entry-item.is in
    let before = c.loop-entry.invariant in
    elim c.if-include.branch [
      | then-include+in_default w ↦ rw w.decided-is (record {
        decided = λ t a.
            w.with-decided.ensures t a
            ∙ ap (λ (b : Bool). b || has_point e.claim.points.bits t a) (before.decided t a)
            ∙ decided_yes entries n e caller t a lt is (sym c.include.ensures.value ∙ w.if-include.true);
        none = none_more caller entries wanted n e (item_at entries n e lt is)
            (λ right asked g. w.in_default.ensures right (behind_back caller (take n entries) e c.loop-entry.decided.bits w.without-own.result.bits c.wanted-looked_for.result.bits wanted right w.without-own.ensures before.decided c.wanted-looked_for.ensures asked g))
            before.none;
      })
      | else-include w ↦ rw w.decided-is (record {
        decided = λ t a. before.decided t a ∙ decided_no entries n e caller t a lt is (sym c.include.ensures.value ∙ w.if-include.false);
        none = none_more caller entries wanted n e (item_at entries n e lt is)
            (λ right asked. not_included caller (take n entries) e right (sym c.include.ensures.value ∙ w.if-include.false))
            before.none;
      })
    ]

pub returns : goal.returns
returns c =
    let n = c.loop-entry.entry-index in
    let all : n ≡ length c.args.entries.now = omega arith in
    subst (λ (m : ℕ). NoneAmong (One c.args.caller.now) c.args.entries.now c.args.wanted m) all c.loop-entry.invariant.none
