use Rattle.std.proofs.Common.{List, inl, inr, ap, sym, ◌∙◌}
use Rattle.std.specs.Prelude.{bytes_eq}
use Rattle.std.specs.List.{list_any}
use Rattle.policy_tools.specs.declared.name_changes.CallerChange.{CallerChange}
use Rattle.policy_tools.proofs.ChangeLemmas.{caller_covered, caller_added, same_change, row_from, no_row}
use Rattle.policy_tools.proofs.name_changes.add_caller.Goals as goal

pub returns-then-has_row : goal.returns-then-has_row
returns-then-has_row c = λ seen are.
    let rows = c.args.rows.now.items in
    let caller = c.args.caller.now in
    let any = c.has_row.ensures ∙ ap (λ (l : List CallerChange). list_any (λ (row : CallerChange). bytes_eq row.caller caller) l) c.deref.ensures.value in
    caller_covered c.args.versions.old.now c.args.versions.new.now c.args.versions.others.now seen rows caller are (inl (row_from rows caller (sym any ∙ c.if-has_row.true)))

pub returns-then-not-differs : goal.returns-then-not-differs
returns-then-not-differs c = λ seen are.
    let old = c.args.versions.old.now in
    let new = c.args.versions.new.now in
    let others = c.args.versions.others.now in
    let is = rw (c.of.ensures, c.of-2.ensures) at c.between-change.ensures in
    caller_covered old new others seen c.args.rows.now.items c.args.caller.now are (inr (same_change old new c.args.caller.now c.between-change.result others is (c.differs.ensures.none c.if-not-differs.true)))

pub returns : goal.returns
returns c = λ seen are.
    let old = c.args.versions.old.now in
    let new = c.args.versions.new.now in
    let others = c.args.versions.others.now in
    let rows = c.args.rows.now.items in
    let caller = c.args.caller.now in
    let any = c.has_row.ensures ∙ ap (λ (l : List CallerChange). list_any (λ (row : CallerChange). bytes_eq row.caller caller) l) c.deref.ensures.value in
    let is = rw (c.of.ensures, c.of-2.ensures) at c.between-change.ensures in
    let row : CallerChange = record { caller = c.in_ok-caller.caller; change = c.between-change.result } in
    rw c.in_ok-push.ensures.items
    (caller_added old new others seen rows caller are row c.in_ok-caller.ensures is (c.differs.ensures.some c.if-not-differs.false) c.requires (no_row rows caller (sym any ∙ c.if-has_row.false)))
