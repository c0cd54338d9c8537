use Rattle.std.proofs.Common.{List, ap, sym, ◌∙◌}
use Rattle.std.specs.Prelude.{bytes_eq}
use Rattle.std.specs.List.{list_any}
use Rattle.policy_tools.specs.declared.name_rights.CallerRights.{CallerRights}
use Rattle.policy_tools.proofs.NameRightLemmas.{listed_from, not_listed, kept_listed, kept_same, row_added}
use Rattle.policy_tools.proofs.name_rights.add_row.Goals as goal

pub returns-then-is_listed : goal.returns-then-is_listed
returns-then-is_listed c =
    let rows = c.args.named.now.items in
    let caller = c.in-One.caller in
    let any = c.is_listed.ensures ∙ ap (λ (l : List CallerRights). list_any (λ (row : CallerRights). bytes_eq row.caller caller) l) c.deref.ensures.value in
    kept_listed c.args.claims.now c.args.others.bits rows c.args.callers.now caller c.in-One.is (listed_from rows caller (sym any ∙ c.if-is_listed.true))

pub returns-then-not-differs : goal.returns-then-not-differs
returns-then-not-differs c =
    kept_same c.args.claims.now c.args.others.bits c.granted_to-own.result.bits c.args.named.now.items c.args.callers.now c.in-One.caller c.in-One.is c.granted_to-own.ensures
    (c.differs.ensures.none c.if-not-differs.true)

pub returns : goal.returns
returns c =
    let rows = c.args.named.now.items in
    let caller = c.in-One.caller in
    let any = c.is_listed.ensures ∙ ap (λ (l : List CallerRights). list_any (λ (row : CallerRights). bytes_eq row.caller caller) l) c.deref.ensures.value in
    row_added c.args.claims.now c.args.others.bits c.granted_to-own.result.bits rows c.push.new.self.items (record { caller = c.in_ok-caller.caller; rights = c.of-rights.result }) c.args.callers.now caller
    c.in-One.is c.in_ok-caller.ensures c.of-rights.ensures c.in_ok-push.ensures.items c.granted_to-own.ensures (c.differs.ensures.some c.if-not-differs.false)
    (not_listed rows caller (sym any ∙ c.if-is_listed.false))
