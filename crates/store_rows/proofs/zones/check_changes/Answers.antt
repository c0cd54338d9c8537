use Rattle.std.proofs.Common.{◌≡◌, true, false, List, map, sym, subst, ◌∙◌}
use Rattle.std.proofs.lemmas.List.Sorted.{IsPermutation-map, IsPermutation-sym}
use Rattle.store_rows.specs.declared.changes.ChangedRecord.{ChangedRecord}
use Rattle.store_rows.specs.ChangeRows.{row_of, IsChanged}
use Rattle.store_rows.specs.Checks.{AreChangesInTurn}
use Rattle.store_rows.proofs.ListLemmas.{all_permutation}
use Rattle.store_rows.proofs.ReadChangeLemmas.{tells_moved}
use Rattle.store_rows.proofs.ZoneCheckLemmas.{changes_pass, are_changes_of}
use Rattle.store_rows.proofs.zones.check_changes.Goals as goal

pub returns-then-not-are_changes_of-clause-check : goal.returns-then-not-are_changes_of-clause-check
returns-then-not-are_changes_of-clause-check c = λ of.
    let origins = c.args.origins.now in
    let read = c.args.changes.items in
    let rows = map row_of read in
    let cs = c.in_ok-changes.changes.items in
    let found = c.in_ok-changes.ensures in
    let same = IsPermutation-sym rows (map row_of cs) (IsPermutation-map row_of read cs found.0) in
    let turn = changes_pass origins c.requires.origins rows cs same (all_permutation IsChanged read cs found.0 c.requires.changes) found.1 of in
    let seen = c.are_changes_of.ensures.1 (subst (λ (l : List ChangedRecord). AreChangesInTurn origins l) (sym c.deref.ensures.value) turn) in
    let bad : true ≡ false = sym seen ∙ c.if-not-are_changes_of.true in
    cc

pub returns-clause-check : goal.returns-clause-check
returns-clause-check c =
    let origins = c.args.origins.now in
    let read = c.args.changes.items in
    let rows = map row_of read in
    let cs = c.in_ok-changes.changes.items in
    let found = c.in_ok-changes.ensures in
    let same = IsPermutation-sym rows (map row_of cs) (IsPermutation-map row_of read cs found.0) in
    let turn = subst (λ (l : List ChangedRecord). AreChangesInTurn origins l) c.deref.ensures.value (c.are_changes_of.ensures.0 c.if-not-are_changes_of.false) in
    are_changes_of origins c.requires.origins rows cs same (all_permutation IsChanged read cs found.0 c.requires.changes) turn

pub longest_history-requires-clause-each : goal.longest_history-requires-clause-each
longest_history-requires-clause-each c = all_permutation IsChanged c.args.changes.items c.in_ok-changes.changes.items c.in_ok-changes.ensures.0 c.requires.changes

pub longest_history-requires-clause-order : goal.longest_history-requires-clause-order
longest_history-requires-clause-order c = c.in_ok-changes.ensures.1

pub returns-clause-longest : goal.returns-clause-longest
returns-clause-longest c =
    let read = c.args.changes.items in
    tells_moved (map row_of c.in_ok-changes.changes.items) (map row_of read) c.longest_history.result
    (IsPermutation-sym (map row_of read) (map row_of c.in_ok-changes.changes.items) (IsPermutation-map row_of read c.in_ok-changes.changes.items c.in_ok-changes.ensures.0)) c.longest_history.ensures
