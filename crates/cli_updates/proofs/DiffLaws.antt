-- The items between two zones lead from the one to the other, and are read as they were printed.
use Rattle.std.proofs.Common.{◌≡◌, ◌∙◌, ap, sym, refl, subst, ℕ, ◌≤◌, List, [], ◌∷◌, ◌++◌, length, Bool, true, false, cond, if◌then◌else◌, Option, Some, None, Result, Ok, Err, inl, inr, arith}
use Rattle.std.specs.List.{AllByRecursion, filter}
use Rattle.dns_names.specs.Labels.{IsWithin}
use Rattle.zone_core.specs.declared.update.Operation.{Operation}
use Rattle.zone_core.specs.declared.update.Prerequisite.{Prerequisite}
use Rattle.zone_core.specs.declared.verdict.Failed.{Failed}
use Rattle.zone_core.specs.Sets.{Records, key_of, listing}
use Rattle.zone_core.specs.Zones.{ZoneOf, IsZone, AreKept}
use Rattle.zone_core.specs.Updates.{IsUpdate, IsOperation, IsPrerequisite, ActsWithin, acted_name, tested_name, adds_soa, first_outside}
use Rattle.zone_core.specs.Prerequisites.{verdict, failure}
use Rattle.zone_core.specs.Met.{AreMet}
use Rattle.cli_core.specs.declared.job.ItemForm.{ItemForm}
use Rattle.cli_core.specs.declared.job.ItemForm.TheVariants.{Bare, Guarded}
use Rattle.zone_core.specs.Effects.{effects, serial_advanced, zone_after}
use Rattle.zone_tools.specs.Differences.{operations}
use Rattle.zone_tools.specs.DifferencePromises.{AddsSoaLast, AreWithin}
use Rattle.zone_core.proofs.ZoneLemmas.{Keys, effects_heir, keys_of}
use Rattle.zone_core.proofs.ChangedLemmas.{listed}
use Rattle.zone_core.proofs.MetLemmas.{met_answer}
use Rattle.zone_core.proofs.UpdateLemmas.{none_outside}
use Rattle.zone_tools.proofs.DiffPromiseLemmas.{operations_lead, operations_soa, operations_within}
use Rattle.update_lines.proofs.PrintLaws.{update_read}
use Rattle.cli_text.specs.Apply.{first_unmet, updated, unless, zone_lines}
use Rattle.cli_updates.specs.Diff.{DiffsAreApplied, DiffsAreMadeBeside, DiffsAreMet, DiffsHaveRoom, DiffsLead, DiffsTell, OperationsAreGuarded, OperationsTell, prerequisites_in, target_of, update_between, update_in}
use Rattle.cli_updates.specs.Guards.{changes_set}
use Rattle.cli_updates.specs.GuardPromises.{HaveSameSet}
use Rattle.cli_updates.proofs.GuardLaws.{each_guard, guards_make_room, guards_met, guards_tell}
use Rattle.cli_updates.proofs.OperationLaws.{each_tells, none_asked, none_needed}
use Rattle.cli_updates.proofs.BesideLaws.{alias_below, made_beside}

-- ---- no more than one SOA is added

none_adds : (front : List Operation) → AllByRecursion (λ op. adds_soa op ≡ false) front → length (filter adds_soa front) ≤ 1
none_adds [] none = omega arith
none_adds (op ∷ front) none = rw none.0 (none_adds front none.1)

last_adds : (front : List Operation) (last : Operation) → AllByRecursion (λ op. adds_soa op ≡ false) front → length (filter adds_soa (front ++ last ∷ [])) ≤ 1
last_adds [] last none = by (adds_soa last)
  where
    by : (b : Bool) → length (cond b (last ∷ []) []) ≤ 1
    by true = omega arith
    by false = omega arith
last_adds (op ∷ front) last none = rw none.0 (last_adds front last none.1)

one_added : (origin : List (List ℕ)) (old aim : Records) (ops : List Operation) → AddsSoaLast origin old aim ops → length (filter adds_soa ops) ≤ 1
one_added origin old aim ops last = elim last.2 [
  | inl is ↦ subst (λ xs. length (filter adds_soa xs) ≤ 1) (sym is) (none_adds last.0 last.1)
  | inr more ↦ subst (λ xs. length (filter adds_soa xs) ≤ 1) (sym more.1) (last_adds last.0 _ last.1)
]

-- ---- operations within the origin

are_operations : (origin : List (List ℕ)) (ops : List Operation) → AreWithin origin ops → AllByRecursion IsOperation ops
are_operations origin [] all = tt
are_operations origin (op ∷ ops) all = (all.0.0, are_operations origin ops all.1)

are_within : (origin : List (List ℕ)) (ops : List Operation) → AreWithin origin ops → AllByRecursion (λ op. IsWithin (acted_name op) origin) ops
are_within origin [] all = tt
are_within origin (op ∷ ops) all = (all.0.1, are_within origin ops all.1)

-- ---- prerequisites that are met

abbrev answer_of : Option Failed → Result (Unit {0}) Failed
answer_of None = Ok tt
answer_of (Some failed) = Err failed

answer_same : (o : Option Failed) → failure (answer_of o) ≡ o
answer_same None = refl
answer_same (Some failed) = refl

-- none of them fails
verdict_none : (set : Records) → AreKept set → (all : List Prerequisite) → AllByRecursion IsPrerequisite all → AreMet set all → verdict set all ≡ None
verdict_none set kept all are met =
    let rows = listed set kept in
    let v = verdict set all in
    sym (answer_same v) ∙ ap failure ((met_answer set (listing set) rows.order rows.set kept all are (answer_of v) (answer_same v)).1 met)

-- ---- the laws

module _ (old new : ZoneOf) (is_old : IsZone old) (is_new : IsZone new) (same : new.origin ≡ old.origin) where
  abbrev ops : List Operation
  ops = operations old.origin old.records new.records

  pub old_keys : Keys old.origin old.records
  old_keys = keys_of old.origin old.records is_old

  pub new_keys : Keys old.origin new.records
  new_keys = subst (λ o. Keys o new.records) same (keys_of new.origin new.records is_new)

  within : AreWithin old.origin ops
  within = operations_within old.origin old.records new.records old_keys new_keys

  leads : zone_after old (update_between old new) ≡ target_of old new
  leads = ap (λ (rs : Records). record old { records = rs }) (operations_lead old.origin old.records new.records old_keys new_keys)

  are_prerequisites : (form : ItemForm) → AllByRecursion IsPrerequisite (prerequisites_in form old new ops)
  are_prerequisites Bare = tt
  are_prerequisites (Guarded scope) =
      each_guard scope old.records new.records ops is_old.kept is_new.kept IsPrerequisite (λ r here. let is = (is_old.kept (key_of r) r here).1 in (is.owner, is.rdata))
      (λ r here. let owner = (is_new.kept (key_of r) r here).1.owner in (owner, λ t. owner))

  test_within : (form : ItemForm) → AllByRecursion (λ p. IsWithin (tested_name p) old.origin) (prerequisites_in form old new ops)
  test_within Bare = tt
  test_within (Guarded scope) =
      each_guard scope old.records new.records ops is_old.kept is_new.kept (λ p. IsWithin (tested_name p) old.origin) (λ r here. is_old.owners r here)
      (λ r here. let owner = subst (λ o. IsWithin r.owner o) same (is_new.owners r here) in (owner, λ t. owner))

  are_met : (form : ItemForm) → AreMet old.records (prerequisites_in form old new ops)
  are_met Bare = tt
  are_met (Guarded scope) = guards_met scope old.records new.records ops is_old.kept

  acts : (form : ItemForm) → ActsWithin old.origin (update_in form old new)
  acts form = record { prerequisites = test_within form; operations = are_within old.origin ops within }

  is_update : (form : ItemForm) → length (prerequisites_in form old new ops) ≤ 64 → length ops ≤ 256 → IsUpdate (update_in form old new)
  is_update form few_tests few = record {
    prerequisites = are_prerequisites form;
    operations = are_operations old.origin ops within;
    few_prerequisites = few_tests;
    few_operations = few;
    one_soa = one_added old.origin old.records _ ops (operations_soa old.origin old.records new.records old_keys new_keys);
  }

  none_fails : (form : ItemForm) → verdict old.records (prerequisites_in form old new ops) ≡ None
  none_fails form = verdict_none old.records is_old.kept (prerequisites_in form old new ops) (are_prerequisites form) (are_met form)

  none_unmet : (form : ItemForm) → first_unmet old (update_in form old new) ≡ None
  none_unmet form =
      rw ((none_outside old.origin (update_in form old new) (first_outside old.origin (update_in form old new)) refl).1 (acts form), none_fails form) refl

  made : (form : ItemForm) → updated old (update_in form old new) ≡ Ok (zone_lines (target_of old new))
  made form = ap (λ o. unless o (zone_lines (zone_after old (update_in form old new)))) (none_unmet form) ∙ ap (λ z. Ok (zone_lines z)) leads

pub diffs_lead : DiffsLead
diffs_lead old new is_old is_new same = leads old new is_old is_new same

pub diffs_met : DiffsAreMet
diffs_met Bare old new is_old is_new = tt
diffs_met (Guarded scope) old new is_old is_new = guards_met scope old.records new.records (operations old.origin old.records new.records) is_old.kept

pub diffs_tell : DiffsTell
diffs_tell scope old new now m =
    guards_tell scope old.records new.records now.records (operations old.origin old.records new.records) m.is_old.kept m.is_new.kept m.met

pub diffs_have_room : DiffsHaveRoom
diffs_have_room scope old new now m =
    guards_make_room scope old.records new.records now.records (operations old.origin old.records new.records) m.is_old.kept m.is_new.kept m.met m.is_new.cnames
    (alias_below old.origin new.records now.records (new_keys old new m.is_old m.is_new m.new_origin) (subst (λ o. Keys o now.records) m.now_origin (keys_of now.origin now.records m.is_now)))

pub operations_tell : OperationsTell
operations_tell scope old new now m =
    each_tells old.origin old.records new.records (old_keys old new m.is_old m.is_new m.new_origin) (new_keys old new m.is_old m.is_new m.new_origin) scope now.records m.met

pub diffs_made_beside : DiffsAreMadeBeside
diffs_made_beside scope old new now m r other =
    let all : List Operation = operations old.origin old.records new.records in
    let first = old_keys old new m.is_old m.is_new m.new_origin in
    let second = new_keys old new m.is_old m.is_new m.new_origin in
    let third = subst (λ o. Keys o now.records) m.now_origin (keys_of now.origin now.records m.is_now) in
    let inside = within old new m.is_old m.is_new m.new_origin in
    let few = one_added old.origin old.records _ all (operations_soa old.origin old.records new.records first second) in
    let heir = effects_heir old.origin now.records third all (are_operations old.origin all inside) (are_within old.origin all inside) few in
    subst (λ o. HaveSameSet (serial_advanced o now.records (effects o now.records all)) (if changes_set old.records new.records all r then new.records else now.records) r) (sym m.now_origin)
    (made_beside old.origin old.records new.records now.records first second third scope m.met heir r other)

pub operations_guarded : OperationsAreGuarded
operations_guarded scope old new is_old is_new same = (
  none_needed old.origin old.records new.records (old_keys old new is_old is_new same) (new_keys old new is_old is_new same) scope,
  λ none. none_asked old.origin old.records new.records (old_keys old new is_old is_new same) (new_keys old new is_old is_new same) none scope,
)

pub diffs_applied : DiffsAreApplied
diffs_applied form old new is_old is_new same few_tests few =
    (update_read (update_in form old new) (is_update old new is_old is_new same form few_tests few), made old new is_old is_new same form)
