-- What items ask for, and the relations that it is of.
use Rattle.std.proofs.Common.{◌≡◌, ◌≢◌, ◌↔◌, ◌⊎◌, ℕ, List, Bool, true, false, cond, Option, Some, None, refl, sym, ap, ◌∙◌, inl, inr, ⊎_elim}
use Rattle.std.specs.Bool.{Decides}
use Rattle.std.proofs.lemmas.Bool.{false≢true}
use Rattle.std.proofs.lemmas.Bool.Decides.{Decides-like, Decides-not}
use Rattle.dns_names.proofs.NameLemmas.{same_name-Decides}
use Rattle.dns_data.specs.declared.record_type.RecordType.{RecordType}
use Rattle.dns_data.specs.declared.record_type.RecordType.TheVariants.{Ns, Soa, Ds}
use Rattle.dns_data.specs.Rdata.{type_of}
use Rattle.grant_policy.specs.declared.action.Action.{Action}
use Rattle.grant_policy.specs.declared.action.Action.TheVariants as action
use Rattle.grant_policy.proofs.WordLemmas.{same_type-Decides}
use Rattle.zone_core.specs.declared.update.Prerequisite.{Prerequisite}
use Rattle.zone_core.specs.declared.update.Prerequisite.TheVariants as tests
use Rattle.zone_core.specs.declared.update.Operation.{Operation}
use Rattle.zone_core.specs.declared.update.Operation.TheVariants as changes
use Rattle.office_core.specs.Footprints.{Delegates, AsksChange, IsDeletedWith, PrerequisiteAsks, OperationAsks, is_deleted_with, delegates, prerequisite_action, operation_action}

-- ---- types that are touched

delegates-Decides : (origin name : List (List ℕ)) (t : RecordType) → Decides (delegates origin name t) (Delegates origin name t)
delegates-Decides origin name Ns =
    Decides-like _ (λ n. inl (refl, n)) (λ d. ⊎_elim (λ (p : (Ns ≡ Ns) × (name ≢ origin)). p.1) (λ (e : Ns ≡ Ds). absurd cc) d)
    (Decides-not _ (same_name-Decides name origin))
delegates-Decides origin name Ds = (λ _. inr refl, λ _. refl)
delegates-Decides origin name _ = (λ e. absurd cc, λ d. ⊎_elim (λ p. let e = p.0 in absurd cc) (λ e. absurd cc) d)

deleted-Decides : (origin name : List (List ℕ)) (t : RecordType) → Decides (is_deleted_with origin name t) (IsDeletedWith origin name t)
deleted-Decides origin name Soa = (λ e. absurd cc, λ d. absurd (d.not_soa refl))
deleted-Decides origin name Ns =
    Decides-like _ (λ n. record { not_soa = λ e. cc; not_at_origin = λ e. absurd (n e) }) (λ d e. (d.not_at_origin e).0 refl)
    (Decides-not _ (same_name-Decides name origin))
deleted-Decides origin name Ds =
    Decides-like _ (λ n. record { not_soa = λ e. cc; not_at_origin = λ e. absurd (n e) }) (λ d e. (d.not_at_origin e).1 refl)
    (Decides-not _ (same_name-Decides name origin))
deleted-Decides origin name _ = (λ _. record { not_soa = λ e. cc; not_at_origin = λ _. (λ e. cc, λ e. cc) }, λ _. refl)

-- ---- the action

guarded : {P Q : Type 0} (b : Bool) (o : Option Action) (a : Action) → Decides b P → (o ≡ Some a) ↔ Q → (cond b o None ≡ Some a) ↔ (P × Q)
guarded true o a d q = (λ e. (d.0 refl, q.0 e), λ p. q.1 p.1)
guarded false o a d q = (λ e. absurd cc, λ p. absurd (false≢true (d.1 p.0)))

one_of_two : {P : Type 0} (b : Bool) (change a : Action) → Decides b P → (cond b (Some action.Delegate) (Some change) ≡ Some a) ↔ ((P × (a ≡ action.Delegate)) ⊎ ((¬ P) × (a ≡ change)))
one_of_two {P} true change a d =
    (λ e. inl (d.0 refl, cc), λ s. ⊎_elim (λ (p : P × (a ≡ action.Delegate)). ap Some (sym p.1)) (λ (n : (¬ P) × (a ≡ change)). absurd (n.0 (d.0 refl))) s)
one_of_two {P} false change a d =
    (λ e. inr (λ p. false≢true (d.1 p), cc), λ s. ⊎_elim (λ (p : P × (a ≡ action.Delegate)). absurd (false≢true (d.1 p.0))) (λ (n : (¬ P) × (a ≡ change)). ap Some (sym n.1)) s)

by_change : (change : Action) (origin name : List (List ℕ)) (t : RecordType) (a : Action) → (cond (delegates origin name t) (Some action.Delegate) (Some change) ≡ Some a) ↔ AsksChange change origin name t a
by_change change origin name t a = one_of_two (delegates origin name t) change a (delegates-Decides origin name t)

checked : (a : Action) → (Some action.Check ≡ Some a) ↔ (a ≡ action.Check)
checked a = (λ e. cc, λ e. ap Some (sym e))

pub prerequisite_asked : (p : Prerequisite) (t : RecordType) (a : Action) → (prerequisite_action p t ≡ Some a) ↔ PrerequisiteAsks p t a
prerequisite_asked (tests.RrsetExists name tested) t a = guarded _ _ a (same_type-Decides tested t) (checked a)
prerequisite_asked (tests.RrsetEquals name rdata) t a = guarded _ _ a (same_type-Decides (type_of rdata) t) (checked a)
prerequisite_asked (tests.RrsetAbsent name tested) t a = guarded _ _ a (same_type-Decides tested t) (checked a)
prerequisite_asked (tests.NameUsed name) t a = guarded _ _ a (Decides-not _ (same_type-Decides t Soa)) (checked a)
prerequisite_asked (tests.NameUnused name) t a = guarded _ _ a (Decides-not _ (same_type-Decides t Soa)) (checked a)

pub operation_asked : (origin : List (List ℕ)) (op : Operation) (t : RecordType) (a : Action) → (operation_action origin op t ≡ Some a) ↔ OperationAsks origin op t a
operation_asked origin (changes.Add r) t a = guarded _ _ a (same_type-Decides (type_of r.rdata) t) (by_change action.Add origin r.owner t a)
operation_asked origin (changes.DeleteRrset name deleted) t a = guarded _ _ a (same_type-Decides deleted t) (by_change action.Delete origin name t a)
operation_asked origin (changes.DeleteName name) t a = guarded _ _ a (deleted-Decides origin name t) (by_change action.Delete origin name t a)
operation_asked origin (changes.DeleteRecord name rdata) t a = guarded _ _ a (same_type-Decides (type_of rdata) t) (by_change action.Delete origin name t a)

pub operation_asks : (origin : List (List ℕ)) (op : Operation) (t : RecordType) (r : Option Action) → r ≡ operation_action origin op t → (a : Action) → (r ≡ Some a) ↔ OperationAsks origin op t a
operation_asks origin op t r is a = let asked = operation_asked origin op t a in (λ e. asked.0 (sym is ∙ e), λ asks. is ∙ asked.1 asks)
