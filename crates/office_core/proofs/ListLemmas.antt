-- A caller's list has exactly the records that it may list, in record order.
use Rattle.std.proofs.Common.{◌≡◌, ◌↔◌, ℕ, List, [], ◌∷◌, Bool, true, false, cond, Some, inl, inr, refl, sym, ap, subst, ◌∙◌}
use Rattle.std.specs.List.{AllByRecursion, filter}
use Rattle.std.specs.Ordering.{is_eq}
use Rattle.std.specs.FinMap.{get, find}
use Rattle.dns_data.specs.declared.record.Record.{Record}
use Rattle.dns_data.specs.Rdata.{type_of}
use Rattle.grant_policy.specs.declared.action.Action.TheVariants as action
use Rattle.grant_policy.specs.Decisions.{Verdict, granted, denied, decision, is_granted}
use Rattle.zone_core.specs.Sets.{Records, Key, key_of, key_cmp, keyed, listing, IsIn}
use Rattle.zone_core.specs.Zones.{AreKept}
use Rattle.zone_core.proofs.RowLemmas.{get-set_of, each_in, choice, InOrder-filter}
use Rattle.zone_core.proofs.ChangedLemmas.{listed}
use Rattle.office_core.specs.Machine.{may_list}
use Rattle.office_core.specs.Permissions.{question}
use Rattle.office_core.specs.Promises.{ListsAreExact}
use Rattle.office_core.proofs.FootprintLaws.{In, contained, contains}

-- ---- elements of lists

has_each : {X : Type 0} (P : X → Type 0) (xs : List X) (x : X) → AllByRecursion P xs → In x xs → P x
has_each P [] x all i = absurd i
has_each P (y ∷ ys) x all (inl e) = subst P e all.0
has_each P (y ∷ ys) x all (inr i) = has_each P ys x all.1 i

pub in_filter : {X : Type 0} (p : X → Bool) (xs : List X) (x : X) → In x (filter p xs) ↔ (In x xs × (p x ≡ true))
in_filter p [] x = (λ i. absurd i, λ both. absurd both.0)
in_filter {X} p (y ∷ ys) x = by_test (p y) refl (in_filter p ys x)
  where
    by_test : (b : Bool) → p y ≡ b → In x (filter p ys) ↔ (In x ys × (p x ≡ true)) → In x (cond b (y ∷ filter p ys) (filter p ys)) ↔ (In x (y ∷ ys) × (p x ≡ true))
    by_test true t rest = (
      λ i. (elim i [ inl e ↦ (inl e, ap p (sym e) ∙ t) | inr later ↦ (let both = rest.0 later in (inr both.0, both.1)) ]),
      λ both. (elim (both.0) [ inl e ↦ inl e | inr later ↦ inr (rest.1 (later, both.1)) ]),
    )
    by_test false t rest = (
      λ i. let both = rest.0 i in (inr both.0, both.1),
      λ both. (elim (both.0) [ inl e ↦ (let f : true ≡ false = sym both.1 ∙ ap p (sym e) ∙ t in absurd cc) | inr later ↦ rest.1 (later, both.1) ]),
    )

-- ---- records of a set

found_in : (rs : List Record) (k : Key) (r : Record) → find key_cmp k (keyed rs) ≡ Some r → In r rs
found_in [] k r e = absurd cc
found_in (x ∷ rs) k r e = choice (is_eq (key_cmp k (key_of x))) x r (find key_cmp k (keyed rs)) e (λ t same. inl same) (λ t later. inr (found_in rs k r later))

pub in_listing : (set : Records) → AreKept set → (r : Record) → In r (listing set) ↔ IsIn r set
in_listing set kept r =
    let rows = listed set kept in
    let found : find key_cmp (key_of r) (keyed (listing set)) ≡ get set (key_of r) = sym (get-set_of (listing set) (key_of r)) ∙ ap (λ (s : Records). get s (key_of r)) rows.set in (
      λ i. sym found ∙ has_each (λ x. find key_cmp (key_of x) (keyed (listing set)) ≡ Some x) (listing set) r (each_in (listing set) rows.order) i,
      λ here. found_in (listing set) (key_of r) r (found ∙ here),
    )

-- ---- the law

pub if_granted : (v : Verdict) → (is_granted v ≡ true) ↔ ((id : List ℕ) × (v ≡ granted id))
if_granted (granted id) = (λ e. (id, refl), λ g. refl)
if_granted (denied by) = (λ e. absurd cc, λ g. let e = g.1 in absurd cc)

pub lists_are_exact : ListsAreExact
lists_are_exact rules caller set kept =
    record {
      order = InOrder-filter (may_list rules caller) (listing set) (listed set kept).order;
      exactly = λ r.
          let there = in_listing set kept r in
          let kept_there = in_filter (may_list rules caller) (listing set) r in
          let may = if_granted (decision (question caller r.owner (type_of r.rdata) action.List) rules) in (
            λ c. let both = kept_there.0 (contained (filter (may_list rules caller) (listing set)) r c) in (there.0 both.0, may.0 both.1),
            λ both. contains (filter (may_list rules caller) (listing set)) r (kept_there.1 (there.1 both.0, may.1 both.1)),
          );
    }
