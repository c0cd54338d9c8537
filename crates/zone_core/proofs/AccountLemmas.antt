-- What an operation leaves of a set, record by record.
use Rattle.std.proofs.Common.{◌≡◌, ◌≢◌, ◌↔◌, ◌⊎◌, ℕ, List, [], ◌∷◌, Bool, true, false, cond, not, ◌&&◌, ◌||◌, ◌==◌, if◌then◌else◌, Option, Some, None, inl, inr, refl, sym, ap, subst, ◌∙◌}
use Rattle.std.specs.List.{AllByRecursion}
use Rattle.std.specs.Option.{option_map}
use Rattle.std.specs.FinMap.{get}
use Rattle.std.proofs.lemmas.Bool.{and_parts, eqb-true, false_from_ne_true, true_from_ne_false}
use Rattle.dns_names.specs.Labels.{IsWithin}
use Rattle.dns_names.specs.Order.{same_name}
use Rattle.dns_data.specs.declared.record.Record.{Record}
use Rattle.dns_data.specs.declared.record_type.RecordType.{RecordType}
use Rattle.dns_data.specs.declared.record_type.RecordType.TheVariants as types
use Rattle.dns_data.specs.declared.rdata.Data.{Data}
use Rattle.dns_data.specs.Rdata.{type_of, IsRecord, IsRdata}
use Rattle.dns_data.specs.Text.{data_text}
use Rattle.dns_data.proofs.ApartLaws.{one_text}
use Rattle.dns_data.proofs.RecordOrderLemmas.{one_rank}
use Rattle.zone_core.specs.declared.update.Operation.{Operation}
use Rattle.zone_core.specs.declared.update.Operation.TheVariants.{Add, DeleteRrset, DeleteName, DeleteRecord}
use Rattle.zone_core.specs.Serials.{IsLess}
use Rattle.zone_core.specs.Sets.{Records, Key, key_of, rank_of, same_key, IsIn, cut, has, at_name, at, put, with_ttl}
use Rattle.zone_core.specs.Zones.{is_soa, is_cname, serial_in, soa_at}
use Rattle.zone_core.specs.Updates.{IsOperation, acted_name}
use Rattle.zone_core.specs.Effects.{is_other_type, takes_over, add_soa, add_cname, add_other, is_misplaced, add, is_guarded, delete_rrset, goes, delete_name, key_at, is_other_ns, stays, delete_record, effect, effects}
use Rattle.zone_core.specs.Accounts.{Stands, IsIgnored, IsIgnoredAs, IsKept, Takes, TakesTtl, Puts, IsLeft}
use Rattle.zone_core.proofs.SetLemmas.{name_is, name_self, key_is, key_self, get-put, found_by_put, kept_by_put, kept_by_cut, none_there, some_is, some_found, has_nothing}
use Rattle.zone_core.proofs.EffectLemmas.{retag, get-with_ttl, untouched}
use Rattle.zone_core.proofs.ZoneLemmas.{Keys, found_uncut, found_given, at_has, at_is, kind, both_true, no, is_kind, soa_is, none_found, effect_heir}
use Rattle.zone_core.proofs.VersionLemmas.{is_less-Decides}

-- ---- keys of records

key_parts : (r x : Record) → key_of r ≡ key_of x → (r.owner ≡ x.owner) × (type_of r.rdata ≡ type_of x.rdata) × (data_text r.rdata ≡ data_text x.rdata)
key_parts r x e = (ap (λ (q : Key). q.0) e, one_rank (type_of r.rdata) (type_of x.rdata) (ap (λ (q : Key). q.1) e), ap (λ (q : Key). q.2) e)

key_rdata : (r x : Record) → IsRdata r.rdata → IsRdata x.rdata → key_of r ≡ key_of x → r.rdata ≡ x.rdata
key_rdata r x is also e = let parts = key_parts r x e in one_text r.rdata x.rdata is also parts.1 parts.2

same_at : (name : List (List ℕ)) (t : RecordType) (r : Record) → at name t (key_of r) ≡ true → (r.owner ≡ name) × (type_of r.rdata ≡ t)
same_at name t r e = let both = at_is name t (key_of r) e in (both.0, one_rank (type_of r.rdata) t both.1)

at_same : (name : List (List ℕ)) (t : RecordType) (r : Record) → r.owner ≡ name → type_of r.rdata ≡ t → at name t (key_of r) ≡ true
at_same name t r e f = at_has name t (key_of r) e (ap rank_of f)

-- ---- what is left where records are cut out, and one is put in

put_found : (set : Records) (x r : Record) → IsIn r (put set x) → (r ≡ x) ⊎ ((key_of r ≢ key_of x) × IsIn r set)
put_found set x r e = by_test (same_key (key_of r) (key_of x)) refl (sym (get-put set x (key_of r)) ∙ e)
  where
    by_test : (b : Bool) → same_key (key_of r) (key_of x) ≡ b → cond b (Some x) (get set (key_of r)) ≡ Some r → (r ≡ x) ⊎ ((key_of r ≢ key_of x) × IsIn r set)
    by_test true t f = let g : Some r ≡ Some x = sym f in inl cc
    by_test false t f = inr ((λ same. no (same_key (key_of r) (key_of x)) (ap (λ q. same_key q (key_of x)) same ∙ key_self (key_of x)) t), f)

module _ (set : Records) (p : Key → Bool) where
  cut_left : (r : Record) → IsIn r (cut set p) ↔ (IsIn r set × (p (key_of r) ≡ false))
  cut_left r = (
    λ here. let both = found_uncut set p (key_of r) r here in (both.1, both.0),
    λ both. kept_by_cut set p (key_of r) both.1 ∙ both.0,
  )

  -- a record that is put in the place of those of its set
  module _ (x : Record) (Gone : Record → Type 0) (own : Gone x) (goes_by : (r : Record) → IsIn r set → (p (key_of r) ≡ true) ↔ Gone r) (by_key : (r : Record) → key_of r ≡ key_of x → Gone r) where
    put_left : (r : Record) → IsIn r (put (cut set p) x) ↔ ((r ≡ x) ⊎ (IsIn r set × ¬ Gone r))
    put_left r = (
      λ here. (elim (put_found (cut set p) x r here) [
        | inl same ↦ inl same
        | inr old ↦ (let both = (cut_left r).0 old.1 in inr (both.0, λ gone. no (p (key_of r)) ((goes_by r both.0).1 gone) both.1))
      ]),
      λ left. (elim left [
        | inl same ↦ subst (λ (y : Record). IsIn y (put (cut set p) x)) (sym same) (found_by_put (cut set p) x)
        | inr both ↦
            kept_by_put (cut set p) x (key_of r) (λ e. both.1 (by_key r e))
            ∙ (cut_left r).1 (both.0, false_from_ne_true (p (key_of r)) (λ t. both.1 ((goes_by r both.0).0 t)))
      ]),
    )

-- ---- additions

module _ (origin : List (List ℕ)) (set : Records) (z : Keys origin set) (x : Record) (is : IsRecord x) where
  abbrev Same : Record → Type 0
  Same r = (r.owner ≡ x.owner) × (type_of r.rdata ≡ type_of x.rdata)

  abbrev Left : Records → Type 0
  Left after = (r : Record) → IsIn r after ↔ (Puts origin set (Add x) r ⊎ (IsIn r set × ¬ Takes origin set (Add x) r))

  -- where it is ignored, all stays
  left_alone : IsIgnored origin set x → Left set
  left_alone ignored r = (
    λ here. inr (here, λ takes. takes.0 ignored),
    λ left. (elim left [ inl put ↦ absurd (put.0 ignored) | inr both ↦ both.0 ]),
  )

  -- where it takes the place of its set
  left_put : ¬ IsIgnored origin set x → (type_of x.rdata ≡ types.Soa) ⊎ (type_of x.rdata ≡ types.Cname) → (p : Key → Bool) → ((r : Record) → IsIn r set → (p (key_of r) ≡ true) ↔ Same r) → Left (put (cut set p) x)
  left_put taken alone p goes_by r =
      let whole = put_left set p x Same (refl, refl) goes_by (λ s e. let parts = key_parts s x e in (parts.0, parts.1)) r in (
        λ here. (elim (whole.0 here) [ inl same ↦ inl (taken, inl same) | inr both ↦ inr (both.0, λ takes. both.1 (takes.1, takes.2)) ]),
        λ left. whole.1 (elim left [
          | inl put ↦ (elim (put.1) [
            | inl same ↦ inl same
            | inr ttl ↦ absurd (elim alone [ inl soa ↦ ttl.0 soa | inr cname ↦ ttl.1 cname ])
          ])
          | inr both ↦ inr (both.0, λ same. both.1 (taken, same.0, same.1))
        ]),
      )

  left_soa : type_of x.rdata ≡ types.Soa → Left (add_soa set x)
  left_soa type = by_test (takes_over x (soa_at x.owner set)) refl
    where
      -- the SOA at the record's name, if there is one
      one_old : (old : Record) → Stands set x.owner types.Soa old → soa_at x.owner set ≡ Some old
      one_old old stands =
          let key = z.soa_alone (key_of old) (old, stands.0) (ap rank_of stands.2) in
          let home : x.owner ≡ origin = sym stands.1 ∙ ap (λ (q : Key). q.0) key ∙ z.soa_origin in
          ap (λ n. soa_at n set) home ∙ soa_is origin set z ∙ sym z.soa_there.1 ∙ ap (get set) (sym key) ∙ stands.0

      ignored : takes_over x (soa_at x.owner set) ≡ false → IsIgnoredAs types.Soa origin set x
      ignored e old stands less =
          no (takes_over x (soa_at x.owner set)) (ap (takes_over x) (one_old old stands) ∙ (is_less-Decides (serial_in old) (serial_in x)).1 less) e

      older : takes_over x (soa_at x.owner set) ≡ true → (old : Record) × Stands set x.owner types.Soa old × IsLess (serial_in old) (serial_in x)
      older e =
          let some : has set (at x.owner types.Soa) ≡ true = true_from_ne_false (has set (at x.owner types.Soa)) (λ none. no (takes_over x (soa_at x.owner set)) e (ap (takes_over x) (none_found set (at x.owner types.Soa) none))) in
          let found = some_found set (at x.owner types.Soa) some in
          let key = (z.rows.kept found.0 found.1 found.3).0 in
          let here : IsIn found.1 set = ap (get set) key ∙ found.3 in
          let where_is = same_at x.owner types.Soa found.1 (ap (at x.owner types.Soa) key ∙ found.2) in
          let stands : Stands set x.owner types.Soa found.1 = (here, where_is.0, where_is.1) in
          (found.1, stands, (is_less-Decides (serial_in found.1) (serial_in x)).0 (sym (ap (takes_over x) (one_old found.1 stands)) ∙ e))

      by_test : (b : Bool) → takes_over x (soa_at x.owner set) ≡ b → Left (if b then put (cut set (at x.owner types.Soa)) x else set)
      by_test true e =
          let old = older e in
          let taken : ¬ IsIgnored origin set x = λ i. subst (λ t. IsIgnoredAs t origin set x) type i old.0 old.1 old.2 in
          left_put taken (inl type) (at x.owner types.Soa)
          (λ r here. (λ t. let both = same_at x.owner types.Soa r t in (both.0, both.1 ∙ sym type), λ same. at_same x.owner types.Soa r same.0 (same.1 ∙ type)))
      by_test false e = left_alone (subst (λ t. IsIgnoredAs t origin set x) (sym type) (ignored e))

  left_cname : type_of x.rdata ≡ types.Cname → Left (add_cname set x)
  left_cname type = by_test (has set (is_other_type x.owner)) refl
    where
      other : has set (is_other_type x.owner) ≡ true → IsIgnoredAs types.Cname origin set x
      other e =
          let found = some_found set (is_other_type x.owner) e in
          let both = and_parts (at_name x.owner found.0) (not (is_cname found.0)) found.2 in
          let key = (z.rows.kept found.0 found.1 found.3).0 in
          (found.1, ap (get set) key ∙ found.3, ap (λ (q : Key). q.0) key ∙ name_is found.0.0 x.owner both.0, λ t. no (not (is_cname found.0)) both.1 (ap not (kind found.0 types.Cname (ap (λ (q : Key). q.1) (sym key) ∙ ap rank_of t))))

      -- all that stands at the name is a CNAME
      all_cnames : has set (is_other_type x.owner) ≡ false → (r : Record) → IsIn r set → r.owner ≡ x.owner → type_of r.rdata ≡ types.Cname
      all_cnames none r here name =
          is_kind r types.Cname (true_from_ne_false (is_cname (key_of r)) (λ off.
          some_is set (key_of r) r here (none_there set (is_other_type x.owner) (key_of r) none (both_true (at_name x.owner (key_of r)) (not (is_cname (key_of r))) (rw name (name_self x.owner)) (ap not off)))))

      by_test : (b : Bool) → has set (is_other_type x.owner) ≡ b → Left (if b then set else put (cut set (at_name x.owner)) x)
      by_test true e = left_alone (subst (λ t. IsIgnoredAs t origin set x) (sym type) (other e))
      by_test false e =
          let taken : ¬ IsIgnored origin set x = λ i.
          let beside = subst (λ t. IsIgnoredAs t origin set x) type i in
          beside.3 (all_cnames e beside.0 beside.1 beside.2) in
          left_put taken (inr type) (at_name x.owner)
          (λ r here. (λ t. let name = name_is r.owner x.owner t in (name, all_cnames e r here name ∙ sym type), λ same. rw (same.0) (name_self x.owner)))

  -- a record of another type
  left_other : type_of x.rdata ≢ types.Soa → type_of x.rdata ≢ types.Cname → is_misplaced origin x ≡ false → Left (add_other set x)
  left_other not_soa not_cname placed = by_test (has set (at x.owner types.Cname)) refl
    where
      q : Key → Bool
      q = at x.owner (type_of x.rdata)

      Ordinary : Type 0
      Ordinary = ((s : Record) × Stands set x.owner types.Cname s) ⊎ ((type_of x.rdata ≡ types.Ds) × (x.owner ≡ origin))

      -- being ignored, for such a type
      ignored_is : (t : RecordType) → t ≢ types.Soa → t ≢ types.Cname → (IsIgnoredAs t origin set x ≡ (((s : Record) × Stands set x.owner types.Cname s) ⊎ ((t ≡ types.Ds) × (x.owner ≡ origin))))
      ignored_is types.Soa a b = absurd (a refl)
      ignored_is types.Cname a b = absurd (b refl)
      ignored_is t a b = refl

      base : Records
      base = with_ttl set q x.ttl

      taken_ttl : ¬ IsIgnored origin set x → Left (put (with_ttl set (at x.owner (type_of x.rdata)) x.ttl) x)
      taken_ttl taken r = (
        λ here. (elim (put_found (with_ttl set (at x.owner (type_of x.rdata)) x.ttl) x r here) [
          | inl same ↦ inl (taken, inl same)
          | inr old ↦ by_set (at x.owner (type_of x.rdata) (key_of r)) refl old.0 (found_given set (at x.owner (type_of x.rdata)) x.ttl (key_of r) r old.1)
        ]),
        λ left. (elim left [
          | inl put_it ↦ (elim (put_it.1) [
            | inl same ↦ subst (λ (y : Record). IsIn y (put (with_ttl set (at x.owner (type_of x.rdata)) x.ttl) x)) (sym same) (found_by_put (with_ttl set (at x.owner (type_of x.rdata)) x.ttl) x)
            | inr ttl ↦ given_ttl ttl
          ])
          | inr both ↦ stayed both
        ]),
      )
        where
          by_set : (b : Bool) → at x.owner (type_of x.rdata) (key_of r) ≡ b → key_of r ≢ key_of x → (s : Record) × (get set (key_of r) ≡ Some s) × (retag (at x.owner (type_of x.rdata)) x.ttl (key_of r) s ≡ r) → Puts origin set (Add x) r ⊎ (IsIn r set × ¬ Takes origin set (Add x) r)
          by_set true e apart found =
              let s = found.0 in
              let key = (z.rows.kept (key_of r) s found.1).0 in
              let both = same_at x.owner (type_of x.rdata) s (ap (at x.owner (type_of x.rdata)) key ∙ e) in
              let here : IsIn s set = ap (get set) key ∙ found.1 in
              let ttl : r ≡ record s { ttl = x.ttl } = sym found.2 ∙ ap (λ b. record s { ttl = if b then x.ttl else s.ttl }) e in
              inl (taken, inr (not_soa, not_cname, (s, (here, both.0, both.1), (λ same. apart (sym key ∙ λ i. (both.0 i, rank_of (type_of (same i)), data_text (same i)))), ttl)))
          by_set false e apart found =
              let s = found.0 in
              let same : s ≡ r = sym (ap (λ b. record s { ttl = if b then x.ttl else s.ttl }) e) ∙ found.2 in
              inr (found.1 ∙ ap (λ (y : Record). Some y) same, λ takes. no (at x.owner (type_of x.rdata) (key_of r)) (at_same x.owner (type_of x.rdata) r takes.1 takes.2) e)

          given_ttl : TakesTtl set x r → IsIn r (put (with_ttl set (at x.owner (type_of x.rdata)) x.ttl) x)
          given_ttl ttl =
              let s = ttl.2.0 in
              let stands = ttl.2.1 in
              let key : key_of r ≡ key_of s = ap key_of ttl.2.3 in
              let apart : key_of r ≢ key_of x = λ e. ttl.2.2 (key_rdata s x (z.rows.kept (key_of s) s stands.0).1.rdata is.rdata (sym key ∙ e)) in
              let in_set : at x.owner (type_of x.rdata) (key_of r) ≡ true = ap (at x.owner (type_of x.rdata)) key ∙ at_same x.owner (type_of x.rdata) s stands.1 stands.2 in
              kept_by_put (with_ttl set (at x.owner (type_of x.rdata)) x.ttl) x (key_of r) apart
              ∙ get-with_ttl set (at x.owner (type_of x.rdata)) x.ttl (key_of r)
              ∙ ap (option_map (retag (at x.owner (type_of x.rdata)) x.ttl (key_of r))) (ap (get set) key ∙ stands.0)
              ∙ ap (λ b. Some (record s { ttl = if b then x.ttl else s.ttl })) in_set ∙ ap (λ (y : Record). Some y) (sym ttl.2.3)

          stayed : IsIn r set × ¬ Takes origin set (Add x) r → IsIn r (put (with_ttl set (at x.owner (type_of x.rdata)) x.ttl) x)
          stayed both =
              let apart : key_of r ≢ key_of x = λ e. let parts = key_parts r x e in both.1 (taken, parts.0, parts.1) in
              let off : at x.owner (type_of x.rdata) (key_of r) ≡ false = false_from_ne_true (at x.owner (type_of x.rdata) (key_of r)) (λ t. let same = same_at x.owner (type_of x.rdata) r t in both.1 (taken, same.0, same.1)) in
              kept_by_put (with_ttl set (at x.owner (type_of x.rdata)) x.ttl) x (key_of r) apart
              ∙ get-with_ttl set (at x.owner (type_of x.rdata)) x.ttl (key_of r) ∙ untouched (at x.owner (type_of x.rdata)) x.ttl (key_of r) (get set (key_of r)) off ∙ both.0

      cname_there : has set (at x.owner types.Cname) ≡ true → (s : Record) × Stands set x.owner types.Cname s
      cname_there e =
          let found = some_found set (at x.owner types.Cname) e in
          let key = (z.rows.kept found.0 found.1 found.3).0 in
          let both = same_at x.owner types.Cname found.1 (ap (at x.owner types.Cname) key ∙ found.2) in
          (found.1, (ap (get set) key ∙ found.3, both.0, both.1))

      by_test : (b : Bool) → has set (at x.owner types.Cname) ≡ b → Left (if b then set else put (with_ttl set (at x.owner (type_of x.rdata)) x.ttl) x)
      by_test true e = left_alone (subst (λ (T : Type 0). T) (sym (ignored_is (type_of x.rdata) not_soa not_cname)) (inl (cname_there e)))
      by_test false e =
          taken_ttl (λ i. (elim (subst (λ (T : Type 0). T) (ignored_is (type_of x.rdata) not_soa not_cname) i) [
            | inl beside ↦ some_is set (key_of beside.0) beside.0 beside.1.0 (none_there set (at x.owner types.Cname) (key_of beside.0) e (at_same x.owner types.Cname beside.0 beside.1.1 beside.1.2))
            | inr misplaced ↦ no (is_misplaced origin x) (both_true (same_name x.owner origin) (rank_of (type_of x.rdata) == rank_of types.Ds) (rw (misplaced.1) (name_self origin)) (kind (key_of x) types.Ds (ap rank_of misplaced.0))) placed
          ]))

  left_misplaced : type_of x.rdata ≢ types.Soa → type_of x.rdata ≢ types.Cname → is_misplaced origin x ≡ true → Left set
  left_misplaced not_soa not_cname e =
      let both = and_parts (same_name x.owner origin) (rank_of (type_of x.rdata) == rank_of types.Ds) e in
      left_alone (misplaced (type_of x.rdata) (is_kind x types.Ds both.1) (name_is x.owner origin both.0))
    where
      misplaced : (t : RecordType) → t ≡ types.Ds → x.owner ≡ origin → IsIgnoredAs t origin set x
      misplaced types.Ds f g = inr (refl, g)
      misplaced t f g = absurd cc

  left_add : Left (add origin set x)
  left_add = by_soa (is_soa (key_of x)) refl
    where
      by_place : type_of x.rdata ≢ types.Soa → type_of x.rdata ≢ types.Cname → (b : Bool) → is_misplaced origin x ≡ b → Left (if b then set else add_other set x)
      by_place not_soa not_cname true e = left_misplaced not_soa not_cname e
      by_place not_soa not_cname false e = left_other not_soa not_cname e

      by_cname : type_of x.rdata ≢ types.Soa → (b : Bool) → is_cname (key_of x) ≡ b → Left (if b then add_cname set x else (if is_misplaced origin x then set else add_other set x))
      by_cname not_soa true e = left_cname (is_kind x types.Cname e)
      by_cname not_soa false e = by_place not_soa (λ t. no (is_cname (key_of x)) (kind (key_of x) types.Cname (ap rank_of t)) e) (is_misplaced origin x) refl

      by_soa : (b : Bool) → is_soa (key_of x) ≡ b → Left (if b then add_soa set x else (if is_cname (key_of x) then add_cname set x else (if is_misplaced origin x then set else add_other set x)))
      by_soa true e = left_soa (is_kind x types.Soa e)
      by_soa false e = by_cname (λ t. no (is_soa (key_of x)) (kind (key_of x) types.Soa (ap rank_of t)) e) (is_cname (key_of x)) refl

-- ---- deletions

or_is : (a b : Bool) → (a || b) ≡ true → (a ≡ true) ⊎ (b ≡ true)
or_is true b e = inl refl
or_is false b e = inr e

first_or : (a b : Bool) → a ≡ true → (a || b) ≡ true
first_or true b e = refl
first_or false b e = absurd cc

second_or : (a b : Bool) → b ≡ true → (a || b) ≡ true
second_or true b e = refl
second_or false b e = e

rank_is : (t u : RecordType) → (rank_of t == rank_of u) ≡ true → t ≡ u
rank_is t u e = one_rank t u (eqb-true (rank_of t) (rank_of u) e)

is_rank : (t u : RecordType) → t ≡ u → (rank_of t == rank_of u) ≡ true
is_rank t u e = kind ([], rank_of t, []) u (ap rank_of e)

guarded_is : (t : RecordType) → is_guarded (rank_of t) ≡ true → IsKept t
guarded_is t e = (elim (or_is (rank_of t == rank_of types.Soa) (rank_of t == rank_of types.Ns) e) [ inl soa ↦ inl (rank_is t types.Soa soa) | inr ns ↦ inr (rank_is t types.Ns ns) ])

is_guarded_of : (t : RecordType) → IsKept t → is_guarded (rank_of t) ≡ true
is_guarded_of t kept =
    (elim kept [
      | inl soa ↦ first_or (rank_of t == rank_of types.Soa) (rank_of t == rank_of types.Ns) (is_rank t types.Soa soa)
      | inr ns ↦ second_or (rank_of t == rank_of types.Soa) (rank_of t == rank_of types.Ns) (is_rank t types.Ns ns)
    ])

-- what an operation leaves
abbrev pub LeftBy : List (List ℕ) → Records → Operation → Records → Type 0
LeftBy origin set op after = (r : Record) → IsIn r after ↔ (Puts origin set op r ⊎ (IsIn r set × ¬ Takes origin set op r))

abbrev PutsNone : List (List ℕ) → Records → Operation → Type 0
PutsNone origin set op = (r : Record) → Puts origin set op r → ⊥

-- where it takes nothing, all stays
left_all : (origin : List (List ℕ)) (set : Records) (op : Operation) → PutsNone origin set op → ((r : Record) → IsIn r set → Takes origin set op r → ⊥) → LeftBy origin set op set
left_all origin set op none takes r = (
  λ here. inr (here, takes r here),
  λ left. (elim left [ inl put_it ↦ absurd (none r put_it) | inr both ↦ both.0 ]),
)

left_cut : (origin : List (List ℕ)) (set : Records) (op : Operation) (p : Key → Bool) → PutsNone origin set op → ((r : Record) → IsIn r set → (p (key_of r) ≡ true) ↔ Takes origin set op r) → LeftBy origin set op (cut set p)
left_cut origin set op p none takes r = (
  λ here. let both = (cut_left set p r).0 here in inr (both.0, λ t. no (p (key_of r)) ((takes r both.0).1 t) both.1),
  λ left. (elim left [
    | inl put_it ↦ absurd (none r put_it)
    | inr both ↦ (cut_left set p r).1 (both.0, false_from_ne_true (p (key_of r)) (λ t. both.1 ((takes r both.0).0 t)))
  ]),
)

not_is : (b : Bool) → not b ≡ true → b ≡ false
not_is true e = absurd cc
not_is false e = refl

module _ (origin : List (List ℕ)) (set : Records) (z : Keys origin set) where
  left_rrset : (name : List (List ℕ)) (t : RecordType) → LeftBy origin set (DeleteRrset name t) (delete_rrset origin set name t)
  left_rrset name t = by_test (same_name name origin && is_guarded (rank_of t)) refl
    where
      by_test : (b : Bool) → (same_name name origin && is_guarded (rank_of t)) ≡ b → LeftBy origin set (DeleteRrset name t) (if b then set else cut set (at name t))
      by_test true e =
          let both = and_parts (same_name name origin) (is_guarded (rank_of t)) e in
          left_all origin set (DeleteRrset name t) (λ r put_it. put_it) (λ r here takes. takes.2 (name_is name origin both.0, guarded_is t both.1))
      by_test false e =
          left_cut origin set (DeleteRrset name t) (at name t) (λ r put_it. put_it)
          (λ r here. (
            λ p. let both = same_at name t r p in (both.0, both.1, λ kept. no (same_name name origin && is_guarded (rank_of t)) (both_true (same_name name origin) (is_guarded (rank_of t)) (rw (kept.0) (name_self origin)) (is_guarded_of t kept.1)) e),
            λ takes. at_same name t r takes.0 takes.1,
          ))

  left_name : (name : List (List ℕ)) → LeftBy origin set (DeleteName name) (delete_name origin set name)
  left_name name =
      left_cut origin set (DeleteName name) (goes origin name) (λ r put_it. put_it)
      (λ r here. (
        λ p. let both = and_parts (at_name name (key_of r)) (not (same_name name origin && is_guarded (key_of r).1)) p in
            (name_is r.owner name both.0, λ kept. no (same_name name origin && is_guarded (key_of r).1) (both_true (same_name name origin) (is_guarded (key_of r).1) (rw (kept.0) (name_self origin)) (is_guarded_of (type_of r.rdata) kept.1)) (not_is (same_name name origin && is_guarded (key_of r).1) both.1)),
        λ takes. both_true (at_name name (key_of r)) (not (same_name name origin && is_guarded (key_of r).1)) (rw (takes.0) (name_self name)) (ap not (false_from_ne_true (same_name name origin && is_guarded (key_of r).1) (λ t. let both = and_parts (same_name name origin) (is_guarded (key_of r).1) t in takes.1 (name_is name origin both.0, guarded_is (type_of r.rdata) both.1)))),
      ))

  module _ (name : List (List ℕ)) (rdata : Data) (is : IsRdata rdata) where
    abbrev key : Key
    key = key_at name rdata

    -- a record under the key has the data, and the other way round
    under_key : (r : Record) → IsIn r set → key ≡ key_of r → (r.owner ≡ name) × (r.rdata ≡ rdata)
    under_key r here e =
        (ap (λ (q : Key). q.0) (sym e), one_text r.rdata rdata (z.rows.kept (key_of r) r here).1.rdata is (one_rank (type_of r.rdata) (type_of rdata) (ap (λ (q : Key). q.1) (sym e))) (ap (λ (q : Key). q.2) (sym e)))

    key_under : (r : Record) → r.owner ≡ name → r.rdata ≡ rdata → key ≡ key_of r
    key_under r e f = λ i. (sym e i, rank_of (type_of (sym f i)), data_text (sym f i))

    OnlyNs : Type 0
    OnlyNs = (other : Record) → Stands set name types.Ns other → other.rdata ≡ rdata

    only_ns : has set (is_other_ns key) ≡ false → (other : Record) → Stands set name types.Ns other → other.rdata ≡ rdata
    only_ns none other stands = by_test (same_key key (key_of other)) refl
      where
        by_test : (b : Bool) → same_key key (key_of other) ≡ b → other.rdata ≡ rdata
        by_test true e = (under_key other stands.0 (key_is key (key_of other) e)).1
        by_test false e =
            absurd (some_is set (key_of other) other stands.0
            (none_there set (is_other_ns key) (key_of other) none (both_true (at name types.Ns (key_of other)) (not (same_key key (key_of other))) (at_same name types.Ns other stands.1 stands.2) (ap not e))))

    no_other : ((other : Record) → Stands set name types.Ns other → other.rdata ≡ rdata) → has set (is_other_ns key) ≡ false
    no_other only = has_nothing set (is_other_ns key) (λ k e. by_option k e (get set k) refl)
      where
        by_option : (k : Key) → is_other_ns key k ≡ true → (o : Option Record) → get set k ≡ o → o ≡ None
        by_option k e None f = refl
        by_option k e (Some s) f =
            let both = and_parts (at name types.Ns k) (not (same_key key k)) e in
            let own = (z.rows.kept k s f).0 in
            let where_is = same_at name types.Ns s (ap (at name types.Ns) own ∙ both.0) in
            let same : key ≡ k = key_under s where_is.0 (only s (ap (get set) own ∙ f, where_is.0, where_is.1)) ∙ own in
            absurd (no (same_key key k) (ap (λ q. same_key q k) same ∙ key_self k) (not_is (same_key key k) both.1))

    -- what keeps a record
    abbrev Holds : Type 0
    Holds = (name ≡ origin) × ((type_of rdata ≡ types.Soa) ⊎ ((type_of rdata ≡ types.Ns) × ((other : Record) → Stands set name types.Ns other → other.rdata ≡ rdata)))

    stays_is : stays origin set key ≡ true → Holds
    stays_is e =
        let both = and_parts (same_name name origin) _ e in (
          name_is name origin both.0,
          elim (or_is (rank_of (type_of rdata) == rank_of types.Soa) _ both.1) [
            | inl soa ↦ inl (rank_is (type_of rdata) types.Soa soa)
            | inr ns ↦ (let parts = and_parts (rank_of (type_of rdata) == rank_of types.Ns) (not (has set (is_other_ns key))) ns in inr (rank_is (type_of rdata) types.Ns parts.0, only_ns (not_is (has set (is_other_ns key)) parts.1)))
          ],
        )

    is_stays : Holds → stays origin set key ≡ true
    is_stays holds =
        both_true (same_name name origin) _ (rw (holds.0) (name_self origin))
        (elim (holds.1) [
          | inl soa ↦ first_or (rank_of (type_of rdata) == rank_of types.Soa) _ (is_rank (type_of rdata) types.Soa soa)
          | inr ns ↦ second_or (rank_of (type_of rdata) == rank_of types.Soa) _ (both_true (rank_of (type_of rdata) == rank_of types.Ns) (not (has set (is_other_ns key))) (is_rank (type_of rdata) types.Ns ns.0) (ap not (no_other ns.1)))
        ])

    left_record : LeftBy origin set (DeleteRecord name rdata) (delete_record origin set key)
    left_record = by_test (stays origin set key) refl
      where
        by_test : (b : Bool) → stays origin set key ≡ b → LeftBy origin set (DeleteRecord name rdata) (if b then set else cut set (same_key key))
        by_test true e = left_all origin set (DeleteRecord name rdata) (λ r put_it. put_it) (λ r here takes. takes.2 (stays_is e))
        by_test false e =
            left_cut origin set (DeleteRecord name rdata) (same_key key) (λ r put_it. put_it)
            (λ r here. (
              λ p. let both = under_key r here (key_is key (key_of r) p) in (both.0, both.1, λ holds. no (stays origin set key) (is_stays holds) e),
              λ takes. ap (λ q. same_key q (key_of r)) (key_under r takes.0 takes.1) ∙ key_self (key_of r),
            ))

  -- what an operation leaves
  pub left_effect : (op : Operation) → IsOperation op → LeftBy origin set op (effect origin set op)
  left_effect (Add x) is = left_add origin set z x is
  left_effect (DeleteRrset name t) is = left_rrset name t
  left_effect (DeleteName name) is = left_name name
  left_effect (DeleteRecord name rdata) is = left_record name rdata is.1

-- ---- operations in turn

pub left_effects : (origin : List (List ℕ)) (set : Records) → Keys origin set → (ops : List Operation) → AllByRecursion IsOperation ops → AllByRecursion (λ op. IsWithin (acted_name op) origin) ops → (r : Record) → IsIn r (effects origin set ops) ↔ IsLeft origin set ops r
left_effects origin set z [] all inside r = (λ here. inr (here, tt), λ left. (elim left [ inl put_it ↦ absurd put_it | inr both ↦ both.0 ]))
left_effects origin set z (op ∷ ops) all inside r =
    let one = left_effect origin set z op all.0 r in
    let rest = left_effects origin (effect origin set op) (effect_heir origin set z op all.0 inside.0).0 ops all.1 inside.1 r in (
      λ here. (elim (rest.0 here) [
        | inl later ↦ inl (inr later)
        | inr both ↦ (elim (one.0 both.0) [ inl put_it ↦ inl (inl (put_it, both.1)) | inr old ↦ inr (old.0, (old.1, both.1)) ])
      ]),
      λ left. rest.1 (elim left [
        | inl some ↦ (elim some [ inl now ↦ inr (one.1 (inl now.0), now.1) | inr later ↦ inl later ])
        | inr old ↦ inr (one.1 (inr (old.0, old.1.0)), old.1.1)
      ]),
    )
