-- The verdict is that all prerequisites hold exactly where all are met.
use Rattle.std.proofs.Common.{◌≡◌, ◌↔◌, ◌⊎◌, ℕ, zero, suc, List, [], ◌∷◌, ◌++◌, map, Bool, true, false, cond, ◌&&◌, ◌||◌, ◌==◌, if◌then◌else◌, Option, Some, None, Result, Ok, Err, inl, inr, refl, sym, ap, subst, ◌∙◌, arith}
use Rattle.std.specs.List.{AllByRecursion, Contains, list_any, list_all, flat_map, filter}
use Rattle.std.specs.Option.{option_or, option_map}
use Rattle.std.specs.Ordering.{is_eq}
use Rattle.std.specs.FinMap.{get, find}
use Rattle.std.proofs.lemmas.Bool.{and_parts, eqb-true, false_from_ne_true}
use Rattle.dns_names.specs.Order.{same_name}
use Rattle.dns_data.specs.declared.record.Record.{Record}
use Rattle.dns_data.specs.declared.record_type.RecordType.{RecordType}
use Rattle.dns_data.specs.declared.rdata.Data.{Data}
use Rattle.dns_data.specs.Rdata.{type_of, IsRdata}
use Rattle.dns_data.specs.RecordOrder.{data_order}
use Rattle.dns_data.proofs.RecordOrderLemmas.{one_rank, data_answers}
use Rattle.zone_core.specs.declared.prerequisite_code.PrerequisiteCode.{PrerequisiteCode}
use Rattle.zone_core.specs.declared.prerequisite_code.PrerequisiteCode.TheVariants.{NxDomain, YxDomain, NxRrset, YxRrset}
use Rattle.zone_core.specs.declared.verdict.Failed.{Failed}
use Rattle.zone_core.specs.declared.update.Prerequisite.{Prerequisite}
use Rattle.zone_core.specs.declared.update.Prerequisite.TheVariants.{RrsetExists, RrsetEquals, RrsetAbsent, NameUsed, NameUnused}
use Rattle.zone_core.specs.Sets.{Records, Key, key_of, key_cmp, rank_of, keyed, set_of, part, has, at_name, at, IsIn, InOrder}
use Rattle.zone_core.specs.Zones.{AreKept}
use Rattle.zone_core.specs.Updates.{IsPrerequisite}
use Rattle.zone_core.specs.Prerequisites.{fails, same_data, given_for, all_among, data_in, are_data, set_fails, first_failed, failed, verdict, failure}
use Rattle.zone_core.specs.Accounts.{Stands}
use Rattle.zone_core.specs.Met.{HasData, IsMet, AreMet}
use Rattle.zone_core.proofs.SetLemmas.{name_is, name_self, is_tied, has_found, some_found}
use Rattle.zone_core.proofs.RowLemmas.{get-set_of, each_in, listing-part, choice}
use Rattle.zone_core.proofs.ZoneLemmas.{at_has, at_is, kind, no, both_true}

-- ---- elements of lists

abbrev pub Among : {X : Type 0} → X → List X → Type 0
Among x [] = ⊥
Among x (y ∷ ys) = (x ≡ y) ⊎ Among x ys

pub among_of : {X : Type 0} (xs : List X) (x : X) → Contains xs x → Among x xs
among_of [] x c = absurd (omega (arith, c.1))
among_of (y ∷ ys) x (zero, lt, e) = inl (sym e)
among_of (y ∷ ys) x (suc k, lt, e) = inr (among_of ys x (k, omega (arith, lt), e))

pub of_among : {X : Type 0} (xs : List X) (x : X) → Among x xs → Contains xs x
of_among [] x a = absurd a
of_among {X} (y ∷ ys) x a = (elim a [ inl e ↦ first e | inr later ↦ more (of_among ys x later) ])
  where
    first : x ≡ y → Contains (y ∷ ys) x
    first e = (0, omega arith, sym e)

    more : Contains ys x → Contains (y ∷ ys) x
    more c = (suc c.0, omega (arith, c.1), c.2)

among_all : {X : Type 0} (P : X → Type 0) (xs : List X) (x : X) → AllByRecursion P xs → Among x xs → P x
among_all P [] x all a = absurd a
among_all P (y ∷ ys) x all a = (elim a [ inl e ↦ subst P (sym e) all.0 | inr later ↦ among_all P ys x all.1 later ])

or_is : (a b : Bool) → (a || b) ≡ true → (a ≡ true) ⊎ (b ≡ true)
or_is true b e = inl refl
or_is false b e = inr e

pub any_is : {X : Type 0} (p : X → Bool) (xs : List X) → list_any p xs ≡ true → (x : X) × Among x xs × (p x ≡ true)
any_is p [] e = absurd cc
any_is p (y ∷ ys) e =
    (elim (or_is (p y) (list_any p ys) e) [ inl here ↦ (y, inl refl, here) | inr later ↦ (let found = any_is p ys later in (found.0, inr found.1, found.2)) ])

pub is_any : {X : Type 0} (p : X → Bool) (xs : List X) (x : X) → Among x xs → p x ≡ true → list_any p xs ≡ true
is_any p [] x a e = absurd a
is_any p (y ∷ ys) x a e = (elim a [ inl same ↦ first (p y) (list_any p ys) (ap p (sym same) ∙ e) | inr later ↦ second (p y) (list_any p ys) (is_any p ys x later e) ])
  where
    first : (b c : Bool) → b ≡ true → (b || c) ≡ true
    first true c f = refl
    first false c f = absurd cc

    second : (b c : Bool) → c ≡ true → (b || c) ≡ true
    second true c f = refl
    second false c f = f

all_is : {X : Type 0} (p : X → Bool) (xs : List X) → list_all p xs ≡ true → (x : X) → Among x xs → p x ≡ true
all_is p [] e x a = absurd a
all_is p (y ∷ ys) e x a = let both = and_parts (p y) (list_all p ys) e in (elim a [ inl same ↦ ap p same ∙ both.0 | inr later ↦ all_is p ys both.1 x later ])

is_all : {X : Type 0} (p : X → Bool) (xs : List X) → ((x : X) → Among x xs → p x ≡ true) → list_all p xs ≡ true
is_all p [] each = refl
is_all p (y ∷ ys) each = both_true (p y) (list_all p ys) (each y (inl refl)) (is_all p ys (λ x a. each x (inr a)))

pub among_append : {X : Type 0} (xs ys : List X) (x : X) → Among x (xs ++ ys) ↔ (Among x xs ⊎ Among x ys)
among_append [] ys x = (λ a. inr a, λ a. (elim a [ inl none ↦ absurd none | inr b ↦ b ]))
among_append (z ∷ xs) ys x =
    let rest = among_append xs ys x in (
      λ a. (elim a [ inl e ↦ inl (inl e) | inr b ↦ (elim (rest.0 b) [ inl c ↦ inl (inr c) | inr c ↦ inr c ]) ]),
      λ a. (elim a [ inl b ↦ (elim b [ inl e ↦ inl e | inr c ↦ inr (rest.1 (inl c)) ]) | inr c ↦ inr (rest.1 (inr c)) ]),
    )

among_map : {X Y : Type 0} (f : X → Y) (xs : List X) (y : Y) → Among y (map f xs) ↔ ((x : X) × Among x xs × (f x ≡ y))
among_map f [] y = (λ a. absurd a, λ a. absurd a.1)
among_map f (x ∷ xs) y =
    let rest = among_map f xs y in (
      λ a. (elim a [ inl e ↦ (x, inl refl, sym e) | inr b ↦ (let found = rest.0 b in (found.0, inr found.1, found.2)) ]),
      λ a. (elim (a.1) [ inl same ↦ inl (sym a.2 ∙ ap f same) | inr b ↦ inr (rest.1 (a.0, b, a.2)) ]),
    )

-- ---- the data that are given

abbrev GivenBy : List (List ℕ) → RecordType → Data → List Prerequisite → Type 0
GivenBy name t d all = Among (RrsetEquals name d) all × (type_of d ≡ t)

given_one : (name : List (List ℕ)) (t : RecordType) (d : Data) (p : Prerequisite) → Among d (given_for name t p) ↔ ((RrsetEquals name d ≡ p) × (type_of d ≡ t))
given_one name t d (RrsetEquals n rdata) = by_test (same_name n name && (rank_of (type_of rdata) == rank_of t)) refl
  where
    by_test : (b : Bool) → (same_name n name && (rank_of (type_of rdata) == rank_of t)) ≡ b → Among d (if b then rdata ∷ [] else []) ↔ ((RrsetEquals name d ≡ RrsetEquals n rdata) × (type_of d ≡ t))
    by_test true e =
        let both = and_parts (same_name n name) (rank_of (type_of rdata) == rank_of t) e in (
          λ a. (elim a [
            | inl same ↦ ((λ i. RrsetEquals (sym (name_is n name both.0) i) (same i)), ap type_of same ∙ one_rank (type_of rdata) t (eqb-true (rank_of (type_of rdata)) (rank_of t) both.1))
            | inr none ↦ absurd none
          ]),
          λ is. inl (let e : RrsetEquals name d ≡ RrsetEquals n rdata = is.0 in cc),
        )
    by_test false e = (
      λ a. absurd a,
      λ is.
          let f : RrsetEquals name d ≡ RrsetEquals n rdata = is.0 in
          let names : name ≡ n = cc in
          let datas : d ≡ rdata = cc in
          no (same_name n name && (rank_of (type_of rdata) == rank_of t)) (both_true (same_name n name) (rank_of (type_of rdata) == rank_of t) (rw (sym names) (name_self name)) (kind ([], rank_of (type_of rdata), []) t (ap rank_of (ap type_of (sym datas) ∙ is.1)))) e,
    )
given_one name t d (RrsetExists n u) = (λ a. absurd a, λ is. let e : RrsetEquals name d ≡ RrsetExists n u = is.0 in absurd cc)
given_one name t d (RrsetAbsent n u) = (λ a. absurd a, λ is. let e : RrsetEquals name d ≡ RrsetAbsent n u = is.0 in absurd cc)
given_one name t d (NameUsed n) = (λ a. absurd a, λ is. let e : RrsetEquals name d ≡ NameUsed n = is.0 in absurd cc)
given_one name t d (NameUnused n) = (λ a. absurd a, λ is. let e : RrsetEquals name d ≡ NameUnused n = is.0 in absurd cc)

given_all : (name : List (List ℕ)) (t : RecordType) (d : Data) (ps : List Prerequisite) → Among d (flat_map (given_for name t) ps) ↔ GivenBy name t d ps
given_all name t d [] = (λ a. absurd a, λ is. is.0)
given_all name t d (p ∷ ps) =
    let parts = among_append (given_for name t p) (flat_map (given_for name t) ps) d in
    let one = given_one name t d p in
    let rest = given_all name t d ps in (
      λ a. (elim (parts.0 a) [ inl b ↦ (let is = one.0 b in (inl is.0, is.1)) | inr b ↦ (let is = rest.0 b in (inr is.0, is.1)) ]),
      λ is. parts.1 (elim (is.0) [ inl e ↦ inl (one.1 (e, is.1)) | inr b ↦ inr (rest.1 (b, is.1)) ]),
    )

same_is : (a b : Data) → IsRdata a → IsRdata b → (same_data a b ≡ true) ↔ (a ≡ b)
same_is a b is also =
    let answers = data_answers a b is also (data_order a b) refl in
    (λ e. answers.0 (is_tied (data_order a b) e), λ same. ap is_eq (answers.1 same))

-- ---- the first that fails

-- no item has a code exactly where each has none
module _ (code : Prerequisite → Option PrerequisiteCode) where
  pub each_none : (i : ℕ) (ps : List Prerequisite) → first_failed code i ps ≡ None → AllByRecursion (λ p. code p ≡ None) ps
  each_none i [] e = tt
  each_none i (p ∷ ps) e = by_code (each_none (suc i) ps) (code p) refl e
    where
      by_code : (first_failed code (suc i) ps ≡ None → AllByRecursion (λ q. code q ≡ None) ps) → (o : Option PrerequisiteCode) → code p ≡ o → option_or (option_map (failed i) o) (first_failed code (suc i) ps) ≡ None
          → (code p ≡ None) × AllByRecursion (λ q. code q ≡ None) ps
      by_code more None is f = (is, more f)
      by_code more (Some c) is f = absurd cc

  none_each : (i : ℕ) (ps : List Prerequisite) → AllByRecursion (λ p. code p ≡ None) ps → first_failed code i ps ≡ None
  none_each i [] all = refl
  none_each i (p ∷ ps) all = ap (λ o. option_or (option_map (failed i) o) (first_failed code (suc i) ps)) all.0 ∙ none_each (suc i) ps all.1

none_both : (a b : Option Failed) → option_or a b ≡ None → (a ≡ None) × (b ≡ None)
none_both None b e = (refl, e)
none_both (Some f) b e = absurd cc

all_both : {X : Type 0} (P Q R : X → Type 0) → ((x : X) → P x → Q x → R x) → (xs : List X) → AllByRecursion P xs → AllByRecursion Q xs → AllByRecursion R xs
all_both P Q R f [] all also = tt
all_both P Q R f (x ∷ xs) all also = (f x all.0 also.0, all_both P Q R f xs all.1 also.1)

-- ---- what each asks

-- a choice that has no code
chosen_first : (b : Bool) (c : PrerequisiteCode) → (if b then None else Some c) ≡ None → b ≡ true
chosen_first true c e = refl
chosen_first false c e = absurd cc

chosen_second : (b : Bool) (c : PrerequisiteCode) → (if b then Some c else None) ≡ None → b ≡ false
chosen_second true c e = absurd cc
chosen_second false c e = refl

module _ (rows : List Record) (order : InOrder rows) (kept : AreKept (set_of rows)) where
  abbrev set : Records
  set = set_of rows

  there : (r : Record) → Among r rows → IsIn r set
  there r a = get-set_of rows (key_of r) ∙ among_all (λ x. find key_cmp (key_of x) (keyed rows) ≡ Some x) rows r (each_in rows order) a

  in_rows : (r : Record) (rs : List Record) → find key_cmp (key_of r) (keyed rs) ≡ Some r → Among r rs
  in_rows r [] e = absurd cc
  in_rows r (x ∷ rs) e = choice (is_eq (key_cmp (key_of r) (key_of x))) x r (find key_cmp (key_of r) (keyed rs)) e (λ t same. inl (sym same)) (λ t later. inr (in_rows r rs later))

  is_there : (r : Record) → IsIn r set → Among r rows
  is_there r here = in_rows r rows (sym (get-set_of rows (key_of r)) ∙ here)

  among_filter : (p : Record → Bool) (rs : List Record) (r : Record) → Among r (filter p rs) ↔ (Among r rs × (p r ≡ true))
  among_filter p [] r = (λ a. absurd a, λ a. a.0)
  among_filter p (x ∷ rs) r = by_test (p x) refl (among_filter p rs r)
    where
      by_test : (b : Bool) → p x ≡ b → Among r (filter p rs) ↔ (Among r rs × (p r ≡ true)) → Among r (cond b (x ∷ filter p rs) (filter p rs)) ↔ (((r ≡ x) ⊎ Among r rs) × (p r ≡ true))
      by_test true e rest = (
        λ a. (elim a [ inl same ↦ (inl same, ap p same ∙ e) | inr later ↦ (let both = rest.0 later in (inr both.0, both.1)) ]),
        λ a. (elim (a.0) [ inl same ↦ inl same | inr later ↦ inr (rest.1 (later, a.1)) ]),
      )
      by_test false e rest = (
        λ a. let both = rest.0 a in (inr both.0, both.1),
        λ a. (elim (a.0) [ inl same ↦ absurd (no (p x) (ap p (sym same) ∙ a.1) e) | inr later ↦ rest.1 (later, a.1) ]),
      )

  stands_at : (name : List (List ℕ)) (t : RecordType) (r : Record) → at name t (key_of r) ≡ true → (r.owner ≡ name) × (type_of r.rdata ≡ t)
  stands_at name t r e = let both = at_is name t (key_of r) e in (both.0, one_rank (type_of r.rdata) t both.1)

  at_stands : (name : List (List ℕ)) (t : RecordType) (r : Record) → r.owner ≡ name → type_of r.rdata ≡ t → at name t (key_of r) ≡ true
  at_stands name t r e f = at_has name t (key_of r) e (ap rank_of f)

  -- a set exists exactly where a record of it stands
  exists_one : (name : List (List ℕ)) (t : RecordType) → has set (at name t) ≡ true → (r : Record) × Stands set name t r
  exists_one name t e =
      let found = some_found set (at name t) e in
      let key = (kept found.0 found.1 found.3).0 in
      let is = stands_at name t found.1 (ap (at name t) key ∙ found.2) in
      (found.1, (ap (get set) key ∙ found.3, is.0, is.1))

  one_exists : (name : List (List ℕ)) (t : RecordType) (r : Record) → Stands set name t r → has set (at name t) ≡ true
  one_exists name t r stands = has_found set (at name t) (key_of r) r (at_stands name t r stands.1 stands.2) stands.0

  used_one : (name : List (List ℕ)) → has set (at_name name) ≡ true → (r : Record) × IsIn r set × (r.owner ≡ name)
  used_one name e =
      let found = some_found set (at_name name) e in
      let key = (kept found.0 found.1 found.3).0 in
      (found.1, ap (get set) key ∙ found.3, ap (λ (q : Key). q.0) key ∙ name_is found.0.0 name found.2)

  one_used : (name : List (List ℕ)) (r : Record) → IsIn r set → r.owner ≡ name → has set (at_name name) ≡ true
  one_used name r here e = has_found set (at_name name) (key_of r) r (rw e (name_self name)) here

  -- the data of a set
  data_among : (name : List (List ℕ)) (t : RecordType) (d : Data) → Among d (data_in (part set (at name t))) ↔ ((r : Record) × Stands set name t r × (r.rdata ≡ d))
  data_among name t d =
      let listed : data_in (part set (at name t)) ≡ map (λ r. r.rdata) (filter (λ r. at name t (key_of r)) rows) = ap (map (λ (r : Record). r.rdata)) (listing-part (at name t) rows order) in
      let mapped = among_map (λ (r : Record). r.rdata) (filter (λ r. at name t (key_of r)) rows) d in (
        λ a. let found = mapped.0 (subst (Among d) listed a) in
            let both = (among_filter (λ r. at name t (key_of r)) rows found.0).0 found.1 in
            let is = stands_at name t found.0 both.1 in
            (found.0, (there found.0 both.0, is.0, is.1), found.2),
        λ has_one. subst (Among d) (sym listed)
            (mapped.1 (has_one.0, (among_filter (λ r. at name t (key_of r)) rows has_one.0).1 (is_there has_one.0 has_one.1.0, at_stands name t has_one.0 has_one.1.1 has_one.1.2), has_one.2)),
      )

  module _ (all : List Prerequisite) (are : AllByRecursion IsPrerequisite all) where
    given_rdata : (name : List (List ℕ)) (d : Data) → Among (RrsetEquals name d) all → IsRdata d
    given_rdata name d a = (among_all IsPrerequisite all (RrsetEquals name d) are a).1

    stands_rdata : (name : List (List ℕ)) (t : RecordType) (r : Record) → Stands set name t r → IsRdata r.rdata
    stands_rdata name t r stands = (kept (key_of r) r stands.0).1.rdata

    -- a set whose data are those that are given
    equal_met : (name : List (List ℕ)) (t : RecordType) → are_data (part set (at name t)) (flat_map (given_for name t) all) ≡ true → (d : Data) → type_of d ≡ t → ((r : Record) × Stands set name t r × (r.rdata ≡ d)) ↔ Contains all (RrsetEquals name d)
    equal_met name t e d type =
        let both = and_parts (all_among (data_in (part set (at name t))) (flat_map (given_for name t) all)) (all_among (flat_map (given_for name t) all) (data_in (part set (at name t)))) e in (
          λ has_one.
              let here = (data_among name t d).1 has_one in
              let some = any_is (same_data d) (flat_map (given_for name t) all) (all_is (λ x. list_any (same_data x) (flat_map (given_for name t) all)) (data_in (part set (at name t))) both.0 d here) in
              let given = (given_all name t some.0 all).0 some.1 in
              let same : d ≡ some.0 = (same_is d some.0 (subst IsRdata has_one.2 (stands_rdata name t has_one.0 has_one.1)) (given_rdata name some.0 given.0)).0 some.2 in
              of_among all (RrsetEquals name d) (subst (λ x. Among (RrsetEquals name x) all) (sym same) given.0),
          λ c.
              let a = among_of all (RrsetEquals name d) c in
              let given = (given_all name t d all).1 (a, type) in
              let some = any_is (same_data d) (data_in (part set (at name t))) (all_is (λ x. list_any (same_data x) (data_in (part set (at name t)))) (flat_map (given_for name t) all) both.1 d given) in
              let one = (data_among name t some.0).0 some.1 in
              let same : d ≡ some.0 = (same_is d some.0 (given_rdata name d a) (subst IsRdata one.2 (stands_rdata name t one.0 one.1))).0 some.2 in
              (one.0, one.1, one.2 ∙ sym same),
        )

    met_equal : (name : List (List ℕ)) (t : RecordType) → ((d : Data) → type_of d ≡ t → ((r : Record) × Stands set name t r × (r.rdata ≡ d)) ↔ Contains all (RrsetEquals name d)) → are_data (part set (at name t)) (flat_map (given_for name t) all) ≡ true
    met_equal name t met =
        both_true (all_among (data_in (part set (at name t))) (flat_map (given_for name t) all)) (all_among (flat_map (given_for name t) all) (data_in (part set (at name t))))
        (is_all (λ x. list_any (same_data x) (flat_map (given_for name t) all)) (data_in (part set (at name t))) (λ d a.
        let one = (data_among name t d).0 a in
        let type : type_of d ≡ t = ap type_of (sym one.2) ∙ one.1.2 in
        let given = among_of all (RrsetEquals name d) ((met d type).0 one) in
        is_any (same_data d) (flat_map (given_for name t) all) d ((given_all name t d all).1 (given, type)) ((same_is d d (given_rdata name d given) (given_rdata name d given)).1 refl)))
        (is_all (λ x. list_any (same_data x) (data_in (part set (at name t)))) (flat_map (given_for name t) all) (λ d a.
        let given = (given_all name t d all).0 a in
        let one = (met d given.1).1 (of_among all (RrsetEquals name d) given.0) in
        is_any (same_data d) (data_in (part set (at name t))) d ((data_among name t d).1 one) ((same_is d d (given_rdata name d given.0) (given_rdata name d given.0)).1 refl)))

    pub one_met : (p : Prerequisite) → fails set p ≡ None → set_fails set all p ≡ None → IsMet set all p
    one_met (RrsetExists name t) e f = exists_one name t (chosen_first (has set (at name t)) NxRrset e)
    one_met (RrsetEquals name rdata) e f = equal_is name rdata (equal_met name (type_of rdata) (chosen_first (are_data (part set (at name (type_of rdata))) (flat_map (given_for name (type_of rdata)) all)) NxRrset f))
      where
        equal_is : (n : List (List ℕ)) (x : Data) → ((d : Data) → type_of d ≡ type_of x → ((r : Record) × Stands set n (type_of x) r × (r.rdata ≡ d)) ↔ Contains all (RrsetEquals n d)) → (d : Data) → type_of d ≡ type_of x → HasData set n d ↔ Contains all (RrsetEquals n d)
        equal_is n x met d type = subst (λ t. ((r : Record) × Stands set n t r × (r.rdata ≡ d)) ↔ Contains all (RrsetEquals n d)) (sym type) (met d type)
    one_met (RrsetAbsent name t) e f = λ r stands. no (has set (at name t)) (one_exists name t r stands) (chosen_second (has set (at name t)) YxRrset e)
    one_met (NameUsed name) e f = used_one name (chosen_first (has set (at_name name)) NxDomain e)
    one_met (NameUnused name) e f = λ r here own. no (has set (at_name name)) (one_used name r here own) (chosen_second (has set (at_name name)) YxDomain e)

    pub met_fails : (p : Prerequisite) → IsMet set all p → fails set p ≡ None
    met_fails (RrsetExists name t) met = ap (λ b. if b then None else Some NxRrset) (one_exists name t met.0 met.1)
    met_fails (RrsetEquals name rdata) met = refl
    met_fails (RrsetAbsent name t) met = ap (λ b. if b then Some YxRrset else None) (false_from_ne_true (has set (at name t)) (λ e. let one = exists_one name t e in met one.0 one.1))
    met_fails (NameUsed name) met = ap (λ b. if b then None else Some NxDomain) (one_used name met.0 met.1 met.2)
    met_fails (NameUnused name) met = ap (λ b. if b then Some YxDomain else None) (false_from_ne_true (has set (at_name name)) (λ e. let one = used_one name e in met one.0 one.1 one.2))

    pub met_set : (p : Prerequisite) → IsMet set all p → set_fails set all p ≡ None
    met_set (RrsetExists name t) met = refl
    met_set (RrsetEquals name rdata) met =
        ap (λ b. if b then None else Some NxRrset) (met_equal name (type_of rdata) (λ d type. subst (λ t. ((r : Record) × Stands set name t r × (r.rdata ≡ d)) ↔ Contains all (RrsetEquals name d)) type (met d type)))
    met_set (RrsetAbsent name t) met = refl
    met_set (NameUsed name) met = refl
    met_set (NameUnused name) met = refl

    verdict_met : (verdict set all ≡ None) ↔ AreMet set all
    verdict_met = (
      λ e. let both = none_both (first_failed (fails set) 0 all) (first_failed (set_fails set all) 0 all) e in
          all_both (λ p. fails set p ≡ None) (λ p. set_fails set all p ≡ None) (IsMet set all) one_met all (each_none (fails set) 0 all both.0) (each_none (set_fails set all) 0 all both.1),
      λ met. (λ i. option_or (none_each (fails set) 0 all (all_map_met (λ p. fails set p ≡ None) met_fails all met) i) (none_each (set_fails set all) 0 all (all_map_met (λ p. set_fails set all p ≡ None) met_set all met) i)),
    )
      where
        all_map_met : (Q : Prerequisite → Type 0) → ((p : Prerequisite) → IsMet set all p → Q p) → (ps : List Prerequisite) → AllByRecursion (IsMet set all) ps → AllByRecursion Q ps
        all_map_met Q f [] met = tt
        all_map_met Q f (p ∷ ps) met = (f p met.0, all_map_met Q f ps met.1)

-- an answer that tells the verdict is Ok exactly where all prerequisites are met
pub met_answer : (set : Records) (rows : List Record) → InOrder rows → set_of rows ≡ set → AreKept set → (all : List Prerequisite) → AllByRecursion IsPrerequisite all
    → (answer : Result (Unit {0}) Failed) → failure answer ≡ verdict set all → (answer ≡ Ok tt) ↔ AreMet set all
met_answer set rows order is kept all are answer e =
    let whole : (verdict set all ≡ None) ↔ AreMet set all = subst (λ (s : Records). (verdict s all ≡ None) ↔ AreMet s all) is (verdict_met rows order (subst AreKept (sym is) kept) all are) in
    (λ ok. whole.0 (sym e ∙ ap failure ok), λ met. none_ok answer (e ∙ whole.1 met))
  where
    none_ok : (a : Result (Unit {0}) Failed) → failure a ≡ None → a ≡ Ok tt
    none_ok (Ok x) f = refl
    none_ok (Err f) g = absurd cc
