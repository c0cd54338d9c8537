-- The prerequisites before a diff: they are met in the old zone, and what they say of any zone in which they are met.
use Rattle.std.proofs.Common.{◌≡◌, ◌≢◌, ◌↔◌, ◌⊎◌, ℕ, List, [], ◌∷◌, map, length, Bool, true, false, cond, not, ◌&&◌, if◌then◌else◌, Some, None, inl, inr, refl, sym, ap, subst, ◌∙◌, eqb-true}
use Rattle.std.specs.Prelude.{◌==◌}
use Rattle.std.specs.List.{AllByRecursion, filter, flat_map}
use Rattle.std.specs.List as lists
use Rattle.std.specs.FinMap.{get, find}
use Rattle.std.specs.Ordering.{is_eq}
use Rattle.std.proofs.lemmas.Bool.{and_parts, false_from_ne_true, true_from_ne_false}
use Rattle.dns_data.specs.declared.record.Record.{Record}
use Rattle.dns_data.specs.declared.record_type.RecordType.{RecordType}
use Rattle.dns_data.specs.declared.record_type.RecordType.TheVariants as types
use Rattle.dns_data.specs.declared.rdata.Data.{Data}
use Rattle.dns_data.specs.Rdata.{type_of}
use Rattle.dns_data.specs.Types.{kept_types}
use Rattle.dns_data.proofs.KeptLaws.{each_kept}
use Rattle.dns_data.proofs.RecordOrderLemmas.{one_rank}
use Rattle.zone_core.specs.declared.update.Operation.{Operation}
use Rattle.zone_core.specs.declared.update.Prerequisite.{Prerequisite}
use Rattle.zone_core.specs.declared.update.Prerequisite.TheVariants.{RrsetEquals, RrsetAbsent, NameUnused}
use Rattle.zone_core.specs.Sets.{Records, Key, key_of, key_cmp, rank_of, keyed, listing, part, at_name, at, IsIn}
use Rattle.zone_core.specs.Zones.{AreKept, is_cname}
use Rattle.zone_core.specs.Updates.{adds_soa}
use Rattle.zone_core.specs.Accounts.{Stands}
use Rattle.zone_core.specs.Met.{IsMet, AreMet}
use Rattle.zone_core.proofs.MetLemmas.{Among, among_of, of_among, among_append}
use Rattle.zone_core.proofs.RowLemmas.{get-set_of, each_in, choice, listing-part}
use Rattle.zone_core.proofs.SetLemmas.{by_cases, name_is, name_self, key_self, found_in_part, found_of_part, get-part, same_sets}
use Rattle.zone_core.proofs.ChangedLemmas.{listed, kept_in_part}
use Rattle.zone_core.proofs.ZoneLemmas.{at_has, at_is, both_true, is_kind, kind, no}
use Rattle.cli_core.specs.declared.job.GuardScope.{GuardScope}
use Rattle.cli_updates.specs.Guards.{set_like, begins_with, are_equal, changes_set, changed_firsts, is_unused, lacks, is_below_origin, is_new, new_firsts, is_first, is_this, comes_first, tests_names, tests_name, there, absent, types_absent, not_there, guards_of}
use Rattle.cli_updates.specs.GuardPromises.{HaveSameSet, IsOfNoSet, HasRoom}

-- ---- elements of lists

pub among_all : {X : Type 0} (P : X → Type 0) (xs : List X) (x : X) → AllByRecursion P xs → Among x xs → P x
among_all P [] x all a = absurd a
among_all P (y ∷ ys) x all a = (elim a [ inl e ↦ subst P (sym e) all.0 | inr later ↦ among_all P ys x all.1 later ])

pub all_among : {X : Type 0} (P : X → Type 0) (xs : List X) → ((x : X) → Among x xs → P x) → AllByRecursion P xs
all_among P [] each = tt
all_among P (x ∷ xs) each = (each x (inl refl), all_among P xs (λ y a. each y (inr a)))

pub among_map : {X Y : Type 0} (f : X → Y) (xs : List X) (y : Y) → Among y (map f xs) ↔ ((x : X) × Among x xs × (f x ≡ y))
among_map f [] y = (λ a. absurd a, λ a. absurd a.1)
among_map f (x ∷ xs) y =
    let rest = among_map f xs y in (
      λ a. (elim a [ inl e ↦ (x, inl refl, sym e) | inr b ↦ (let found = rest.0 b in (found.0, inr found.1, found.2)) ]),
      λ a. (elim (a.1) [ inl same ↦ inl (sym a.2 ∙ ap f same) | inr b ↦ inr (rest.1 (a.0, b, a.2)) ]),
    )

pub among_filter : {X : Type 0} (p : X → Bool) (xs : List X) (x : X) → Among x (filter p xs) → Among x xs × (p x ≡ true)
among_filter p [] x a = absurd a
among_filter {X} p (y ∷ ys) x a = by_test (p y) refl (among_filter p ys x) a
  where
    by_test : (b : Bool) → p y ≡ b → (Among x (filter p ys) → Among x ys × (p x ≡ true)) → Among x (cond b (y ∷ filter p ys) (filter p ys)) → ((x ≡ y) ⊎ Among x ys) × (p x ≡ true)
    by_test true e rest h = (elim h [ inl same ↦ (inl same, ap p same ∙ e) | inr later ↦ (let both = rest later in (inr both.0, both.1)) ])
    by_test false e rest h = let both = rest h in (inr both.0, both.1)

pub filter_among : {X : Type 0} (p : X → Bool) (xs : List X) (x : X) → Among x xs → p x ≡ true → Among x (filter p xs)
filter_among p [] x a e = absurd a
filter_among {X} p (y ∷ ys) x a e = by_test (p y) refl (filter_among p ys x) a
  where
    by_test : (b : Bool) → p y ≡ b → (Among x ys → p x ≡ true → Among x (filter p ys)) → ((x ≡ y) ⊎ Among x ys) → Among x (cond b (y ∷ filter p ys) (filter p ys))
    by_test true f rest h = (elim h [ inl same ↦ inl same | inr later ↦ inr (rest later e) ])
    by_test false f rest h = (elim h [ inl same ↦ absurd (let q : true ≡ false = sym e ∙ ap p same ∙ f in cc) | inr later ↦ rest later e ])

among_flat : {X Y : Type 0} (f : X → List Y) (xs : List X) (y : Y) → Among y (flat_map f xs) ↔ ((x : X) × Among x xs × Among y (f x))
among_flat f [] y = (λ a. absurd a, λ a. absurd a.1)
among_flat {X} {Y} f (x ∷ xs) y =
    let parts = among_append (f x) (flat_map f xs) y in
    let rest = among_flat f xs y in (
      λ a. (elim (parts.0 a) [ inl here ↦ (x, inl refl, here) | inr b ↦ (let found = rest.0 b in (found.0, inr found.1, found.2)) ]),
      λ a. parts.1 (elim (a.1) [ inl same ↦ inl (subst (λ (z : X). Among y (f z)) same a.2) | inr b ↦ inr (rest.1 (a.0, b, a.2)) ]),
    )

pub none_among : {X : Type 0} (xs : List X) (x : X) → (length xs == 0) ≡ true → Among x xs → ⊥
none_among [] x e a = a
none_among (y ∷ ys) x e a = absurd (let q : length (y ∷ ys) ≡ 0 = eqb-true (length (y ∷ ys)) 0 e in cc)

some_among : {X : Type 0} (xs : List X) → (length xs == 0) ≡ false → (x : X) × Among x xs
some_among [] e = absurd cc
some_among (x ∷ xs) e = (x, inl refl)

-- the first that passes a test
finds : {X : Type 0} (p : X → Bool) (xs : List X) (x : X) → Among x xs → p x ≡ true → (g : X) × (lists.find p xs ≡ Some g) × Among g xs × (p g ≡ true)
finds p [] x a e = absurd a
finds {X} p (y ∷ ys) x a e = by_test (p y) refl (λ later. finds p ys x later e) a
  where
    by_test : (b : Bool) → p y ≡ b → (Among x ys → (g : X) × (lists.find p ys ≡ Some g) × Among g ys × (p g ≡ true)) → ((x ≡ y) ⊎ Among x ys)
        → (g : X) × (cond b (Some y) (lists.find p ys) ≡ Some g) × ((g ≡ y) ⊎ Among g ys) × (p g ≡ true)
    by_test true t more h = (y, refl, inl refl, t)
    by_test false f more h = (elim h [ inl same ↦ absurd (no (p x) e (ap p same ∙ f)) | inr later ↦ (let found = more later in (found.0, found.1, inr found.2, found.3)) ])

-- what passes it first is the first of those that pass a narrower one
heads : {X : Type 0} (p q : X → Bool) (xs : List X) (g : X) → lists.find p xs ≡ Some g → q g ≡ true → ((x : X) → q x ≡ true → p x ≡ true) → (rest : List X) × (filter q xs ≡ g ∷ rest)
heads p q [] g e t wider = absurd cc
heads {X} p q (y ∷ ys) g e t wider = by_tests (p y) (q y) refl refl e (λ later. heads p q ys g later t wider)
  where
    by_tests : (b c : Bool) → p y ≡ b → q y ≡ c → cond b (Some y) (lists.find p ys) ≡ Some g → (lists.find p ys ≡ Some g → (rest : List X) × (filter q ys ≡ g ∷ rest))
        → (rest : List X) × (cond c (y ∷ filter q ys) (filter q ys) ≡ g ∷ rest)
    by_tests true true f h is more = (filter q ys, (let same : y ≡ g = cc in ap (λ x. x ∷ filter q ys) same))
    by_tests true false f h is more = absurd (let same : y ≡ g = cc in no (q y) (ap q same ∙ t) h)
    by_tests false true f h is more = absurd (no (p y) (wider y h) f)
    by_tests false false f h is more = more is

-- ---- types

-- every type but SOA
pub below_origin : (t : RecordType) → t ≢ types.Soa → is_below_origin t ≡ true
below_origin types.Soa other = absurd (other refl)
below_origin t other = refl

-- ---- records of a set

module _ (set : Records) (kept : AreKept set) where
  pub listed_in : (r : Record) → Among r (listing set) → IsIn r set
  listed_in r a =
      let rows = listed set kept in
      ap (λ (s : Records). get s (key_of r)) (sym rows.set) ∙ get-set_of (listing set) (key_of r)
      ∙ among_all (λ x. find key_cmp (key_of x) (keyed (listing set)) ≡ Some x) (listing set) r (each_in (listing set) rows.order) a

  in_rows : (r : Record) (rs : List Record) → find key_cmp (key_of r) (keyed rs) ≡ Some r → Among r rs
  in_rows r [] e = absurd cc
  in_rows r (x ∷ rs) e = choice (is_eq (key_cmp (key_of r) (key_of x))) x r (find key_cmp (key_of r) (keyed rs)) e (λ t same. inl (sym same)) (λ t later. inr (in_rows r rs later))

  in_listed : (r : Record) → IsIn r set → Among r (listing set)
  in_listed r here =
      in_rows r (listing set) (sym (get-set_of (listing set) (key_of r)) ∙ ap (λ (s : Records). get s (key_of r)) (listed set kept).set ∙ here)

-- the records of an owner and a type
module _ (set : Records) (kept : AreKept set) (name : List (List ℕ)) (t : RecordType) where
  abbrev like : Records
  like = part set (at name t)

  like_kept : AreKept like
  like_kept = kept_in_part set (at name t) kept

  pub like_stands : (s : Record) → Among s (listing like) → Stands set name t s
  like_stands s a =
      let found = found_of_part set (at name t) (key_of s) s (listed_in like like_kept s a) in
      let is = at_is name t (key_of s) found.0 in
      (found.1, is.0, one_rank (type_of s.rdata) t is.1)

  pub stands_like : (s : Record) → Stands set name t s → Among s (listing like)
  stands_like s stands =
      in_listed like like_kept s (found_in_part set (at name t) (key_of s) (at_has name t (key_of s) stands.1 (ap rank_of stands.2)) ∙ stands.0)

  pub none_stands : lacks set name t ≡ true → (s : Record) → ¬ Stands set name t s
  none_stands e s stands = none_among (listing like) s e (stands_like s stands)

  pub some_stands : lacks set name t ≡ false → (s : Record) × Stands set name t s
  some_stands e = let one = some_among (listing like) e in (one.0, like_stands one.0 one.1)

  stands_none : ((s : Record) → ¬ Stands set name t s) → lacks set name t ≡ true
  stands_none none = true_from_ne_false (lacks set name t) (λ e. let one = some_stands e in none one.0 one.1)

-- the records of a name
module _ (set : Records) (kept : AreKept set) (name : List (List ℕ)) where
  abbrev node : Records
  node = part set (at_name name)

  node_kept : AreKept node
  node_kept = kept_in_part set (at_name name) kept

  node_owns : (s : Record) → Among s (listing node) → IsIn s set × (s.owner ≡ name)
  node_owns s a = let found = found_of_part set (at_name name) (key_of s) s (listed_in node node_kept s a) in (found.1, name_is s.owner name found.0)

  owns_node : (s : Record) → IsIn s set → s.owner ≡ name → Among s (listing node)
  owns_node s here e = in_listed node node_kept s (found_in_part set (at_name name) (key_of s) (rw e (name_self name)) ∙ here)

  none_owns : is_unused set name ≡ true → (s : Record) → IsIn s set → s.owner ≢ name
  none_owns e s here owner = none_among (listing node) s e (owns_node s here owner)

  -- those of one type among them
  like_node : (t : RecordType) → listing (part set (at name t)) ≡ filter (λ r. at name t (key_of r)) (listing node)
  like_node t =
      let rows = listed node node_kept in
      ap (λ (s : Records). listing s) (same_sets (part set (at name t)) (part node (at name t)) narrow)
      ∙ ap (λ (s : Records). listing (part s (at name t))) (sym rows.set) ∙ listing-part (at name t) (listing node) rows.order
    where
      narrower : (k : Key) (b c : Bool) → (b ≡ true → c ≡ true) → cond b (get set k) None ≡ cond b (cond c (get set k) None) None
      narrower k true c wide = ap (λ d. cond d (get set k) None) (sym (wide refl))
      narrower k false c wide = refl

      narrow : (k : Key) → get (part set (at name t)) k ≡ get (part node (at name t)) k
      narrow k =
          get-part set (at name t) k
          ∙ narrower k (at name t k) (at_name name k) (λ e. (and_parts (at_name name k) (k.1 == rank_of t) e).0)
          ∙ ap (λ o. cond (at name t k) o None) (sym (get-part set (at_name name) k)) ∙ sym (get-part node (at name t) k)

-- the first record of the set of a record
pub record First (set : Records) (r : Record) : Type 0 where
  pub first : Record
  pub here : IsIn first set
  pub owner : first.owner ≡ r.owner
  pub type : type_of first.rdata ≡ type_of r.rdata
  pub is : is_first set first ≡ true

pub first_like : (set : Records) → AreKept set → (r : Record) → IsIn r set → First set r
first_like set kept r here = by_rows (set_like set r) refl (stands_like set kept r.owner (type_of r.rdata) r (here, refl, refl))
  where
    by_rows : (rs : List Record) → set_like set r ≡ rs → Among r rs → First set r
    by_rows [] e a = absurd a
    by_rows (f ∷ rs) e a =
        let stands = like_stands set kept r.owner (type_of r.rdata) f (subst (Among f) (sym e) (inl refl)) in
        let rows : set_like set f ≡ f ∷ rs = (λ i. listing (part set (at (stands.1 i) (stands.2 i)))) ∙ e in
        record { first = f; here = stands.0; owner = stands.1; type = stands.2; is = ap (λ xs. begins_with xs f) rows ∙ key_self (key_of f) }

-- ---- the prerequisites

module _ (scope : GuardScope) (old new : Records) (ops : List Operation) (kept : AreKept old) where
  abbrev all : List Prerequisite
  all = guards_of scope old new ops

  abbrev pub firsts : List Record
  firsts = changed_firsts old new ops

  abbrev theirs : Record → List Prerequisite
  theirs r = map there (set_like old r)

  abbrev pub comers : List Record
  comers = new_firsts old new

  -- what tells that a set has data, tells it of a record of that set
  pub record Told (p : Prerequisite) : Type 0 where
    pub first : Record
    pub among : Among first firsts
    pub one : Record
    pub stands : Stands old first.owner (type_of first.rdata) one
    pub is : there one ≡ p

  told : (p : Prerequisite) → Among p (flat_map theirs firsts) → Told p
  told p a =
      let found = (among_flat theirs firsts p).0 a in
      let one = (among_map there (set_like old found.0) p).0 found.2 in
      record { first = found.0; among = found.1; one = one.0; stands = like_stands old kept found.0.owner (type_of found.0.rdata) one.0 one.1; is = one.2 }

  -- any other tells of a set that comes that a name is not in use, or a type not there, and so it is in the old zone
  pub record Free (p : Prerequisite) : Type 0 where
    pub first : Record
    pub among : Among first comers
    pub is : ((p ≡ NameUnused first.owner) × (tests_name scope old first.owner ≡ true))
        ⊎ ((t : RecordType) × (p ≡ absent first.owner t) × (lacks old first.owner t ≡ true) × Among t (types_absent old new first))

  pub is_comer : (r : Record) → Among r comers → Among r (listing new) × (is_new old r ≡ true)
  is_comer r a = let both = among_filter (λ s. is_first new s && is_new old s) (listing new) r a in (both.0, (and_parts (is_first new r) (is_new old r) both.1).1)

  lacks_each : (r : Record) (t : RecordType) → is_new old r ≡ true → Among t (types_absent old new r) → lacks old r.owner t ≡ true
  lacks_each r t fresh a = by_alias (is_cname (key_of r)) (lacks old r.owner types.Cname && comes_first old new r) refl a
    where
      by_alias : (b c : Bool) → (lacks old r.owner types.Cname && comes_first old new r) ≡ c
          → Among t (if b then filter (λ u. is_below_origin u && lacks old r.owner u) kept_types else (if c then type_of r.rdata ∷ types.Cname ∷ [] else type_of r.rdata ∷ [])) → lacks old r.owner t ≡ true
      by_alias true c e h = (and_parts (is_below_origin t) (lacks old r.owner t) (among_filter (λ u. is_below_origin u && lacks old r.owner u) kept_types t h).1).1
      by_alias false true e h = (elim h [
        | inl same ↦ ap (lacks old r.owner) same ∙ fresh
        | inr more ↦ (elim more [ inl same ↦ ap (lacks old r.owner) same ∙ (and_parts (lacks old r.owner types.Cname) (comes_first old new r) e).0 | inr none ↦ absurd none ])
      ])
      by_alias false false e h = (elim h [ inl same ↦ ap (lacks old r.owner) same ∙ fresh | inr none ↦ absurd none ])

  free : (p : Prerequisite) → Among p (flat_map (not_there scope old new) comers) → Free p
  free p a =
      let found = (among_flat (not_there scope old new) comers p).0 a in
      by_use found.0 found.1 (tests_name scope old found.0.owner) (comes_first old new found.0) refl found.2
    where
      by_use : (r : Record) → Among r comers → (b c : Bool) → tests_name scope old r.owner ≡ b
          → Among p (if b then (if c then NameUnused r.owner ∷ [] else []) else map (absent r.owner) (types_absent old new r)) → Free p
      by_use r among true true e h = (elim h [ inl same ↦ record { first = r; among = among; is = inl (same, e) } | inr none ↦ absurd none ])
      by_use r among true false e h = absurd h
      by_use r among false c e h =
          let one = (among_map (absent r.owner) (types_absent old new r) p).0 h in
          record { first = r; among = among; is = inr (one.0, sym one.2, lacks_each r one.0 (is_comer r among).1 one.1, one.1) }

  pub parts : (p : Prerequisite) → Among p all → Told p ⊎ Free p
  parts p a = elim ((among_append (flat_map theirs firsts) (flat_map (not_there scope old new) comers) p).0 a) [ inl b ↦ inl (told p b) | inr b ↦ inr (free p b) ]

  told_equals : (name : List (List ℕ)) (d : Data) → Among (RrsetEquals name d) all → Told (RrsetEquals name d)
  told_equals name d a = elim (parts (RrsetEquals name d) a) [
    | inl t ↦ t
    | inr f ↦ (elim (f.is) [
      | inl unused ↦ absurd (let e : RrsetEquals name d ≡ NameUnused f.first.owner = unused.0 in cc)
      | inr none ↦ absurd (let e : RrsetEquals name d ≡ RrsetAbsent f.first.owner none.0 = none.1 in cc)
    ])
  ]

  -- each record of such a set is told
  tells : (first s : Record) → Among first firsts → Stands old first.owner (type_of first.rdata) s → Among (there s) all
  tells first s a stands =
      (among_append (flat_map theirs firsts) (flat_map (not_there scope old new) comers) (there s)).1
      (inl ((among_flat theirs firsts (there s)).1 (first, a, (among_map there (set_like old first) (there s)).1 (s, stands_like old kept first.owner (type_of first.rdata) s stands, refl))))

  met_equals : (name : List (List ℕ)) (d : Data) → Among (RrsetEquals name d) all → IsMet old all (RrsetEquals name d)
  met_equals name d a = λ e type. (
    λ has.
        let t = told_equals name d a in
        let is : RrsetEquals t.one.owner t.one.rdata ≡ RrsetEquals name d = t.is in
        let named : t.one.owner ≡ name = cc in
        let same : t.one.rdata ≡ d = cc in
        let x = has.0 in
        let owner : x.owner ≡ t.first.owner = has.1.1 ∙ sym named ∙ t.stands.1 in
        let typed : type_of x.rdata ≡ type_of t.first.rdata = has.1.2 ∙ type ∙ sym (ap type_of same) ∙ t.stands.2 in
        let here : Among (there x) all = tells t.first x t.among (has.1.0, owner, typed) in
        let equal : there x ≡ RrsetEquals name e = (λ i. RrsetEquals (has.1.1 i) (has.2 i)) in
        of_among all (RrsetEquals name e) (subst (λ (p : Prerequisite). Among p all) equal here),
    λ con.
        let t = told_equals name e (among_of all (RrsetEquals name e) con) in
        let is : RrsetEquals t.one.owner t.one.rdata ≡ RrsetEquals name e = t.is in
        let named : t.one.owner ≡ name = cc in
        let same : t.one.rdata ≡ e = cc in
        (t.one, (t.stands.0, named, ap type_of same), same),
  )

  pub guards_met : AreMet old all
  guards_met = all_among (IsMet old all) all (λ p a. elim (parts p a) [
    | inl t ↦ subst (IsMet old all) t.is (met_equals t.one.owner t.one.rdata (subst (λ (q : Prerequisite). Among q all) (sym t.is) a))
    | inr f ↦ (elim (f.is) [
      | inl unused ↦ subst (IsMet old all) (sym unused.0) (none_owns old kept f.first.owner (and_parts (tests_names scope) (is_unused old f.first.owner) unused.1).1)
      | inr none ↦ subst (IsMet old all) (sym none.1) (none_stands old kept f.first.owner none.0 none.2)
    ])
  ])

-- ---- what holds of each

-- a fact on all prerequisites, from the records that they are of
pub each_guard : (scope : GuardScope) (old new : Records) (ops : List Operation) → AreKept old → AreKept new → (P : Prerequisite → Type 0)
    → ((r : Record) → IsIn r old → P (there r)) → ((r : Record) → IsIn r new → P (NameUnused r.owner) × ((t : RecordType) → P (absent r.owner t)))
    → AllByRecursion P (guards_of scope old new ops)
each_guard scope old new ops kept also P one other =
    all_among P (guards_of scope old new ops) (λ p a. elim (parts scope old new ops kept p a) [
      | inl t ↦ subst P t.is (one t.one t.stands.0)
      | inr f ↦ (let both = other f.first (listed_in new also f.first (is_comer scope old new ops kept f.first f.among).0) in (elim (f.is) [
        | inl unused ↦ subst P (sym unused.0) both.0
        | inr none ↦ subst P (sym none.1) (both.1 none.0)
      ]))
    ])

-- ---- which sets come

module _ (scope : GuardScope) (old new : Records) (ops : List Operation) (kept : AreKept old) (also : AreKept new) where
  -- what comes at a name in new sets, first
  record Comer (r : Record) : Type 0 where
    first : Record
    among : Among first (new_firsts old new)
    here : IsIn first new
    owner : first.owner ≡ r.owner
    fresh : is_new old first ≡ true

  comer : (first : Record) → IsIn first new → is_first new first ≡ true → is_new old first ≡ true → Among first (new_firsts old new)
  comer first here is fresh =
      filter_among (λ s. is_first new s && is_new old s) (listing new) first (in_listed new also first here) (both_true (is_first new first) (is_new old first) is fresh)

  -- in the set of a record
  of_set : (r : Record) → IsIn r new → is_new old r ≡ true → (c : Comer r) × (type_of c.first.rdata ≡ type_of r.rdata)
  of_set r here e =
      let f = first_like new also r here in
      let fresh : is_new old f.first ≡ true = (λ i. lacks old (f.owner i) (f.type i)) ∙ e in
      (record { first = f.first; among = comer f.first f.here f.is fresh; here = f.here; owner = f.owner; fresh = fresh }, f.type)

  -- at the name of a record
  of_name : (r : Record) → IsIn r new → is_new old r ≡ true → (c : Comer r) × (comes_first old new c.first ≡ true)
  of_name r here e =
      let rows : List Record = listing (part new (at_name r.owner)) in
      let found = finds (is_new old) rows r (owns_node new also r.owner r here refl) e in
      let g : Record = found.0 in
      let owns = node_owns new also r.owner g found.2 in
      let mine : Record → Bool = λ s. at r.owner (type_of g.rdata) (key_of s) in
      let wider : (s : Record) → mine s ≡ true → is_new old s ≡ true = λ s t.
      (let both = at_is r.owner (type_of g.rdata) (key_of s) t in
      (λ i. lacks old ((both.0 ∙ sym owns.1) i) (one_rank (type_of s.rdata) (type_of g.rdata) both.1 i)) ∙ found.3) in
      let head = heads (is_new old) mine rows g found.1 (at_has r.owner (type_of g.rdata) (key_of g) owns.1 refl) wider in
      let like : set_like new g ≡ g ∷ head.0 = (λ i. listing (part new (at (owns.1 i) (type_of g.rdata)))) ∙ like_node new also r.owner (type_of g.rdata) ∙ head.1 in
      let is : is_first new g ≡ true = ap (λ xs. begins_with xs g) like ∙ key_self (key_of g) in
      let first : comes_first old new g ≡ true =
      (λ i. is_this (lists.find (is_new old) (listing (part new (at_name (owns.1 i))))) g) ∙ ap (λ o. is_this o g) found.1 ∙ key_self (key_of g) in
      (record { first = g; among = comer g owns.0 is found.3; here = owns.0; owner = owns.1; fresh = found.3 }, first)

  -- ---- what is asked of them

  abbrev asked : List Prerequisite
  asked = guards_of scope old new ops

  asks : (p : Prerequisite) (first : Record) → Among first (new_firsts old new) → Among p (not_there scope old new first) → Among p asked
  asks p first among a =
      (among_append (flat_map (λ r. map there (set_like old r)) (changed_firsts old new ops)) (flat_map (not_there scope old new) (new_firsts old new)) p).1
      (inr ((among_flat (not_there scope old new) (new_firsts old new) p).1 (first, among, a)))

  asks_unused : (first : Record) → Among first (new_firsts old new) → tests_name scope old first.owner ≡ true → comes_first old new first ≡ true → Among (NameUnused first.owner) asked
  asks_unused first among e f =
      let is : not_there scope old new first ≡ NameUnused first.owner ∷ [] =
      (λ i. if e i then (if f i then NameUnused first.owner ∷ [] else []) else map (absent first.owner) (types_absent old new first)) in
      asks (NameUnused first.owner) first among (subst (Among (NameUnused first.owner)) (sym is) (inl refl))

  asks_absent : (first : Record) → Among first (new_firsts old new) → tests_name scope old first.owner ≡ false → (t : RecordType) → Among t (types_absent old new first) → Among (absent first.owner t) asked
  asks_absent first among e t a =
      let is : not_there scope old new first ≡ map (absent first.owner) (types_absent old new first) =
      ap (λ b. if b then (if comes_first old new first then NameUnused first.owner ∷ [] else []) else map (absent first.owner) (types_absent old new first)) e in
      asks (absent first.owner t) first among (subst (Among (absent first.owner t)) (sym is) ((among_map (absent first.owner) (types_absent old new first) (absent first.owner t)).1 (t, a, refl)))

  -- the types that are asked of
  alias_types : (first : Record) → is_cname (key_of first) ≡ true → types_absent old new first ≡ filter (λ t. is_below_origin t && lacks old first.owner t) kept_types
  alias_types first e = ap (λ b. if b then filter (λ t. is_below_origin t && lacks old first.owner t) kept_types
      else (if lacks old first.owner types.Cname && comes_first old new first then type_of first.rdata ∷ types.Cname ∷ [] else type_of first.rdata ∷ [])) e

  each_lacking : (name : List (List ℕ)) (t : RecordType) → is_below_origin t ≡ true → lacks old name t ≡ true → Among t (filter (λ u. is_below_origin u && lacks old name u) kept_types)
  each_lacking name t below e =
      filter_among (λ u. is_below_origin u && lacks old name u) kept_types t (among_of kept_types t (each_kept t)) (both_true (is_below_origin t) (lacks old name t) below e)

  own_type : (first : Record) → is_new old first ≡ true → Among (type_of first.rdata) (types_absent old new first)
  own_type first e = by_alias (is_cname (key_of first)) (lacks old first.owner types.Cname && comes_first old new first) refl
    where
      by_alias : (b c : Bool) → is_cname (key_of first) ≡ b
          → Among (type_of first.rdata) (if b then filter (λ t. is_below_origin t && lacks old first.owner t) kept_types else (if c then type_of first.rdata ∷ types.Cname ∷ [] else type_of first.rdata ∷ []))
      by_alias true c alias = each_lacking first.owner (type_of first.rdata) (ap is_below_origin (is_kind first types.Cname alias)) e
      by_alias false true alias = inl refl
      by_alias false false alias = inl refl

  alias_type : (first : Record) → is_cname (key_of first) ≡ false → lacks old first.owner types.Cname ≡ true → comes_first old new first ≡ true → Among types.Cname (types_absent old new first)
  alias_type first e none comes =
      let is : types_absent old new first ≡ type_of first.rdata ∷ types.Cname ∷ [] =
      (λ i. if e i then filter (λ t. is_below_origin t && lacks old first.owner t) kept_types
      else (if both_true (lacks old first.owner types.Cname) (comes_first old new first) none comes i then type_of first.rdata ∷ types.Cname ∷ [] else type_of first.rdata ∷ [])) in
      subst (Among types.Cname) (sym is) (inr (inl refl))

-- ---- which sets change

module _ (scope : GuardScope) (old new : Records) (ops : List Operation) (kept : AreKept old) (also : AreKept new) where
  -- whether the set of an owner and a type changes
  abbrev changes_at : List (List ℕ) → RecordType → Bool
  changes_at name t =
      if rank_of t == rank_of types.Soa then lists.list_any adds_soa ops
      else not (are_equal (listing (part old (at name t))) (listing (part new (at name t))))

  changed_first : (r x : Record) → Stands old r.owner (type_of r.rdata) x → changes_set old new ops r ≡ true → (f : First old x) × Among f.first (changed_firsts old new ops)
  changed_first r x stands changes =
      let f = first_like old kept x stands.0 in
      let changed : changes_set old new ops f.first ≡ true = (λ i. changes_at ((f.owner ∙ stands.1) i) ((f.type ∙ stands.2) i)) ∙ changes in
      (f, filter_among (λ s. is_first old s && changes_set old new ops s) (listing old) f.first (in_listed old kept f.first f.here) (both_true (is_first old f.first) (changes_set old new ops f.first) f.is changed))

  asked_there : (r x : Record) → Stands old r.owner (type_of r.rdata) x → changes_set old new ops r ≡ true → Among (there x) (guards_of scope old new ops)
  asked_there r x stands changes =
      let f = changed_first r x stands changes in tells scope old new ops kept f.0.first x f.1 (stands.0, sym f.0.owner, sym f.0.type)

  -- for a set that changes there is a prerequisite
  pub some_asked : (r : Record) → IsIn r old ⊎ IsIn r new → changes_set old new ops r ≡ true → (p : Prerequisite) × Among p (guards_of scope old new ops)
  some_asked r one changes = elim one [
    | inl here ↦ (there r, asked_there r r (here, refl, refl) changes)
    | inr here ↦ by_cases (is_new old r) ((p : Prerequisite) × Among p (guards_of scope old new ops)) (some_new here)
        (λ old_one. let x = some_stands old kept r.owner (type_of r.rdata) old_one in (there x.0, asked_there r x.0 x.1 changes))
  ]
    where
      some_new : IsIn r new → is_new old r ≡ true → (p : Prerequisite) × Among p (guards_of scope old new ops)
      some_new here e =
          let g = of_name scope old new ops kept also r here e in
          by_cases (tests_name scope old g.0.first.owner) ((p : Prerequisite) × Among p (guards_of scope old new ops))
          (λ bare. (NameUnused g.0.first.owner, asks_unused scope old new ops kept also g.0.first g.0.among bare g.1))
          (λ used. (
            absent g.0.first.owner (type_of g.0.first.rdata),
            asks_absent scope old new ops kept also g.0.first g.0.among used (type_of g.0.first.rdata) (own_type scope old new ops kept also g.0.first g.0.fresh),
          ))

-- ---- what they say of a zone in which they are met

module _ (scope : GuardScope) (old new now : Records) (ops : List Operation) (kept : AreKept old) (also : AreKept new) (met : AreMet now (guards_of scope old new ops)) where
  is_met : (p : Prerequisite) → Among p (guards_of scope old new ops) → IsMet now (guards_of scope old new ops) p
  is_met p a = among_all (IsMet now (guards_of scope old new ops)) (guards_of scope old new ops) p met a

  -- a set that is there has its data
  told_there : (r x : Record) → Stands old r.owner (type_of r.rdata) x → changes_set old new ops r ≡ true → HaveSameSet now old r
  told_there r x stands changes d =
      let f = changed_first scope old new ops kept also r x stands changes in
      let tested : IsMet now (guards_of scope old new ops) (there x) = is_met (there x) (asked_there scope old new ops kept also r x stands changes) in (
        λ has.
            let like : type_of d ≡ type_of r.rdata = sym (ap type_of has.2) ∙ has.1.2 in
            let given = (tested d (like ∙ sym stands.2)).0 (has.0, (has.1.0, has.1.1 ∙ sym stands.1, ap type_of has.2), has.2) in
            let t = told_equals scope old new ops kept x.owner d (among_of (guards_of scope old new ops) (RrsetEquals x.owner d) given) in
            let is : RrsetEquals t.one.owner t.one.rdata ≡ RrsetEquals x.owner d = t.is in
            let named : t.one.owner ≡ x.owner = cc in
            let same : t.one.rdata ≡ d = cc in
            (t.one, (t.stands.0, named ∙ stands.1, ap type_of same ∙ like), same),
        λ has.
            let like : type_of d ≡ type_of r.rdata = sym (ap type_of has.2) ∙ has.1.2 in
            let here : Among (there has.0) (guards_of scope old new ops) = tells scope old new ops kept f.0.first has.0 f.1 (has.1.0, has.1.1 ∙ sym (f.0.owner ∙ stands.1), has.1.2 ∙ sym (f.0.type ∙ stands.2)) in
            let equal : there has.0 ≡ RrsetEquals x.owner d = (λ i. RrsetEquals ((has.1.1 ∙ sym stands.1) i) (has.2 i)) in
            let given = of_among (guards_of scope old new ops) (RrsetEquals x.owner d) (subst (λ (p : Prerequisite). Among p (guards_of scope old new ops)) equal here) in
            let one = (tested d (like ∙ sym stands.2)).1 given in
            (one.0, (one.1.0, one.1.1 ∙ stands.1, one.1.2 ∙ like), one.2),
      )

  -- a name that the old zone has not is not in use
  nobody : (r : Record) → IsIn r new → is_new old r ≡ true → tests_name scope old r.owner ≡ true → (s : Record) → IsIn s now → s.owner ≢ r.owner
  nobody r here e bare s there owner =
      let g = of_name scope old new ops kept also r here e in
      let unused : tests_name scope old g.0.first.owner ≡ true = ap (tests_name scope old) g.0.owner ∙ bare in
      is_met (NameUnused g.0.first.owner) (asks_unused scope old new ops kept also g.0.first g.0.among unused g.1) s there (owner ∙ sym g.0.owner)

  -- at another name nothing is of a type that is asked of
  none_of : (first : Record) → Among first (new_firsts old new) → tests_name scope old first.owner ≡ false → (t : RecordType) → Among t (types_absent old new first) → (s : Record) → ¬ Stands now first.owner t s
  none_of first among used t a = is_met (absent first.owner t) (asks_absent scope old new ops kept also first among used t a)

  -- a set that is not there does not exist
  none_now : (r : Record) → IsIn r new → is_new old r ≡ true → IsOfNoSet now r
  none_now r here e s stands =
      by_cases (tests_name scope old r.owner) ⊥
      (λ bare. nobody r here e bare s stands.0 stands.1)
      (λ used.
      let f = of_set scope old new ops kept also r here e in
      none_of f.0.first f.0.among (ap (tests_name scope old) f.0.owner ∙ used) (type_of f.0.first.rdata) (own_type scope old new ops kept also f.0.first f.0.fresh) s
      (stands.0, stands.1 ∙ sym f.0.owner, stands.2 ∙ sym f.1))

  told_new : (r : Record) → IsIn r new → changes_set old new ops r ≡ true → HaveSameSet now old r
  told_new r here changes =
      by_cases (is_new old r) (HaveSameSet now old r)
      (λ fresh d. (
        λ has. absurd (none_now r here fresh has.0 has.1),
        λ has. absurd (none_stands old kept r.owner (type_of r.rdata) fresh has.0 has.1),
      ))
      (λ old_one. let x = some_stands old kept r.owner (type_of r.rdata) old_one in told_there r x.0 x.1 changes)

  pub guards_tell : (r : Record) → IsIn r old ⊎ IsIn r new → changes_set old new ops r ≡ true → HaveSameSet now old r
  guards_tell r one changes = elim one [ inl here ↦ told_there r r (here, refl, refl) changes | inr here ↦ told_new r here changes ]

  -- ---- room for what comes

  room_alias : (r : Record) → IsIn r new → is_new old r ≡ true → type_of r.rdata ≡ types.Cname → (s : Record) → IsIn s now → s.owner ≡ r.owner → type_of s.rdata ≢ types.Soa
      → (t : Record) × Stands old r.owner (type_of s.rdata) t
  room_alias r here e alias s there owner other =
      by_cases (lacks old r.owner (type_of s.rdata)) ((t : Record) × Stands old r.owner (type_of s.rdata) t)
      (λ none. absurd (by_cases (tests_name scope old r.owner) ⊥
      (λ bare. nobody r here e bare s there owner)
      (λ used.
      let f = of_set scope old new ops kept also r here e in
      let first : Record = f.0.first in
      let types_are = alias_types scope old new ops kept also first (kind (key_of first) types.Cname (ap rank_of (f.1 ∙ alias))) in
      let a = each_lacking scope old new ops kept also first.owner (type_of s.rdata) (below_origin (type_of s.rdata) other) (ap (λ n. lacks old n (type_of s.rdata)) f.0.owner ∙ none) in
      none_of first f.0.among (ap (tests_name scope old) f.0.owner ∙ used) (type_of s.rdata) (subst (Among (type_of s.rdata)) (sym types_are) a) s (there, owner ∙ sym f.0.owner, refl))))
      (λ some. some_stands old kept r.owner (type_of s.rdata) some)

  -- where an alias is alone at its name, and not at the origin
  module _ (alone : (r s : Record) → IsIn r new → IsIn s new → type_of r.rdata ≡ types.Cname → s.owner ≡ r.owner → s ≡ r)
      (below : (r s : Record) → IsIn r new → IsIn s now → type_of r.rdata ≡ types.Cname → s.owner ≡ r.owner → type_of s.rdata ≢ types.Soa) where
    room_other : (r : Record) → IsIn r new → is_new old r ≡ true → type_of r.rdata ≢ types.Cname → ((t : Record) → ¬ Stands old r.owner types.Cname t) → (s : Record) → ¬ Stands now r.owner types.Cname s
    room_other r here e other none s stands =
        by_cases (tests_name scope old r.owner) ⊥
        (λ bare. nobody r here e bare s stands.0 stands.1)
        (λ used.
        let g = of_name scope old new ops kept also r here e in
        let first : Record = g.0.first in
        let no_alias : is_cname (key_of first) ≡ false =
        false_from_ne_true (is_cname (key_of first)) (λ t.
        let alias = is_kind first types.Cname t in
        other (ap (λ (x : Record). type_of x.rdata) (alone first r g.0.here here alias (sym g.0.owner)) ∙ alias)) in
        let lacking : lacks old first.owner types.Cname ≡ true = ap (λ n. lacks old n types.Cname) g.0.owner ∙ stands_none old kept r.owner types.Cname none in
        none_of first g.0.among (ap (tests_name scope old) g.0.owner ∙ used) types.Cname (alias_type scope old new ops kept also first no_alias lacking g.1) s
        (stands.0, stands.1 ∙ sym g.0.owner, stands.2))

    pub guards_make_room : (r : Record) → IsIn r new → IsOfNoSet old r → HasRoom old now r
    guards_make_room r here none =
        let fresh = stands_none old kept r.owner (type_of r.rdata) none in
        record { alias = λ alias s there owner. room_alias r here fresh alias s there owner (below r s here there alias owner); other = room_other r here fresh }
