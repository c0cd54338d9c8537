-- A report tells exactly the delegations that records make.
use Rattle.std.proofs.Common.{◌≡◌, ◌↔◌, ◌⊎◌, List, [], ◌∷◌, map, Bool, true, false, cond, not, ◌&&◌, ◌||◌, ◌==◌, if◌then◌else◌, is_some, inl, inr, refl, sym, ap, subst, ◌∙◌}
use lib.Dec.{T}
use Rattle.std.specs.declared.cmp.Ordering.{Ordering}
use Rattle.std.specs.declared.cmp.Ordering.TheVariants.{Less, Equal, Greater}
use Rattle.std.specs.Ordering.{is_lt}
use Rattle.std.specs.Bool.{Decides}
use Rattle.std.specs.FinMap.{entries, entries_sorted, get-entries, get-from_entries, from_entries, keys, find, is_sorted}
use Rattle.std.specs.FinMap.Entries.{below_all}
use Rattle.std.specs.List.{AllByRecursion, Contains, list_any, filter, flat_map}
use Rattle.std.specs.List.Sorted.{IsStrictlySortedBy}
use Rattle.std.proofs.lemmas.Bool.{and_parts}
use Rattle.std.proofs.lemmas.Bool.Decides.{Decides-or, Decides-like}
use Rattle.std.proofs.lemmas.Map.Views.{list_any-from_Contains, Contains-from_any}
use Rattle.dns_names.specs.Labels.{IsWithin, IsBelow, is_within}
use Rattle.dns_names.specs.Order.{canonical_cmp, canonical_total, same_name, same_name_equiv}
use Rattle.dns_names.proofs.NameLemmas.{is_within-Decides}
use Rattle.dns_data.specs.declared.record.Record.{Record}
use Rattle.dns_data.specs.declared.record_type.RecordType.{RecordType}
use Rattle.dns_data.specs.declared.record_type.RecordType.TheVariants as types
use Rattle.dns_data.specs.declared.rdata.Data.{Data}
use Rattle.dns_data.specs.declared.rdata.Data.TheVariants as variants
use Rattle.dns_data.specs.Rdata.{type_of}
use Rattle.dns_data.proofs.RecordOrderLemmas.{one_rank}
use Rattle.zone_core.specs.declared.report.Glue.TheVariants as glues
use Rattle.zone_core.specs.declared.report.DelegatedServer.{DelegatedServer}
use Rattle.zone_core.specs.Sets.{key_of, rank_of, set_of, InOrder, has, at}
use Rattle.zone_core.specs.Delegations.{is_below, AreNamesOf, cut_owner, cut_owners, server_in, server_names, glue_of, server_of, names_in_order, DelegationOf, child_report, IsCutAt, IsServerOf, HasAddress, IsGlueOf, IsReported, ReportsAreExact}
use Rattle.zone_core.proofs.SetLemmas.{name_is}
use Rattle.zone_core.proofs.RowLemmas.{has_is}
use Rattle.zone_core.proofs.ZoneLemmas.{at_has, at_is, kind, is_kind}
use Rattle.zone_core.proofs.MetLemmas.{Among, among_of, of_among, any_is, is_any, among_append}
use Rattle.zone_core.proofs.NameListLemmas.{Name, Names, paired, is_found}
use Rattle.zone_core.proofs.BelowLemmas.{below-Decides}

-- ---- the names of a list in order

repaired : (es : List (Name × Unit {0})) → paired (map (λ (e : Name × Unit {0}). e.0) es) ≡ es
repaired [] = refl
repaired (e ∷ es) = ap (λ xs. e ∷ xs) (repaired es)

first_of : (a b : Bool) → T (a && b) → T a
first_of true b p = tt
first_of false b p = p

second_of : (a b : Bool) → T (a && b) → T b
second_of true b p = p
second_of false b p = absurd p

less_is : (r : Ordering) → T (is_lt r) → r ≡ Less
less_is Less p = refl
less_is Equal p = absurd p
less_is Greater p = absurd p

all_below : (name : Name) (names : List Name) → T (below_all canonical_cmp name (paired names)) → AllByRecursion (λ y. canonical_cmp name y ≡ Less) names
all_below name [] below = tt
all_below name (y ∷ names) below =
    let first = is_lt (canonical_cmp name y) in
    let others = below_all canonical_cmp name (paired names) in
    (less_is (canonical_cmp name y) (first_of first others below), all_below name names (second_of first others below))

order_is : (names : List Name) → T (is_sorted canonical_cmp (paired names)) → IsStrictlySortedBy canonical_cmp names
unfolding IsStrictlySortedBy
order_is [] sorted = tt
order_is (name ∷ names) sorted =
    let first = below_all canonical_cmp name (paired names) in
    let others = is_sorted canonical_cmp (paired names) in
    (all_below name names (first_of first others sorted), order_is names (second_of first others sorted))

module _ (all : List Name) where
  abbrev made : Names
  made = from_entries {R = canonical_cmp} (paired all)

  same_test : (name : Name) → list_any (same_name name) (keys made) ≡ list_any (same_name name) all
  same_test name =
      sym (is_found name (keys made))
      ∙ ap (λ (es : List (Name × Unit {0})). is_some (find canonical_cmp name es)) (repaired (entries made))
      ∙ ap is_some (sym (get-entries made name) ∙ get-from_entries canonical_total (paired all) name)
      ∙ is_found name all

  pub names_are : AreNamesOf (names_in_order all) all
  names_are = record {
    order = order_is (keys made) (subst (λ es. T (is_sorted canonical_cmp es)) (sym (repaired (entries made))) (entries_sorted made));
    members = λ name. (
      λ c. Contains-from_any name_is name all (sym (same_test name) ∙ list_any-from_Contains same_name_equiv name (keys made) c),
      λ c. Contains-from_any name_is name (keys made) (same_test name ∙ list_any-from_Contains same_name_equiv name all c),
    );
  }

-- ---- cuts

module _ (origin name : Name) where
  -- a record with which the zone is cut at the name
  abbrev Cuts : Record → Type 0
  Cuts r = (r.owner ≡ name) × (type_of r.rdata ≡ types.Ns) × IsBelow name origin

  one_cut : (r : Record) → Among name (cut_owner origin r) ↔ Cuts r
  one_cut r = by_test (((key_of r).1 == rank_of types.Ns) && is_below r.owner origin) refl
    where
      by_test : (b : Bool) → (((key_of r).1 == rank_of types.Ns) && is_below r.owner origin) ≡ b → Among name (if b then r.owner ∷ [] else []) ↔ Cuts r
      by_test true e =
          let both = and_parts ((key_of r).1 == rank_of types.Ns) (is_below r.owner origin) e in (
            λ a. (elim a [
              | inl same ↦ (sym same, is_kind r types.Ns both.0, subst (λ n. IsBelow n origin) (sym same) ((below-Decides r.owner origin).0 both.1))
              | inr none ↦ absurd none
            ]),
            λ c. inl (sym c.0),
          )
      by_test false e = (
        λ a. absurd a,
        λ c.
            let here : ((key_of r).1 == rank_of types.Ns) ≡ true = kind (key_of r) types.Ns (ap rank_of c.1) in
            let below : is_below r.owner origin ≡ true = (below-Decides r.owner origin).1 (subst (λ n. IsBelow n origin) (sym c.0) c.2) in
            let bad : true ≡ false = sym (λ i. here i && below i) ∙ e in
            absurd cc,
      )

  all_cuts : (rs : List Record) → Among name (cut_owners origin rs) ↔ ((r : Record) × Among r rs × Cuts r)
  all_cuts [] = (λ a. absurd a, λ c. absurd c.1)
  all_cuts (x ∷ rs) =
      let parts = among_append (cut_owner origin x) (cut_owners origin rs) name in
      let one = one_cut x in
      let rest = all_cuts rs in (
        λ a. (elim (parts.0 a) [ inl here ↦ (x, inl refl, one.0 here) | inr later ↦ (let c = rest.0 later in (c.0, inr c.1, c.2)) ]),
        λ c. parts.1 (elim (c.1) [ inl same ↦ inl (one.1 (subst Cuts same c.2)) | inr later ↦ inr (rest.1 (c.0, later, c.2)) ]),
      )

  pub cut_is : (rs : List Record) → Contains (cut_owners origin rs) name ↔ IsCutAt origin rs name
  cut_is rs =
      let all = all_cuts rs in (
        λ c. let found = all.0 (among_of (cut_owners origin rs) name c) in (found.2.2, (found.0, of_among rs found.0 found.1, found.2.0, found.2.1)),
        λ cut. of_among (cut_owners origin rs) name (all.1 (cut.1.0, among_of rs cut.1.0 cut.1.1, (cut.1.2, cut.1.3, cut.0))),
      )

-- ---- servers

named_in : (server : Name) (d : Data) → Among server (server_in d) ↔ (d ≡ variants.Ns server)
named_in server (variants.Ns s) = (λ a. (elim a [ inl same ↦ ap variants.Ns (sym same) | inr none ↦ absurd none ]), λ e. inl (sym (ns_is s server e)))
  where
    ns_is : (a b : Name) → variants.Ns a ≡ variants.Ns b → a ≡ b
    ns_is a b e = cc
named_in server d = (λ a. absurd a, λ e. absurd cc)

module _ (child server : Name) where
  abbrev Names_it : Record → Type 0
  Names_it r = (r.owner ≡ child) × (r.rdata ≡ variants.Ns server)

  all_servers : (rs : List Record) → Among server (server_names child rs) ↔ ((r : Record) × Among r rs × Names_it r)
  all_servers [] = (λ a. absurd a, λ c. absurd c.1)
  all_servers (x ∷ rs) = by_test (at child types.Ns (key_of x)) refl (all_servers rs)
    where
      by_test : (b : Bool) → at child types.Ns (key_of x) ≡ b → Among server (server_names child rs) ↔ ((r : Record) × Among r rs × Names_it r)
          → Among server (flat_map (λ r. server_in r.rdata) (cond b (x ∷ filter (λ r. at child types.Ns (key_of r)) rs) (filter (λ r. at child types.Ns (key_of r)) rs))) ↔ ((r : Record) × Among r (x ∷ rs) × Names_it r)
      by_test true e rest =
          let parts = among_append (server_in x.rdata) (server_names child rs) server in
          let one = named_in server x.rdata in (
            λ a. (elim (parts.0 a) [
              | inl here ↦ (x, inl refl, ((at_is child types.Ns (key_of x) e).0, one.0 here))
              | inr later ↦ (let c = rest.0 later in (c.0, inr c.1, c.2))
            ]),
            λ c. parts.1 (elim (c.1) [ inl same ↦ inl (one.1 (subst Names_it same c.2).1) | inr later ↦ inr (rest.1 (c.0, later, c.2)) ]),
          )
      by_test false e rest = (
        λ a. let c = rest.0 a in (c.0, inr c.1, c.2),
        λ c. (elim (c.1) [
          | inl same ↦
              (let it = subst Names_it same c.2 in
              let bad : true ≡ false = sym (at_has child types.Ns (key_of x) it.0 (ap (λ (d : Data). rank_of (type_of d)) it.1)) ∙ e in
              absurd cc)
          | inr later ↦ rest.1 (c.0, later, c.2)
        ]),
      )

  server_is : (rs : List Record) → Contains (server_names child rs) server ↔ IsServerOf rs child server
  server_is rs =
      let all = all_servers rs in (
        λ c. let found = all.0 (among_of (server_names child rs) server c) in (found.0, of_among rs found.0 found.1, found.2.0, found.2.1),
        λ s. of_among (server_names child rs) server (all.1 (s.0, among_of rs s.0 s.1, (s.2, s.3))),
      )

-- ---- glue

module _ (rs : List Record) (order : InOrder rs) where
  -- records of a type at a name
  abbrev HasOf : Name → RecordType → Type 0
  HasOf name t = (r : Record) × Contains rs r × (r.owner ≡ name) × (type_of r.rdata ≡ t)

  has_of : (name : Name) (t : RecordType) → Decides (has (set_of rs) (at name t)) (HasOf name t)
  has_of name t =
      let is = has_is (at name t) rs order in (
        λ e.
            let found = any_is (λ r. at name t (key_of r)) rs (sym is ∙ e) in
            let both = at_is name t (key_of found.0) found.2 in
            (found.0, of_among rs found.0 found.1, both.0, one_rank (type_of found.0.rdata) t both.1),
        λ h. is ∙ is_any (λ r. at name t (key_of r)) rs h.0 (among_of rs h.0 h.1) (at_has name t (key_of h.0) h.2 (ap rank_of h.3)),
      )

  has_address : (name : Name) → Decides (has (set_of rs) (at name types.A) || has (set_of rs) (at name types.Aaaa)) (HasAddress rs name)
  has_address name =
      Decides-like (has (set_of rs) (at name types.A) || has (set_of rs) (at name types.Aaaa))
      (λ (either : HasOf name types.A ⊎ HasOf name types.Aaaa). (elim either [
        | inl a ↦ (a.0, a.1, a.2, inl a.3)
        | inr aaaa ↦ (aaaa.0, aaaa.1, aaaa.2, inr aaaa.3)
      ]))
      (λ h. (elim (h.3) [ inl a ↦ inl (h.0, h.1, h.2, a) | inr aaaa ↦ inr (h.0, h.1, h.2, aaaa) ]))
      (Decides-or (has (set_of rs) (at name types.A)) (has (set_of rs) (at name types.Aaaa)) (has_of name types.A) (has_of name types.Aaaa))

  glue_is : (child server : Name) → IsGlueOf rs child server (glue_of rs child server)
  glue_is child server = by_tests (is_within server child) (is_within-Decides server child) (has (set_of rs) (at server types.A) || has (set_of rs) (at server types.Aaaa)) (has_address server)
    where
      by_tests : (b : Bool) → Decides b (IsWithin server child) → (c : Bool) → Decides c (HasAddress rs server)
          → IsGlueOf rs child server (if not b then glues.Outside else (if c then glues.Listed else glues.Unlisted))
      by_tests false d c g = λ inside. let bad : false ≡ true = d.1 inside in cc
      by_tests true d true g = (d.0 refl, g.0 refl)
      by_tests true d false g = (d.0 refl, λ h. let bad : false ≡ true = g.1 h in cc)

  -- ---- reports

  all_glue : (child : Name) (names : List Name) → AllByRecursion (λ s. IsGlueOf rs child s.name s.glue) (map (server_of rs child) names)
  all_glue child [] = tt
  all_glue child (name ∷ names) = (glue_is child name, all_glue child names)

  named_back : (child : Name) (names : List Name) → map (λ (s : DelegatedServer). s.name) (map (server_of rs child) names) ≡ names
  named_back child [] = refl
  named_back child (name ∷ names) = ap (λ xs. name ∷ xs) (named_back child names)

  one_report : (child : Name) → IsReported rs (child_report rs child)
  one_report child =
      let names = names_in_order (server_names child rs) in
      let are = names_are (server_names child rs) in
      let back = named_back child names in
      record {
        order = subst (IsStrictlySortedBy canonical_cmp) (sym back) are.order;
        servers = λ name.
            let is = server_is child name rs in (
              λ c. is.0 ((are.members name).0 (subst (λ (ns : List Name). Contains ns name) back c)),
              λ s. subst (λ (ns : List Name). Contains ns name) (sym back) ((are.members name).1 (is.1 s)),
            );
        glue = all_glue child names;
      }

  all_reports : (names : List Name) → AllByRecursion (IsReported rs) (map (child_report rs) names)
  all_reports [] = tt
  all_reports (name ∷ names) = (one_report name, all_reports names)

  children_back : (names : List Name) → map (λ (d : DelegationOf). d.child) (map (child_report rs) names) ≡ names
  children_back [] = refl
  children_back (name ∷ names) = ap (λ xs. name ∷ xs) (children_back names)

pub reports_are_exact : ReportsAreExact
reports_are_exact origin rs order =
    let names = names_in_order (cut_owners origin rs) in
    let are = names_are (cut_owners origin rs) in
    let back = children_back rs order names in
    record {
      order = subst (IsStrictlySortedBy canonical_cmp) (sym back) are.order;
      children = λ name.
          let is = cut_is origin name rs in (
            λ c. is.0 ((are.members name).0 (subst (λ (ns : List Name). Contains ns name) back c)),
            λ cut. subst (λ (ns : List Name). Contains ns name) (sym back) ((are.members name).1 (is.1 cut)),
          );
      each = all_reports rs order names;
    }
