-- What the rules of adding and deleting make of a row of the records at one name.
use Rattle.std.proofs.Common.{◌≡◌, ℕ, zero, suc, ◌≤◌, List, [], ◌∷◌, ◌++◌, length, take, drop, map, Bool, true, false, not, ◌&&◌, ◌||◌, ◌==◌, if◌then◌else◌, refl, sym, ap, subst, ◌∙◌}
use Rattle.std.specs.Ordering.{is_lt}
use Rattle.std.specs.List.{AllByRecursion, filter, list_any, insert as insert_at}
use Rattle.std.specs.List.Sorted.{IsPartitionPoint, IsPartitionedBy, IsStrictlySortedBy}
use Rattle.std.specs.FinMap.{empty}
use Rattle.dns_names.specs.Order.{same_name}
use Rattle.dns_data.specs.declared.record.Record.{Record}
use Rattle.dns_data.specs.declared.record_type.RecordType.{RecordType}
use Rattle.dns_data.specs.declared.record_type.RecordType.TheVariants as types
use Rattle.dns_data.specs.declared.rdata.Data.{Data}
use Rattle.dns_data.specs.Rdata.{type_of}
use Rattle.zone_core.specs.Sets.{Records, key_of, rank_of, same_key, set_of, record_order, put, cut, has, at, at_name, with_ttl, InOrder}
use Rattle.zone_core.specs.Zones.{soa_at}
use Rattle.zone_core.specs.Prerequisites.{same_data}
use Rattle.zone_core.specs.Effects.{add_soa, add_cname, add_other, takes_over, is_other_type, is_guarded, delete_rrset, delete_record, stays, key_at, is_other_ns}
use Rattle.zone_core.specs.Nodes.{IsNode, Becomes, with_type_ttl}
use Rattle.zone_core.proofs.NodeLemmas.{cut_node, has_node, same_node, at_here, other_here, name_here, key_here, ns_here, nothing_kept}
use Rattle.zone_core.proofs.PutLemmas.{put_row, put_again, new_of, parted, ttl_node}

-- one row in the place of another, and one set
pub becomes : (name : List (List ℕ)) (rs xs : List Record) (a b : Records) → rs ≡ xs → a ≡ b → Becomes name xs a → Becomes name rs b
becomes name rs xs a b e f is = subst (λ ys. Becomes name ys b) (sym e) (subst (Becomes name xs) f is)

all_insert : (P : Record → Type 0) (xs : List Record) (i : ℕ) (r : Record) → P r → AllByRecursion P xs → AllByRecursion P (insert_at xs i r)
all_insert P xs i r one all = all_append (take i xs) (r ∷ drop i xs) (all_take i xs all) (one, all_drop i xs all)
  where
    all_append : (xs ys : List Record) → AllByRecursion P xs → AllByRecursion P ys → AllByRecursion P (xs ++ ys)
    all_append [] ys a b = b
    all_append (x ∷ xs) ys a b = (a.0, all_append xs ys a.1 b)

    all_take : (i : ℕ) (xs : List Record) → AllByRecursion P xs → AllByRecursion P (take i xs)
    all_take zero xs a = tt
    all_take (suc i) [] a = tt
    all_take (suc i) (x ∷ xs) a = (a.0, all_take i xs a.1)

    all_drop : (i : ℕ) (xs : List Record) → AllByRecursion P xs → AllByRecursion P (drop i xs)
    all_drop zero xs a = a
    all_drop (suc i) [] a = tt
    all_drop (suc i) (x ∷ xs) a = all_drop i xs a.1

one_order : (r : Record) → InOrder (r ∷ [])
unfolding IsStrictlySortedBy
one_order r = (tt, tt)

one_node : (r : Record) → IsNode r.owner (r ∷ [])
one_node r = record { order = one_order r; here = (refl, tt) }

-- ---- putting

module _ (r : Record) (rs : List Record) (node : IsNode r.owner rs) where
  same_test : (x : Record) → x.owner ≡ r.owner → not (same_data r.rdata x.rdata) ≡ not (same_key (key_of r) (key_of x))
  same_test x e = ap not (key_here r.owner x e r.rdata)

  pub put_node : (xs : List Record) (i : ℕ) → xs ≡ filter (λ x. not (same_data r.rdata x.rdata)) rs → i ≤ length xs
      → (IsPartitionedBy (λ x. is_lt (record_order x r)) xs → IsPartitionPoint (λ x. is_lt (record_order x r) ≡ true) (λ x. is_lt (record_order x r) ≡ false) xs i)
      → Becomes r.owner (insert_at xs i r) (put (set_of rs) r)
  put_node xs i e within parts =
      let is : Becomes r.owner xs (cut (set_of rs) (same_key (key_of r))) =
      subst (λ ys. Becomes r.owner ys (cut (set_of rs) (same_key (key_of r)))) (sym e) (cut_node r.owner rs node (λ x. not (same_data r.rdata x.rdata)) (same_key (key_of r)) same_test) in
      let new = subst (λ ys. AllByRecursion (λ x. same_key (key_of r) (key_of x) ≡ false) ys) (sym e) (new_of r (λ x. not (same_data r.rdata x.rdata)) same_test rs node) in
      let row = put_row r xs i is.node.order within new (parts (parted r xs is.node.order)) in
      record {
        node = record { order = row.0; here = all_insert (λ x. x.owner ≡ r.owner) xs i r refl is.node.here };
        set = row.1 ∙ ap (λ (s : Records). put s r) is.set ∙ put_again (set_of rs) r;
      }

  -- ---- adding

  -- a CNAME beside a record of another type is left out
  pub cname_ignored : list_any (λ x. not ((key_of x).1 == rank_of types.Cname)) rs ≡ true → Becomes r.owner rs (add_cname (set_of rs) r)
  cname_ignored e =
      let found : has (set_of rs) (is_other_type r.owner) ≡ true = sym (has_node r.owner rs node (λ x. not ((key_of x).1 == rank_of types.Cname)) (is_other_type r.owner) (λ x h. other_here r.owner x h)) ∙ e in
      subst (Becomes r.owner rs) (ap (λ b. if b then set_of rs else put (cut (set_of rs) (at_name r.owner)) r) (sym found)) (same_node r.owner rs node)

  -- else it stands alone
  pub cname_put : list_any (λ x. not ((key_of x).1 == rank_of types.Cname)) rs ≡ false → Becomes r.owner (r ∷ []) (add_cname (set_of rs) r)
  cname_put e =
      let found : has (set_of rs) (is_other_type r.owner) ≡ false = sym (has_node r.owner rs node (λ x. not ((key_of x).1 == rank_of types.Cname)) (is_other_type r.owner) (λ x h. other_here r.owner x h)) ∙ e in
      let none = cut_node r.owner rs node (λ x. false) (at_name r.owner) (λ x h. ap not (name_here r.owner x h)) in
      let bare : empty ≡ cut (set_of rs) (at_name r.owner) = ap set_of (sym (nothing_kept rs)) ∙ none.set in
      record {
        node = one_node r;
        set = ap (λ (s : Records). put s r) bare ∙ ap (λ b. if b then set_of rs else put (cut (set_of rs) (at_name r.owner)) r) (sym found);
      }

  has_cname : list_any (λ x. (key_of x).1 == rank_of types.Cname) rs ≡ has (set_of rs) (at r.owner types.Cname)
  has_cname = has_node r.owner rs node (λ x. (key_of x).1 == rank_of types.Cname) (at r.owner types.Cname) (λ x h. at_here r.owner x h types.Cname)

  -- a record of another type beside a CNAME is left out
  pub other_ignored : list_any (λ x. (key_of x).1 == rank_of types.Cname) rs ≡ true → Becomes r.owner rs (add_other (set_of rs) r)
  other_ignored e =
      subst (Becomes r.owner rs) (ap (λ b. if b then set_of rs else put (with_ttl (set_of rs) (at r.owner (type_of r.rdata)) r.ttl) r) (sym (sym has_cname ∙ e))) (same_node r.owner rs node)

  -- else it is put, and its set has its TTL
  pub other_put : list_any (λ x. (key_of x).1 == rank_of types.Cname) rs ≡ false → (xs : List Record) → Becomes r.owner xs (put (set_of (map (with_type_ttl (type_of r.rdata) r.ttl) rs)) r) → Becomes r.owner xs (add_other (set_of rs) r)
  other_put e xs is =
      subst (Becomes r.owner xs)
      (ap (λ (s : Records). put s r) (ttl_node r.owner (type_of r.rdata) r.ttl rs node).set ∙ ap (λ b. if b then set_of rs else put (with_ttl (set_of rs) (at r.owner (type_of r.rdata)) r.ttl) r) (sym (sym has_cname ∙ e))) is

  -- an SOA that does not take over is left out
  pub soa_ignored : takes_over r (soa_at r.owner (set_of rs)) ≡ false → Becomes r.owner rs (add_soa (set_of rs) r)
  soa_ignored e = subst (Becomes r.owner rs) (ap (λ b. if b then put (cut (set_of rs) (at r.owner types.Soa)) r else set_of rs) (sym e)) (same_node r.owner rs node)

  -- else it takes the place of the one there
  pub soa_put : takes_over r (soa_at r.owner (set_of rs)) ≡ true → (xs ys : List Record) → xs ≡ filter (λ x. not ((key_of x).1 == rank_of types.Soa)) rs → Becomes r.owner ys (put (set_of xs) r) → Becomes r.owner ys (add_soa (set_of rs) r)
  soa_put e xs ys is put_is =
      let cut_is = cut_node r.owner rs node (λ x. not ((key_of x).1 == rank_of types.Soa)) (at r.owner types.Soa) (λ x h. ap not (at_here r.owner x h types.Soa)) in
      subst (Becomes r.owner ys)
      (ap (λ (zs : List Record). put (set_of zs) r) is ∙ ap (λ (s : Records). put s r) cut_is.set ∙ ap (λ b. if b then put (cut (set_of rs) (at r.owner types.Soa)) r else set_of rs) (sym e)) put_is

-- ---- deleting

module _ (origin name : List (List ℕ)) (rs : List Record) (node : IsNode name rs) where
  pub rrset_kept : (t : RecordType) → same_name name origin ≡ true → is_guarded (rank_of t) ≡ true → Becomes name rs (delete_rrset origin (set_of rs) name t)
  rrset_kept t e f = subst (Becomes name rs) (λ i. if sym e i && sym f i then set_of rs else cut (set_of rs) (at name t)) (same_node name rs node)

  pub rrset_cut : (t : RecordType) (xs : List Record) → (same_name name origin && is_guarded (rank_of t)) ≡ false → xs ≡ filter (λ x. not ((key_of x).1 == rank_of t)) rs → Becomes name xs (delete_rrset origin (set_of rs) name t)
  rrset_cut t xs e is =
      becomes name xs (filter (λ x. not ((key_of x).1 == rank_of t)) rs) (cut (set_of rs) (at name t)) (delete_rrset origin (set_of rs) name t) is
      (ap (λ b. if b then set_of rs else cut (set_of rs) (at name t)) (sym e))
      (cut_node name rs node (λ x. not ((key_of x).1 == rank_of t)) (at name t) (λ x h. ap not (at_here name x h t)))

  pub record_kept : (rdata : Data) → stays origin (set_of rs) (key_at name rdata) ≡ true → Becomes name rs (delete_record origin (set_of rs) (key_at name rdata))
  record_kept rdata e = subst (Becomes name rs) (ap (λ b. if b then set_of rs else cut (set_of rs) (same_key (key_at name rdata))) (sym e)) (same_node name rs node)

  pub record_cut : (rdata : Data) (xs : List Record) → stays origin (set_of rs) (key_at name rdata) ≡ false → xs ≡ filter (λ x. not (same_data rdata x.rdata)) rs → Becomes name xs (delete_record origin (set_of rs) (key_at name rdata))
  record_cut rdata xs e is =
      becomes name xs (filter (λ x. not (same_data rdata x.rdata)) rs) (cut (set_of rs) (same_key (key_at name rdata))) (delete_record origin (set_of rs) (key_at name rdata)) is
      (ap (λ b. if b then set_of rs else cut (set_of rs) (same_key (key_at name rdata))) (sym e))
      (cut_node name rs node (λ x. not (same_data rdata x.rdata)) (same_key (key_at name rdata)) (λ x h. ap not (key_here name x h rdata)))

  -- whether another NS stands beside
  pub other_ns : (rdata : Data) → list_any (λ x. ((key_of x).1 == rank_of types.Ns) && not (same_data rdata x.rdata)) rs ≡ has (set_of rs) (is_other_ns (key_at name rdata))
  other_ns rdata = has_node name rs node (λ x. ((key_of x).1 == rank_of types.Ns) && not (same_data rdata x.rdata)) (is_other_ns (key_at name rdata)) (λ x h. ns_here name x h rdata)

pub first_false : (a b : Bool) → a ≡ false → (a && b) ≡ false
first_false true b e = absurd cc
first_false false b e = refl

pub second_false : (a b : Bool) → b ≡ false → (a && b) ≡ false
second_false true b e = e
second_false false b e = refl

by_parts : (here soa ns h : Bool) → here ≡ true → soa ≡ false → ns ≡ true → not h ≡ (here && (soa || (ns && not h)))
by_parts true true ns h e f g = absurd cc
by_parts true false true h e f g = refl
by_parts true false false h e f g = absurd cc
by_parts false soa ns h e f g = absurd cc

-- at the origin an NS stays where no other stands beside it
pub ns_stays : (origin name : List (List ℕ)) (whole : Records) (rdata : Data) → same_name name origin ≡ true → type_of rdata ≡ types.Ns
    → not (has whole (is_other_ns (key_at name rdata))) ≡ stays origin whole (key_at name rdata)
ns_stays origin name whole rdata here t =
    by_parts (same_name name origin) (rank_of (type_of rdata) == rank_of types.Soa) (rank_of (type_of rdata) == rank_of types.Ns) (has whole (is_other_ns (key_at name rdata))) here (rw t refl) (rw t refl)
