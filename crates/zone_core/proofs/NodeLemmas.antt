-- Rows of the records at one name: tests of a record, where the owner is known, are tests of its key.
use Rattle.std.proofs.Common.{◌≡◌, ℕ, List, [], ◌∷◌, Bool, true, false, cond, not, ◌&&◌, ◌||◌, ◌==◌, Some, refl, sym, ap, ◌∙◌}
use Rattle.std.specs.List.{AllByRecursion, filter, list_any, find}
use Rattle.std.specs.declared.cmp.Ordering.{Ordering}
use Rattle.std.specs.declared.cmp.Ordering.TheVariants.{Less, Equal, Greater}
use Rattle.std.specs.Ordering.{is_eq, ordering_then, nat_cmp}
use Rattle.std.specs.Cmp.{tied_itself}
use Rattle.dns_names.specs.Order.{same_name, canonical_cmp, canonical_total}
use Rattle.dns_data.specs.declared.record.Record.{Record}
use Rattle.dns_data.specs.declared.record_type.RecordType.{RecordType}
use Rattle.dns_data.specs.declared.record_type.RecordType.TheVariants as types
use Rattle.dns_data.specs.declared.rdata.Data.{Data}
use Rattle.dns_data.specs.Rdata.{type_of}
use Rattle.zone_core.specs.Sets.{Key, key_of, rank_of, same_key, set_of, cut, has, at, at_name}
use Rattle.zone_core.specs.Zones.{is_soa, soa_at, first_of}
use Rattle.zone_core.specs.Prerequisites.{same_data}
use Rattle.zone_core.specs.Effects.{is_other_type, is_other_ns, key_at, goes, is_guarded}
use Rattle.zone_core.specs.Nodes.{IsNode, Becomes}
use Rattle.zone_core.proofs.SetLemmas.{name_self}
use Rattle.zone_core.proofs.RowLemmas.{set_of-filter, InOrder-filter, listing-part, has_is}

all_filter : (P : Record → Type 0) (q : Record → Bool) (rs : List Record) → AllByRecursion P rs → AllByRecursion P (filter q rs)
all_filter P q [] all = tt
all_filter P q (r ∷ rs) all = by_test (q r) (all_filter P q rs all.1)
  where
    by_test : (b : Bool) → AllByRecursion P (filter q rs) → AllByRecursion P (cond b (r ∷ filter q rs) (filter q rs))
    by_test true rest = (all.0, rest)
    by_test false rest = rest

filter_here : (name : List (List ℕ)) (q p : Record → Bool) → ((r : Record) → r.owner ≡ name → q r ≡ p r) → (rs : List Record) → AllByRecursion (λ r. r.owner ≡ name) rs → filter q rs ≡ filter p rs
filter_here name q p same [] all = refl
filter_here name q p same (r ∷ rs) all = λ i. cond (same r all.0 i) (r ∷ filter_here name q p same rs all.1 i) (filter_here name q p same rs all.1 i)

any_here : (name : List (List ℕ)) (q p : Record → Bool) → ((r : Record) → r.owner ≡ name → q r ≡ p r) → (rs : List Record) → AllByRecursion (λ r. r.owner ≡ name) rs → list_any q rs ≡ list_any p rs
any_here name q p same [] all = refl
any_here name q p same (r ∷ rs) all = λ i. same r all.0 i || any_here name q p same rs all.1 i

find_filter : (q : Record → Bool) (rs : List Record) → find q rs ≡ first_of (filter q rs)
find_filter q [] = refl
find_filter q (r ∷ rs) = by_test (q r) (find_filter q rs)
  where
    by_test : (b : Bool) → find q rs ≡ first_of (filter q rs) → cond b (Some r) (find q rs) ≡ first_of (cond b (r ∷ filter q rs) (filter q rs))
    by_test true e = refl
    by_test false e = e

module _ (name : List (List ℕ)) (rs : List Record) (node : IsNode name rs) where
  pub filter_node : (q : Record → Bool) → IsNode name (filter q rs)
  filter_node q = record { order = InOrder-filter q rs node.order; here = all_filter (λ r. r.owner ≡ name) q rs node.here }

  pub same_node : Becomes name rs (set_of rs)
  same_node = record { node = node; set = refl }

  -- those that do not pass a test go
  pub cut_node : (q : Record → Bool) (p : Key → Bool) → ((r : Record) → r.owner ≡ name → q r ≡ not (p (key_of r))) → Becomes name (filter q rs) (cut (set_of rs) p)
  cut_node q p same =
      record {
        node = filter_node q;
        set = ap set_of (filter_here name q (λ r. not (p (key_of r))) same rs node.here) ∙ set_of-filter (λ k. not (p k)) rs;
      }

  pub has_node : (q : Record → Bool) (p : Key → Bool) → ((r : Record) → r.owner ≡ name → q r ≡ p (key_of r)) → list_any q rs ≡ has (set_of rs) p
  has_node q p same = any_here name q (λ r. p (key_of r)) same rs node.here ∙ sym (has_is p rs node.order)

  pub soa_node : find (λ r. is_soa (key_of r)) rs ≡ soa_at name (set_of rs)
  soa_node =
      find_filter (λ r. is_soa (key_of r)) rs
      ∙ ap first_of (filter_here name (λ r. is_soa (key_of r)) (λ r. at name types.Soa (key_of r)) (λ r e. rw (e, name_self name) refl) rs node.here)
      ∙ ap first_of (sym (listing-part (at name types.Soa) rs node.order))

-- ---- tests of records of a name

module _ (name : List (List ℕ)) (r : Record) (e : r.owner ≡ name) where
  pub at_here : (t : RecordType) → ((key_of r).1 == rank_of t) ≡ at name t (key_of r)
  at_here t = rw (e, name_self name) refl

  pub other_here : not ((key_of r).1 == rank_of types.Cname) ≡ is_other_type name (key_of r)
  other_here = rw (e, name_self name) refl

  pub name_here : true ≡ at_name name (key_of r)
  name_here = rw (e, name_self name) refl

  -- one owner, so the data decide
  pub key_here : (rdata : Data) → same_data rdata r.rdata ≡ same_key (key_at name rdata) (key_of r)
  key_here rdata = rw (e) (by_owner (canonical_cmp name name) (nat_cmp (rank_of (type_of rdata)) (rank_of (type_of r.rdata))) _ (tied_itself canonical_total name))
    where
      by_owner : (a b c : Ordering) → a ≡ Equal → is_eq (ordering_then b c) ≡ is_eq (ordering_then (ordering_then a b) c)
      by_owner Less b c tied = absurd cc
      by_owner Equal b c tied = refl
      by_owner Greater b c tied = absurd cc

  pub ns_here : (rdata : Data) → ((key_of r).1 == rank_of types.Ns) && not (same_data rdata r.rdata) ≡ is_other_ns (key_at name rdata) (key_of r)
  ns_here rdata = λ i. at_here types.Ns i && not (key_here rdata i)

  -- where all at a name go, at the origin and elsewhere
  pub guarded_here : (origin : List (List ℕ)) → same_name name origin ≡ true → is_guarded (key_of r).1 ≡ not (goes origin name (key_of r))
  guarded_here origin same = rw (e, name_self name, same) (twice (is_guarded (key_of r).1))
    where
      twice : (b : Bool) → b ≡ not (not b)
      twice true = refl
      twice false = refl

  pub goes_here : (origin : List (List ℕ)) → same_name name origin ≡ false → false ≡ not (goes origin name (key_of r))
  goes_here origin other = rw (e, name_self name, other) refl

pub nothing_kept : (rs : List Record) → filter (λ r. false) rs ≡ []
nothing_kept [] = refl
nothing_kept (r ∷ rs) = nothing_kept rs
