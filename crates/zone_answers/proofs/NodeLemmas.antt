-- The records of a type among those at a name.
use Rattle.std.proofs.Common.{◌≡◌, ℕ, ◌<◌, List, [], ◌∷◌, length, get_or, Bool, true, false, cond, ◌&&◌, ◌==◌, refl, sym, ap, ◌∙◌, arith}
use Rattle.std.specs.declared.cmp.Ordering.{Ordering}
use Rattle.std.specs.List.{filter}
use Rattle.std.specs.List.Sorted.{IsNonDecreasingBy}
use Rattle.std.specs.Ordering.{nat_cmp, is_eq, ordering_then, ordering_index}
use Rattle.std.specs.Cmp.{tied_itself}
use Rattle.std.proofs.lemmas.Bool.{false_from_ne_true}
use Rattle.std.proofs.lemmas.Bool.Decides.{nat_tests}
use Rattle.std.proofs.lemmas.List.Elements.{Contains-get_or}
use Rattle.dns_names.specs.Order.{canonical_cmp, canonical_total, same_name}
use Rattle.dns_data.specs.declared.record.Record.{Record}
use Rattle.dns_data.specs.declared.record_type.RecordType.{RecordType}
use Rattle.dns_data.specs.Rdata.{type_of}
use Rattle.zone_core.specs.Sets.{key_of, rank_of, at, at_name, InOrder}
use Rattle.zone_core.specs.Views.{set_order}
use Rattle.zone_core.proofs.SetLemmas.{name_is}
use Rattle.zone_core.proofs.MetLemmas.{among_of}
use Rattle.zone_core.proofs.BelowLemmas.{no_test}
use Rattle.zone_core.proofs.RangeLemmas.{by_head, filter_none}
use Rattle.zone_core.proofs.RowLemmas.{InOrder-filter}
use Rattle.zone_answers.specs.declared.query_type.QueryType.{QueryType}
use Rattle.zone_answers.specs.declared.query_type.QueryType.TheVariants.{Kept, Any, Other}
use Rattle.zone_answers.specs.Answers.{Name, asked_at}
use Rattle.zone_answers.specs.AnswerTests.{is_there}
use Rattle.zone_answers.specs.Places.{node_of}
use Rattle.zone_answers.proofs.SourceLemmas.{among_filter, there-Decides}

abbrev pub by_type : RecordType → Record → Ordering
by_type t r = nat_cmp (rank_of (type_of r.rdata)) (rank_of t)

module _ (rs : List Record) (name : Name) (t : RecordType) where
  -- each record of a node has its name
  owner_is : (k : ℕ) (d : Record) → k < length (node_of rs name) → (get_or (node_of rs name) k d).owner ≡ name
  owner_is k d below =
      let r = get_or (node_of rs name) k d in
      let both = (among_filter (λ r. at_name name (key_of r)) rs r).0 (among_of (node_of rs name) r (Contains-get_or (node_of rs name) k d below)) in
      name_is r.owner name both.1

  alone : (r : Record) → r.owner ≡ name → set_order name t r ≡ by_type t r
  alone r e = ap (λ o. ordering_then o (by_type t r)) (ap (λ (n : Name). canonical_cmp n name) e ∙ tied_itself canonical_total name)

  -- along a node types rise
  pub types_rise : InOrder rs → IsNonDecreasingBy (λ (r : Record). ordering_index (by_type t r)) (node_of rs name)
  types_rise order i j d up below =
      let node = node_of rs name in
      let rises = by_head node (InOrder-filter (λ r. at_name name (key_of r)) rs order) name t i j d up below in
      let low = ap ordering_index (alone (get_or node i d) (owner_is i d (omega arith))) in
      let high = ap ordering_index (alone (get_or node j d) (owner_is j d below)) in
      omega (arith, rises, low, high)

nat_tie : (a b : ℕ) → is_eq (nat_cmp a b) ≡ (a == b)
nat_tie a b = grind (arith, nat_tests)

-- the records of a type in a node are those of the name and the type
pub set_of_node : (rs : List Record) (name : Name) (t : RecordType) → filter (λ r. is_eq (by_type t r)) (node_of rs name) ≡ filter (λ r. at name t (key_of r)) rs
set_of_node [] name t = refl
set_of_node (r ∷ rs) name t = by_test (same_name r.owner name) (set_of_node rs name t)
  where
    by_test : (b : Bool) → filter (λ r. is_eq (by_type t r)) (node_of rs name) ≡ filter (λ r. at name t (key_of r)) rs
        → filter (λ r. is_eq (by_type t r)) (cond b (r ∷ node_of rs name) (node_of rs name))
        ≡ cond (b && (rank_of (type_of r.rdata) == rank_of t)) (r ∷ filter (λ r. at name t (key_of r)) rs) (filter (λ r. at name t (key_of r)) rs)
    by_test true e =
        (λ i. cond (nat_tie (rank_of (type_of r.rdata)) (rank_of t) i) (r ∷ e i) (e i))
    by_test false e = e

-- a name that does not exist has no records
absent : (rs : List Record) (name : Name) → is_there rs name ≡ false → (k : ℕ) (d : Record) → k < length rs → same_name (get_or rs k d).owner name ≡ false
absent rs name gone k d below =
    let r = get_or rs k d in
    false_from_ne_true (same_name r.owner name) (λ t. no_test (is_there rs name) ((there-Decides rs name).1 (r, Contains-get_or rs k d below, ([], name_is r.owner name t))) gone)

pub nothing_asked : (rs : List Record) (name : Name) (asked : QueryType) → is_there rs name ≡ false → [] ≡ asked_at rs name asked
nothing_asked rs name (Kept t) gone =
    sym (filter_none (λ r. at name t (key_of r)) rs (λ k d below. ap (λ b. b && (rank_of (type_of (get_or rs k d).rdata) == rank_of t)) (absent rs name gone k d below)))
nothing_asked rs name Any gone = sym (filter_none (λ r. at_name name (key_of r)) rs (λ k d below. absent rs name gone k d below))
nothing_asked rs name Other gone = refl
