-- The servers of a cut and their addresses.
use Rattle.std.proofs.Common.{◌≡◌, ◌≢◌, ℕ, ◌+◌, ◌-◌, ◌<◌, ◌≤◌, List, [], ◌∷◌, length, take, drop, get_or, true, false, Some, refl, sym, ap, subst, ◌∙◌, inl, inr, arith, map, get_or-take, get_or-drop, length-take, length-drop}
use Rattle.std.specs.declared.cmp.Ordering.TheVariants.{Less, Equal}
use Rattle.std.specs.List.{filter}
use Rattle.std.specs.Ordering.{is_lt}
use Rattle.std.proofs.lemmas.Bool.{false_from_ne_true}
use Rattle.dns_names.specs.Order.{canonical_cmp}
use Rattle.dns_data.specs.declared.record.Record.{Record}
use Rattle.dns_data.specs.declared.record_type.RecordType.TheVariants as types
use Rattle.dns_data.specs.Rdata.{type_of}
use Rattle.dns_data.proofs.RecordOrderLemmas.{one_rank}
use Rattle.zone_core.specs.Sets.{Records, InOrder, key_of, record_order, set_of, listing, part, at, IsIn}
use Rattle.zone_core.specs.Zones.{ZoneOf, IsSoaOf, soa_at, first_of}
use Rattle.zone_core.proofs.BelowLemmas.{no_test}
use Rattle.zone_core.proofs.SetLemmas.{key_self, is_tied}
use Rattle.zone_core.proofs.RangeLemmas.{pair_order}
use Rattle.zone_core.proofs.RowLemmas.{listing-part, InOrder-filter}
use Rattle.zone_core.proofs.MetLemmas.{Among}
use Rattle.zone_core.proofs.ZoneLemmas.{at_is}
use Rattle.zone_answers.specs.Answers.{Name, as_negative, negative_soa}
use Rattle.zone_answers.specs.Places.{EndsBefore}
use Rattle.zone_answers.proofs.SourceLemmas.{among_filter}
use Rattle.zone_answers.proofs.LawLemmas.{row_in}

-- ---- places near another

-- where the first of the few first of the last records that is not before a name is, and it is not the first of these, it is among all
pub near_tell : (rs rest : List Record) (s m n : ℕ) (name : Name) → s ≤ length rs → rest ≡ drop s rs → n ≢ 0 → n < length (take m rest) → EndsBefore name (take m rest) n → EndsBefore name rs (s + n)
near_tell rs rest s m n name also is some below ends = λ parts.
    let short : n < m = omega (arith, length-take m rest) in
    let inside : s + length rest ≡ length rs = omega (arith, ap (length {A = Record}) is, length-drop s rs) in
    let few : length (take m rest) ≤ length rest = omega (arith, length-take m rest) in
    let fewer : length (take m rest) ≤ m = omega (arith, length-take m rest) in
    let place : (k : ℕ) (d : Record) → k < m → get_or (take m rest) k d ≡ get_or rs (s + k) d =
    λ k d lt. get_or-take m rest k d lt ∙ ap (λ (l : List Record). get_or l k d) is ∙ get_or-drop s rs k d in
    let before = λ (r : Record). is_lt (canonical_cmp r.owner name) in
    let point = ends (λ a b d up lt h.
    subst (λ (r : Record). before r ≡ true) (sym (place a d (omega arith))) (parts (s + a) (s + b) d (omega arith) (omega arith) (subst (λ (r : Record). before r ≡ true) (place b d (omega arith)) h))) in (
      λ k d low lt.
          parts k (s + (n - 1)) d (omega arith) (omega arith) (subst (λ (r : Record). before r ≡ true) (place (n - 1) d (omega arith)) (point.0 (n - 1) d (omega arith) (omega arith))),
      λ k d low lt.
          false_from_ne_true (before (get_or rs k d)) (λ t.
          no_test (before (get_or rs (s + n) d)) (parts (s + n) k d low lt t) (subst (λ (r : Record). before r ≡ false) (place n d short) (point.1 n d (omega arith) below))),
    )

-- ---- the SOA

one_row : (rs : List Record) (r : Record) → InOrder rs → first_of rs ≡ Some r → ((s : Record) → Among s rs → s ≡ r) → rs ≡ r ∷ []
one_row [] r order first same = absurd cc
one_row (x ∷ []) r order first same = let e : x ≡ r = cc in ap (λ (y : Record). y ∷ []) e
one_row (x ∷ y ∷ rs) r order first same =
    let less : record_order x y ≡ Less = pair_order (x ∷ y ∷ rs) order 0 1 x (omega arith) (omega arith) in
    let one : x ≡ y = same x (inl refl) ∙ sym (same y (inr (inl refl))) in
    let tied : record_order x y ≡ Equal = ap (λ (z : Record). record_order x z) (sym one) ∙ is_tied (record_order x x) (key_self (key_of x)) in
    absurd cc

module _ (zone : ZoneOf) (rows : List Record) (order : InOrder rows) (set : set_of rows ≡ zone.records) (value : rows ≡ listing zone.records) (soa : Record) (is : IsSoaOf zone soa) where
  -- the SOA is the one record of its type at the origin
  pub soa_alone : soa_at zone.origin zone.records ≡ Some soa → as_negative soa ∷ [] ≡ negative_soa zone.origin (listing zone.records)
  soa_alone first =
      let test = at zone.origin types.Soa in
      let here : listing (part zone.records test) ≡ filter (λ r. test (key_of r)) rows = ap (λ (s : Records). listing (part s test)) (sym set) ∙ listing-part test rows order in
      let one = one_row (filter (λ r. test (key_of r)) rows) soa (InOrder-filter (λ r. test (key_of r)) rows order) (ap first_of (sym here) ∙ first) (λ s a.
      let both = (among_filter (λ r. test (key_of r)) rows s).0 a in
      is.alone s (subst (IsIn s) set (row_in rows order s both.0)) (one_rank (type_of s.rdata) types.Soa (at_is zone.origin types.Soa (key_of s) both.1).1)) in
      ap (map as_negative) (sym one) ∙ ap (λ (rs : List Record). negative_soa zone.origin rs) value
