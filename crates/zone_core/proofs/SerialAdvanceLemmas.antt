-- What an update changes with the serial, from what its operations change.
use Rattle.std.proofs.Common.{◌≡◌, ℕ, List, [], ◌∷◌, length, Bool, true, false, cond, not, ◌&&◌, ◌==◌, if◌then◌else◌, Option, Some, None, inl, inr, refl, sym, ap, subst, ◌∙◌, arith}
use Rattle.std.specs.declared.cmp.Ordering.{Ordering}
use Rattle.std.specs.declared.cmp.Ordering.TheVariants.{Less, Equal, Greater}
use Rattle.std.specs.Ordering.{is_lt, nat_cmp, ordering_reverse}
use Rattle.std.specs.List.{AllByRecursion, list_any}
use Rattle.std.specs.List.Sorted.{IsStrictlySortedBy}
use Rattle.std.specs.Option.{option_map_or}
use Rattle.std.specs.Cmp.Lexicographic.{slice_cmp}
use Rattle.std.specs.FinMap.{get, find, len, empty, get-empty}
use Rattle.std.proofs.lemmas.Bool.{false_from_ne_true, eqb-true}
use Rattle.std.proofs.lemmas.Bool.Decides.{nat_tests}
use Rattle.dns_names.specs.Labels.{IsWithin}
use Rattle.dns_names.specs.Order.{canonical_cmp}
use Rattle.dns_names.proofs.NameLemmas.{is_within-Decides}
use Rattle.dns_data.specs.declared.record.Record.{Record}
use Rattle.dns_data.specs.declared.record_type.RecordType.TheVariants as types
use Rattle.dns_data.specs.declared.soa.SoaFields.{SoaFields}
use Rattle.dns_data.specs.Rdata.{type_of}
use Rattle.dns_data.specs.Text.{data_text}
use Rattle.dns_data.specs.RecordOrder.{record_order_total}
use Rattle.dns_data.proofs.ApartLaws.{one_text}
use Rattle.dns_data.proofs.RecordOrderLemmas.{one_rank}
use Rattle.zone_core.specs.Serials.{IsLess, is_less}
use Rattle.zone_core.specs.Sets.{Records, Key, key_of, key_cmp, rank_of, keyed, same_key, set_of, record_order, cut, put, at, has, minus, same_ttl, is_same, AreRows}
use Rattle.zone_core.specs.declared.update.Operation.{Operation}
use Rattle.zone_core.specs.Zones.{ZoneOf, IsZone, is_soa, soa_in, serial_in, soa_at, serial_at}
use Rattle.zone_core.specs.Updates.{UpdateOf, IsUpdate, ActsWithin}
use Rattle.zone_core.specs.Effects.{effects, next_data, next_version, with_next, serial_advanced, zone_after}
use Rattle.zone_core.specs.Views.{advances}
use Rattle.zone_core.proofs.SetLemmas.{key_is, key_self, one_key, get-part, get-put, kept_by_put, found_by_put, kept_by_cut, gone_by_cut, same_sets, some_is, has_nothing, has_found, empty_is}
use Rattle.zone_core.proofs.RowLemmas.{get-set_of, each_in, has_is, len_of}
use Rattle.zone_core.proofs.WithinLemmas.{not_before}
use Rattle.zone_core.proofs.SoaFirstLemmas.{parts_less, le_zero}
use Rattle.zone_core.proofs.ChangeLemmas.{same_ttl_self}
use Rattle.zone_core.proofs.ZoneLemmas.{Keys, Heir, keys_of, at_has, at_is, kind, soa_is}
use Rattle.zone_core.proofs.VersionLemmas.{is_less-Decides, next_less, next_type, next_is, next_serial, soa_key, soa_record, soa_type, home, serial_before, serial_after, heir_of}

not_less : (n : ℕ) → IsLess n n → ⊥
not_less n less = (elim less [ inl up ↦ omega arith | inr down ↦ omega arith ])

-- ---- the SOA stands first

module _ (origin : List (List ℕ)) (s r : Record) (at_origin : s.owner ≡ origin) (soa : type_of s.rdata ≡ types.Soa) (inside : IsWithin r.owner origin) (other : is_soa (key_of r) ≡ false) where
  soa_equal : record_order s r ≡ Equal → ⊥
  soa_equal e =
      let ranks : rank_of (type_of r.rdata) ≡ rank_of types.Soa = sym (ap (λ (q : Key). q.1) (one_key (key_of s) (key_of r) e)) ∙ ap rank_of soa in
      let f : true ≡ false = sym (kind (key_of r) types.Soa ranks) ∙ other in cc

  soa_greater : record_order r s ≡ Less → ⊥
  soa_greater less =
      let low : is_lt (canonical_cmp r.owner s.owner) ≡ false =
      rw at_origin (false_from_ne_true (is_lt (canonical_cmp r.owner origin)) (λ t. let f = not_before origin r.owner t in let c : true ≡ false = sym ((is_within-Decides r.owner origin).1 inside) ∙ f in absurd cc)) in
      let both = parts_less (canonical_cmp r.owner s.owner) (nat_cmp (rank_of (type_of r.rdata)) (rank_of (type_of s.rdata))) (slice_cmp nat_cmp (data_text r.rdata) (data_text s.rdata)) low less in
      let rank : rank_of (type_of r.rdata) ≡ 0 = le_zero (rank_of (type_of r.rdata)) (rw soa at both.1) in
      let f : true ≡ false = sym (kind (key_of r) types.Soa rank) ∙ other in cc

  pub soa_less : record_order s r ≡ Less
  soa_less = by_order (record_order s r) (record_order r s) refl refl (record_order_total.antisymm r s)
    where
      by_order : (o p : Ordering) → record_order s r ≡ o → record_order r s ≡ p → p ≡ ordering_reverse o → o ≡ Less
      by_order Less p e f g = refl
      by_order Equal p e f g = absurd (soa_equal e)
      by_order Greater p e f g = absurd (soa_greater (f ∙ g))

-- a record before the rows of a set that are all above it
front_row : (s : Record) (rows : List Record) (m : Records) → AreRows rows m → ((j : Key) (r : Record) → get m j ≡ Some r → record_order s r ≡ Less) → AreRows (s ∷ rows) (put m s)
unfolding IsStrictlySortedBy
front_row s rows m are above =
    record {
      order = (all_above rows (each_in rows are.order), are.order);
      set = same_sets (set_of (s ∷ rows)) (put m s) (λ j.
          get-set_of (s ∷ rows) j ∙ ap (cond (same_key j (key_of s)) (Some s)) (sym (get-set_of rows j) ∙ ap (λ (x : Records). get x j) are.set) ∙ sym (get-put m s j));
    }
  where
    all_above : (rs : List Record) → AllByRecursion (λ r. find key_cmp (key_of r) (keyed rows) ≡ Some r) rs → AllByRecursion (λ r. record_order s r ≡ Less) rs
    all_above [] all = tt
    all_above (r ∷ rs) all = (above (key_of r) r (ap (λ (x : Records). get x (key_of r)) (sym are.set) ∙ get-set_of rows (key_of r) ∙ all.0), all_above rs all.1)

-- ---- what two sets differ in

pub get-minus : (a b : Records) (j : Key) → get (minus a b) j ≡ cond (not (same_ttl (get a j) (get b j))) (get a j) None
get-minus a b j = get-part a (λ i. not (same_ttl (get a i) (get b i))) j

nothing : (b : Bool) → ◌≡◌ {A = Option Record} (cond b None None) None
nothing true = refl
nothing false = refl

none_minus : (a b : Records) (j : Key) → get a j ≡ None → get (minus a b) j ≡ None
none_minus a b j e = get-minus a b j ∙ ap (λ o. cond (not (same_ttl o (get b j))) o None) e ∙ nothing (not (same_ttl None (get b j)))

same_minus : (a b : Records) (j : Key) → get a j ≡ get b j → get (minus a b) j ≡ None
same_minus a b j e = get-minus a b j ∙ ap (λ o. cond (not (same_ttl (get a j) o)) (get a j) None) (sym e) ∙ ap (λ t. cond (not t) (get a j) None) (same_ttl_self (get a j))

new_minus : (a b : Records) (j : Key) (r : Record) → get a j ≡ Some r → get b j ≡ None → get (minus a b) j ≡ Some r
new_minus a b j r e f = get-minus a b j ∙ λ i. cond (not (same_ttl (e i) (f i))) (e i) None

found_minus : (a b : Records) (j : Key) (r : Record) → get (minus a b) j ≡ Some r → get a j ≡ Some r
found_minus a b j r e = by_test (not (same_ttl (get a j) (get b j))) (sym (get-minus a b j) ∙ e)
  where
    by_test : (t : Bool) → cond t (get a j) None ≡ Some r → get a j ≡ Some r
    by_test true f = f
    by_test false f = absurd cc

pub minus_self : (a : Records) (m : Records) → m ≡ empty → m ≡ minus a a
minus_self a m e = e ∙ same_sets empty (minus a a) (λ j. ap (λ (x : Records). get x j) (sym e) ∙ ap (λ (x : Records). get x j) e ∙ get-empty key_cmp j ∙ sym (same_minus a a j refl))

-- ---- where the SOA stays, it is not among what differs

module _ (origin : List (List ℕ)) (a b : Records) (za : Keys origin a) (zb : Keys origin b) (same : zb.soa_there.0 ≡ za.soa_there.0) where
  soas_one : za.soa ≡ zb.soa
  soas_one = sym (za.rows.kept za.soa za.soa_there.0 za.soa_there.1).0 ∙ ap key_of (sym same) ∙ (zb.rows.kept zb.soa zb.soa_there.0 zb.soa_there.1).0

  soas_stay : (j : Key) → j ≡ za.soa → get a j ≡ get b j
  soas_stay j e = ap (get a) e ∙ za.soa_there.1 ∙ ap (λ (x : Record). Some x) (sym same) ∙ sym zb.soa_there.1 ∙ ap (get b) (sym soas_one ∙ sym e)

  no_soa : (j : Key) → is_soa j ≡ true → get (minus a b) j ≡ None
  no_soa j e = by_option (get a j) refl
    where
      by_option : (o : Option Record) → get a j ≡ o → get (minus a b) j ≡ None
      by_option None f = none_minus a b j f
      by_option (Some r) f = same_minus a b j (soas_stay j (za.soa_alone j (r, f) (eqb-true j.1 (rank_of types.Soa) e)))

  -- so the SOA is before all of it
  before_all : (s : Record) → s.owner ≡ origin → type_of s.rdata ≡ types.Soa → (j : Key) (r : Record) → get (minus a b) j ≡ Some r → record_order s r ≡ Less
  before_all s at_origin type j r e =
      let here = found_minus a b j r e in
      let key = (za.rows.kept j r here).0 in
      let inside = subst (λ (q : Key). IsWithin q.0 origin) (sym key) (za.rows.owners j (r, here)) in
      let other : is_soa (key_of r) ≡ false = false_from_ne_true (is_soa (key_of r)) (λ t. some_is (minus a b) j r e (no_soa j (ap is_soa (sym key) ∙ t))) in
      soa_less origin s r at_origin type inside other

-- ---- one step further

module _ (origin : List (List ℕ)) (before after : Records) (z : Keys origin before) (k : Keys origin after) (same : k.soa_there.0 ≡ z.soa_there.0) where
  abbrev heir : Heir origin before z after
  heir = (k, inl same)

  abbrev soa : Record
  soa = k.soa_there.0

  abbrev next : Record
  next = next_version soa

  abbrev of_soa : Key → Bool
  of_soa = at soa.owner types.Soa

  own : soa.owner ≡ origin
  own = home origin before after z heir

  kind_is : type_of soa.rdata ≡ types.Soa
  kind_is = soa_type origin before after z heir

  key_is_soa : key_of soa ≡ z.soa
  key_is_soa = soa_key origin before after z heir ∙ sym (soas_one origin before after z k same)

  soa_before : get before (key_of soa) ≡ Some soa
  soa_before = ap (get before) key_is_soa ∙ z.soa_there.1 ∙ ap (λ (x : Record). Some x) (sym same)

  -- no other SOA stands there
  none_before : (j : Key) → of_soa j ≡ true → (j ≡ key_of soa → ⊥) → get before j ≡ None
  none_before j e differ = by_option (get before j) refl
    where
      by_option : (o : Option Record) → get before j ≡ o → o ≡ None
      by_option None f = refl
      by_option (Some x) f = absurd (differ (z.soa_alone j (x, f) (at_is soa.owner types.Soa j e).1 ∙ sym key_is_soa))

  next_apart : key_of next ≡ key_of soa → ⊥
  next_apart e =
      let serials = next_serial soa.rdata kind_is (soa_record origin before after z heir).rdata in
      let rdatas : next_data soa.rdata ≡ soa.rdata = one_text (next_data soa.rdata) soa.rdata (next_is soa.rdata (soa_record origin before after z heir).rdata) (soa_record origin before after z heir).rdata (next_type soa.rdata) (ap (λ (q : Key). q.2) e) in
      let less : IsLess serials.0 serials.0 = subst (IsLess serials.0) (sym serials.3 ∙ ap (λ d. option_map_or (λ (s : SoaFields). s.serial.0) (soa_in d) 0) rdatas ∙ serials.1) (next_less serials.0 serials.2) in
      not_less serials.0 less

  next_at : of_soa (key_of next) ≡ true
  next_at = at_has soa.owner types.Soa (key_of next) refl (ap rank_of (next_type soa.rdata ∙ kind_is))

  abbrev further : Records
  further = put (cut after of_soa) next

  elsewhere : (j : Key) → of_soa j ≡ false → get further j ≡ get after j
  elsewhere j e = kept_by_put (cut after of_soa) next j (λ f. let g : true ≡ false = sym next_at ∙ ap of_soa (sym f) ∙ e in cc) ∙ kept_by_cut after of_soa j e

  gone_further : (j : Key) → of_soa j ≡ true → (j ≡ key_of next → ⊥) → get further j ≡ None
  gone_further j e differ = kept_by_put (cut after of_soa) next j differ ∙ gone_by_cut after of_soa j e

  soa_at_own : of_soa (key_of soa) ≡ true
  soa_at_own = at_has soa.owner types.Soa (key_of soa) refl (ap rank_of kind_is)

  further_removed : minus before further ≡ put (minus before after) soa
  further_removed = same_sets (minus before further) (put (minus before after) soa) (λ j. by_key j (same_key j (key_of soa)) refl ∙ sym (get-put (minus before after) soa j))
    where
      by_kind : (j : Key) → (j ≡ key_of soa → ⊥) → (b : Bool) → of_soa j ≡ b → get (minus before further) j ≡ get (minus before after) j
      by_kind j differ true e = let none = none_before j e differ in none_minus before further j none ∙ sym (none_minus before after j none)
      by_kind j differ false e =
          get-minus before further j ∙ ap (λ o. cond (not (same_ttl (get before j) o)) (get before j) None) (elsewhere j e) ∙ sym (get-minus before after j)

      by_key : (j : Key) (b : Bool) → same_key j (key_of soa) ≡ b → get (minus before further) j ≡ cond (same_key j (key_of soa)) (Some soa) (get (minus before after) j)
      by_key j true e =
          let is = key_is j (key_of soa) e in
          new_minus before further j soa (ap (get before) is ∙ soa_before) (gone_further j (ap of_soa is ∙ soa_at_own) (λ f. next_apart (sym f ∙ is))) ∙ ap (λ b. cond b (Some soa) (get (minus before after) j)) (sym e)
      by_key j false e =
          by_kind j (λ f. let g : true ≡ false = sym (key_self (key_of soa)) ∙ ap (λ x. same_key x (key_of soa)) (sym f) ∙ e in cc) (of_soa j) refl
          ∙ ap (λ b. cond b (Some soa) (get (minus before after) j)) (sym e)

  further_added : minus further before ≡ put (minus after before) next
  further_added = same_sets (minus further before) (put (minus after before) next) (λ j. by_key j (same_key j (key_of next)) refl ∙ sym (get-put (minus after before) next j))
    where
      by_kind : (j : Key) → (j ≡ key_of next → ⊥) → (b : Bool) → of_soa j ≡ b → get (minus further before) j ≡ get (minus after before) j
      by_kind j differ true e =
          none_minus further before j (gone_further j e differ) ∙ sym (no_soa origin after before k z (sym same) j (ap is_soa_rank (at_is soa.owner types.Soa j e).1 ∙ refl))
        where
          is_soa_rank : ℕ → Bool
          is_soa_rank n = n == rank_of types.Soa
      by_kind j differ false e =
          get-minus further before j ∙ ap (λ o. cond (not (same_ttl o (get before j))) o None) (elsewhere j e) ∙ sym (get-minus after before j)

      by_key : (j : Key) (b : Bool) → same_key j (key_of next) ≡ b → get (minus further before) j ≡ cond (same_key j (key_of next)) (Some next) (get (minus after before) j)
      by_key j true e =
          let is = key_is j (key_of next) e in
          new_minus further before j next (ap (get further) is ∙ found_by_put (cut after of_soa) next) (none_before j (ap of_soa is ∙ next_at) (λ f. next_apart (sym is ∙ f))) ∙ ap (λ b. cond b (Some next) (get (minus after before) j)) (sym e)
      by_key j false e =
          by_kind j (λ f. let g : true ≡ false = sym (key_self (key_of next)) ∙ ap (λ x. same_key x (key_of next)) (sym f) ∙ e in cc) (of_soa j) refl
          ∙ ap (λ b. cond b (Some next) (get (minus after before) j)) (sym e)

  pub step_removed : (removed : List Record) → AreRows removed (minus before after) → AreRows (soa ∷ removed) (minus before further)
  step_removed removed are = subst (AreRows (soa ∷ removed)) (sym further_removed) (front_row soa removed (minus before after) are (before_all origin before after z k same soa own kind_is))

  pub step_added : (added : List Record) → AreRows added (minus after before) → AreRows (next ∷ added) (minus further before)
  step_added added are = subst (AreRows (next ∷ added)) (sym further_added) (front_row next added (minus after before) are (before_all origin after before k z (sym same) next own (next_type soa.rdata ∙ kind_is)))

-- ---- what an update changes

-- an SOA that takes over was not there
module _ (origin : List (List ℕ)) (before after : Records) (z : Keys origin before) (heir : Heir origin before z after) (over : is_less (serial_in z.soa_there.0) (serial_in heir.0.soa_there.0) ≡ true) where
  not_there : get before heir.0.soa ≡ None
  not_there = by_option (get before heir.0.soa) refl
    where
      k : Keys origin after
      k = heir.0

      by_option : (o : Option Record) → get before k.soa ≡ o → o ≡ None
      by_option None e = refl
      by_option (Some x) e =
          let one = z.soa_alone k.soa (x, e) k.soa_type in
          let old = z.rows.kept z.soa z.soa_there.0 z.soa_there.1 in
          let new = k.rows.kept k.soa k.soa_there.0 k.soa_there.1 in
          let keys : key_of k.soa_there.0 ≡ key_of z.soa_there.0 = new.0 ∙ one ∙ sym old.0 in
          let rdatas = one_text k.soa_there.0.rdata z.soa_there.0.rdata new.1.rdata old.1.rdata (one_rank (type_of k.soa_there.0.rdata) (type_of z.soa_there.0.rdata) (ap (λ (q : Key). q.1) keys)) (ap (λ (q : Key). q.2) keys) in
          let serials : serial_in k.soa_there.0 ≡ serial_in z.soa_there.0 = ap (λ d. option_map_or (λ (s : SoaFields). s.serial.0) (soa_in d) 0) rdatas in
          absurd (not_less (serial_in z.soa_there.0) ((is_less-Decides (serial_in z.soa_there.0) (serial_in z.soa_there.0)).0 (ap (is_less (serial_in z.soa_there.0)) (sym serials) ∙ over)))

  pub taken_there : has (minus after before) is_soa ≡ true
  taken_there =
      let k = heir.0 in
      has_found (minus after before) is_soa k.soa k.soa_there.0 (kind k.soa types.Soa k.soa_type) (new_minus after before k.soa k.soa_there.0 k.soa_there.1 not_there)

module _ (origin : List (List ℕ)) (before after : Records) (z : Keys origin before) (heir : Heir origin before z after)
    (removed added : List Record) (removed_are : AreRows removed (minus before after)) (added_are : AreRows added (minus after before)) where
  abbrev old : Record
  old = z.soa_there.0

  empty_is_none : (rows : List Record) (m : Records) → AreRows rows m → (length rows == 0) ≡ (len m == 0)
  empty_is_none rows m are = ap (λ n. n == 0) (sym (len_of rows are.order) ∙ ap (λ (x : Records). len x) are.set)

  unchanged : ((length removed == 0) && (length added == 0)) ≡ is_same before after
  unchanged = λ i. empty_is_none removed (minus before after) removed_are i && empty_is_none added (minus after before) added_are i

  soa_added : list_any (λ r. is_soa (key_of r)) added ≡ has (minus after before) is_soa
  soa_added = sym (has_is is_soa added added_are.order) ∙ ap (λ (x : Records). has x is_soa) added_are.set

  abbrev AdvancesSerial : Bool → Records → Type 0
  AdvancesSerial steps set =
      AreRows (if steps then old ∷ removed else removed) (minus before set) × AreRows (if steps then next_version old ∷ added else added) (minus set before)

  both_parts : (a b : Bool) → (a && b) ≡ true → (a ≡ true) × (b ≡ true)
  both_parts true b e = (refl, e)
  both_parts false b e = absurd cc

  -- nothing changed
  same_advances : is_same before after ≡ true → AdvancesSerial false before
  same_advances e =
      let both = both_parts (len (minus before after) == 0) (len (minus after before) == 0) e in (
        record { order = removed_are.order; set = removed_are.set ∙ minus_self before (minus before after) (empty_is (minus before after) both.0) },
        record { order = added_are.order; set = added_are.set ∙ minus_self before (minus after before) (empty_is (minus after before) both.1) },
      )

  serials_equal : heir.0.soa_there.0 ≡ old → (serial_at origin before == serial_at origin after) ≡ true
  serials_equal same = rw (serial_before origin before after z heir, serial_after origin before after z heir, same) (self (serial_in old))
    where
      self : (n : ℕ) → (n == n) ≡ true
      self n = grind (arith, nat_tests)

  serials_differ : is_less (serial_in old) (serial_in heir.0.soa_there.0) ≡ true → (serial_at origin before == serial_at origin after) ≡ false
  serials_differ over =
      rw (serial_before origin before after z heir, serial_after origin before after z heir)
      (false_from_ne_true (serial_in old == serial_in heir.0.soa_there.0) (λ e.
      not_less (serial_in old) ((is_less-Decides (serial_in old) (serial_in old)).0 (ap (is_less (serial_in old)) (eqb-true (serial_in old) (serial_in heir.0.soa_there.0) e) ∙ over))))

  pub advances_serial : AdvancesSerial (advances removed added) (serial_advanced origin before after)
  advances_serial = by_same (is_same before after) refl
    where
      steps_are : (b c : Bool) → is_same before after ≡ b → has (minus after before) is_soa ≡ c → advances removed added ≡ (not b && not c)
      steps_are b c e f = λ i. not ((unchanged ∙ e) i) && not ((soa_added ∙ f) i)

      one_step : is_same before after ≡ false → heir.0.soa_there.0 ≡ old → AdvancesSerial (advances removed added) (if serial_at origin before == serial_at origin after then with_next after (soa_at origin after) else after)
      one_step e same =
          let none = has_nothing (minus after before) is_soa (λ j t. no_soa origin after before heir.0 z (sym same) j t) in
          let steps = steps_are false false e none in
          let set : (if serial_at origin before == serial_at origin after then with_next after (soa_at origin after) else after) ≡ with_next after (Some heir.0.soa_there.0) =
          ap (λ b. if b then with_next after (soa_at origin after) else after) (serials_equal same) ∙ ap (with_next after) (soa_is origin after heir.0) in
          let done : AdvancesSerial true (with_next after (Some heir.0.soa_there.0)) = (
            subst (λ x. AreRows (x ∷ removed) (minus before (with_next after (Some heir.0.soa_there.0)))) same (step_removed origin before after z heir.0 same removed removed_are),
            subst (λ x. AreRows (next_version x ∷ added) (minus (with_next after (Some heir.0.soa_there.0)) before)) same (step_added origin before after z heir.0 same added added_are),
          ) in
          rw (steps, set) done

      taken : is_same before after ≡ false → is_less (serial_in old) (serial_in heir.0.soa_there.0) ≡ true → AdvancesSerial (advances removed added) (if serial_at origin before == serial_at origin after then with_next after (soa_at origin after) else after)
      taken e over =
          let steps = steps_are false true e (taken_there origin before after z heir over) in
          let set : (if serial_at origin before == serial_at origin after then with_next after (soa_at origin after) else after) ≡ after =
          ap (λ b. if b then with_next after (soa_at origin after) else after) (serials_differ over) in
          let done : AdvancesSerial false after = (removed_are, added_are) in
          rw (steps, set) done

      by_heir : is_same before after ≡ false → AdvancesSerial (advances removed added) (if serial_at origin before == serial_at origin after then with_next after (soa_at origin after) else after)
      by_heir e = (elim (heir.1) [ inl same ↦ one_step e same | inr over ↦ taken e over ])

      by_same : (b : Bool) → is_same before after ≡ b → AdvancesSerial (advances removed added) (if b then before else (if serial_at origin before == serial_at origin after then with_next after (soa_at origin after) else after))
      by_same true e = rw (steps_are true (has (minus after before) is_soa) e refl) (same_advances e)
      by_same false e = by_heir e

-- what an update changes in a zone
module _ (zone : ZoneOf) (update : UpdateOf) (z : IsZone zone) (is : IsUpdate update) (acts : ActsWithin zone.origin update) (soa : Record) (one : soa_at zone.origin zone.records ≡ Some soa)
    (origin : List (List ℕ)) (set : Records) (ops : List Operation) (own_origin : origin ≡ zone.origin) (own_set : set ≡ zone.records) (own_ops : ops ≡ update.operations) where
  abbrev changed : Records
  changed = effects zone.origin zone.records update.operations

  abbrev there : Keys zone.origin zone.records
  there = keys_of zone.origin zone.records z

  soa_own : there.soa_there.0 ≡ soa
  soa_own = let both : Some there.soa_there.0 ≡ Some soa = sym (soa_is zone.origin zone.records there) ∙ one in cc

  pub advanced_change : (removed added : List Record) → AreRows removed (minus set (effects origin set ops)) → AreRows added (minus (effects origin set ops) set)
      → AreRows (if advances removed added then soa ∷ removed else removed) (minus zone.records (zone_after zone update).records)
      × AreRows (if advances removed added then next_version soa ∷ added else added) (minus (zone_after zone update).records zone.records)
  advanced_change removed added removed_are added_are =
      let removed_own : AreRows removed (minus zone.records changed) = subst (AreRows removed) (λ i. minus (own_set i) (effects (own_origin i) (own_set i) (own_ops i))) removed_are in
      let added_own : AreRows added (minus changed zone.records) = subst (AreRows added) (λ i. minus (effects (own_origin i) (own_set i) (own_ops i)) (own_set i)) added_are in
      let done = advances_serial zone.origin zone.records changed there (heir_of zone update z is acts) removed added removed_own added_own in (
        subst (λ x. AreRows (if advances removed added then x ∷ removed else removed) (minus zone.records (zone_after zone update).records)) soa_own done.0,
        subst (λ x. AreRows (if advances removed added then next_version x ∷ added else added) (minus (zone_after zone update).records zone.records)) soa_own done.1,
      )
