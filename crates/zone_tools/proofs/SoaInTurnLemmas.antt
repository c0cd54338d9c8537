-- The SOA of a zone after updates in turn, one of which adds an SOA.
use Rattle.std.proofs.Common.{◌≡◌, ◌≢◌, ◌∙◌, ℕ, suc, ◌+◌, ◌-◌, ◌<◌, ◌≤◌, ◌^◌, List, [], ◌∷◌, ◌++◌, length, map, Bool, true, false, cond, ◌==◌, if◌then◌else◌, Some, arith, refl, sym, ap, subst}
use Rattle.std.specs.List.{AllByRecursion, filter, list_any}
use Rattle.std.proofs.lemmas.Bool.{eqb-true}
use Rattle.dns_names.specs.Labels.{IsWithin}
use Rattle.dns_names.specs.Order.{same_name}
use Rattle.dns_data.specs.declared.record.Record.{Record}
use Rattle.dns_data.specs.declared.record_type.RecordType.TheVariants as types
use Rattle.dns_data.specs.Rdata.{type_of, IsRecord}
use Rattle.dns_data.proofs.RecordOrderLemmas.{one_rank}
use Rattle.zone_core.specs.declared.update.Operation.{Operation}
use Rattle.zone_core.specs.declared.update.Operation.TheVariants.{Add, DeleteRrset, DeleteName, DeleteRecord}
use Rattle.zone_core.specs.Serials.{IsLess, is_less, serial_sum}
use Rattle.zone_core.specs.Sets.{Records, key_of, rank_of, is_same}
use Rattle.zone_core.specs.Zones.{ZoneOf, IsZone, is_soa, is_cname, soa_at, serial_at, serial_in, serial_of}
use Rattle.zone_core.specs.Updates.{UpdateOf, IsOperation, acted_name, adds_soa}
use Rattle.zone_core.specs.Effects.{takes_over, add_soa, add_cname, add_other, is_misplaced, add, effect, effects, next_version, with_next, serial_advanced, zone_after}
use Rattle.zone_core.proofs.SetLemmas.{by_cases, name_is, name_self}
use Rattle.zone_core.proofs.ZoneLemmas.{Keys, keys_of, soa_is, no, effect_heir}
use Rattle.zone_core.proofs.VersionLemmas.{is_less-Decides}
use Rattle.zone_tools.specs.Differences.{at_serial, with_soa, with_serial}
use Rattle.zone_tools.specs.DifferencePromises.{AreWithin}
use Rattle.zone_tools.specs.UpdatesInTurn.{zone_after_parts, operations_of, adds_no_soa, further, further_in_turn, ChangeBeforeSoa, PartsTakeTheSoa, StaysNewer, PartsTakeANewerSoa, SameButSerial}
use Rattle.zone_tools.proofs.DiffSoaLemmas.{next_is_at, at_twice, at_own, data_type, serial_is, at_fits, serial_fits, less_next, not_less, serial_own, IsSoaHere, soa_here, with_at, goes_further}
use Rattle.zone_tools.proofs.InTurnLemmas.{all_front, all_back, keys_effects, keys_advanced, effects_append, parts_origin, none_elsewhere, HasSoa, effects_soa, advanced_soa, parts_soa, all_alike, one_serial}
use Rattle.zone_tools.proofs.FurtherLemmas.{same_less, less_further, sum_twice, sum_fits, sum_none, sum_more, soa_stays, other_stays, all_stay, within_stays, turn_others, turn_any, turn_plain, turn_within}

-- ---- one SOA at most

abbrev NoSoa : List Operation → Type 0
NoSoa ops = AllByRecursion (λ op. adds_soa op ≡ false) ops

abbrev OneSoa : List Operation → Type 0
OneSoa ops = length (filter adds_soa ops) ≤ 1

none_added : (ops : List Operation) → list_any adds_soa ops ≡ false → NoSoa ops
none_added [] e = tt
none_added (op ∷ ops) e =
    by_cases (adds_soa op) (NoSoa (op ∷ ops)) (λ t. let both : true ≡ false = rw t at e in absurd cc)
    (λ f. let rest : list_any adds_soa ops ≡ false = rw f at e in (f, none_added ops rest))

none_counted : (ops : List Operation) → length (filter adds_soa ops) ≤ 0 → NoSoa ops
none_counted [] few = tt
none_counted (op ∷ ops) few =
    by_cases (adds_soa op) (NoSoa (op ∷ ops)) (λ t. let more : suc (length (filter adds_soa ops)) ≤ 0 = rw t at few in absurd (omega (arith, more)))
    (λ f. let rest : length (filter adds_soa ops) ≤ 0 = rw f at few in (f, none_counted ops rest))

added_none : (ops : List Operation) → NoSoa ops → list_any adds_soa ops ≡ false
added_none [] none = refl
added_none (op ∷ ops) none = rw none.0 (added_none ops none.1)

counted_none : (ops : List Operation) → NoSoa ops → length (filter adds_soa ops) ≤ 0
counted_none [] none = omega arith
counted_none (op ∷ ops) none = rw none.0 (counted_none ops none.1)

-- behind one that adds an SOA none does
none_behind : (op : Operation) (ops : List Operation) → adds_soa op ≡ true → OneSoa (op ∷ ops) → NoSoa ops
none_behind op ops is few = none_counted ops (by_test (adds_soa op) is few)
  where
    by_test : (b : Bool) → b ≡ true → length (cond b (op ∷ filter adds_soa ops) (filter adds_soa ops)) ≤ 1 → length (filter adds_soa ops) ≤ 0
    by_test true e f = omega (arith, f)
    by_test false e f = absurd cc

fewer : (op : Operation) (ops : List Operation) → OneSoa (op ∷ ops) → OneSoa ops
fewer op ops few = by_test (adds_soa op) few
  where
    by_test : (b : Bool) → length (cond b (op ∷ filter adds_soa ops) (filter adds_soa ops)) ≤ 1 → OneSoa ops
    by_test true f = omega (arith, f)
    by_test false f = f

-- before one that adds an SOA none does
none_before : (xs ys : List Operation) → list_any adds_soa ys ≡ true → OneSoa (xs ++ ys) → NoSoa xs
none_before [] ys some few = tt
none_before (op ∷ xs) ys some few =
    by_cases (adds_soa op) (NoSoa (op ∷ xs))
    (λ t. absurd (no (list_any adds_soa ys) some (added_none ys (all_back (λ o. adds_soa o ≡ false) xs ys (none_behind op (xs ++ ys) t few)))))
    (λ f. (f, none_before xs ys some (fewer op (xs ++ ys) few)))

front_few : (xs ys : List Operation) → OneSoa (xs ++ ys) → OneSoa xs
front_few [] ys few = omega arith
front_few (op ∷ xs) ys few =
    by_cases (adds_soa op) (OneSoa (op ∷ xs))
    (λ t. let rest = counted_none xs (all_front (λ o. adds_soa o ≡ false) xs ys (none_behind op (xs ++ ys) t few)) in rw t (omega (arith, rest)))
    (λ f. rw f (front_few xs ys (fewer op (xs ++ ys) few)))

back_few : (xs ys : List Operation) → OneSoa (xs ++ ys) → OneSoa ys
back_few [] ys few = few
back_few (op ∷ xs) ys few = back_few xs ys (fewer op (xs ++ ys) few)

-- ---- the SOA under operations

module _ (origin : List (List ℕ)) where
  -- the SOA of one set is that of another, with its serial so much further
  abbrev Shifted : ℕ → Records → Records → Type 0
  Shifted n z y = (s : Record) × (soa_at origin z ≡ Some s) × (soa_at origin y ≡ Some (at_serial (serial_sum (serial_in s) n) s))

  -- they are one but for the serial
  abbrev OneSoaBoth : Records → Records → Type 0
  OneSoaBoth z y = (s : Record) × HasSoa origin z s × HasSoa origin y s

  shifted_both : (n : ℕ) (z y : Records) → Shifted n z y → OneSoaBoth z y
  shifted_both n z y shifted =
      let s = shifted.0 in (s, (s, shifted.1, λ q. refl), (at_serial (serial_sum (serial_in s) n) s, shifted.2, λ q. at_twice q (serial_sum (serial_in s) n) s))

  stays_at : (z : Records) → Keys origin z → (ops : List Operation) → AreWithin origin ops → NoSoa ops → soa_at origin (effects origin z ops) ≡ soa_at origin z
  stays_at z keys ops within plain = effects_soa origin z keys ops within plain ∙ sym (soa_is origin z keys)

  has_still : (z : Records) → Keys origin z → (ops : List Operation) → AreWithin origin ops → NoSoa ops → (s : Record) → HasSoa origin z s → HasSoa origin (effects origin z ops) s
  has_still z keys ops within plain s has_it = (has_it.0, stays_at z keys ops within plain ∙ has_it.1, has_it.2)

  -- an SOA that is added
  add_is : (set : Records) (x : Record) → is_soa (key_of x) ≡ true → (b : Bool) → takes_over x (soa_at x.owner set) ≡ b → add origin set x ≡ (if b then with_soa set x else set)
  add_is set x type b takes =
      ap (λ c. if c then add_soa set x else (if is_cname (key_of x) then add_cname set x else (if is_misplaced origin x then set else add_other set x))) type
      ∙ ap (λ c. if c then with_soa set x else set) takes

  one_of : (set : Records) (keys : Keys origin set) (s : Record) → soa_at origin set ≡ Some s → keys.soa_there.0 ≡ s
  one_of set keys s e = let both : Some keys.soa_there.0 ≡ Some s = sym (soa_is origin set keys) ∙ e in cc

  here_of : (set : Records) → Keys origin set → (s : Record) → soa_at origin set ≡ Some s → IsSoaHere origin s
  here_of set keys s e = subst (IsSoaHere origin) (one_of set keys s e) (soa_here origin set keys)

  at_here : (q : ℕ) (s : Record) → q < 2 ^ 32 → IsSoaHere origin s → IsSoaHere origin (at_serial q s)
  at_here q s fits here = record { is = at_fits q s fits here.is; type = data_type q s.rdata ∙ here.type; home = here.home }

  -- it is taken from the one serial exactly where it is from the other, each so much further
  abbrev Fair : ℕ → ℕ → ℕ → Record → Type 0
  Fair c n t x = is_less (serial_sum t c) (serial_sum (serial_in x) n) ≡ is_less t (serial_in x)

  abbrev IsFair : ℕ → ℕ → ℕ → Operation → Type 0
  IsFair c n t (Add x) = is_soa (key_of x) ≡ true → Fair c n t x
  IsFair c n t op = Unit {0}

  module _ (n c : ℕ) (z y : Records) (keys : Keys origin z) (also : Keys origin y) (shifted : Shifted c z y) where
    abbrev s : Record
    s = shifted.0

    abbrev further_on : Record → Record
    further_on r = at_serial (serial_sum (serial_in r) n) r

    s_here : IsSoaHere origin s
    s_here = here_of z keys s shifted.1

    module _ (x : Record) (is : IsRecord x) (type : is_soa (key_of x) ≡ true) (fair : Fair c n (serial_in s) x) where
      type_is : type_of x.rdata ≡ types.Soa
      type_is = one_rank (type_of x.rdata) types.Soa (eqb-true (rank_of (type_of x.rdata)) (rank_of types.Soa) type)

      type_further : is_soa (key_of (further_on x)) ≡ true
      type_further = soa_stays n (Add x) ∙ type

      added_here : x.owner ≡ origin → OneSoaBoth (add origin z x) (add origin y (further_on x))
      added_here home = by_less (is_less (serial_in s) (serial_in x)) refl
        where
          x_here : IsSoaHere origin x
          x_here = record { is = is; type = type_is; home = home }

          takes : takes_over x (soa_at x.owner z) ≡ is_less (serial_in s) (serial_in x)
          takes = ap (takes_over x) (ap (λ o. soa_at o z) home ∙ shifted.1)

          takes_further : takes_over (further_on x) (soa_at (further_on x).owner y) ≡ is_less (serial_in s) (serial_in x)
          takes_further =
              ap (takes_over (further_on x)) (ap (λ o. soa_at o y) home ∙ shifted.2)
              ∙ (λ i. is_less (serial_is (serial_sum (serial_in s) c) s s_here.type i) (serial_is (serial_sum (serial_in x) n) x type_is i)) ∙ fair

          by_less : (b : Bool) → is_less (serial_in s) (serial_in x) ≡ b → OneSoaBoth (add origin z x) (add origin y (further_on x))
          by_less true e = (
            x,
            (x, ap (soa_at origin) (add_is z x type true (takes ∙ e)) ∙ with_at origin z keys x x_here, λ q. refl),
            (
              further_on x,
              ap (soa_at origin) (add_is y (further_on x) type_further true (takes_further ∙ e))
                  ∙ with_at origin y also (further_on x) (at_here (serial_sum (serial_in x) n) x (sum_fits (serial_in x) n) x_here),
              λ q. at_twice q (serial_sum (serial_in x) n) x,
            ),
          )
          by_less false e =
              subst (λ a. OneSoaBoth a (add origin y (further_on x))) (sym (add_is z x type false (takes ∙ e)))
              (subst (λ b. OneSoaBoth z b) (sym (add_is y (further_on x) type_further false (takes_further ∙ e))) (shifted_both c z y shifted))

      added_away : (x.owner ≡ origin → ⊥) → OneSoaBoth (add origin z x) (add origin y (further_on x))
      added_away away =
          subst (λ a. OneSoaBoth a (add origin y (further_on x))) (sym (add_is z x type false (ap (takes_over x) (none_elsewhere origin z keys x type away))))
          (subst (λ b. OneSoaBoth z b) (sym (add_is y (further_on x) type_further false (ap (takes_over (further_on x)) (none_elsewhere origin y also (further_on x) type_further away))))
          (shifted_both c z y shifted))

      added_both : OneSoaBoth (add origin z x) (add origin y (further_on x))
      added_both =
          by_cases (same_name x.owner origin) _ (λ e. added_here (name_is x.owner origin e))
          (λ e. added_away (λ home. no (same_name x.owner origin) (subst (λ o. same_name o origin ≡ true) (sym home) (name_self origin)) e))

    soa_both : (op : Operation) → IsOperation op → adds_soa op ≡ true → IsFair c n (serial_in s) op → OneSoaBoth (effect origin z op) (effect origin y (further n op))
    soa_both (Add x) is type fair = added_both x is type (fair type)
    soa_both (DeleteRrset name t) is type fair = absurd cc
    soa_both (DeleteName name) is type fair = absurd cc
    soa_both (DeleteRecord name rdata) is type fair = absurd cc

  shifted_still : (n : ℕ) (z y : Records) → Keys origin z → Keys origin y → Shifted n z y → (ops : List Operation) → AreWithin origin ops → NoSoa ops → Shifted n (effects origin z ops) (effects origin y ops)
  shifted_still n z y keys also shifted ops within plain = (shifted.0, stays_at z keys ops within plain ∙ shifted.1, stays_at y also ops within plain ∙ shifted.2)

  -- the operations of an update
  part_both : (n c : ℕ) (z y : Records) → Keys origin z → Keys origin y → (shifted : Shifted c z y) → (ops : List Operation) → AreWithin origin ops → OneSoa ops
      → AllByRecursion (IsFair c n (serial_in shifted.0)) ops → OneSoaBoth (effects origin z ops) (effects origin y (map (further n) ops))
  unfolding shifted_still
  part_both n c z y keys also shifted [] within few fair = shifted_both c z y shifted
  part_both n c z y keys also shifted (op ∷ ops) within few fair =
      let moved = within_stays n origin (op ∷ ops) within in
      let next = (effect_heir origin z keys op within.0.0 within.0.1).0 in
      by_cases (adds_soa op) (OneSoaBoth (effects origin z (op ∷ ops)) (effects origin y (map (further n) (op ∷ ops))))
      (λ t.
      let none = none_behind op ops t few in
      let both = soa_both n c z y keys also shifted op within.0.0 t fair.0 in
      let next_also = (effect_heir origin y also (further n op) moved.0.0 moved.0.1).0 in (
        both.0,
        has_still (effect origin z op) next ops within.1 none both.0 both.1,
        has_still (effect origin y (further n op)) next_also (map (further n) ops) moved.1 (subst NoSoa (sym (all_stay n ops none)) none) both.0 both.2,
      ))
      (λ f.
      let next_also = (effect_heir origin y also op within.0.0 within.0.1).0 in
      subst (λ o. OneSoaBoth (effects origin z (op ∷ ops)) (effects origin y (o ∷ map (further n) ops))) (sym (other_stays n op f))
      (part_both n c (effect origin z op) (effect origin y op) next next_also (shifted_still c z y keys also shifted (op ∷ []) (within.0, tt) (f, tt)) ops within.1 (fewer op ops few) fair.1))

  -- an update that changes something, and adds no SOA
  moved_on : (n : ℕ) (z y : Records) → Keys origin z → (also : Keys origin y) → Shifted n z y → (ops : List Operation) → AreWithin origin ops → NoSoa ops
      → (serial_advanced origin y (effects origin y ops) ≢ y) → Shifted (n + 1) (effects origin z ops) (serial_advanced origin y (effects origin y ops))
  moved_on n z y keys also shifted ops within plain changes =
      let s = shifted.0 in
      let made = keys_effects origin y also ops within in
      let here = here_of z keys s shifted.1 in
      let old = also.soa_there.0 in
      let mine : old ≡ at_serial (serial_sum (serial_in s) n) s = one_of y also (at_serial (serial_sum (serial_in s) n) s) shifted.2 in
      let same : made.soa_there.0 ≡ old = one_of (effects origin y ops) made old (effects_soa origin y also ops within plain) in
      let next : next_version old ≡ at_serial (serial_sum (serial_in s) (n + 1)) s =
      ap (λ (r : Record). next_version r) mine ∙ next_is_at (at_serial (serial_sum (serial_in s) n) s)
      ∙ ap (λ q. at_serial (serial_sum q 1) (at_serial (serial_sum (serial_in s) n) s)) (serial_is (serial_sum (serial_in s) n) s here.type)
      ∙ at_twice (serial_sum (serial_sum (serial_in s) n) 1) (serial_sum (serial_in s) n) s
      ∙ ap (λ q. at_serial q s) (sum_more (serial_in s) n) in
      let advanced : serial_advanced origin y (effects origin y ops) ≡ with_soa (effects origin y ops) (next_version old) =
      goes_further origin y (effects origin y ops) also made (differ y (effects origin y ops) changes) same in
      let there : IsSoaHere origin (next_version old) =
      subst (IsSoaHere origin) (sym next) (at_here (serial_sum (serial_in s) (n + 1)) s (sum_fits (serial_in s) (n + 1)) here) in
      (s, stays_at z keys ops within plain ∙ shifted.1, ap (soa_at origin) advanced ∙ with_at origin (effects origin y ops) made (next_version old) there ∙ ap (λ (r : Record). Some r) next)
    where
      differ : (y m : Records) → serial_advanced origin y m ≢ y → is_same y m ≡ false
      differ y m changes =
          by_cases (is_same y m) (is_same y m ≡ false)
          (λ t. absurd (changes (ap (λ b. if b then y else (if serial_at origin y == serial_at origin m then with_next m (soa_at origin m) else m)) t))) (λ f. f)

-- where something changed, the zone is another
changes_serial : (origin : List (List ℕ)) (y : Records) (keys : Keys origin y) (m : Records) (made : Keys origin m) → soa_at origin m ≡ Some keys.soa_there.0 → is_same y m ≡ false
    → serial_advanced origin y m ≢ y
changes_serial origin y keys m made soa differs same =
    let old = keys.soa_there.0 in
    let here = soa_here origin y keys in
    let advanced : serial_advanced origin y m ≡ with_soa m (next_version old) = goes_further origin y m keys made differs (one_of origin m made old soa) in
    let next : next_version old ≡ at_serial (serial_sum (serial_in old) 1) old = next_is_at old in
    let there : IsSoaHere origin (next_version old) = subst (IsSoaHere origin) (sym next) (at_here origin (serial_sum (serial_in old) 1) old (sum_fits (serial_in old) 1) here) in
    let both : Some (next_version old) ≡ Some old = sym (with_at origin m made (next_version old) there) ∙ ap (soa_at origin) (sym advanced ∙ same) ∙ soa_is origin y keys in
    let one : next_version old ≡ old = cc in
    let serials : serial_sum (serial_in old) 1 ≡ serial_in old = sym (serial_is (serial_sum (serial_in old) 1) old here.type) ∙ ap serial_in (sym next ∙ one) in
    not_less (serial_in old) (ap (is_less (serial_in old)) (sym serials) ∙ less_next (serial_in old) (serial_fits old here.is))

-- ---- updates in turn

has_through : (zone : ZoneOf) (keys : Keys zone.origin zone.records) (us : List UpdateOf) → AreWithin zone.origin (operations_of us) → NoSoa (operations_of us)
    → (s : Record) → HasSoa zone.origin zone.records s → HasSoa zone.origin (zone_after_parts zone us).records s
has_through zone keys us within plain s has_it =
    let last = parts_soa zone keys us within plain in
    (last.0, last.1, λ q. last.2 q ∙ ap (at_serial q) (one_of zone.origin zone.records keys has_it.0 has_it.1) ∙ has_it.2 q)

module _ (n c : ℕ) (zone : ZoneOf) (keys : Keys zone.origin zone.records) (z : Records) (own : Keys zone.origin z) (shifted : Shifted zone.origin c z zone.records)
    (u : UpdateOf) (us : List UpdateOf) (within : AreWithin zone.origin (operations_of (u ∷ us))) (few : OneSoa (operations_of (u ∷ us))) where
  abbrev moved : List Operation
  moved = map (further n) u.operations

  abbrev next : ZoneOf
  next = zone_after zone (record u { operations = moved })

  abbrev front : AreWithin zone.origin u.operations
  front = all_front (λ op. IsOperation op × IsWithin (acted_name op) zone.origin) u.operations (operations_of us) within

  abbrev back : AreWithin zone.origin (operations_of us)
  back = all_back (λ op. IsOperation op × IsWithin (acted_name op) zone.origin) u.operations (operations_of us) within

  next_keys : Keys zone.origin next.records
  next_keys =
      keys_advanced zone.origin zone.records (effects zone.origin zone.records moved) keys
      (keys_effects zone.origin zone.records keys moved (within_stays n zone.origin u.operations front))

  own_keys : Keys zone.origin (effects zone.origin z u.operations)
  own_keys = keys_effects zone.origin z own u.operations front

  module _ (later : list_any adds_soa (operations_of us) ≡ true) where
    none : NoSoa u.operations
    none = none_before u.operations (operations_of us) later few

    as_before : moved ≡ u.operations
    as_before = all_stay n u.operations none

    next_is : next.records ≡ serial_advanced zone.origin zone.records (effects zone.origin zone.records u.operations)
    next_is = ap (λ (ops : List Operation). serial_advanced zone.origin zone.records (effects zone.origin zone.records ops)) as_before

    -- a later one adds an SOA, and this one changes the zone
    next_shifted : next ≢ zone → Shifted zone.origin (c + 1) (effects zone.origin z u.operations) next.records
    next_shifted changes =
        subst (Shifted zone.origin (c + 1) (effects zone.origin z u.operations)) (sym next_is)
        (moved_on zone.origin c z zone.records own keys shifted u.operations front none (λ e. changes (λ i. record zone { records = (next_is ∙ e) i })))

    -- or does not
    next_same : is_same zone.records (effects zone.origin zone.records u.operations) ≡ true → Shifted zone.origin c (effects zone.origin z u.operations) next.records
    next_same same =
        let m = effects zone.origin zone.records u.operations in
        let idle : next.records ≡ zone.records =
        next_is ∙ ap (λ b. if b then zone.records else (if serial_at zone.origin zone.records == serial_at zone.origin m then with_next m (soa_at zone.origin m) else m)) same in
        (shifted.0, stays_at zone.origin z own u.operations front none ∙ shifted.1, ap (soa_at zone.origin) idle ∙ shifted.2)

    next_other : is_same zone.records (effects zone.origin zone.records u.operations) ≡ false → next ≢ zone
    next_other differs e =
        let same : serial_advanced zone.origin zone.records (effects zone.origin zone.records u.operations) ≡ zone.records = sym next_is ∙ ap (λ (y : ZoneOf). y.records) e in
        changes_serial zone.origin zone.records keys (effects zone.origin zone.records u.operations)
        (keys_effects zone.origin zone.records keys u.operations front) (effects_soa zone.origin zone.records keys u.operations front none) differs same

  -- no later one does
  next_both : list_any adds_soa (operations_of us) ≡ false → AllByRecursion (IsFair zone.origin c n (serial_in shifted.0)) u.operations
      → OneSoaBoth zone.origin (effects zone.origin z (operations_of (u ∷ us))) (zone_after_parts zone (further_in_turn n (u ∷ us))).records
  next_both last fair =
      let none = none_added (operations_of us) last in
      let here = part_both zone.origin n c z zone.records own keys shifted u.operations front (front_few u.operations (operations_of us) few) fair in
      let advanced = advanced_soa zone.origin zone.records keys (effects zone.origin zone.records moved) (keys_effects zone.origin zone.records keys moved (within_stays n zone.origin u.operations front)) here.0 here.2 in (
        here.0,
        subst (λ (s : Records). HasSoa zone.origin s here.0) (sym (effects_append zone.origin z u.operations (operations_of us)))
            (has_still zone.origin (effects zone.origin z u.operations) own_keys (operations_of us) back none here.0 here.1),
        has_through next next_keys (further_in_turn (n + 1) us) (turn_within zone.origin (n + 1) us back)
            (subst NoSoa (sym (turn_plain (n + 1) us none)) none) here.0 advanced,
      )

-- each before it changes the zone
all_fair : (n t : ℕ) → t < 2 ^ 32 → (origin : List (List ℕ)) (ops : List Operation) → AreWithin origin ops → AllByRecursion (IsFair origin n n t) ops
all_fair n t fits origin [] within = tt
all_fair n t fits origin (Add x ∷ ops) within = (λ type. same_less t (serial_in x) n fits (serial_fits x within.0.0), all_fair n t fits origin ops within.1)
all_fair n t fits origin (DeleteRrset name r ∷ ops) within = (tt, all_fair n t fits origin ops within.1)
all_fair n t fits origin (DeleteName name ∷ ops) within = (tt, all_fair n t fits origin ops within.1)
all_fair n t fits origin (DeleteRecord name rdata ∷ ops) within = (tt, all_fair n t fits origin ops within.1)

turn_both : (n : ℕ) (zone : ZoneOf) (keys : Keys zone.origin zone.records) (z : Records) → Keys zone.origin z → Shifted zone.origin n z zone.records
    → (us : List UpdateOf) → AreWithin zone.origin (operations_of us) → OneSoa (operations_of us) → ChangeBeforeSoa zone (further_in_turn n us)
    → OneSoaBoth zone.origin (effects zone.origin z (operations_of us)) (zone_after_parts zone (further_in_turn n us)).records
turn_both n zone keys z own shifted [] within few changes = shifted_both zone.origin n z zone.records shifted
turn_both n zone keys z own shifted (u ∷ us) within few changes =
    by_cases (list_any adds_soa (operations_of us)) _
    (λ later.
    subst (λ (s : Records). OneSoaBoth zone.origin s (zone_after_parts zone (further_in_turn n (u ∷ us))).records) (sym (effects_append zone.origin z u.operations (operations_of us)))
    (turn_both (n + 1) (next n n zone keys z own shifted u us within few) (next_keys n n zone keys z own shifted u us within few) (effects zone.origin z u.operations)
    (own_keys n n zone keys z own shifted u us within few)
    (next_shifted n n zone keys z own shifted u us within few later (changes.0 (turn_any (n + 1) us ∙ later)))
    us (back n n zone keys z own shifted u us within few) (back_few u.operations (operations_of us) few) changes.1))
    (λ last. next_both n n zone keys z own shifted u us within few last
    (all_fair n (serial_in shifted.0) (serial_fits shifted.0 (here_of zone.origin z own shifted.0 shifted.1).is) zone.origin u.operations (front n n zone keys z own shifted u us within few)))

-- its serial stays greater
newer_fair : (c n t : ℕ) → c ≤ n → t < 2 ^ 32 → (most : ℕ) → n < most → (origin : List (List ℕ)) (ops : List Operation) → AreWithin origin ops
    → AllByRecursion (StaysNewer most t) ops → AllByRecursion (IsFair origin c n t) ops
newer_fair c n t le fits most below origin [] within newer = tt
newer_fair c n t le fits most below origin (Add x ∷ ops) within newer = (
  λ type.
      let fits_also = serial_fits x within.0.0 in
      let now : IsLess t (serial_in x) = subst (IsLess t) (sum_none (serial_in x) fits_also) (newer.0 type 0 (omega (arith, below))) in
      let on : IsLess (serial_sum t c) (serial_sum (serial_sum (serial_in x) (n - c)) c) =
      less_further t (serial_sum (serial_in x) (n - c)) c fits (sum_fits (serial_in x) (n - c)) (newer.0 type (n - c) (omega (arith, below, le))) in
      let there : serial_sum (serial_sum (serial_in x) (n - c)) c ≡ serial_sum (serial_in x) n = sum_twice (serial_in x) (n - c) c ∙ ap (serial_sum (serial_in x)) (omega (arith, le)) in
      (is_less-Decides (serial_sum t c) (serial_sum (serial_in x) n)).1 (subst (IsLess (serial_sum t c)) there on) ∙ sym ((is_less-Decides t (serial_in x)).1 now),
  newer_fair c n t le fits most below origin ops within.1 newer.1,
)
newer_fair c n t le fits most below origin (DeleteRrset name r ∷ ops) within newer = (tt, newer_fair c n t le fits most below origin ops within.1 newer.1)
newer_fair c n t le fits most below origin (DeleteName name ∷ ops) within newer = (tt, newer_fair c n t le fits most below origin ops within.1 newer.1)
newer_fair c n t le fits most below origin (DeleteRecord name rdata ∷ ops) within newer = (tt, newer_fair c n t le fits most below origin ops within.1 newer.1)

turn_newer : (n c most : ℕ) → c ≤ n → (zone : ZoneOf) (keys : Keys zone.origin zone.records) (z : Records) → Keys zone.origin z → (shifted : Shifted zone.origin c z zone.records)
    → (us : List UpdateOf) → n + length us ≤ most → AreWithin zone.origin (operations_of us) → OneSoa (operations_of us)
    → (t : ℕ) → t ≡ serial_in shifted.0 → AllByRecursion (StaysNewer most t) (operations_of us)
    → OneSoaBoth zone.origin (effects zone.origin z (operations_of us)) (zone_after_parts zone (further_in_turn n us)).records
unfolding next_same next_shifted moved_on
turn_newer n c most le zone keys z own shifted [] below within few t is newer = shifted_both zone.origin c z zone.records shifted
turn_newer n c most le zone keys z own shifted (u ∷ us) below within few t is newer =
    by_cases (list_any adds_soa (operations_of us)) _
    (λ later.
    subst (λ (s : Records). OneSoaBoth zone.origin s (zone_after_parts zone (further_in_turn n (u ∷ us))).records) (sym (effects_append zone.origin z u.operations (operations_of us)))
    (by_cases (is_same zone.records (effects zone.origin zone.records u.operations)) _
    (λ same.
    turn_newer (n + 1) c most (omega (arith, le)) (next n c zone keys z own shifted u us within few) (next_keys n c zone keys z own shifted u us within few) (effects zone.origin z u.operations)
    (own_keys n c zone keys z own shifted u us within few) (next_same n c zone keys z own shifted u us within few later same)
    us (omega (arith, below)) (back n c zone keys z own shifted u us within few) (back_few u.operations (operations_of us) few) t is
    (all_back (StaysNewer most t) u.operations (operations_of us) newer))
    (λ other.
    turn_newer (n + 1) (c + 1) most (omega (arith, le)) (next n c zone keys z own shifted u us within few) (next_keys n c zone keys z own shifted u us within few) (effects zone.origin z u.operations)
    (own_keys n c zone keys z own shifted u us within few)
    (next_shifted n c zone keys z own shifted u us within few later (next_other n c zone keys z own shifted u us within few later other))
    us (omega (arith, below)) (back n c zone keys z own shifted u us within few) (back_few u.operations (operations_of us) few) t is
    (all_back (StaysNewer most t) u.operations (operations_of us) newer))))
    (λ last. next_both n c zone keys z own shifted u us within few last
    (newer_fair c n (serial_in shifted.0) le (serial_fits shifted.0 (here_of zone.origin z own shifted.0 shifted.1).is) most (omega (arith, below)) zone.origin u.operations
    (front n c zone keys z own shifted u us within few)
    (subst (λ m. AllByRecursion (StaysNewer most m) u.operations) is (all_front (StaysNewer most t) u.operations (operations_of us) newer))))

-- ---- the laws

module _ (zone : ZoneOf) (parts : List UpdateOf) (whole : UpdateOf) (z : IsZone zone) (within : AreWithin zone.origin whole.operations) (same : operations_of parts ≡ whole.operations) where
  abbrev origin : List (List ℕ)
  origin = zone.origin

  abbrev keys : Keys origin zone.records
  keys = keys_of origin zone.records z

  abbrev first_soa : Record
  first_soa = keys.soa_there.0

  abbrev parts_within : AreWithin origin (operations_of parts)
  parts_within = subst (AreWithin origin) (sym same) within

  first_shifted : Shifted origin 0 zone.records zone.records
  first_shifted =
      let found : soa_at origin zone.records ≡ Some first_soa = soa_is origin zone.records keys in
      let own : at_serial (serial_sum (serial_in first_soa) 0) first_soa ≡ first_soa =
      ap (λ q. at_serial q first_soa) (sum_none (serial_in first_soa) (serial_fits first_soa (soa_here origin zone.records keys).is)) ∙ at_own first_soa in
      (first_soa, found, found ∙ ap (λ (r : Record). Some r) (sym own))

  same_but_serial : OneSoaBoth origin (effects origin zone.records (operations_of parts)) (zone_after_parts zone (further_in_turn 0 parts)).records
      → SameButSerial (zone_after_parts zone (further_in_turn 0 parts)) (zone_after zone whole)
  same_but_serial both serial =
      let made = effects origin zone.records whole.operations in
      let made_keys = keys_effects origin zone.records keys whole.operations within in
      let made_soa : HasSoa origin made both.0 = subst (λ (ops : List Operation). HasSoa origin (effects origin zone.records ops) both.0) same both.1 in
      let second = advanced_soa origin zone.records keys made made_keys both.0 made_soa in
      let alike = all_alike zone (further_in_turn 0 parts) whole z (turn_within origin 0 parts parts_within) within (turn_others 0 parts ∙ ap (filter adds_no_soa) same) in
      let here = here_of origin made made_keys made_soa.0 made_soa.1 in
      let home : both.0.owner ≡ origin = sym (ap (λ (r : Record). r.owner) (made_soa.2 0)) ∙ here.home in
      let one = one_serial origin (zone_after_parts zone (further_in_turn 0 parts)).records (zone_after zone whole).records alike both.0 home both.2 second serial in
      let parts_home = parts_origin zone (further_in_turn 0 parts) in
      λ i. record { origin = parts_home i; records = (ap (λ o. with_serial o serial (zone_after_parts zone (further_in_turn 0 parts)).records) parts_home ∙ one) i }

pub parts_take_the_soa : PartsTakeTheSoa
parts_take_the_soa zone parts whole z within same few changes =
    let own = keys zone parts whole z within same in
    same_but_serial zone parts whole z within same
    (turn_both 0 zone own zone.records own (first_shifted zone parts whole z within same) parts (parts_within zone parts whole z within same) (subst OneSoa (sym same) few) changes)

pub parts_take_a_newer_soa : PartsTakeANewerSoa
unfolding first_shifted
parts_take_a_newer_soa zone parts whole z within same few newer =
    let own = keys zone parts whole z within same in
    let shifted = first_shifted zone parts whole z within same in
    same_but_serial zone parts whole z within same
    (turn_newer 0 0 (length parts) (omega arith) zone own zone.records own shifted parts (omega arith) (parts_within zone parts whole z within same) (subst OneSoa (sym same) few)
    (serial_of zone) (serial_own zone.origin zone.records own) (subst (AllByRecursion (StaysNewer (length parts) (serial_of zone))) (sym same) newer))
