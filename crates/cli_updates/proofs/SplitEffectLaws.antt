-- What the parts of an update come to.
use Rattle.std.proofs.Common.{◌≡◌, ◌≢◌, ◌∙◌, inl, inr, ℕ, suc, ◌+◌, ◌≤◌, ◌^◌, List, [], ◌∷◌, ◌++◌, length, map, Bool, true, false, ◌||◌, min, nat_lt, if◌then◌else◌, Ok, Err, arith, refl, sym, ap, ap₂, subst}
use Rattle.std.specs.List.{AllByRecursion, filter}
use Rattle.std.specs.List.Sorted.{IsPermutation}
use Rattle.std.specs.Option.{option_map_or}
use Rattle.std.proofs.lemmas.List.{map-append}
use Rattle.dns_names.specs.Labels.{IsWithin}
use Rattle.dns_data.specs.declared.rdata.Data.{Data}
use Rattle.dns_data.specs.declared.rdata.Data.TheVariants as variants
use Rattle.zone_core.specs.declared.update.Prerequisite.{Prerequisite}
use Rattle.zone_core.specs.declared.update.Operation.{Operation}
use Rattle.zone_core.specs.declared.update.Operation.TheVariants.{Add, DeleteRrset, DeleteName, DeleteRecord}
use Rattle.zone_core.specs.declared.faults.UpdateFault.TheVariants.{TooManyItems, TwoSoa}
use Rattle.zone_core.specs.Serials.{serial_sum}
use Rattle.zone_core.specs.Zones.{serial_of, soa_in}
use Rattle.zone_core.specs.Updates.{UpdateOf, IsOperation, acted_name, adds_soa, tested_name}
use Rattle.zone_tools.specs.Differences.{data_at}
use Rattle.zone_tools.specs.DifferencePromises.{AreWithin}
use Rattle.zone_tools.specs.UpdatesInTurn.{operations_of, prerequisites_of, adds_no_soa, zone_after_parts, SameButSerial, further, further_in_turn, ChangeBeforeSoa, StaysNewer, LeaveTested, AreTestedFirst, HasWholeSets}
use Rattle.zone_core.specs.Effects.{zone_after}
use Rattle.zone_tools.proofs.InTurnLemmas.{all_front, all_back, all_join, parts_make_the_records, parts_make_the_zone}
use Rattle.zone_tools.proofs.FurtherLemmas.{names_stay, within_stays, others_stay, all_stay, filter-append}
use Rattle.zone_tools.proofs.SoaInTurnLemmas.{parts_take_the_soa, parts_take_a_newer_soa}
use Rattle.zone_tools.proofs.TestedInTurnLemmas.{parts_are_met}
use Rattle.update_lines.specs.ItemFaults.{of_updates}
use Rattle.cli_core.specs.LineFaults.{of_items}
use Rattle.cli_updates.specs.Pieces.{split_of}
use Rattle.cli_updates.specs.Split.{advance, advanced_data, advanced, part_update}
use Rattle.cli_updates.specs.SplitEffects.{ArePartUpdates, DoTheSame, SplitsDoTheSame}
use Rattle.cli_updates.proofs.SplitLaws.{splits_are_parts}

-- ---- the updates

-- a part with its serial further
abbrev further_part : ℕ → UpdateOf → UpdateOf
further_part n u = record u { operations = map (further n) u.operations }

-- the updates of parts
abbrev part_updates : ℕ → List UpdateOf → List UpdateOf
part_updates before [] = []
part_updates before (u ∷ us) = further_part (advance before) u ∷ part_updates (before + 1) us

data_further : (n : ℕ) (d : Data) → advanced_data n d ≡ data_at (serial_sum (option_map_or (λ soa. soa.serial.0) (soa_in d) 0) n) d
data_further n (variants.Soa soa) = refl
data_further n d = refl

is_further : (n : ℕ) (op : Operation) → advanced n op ≡ further n op
is_further n (Add r) = ap (λ d. Add (record r { rdata = d })) (data_further n r.rdata)
is_further n (DeleteRrset name t) = refl
is_further n (DeleteName name) = refl
is_further n (DeleteRecord name rdata) = refl

are_further : (n : ℕ) (ops : List Operation) → map (advanced n) ops ≡ map (further n) ops
are_further n [] = refl
are_further n (op ∷ ops) = ap₂ (λ x xs. x ∷ xs) (is_further n op) (are_further n ops)

part_is : (before : ℕ) (u v : UpdateOf) → part_update before u ≡ Ok v → v ≡ further_part (advance before) u
part_is before u v e =
    made (nat_lt 64 (length u.prerequisites) || nat_lt 256 (length (map (advanced (advance before)) u.operations)))
    (nat_lt 1 (length (filter adds_soa (map (advanced (advance before)) u.operations)))) e
    ∙ ap (λ (ops : List Operation). record u { operations = ops }) (are_further (advance before) u.operations)
  where
    made : (a b : Bool)
        → of_items (of_updates (if a then Err TooManyItems else (if b then Err TwoSoa else Ok (record u { operations = map (advanced (advance before)) u.operations })))) ≡ Ok v
        → v ≡ record u { operations = map (advanced (advance before)) u.operations }
    made true b e = absurd cc
    made false true e = absurd cc
    made false false e = cc

updates_are : (before : ℕ) (us updates : List UpdateOf) → ArePartUpdates before us updates → updates ≡ part_updates before us
updates_are before [] updates are = are
updates_are before (u ∷ us) [] are = absurd are
updates_are before (u ∷ us) (v ∷ vs) are = ap₂ (λ x xs. x ∷ xs) (part_is before u v are.0) (updates_are (before + 1) us vs are.1)

-- where they are not too many, each is further by one for each before it
all_counted : (before : ℕ) (us : List UpdateOf) → before + length (part_updates before us) ≤ 2 ^ 31 → part_updates before us ≡ further_in_turn before us
all_counted before [] few = refl
all_counted before (u ∷ us) few =
    let same : min before 2147483647 ≡ before = grind (arith, few) in
    ap₂ (λ x xs. x ∷ xs) (ap (λ n. further_part n u) same) (all_counted (before + 1) us (omega (arith, few)))

same_count : (before : ℕ) (us : List UpdateOf) → length (part_updates before us) ≡ length us
same_count before [] = refl
same_count before (u ∷ us) = ap suc (same_count (before + 1) us)

from_none : (n most : ℕ) → n ≤ most → 0 + n ≤ most
from_none n most few = omega (arith, few)

-- ---- what the parts have

tests_same : (before : ℕ) (us : List UpdateOf) → prerequisites_of (part_updates before us) ≡ prerequisites_of us
tests_same before [] = refl
tests_same before (u ∷ us) = ap (λ l. u.prerequisites ++ l) (tests_same (before + 1) us)

others_same : (before : ℕ) (us : List UpdateOf) → filter adds_no_soa (operations_of (part_updates before us)) ≡ filter adds_no_soa (operations_of us)
others_same before [] = refl
others_same before (u ∷ us) =
    filter-append adds_no_soa (map (further (advance before)) u.operations) (operations_of (part_updates (before + 1) us))
    ∙ ap₂ (λ xs ys. xs ++ ys) (others_stay (advance before) u.operations) (others_same (before + 1) us) ∙ sym (filter-append adds_no_soa u.operations (operations_of us))

all_same : (before : ℕ) (us : List UpdateOf) → AllByRecursion (λ op. adds_soa op ≡ false) (operations_of us) → operations_of (part_updates before us) ≡ operations_of us
all_same before [] plain = refl
all_same before (u ∷ us) plain =
    ap₂ (λ xs ys. xs ++ ys) (all_stay (advance before) u.operations (all_front (λ op. adds_soa op ≡ false) u.operations (operations_of us) plain))
    (all_same (before + 1) us (all_back (λ op. adds_soa op ≡ false) u.operations (operations_of us) plain))

within_same : (origin : List (List ℕ)) (before : ℕ) (us : List UpdateOf) → AreWithin origin (operations_of us) → AreWithin origin (operations_of (part_updates before us))
within_same origin before [] within = tt
within_same origin before (u ∷ us) within =
    all_join (λ op. IsOperation op × IsWithin (acted_name op) origin) (map (further (advance before)) u.operations) (operations_of (part_updates (before + 1) us))
    (within_stays (advance before) origin u.operations (all_front (λ op. IsOperation op × IsWithin (acted_name op) origin) u.operations (operations_of us) within))
    (within_same origin (before + 1) us (all_back (λ op. IsOperation op × IsWithin (acted_name op) origin) u.operations (operations_of us) within))

-- what operations leave, others at the same names leave
leave_alike : (p : Prerequisite) (xs ys : List Operation) → map acted_name ys ≡ map acted_name xs → LeaveTested xs p → LeaveTested ys p
leave_alike p xs ys same left = (names xs ys same left.0, λ soa. none ys (same ∙ ap (map acted_name) (left.1 soa)))
  where
    names : (xs ys : List Operation) → map acted_name ys ≡ map acted_name xs → AllByRecursion (λ op. acted_name op ≢ tested_name p) xs → AllByRecursion (λ op. acted_name op ≢ tested_name p) ys
    names xs [] same away = tt
    names [] (y ∷ ys) same away = absurd cc
    names (x ∷ xs) (y ∷ ys) same away =
        let here : acted_name y ≡ acted_name x = cc in
        let more : map acted_name ys ≡ map acted_name xs = cc in
        (λ e. away.0 (sym here ∙ e), names xs ys more away.1)

    none : (ys : List Operation) → map acted_name ys ≡ [] → ys ≡ []
    none [] e = refl
    none (y ∷ ys) e = absurd cc

all_leave : (xs ys : List Operation) → map acted_name ys ≡ map acted_name xs → (ps : List Prerequisite) → AllByRecursion (LeaveTested xs) ps → AllByRecursion (LeaveTested ys) ps
all_leave xs ys same [] all = tt
all_leave xs ys same (p ∷ ps) all = (leave_alike p xs ys same all.0, all_leave xs ys same ps all.1)

first_same : (before : ℕ) (us : List UpdateOf) (xs ys : List Operation) → map acted_name ys ≡ map acted_name xs → AreTestedFirst xs us → AreTestedFirst ys (part_updates before us)
first_same before [] xs ys same first = tt
first_same before (u ∷ us) xs ys same first = (
  all_leave xs ys same u.prerequisites first.0,
  first_same (before + 1) us (xs ++ u.operations) (ys ++ map (further (advance before)) u.operations)
      (map-append acted_name ys (map (further (advance before)) u.operations) ∙ ap₂ (λ a b. a ++ b) same (names_stay (advance before) u.operations) ∙ sym (map-append acted_name xs u.operations))
      first.1,
)

together_same : (tests : List Prerequisite) (before : ℕ) (us : List UpdateOf) → AllByRecursion (HasWholeSets tests) us → AllByRecursion (HasWholeSets tests) (part_updates before us)
together_same tests before [] all = tt
together_same tests before (u ∷ us) all = (all.0, together_same tests (before + 1) us all.1)

-- ---- what they do

pub splits_do_the_same : SplitsDoTheSame
splits_do_the_same id tests ops updates zone are z within =
    let parts = split_of id tests ops in
    let whole : UpdateOf = record { prerequisites = tests; operations = ops } in
    let split = splits_are_parts id tests ops in
    let parts_within = within_same zone.origin 0 parts (subst (AreWithin zone.origin) (sym split.in_order) within) in
    subst (λ us. DoTheSame zone us whole) (sym (updates_are 0 parts updates are))
    (record {
      records = parts_make_the_records zone (part_updates 0 parts) whole z parts_within within (others_same 0 parts ∙ ap (filter adds_no_soa) split.in_order);
      met = parts_are_met zone (part_updates 0 parts) whole z parts_within (subst (IsPermutation tests) (sym (tests_same 0 parts)) split.once)
          (first_same 0 parts [] [] refl split.first) (together_same tests 0 parts split.together);
      bare = λ plain. parts_make_the_zone zone (part_updates 0 parts) whole z within
          (all_same 0 parts (subst (AllByRecursion (λ op. adds_soa op ≡ false)) (sym split.in_order) plain) ∙ split.in_order) plain;
      soa = λ one few cases.
          let counted = all_counted 0 parts (from_none (length (part_updates 0 parts)) (2 ^ 31) few) in
          subst (λ us. SameButSerial (zone_after_parts zone us) (zone_after zone whole)) (sym counted)
          (elim cases [
            | inl changes ↦ parts_take_the_soa zone parts whole z within split.in_order one (subst (ChangeBeforeSoa zone) counted changes)
            | inr newer ↦ parts_take_a_newer_soa zone parts whole z within split.in_order one
                (subst (λ n. AllByRecursion (StaysNewer n (serial_of zone)) ops) (same_count 0 parts) newer)
          ]);
    })
