-- Operations that change nothing.
use Rattle.std.proofs.Common.{◌||◌, add-zero, zero-add, if◌then◌else◌, ◌≡◌, ◌↔◌, ◌&&◌, Some, None, ℕ, zero, true, false, cond, Option, Ok, Err, arith, ◌+◌, ◌<◌, ◌≤◌, suc, List, [], ◌∷◌, ◌++◌, length, get_or, take, drop, Bool, not, ◌==◌, refl, sym, ap, ◌∙◌, append_assoc, append-nil}
use Rattle.std.specs.FinMap.{entries, len-entries}
use Rattle.std.specs.List.{filter}
use Rattle.std.proofs.lemmas.Bool.{le-ltb}
use Rattle.std.specs.FinMap.{len}
use Rattle.std.specs.List.{AllByRecursion}
use Rattle.std.specs.Prelude.{IsSome, slice_get}
use Rattle.zone_core.specs.Sets.{minus, is_same}
use Rattle.zone_core.specs.Zones.{IsZone, AreKept}
use Rattle.dns_names.specs.Labels.{IsWithin}
use Rattle.zone_core.specs.Updates.{IsOperation, ActsWithin, acted_name}
use Rattle.zone_core.specs.Changes.{change_between, changed, is_empty}
use Rattle.zone_core.specs.Parts.{tested, touched, part_of, Covers, DoesForZone}
use Rattle.zone_core.proofs.NeedLemmas.{updates_need}
use Rattle.zone_core.proofs.ChangedLemmas.{changes_make, same_sets_are_one}
use Rattle.zone_core.proofs.VersionLemmas.{updates_keep}
use Rattle.zone_tools.specs.IdleOperations.{until, zone_until, reason, IdleOperationsChangeNothing, IdleOperationsNeedTheirPart}
use Rattle.std.proofs.lemmas.List.{length-map, length-take, length-take-le, drop_all, at_drop_more}
use Rattle.zone_core.specs.declared.update.Operation.{Operation}
use Rattle.zone_core.specs.Sets.{Records, Key, at_name, listing, part, has}
use Rattle.zone_core.specs.Zones.{ZoneOf}
use Rattle.zone_core.specs.declared.faults.UpdateFault.{UpdateFault}
use Rattle.zone_core.specs.Updates.{UpdateOf, IsUpdate, adds_soa, update_of}
use Rattle.zone_tools.specs.declared.idle.Idleness.{Idleness}
use Rattle.zone_tools.specs.IdleOperations.{idle_at, idle_from, idle_operations}

-- whether records that pass a test are listed
pub has_listed : (set : Records) (p : Key → Bool) (bare : Bool) → bare ≡ (length (listing (part set p)) == 0) → not bare ≡ has set p
has_listed set p bare e =
    ap not (e ∙ ap (λ (n : ℕ). n == 0) (length-map (entries (part set p)) (λ x. x.1) ∙ sym (len-entries (part set p))))

module _ (zone : ZoneOf) (update : UpdateOf) where
  -- what was found of the operations before one, and what is to be found from it on
  pub next_idle : (ops : List Operation) (i : ℕ) (op : Operation) (found next : List (Option Idleness)) (total : List (Option Idleness)) → i < length ops → op ≡ get_or ops i op
      → found ++ idle_from zone update i (drop i ops) ≡ total → next ≡ found ++ idle_at zone update i op ∷ [] → next ++ idle_from zone update (i + 1) (drop (i + 1) ops) ≡ total
  next_idle ops i op found next total lt is so here =
      ap (λ l. l ++ idle_from zone update (i + 1) (drop (i + 1) ops)) here
      ∙ append_assoc found (idle_at zone update i op ∷ []) (idle_from zone update (i + 1) (drop (i + 1) ops))
      ∙ ap (λ l. found ++ l) (sym (at_drop_more (λ ys. idle_from zone update i ys) ops i op lt ∙ ap (λ (y : Operation). idle_from zone update i (y ∷ drop (i + 1) ops)) (sym is)))
      ∙ so

  pub all_idle : (ops : List Operation) (i : ℕ) (found total : List (Option Idleness)) → length ops ≤ i → found ++ idle_from zone update i (drop i ops) ≡ total → found ≡ total
  all_idle ops i found total past so =
      sym (append-nil found) ∙ ap (λ (ys : List Operation). found ++ idle_from zone update i ys) (sym (drop_all i ops past)) ∙ so

-- a test passes no more items of the first ones than of all
few_first : {X : Type 0} (p : X → Bool) (i : ℕ) (xs : List X) → length (filter p (take i xs)) ≤ length (filter p xs)
few_first p zero xs = omega arith
few_first p (suc i) [] = omega arith
few_first p (suc i) (x ∷ xs) = by_test (p x) (few_first p i xs)
  where
    by_test : (b : Bool) → length (filter p (take i xs)) ≤ length (filter p xs) → length (cond b (x ∷ filter p (take i xs)) (filter p (take i xs))) ≤ length (cond b (x ∷ filter p xs) (filter p xs))
    by_test true le = omega (arith, le)
    by_test false le = le

-- few operations without prerequisites are an update
built : (ops : List Operation) → length ops ≤ 256 → length (filter adds_soa ops) ≤ 1 → update_of [] ops ≡ Ok (record { prerequisites = []; operations = ops })
built ops few one = rw (le-ltb 256 (length ops) few, le-ltb 1 (length (filter adds_soa ops)) one) refl

-- the first operations of an update are those of one
pub first_build : (update : UpdateOf) (i : ℕ) (fault : UpdateFault) → IsUpdate update → i ≤ length update.operations → update_of [] (take i update.operations) ≡ Err fault → ⊥
first_build update i fault is le e =
    let ops = take i update.operations in
    let few : length ops ≤ 256 = omega (arith, length-take-le i update.operations le, is.few_operations) in
    let one : length (filter adds_soa ops) ≤ 1 = omega (arith, few_first adds_soa i update.operations, is.one_soa) in
    let b = built ops few one in cc

-- ---- what the zones are

-- as many records as there are keys
bare_listing : (set : Records) → (length (listing set) == 0) ≡ (len set == 0)
bare_listing set = ap (λ (n : ℕ). n == 0) (length-map (entries set) (λ x. x.1) ∙ sym (len-entries set))

-- a change has no record exactly where the sets are the same
pub bare_change : (a b : Records) → is_empty (change_between a b) ≡ is_same a b
bare_change a b = λ i. bare_listing (minus a b) i && bare_listing (minus b a) i

module _ (zone : ZoneOf) (update : UpdateOf) (z : IsZone zone) (is : IsUpdate update) (acts : ActsWithin zone.origin update) where
  first_all : {X : Type 0} (P : X → Type 0) (i : ℕ) (xs : List X) → AllByRecursion P xs → AllByRecursion P (take i xs)
  first_all P zero xs all = tt
  first_all P (suc i) [] all = tt
  first_all P (suc i) (x ∷ xs) all = (all.0, first_all P i xs all.1)

  few_of : (i : ℕ) (n : ℕ) → length update.operations ≤ n → length (take i update.operations) ≤ n
  few_of i n le = omega (arith, length-take i update.operations)

  first_is : (i : ℕ) → IsUpdate (until update i)
  first_is i = record {
    prerequisites = tt;
    operations = first_all IsOperation i update.operations is.operations;
    few_prerequisites = omega arith;
    few_operations = few_of i 256 is.few_operations;
    one_soa = omega (arith, few_first adds_soa i update.operations, is.one_soa);
  }

  first_acts : (i : ℕ) → ActsWithin zone.origin (until update i)
  first_acts i = record { prerequisites = tt; operations = first_all (λ op. IsWithin (acted_name op) zone.origin) i update.operations acts.operations }

  kept_until : (i : ℕ) → AreKept (zone_until zone update i).records
  kept_until i = (updates_keep zone (until update i) z (first_is i) (first_acts i)).kept

  -- whether the records are the same tells whether the zones are one
  one_zone : (i j : ℕ) → (is_same (zone_until zone update i).records (zone_until zone update j).records ≡ true) ↔ (zone_until zone update j ≡ zone_until zone update i)
  one_zone i j =
      let both = same_sets_are_one (zone_until zone update i).records (zone_until zone update j).records (kept_until i) (kept_until j) in
      (λ e. ap (λ (rs : Records). record { origin = zone.origin; records = rs }) (sym (both.0 e)), λ e. both.1 (sym (ap (λ (t : ZoneOf). t.records) e)))

  found_at : (i : ℕ) (op : Operation) → IsSome (idle_at zone update i op) ↔ (zone_until zone update (i + 1) ≡ zone_until zone update i)
  found_at i op =
      let same = bare_change (zone_until zone update i).records (zone_until zone update (i + 1)).records in
      let zones = one_zone i (i + 1) in
      by_test (is_empty (change_between (zone_until zone update i).records (zone_until zone update (i + 1)).records)) (λ e. zones.0 (sym same ∙ e)) (λ e. same ∙ zones.1 e)
    where
      by_test : (b : Bool) → (b ≡ true → zone_until zone update (i + 1) ≡ zone_until zone update i) → (zone_until zone update (i + 1) ≡ zone_until zone update i → b ≡ true) → IsSome (if b then Some (reason zone.origin (zone_until zone update i).records op) else None) ↔ (zone_until zone update (i + 1) ≡ zone_until zone update i)
      by_test true there back = (λ _. there refl, λ _. refl)
      by_test false there back = (λ h. let g : false ≡ true = h in absurd cc, λ e. let f = back e in absurd cc)

  idle_nth : (n : ℕ) (ops : List Operation) (i : ℕ) → i < length ops → (op : Operation) × (slice_get (idle_from zone update n ops) i ≡ Some (idle_at zone update (n + i) op))
  idle_nth n [] i lt = absurd (omega arith)
  idle_nth n (op ∷ ops) zero lt = (op, ap (λ (m : ℕ). Some (idle_at zone update m op)) (sym (add-zero n)))
  idle_nth n (op ∷ ops) (suc i) lt =
      let rest = idle_nth (n + 1) ops i (omega arith) in
      let e : n + 1 + i ≡ n + suc i = omega arith in
      (rest.0, rest.1 ∙ ap (λ (m : ℕ). Some (idle_at zone update m rest.0)) e)

  pub nth_is : (i : ℕ) → i < length update.operations → (found : Option Idleness) × (slice_get (idle_operations zone update) i ≡ Some found) × (IsSome found ↔ (zone_until zone update (i + 1) ≡ zone_until zone update i))
  nth_is i lt =
      let one = idle_nth 0 update.operations i lt in
      (idle_at zone update i one.0, one.1 ∙ ap (λ (m : ℕ). Some (idle_at zone update m one.0)) (zero-add i), found_at i one.0)

pub idle_operations_change_nothing : IdleOperationsChangeNothing
idle_operations_change_nothing zone update z is acts i lt = nth_is zone update z is acts i lt

-- ---- the part that an update reads

touched_first : (i : ℕ) (ops : List Operation) (k : Key) → touched (take i ops) k ≡ true → touched ops k ≡ true
touched_first zero ops k e = absurd cc
touched_first (suc i) [] k e = absurd cc
touched_first (suc i) (op ∷ ops) k e = by_test (at_name (acted_name op) k) (touched_first i ops k) e
  where
    by_test : (b : Bool) → (touched (take i ops) k ≡ true → touched ops k ≡ true) → (b || touched (take i ops) k) ≡ true → (b || touched ops k) ≡ true
    by_test true rest f = refl
    by_test false rest f = rest f

module _ (zone : ZoneOf) (update : UpdateOf) (test : Key → Bool) (z : IsZone zone) (is : IsUpdate update) (acts : ActsWithin zone.origin update) (covers : Covers zone.origin update test) where
  abbrev less : ZoneOf
  less = part_of zone test

  covers_first : (i : ℕ) → Covers zone.origin (until update i) test
  covers_first i k e = covers k (wider (at_name zone.origin k) (tested update.prerequisites k) e)
    where
      wider : (a b : Bool) → (a || (false || touched (take i update.operations) k)) ≡ true → (a || (b || touched update.operations k)) ≡ true
      wider true b f = refl
      wider false true f = refl
      wider false false f = touched_first i update.operations k f

  does : (i : ℕ) → DoesForZone zone (until update i) test
  does i = updates_need zone (until update i) test z (first_is zone update z is acts i) (first_acts zone update z is acts i) (covers_first i)

  -- the zone after is made of what goes and what comes
  made : (whole : ZoneOf) (k : IsZone whole) (a : ActsWithin whole.origin update) (i : ℕ)
      → changed whole.records (listing (minus whole.records (zone_until whole update i).records)) (listing (minus (zone_until whole update i).records whole.records)) ≡ (zone_until whole update i).records
  made whole k a i = (changes_make whole.records (zone_until whole update i).records k.kept (kept_until whole update k is a i)).1

  -- the same goes and the same comes
  from_sides : (whole : ZoneOf) (k : IsZone whole) (a : ActsWithin whole.origin update) (i j : ℕ)
      → minus whole.records (zone_until whole update i).records ≡ minus whole.records (zone_until whole update j).records
      → minus (zone_until whole update i).records whole.records ≡ minus (zone_until whole update j).records whole.records
      → zone_until whole update i ≡ zone_until whole update j
  from_sides whole k a i j gone come =
      ap (λ (rs : Records). record { origin = whole.origin; records = rs })
      (sym (made whole k a i) ∙ (λ n. changed whole.records (listing (gone n)) (listing (come n))) ∙ made whole k a j)

  pub both : (i j : ℕ) → (zone_until less update i ≡ zone_until less update j) ↔ (zone_until zone update i ≡ zone_until zone update j)
  both i j = (
    λ e. from_sides zone z acts i j
        (sym (does i).removed ∙ ap (λ (t : ZoneOf). minus less.records t.records) e ∙ (does j).removed)
        (sym (does i).added ∙ ap (λ (t : ZoneOf). minus t.records less.records) e ∙ (does j).added),
    λ e. from_sides less (does 0).zone acts i j
        ((does i).removed ∙ ap (λ (t : ZoneOf). minus zone.records t.records) e ∙ sym (does j).removed)
        ((does i).added ∙ ap (λ (t : ZoneOf). minus t.records zone.records) e ∙ sym (does j).added),
  )

pub idle_operations_need : IdleOperationsNeedTheirPart
idle_operations_need zone update test z is acts covers i = both zone update test z is acts covers (i + 1) i
