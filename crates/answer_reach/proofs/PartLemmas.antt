-- The part of a zone at some names, after an update that acts there, has the records there of the zone after the update.
use Rattle.std.proofs.Common.{◌≡◌, List, [], ◌∷◌, Bool, true, false, cond, ◌&&◌, ◌||◌, ◌==◌, Some, None, refl, sym, ap, ◌∙◌, inl, inr}
use Rattle.std.specs.List.{AllByRecursion, list_any, list_all}
use Rattle.std.specs.Option.{option_or}
use Rattle.std.specs.FinMap.{get, find}
use Rattle.std.proofs.lemmas.Bool.{and_parts}
use Rattle.dns_names.specs.Labels.{IsWithin}
use Rattle.dns_names.specs.Order.{same_name}
use Rattle.dns_names.proofs.NameLemmas.{is_within-Decides}
use Rattle.dns_data.specs.declared.record.Record.{Record}
use Rattle.dns_data.specs.declared.record_type.RecordType.TheVariants as types
use Rattle.zone_core.specs.declared.update.Operation.{Operation}
use Rattle.zone_core.specs.declared.update.Operation.TheVariants.{Add, DeleteRrset, DeleteName, DeleteRecord}
use Rattle.zone_core.specs.Sets.{Key, Records, key_cmp, key_of, keyed, same_key, rank_of, listing, part, minus, at_name, within}
use Rattle.zone_core.specs.Zones.{ZoneOf, IsZone, AreKept}
use Rattle.zone_core.specs.Views.{AreOfZone}
use Rattle.zone_core.specs.Updates.{UpdateOf, IsUpdate, ActsWithin, acted_name}
use Rattle.zone_core.specs.Effects.{effects, serial_advanced, zone_after}
use Rattle.zone_core.specs.Changes.{changed}
use Rattle.zone_core.specs.Parts.{tested, touched, part_of, at_names, Covers, DoesForZone}
use Rattle.zone_core.specs.Visibility.{IsInvisible}
use Rattle.zone_core.proofs.SetLemmas.{name_is, by_cases, get-part, get-cut, found_in_part}
use Rattle.zone_core.proofs.ChangedLemmas.{get-changed, changes_make, listed, kept_in_part}
use Rattle.zone_core.proofs.NeedLemmas.{updates_need}
use Rattle.zone_core.proofs.VersionLemmas.{updates_keep}
use Rattle.zone_core.proofs.VisibilityLemmas.{invisible_updates_are_indistinguishable}
use Rattle.zone_core.proofs.MetLemmas.{Among, among_of, of_among, any_is}
use Rattle.zone_core.proofs.BelowLemmas.{no_test}
use Rattle.zone_answers.specs.Answers.{Name}
use Rattle.zone_answers.specs.AnswerTests.{is_there}
use Rattle.zone_answers.proofs.LawLemmas.{row_in, of_zone}
use Rattle.zone_answers.proofs.SourceLemmas.{there-Decides}
use Rattle.answer_reach.specs.ReachTests.{has_name}
use Rattle.answer_reach.proofs.PossibleLemmas.{found_among, first, second}
use Rattle.answer_reach.proofs.NamedLemmas.{or_is}
use Rattle.answer_reach.proofs.NearLemmas.{SameAt, Near}

-- ---- what is in lists and sets

pub all_true : {X : Type 0} (p : X → Bool) (xs : List X) (x : X) → list_all p xs ≡ true → Among x xs → p x ≡ true
all_true p [] x e a = absurd a
all_true {X} p (y ∷ ys) x e a =
    let both = and_parts (p y) (list_all p ys) e in
    (elim a [ inl same ↦ ap p same ∙ both.0 | inr later ↦ all_true p ys x both.1 later ])

module _ (set : Records) (kept : AreKept set) (r : Record) where
  pub listed_in : Among r (listing set) → get set (key_of r) ≡ Some r
  listed_in a =
      let rows = listed set kept in
      ap (λ (s : Records). get s (key_of r)) (sym rows.set) ∙ row_in (listing set) rows.order r a

  pub in_listed : get set (key_of r) ≡ Some r → Among r (listing set)
  in_listed e = (found_among (listing set) (key_of r) r (ap (λ (s : Records). get s (key_of r)) (listed set kept).set ∙ e)).0

pub rows_of : (zone : ZoneOf) → IsZone zone → AreOfZone zone.origin (listing zone.records)
rows_of zone is = let rows = listed zone.records is.kept in of_zone zone is (listing zone.records) rows.order rows.set

neither : (a b : Bool) → (a || b) ≡ false → a ≡ false
neither true b e = absurd cc
neither false b e = refl

-- ---- names at which an update does not act

module _ (origin : Name) (names : List Name) (ops : List Operation) (covers : list_all (λ op. has_name names (acted_name op)) ops ≡ true) where
  abbrev Off : Name → Type 0
  Off name = (same_name name origin || has_name names name) ≡ false

  on : (name : Name) → has_name names name ≡ true → Off name → ⊥
  on name e off = no_test (same_name name origin || has_name names name) (second (same_name name origin) (has_name names name) e) off

  hidden : (op : Operation) → has_name names (acted_name op) ≡ true → IsInvisible Off origin op
  hidden (Add r) e = inl (on r.owner e)
  hidden (DeleteRrset name t) e = on name e
  hidden (DeleteName name) e = on name e
  hidden (DeleteRecord name rdata) e = on name e

  all_hidden : (some : List Operation) → list_all (λ op. has_name names (acted_name op)) some ≡ true → AllByRecursion (IsInvisible Off origin) some
  all_hidden [] e = tt
  all_hidden (op ∷ some) e =
      let both = and_parts (has_name names (acted_name op)) (list_all (λ op. has_name names (acted_name op)) some) e in
      (hidden op both.0, all_hidden some both.1)

  -- elsewhere nothing changes
  away : (set : Records) → AreKept set → (k : Key) → at_names origin names k ≡ false → get (serial_advanced origin set (effects origin set ops)) k ≡ get set k
  away set kept k e =
      sym ((invisible_updates_are_indistinguishable Off origin set kept ops (all_hidden ops covers)).same k e
      (ap (λ b. b && (k.1 == rank_of types.Soa)) (neither (same_name k.0 origin) (has_name names k.0) e)))

-- ---- the part after an update

module _ (zone : ZoneOf) (update : UpdateOf) (names : List Name) (z : IsZone zone) (is : IsUpdate update) (acts : ActsWithin zone.origin update)
    (bare : update.prerequisites ≡ []) (covers : list_all (λ op. has_name names (acted_name op)) update.operations ≡ true) where
  abbrev w : Key → Bool
  w = at_names zone.origin names

  abbrev whole : Records
  whole = (zone_after zone update).records

  abbrev less : Records
  less = part zone.records w

  abbrev after : Records
  after = (zone_after (part_of zone w) update).records

  covers_all : Covers zone.origin update w
  covers_all k e = (elim (or_is (at_name zone.origin k) (tested update.prerequisites k || touched update.operations k) e) [
    | inl home ↦ first (at_name zone.origin k) (has_name names k.0) home
    | inr more ↦ (elim (or_is (tested update.prerequisites k) (touched update.operations k) more) [
      | inl test ↦ no_test (tested update.prerequisites k) test (ap (λ ps. tested ps k) bare)
      | inr touch ↦
          (let found = any_is (λ op. at_name (acted_name op) k) update.operations touch in
          let here : k.0 ≡ acted_name found.0 = name_is k.0 (acted_name found.0) found.2 in
          second (at_name zone.origin k) (has_name names k.0)
          (ap (has_name names) here ∙ all_true (λ op. has_name names (acted_name op)) update.operations found.0 covers found.1))
    ])
  ])

  does : DoesForZone zone update w
  does = updates_need zone update w z is acts covers_all

  pub whole_zone : IsZone (zone_after zone update)
  whole_zone = updates_keep zone update z is acts

  pub part_zone : IsZone (zone_after (part_of zone w) update)
  part_zone = updates_keep (part_of zone w) update does.zone is acts

  shape : (set : Records) (removed added : List Record) (k : Key)
      → get (changed set removed added) k ≡ option_or (find key_cmp k (keyed added)) (cond (list_any (λ r. same_key (key_of r) k) removed) None (get set k))
  shape set removed added k =
      get-changed set removed added k ∙ ap (option_or (find key_cmp k (keyed added))) (get-cut set (λ j. list_any (λ r. same_key (key_of r) j) removed) k)

  -- at the names it has what the zone has
  there : (k : Key) → w k ≡ true → get after k ≡ get whole k
  there k e =
      ap (λ (s : Records). get s k) (sym (changes_make less after does.zone.kept part_zone.kept).1)
      ∙ shape less (listing (minus less after)) (listing (minus after less)) k
      ∙ (λ i.
      option_or (find key_cmp k (keyed (listing (does.added i))))
      (cond (list_any (λ r. same_key (key_of r) k) (listing (does.removed i))) None (found_in_part zone.records w k e i)))
      ∙ sym (shape zone.records (listing (minus zone.records whole)) (listing (minus whole zone.records)) k)
      ∙ ap (λ (s : Records). get s k) (changes_make zone.records whole z.kept whole_zone.kept).1

  in_w : (r : Record) → has_name names r.owner ≡ true → w (key_of r) ≡ true
  in_w r e = second (same_name r.owner zone.origin) (has_name names r.owner) e

  -- and nothing else
  only : (r : Record) → Among r (listing after) → w (key_of r) ≡ true
  only r a = by_cases (w (key_of r)) (w (key_of r) ≡ true) (λ e. e) (λ e.
      let none : get less (key_of r) ≡ None = get-part zone.records w (key_of r) ∙ ap (λ b. cond b (get zone.records (key_of r)) None) e in
      let some : Some r ≡ None = sym (listed_in after part_zone.kept r a) ∙ away zone.origin names update.operations covers less does.zone.kept (key_of r) e ∙ none in
      absurd cc)

  into : (r : Record) → w (key_of r) ≡ true → Among r (listing after) → Among r (listing whole)
  into r e a = in_listed whole whole_zone.kept r (sym (there (key_of r) e) ∙ listed_in after part_zone.kept r a)

  back : (r : Record) → w (key_of r) ≡ true → Among r (listing whole) → Among r (listing after)
  back r e a = in_listed after part_zone.kept r (there (key_of r) e ∙ listed_in whole whole_zone.kept r a)

  pub same_at : (name : Name) → has_name names name ≡ true → SameAt (listing after) (listing whole) name
  same_at name e r own = let here = in_w r (ap (has_name names) own ∙ e) in (into r here, back r here)

  -- where a name exists in the part, or has no other records within it before, it exists in both or in neither
  pub near : (name : Name) → has_name names name ≡ true
      → (is_there (listing after) name || list_all (λ r. has_name names r.owner) (listing (part zone.records (within name)))) ≡ true → Near (listing after) (listing whole) name
  near name e tells = record {
    same = same_at name e;
    there = (
      (λ has. let a = among_of (listing after) has.0 has.1 in (has.0, of_among (listing whole) has.0 (into has.0 (only has.0 a) a), has.2)),
      (λ has. elim (or_is (is_there (listing after) name) _ tells) [
        | inl here ↦ (there-Decides (listing after) name).0 here
        | inr all ↦ (
          has.0,
          of_among (listing after) has.0 (let a = among_of (listing whole) has.0 has.1 in back has.0 (inside has.0 has.2 a all) a),
          has.2,
        )
      ]),
    );
  }
    where
      inside : (r : Record) → IsWithin r.owner name → Among r (listing whole) → list_all (λ r. has_name names r.owner) (listing (part zone.records (within name))) ≡ true → w (key_of r) ≡ true
      inside r up a all = by_cases (w (key_of r)) (w (key_of r) ≡ true) (λ e. e) (λ off.
          let old : get zone.records (key_of r) ≡ Some r = sym (away zone.origin names update.operations covers zone.records z.kept (key_of r) off) ∙ listed_in whole whole_zone.kept r a in
          let here : get (part zone.records (within name)) (key_of r) ≡ Some r =
          get-part zone.records (within name) (key_of r) ∙ ap (λ b. cond b (get zone.records (key_of r)) None) ((is_within-Decides r.owner name).1 up) ∙ old in
          in_w r (all_true (λ r. has_name names r.owner) (listing (part zone.records (within name))) r all (in_listed (part zone.records (within name)) (kept_in_part zone.records (within name) z.kept) r here)))
