-- The prerequisites of updates in turn: they are met where those of one update with all of them are.
use Rattle.std.proofs.Common.{◌≡◌, ◌≢◌, ◌⊎◌, inl, inr, ◌↔◌, ℕ, suc, List, [], ◌∷◌, ◌++◌, Bool, true, false, cond, not, ◌&&◌, ◌==◌, if◌then◌else◌, Option, Some, None, refl, sym, ap, subst, ◌∙◌, append_assoc, append-nil}
use Rattle.std.specs.List.{AllByRecursion, flat_map}
use Rattle.std.specs.List.Sorted.{IsPermutation}
use Rattle.std.specs.Option.{option_or, option_map}
use Rattle.std.specs.FinMap.{get, len}
use Rattle.std.proofs.lemmas.Bool.{and_parts, eqb-true, false_from_ne_true}
use Rattle.std.proofs.lemmas.List.Concat.{flat_map-append}
use Rattle.std.proofs.lemmas.List.Sorted.{Contains-permutation, IsPermutation-sym}
use Rattle.dns_names.specs.Labels.{IsWithin}
use Rattle.dns_names.specs.Order.{same_name}
use Rattle.dns_data.specs.declared.record_type.RecordType.{RecordType}
use Rattle.dns_data.specs.declared.record_type.RecordType.TheVariants as types
use Rattle.dns_data.specs.declared.rdata.Data.{Data}
use Rattle.dns_data.specs.Rdata.{type_of}
use Rattle.dns_data.proofs.RecordOrderLemmas.{one_rank}
use Rattle.zone_core.specs.declared.prerequisite_code.PrerequisiteCode.{PrerequisiteCode}
use Rattle.zone_core.specs.declared.prerequisite_code.PrerequisiteCode.TheVariants.{NxDomain, YxDomain, NxRrset, YxRrset}
use Rattle.zone_core.specs.declared.verdict.Failed.{Failed}
use Rattle.zone_core.specs.declared.update.Prerequisite.{Prerequisite}
use Rattle.zone_core.specs.declared.update.Prerequisite.TheVariants.{RrsetExists, RrsetEquals, RrsetAbsent, NameUsed, NameUnused}
use Rattle.zone_core.specs.declared.update.Operation.{Operation}
use Rattle.zone_core.specs.Sets.{Records, Key, rank_of, part, has, at_name, at}
use Rattle.zone_core.specs.Zones.{ZoneOf, IsZone}
use Rattle.zone_core.specs.Updates.{UpdateOf, IsOperation, tested_name, acted_name}
use Rattle.zone_core.specs.Prerequisites.{fails, set_fails, given_for, are_data, failed, first_failed, verdict}
use Rattle.zone_core.specs.Effects.{effect, effects, serial_advanced, zone_after}
use Rattle.zone_core.proofs.SetLemmas.{by_cases, name_is, name_self, same_parts, same_has, has_found}
use Rattle.zone_core.proofs.EffectLemmas.{effect_away}
use Rattle.zone_core.proofs.ZoneLemmas.{Keys, keys_of, at_is, at_has, kind, no, both_true}
use Rattle.zone_core.proofs.MetLemmas.{Among, among_of, of_among, each_none}
use Rattle.zone_tools.specs.DifferencePromises.{AreWithin}
use Rattle.zone_tools.specs.UpdatesInTurn.{zone_after_parts, operations_of, prerequisites_of, TestsSoaData, LeaveTested, AreTestedFirst, HasWholeSets, VerdictsStay, AreMetInTurn, PartsAreMet}
use Rattle.zone_tools.proofs.DiffSoaLemmas.{stays_same}
use Rattle.zone_tools.proofs.InTurnLemmas.{all_front, all_back, all_join, parts_keys, parts_alike}

-- ---- lists

each_among : {X : Type 0} (P : X → Type 0) (xs : List X) → AllByRecursion P xs → (x : X) → Among x xs → P x
each_among P [] all x among = absurd among
each_among P (y ∷ ys) all x (inl same) = subst P (sym same) all.0
each_among P (y ∷ ys) all x (inr later) = each_among P ys all.1 x later

all_among : {X : Type 0} (P : X → Type 0) (xs : List X) → ((x : X) → Among x xs → P x) → AllByRecursion P xs
all_among P [] each = tt
all_among P (x ∷ xs) each = (each x (inl refl), all_among P xs (λ y later. each y (inr later)))

permuted : {X : Type 0} (P : X → Type 0) (xs ys : List X) → IsPermutation xs ys → AllByRecursion P xs → AllByRecursion P ys
permuted P xs ys same all =
    all_among P ys (λ y among. each_among P xs all y (among_of xs y (Contains-permutation ys xs y (IsPermutation-sym xs ys same) (of_among ys y among))))

no_more : {X : Type 0} (xs ys : List X) → xs ++ ys ≡ [] → (xs ≡ []) × (ys ≡ [])
no_more [] ys e = (refl, e)
no_more (x ∷ xs) ys e = absurd cc

-- what is made of no list but an empty one
none_made : {X Y : Type 0} (f : X → List Y) (xs : List X) → flat_map f xs ≡ [] → (x : X) → Among x xs → f x ≡ []
none_made f [] e x among = absurd among
none_made f (y ∷ ys) e x (inl same) = ap f same ∙ (no_more (f y) (flat_map f ys) e).0
none_made f (y ∷ ys) e x (inr later) = none_made f ys (no_more (f y) (flat_map f ys) e).1 x later

-- ---- two zones that agree at a name

module _ (origin : List (List ℕ)) (a b : Records) (keys : Keys origin a) (also : Keys origin b) (name : List (List ℕ))
    (agree : (k : Key) → k.0 ≡ name → at origin types.Soa k ≡ false → get a k ≡ get b k) where
  sets_agree : (t : RecordType) → (name ≡ origin → t ≢ types.Soa) → part a (at name t) ≡ part b (at name t)
  sets_agree t off =
      same_parts a b (at name t) (λ k e.
      let is = at_is name t k e in
      agree k is.0 (false_from_ne_true (at origin types.Soa k) (λ f.
      let soa = at_is origin types.Soa k f in
      off (sym is.0 ∙ soa.0) (one_rank t types.Soa (sym is.1 ∙ soa.1)))))

  -- both have the origin's SOA
  both_have : (p : Key → Bool) → ((k : Key) → k.0 ≡ origin → k.1 ≡ rank_of types.Soa → p k ≡ true) → has a p ≡ has b p
  both_have p wide =
      has_found a p keys.soa keys.soa_there.0 (wide keys.soa keys.soa_origin keys.soa_type) keys.soa_there.1
      ∙ sym (has_found b p also.soa also.soa_there.0 (wide also.soa also.soa_origin also.soa_type) also.soa_there.1)

  stand_alike : (t : RecordType) → has a (at name t) ≡ has b (at name t)
  stand_alike t =
      by_cases (same_name name origin && (rank_of t == rank_of types.Soa)) (has a (at name t) ≡ has b (at name t))
      (λ e.
      let both = and_parts (same_name name origin) (rank_of t == rank_of types.Soa) e in
      both_have (at name t) (λ k home type. at_has name t k (home ∙ sym (name_is name origin both.0)) (type ∙ sym (eqb-true (rank_of t) (rank_of types.Soa) both.1))))
      (λ e. ap (λ (s : Records). not (len s == 0)) (sets_agree t (λ here soa.
      no (same_name name origin && (rank_of t == rank_of types.Soa))
      (both_true (same_name name origin) (rank_of t == rank_of types.Soa) (subst (λ n. same_name n origin ≡ true) (sym here) (name_self origin)) (kind ([], rank_of t, []) types.Soa (ap rank_of soa))) e)))

  used_alike : has a (at_name name) ≡ has b (at_name name)
  used_alike =
      by_cases (same_name name origin) (has a (at_name name) ≡ has b (at_name name))
      (λ e. both_have (at_name name) (λ k home type. subst (λ n. same_name n name ≡ true) (name_is name origin e ∙ sym home) (name_self name)))
      (λ e. same_has a b (at_name name) (λ k f.
      let here = name_is k.0 name f in
      agree k here (false_from_ne_true (at origin types.Soa k) (λ g.
      no (same_name name origin) (subst (λ n. same_name n origin ≡ true) (sym (at_is origin types.Soa k g).0 ∙ here) (name_self origin)) e))))

-- Two zones agree on what a prerequisite tests: they have the same at its name, the origin's SOA aside, and are the same if it tests the data
-- of an SOA.
record Agree (origin : List (List ℕ)) (a b : Records) (p : Prerequisite) : Type 0 where
  here : (k : Key) → k.0 ≡ tested_name p → at origin types.Soa k ≡ false → get a k ≡ get b k
  soa : TestsSoaData p → a ≡ b

module _ (origin : List (List ℕ)) (a b : Records) (keys : Keys origin a) (also : Keys origin b) where
  fails_alike : (p : Prerequisite) → Agree origin a b p → fails a p ≡ fails b p
  fails_alike (RrsetExists name t) agree = ap (λ h. if h then None else Some NxRrset) (stand_alike origin a b keys also name agree.here t)
  fails_alike (RrsetEquals name rdata) agree = refl
  fails_alike (RrsetAbsent name t) agree = ap (λ h. if h then Some YxRrset else None) (stand_alike origin a b keys also name agree.here t)
  fails_alike (NameUsed name) agree = ap (λ h. if h then None else Some NxDomain) (used_alike origin a b keys also name agree.here)
  fails_alike (NameUnused name) agree = ap (λ h. if h then Some YxDomain else None) (used_alike origin a b keys also name agree.here)

  set_fails_alike : (all : List Prerequisite) (p : Prerequisite) → Agree origin a b p → set_fails a all p ≡ set_fails b all p
  set_fails_alike all (RrsetExists name t) agree = refl
  set_fails_alike all (RrsetEquals name rdata) agree =
      by_cases (rank_of (type_of rdata) == rank_of types.Soa) (set_fails a all (RrsetEquals name rdata) ≡ set_fails b all (RrsetEquals name rdata))
      (λ e. ap (λ (s : Records). set_fails s all (RrsetEquals name rdata)) (agree.soa (one_rank (type_of rdata) types.Soa (eqb-true (rank_of (type_of rdata)) (rank_of types.Soa) e))))
      (λ e. ap (λ (s : Records). if are_data s (flat_map (given_for name (type_of rdata)) all) then None else Some NxRrset)
      (sets_agree origin a b keys also name agree.here (type_of rdata) (λ home soa. no (rank_of (type_of rdata) == rank_of types.Soa) (kind ([], rank_of (type_of rdata), []) types.Soa (ap rank_of soa)) e)))
  set_fails_alike all (RrsetAbsent name t) agree = refl
  set_fails_alike all (NameUsed name) agree = refl
  set_fails_alike all (NameUnused name) agree = refl

  first_alike : (code other : Prerequisite → Option PrerequisiteCode) → ((p : Prerequisite) → Agree origin a b p → code p ≡ other p) → (i : ℕ) (ps : List Prerequisite)
      → AllByRecursion (Agree origin a b) ps → first_failed code i ps ≡ first_failed other i ps
  first_alike code other same i [] all = refl
  first_alike code other same i (p ∷ ps) all = λ j. option_or (option_map (failed i) (same p all.0 j)) (first_alike code other same (suc i) ps all.1 j)

  verdict_alike : (ps : List Prerequisite) → AllByRecursion (Agree origin a b) ps → verdict a ps ≡ verdict b ps
  verdict_alike ps all =
      λ j. option_or (first_alike (fails a) (fails b) fails_alike 0 ps all j) (first_alike (set_fails a ps) (set_fails b ps) (set_fails_alike ps) 0 ps all j)

-- ---- a zone after updates that leave what is tested

effects_away : (origin : List (List ℕ)) (z : Records) (ops : List Operation) (name : List (List ℕ)) → AllByRecursion (λ op. acted_name op ≢ name) ops
    → (k : Key) → k.0 ≡ name → get (effects origin z ops) k ≡ get z k
effects_away origin z [] name away k here = refl
effects_away origin z (op ∷ ops) name away k here =
    effects_away origin (effect origin z op) ops name away.1 k here ∙ effect_away origin z op k (λ e. away.0 (sym e ∙ here))

-- updates without operations change nothing
idle : (zone : ZoneOf) → Keys zone.origin zone.records → (parts : List UpdateOf) → operations_of parts ≡ [] → zone_after_parts zone parts ≡ zone
idle zone keys [] none = refl
idle zone keys (u ∷ us) none =
    let both = no_more u.operations (operations_of us) none in
    let same : serial_advanced zone.origin zone.records (effects zone.origin zone.records u.operations) ≡ zone.records =
    ap (λ (ops : List Operation). serial_advanced zone.origin zone.records (effects zone.origin zone.records ops)) both.0 ∙ stays_same zone.origin zone.records keys in
    (λ i. zone_after_parts (record { origin = zone.origin; records = same i }) us) ∙ idle zone keys us both.1

pub verdicts_stay : VerdictsStay
verdicts_stay zone parts tests z within left =
    let keys = keys_of zone.origin zone.records z in
    verdict_alike zone.origin (zone_after_parts zone parts).records zone.records (parts_keys zone keys parts within) keys tests
    (all_among (Agree zone.origin (zone_after_parts zone parts).records zone.records) tests (λ p among.
    let leaves = each_among (LeaveTested (operations_of parts)) tests left p among in
    record {
      here = λ k here off. parts_alike zone keys parts within k off ∙ effects_away zone.origin zone.records (operations_of parts) (tested_name p) leaves.0 k here;
      soa = λ tests_soa. ap (λ (y : ZoneOf). y.records) (idle zone keys parts (leaves.1 tests_soa));
    }))

-- ---- which are met

-- a prerequisite is met beside others
abbrev Holds : Records → List Prerequisite → Prerequisite → Type 0
Holds set all p = (fails set p ≡ None) × (set_fails set all p ≡ None)

none_both : (a b : Option Failed) → option_or a b ≡ None → (a ≡ None) × (b ≡ None)
none_both None b e = (refl, e)
none_both (Some f) b e = absurd cc

none_each : (code : Prerequisite → Option PrerequisiteCode) (i : ℕ) (ps : List Prerequisite) → AllByRecursion (λ p. code p ≡ None) ps → first_failed code i ps ≡ None
none_each code i [] all = refl
none_each code i (p ∷ ps) all = ap (λ o. option_or (option_map (failed i) o) (first_failed code (suc i) ps)) all.0 ∙ none_each code (suc i) ps all.1

module _ (set : Records) (ps : List Prerequisite) where
  verdict_holds : verdict set ps ≡ None → AllByRecursion (Holds set ps) ps
  verdict_holds e =
      let both = none_both (first_failed (fails set) 0 ps) (first_failed (set_fails set ps) 0 ps) e in
      let alone = each_none (fails set) 0 ps both.0 in
      let whole = each_none (set_fails set ps) 0 ps both.1 in
      all_among (Holds set ps) ps (λ p among. (each_among (λ q. fails set q ≡ None) ps alone p among, each_among (λ q. set_fails set ps q ≡ None) ps whole p among))

  holds_verdict : AllByRecursion (Holds set ps) ps → verdict set ps ≡ None
  holds_verdict all =
      let each = each_among (Holds set ps) ps all in
      ap (λ o. option_or o (first_failed (set_fails set ps) 0 ps)) (none_each (fails set) 0 ps (all_among (λ q. fails set q ≡ None) ps (λ p among. (each p among).0)))
      ∙ none_each (set_fails set ps) 0 ps (all_among (λ q. set_fails set ps q ≡ None) ps (λ p among. (each p among).1))

-- ---- record sets that are kept together

gives_own : (name : List (List ℕ)) (rdata : Data) → given_for name (type_of rdata) (RrsetEquals name rdata) ≡ rdata ∷ []
gives_own name rdata =
    ap (λ b. cond b (rdata ∷ []) [])
    (both_true (same_name name name) (rank_of (type_of rdata) == rank_of (type_of rdata)) (name_self name) (kind ([], rank_of (type_of rdata), []) (type_of rdata) refl))

set_together : (set : Records) (tests : List Prerequisite) (u : UpdateOf) → HasWholeSets tests u → (p : Prerequisite) → Among p u.prerequisites
    → set_fails set u.prerequisites p ≡ set_fails set tests p
set_together set tests u together (RrsetExists name t) among = refl
set_together set tests u together (RrsetEquals name rdata) among =
    ap (λ (given : List Data). if are_data (part set (at name (type_of rdata))) given then None else Some NxRrset) (by_given (together name (type_of rdata)))
  where
    by_given : (flat_map (given_for name (type_of rdata)) u.prerequisites ≡ [])
        ⊎ (flat_map (given_for name (type_of rdata)) u.prerequisites ≡ flat_map (given_for name (type_of rdata)) tests)
        → flat_map (given_for name (type_of rdata)) u.prerequisites ≡ flat_map (given_for name (type_of rdata)) tests
    by_given (inl none) =
        let own : rdata ∷ [] ≡ [] = sym (gives_own name rdata) ∙ none_made (given_for name (type_of rdata)) u.prerequisites none (RrsetEquals name rdata) among in
        absurd cc
    by_given (inr same) = same
set_together set tests u together (RrsetAbsent name t) among = refl
set_together set tests u together (NameUsed name) among = refl
set_together set tests u together (NameUnused name) among = refl

module _ (set : Records) (tests : List Prerequisite) (u : UpdateOf) (together : HasWholeSets tests u) where
  part_holds : verdict set u.prerequisites ≡ None → AllByRecursion (Holds set tests) u.prerequisites
  part_holds e =
      let all = verdict_holds set u.prerequisites e in
      all_among (Holds set tests) u.prerequisites (λ p among.
      let one = each_among (Holds set u.prerequisites) u.prerequisites all p among in
      (one.0, sym (set_together set tests u together p among) ∙ one.1))

  holds_part : AllByRecursion (Holds set tests) u.prerequisites → verdict set u.prerequisites ≡ None
  holds_part all =
      holds_verdict set u.prerequisites (all_among (Holds set u.prerequisites) u.prerequisites (λ p among.
      let one = each_among (Holds set tests) u.prerequisites all p among in
      (one.0, set_together set tests u together p among ∙ one.1)))

-- ---- all of them in turn

one_more : (zone : ZoneOf) (done : List UpdateOf) (u : UpdateOf) → zone_after_parts zone (done ++ u ∷ []) ≡ zone_after (zone_after_parts zone done) u
one_more zone [] u = refl
one_more zone (v ∷ done) u = one_more (zone_after zone v) done u

module _ (zone : ZoneOf) (z : IsZone zone) (tests : List Prerequisite) where
  abbrev Within : List UpdateOf → Type 0
  Within parts = AreWithin zone.origin (operations_of parts)

  within_front : (done more : List UpdateOf) → Within (done ++ more) → Within done
  within_front done more within =
      all_front (λ op. IsOperation op × IsWithin (acted_name op) zone.origin) (operations_of done) (operations_of more)
      (subst (AreWithin zone.origin) (flat_map-append (λ (u : UpdateOf). u.operations) done more) within)

  next_first : (done us : List UpdateOf) (u : UpdateOf) → AreTestedFirst (operations_of done ++ u.operations) us → AreTestedFirst (operations_of (done ++ u ∷ [])) us
  next_first done us u first =
      subst (λ ops. AreTestedFirst ops us)
      (sym (flat_map-append (λ (v : UpdateOf). v.operations) done (u ∷ []) ∙ ap (λ ops. operations_of done ++ ops) (append-nil u.operations))) first

  in_turn : (done us : List UpdateOf) → Within (done ++ us) → AreTestedFirst (operations_of done) us → AllByRecursion (HasWholeSets tests) us
      → AreMetInTurn (zone_after_parts zone done) us ↔ AllByRecursion (Holds zone.records tests) (prerequisites_of us)
  in_turn done [] within first together = (λ met. tt, λ all. tt)
  in_turn done (u ∷ us) within first together =
      let stays = verdicts_stay zone done u.prerequisites z (within_front done (u ∷ us) within) first.0 in
      let rest = in_turn (done ++ u ∷ []) us (subst Within (sym (append_assoc done (u ∷ []) us)) within) (next_first done us u first.1) together.1 in (
        λ met.
            all_join (Holds zone.records tests) u.prerequisites (prerequisites_of us)
            (part_holds zone.records tests u together.0 (sym stays ∙ met.0))
            (rest.0 (subst (λ (y : ZoneOf). AreMetInTurn y us) (sym (one_more zone done u)) met.1)),
        λ all. (
          stays ∙ holds_part zone.records tests u together.0 (all_front (Holds zone.records tests) u.prerequisites (prerequisites_of us) all),
          subst (λ (y : ZoneOf). AreMetInTurn y us) (one_more zone done u)
              (rest.1 (all_back (Holds zone.records tests) u.prerequisites (prerequisites_of us) all)),
        ),
      )

pub parts_are_met : PartsAreMet
parts_are_met zone parts whole z within once first together =
    let tests = whole.prerequisites in
    let turn = in_turn zone z tests [] parts within first together in (
      λ met. holds_verdict zone.records tests (permuted (Holds zone.records tests) (prerequisites_of parts) tests (IsPermutation-sym tests (prerequisites_of parts) once) (turn.0 met)),
      λ e. turn.1 (permuted (Holds zone.records tests) tests (prerequisites_of parts) once (verdict_holds zone.records tests e)),
    )
