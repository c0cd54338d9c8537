-- The verdict tells the first prerequisite that is not met.
use Rattle.std.proofs.Common.{◌≡◌, ◌↔◌, ◌⊎◌, ℕ, zero, suc, ◌+◌, ◌<◌, List, [], ◌∷◌, Bool, true, false, if◌then◌else◌, Option, Some, None, inl, inr, refl, sym, ap, subst, ◌∙◌, arith}
use Rattle.std.specs.Prelude.{slice_get}
use Rattle.std.specs.List.{AllByRecursion, flat_map}
use Rattle.std.specs.Option.{option_or, option_map}
use Rattle.dns_data.specs.declared.record.Record.{Record}
use Rattle.dns_data.specs.Rdata.{type_of}
use Rattle.zone_core.specs.declared.prerequisite_code.PrerequisiteCode.{PrerequisiteCode}
use Rattle.zone_core.specs.declared.prerequisite_code.PrerequisiteCode.TheVariants.{NxDomain, YxDomain, NxRrset, YxRrset}
use Rattle.zone_core.specs.declared.verdict.Failed.{Failed}
use Rattle.zone_core.specs.declared.update.Prerequisite.{Prerequisite}
use Rattle.zone_core.specs.declared.update.Prerequisite.TheVariants.{RrsetExists, RrsetEquals, RrsetAbsent, NameUsed, NameUnused}
use Rattle.zone_core.specs.Sets.{Records, set_of, listing, part, has, at_name, at, InOrder}
use Rattle.zone_core.specs.Zones.{AreKept}
use Rattle.zone_core.specs.Updates.{IsPrerequisite}
use Rattle.zone_core.specs.Prerequisites.{fails, given_for, are_data, set_fails, first_failed, failed, verdict}
use Rattle.zone_core.specs.Met.{IsMet, IsOfWholeSet, IsFirstUnmet, unmet_code, VerdictsAreFirst}
use Rattle.zone_core.proofs.ChangedLemmas.{listed}
use Rattle.zone_core.proofs.MetLemmas.{each_none, one_met, met_fails, met_set}

pub at_each : {X : Type 0} (P : X → Type 0) (xs : List X) (i : ℕ) (x : X) → AllByRecursion P xs → slice_get xs i ≡ Some x → P x
at_each P [] i x all at = absurd cc
at_each P (y ∷ ys) zero x all at = let same : y ≡ x = cc in subst P same all.0
at_each P (y ∷ ys) (suc i) x all at = at_each P ys i x all.1 at

some_code : (o : Option PrerequisiteCode) (c : PrerequisiteCode) → o ≡ Some c → o ≡ None → ⊥
some_code o c e f = let both : Some c ≡ None = sym e ∙ f in cc

-- ---- the first that has a code

module _ (code : Prerequisite → Option PrerequisiteCode) where
  -- an item of a list has the code that is told, and none before it has one
  record IsFirst (i : ℕ) (ps : List Prerequisite) (f : Failed) : Type 0 where
    number : ℕ
    item : f.item ≡ i + number
    prerequisite : Prerequisite
    at : slice_get ps number ≡ Some prerequisite
    has_code : code prerequisite ≡ Some f.code
    before : (j : ℕ) (q : Prerequisite) → slice_get ps j ≡ Some q → j < number → code q ≡ None

  found_first : (i : ℕ) (ps : List Prerequisite) (f : Failed) → first_failed code i ps ≡ Some f → IsFirst i ps f
  found_first i [] f e = absurd cc
  found_first i (p ∷ ps) f e = by_code (code p) refl e (found_first (suc i) ps f)
    where
      later : code p ≡ None → (n : ℕ) → ((j : ℕ) (q : Prerequisite) → slice_get ps j ≡ Some q → j < n → code q ≡ None)
          → (j : ℕ) (q : Prerequisite) → slice_get (p ∷ ps) j ≡ Some q → j < suc n → code q ≡ None
      later is n before zero q at less = let same : p ≡ q = cc in subst (λ x. code x ≡ None) same is
      later is n before (suc j) q at less = before j q at (omega (arith, less))

      by_code : (o : Option PrerequisiteCode) → code p ≡ o → option_or (option_map (failed i) o) (first_failed code (suc i) ps) ≡ Some f
          → (first_failed code (suc i) ps ≡ Some f → IsFirst (suc i) ps f) → IsFirst i (p ∷ ps) f
      by_code (Some c) is g rest =
          let same : failed i c ≡ f = cc in
          let item : i ≡ f.item = ap (λ (x : Failed). x.item) same in
          record {
            number = 0;
            item = omega (arith, item);
            prerequisite = p;
            at = refl;
            has_code = is ∙ ap (λ (x : Failed). Some x.code) same;
            before = λ j q at less. absurd (omega (arith, less));
          }
      by_code None is g rest =
          let r = rest g in
          record {
            number = suc r.number;
            item = omega (arith, r.item);
            prerequisite = r.prerequisite;
            at = r.at;
            has_code = r.has_code;
            before = later is r.number r.before;
          }

  first_found : (i : ℕ) (ps : List Prerequisite) (f : Failed) (n : ℕ) (p : Prerequisite) → f.item ≡ i + n → slice_get ps n ≡ Some p → code p ≡ Some f.code
      → ((j : ℕ) (q : Prerequisite) → slice_get ps j ≡ Some q → j < n → code q ≡ None) → first_failed code i ps ≡ Some f
  first_found i [] f n p item at has_code before = absurd cc
  first_found i (q ∷ ps) f zero p item at has_code before =
      let same : q ≡ p = cc in
      let number : i ≡ f.item = omega (arith, item) in
      ap (λ o. option_or (option_map (failed i) o) (first_failed code (suc i) ps)) (ap code same ∙ has_code) ∙ (λ k. Some (record { code = f.code; item = number k }))
  first_found i (q ∷ ps) f (suc n) p item at has_code before =
      ap (λ o. option_or (option_map (failed i) o) (first_failed code (suc i) ps)) (before zero q refl (omega arith))
      ∙ first_found (suc i) ps f n p (omega (arith, item)) at has_code (λ j x there less. before (suc j) x there (omega (arith, less)))

-- ---- the kinds of tests

first_code : (b : Bool) (c d : PrerequisiteCode) → (if b then None else Some c) ≡ Some d → d ≡ c
first_code true c d e = absurd cc
first_code false c d e = cc

second_code : (b : Bool) (c d : PrerequisiteCode) → (if b then Some c else None) ≡ Some d → d ≡ c
second_code true c d e = cc
second_code false c d e = absurd cc

by_kind : (p : Prerequisite) → IsOfWholeSet p ⊎ (¬ IsOfWholeSet p)
by_kind (RrsetExists name t) = inr (λ w. w)
by_kind (RrsetEquals name rdata) = inl tt
by_kind (RrsetAbsent name t) = inr (λ w. w)
by_kind (NameUsed name) = inr (λ w. w)
by_kind (NameUnused name) = inr (λ w. w)

module _ (set : Records) (all : List Prerequisite) where
  by_itself : (p : Prerequisite) → ¬ IsOfWholeSet p → set_fails set all p ≡ None
  by_itself (RrsetExists name t) not = refl
  by_itself (RrsetEquals name rdata) not = absurd (not tt)
  by_itself (RrsetAbsent name t) not = refl
  by_itself (NameUsed name) not = refl
  by_itself (NameUnused name) not = refl

  whole : (p : Prerequisite) → IsOfWholeSet p → fails set p ≡ None
  whole (RrsetExists name t) is = absurd is
  whole (RrsetEquals name rdata) is = refl
  whole (RrsetAbsent name t) is = absurd is
  whole (NameUsed name) is = absurd is
  whole (NameUnused name) is = absurd is

  itself_code : (p : Prerequisite) (c : PrerequisiteCode) → fails set p ≡ Some c → (¬ IsOfWholeSet p) × (c ≡ unmet_code p)
  itself_code (RrsetExists name t) c e = (λ w. w, first_code (has set (at name t)) NxRrset c e)
  itself_code (RrsetEquals name rdata) c e = absurd cc
  itself_code (RrsetAbsent name t) c e = (λ w. w, second_code (has set (at name t)) YxRrset c e)
  itself_code (NameUsed name) c e = (λ w. w, first_code (has set (at_name name)) NxDomain c e)
  itself_code (NameUnused name) c e = (λ w. w, second_code (has set (at_name name)) YxDomain c e)

  whole_code : (p : Prerequisite) (c : PrerequisiteCode) → set_fails set all p ≡ Some c → IsOfWholeSet p × (c ≡ unmet_code p)
  whole_code (RrsetExists name t) c e = absurd cc
  whole_code (RrsetEquals name rdata) c e = (tt, first_code (are_data (part set (at name (type_of rdata))) (flat_map (given_for name (type_of rdata)) all)) NxRrset c e)
  whole_code (RrsetAbsent name t) c e = absurd cc
  whole_code (NameUsed name) c e = absurd cc
  whole_code (NameUnused name) c e = absurd cc

-- ---- the verdict

module _ (rows : List Record) (order : InOrder rows) (kept : AreKept (set_of rows)) (all : List Prerequisite) (are : AllByRecursion IsPrerequisite all) (f : Failed) where
  abbrev set : Records
  set = set_of rows

  abbrev tests : Option Failed
  tests = first_failed (fails set) 0 all

  abbrev sets : Option Failed
  sets = first_failed (set_fails set all) 0 all

  met : (p : Prerequisite) → fails set p ≡ None → set_fails set all p ≡ None → IsMet set all p
  met p e g = one_met rows order kept all are p e g

  -- what is told of tests by themselves is the first
  first_test : tests ≡ Some f → IsFirstUnmet set all f
  first_test e =
      let first = found_first (fails set) 0 all f e in
      let code = itself_code set all first.prerequisite f.code first.has_code in
      let number : first.number ≡ f.item = omega (arith, first.item) in
      record {
        prerequisite = first.prerequisite;
        at = ap (slice_get all) (sym number) ∙ first.at;
        code = code.1;
        unmet = λ m. some_code (fails set first.prerequisite) f.code first.has_code (met_fails rows order kept all are first.prerequisite m);
        first = λ i p at before. (elim before [
          | inl apart ↦ absurd (code.0 apart.1)
          | inr both ↦ met p (first.before i p at (omega (arith, number, both.1))) (by_itself set all p (λ w. code.0 (both.0.0 w)))
        ]);
      }

  -- and so it is of sets that are given whole, where none by itself fails
  first_set : tests ≡ None → sets ≡ Some f → IsFirstUnmet set all f
  first_set none e =
      let first = found_first (set_fails set all) 0 all f e in
      let code = whole_code set all first.prerequisite f.code first.has_code in
      let number : first.number ≡ f.item = omega (arith, first.item) in
      let holds = each_none (fails set) 0 all none in
      record {
        prerequisite = first.prerequisite;
        at = ap (slice_get all) (sym number) ∙ first.at;
        code = code.1;
        unmet = λ m. some_code (set_fails set all first.prerequisite) f.code first.has_code (met_set rows order kept all are first.prerequisite m);
        first = λ i p at before.
            let alone = at_each (λ q. fails set q ≡ None) all i p holds at in
            (elim before [
              | inl apart ↦ met p alone (by_itself set all p apart.0)
              | inr both ↦ met p alone (first.before i p at (omega (arith, number, both.1)))
            ]);
      }

  told_first : verdict set all ≡ Some f → IsFirstUnmet set all f
  told_first e = by_tests tests refl e
    where
      by_tests : (o : Option Failed) → tests ≡ o → option_or o sets ≡ Some f → IsFirstUnmet set all f
      by_tests (Some g) is h = first_test (is ∙ h)
      by_tests None is h = first_set is h

  -- the first that is not met is told
  first_told : IsFirstUnmet set all f → verdict set all ≡ Some f
  first_told u = (elim (by_kind u.prerequisite) [
    | inl given ↦ ap (λ o. option_or o sets) (no_test tests refl given) ∙ set_found given
    | inr alone ↦ ap (λ o. option_or o sets) (test_found alone)
  ])
    where
      test_code : ¬ IsOfWholeSet u.prerequisite → (o : Option PrerequisiteCode) → fails set u.prerequisite ≡ o → fails set u.prerequisite ≡ Some f.code
      test_code alone None e = absurd (u.unmet (met u.prerequisite e (by_itself set all u.prerequisite alone)))
      test_code alone (Some c) e = e ∙ ap (λ (d : PrerequisiteCode). Some d) ((itself_code set all u.prerequisite c e).1 ∙ sym u.code)

      set_code : IsOfWholeSet u.prerequisite → (o : Option PrerequisiteCode) → set_fails set all u.prerequisite ≡ o → set_fails set all u.prerequisite ≡ Some f.code
      set_code given None e = absurd (u.unmet (met u.prerequisite (whole set all u.prerequisite given) e))
      set_code given (Some c) e = e ∙ ap (λ (d : PrerequisiteCode). Some d) ((whole_code set all u.prerequisite c e).1 ∙ sym u.code)

      test_found : ¬ IsOfWholeSet u.prerequisite → tests ≡ Some f
      test_found alone =
          first_found (fails set) 0 all f f.item u.prerequisite (omega arith) u.at (test_code alone (fails set u.prerequisite) refl)
          (λ j q at less. (elim (by_kind q) [
            | inl given ↦ whole set all q given
            | inr other ↦ met_fails rows order kept all are q (u.first j q at (inr ((λ w. absurd (other w), λ w. absurd (alone w)), less)))
          ]))

      set_found : IsOfWholeSet u.prerequisite → sets ≡ Some f
      set_found given =
          first_found (set_fails set all) 0 all f f.item u.prerequisite (omega arith) u.at (set_code given (set_fails set all u.prerequisite) refl)
          (λ j q at less. (elim (by_kind q) [
            | inl also ↦ met_set rows order kept all are q (u.first j q at (inr ((λ w. given, λ w. also), less)))
            | inr other ↦ by_itself set all q other
          ]))

      no_test : (o : Option Failed) → tests ≡ o → IsOfWholeSet u.prerequisite → tests ≡ None
      no_test None e given = e
      no_test (Some g) e given =
          let first = found_first (fails set) 0 all g e in
          let other = (itself_code set all first.prerequisite g.code first.has_code).0 in
          absurd (some_code (fails set first.prerequisite) g.code first.has_code (met_fails rows order kept all are first.prerequisite (u.first first.number first.prerequisite first.at (inl (other, given)))))

pub verdicts_are_first : VerdictsAreFirst
verdicts_are_first set all kept are f =
    let rows = listed set kept in
    let there : AreKept (set_of (listing set)) = subst AreKept (sym rows.set) kept in
    subst (λ (s : Records). (verdict s all ≡ Some f) ↔ IsFirstUnmet s all f) rows.set
    (told_first (listing set) rows.order there all are f, first_told (listing set) rows.order there all are f)
