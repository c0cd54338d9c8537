-- Whether a caller is isolated, by the entries at names that represent all names.
use Rattle.std.proofs.Common.{◌≡◌, ◌≢◌, ◌↔◌, inl, inr, ℕ, suc, ◌<◌, ◌≤◌, Bool, true, false, ◌&&◌, not, if◌then◌else◌, List, [], ◌∷◌, length, map, get_or, take, Option, Some, None, Result, Ok, Err, IfOk, refl, sym, ap, ◌∙◌, subst, arith}
use Rattle.std.specs.Prelude.{slice_get, MatchOption}
use Rattle.std.specs.List.{Contains}
use Rattle.std.proofs.lemmas.Bool.{both_ways, false≢true, false_from_ne_true, and_from, not-true, not_from_false}
use Rattle.std.proofs.lemmas.List.{get_or_default, length-map}
use Rattle.std.proofs.lemmas.List.Folds.{Any-from_list_any}
use Rattle.std.proofs.lemmas.Option.{slice_get_within}
use Rattle.std.proofs.lemmas.Slice.Eq.{bytes_eq-Decides}
use Rattle.dns_names.specs.Labels.{IsName}
use Rattle.dns_data.specs.declared.record_type.RecordType.{RecordType}
use Rattle.dns_data.specs.declared.record_type.RecordType.TheVariants as types
use Rattle.grant_policy.specs.declared.action.Action.{Action}
use Rattle.grant_policy.specs.declared.action.Action.TheVariants as action
use Rattle.grant_policy.specs.declared.callers.Callers.{Callers}
use Rattle.grant_policy.specs.declared.callers.Callers.TheVariants.{Every, One}
use Rattle.grant_policy.specs.declared.effect.Effect.{Effect}
use Rattle.grant_policy.specs.declared.effect.Effect.TheVariants.{Grant}
use Rattle.grant_policy.specs.declared.rule.Rule.{Rule}
use Rattle.policy_tools.specs.declared.claims.Entry.{Entry}
use Rattle.policy_tools.specs.declared.exposure.Right.{Right}
use Rattle.policy_tools.specs.declared.exposure.Exposure.{Exposure}
use Rattle.policy_tools.specs.declared.exposure.Exposure.TheVariants.{Soa, Shared}
use Rattle.policy_tools.specs.declared.wanted.Wanted.TheVariants as wanted
use Rattle.grant_policy.specs.Identifiers.{IsIdentifier}
use Rattle.grant_policy.specs.Scopes.{covers}
use Rattle.grant_policy.specs.Rules.{matches, is_of, has, same_type, same_action}
use Rattle.grant_policy.specs.Decisions.{Verdict, HasRight, IsDecision, decided, decision, effect_by}
use Rattle.policy_tools.specs.Representatives.{AreAlike, Represent}
use Rattle.policy_tools.specs.Wanted.{changes}
use Rattle.policy_tools.specs.Points.{names_point}
use Rattle.policy_tools.specs.Taking.{includes, speaks}
use Rattle.policy_tools.specs.Claims.{is_taken, IsEntry, AreEntries}
use Rattle.policy_tools.specs.EntryRights.{IsWanted, IsGrant, GrantsAmong, GrantsOthers}
use Rattle.grant_policy.specs.Isolated.{question, IsGranted, ShowsRecords, ChangesRecords, IsIsolatedAt, IsIsolated}
use Rattle.policy_tools.specs.Exposures.{IsGrantedBy, IsUnnamedOther, OtherHas, named_of, SeesSoa, SharesName, IsExposed}
use Rattle.grant_policy.proofs.WordLemmas.{same_type-Decides}
use Rattle.grant_policy.proofs.RuleLemmas.{matches-Decides}
use Rattle.grant_policy.proofs.DecisionLaws.{same_Some, decision_found, decision_one, grants_by}
use Rattle.policy_tools.proofs.CallerLemmas.{names, free_identifier, not_named, every_is_of, same_among, shared_by}
use Rattle.policy_tools.proofs.TakeLemmas.{fst, snd, at_place, before_place, passes_before}
use Rattle.policy_tools.proofs.ClaimLemmas.{from_map, in_map, place_of, among, entry_at, entries_before, before_same, covering}
use Rattle.policy_tools.proofs.EntryRightLemmas.{NoneAmong, NoneToOthers}

-- ---- callers

-- a caller of whom a rule speaks is one of those of whom it speaks
pub among_self : (callers : Callers) (caller : List ℕ) → is_of callers caller ≡ true → (own : Callers) → includes own callers ≡ true → is_of own caller ≡ true
among_self Every caller e own i = every_is_of own caller i
among_self (One identifier) caller e own i = same_among identifier caller e own i

pub includes_self : (callers : Callers) → includes callers callers ≡ true
includes_self callers = (shared_by Every callers callers refl).1

pub unnamed_by : (callers : Callers) (caller : List ℕ) → callers ≢ One caller → names caller callers ≡ false
unnamed_by Every caller other = refl
unnamed_by (One identifier) caller other = false_from_ne_true (names caller (One identifier)) (λ yes'. other (ap One ((bytes_eq-Decides identifier caller).0 yes')))

pub not_one : (caller : List ℕ) (callers : Callers) → names caller callers ≡ false → callers ≢ One caller
not_one caller callers none is = both_ways (names caller callers) none (subst (λ (c : Callers). names caller c ≡ true) (sym is) ((bytes_eq-Decides caller caller).1 refl))

-- there is always another identifier that no rule names
unnamed_other : (rules : List Rule) (caller : List ℕ) → length rules ≤ 1024 → (other : List ℕ) × IsIdentifier other × IsUnnamedOther rules caller other
unnamed_other rules caller few =
    let f : Rule → Callers = λ (rule : Rule). rule.callers in
    let free = free_identifier (One caller ∷ map f rules) (omega (arith, length-map rules f)) in (
      free.0,
      free.1,
      record {
        differs = λ is. not_one free.0 (One caller) (free.2 (One caller) (0, omega arith, refl)) (ap One (sym is));
        unnamed = λ rule in'.
            let m = in_map f rules rule in' in
            not_one free.0 rule.callers (free.2 rule.callers (suc m.0, omega (arith, m.1), m.2));
      },
    )

-- ---- decisions

-- a rule that grants, and a grant
pub granted_by_rule : (rules : List Rule) (caller : List ℕ) (name : List (List ℕ)) (right : Right) → IsGrantedBy rules caller name right → IsGranted rules caller name right.record_type right.action
granted_by_rule rules caller name right g =
    let p = question caller name right.record_type right.action in
    (g.rule.id, decision_one p rules (decision p rules) (decided g.rule) (decision_found p rules) (inl (right.rule, g.rule, g.first, refl)) ∙ ap (λ (e : Effect). effect_by e g.rule.id) g.grants)

unfoldable pub rule_of_grant : (rules : List Rule) (caller : List ℕ) (name : List (List ℕ)) (t : RecordType) (a : Action) → IsGranted rules caller name t a → (i : ℕ) × IsGrantedBy rules caller name (record { record_type = t; action = a; rule = i })
rule_of_grant rules caller name t a g =
    let p = question caller name t a in
    let by = grants_by p rules g.0 (subst (λ (v : Verdict). IsDecision p rules v) g.1 (decision_found p rules)) in
    (by.number, record { rule = by.rule; first = by.is_first; grants = by.effect })

-- names that are alike are decided alike
pub decision_alike : (rules : List Rule) (caller : List ℕ) (t : RecordType) (a : Action) (name other : List (List ℕ)) → AreAlike rules name other → decision (question caller name t a) rules ≡ decision (question caller other t a) rules
decision_alike [] caller t a name other alike = refl
decision_alike (rule ∷ rules) caller t a name other alike =
    ap
    (λ (b : Bool). if (is_of rule.callers caller && (b && (has same_type rule.types t && has same_action rule.actions a))) then decided rule else decision (question caller name t a) rules)
    (alike rule (0, omega arith, refl))
    ∙ ap (λ (v : Verdict). if matches (question caller other t a) rule then decided rule else v) (decision_alike rules caller t a name other (λ r in'. alike r (suc in'.0, omega (arith, in'.1), in'.2)))

isolated_like : (rules : List Rule) (caller : List ℕ) (name other : List (List ℕ)) → AreAlike rules name other → IsIsolatedAt rules caller other → IsIsolatedAt rules caller name
isolated_like rules caller name other alike is = record {
  blind = λ asked shows g. is.blind asked shows (g.0, sym (decision_alike rules caller types.Soa asked name other alike) ∙ g.1);
  alone = λ own who t a differs change g.
      is.alone
      (record { record_type = own.record_type; action = own.action; id = own.id; granting = sym (decision_alike rules caller own.record_type own.action name other alike) ∙ own.granting })
      who t a differs change (g.0, sym (decision_alike rules who t a name other alike) ∙ g.1);
}

pub isolated_all : (rules : List Rule) (caller : List ℕ) (names' : List (List (List ℕ))) → Represent rules names' → ((k : ℕ) → k < length names' → IsIsolatedAt rules caller (get_or names' k [])) → IsIsolated rules caller
isolated_all rules caller names' all each name is =
    let r = all.each name is in
    let at : get_or names' r.1.0 [] ≡ r.0 = get_or_default names' r.1.0 [] r.0 r.1.1 ∙ r.1.2 in
    isolated_like rules caller name r.0 r.2 (subst (λ (n : List (List ℕ)). IsIsolatedAt rules caller n) at (each r.1.0 r.1.1))

-- ---- grants without a caller

-- the rule of this place grants a right to all these callers
pub record GrantsAt (rules : List Rule) (callers : Callers) (name : List (List ℕ)) (right : Right) : Type 0 where
  pub rule : Rule
  pub at : slice_get rules right.rule ≡ Some rule
  pub of : includes rule.callers callers ≡ true
  pub grants : rule.effect ≡ Grant
  pub says : speaks rule name right.record_type right.action ≡ true
  pub untaken : is_taken (take right.rule rules) name callers right.record_type right.action ≡ false

pub granted_at : (rules : List Rule) (callers : Callers) (caller : List ℕ) (name : List (List ℕ)) (right : Right) → ((rule : Rule) → Contains rules rule → is_of rule.callers caller ≡ includes rule.callers callers) → GrantsAt rules callers name right → IsGrantedBy rules caller name right
granted_at rules callers caller name right alike g =
    let t = right.record_type in
    let a = right.action in
    let asked = question caller name t a in
    record {
      rule = g.rule;
      first = record {
        at = g.at;
        matching = (matches-Decides asked g.rule).0 (and_from (is_of g.rule.callers caller) (speaks g.rule name t a) (alike g.rule (at_place rules right.rule g.rule g.at) ∙ g.of) g.says);
        first = λ m earlier lt at mt.
            let b = (matches-Decides asked earlier).1 mt in
            let of = fst (is_of earlier.callers caller) (speaks earlier name t a) b in
            let says = snd (is_of earlier.callers caller) (speaks earlier name t a) b in
            let all = sym (alike earlier (at_place rules m earlier at)) ∙ of in
            false≢true (sym g.untaken ∙ passes_before (λ (r : Rule). includes r.callers callers && speaks r name t a) rules right.rule m earlier lt at (and_from (includes earlier.callers callers) (speaks earlier name t a) all says));
      };
      grants = g.grants;
    }

pub spoken_of : (rules : List Rule) (caller : List ℕ) (name : List (List ℕ)) (right : Right) → (g : IsGrantedBy rules caller name right) → (is_of g.rule.callers caller ≡ true) × (speaks g.rule name right.record_type right.action ≡ true)
spoken_of rules caller name right g =
    let says = speaks g.rule name right.record_type right.action in
    let b = (matches-Decides (question caller name right.record_type right.action) g.rule).1 g.first.matching in
    (fst (is_of g.rule.callers caller) says b, snd (is_of g.rule.callers caller) says b)

unfoldable pub at_granted : (rules : List Rule) (callers : Callers) (caller : List ℕ) (name : List (List ℕ)) (right : Right) → ((own : Callers) → includes own callers ≡ true → is_of own caller ≡ true) → (g : IsGrantedBy rules caller name right) → includes g.rule.callers callers ≡ true → GrantsAt rules callers name right
at_granted rules callers caller name right more g of =
    let t = right.record_type in
    let a = right.action in
    let asked = question caller name t a in
    record {
      rule = g.rule;
      at = g.first.at;
      of = of;
      grants = g.grants;
      says = (spoken_of rules caller name right g).1;
      untaken = false_from_ne_true (is_taken (take right.rule rules) name callers t a)
          (λ yes'.
          let e = Any-from_list_any (λ (r : Rule). includes r.callers callers && speaks r name t a) (take right.rule rules) yes' in
          let earlier = e.1 in
          let place = before_place rules right.rule e.0 earlier e.2 e.3 in
          let theirs = more earlier.callers (fst (includes earlier.callers callers) (speaks earlier name t a) e.4) in
          let says = snd (includes earlier.callers callers) (speaks earlier name t a) e.4 in
          g.first.first e.0 earlier place.0 place.1 ((matches-Decides asked earlier).0 (and_from (is_of earlier.callers caller) (speaks earlier name t a) theirs says)));
    }

-- ---- entries

module _ (rules : List Rule) (name : List (List ℕ)) (entries : List Entry) (are : AreEntries rules name (length rules) entries) where
  -- a rule that covers the name has an entry
  entry_of : (i : ℕ) (rule : Rule) → slice_get rules i ≡ Some rule → covers rule.scope rule.at name ≡ true → (e : Entry) × Contains entries e × (e.number ≡ i) × (rule ≡ e.claim.rule.now) × IsEntry rules name e
  entry_of i rule at covered =
      let found = from_map (λ (e : Entry). e.number) entries i ((are.numbers.each i).1 (slice_get_within rules i rule at, (rule, at, covered))) in
      let e = found.0 in
      let is = (entry_at rules name (length rules) entries are e found.1).0 in
      (e, found.1, found.2, same_Some rule e.claim.rule.now (sym at ∙ sym (ap (λ (k : ℕ). slice_get rules k) found.2) ∙ is.rule), is)

  among_at : (callers : Callers) (n : ℕ) (right : Right) → GrantsAmong callers entries n right → GrantsAt rules callers name right
  among_at callers n right g =
      let t = right.record_type in
      let a = right.action in
      let e = g.entry in
      let rule = e.claim.rule.now in
      let is = entry_at rules name (length rules) entries are e (among entries g.place e g.at) in
      let same = before_same rules name e.number (take g.place entries) (entries_before rules name (length rules) entries are g.place e g.at) callers t a in
      record {
        rule = rule;
        at = ap (λ (k : ℕ). slice_get rules k) (sym g.grants.number) ∙ is.0.rule;
        of = g.grants.includes;
        grants = g.grants.grants;
        says = and_from (covers rule.scope rule.at name) (names_point rule t a) (covering rules name e.number rule is.0.rule is.1) (sym (is.0.pairs t a) ∙ g.grants.own);
        untaken = ap (λ (k : ℕ). is_taken (take k rules) name callers t a) (sym g.grants.number) ∙ sym same ∙ g.grants.undecided;
      }

  at_among : (callers : Callers) (right : Right) → GrantsAt rules callers name right → GrantsAmong callers entries (length entries) right
  at_among callers right g =
      let t = right.record_type in
      let a = right.action in
      let covered = fst (covers g.rule.scope g.rule.at name) (names_point g.rule t a) g.says in
      let named = snd (covers g.rule.scope g.rule.at name) (names_point g.rule t a) g.says in
      let f = entry_of right.rule g.rule g.at covered in
      let e = f.0 in
      let p = place_of entries e f.1 in
      let same = before_same rules name e.number (take p.0 entries) (entries_before rules name (length rules) entries are p.0 e p.1) callers t a in
      record {
        place = p.0;
        below = slice_get_within entries p.0 e p.1;
        entry = e;
        at = p.1;
        grants = record {
          includes = subst (λ (r : Rule). includes r.callers callers ≡ true) f.3 g.of;
          grants = subst (λ (r : Rule). r.effect ≡ Grant) f.3 g.grants;
          own = f.4.pairs t a ∙ subst (λ (r : Rule). names_point r t a ≡ true) f.3 named;
          undecided = same ∙ ap (λ (k : ℕ). is_taken (take k rules) name callers t a) f.2 ∙ g.untaken;
          number = f.2;
        };
      }

  -- what is left to the rule of an entry is granted by it
  unfoldable pub left_at : (e : Entry) (wanted : ℕ) (right : Right) → Contains entries e → IsGrant e e.left.bits wanted right → GrantsAt rules e.claim.rule.now.callers name right
  left_at e wanted right in' g =
      let t = right.record_type in
      let a = right.action in
      let rule = e.claim.rule.now in
      let is = entry_at rules name (length rules) entries are e in' in
      let taken = is_taken (take e.number rules) name rule.callers t a in
      let both = sym (is.0.left t a) ∙ g.in_own in
      record {
        rule = rule;
        at = ap (λ (k : ℕ). slice_get rules k) (sym g.number) ∙ is.0.rule;
        of = includes_self rule.callers;
        grants = g.grants;
        says = and_from (covers rule.scope rule.at name) (names_point rule t a) (covering rules name e.number rule is.0.rule is.1) (fst (names_point rule t a) (not taken) both);
        untaken = ap (λ (k : ℕ). is_taken (take k rules) name rule.callers t a) (sym g.number) ∙ not-true taken (snd (names_point rule t a) (not taken) both);
      }

  pub at_left : (callers : Callers) (right : Right) (g : GrantsAt rules callers name right) → g.rule.callers ≡ callers → (e : Entry) × Contains entries e × (e.claim.rule.now.callers ≡ callers) × IsGrant e e.left.bits e.left.bits right
  at_left callers right g own =
      let t = right.record_type in
      let a = right.action in
      let covered = fst (covers g.rule.scope g.rule.at name) (names_point g.rule t a) g.says in
      let named = snd (covers g.rule.scope g.rule.at name) (names_point g.rule t a) g.says in
      let f = entry_of right.rule g.rule g.at covered in
      let e = f.0 in
      let rule = e.claim.rule.now in
      let whose : rule.callers ≡ callers = sym (ap (λ (r : Rule). r.callers) f.3) ∙ own in
      let taken = is_taken (take e.number rules) name rule.callers t a in
      let open' : taken ≡ false = ap (λ (k : ℕ). is_taken (take k rules) name rule.callers t a) f.2 ∙ ap (λ (c : Callers). is_taken (take right.rule rules) name c t a) whose ∙ g.untaken in
      let left = f.4.left t a ∙ and_from (names_point rule t a) (not taken) (subst (λ (r : Rule). names_point r t a ≡ true) f.3 named) (not_from_false taken open') in
      (e, f.1, whose, record { grants = subst (λ (r : Rule). r.effect ≡ Grant) f.3 g.grants; in_own = left; in_wanted = left; number = f.2 })

  others_at : (caller : List ℕ) (e : Entry) (right : Right) → Contains entries e → GrantsOthers caller e right → GrantsAt rules e.claim.rule.now.callers name right
  others_at caller e right in' g = left_at e e.left.bits right in' (record { grants = g.grants; in_own = g.left; in_wanted = g.left; number = g.number })

  at_others : (caller : List ℕ) (callers : Callers) (right : Right) (g : GrantsAt rules callers name right) → g.rule.callers ≡ callers → callers ≢ One caller → changes right.action ≡ true → (e : Entry) × Contains entries e × GrantsOthers caller e right
  at_others caller callers right g own others change =
      let f = at_left callers right g own in
      (f.0, f.1, record { others = λ only. others (sym f.2 ∙ only); grants = f.3.grants; left = f.3.in_own; wanted = change; number = f.3.number })

-- ---- actions

change_is : (a : Action) → ChangesRecords a → changes a ≡ true
change_is a (inl e) = ap changes e
change_is a (inr (inl e)) = ap changes e
change_is a (inr (inr e)) = ap changes e

is_change : (a : Action) → changes a ≡ true → ChangesRecords a
is_change action.List e = absurd (false≢true e)
is_change action.Check e = absurd (false≢true e)
is_change action.Add e = inl refl
is_change action.Delete e = inr (inl refl)
is_change action.Delegate e = inr (inr refl)

show_is : (a : Action) → ShowsRecords a → changes a ≡ false
show_is a (inl e) = ap changes e
show_is a (inr e) = ap changes e

is_show : (a : Action) → changes a ≡ false → ShowsRecords a
is_show action.List e = inl refl
is_show action.Check e = inr refl
is_show action.Add e = absurd (false≢true (sym e))
is_show action.Delete e = absurd (false≢true (sym e))
is_show action.Delegate e = absurd (false≢true (sym e))

-- ---- at one name

module _ (rules : List Rule) (caller : List ℕ) (name : List (List ℕ)) (entries : List Entry) (are : AreEntries rules name (length rules) entries) where
  -- what is granted to the caller is granted by an entry
  own_among : (t : RecordType) (a : Action) → IsGranted rules caller name t a → (i : ℕ) × GrantsAmong (One caller) entries (length entries) (record { record_type = t; action = a; rule = i })
  own_among t a g =
      let by = rule_of_grant rules caller name t a g in
      let right : Right = record { record_type = t; action = a; rule = by.0 } in
      (by.0, at_among rules name entries are (One caller) right (at_granted rules (One caller) caller name right (λ own i. i) by.1 (spoken_of rules caller name right by.1).0))

  blind_at : NoneAmong (One caller) entries wanted.SoaShown (length entries) → (asked : Action) → ShowsRecords asked → ¬ IsGranted rules caller name types.Soa asked
  blind_at none asked shows g =
      let own = own_among types.Soa asked g in
      none (record { record_type = types.Soa; action = asked; rule = own.0 })
      (and_from (same_type types.Soa types.Soa) (not (changes asked)) ((same_type-Decides types.Soa types.Soa).1 refl) (not_from_false (changes asked) (show_is asked shows)))
      own.1

  -- where nothing is granted to the caller
  pub isolated_none : NoneAmong (One caller) entries wanted.SoaShown (length entries) → NoneAmong (One caller) entries wanted.Every (length entries) → IsIsolatedAt rules caller name
  isolated_none blind none = record {
    blind = blind_at blind;
    alone = λ own other t a differs change g.
        let found = own_among own.record_type own.action (own.id, own.granting) in
        absurd (none (record { record_type = own.record_type; action = own.action; rule = found.0 }) refl found.1);
  }

  -- where no change is granted to others
  pub isolated_alone : NoneAmong (One caller) entries wanted.SoaShown (length entries) → NoneToOthers caller entries → IsIsolatedAt rules caller name
  unfolding rule_of_grant at_granted
  isolated_alone blind none = record {
    blind = blind_at blind;
    alone = λ own other t a differs change g.
        let by = rule_of_grant rules other name t a g in
        let right : Right = record { record_type = t; action = a; rule = by.0 } in
        let callers = by.1.rule.callers in
        let of = (spoken_of rules other name right by.1).0 in
        let at = at_granted rules callers other name right (among_self callers other of) by.1 (includes_self callers) in
        let others : callers ≢ One caller = λ only. differs (sym ((bytes_eq-Decides caller other).0 (subst (λ (c : Callers). is_of c other ≡ true) only of))) in
        let found = at_others rules name entries are caller callers right at refl others (change_is a change) in
        none found.0 right found.1 found.2;
  }

  own_granted : (n : ℕ) (right : Right) → GrantsAmong (One caller) entries n right → IsGrantedBy rules caller name right
  own_granted n right g = granted_at rules (One caller) caller name right (λ rule in'. refl) (among_at rules name entries are (One caller) n right g)

  pub soa_seen : (n : ℕ) (right : Right) → IsName name → IsWanted wanted.SoaShown right × GrantsAmong (One caller) entries n right → SeesSoa rules caller name right
  soa_seen n right is g =
      let soa = same_type right.record_type types.Soa in
      let shows = not (changes right.action) in
      record {
        valid = is;
        soa = (same_type-Decides right.record_type types.Soa).0 (fst soa shows g.0);
        shows = is_show right.action (not-true (changes right.action) (snd soa shows g.0));
        granted = own_granted n right g.1;
      }

  other_has : (callers : Callers) (right : Right) → length rules ≤ 1024 → callers ≢ One caller → GrantsAt rules callers name right → OtherHas rules caller name (named_of callers) right
  other_has Every right few others g = record {
    some = unnamed_other rules caller few;
    each = λ other is. granted_at rules Every other name right (λ rule in'. not_named rule.callers other (unnamed_by rule.callers other (is.unnamed rule in'))) g;
  }
  other_has (One identifier) right few others g = (λ same. others (ap One same), granted_at rules (One identifier) identifier name right (λ rule in'. refl) g)

  pub name_shared : (n : ℕ) (own theirs : Right) (rule : Rule) (other : Option (List ℕ)) → length rules ≤ 1024 → IsName name → slice_get rules theirs.rule ≡ Some rule → other ≡ named_of rule.callers → GrantsAmong (One caller) entries n own → (e : Entry) × Contains entries e × GrantsOthers caller e theirs → SharesName rules caller name own other theirs
  unfolding others_at left_at
  name_shared n own theirs rule other few is at whose g (e, in', theirs') =
      let granted = others_at rules name entries are caller e theirs in' theirs' in
      let same : e.claim.rule.now ≡ rule = same_Some e.claim.rule.now rule (sym granted.at ∙ at) in
      record {
        valid = is;
        owns = own_granted n own g;
        changes = is_change theirs.action theirs'.wanted;
        has = subst (λ (o : Option (List ℕ)). OtherHas rules caller name o theirs) (ap (λ (r : Rule). named_of r.callers) same ∙ sym whose) (other_has e.claim.rule.now.callers theirs few theirs'.others granted);
      }

  pub right_below : (theirs : Right) → (e : Entry) × Contains entries e × GrantsOthers caller e theirs → theirs.rule < length rules
  right_below theirs (e, in', theirs') =
      let granted = others_at rules name entries are caller e theirs in' theirs' in
      slice_get_within rules theirs.rule granted.rule granted.at

-- ---- exactly

-- who is exposed is not isolated
exposed_not : (rules : List Rule) (caller : List ℕ) (e : Exposure) → IsExposed rules caller e → ¬ IsIsolated rules caller
exposed_not rules caller (Soa name right) e is =
    let g = granted_by_rule rules caller name right e.granted in
    (is name e.valid).blind right.action e.shows (subst (λ (t : RecordType). IsGranted rules caller name t right.action) e.soa g)
exposed_not rules caller (Shared name own other theirs) e is = by other e.has
  where
    owns : HasRight rules caller name
    owns = let g = granted_by_rule rules caller name own e.owns in record { record_type = own.record_type; action = own.action; id = g.0; granting = g.1 }

    never : (who : List ℕ) → who ≢ caller → ¬ IsGrantedBy rules who name theirs
    never who differs g = (is name e.valid).alone owns who theirs.record_type theirs.action differs e.changes (granted_by_rule rules who name theirs g)

    by : (o : Option (List ℕ)) → ¬ OtherHas rules caller name o theirs
    by None has = never has.some.0 has.some.2.differs (has.each has.some.0 has.some.2)
    by (Some who) has = never who has.0 has.1

found_exactly : (rules : List Rule) (caller : List ℕ) (found : Option Exposure) → MatchOption found (IsIsolated rules caller) (IsExposed rules caller) → (found ≡ None) ↔ IsIsolated rules caller
found_exactly rules caller None is = (λ e. is, λ i. refl)
found_exactly rules caller (Some e) exposed = (λ none. absurd cc, λ is. absurd (exposed_not rules caller e exposed is))

pub exactly : {E : Type 0} (rules : List Rule) (caller : List ℕ) (r : Result (Option Exposure) E) → IfOk r (λ found. MatchOption found (IsIsolated rules caller) (IsExposed rules caller)) → IfOk r (λ found. (found ≡ None) ↔ IsIsolated rules caller)
exactly rules caller (Ok found) is = found_exactly rules caller found is
exactly rules caller (Err e) is = tt
