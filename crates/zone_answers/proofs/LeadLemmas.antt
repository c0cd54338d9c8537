-- Aliases lead to one last name, and the answer from there is the one that the definition has.
use Rattle.std.proofs.Common.{◌≡◌, ◌⊎◌, ℕ, zero, suc, ◌+◌, ◌<◌, ◌≤◌, List, [], ◌∷◌, ◌++◌, length, Bool, true, false, cond, not, refl, sym, ap, subst, ◌∙◌, arith, append_assoc, append-nil, inl, inr}
use Rattle.std.specs.Bool.{Decides}
use Rattle.std.specs.List.{filter}
use Rattle.std.proofs.lemmas.Bool.{false_from_ne_true}
use Rattle.dns_names.specs.Order.{same_name}
use Rattle.dns_data.specs.declared.record.Record.{Record}
use Rattle.dns_data.specs.declared.record_type.RecordType.TheVariants as types
use Rattle.dns_data.specs.declared.rdata.Data.{Data}
use Rattle.dns_data.specs.declared.rdata.Data.TheVariants as variants
use Rattle.dns_data.specs.Rdata.{type_of}
use Rattle.zone_core.proofs.SetLemmas.{name_is, name_self}
use Rattle.zone_core.proofs.MetLemmas.{Among, among_of, of_among, any_is, is_any, among_append}
use Rattle.zone_core.proofs.BelowLemmas.{no_test}
use Rattle.zone_answers.specs.declared.query_type.QueryType.{QueryType}
use Rattle.zone_answers.specs.Answers.{Name, answered_as, Found, Outside, Delegated, Missing, Alias, Listed, Again, Finds, WasAsked, Lead, Ends, AnswerOf, answer_with, IsAnswer}
use Rattle.zone_answers.specs.AnswerTests.{found_at, target_of, was_asked, alias_in, follow, answer_to}
use Rattle.zone_answers.proofs.FindingLemmas.{HasOneAlias, finds_is, finds_one}
use Rattle.zone_answers.proofs.FollowLemmas.{follow_again, follow_on, follow_ends}

-- ---- how many records pass a test

one_more : (x : Record) (a b : Bool) (ys zs : List Record) → (b ≡ true → a ≡ true) → length ys ≤ length zs → length (cond b (x ∷ ys) ys) ≤ length (cond a (x ∷ zs) zs)
one_more x true true ys zs up le = omega arith
one_more x true false ys zs up le = omega arith
one_more x false true ys zs up le = absurd (let e : false ≡ true = up refl in cc)
one_more x false false ys zs up le = le

one_less : (x : Record) (a b : Bool) (ys zs : List Record) → (b ≡ true → a ≡ true) → length ys < length zs → length (cond b (x ∷ ys) ys) < length (cond a (x ∷ zs) zs)
one_less x true true ys zs up le = omega arith
one_less x true false ys zs up le = omega arith
one_less x false true ys zs up le = absurd (let e : false ≡ true = up refl in cc)
one_less x false false ys zs up le = le

module _ (p q : Record → Bool) (up : (x : Record) → q x ≡ true → p x ≡ true) where
  no_more : (xs : List Record) → length (filter q xs) ≤ length (filter p xs)
  no_more [] = omega arith
  no_more (x ∷ xs) = one_more x (p x) (q x) (filter q xs) (filter p xs) (up x) (no_more xs)

  fewer : (xs : List Record) (r : Record) → Among r xs → p r ≡ true → q r ≡ false → length (filter q xs) < length (filter p xs)
  fewer [] r a passes fails = absurd a
  fewer (x ∷ xs) r a passes fails = (elim a [ inl same ↦ here same | inr later ↦ one_less x (p x) (q x) (filter q xs) (filter p xs) (up x) (fewer xs r later passes fails) ])
    where
      here : r ≡ x → length (filter q (x ∷ xs)) < length (filter p (x ∷ xs))
      here same =
          let gone : filter q (x ∷ xs) ≡ filter q xs = ap (λ b. cond b (x ∷ filter q xs) (filter q xs)) (ap q (sym same) ∙ fails) in
          let kept : filter p (x ∷ xs) ≡ x ∷ filter p xs = ap (λ b. cond b (x ∷ filter p xs) (filter p xs)) (ap p (sym same) ∙ passes) in
          omega (arith, no_more xs, ap (length {A = Record}) gone, ap (length {A = Record}) kept)

kept_most : (p : Record → Bool) (xs : List Record) → length (filter p xs) ≤ length xs
kept_most p [] = omega arith
kept_most p (x ∷ xs) = by_test (p x) (kept_most p xs)
  where
    by_test : (b : Bool) → length (filter p xs) ≤ length xs → length (cond b (x ∷ filter p xs) (filter p xs)) ≤ length (x ∷ xs)
    by_test true le = omega arith
    by_test false le = omega arith

-- ---- names that were asked for before

pub asked-Decides : (before : List Record) (name : Name) → Decides (was_asked before name) (WasAsked before name)
asked-Decides before name = (
  λ e. let found = any_is (λ r. same_name r.owner name) before e in (found.0, of_among before found.0 found.1, name_is found.0.owner name found.2),
  λ was. is_any (λ r. same_name r.owner name) before was.0 (among_of before was.0 was.1) (ap (λ (n : Name). same_name n name) was.2 ∙ name_self name),
)

not_asked : (before : List Record) (name : Name) → ¬ WasAsked before name → was_asked before name ≡ false
not_asked before name never = false_from_ne_true (was_asked before name) (λ t. never ((asked-Decides before name).0 t))

still_asked : (before : List Record) (a : Record) (name : Name) → was_asked before name ≡ true → was_asked (before ++ a ∷ []) name ≡ true
still_asked before a name t =
    let found = any_is (λ r. same_name r.owner name) before t in
    is_any (λ r. same_name r.owner name) (before ++ a ∷ []) found.0 ((among_append before (a ∷ []) found.0).1 (inl found.1)) found.2

now_asked : (before : List Record) (a : Record) (name : Name) → a.owner ≡ name → was_asked (before ++ a ∷ []) name ≡ true
now_asked before a name e =
    is_any (λ r. same_name r.owner name) (before ++ a ∷ []) a ((among_append before (a ∷ []) a).1 (inr (inl refl))) (ap (λ (n : Name). same_name n name) e ∙ name_self name)

pub cname_is : (d : Data) → type_of d ≡ types.Cname → (target : Name) × (d ≡ variants.Cname target)
cname_is (variants.Cname target) e = (target, refl)
cname_is d e = absurd cc

-- ---- how many aliases there are

module _ (origin : Name) (rs : List Record) (asked : QueryType) where
  -- an alias whose target was not asked for
  abbrev leads_on : List Record → Record → Bool
  leads_on before r = not (was_asked before (target_of [] r.rdata))

  abbrev left : List Record → ℕ
  left before = length (filter (leads_on before) rs)

  not_is : (b : Bool) → not b ≡ true → b ≡ false
  not_is true e = absurd cc
  not_is false e = refl

  keeps_on : (before : List Record) (a x : Record) → leads_on (before ++ a ∷ []) x ≡ true → leads_on before x ≡ true
  keeps_on before a x e =
      let new = not_is (was_asked (before ++ a ∷ []) (target_of [] x.rdata)) e in
      ap not (false_from_ne_true (was_asked before (target_of [] x.rdata)) (λ t.
      no_test (was_asked (before ++ a ∷ []) (target_of [] x.rdata)) (still_asked before a (target_of [] x.rdata) t) new))

  few_after : (aliases before : List Record) (name last : Name) (r : Record) → Among r rs → target_of [] r.rdata ≡ name → Lead origin rs asked before name aliases last
      → length aliases ≤ left before
  few_after [] before name last r here leads lead = omega arith
  few_after (a ∷ aliases) before name last r here leads lead =
      let follows = lead.1.0 in
      let own : a.owner ≡ name = ap (λ (x : Record). x.owner) lead.1.2 in
      let target = lead.1.3.0 in
      let data_is : follows.rdata ≡ variants.Cname target = sym (ap (λ (x : Record). x.rdata) lead.1.2) ∙ lead.1.3.1 in
      let rest = few_after aliases (before ++ a ∷ []) target last follows (among_of rs follows lead.1.1.1.2.1) (ap (target_of []) data_is) lead.1.3.2 in
      let counted : leads_on before r ≡ true = ap not (ap (was_asked before) leads ∙ not_asked before name lead.0) in
      let gone : leads_on (before ++ a ∷ []) r ≡ false = ap not (ap (was_asked (before ++ a ∷ [])) leads ∙ now_asked before a name own) in
      omega (arith, rest, fewer (leads_on before) (leads_on (before ++ a ∷ [])) (keeps_on before a) rs r here counted gone)

  pub few : (aliases : List Record) (name last : Name) → Lead origin rs asked [] name aliases last → length aliases < 2 + length rs
  few [] name last lead = omega arith
  few (a ∷ aliases) name last lead =
      let follows = lead.1.0 in
      let target = lead.1.3.0 in
      let data_is : follows.rdata ≡ variants.Cname target = sym (ap (λ (x : Record). x.rdata) lead.1.2) ∙ lead.1.3.1 in
      let rest = few_after aliases (a ∷ []) target last follows (among_of rs follows lead.1.1.1.2.1) (ap (target_of []) data_is) lead.1.3.2 in
      omega (arith, rest, kept_most (leads_on (a ∷ [])) rs)

  module _ (one : HasOneAlias rs) where
    -- ---- what aliases lead to is what is followed

    ends_follow : (n : ℕ) (before : List Record) (name : Name) (found : Found) → Ends origin rs asked before name found
        → answer_with origin rs before name found ≡ follow origin rs asked (suc n) before name
    ends_follow n before name Again was = follow_again origin rs asked before name n ((asked-Decides before name).1 was)
    ends_follow n before name (Alias r) never = absurd never
    ends_follow n before name Outside ends = follow_ends origin rs asked before name n Outside (not_asked before name ends.0) (finds_one origin rs name asked one Outside ends.1) refl
    ends_follow n before name (Delegated cut) ends =
        follow_ends origin rs asked before name n (Delegated cut) (not_asked before name ends.0) (finds_one origin rs name asked one (Delegated cut) ends.1) refl
    ends_follow n before name Missing ends = follow_ends origin rs asked before name n Missing (not_asked before name ends.0) (finds_one origin rs name asked one Missing ends.1) refl
    ends_follow n before name (Listed found) ends =
        follow_ends origin rs asked before name n (Listed found) (not_asked before name ends.0) (finds_one origin rs name asked one (Listed found) ends.1) refl

    led : (aliases : List Record) (n : ℕ) (before : List Record) (name last : Name) (found : Found) → Lead origin rs asked before name aliases last
        → Ends origin rs asked (before ++ aliases) last found → length aliases < n
        → answer_with origin rs (before ++ aliases) last found ≡ follow origin rs asked n before name
    led [] zero before name last found lead ends short = absurd (omega arith)
    led [] (suc n) before name last found lead ends short =
        let same = append-nil before in
        let here : Ends origin rs asked before name found = subst (λ (x : Name). Ends origin rs asked before x found) lead (subst (λ (bs : List Record). Ends origin rs asked bs last found) same ends) in
        (λ i. answer_with origin rs (same i) (lead i) found) ∙ ends_follow n before name found here
    led (a ∷ aliases) zero before name last found lead ends short = absurd (omega arith)
    led (a ∷ aliases) (suc n) before name last found lead ends short =
        let r = lead.1.0 in
        let target = lead.1.3.0 in
        let whole = append_assoc before (a ∷ []) aliases in
        let data_is : r.rdata ≡ variants.Cname target = sym (ap (λ (x : Record). x.rdata) lead.1.2) ∙ lead.1.3.1 in
        let rest = led aliases n (before ++ a ∷ []) target last found lead.1.3.2 (subst (λ (bs : List Record). Ends origin rs asked bs last found) (sym whole) ends) (omega (arith, short)) in
        let goes : target_of name r.rdata ≡ target = ap (target_of name) data_is in
        let on = follow_on origin rs asked before name n r (not_asked before name lead.0) (ap alias_in (finds_one origin rs name asked one (Alias r) lead.1.1)) in
        ap (λ (bs : List Record). answer_with origin rs bs last found) (sym whole) ∙ rest
        ∙ (λ i. follow origin rs asked n (before ++ lead.1.2 i ∷ []) (sym goes i)) ∙ on

    -- an answer that the definition has is the one that is computed
    pub answer_one : (name : Name) (a : AnswerOf) → IsAnswer origin rs name asked a → a ≡ answer_to origin rs name asked
    answer_one name a is = is.5 ∙ led is.0 (2 + length rs) [] name is.1 is.2 is.3 is.4 (few is.0 name is.1 is.3)

    -- ---- each question is answered

    -- after some aliases others lead to an end, or so many were followed
    abbrev Led : ℕ → List Record → Name → Type 0
    Led n before name =
        ((aliases : List Record) × (last : Name) × (found : Found) × Lead origin rs asked before name aliases last × Ends origin rs asked (before ++ aliases) last found)
        ⊎ ((aliases : List Record) × (last : Name) × Lead origin rs asked before name aliases last × (length aliases ≡ n))

    here_ends : (n : ℕ) (before : List Record) (name : Name) (found : Found) → Ends origin rs asked before name found → Led n before name
    here_ends n before name found ends = inl ([], name, found, refl, subst (λ (bs : List Record). Ends origin rs asked bs name found) (sym (append-nil before)) ends)

    run : (n : ℕ) (before : List Record) (name : Name) → Led n before name
    run zero before name = inr ([], name, refl, refl)
    run (suc n) before name = by_asked (λ bs m. run n bs m) (was_asked before name) refl
      where
        by_next : ¬ WasAsked before name → (r : Record) → Finds origin rs name asked (Alias r) → (target : Name) → r.rdata ≡ variants.Cname target
            → Led n (before ++ answered_as name r ∷ []) target → Led (suc n) before name
        by_next never r finds target is next = (elim next [
          | inl done ↦ inl (
            answered_as name r ∷ done.0,
            done.1,
            done.2,
            (never, (r, finds, refl, (target, is, done.3))),
            subst (λ (bs : List Record). Ends origin rs asked bs done.1 done.2) (append_assoc before (answered_as name r ∷ []) done.0) done.4,
          )
          | inr more ↦ inr (answered_as name r ∷ more.0, more.1, (never, (r, finds, refl, (target, is, more.2))), ap (λ k. suc k) more.3)
        ])

        by_found : ((bs : List Record) (m : Name) → Led n bs m) → (found : Found) → Finds origin rs name asked found → ¬ WasAsked before name → Led (suc n) before name
        by_found next Outside finds never = here_ends (suc n) before name Outside (never, finds)
        by_found next (Delegated cut) finds never = here_ends (suc n) before name (Delegated cut) (never, finds)
        by_found next Missing finds never = here_ends (suc n) before name Missing (never, finds)
        by_found next (Listed found) finds never = here_ends (suc n) before name (Listed found) (never, finds)
        by_found next Again finds never = absurd finds
        by_found next (Alias r) finds never =
            let target = cname_is r.rdata finds.1.2.3 in
            by_next never r finds target.0 target.1 (next (before ++ answered_as name r ∷ []) target.0)

        by_asked : ((bs : List Record) (m : Name) → Led n bs m) → (b : Bool) → was_asked before name ≡ b → Led (suc n) before name
        by_asked next true t = here_ends (suc n) before name Again ((asked-Decides before name).0 t)
        by_asked next false t =
            by_found next (found_at origin rs name asked) (finds_is origin rs name asked one) (λ was. no_test (was_asked before name) ((asked-Decides before name).1 was) t)

    pub answer_is : (name : Name) → IsAnswer origin rs name asked (answer_to origin rs name asked)
    answer_is name = by_run (run (2 + length rs) [] name)
      where
        by_run : Led (2 + length rs) [] name → IsAnswer origin rs name asked (answer_to origin rs name asked)
        by_run done = (elim done [
          | inl ended ↦
              (let short = few ended.0 name ended.1 ended.3 in
              (ended.0, ended.1, ended.2, ended.3, ended.4, sym (led ended.0 (2 + length rs) [] name ended.1 ended.2 ended.3 ended.4 short)))
          | inr more ↦ absurd (omega (arith, few more.0 name more.1 more.2, more.3))
        ])
