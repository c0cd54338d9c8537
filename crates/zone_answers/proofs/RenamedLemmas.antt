-- Names of which none nearer exists, and to which no alias leads, are answered alike.
use Rattle.std.proofs.Common.{◌≡◌, ◌≢◌, ◌⊎◌, ℕ, zero, suc, ◌+◌, List, [], ◌∷◌, ◌++◌, length, map, ◌==◌, ◌||◌, Bool, true, false, cond, Some, None, refl, sym, ap, subst, ◌∙◌, arith, inl, inr}
use Rattle.std.specs.List.{Contains}
use Rattle.std.proofs.lemmas.Bool.{false_from_ne_true}
use Rattle.std.proofs.lemmas.Bool.Decides.{Decides-eqb}
use Rattle.std.proofs.lemmas.List.{map-append, length-map}
use Rattle.dns_names.specs.Labels.{IsWithin, is_within}
use Rattle.dns_names.specs.Order.{same_name}
use Rattle.dns_names.proofs.NameLemmas.{is_within-Decides}
use Rattle.dns_data.specs.declared.record.Record.{Record}
use Rattle.dns_data.specs.declared.rdata.Data.{Data}
use Rattle.dns_data.specs.declared.rdata.Data.TheVariants as variants
use Rattle.zone_core.proofs.SetLemmas.{name_is, name_self, name_other}
use Rattle.zone_answers.specs.declared.query_type.QueryType.{QueryType}
use Rattle.zone_answers.specs.Answers.{Name, Exists, answered_as, code_of, authority_over, authority_in, additional_in, answer_in, Found, Outside, Alias, Listed, Again, Finds, AnswerOf, answer_with}
use Rattle.zone_answers.specs.AnswerTests.{referral, found_below, found_at, target_of, was_asked, alias_in, by_alias, follow, answer_to}
use Rattle.zone_answers.specs.AnswerChanges.{AreSame}
use Rattle.zone_answers.specs.ChangeTests.{found_under, answer_under}
use Rattle.zone_answers.proofs.CutLemmas.{within_root}
use Rattle.zone_answers.proofs.FindingLemmas.{HasOneAlias, finds_is}
use Rattle.zone_answers.proofs.FollowLemmas.{follow_again, follow_on, follow_ends, follow_none}
use Rattle.zone_answers.proofs.LeadLemmas.{cname_is}
use Rattle.zone_answers.proofs.UnderLemmas.{found_same}

-- ---- a name in the place of another

abbrev pub placed : Name → Name → Name → Name
placed p q name = cond (same_name name p) q name

abbrev pub owned : Name → Name → Record → Record
owned p q r = record r { owner = placed p q r.owner }

abbrev pub renamed : Name → Name → AnswerOf → AnswerOf
renamed p q a = record a { answer = map (owned p q) a.answer }

-- a name is the root, or neither of two
abbrev pub IsAside : Name → Name → Name → Type 0
IsAside p q name = (name ≡ []) ⊎ ((name ≢ p) × (name ≢ q))

-- all targets of aliases are
abbrev pub AreAside : List Record → Name → Name → Type 0
AreAside rs p q = (r : Record) (target : Name) → Contains rs r → r.rdata ≡ variants.Cname target → IsAside p q target

pub same_renamed : (p q : Name) (a b : AnswerOf) → AreSame a b → AreSame (renamed p q a) (renamed p q b)
same_renamed p q a b s = record { code = s.code; authoritative = s.authoritative; answer = ap (map (owned p q)) s.answer; authority = s.authority; additional = s.additional }

-- the first name
pub first_step : (origin : Name) (rs : List Record) (asked : QueryType) (n : ℕ) (name : Name)
    → follow origin rs asked (suc n) [] name ≡ by_alias origin rs [] name (follow origin rs asked n) (found_at origin rs name asked) (alias_in (found_at origin rs name asked))
unfolding follow
first_step origin rs asked n name = refl

module _ (origin : Name) (rs : List Record) (p q : Name) where
  -- ---- the end

  end_renamed : (before : List Record) (name : Name) (found : Found) → map (owned p q) (answer_in name found) ≡ answer_in name found
      → answer_with origin rs (map (owned p q) before) name found ≡ renamed p q (answer_with origin rs before name found)
  end_renamed before name found same =
      let len = ap (λ (n : ℕ). n == 0) (length-map before (owned p q)) in
      let rows = ap (λ (rs : List Record). map (owned p q) before ++ rs) (sym same) ∙ sym (map-append (owned p q) before (answer_in name found)) in
      λ i. record {
        code = code_of (len i) found;
        authoritative = authority_over (len i) found;
        answer = rows i;
        authority = authority_in origin rs found;
        additional = additional_in rs found;
      }

  own_same : (name : Name) (found : List Record) → name ≢ p → map (owned p q) (map (answered_as name) found) ≡ map (answered_as name) found
  own_same name [] other = refl
  own_same name (r ∷ found) other =
      λ i. record r { owner = cond (name_other name p other i) q name } ∷ own_same name found other i

  in_same : (name : Name) (found : Found) → name ≢ p → map (owned p q) (answer_in name found) ≡ answer_in name found
  in_same name (Listed found) other = own_same name found other
  in_same name found other = refl

  -- ---- names that were asked for

  test_same : (name owner : Name) → name ≢ p → name ≢ q → same_name (placed p q owner) name ≡ same_name owner name
  test_same name owner p' q' = by_test (same_name owner p) refl
    where
      by_test : (b : Bool) → same_name owner p ≡ b → same_name (cond b q owner) name ≡ same_name owner name
      by_test false e = refl
      by_test true e =
          let is : owner ≡ p = name_is owner p e in
          name_other q name (λ f. q' (sym f)) ∙ sym (name_other owner name (λ f. p' (sym f ∙ is)))

  asked_same : (name : Name) → name ≢ p → name ≢ q → (before : List Record) → was_asked (map (owned p q) before) name ≡ was_asked before name
  asked_same name p' q' [] = refl
  asked_same name p' q' (r ∷ before) = λ i. test_same name r.owner p' q' i || asked_same name p' q' before i

  module _ (asked : QueryType) (top : origin ≢ []) where
    -- ---- the root

    root_outside : found_at origin rs [] asked ≡ Outside
    root_outside =
        let gone : is_within [] origin ≡ false = false_from_ne_true (is_within [] origin) (λ t. top (within_root origin ((is_within-Decides [] origin).0 t))) in
        ap (λ b. cond b (found_below rs [] asked (referral origin rs [] asked)) Outside) gone

    some_asked : (b : Record) (bs : List Record) → (length (b ∷ bs) == 0) ≡ false
    some_asked b bs = false_from_ne_true (length (b ∷ bs) == 0) (λ t. let none : length (b ∷ bs) ≡ 0 = (Decides-eqb (length (b ∷ bs)) 0).0 t in absurd (omega (arith, none)))

    -- where an alias led, outside and again are one
    again_outside : (b : Record) (bs : List Record) → answer_with origin rs (b ∷ bs) [] Again ≡ answer_with origin rs (b ∷ bs) [] Outside
    again_outside b bs = λ i. record {
      code = code_of (sym (some_asked b bs) i) Outside;
      authoritative = authority_over (sym (some_asked b bs) i) Outside;
      answer = (b ∷ bs) ++ [];
      authority = [];
      additional = [];
    }

    root_ends : (n : ℕ) (b : Record) (bs : List Record) → answer_with origin rs (b ∷ bs) [] Again ≡ follow origin rs asked n (b ∷ bs) []
    root_ends zero b bs = follow_none origin rs asked (b ∷ bs) []
    root_ends (suc n) b bs = by_test (was_asked (b ∷ bs) []) refl
      where
        by_test : (t : Bool) → was_asked (b ∷ bs) [] ≡ t → answer_with origin rs (b ∷ bs) [] Again ≡ follow origin rs asked (suc n) (b ∷ bs) []
        by_test true e = follow_again origin rs asked (b ∷ bs) [] n e
        by_test false e = again_outside b bs ∙ follow_ends origin rs asked (b ∷ bs) [] n Outside e (sym root_outside) refl

    root_renamed : (n : ℕ) (b : Record) (bs : List Record) → follow origin rs asked n (map (owned p q) (b ∷ bs)) [] ≡ renamed p q (follow origin rs asked n (b ∷ bs) [])
    root_renamed n b bs =
        sym (root_ends n (owned p q b) (map (owned p q) bs)) ∙ end_renamed (b ∷ bs) [] Again refl ∙ ap (renamed p q) (root_ends n b bs)

    -- ---- aliases

    module _ (one : HasOneAlias rs) (aside : AreAside rs p q) where
      goes_aside : (name : Name) (d : Data) (r : Record) → Contains rs r → r.rdata ≡ d → IsAside p q name → IsAside p q (target_of name d)
      goes_aside name (variants.Cname target) r here e own = aside r target here e
      goes_aside name d r here e own = own

      -- where n more are followed
      abbrev AreRenamed : ℕ → Record → Type 0
      AreRenamed n b =
          (bs : List Record) (name : Name) → IsAside p q name → follow origin rs asked n (map (owned p q) (b ∷ bs)) name ≡ renamed p q (follow origin rs asked n (b ∷ bs) name)

      -- and one more
      module _ (n : ℕ) (b : Record) (next : AreRenamed n b) (bs : List Record) (name : Name) (p' : name ≢ p) (q' : name ≢ q) where
        on : was_asked (b ∷ bs) name ≡ false → (r : Record) → Contains rs r → Some r ≡ alias_in (found_at origin rs name asked)
            → follow origin rs asked (suc n) (map (owned p q) (b ∷ bs)) name ≡ renamed p q (follow origin rs asked (suc n) (b ∷ bs) name)
        on e r here is =
            let x = answered_as name r in
            let t = target_of name r.rdata in
            let kept : owned p q x ≡ x = λ i. record r { owner = cond (name_other name p p' i) q name } in
            let rows : map (owned p q) (bs ++ x ∷ []) ≡ map (owned p q) bs ++ x ∷ [] =
            map-append (owned p q) bs (x ∷ []) ∙ ap (λ (y : Record). map (owned p q) bs ++ y ∷ []) kept in
            sym (follow_on origin rs asked (map (owned p q) (b ∷ bs)) name n r (asked_same name p' q' (b ∷ bs) ∙ e) is)
            ∙ ap (λ (ys : List Record). follow origin rs asked n (owned p q b ∷ ys) t) (sym rows)
            ∙ next (bs ++ x ∷ []) t (goes_aside name r.rdata r here refl (inr (p', q')))
            ∙ ap (renamed p q) (follow_on origin rs asked (b ∷ bs) name n r e is)

        ends : was_asked (b ∷ bs) name ≡ false → (found : Found) → found ≡ found_at origin rs name asked → None ≡ alias_in found
            → follow origin rs asked (suc n) (map (owned p q) (b ∷ bs)) name ≡ renamed p q (follow origin rs asked (suc n) (b ∷ bs) name)
        ends e found is none =
            sym (follow_ends origin rs asked (map (owned p q) (b ∷ bs)) name n found (asked_same name p' q' (b ∷ bs) ∙ e) is none)
            ∙ end_renamed (b ∷ bs) name found (in_same name found p') ∙ ap (renamed p q) (follow_ends origin rs asked (b ∷ bs) name n found e is none)

        by_found : was_asked (b ∷ bs) name ≡ false → (found : Found) → found ≡ found_at origin rs name asked → Finds origin rs name asked found
            → follow origin rs asked (suc n) (map (owned p q) (b ∷ bs)) name ≡ renamed p q (follow origin rs asked (suc n) (b ∷ bs) name)
        by_found e (Alias r) is finds = on e r finds.1.2.1 (ap alias_in is)
        by_found e found is finds = ends e found is refl

        by_asked : (t : Bool) → was_asked (b ∷ bs) name ≡ t
            → follow origin rs asked (suc n) (map (owned p q) (b ∷ bs)) name ≡ renamed p q (follow origin rs asked (suc n) (b ∷ bs) name)
        by_asked true e =
            sym (follow_again origin rs asked (map (owned p q) (b ∷ bs)) name n (asked_same name p' q' (b ∷ bs) ∙ e)) ∙ end_renamed (b ∷ bs) name Again refl
            ∙ ap (renamed p q) (follow_again origin rs asked (b ∷ bs) name n e)
        by_asked false e = by_found e (found_at origin rs name asked) refl (finds_is origin rs name asked one)

      one_renamed : (n : ℕ) (b : Record) → AreRenamed n b → AreRenamed (suc n) b
      one_renamed n b next bs name own = (elim own [
        | inl root ↦
            subst (λ (m : Name). follow origin rs asked (suc n) (map (owned p q) (b ∷ bs)) m ≡ renamed p q (follow origin rs asked (suc n) (b ∷ bs) m)) (sym root)
            (root_renamed (suc n) b bs)
        | inr other ↦ by_asked n b next bs name other.0 other.1 (was_asked (b ∷ bs) name) refl
      ])

      follow_renamed : (n : ℕ) (b : Record) → AreRenamed n b
      follow_renamed zero b bs name own =
          sym (follow_none origin rs asked (map (owned p q) (b ∷ bs)) name) ∙ end_renamed (b ∷ bs) name Again refl ∙ ap (renamed p q) (follow_none origin rs asked (b ∷ bs) name)
      follow_renamed (suc n) b bs name own = one_renamed n b (follow_renamed n b) bs name own

      -- ---- the first name

      first_same : (found : List Record) → map (answered_as q) found ≡ map (owned p q) (map (answered_as p) found)
      first_same [] = refl
      first_same (r ∷ found) = λ i. record r { owner = cond (sym (name_self p) i) q p } ∷ first_same found i

      pub first_renamed : (n : ℕ) (name : Name) (found : Found) → Finds origin rs name asked found
          → by_alias origin rs [] q (follow origin rs asked n) found (alias_in found) ≡ renamed p q (by_alias origin rs [] p (follow origin rs asked n) found (alias_in found))
      first_renamed n name (Alias r) finds =
          let target = cname_is r.rdata finds.1.2.3 in
          let to_q : target_of q r.rdata ≡ target.0 = ap (target_of q) target.1 in
          let to_p : target_of p r.rdata ≡ target.0 = ap (target_of p) target.1 in
          (λ i. follow origin rs asked n (record r { owner = cond (sym (name_self p) i) q p } ∷ []) (to_q i))
          ∙ follow_renamed n (answered_as p r) [] target.0 (aside r target.0 finds.1.2.1 target.1)
          ∙ ap (λ (t : Name). renamed p q (follow origin rs asked n (answered_as p r ∷ []) t)) (sym to_p)
      first_renamed n name (Listed found) finds = λ i. record {
        code = code_of true (Listed found);
        authoritative = authority_over true (Listed found);
        answer = first_same found i;
        authority = authority_in origin rs (Listed found);
        additional = additional_in rs (Listed found);
      }
      first_renamed n name found finds = refl

-- ---- answers

module _ (origin : Name) (rs : List Record) (asked : QueryType) (top : origin ≢ []) (one : HasOneAlias rs) (front : Name) (label : List ℕ) (encloser : Name)
    (gone : ¬ Exists rs (label ∷ encloser)) (inside : IsWithin (front ++ label ∷ encloser) origin)
    (never : (r : Record) → Contains rs r → ¬ (r.rdata ≡ variants.Cname (front ++ label ∷ encloser))) where
  there : AreAside rs [] (front ++ label ∷ encloser)
  there r [] here e = inl refl
  there r (l ∷ ls) here e = inr (λ f. absurd cc, λ f. never r here (e ∙ ap variants.Cname f))

  back : AreAside rs (front ++ label ∷ encloser) []
  back r [] here e = inl refl
  back r (l ∷ ls) here e = inr (λ f. never r here (e ∙ ap variants.Cname f), λ f. absurd cc)

  same : found_at origin rs (front ++ label ∷ encloser) asked ≡ found_under origin rs encloser asked
  same = found_same rs label encloser gone origin asked front inside

  finds : Finds origin rs (front ++ label ∷ encloser) asked (found_under origin rs encloser asked)
  finds = subst (Finds origin rs (front ++ label ∷ encloser) asked) same (finds_is origin rs (front ++ label ∷ encloser) asked one)

  -- the answer, by what is found below the encloser
  by_under : answer_to origin rs (front ++ label ∷ encloser) asked
      ≡ by_alias origin rs [] (front ++ label ∷ encloser) (follow origin rs asked (1 + length rs)) (found_under origin rs encloser asked) (alias_in (found_under origin rs encloser asked))
  by_under =
      let more : 2 + length rs ≡ suc (1 + length rs) = omega arith in
      ap (λ (n : ℕ). follow origin rs asked n [] (front ++ label ∷ encloser)) more ∙ first_step origin rs asked (1 + length rs) (front ++ label ∷ encloser)
      ∙ ap (λ (f : Found). by_alias origin rs [] (front ++ label ∷ encloser) (follow origin rs asked (1 + length rs)) f (alias_in f)) same

  pub to_under : answer_to origin rs (front ++ label ∷ encloser) asked ≡ renamed [] (front ++ label ∷ encloser) (answer_under origin rs encloser asked)
  to_under = by_under ∙ first_renamed origin rs [] (front ++ label ∷ encloser) asked top one there (1 + length rs) (front ++ label ∷ encloser) (found_under origin rs encloser asked) finds

  pub from_under : answer_under origin rs encloser asked ≡ renamed (front ++ label ∷ encloser) [] (answer_to origin rs (front ++ label ∷ encloser) asked)
  from_under =
      first_renamed origin rs (front ++ label ∷ encloser) [] asked top one back (1 + length rs) (front ++ label ∷ encloser) (found_under origin rs encloser asked) finds
      ∙ ap (renamed (front ++ label ∷ encloser) []) (sym by_under)

-- ---- two names below one encloser

module _ (origin : Name) (rs : List Record) (asked : QueryType) (top : origin ≢ []) (one : HasOneAlias rs) (encloser : Name)
    (front : Name) (label : List ℕ) (gone : ¬ Exists rs (label ∷ encloser)) (inside : IsWithin (front ++ label ∷ encloser) origin)
    (never : (r : Record) → Contains rs r → ¬ (r.rdata ≡ variants.Cname (front ++ label ∷ encloser)))
    (front' : Name) (label' : List ℕ) (gone' : ¬ Exists rs (label' ∷ encloser)) (inside' : IsWithin (front' ++ label' ∷ encloser) origin)
    (never' : (r : Record) → Contains rs r → ¬ (r.rdata ≡ variants.Cname (front' ++ label' ∷ encloser))) where
  both_aside : AreAside rs (front ++ label ∷ encloser) (front' ++ label' ∷ encloser)
  both_aside r [] here e = inl refl
  both_aside r (l ∷ ls) here e = inr (λ f. never r here (e ∙ ap variants.Cname f), λ f. never' r here (e ∙ ap variants.Cname f))

  pub alike : answer_to origin rs (front' ++ label' ∷ encloser) asked
      ≡ renamed (front ++ label ∷ encloser) (front' ++ label' ∷ encloser) (answer_to origin rs (front ++ label ∷ encloser) asked)
  alike =
      by_under origin rs asked top one front' label' encloser gone' inside' never'
      ∙ first_renamed origin rs (front ++ label ∷ encloser) (front' ++ label' ∷ encloser) asked top one both_aside (1 + length rs) (front ++ label ∷ encloser) (found_under origin rs encloser asked)
      (finds origin rs asked top one front label encloser gone inside never)
      ∙ ap (renamed (front ++ label ∷ encloser) (front' ++ label' ∷ encloser)) (sym (by_under origin rs asked top one front label encloser gone inside never))
