-- The name whose records answer.
use Rattle.std.proofs.Common.{◌≡◌, ◌↔◌, ℕ, ◌≤◌, List, [], ◌∷◌, ◌++◌, Bool, true, false, cond, Option, Some, None, Ok, Err, nat_lt, refl, sym, ap, subst, ◌∙◌, arith, inl, inr}
use Rattle.std.specs.Bool.{Decides}
use Rattle.std.specs.List.{Contains, filter}
use Rattle.std.proofs.lemmas.Bool.{false_from_ne_true}
use Rattle.std.proofs.lemmas.Bool.Decides.{nat_tests}
use Rattle.dns_names.specs.Labels.{is_within, wire_len}
use Rattle.dns_names.specs.Reading.{relative_name, symbols_within, fitting}
use Rattle.dns_names.specs.declared.name_fault.NameFault.TheVariants.{NameTooLong}
use Rattle.dns_names.proofs.NameLemmas.{is_within-Decides}
use Rattle.dns_data.specs.declared.record.Record.{Record}
use Rattle.zone_core.proofs.MetLemmas.{Among, among_of, of_among, any_is, is_any}
use Rattle.zone_core.proofs.BelowLemmas.{no_test, within_within}
use Rattle.zone_answers.specs.Answers.{Name, asterisk, Exists, IsWildcardOver, IsSourceOf}
use Rattle.zone_answers.specs.AnswerTests.{is_there, wildcard_over, if_there, source_of}

-- ---- reading a wildcard

-- it is read unless it is too long
wildcard_text : (encloser : Name) → relative_name encloser (42 ∷ []) ≡ fitting (asterisk ∷ encloser)
unfolding symbols_within
wildcard_text encloser = refl

pub wildcard_is_read : (encloser name : Name) → relative_name encloser (42 ∷ []) ≡ Ok name → name ≡ asterisk ∷ encloser
wildcard_is_read encloser name e = by_test (nat_lt 255 (wire_len (asterisk ∷ encloser))) (sym (wildcard_text encloser) ∙ e)
  where
    by_test : (b : Bool) → cond b (Err NameTooLong) (Ok (asterisk ∷ encloser)) ≡ Ok name → name ≡ asterisk ∷ encloser
    by_test true f = absurd cc
    by_test false f = (let same : asterisk ∷ encloser ≡ name = cc in sym same)

wildcard_long : (encloser : Name) → relative_name encloser (42 ∷ []) ≡ Err NameTooLong → nat_lt 255 (wire_len (asterisk ∷ encloser)) ≡ true
wildcard_long encloser e = by_test (nat_lt 255 (wire_len (asterisk ∷ encloser))) refl (sym (wildcard_text encloser) ∙ e)
  where
    by_test : (b : Bool) → nat_lt 255 (wire_len (asterisk ∷ encloser)) ≡ b → cond b (Err NameTooLong) (Ok (asterisk ∷ encloser)) ≡ Err NameTooLong
        → nat_lt 255 (wire_len (asterisk ∷ encloser)) ≡ true
    by_test true t f = t
    by_test false t f = absurd cc

above_all : (n : ℕ) → nat_lt 255 n ≡ true → n ≤ 255 → ⊥
above_all n e le = grind (arith, nat_tests)

-- a name with more labels is no shorter
wire_more : (front name : Name) → wire_len name ≤ wire_len (front ++ name)
wire_more [] name = omega arith
wire_more (label ∷ front) name = omega (arith, wire_more front name)

-- ---- names that exist

module _ (rs : List Record) where
  pub there-Decides : (name : Name) → Decides (is_there rs name) (Exists rs name)
  there-Decides name = (
    λ e. let found = any_is (λ r. is_within r.owner name) rs e in (found.0, of_among rs found.0 found.1, (is_within-Decides found.0.owner name).0 found.2),
    λ has. is_any (λ r. is_within r.owner name) rs has.0 (among_of rs has.0 has.1) ((is_within-Decides has.0.owner name).1 has.2),
  )

  -- a wildcard that is too long for a name does not exist
  pub long_is_not : ((r : Record) → Contains rs r → wire_len r.owner ≤ 255) → (encloser : Name) → relative_name encloser (42 ∷ []) ≡ Err NameTooLong
      → None ≡ if_there rs (Some (asterisk ∷ encloser))
  long_is_not short encloser e =
      let long : nat_lt 255 (wire_len (asterisk ∷ encloser)) ≡ true = wildcard_long encloser e in
      let gone : is_there rs (asterisk ∷ encloser) ≡ false =
      false_from_ne_true (is_there rs (asterisk ∷ encloser)) (λ t.
      let has = (there-Decides (asterisk ∷ encloser)).0 t in
      let fits : wire_len has.0.owner ≤ 255 = short has.0 has.1 in
      let more : wire_len (asterisk ∷ encloser) ≤ wire_len (has.2.0 ++ asterisk ∷ encloser) = wire_more has.2.0 (asterisk ∷ encloser) in
      let same : wire_len has.0.owner ≡ wire_len (has.2.0 ++ asterisk ∷ encloser) = ap wire_len has.2.1 in
      above_all (wire_len (asterisk ∷ encloser)) long (omega (arith, fits, more, same))) in
      sym (ap (λ b. cond b (Some (asterisk ∷ encloser)) None) gone)

  -- above what exists all exists
  pub exists_above : (name : Name) (front : Name) (above : Name) → name ≡ front ++ above → Exists rs name → Exists rs above
  exists_above name front above e has = (has.0, has.1, within_within has.0.owner name above has.2 (front, e))

  wildcard_is : (name w : Name) → ¬ Exists rs name → wildcard_over rs name ≡ Some w → IsWildcardOver rs name w
  wildcard_is [] w none e = absurd cc
  wildcard_is (label ∷ labels) w none e = by_test (is_there rs labels) refl e (wildcard_is labels w)
    where
      by_test : (b : Bool) → is_there rs labels ≡ b → cond b (Some (asterisk ∷ labels)) (wildcard_over rs labels) ≡ Some w
          → (¬ Exists rs labels → wildcard_over rs labels ≡ Some w → IsWildcardOver rs labels w) → IsWildcardOver rs (label ∷ labels) w
      by_test true t f later = ([], label, labels, refl, (there-Decides labels).0 t, none, (let same : asterisk ∷ labels ≡ w = cc in sym same))
      by_test false t f later =
          let found = later (λ has. no_test (is_there rs labels) ((there-Decides labels).1 has) t) f in
          (label ∷ found.0, found.1, found.2, ap (λ (n : Name). label ∷ n) found.3, found.4, found.5, found.6)

  pub is_wildcard : (name w : Name) → IsWildcardOver rs name w → wildcard_over rs name ≡ Some w
  is_wildcard name w over = by_front name over.0 over.3
    where
      encloser : Name
      encloser = over.2

      by_front : (name front : Name) → name ≡ front ++ over.1 ∷ over.2 → wildcard_over rs name ≡ Some w
      by_front [] [] e = absurd cc
      by_front [] (f ∷ front) e = absurd cc
      by_front (label ∷ labels) [] e =
          let same : labels ≡ over.2 = cc in
          let there : is_there rs labels ≡ true = ap (is_there rs) same ∙ (there-Decides over.2).1 over.4 in
          ap (λ b. cond b (Some (asterisk ∷ labels)) (wildcard_over rs labels)) there ∙ ap (λ (n : Name). Some (asterisk ∷ n)) same ∙ ap Some (sym over.6)
      by_front (label ∷ labels) (f ∷ front) e =
          let same : labels ≡ front ++ over.1 ∷ over.2 = cc in
          let gone : is_there rs labels ≡ false = not_there labels front same in
          ap (λ b. cond b (Some (asterisk ∷ labels)) (wildcard_over rs labels)) gone ∙ by_front labels front same
        where
          not_there : (labels front : Name) → labels ≡ front ++ over.1 ∷ over.2 → is_there rs labels ≡ false
          not_there labels front same = by_test (is_there rs labels) refl
            where
              by_test : (b : Bool) → is_there rs labels ≡ b → is_there rs labels ≡ false
              by_test false t = t
              by_test true t = absurd (over.5 (exists_above labels front (over.1 ∷ over.2) same ((there-Decides labels).0 t)))

  -- ---- the source

  if_some : (o : Option Name) (source : Name) → if_there rs o ≡ Some source → (o ≡ Some source) × Exists rs source
  if_some None source e = absurd cc
  if_some (Some name) source e = by_test (is_there rs name) refl e
    where
      by_test : (b : Bool) → is_there rs name ≡ b → cond b (Some name) None ≡ Some source → (Some name ≡ Some source) × Exists rs source
      by_test true t f = let same : name ≡ source = cc in (f, subst (Exists rs) same ((there-Decides name).0 t))
      by_test false t f = absurd cc

  pub source_is : (name source : Name) → source_of rs name ≡ Some source → IsSourceOf rs name source
  source_is name source e = by_test (is_there rs name) refl e
    where
      by_test : (b : Bool) → is_there rs name ≡ b → cond b (Some name) (if_there rs (wildcard_over rs name)) ≡ Some source → IsSourceOf rs name source
      by_test true t f = let same : name ≡ source = cc in (subst (Exists rs) same ((there-Decides name).0 t), inl (sym same))
      by_test false t f =
          let none = λ (has : Exists rs name). no_test {P = ⊥} (is_there rs name) ((there-Decides name).1 has) t in
          let both = if_some (wildcard_over rs name) source f in
          (both.1, inr (none, wildcard_is name source none both.0))

  pub is_source : (name source : Name) → IsSourceOf rs name source → source_of rs name ≡ Some source
  is_source name source is = (elim (is.1) [ inl same ↦ own same | inr over ↦ other over ])
    where
      own : source ≡ name → source_of rs name ≡ Some source
      own same =
          let there : is_there rs name ≡ true = ap (is_there rs) (sym same) ∙ (there-Decides source).1 is.0 in
          ap (λ b. cond b (Some name) (if_there rs (wildcard_over rs name))) there ∙ ap Some (sym same)

      other : ¬ Exists rs name × IsWildcardOver rs name source → source_of rs name ≡ Some source
      other over =
          let gone : is_there rs name ≡ false = false_from_ne_true (is_there rs name) (λ t. over.0 ((there-Decides name).0 t)) in
          ap (λ b. cond b (Some name) (if_there rs (wildcard_over rs name))) gone ∙ ap (if_there rs) (is_wildcard name source over.1)
          ∙ ap (λ b. cond b (Some source) None) ((there-Decides source).1 is.0)

  pub no_source : (name : Name) → source_of rs name ≡ None → (source : Name) → ¬ IsSourceOf rs name source
  no_source name e source is = let f : None ≡ Some source = sym e ∙ is_source name source is in cc

-- ---- filters

pub among_filter : (p : Record → Bool) (xs : List Record) (r : Record) → Among r (filter p xs) ↔ (Among r xs × (p r ≡ true))
among_filter p [] r = (λ a. absurd a, λ a. absurd a.0)
among_filter p (x ∷ xs) r = by_test (p x) refl (among_filter p xs r)
  where
    by_test : (b : Bool) → p x ≡ b → Among r (filter p xs) ↔ (Among r xs × (p r ≡ true)) → Among r (cond b (x ∷ filter p xs) (filter p xs)) ↔ (Among r (x ∷ xs) × (p r ≡ true))
    by_test true e rest = (
      λ a. (elim a [ inl same ↦ (inl same, ap p same ∙ e) | inr later ↦ (let found = rest.0 later in (inr found.0, found.1)) ]),
      λ both. (elim (both.0) [ inl same ↦ inl same | inr later ↦ inr (rest.1 (later, both.1)) ]),
    )
    by_test false e rest = (
      λ a. let found = rest.0 a in (inr found.0, found.1),
      λ both. (elim (both.0) [ inl same ↦ (let c : true ≡ false = sym both.1 ∙ ap p same ∙ e in absurd cc) | inr later ↦ rest.1 (later, both.1) ]),
    )
