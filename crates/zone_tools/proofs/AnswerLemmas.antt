-- The records that answer for a name.
use Rattle.std.proofs.Common.{◌≡◌, ◌↔◌, ◌+◌, ◌≤◌, List, [], ◌∷◌, ◌++◌, Bool, true, false, cond, Option, Some, None, Ok, nat_lt, refl, sym, ap, subst, ◌∙◌, arith, inl, inr}
use Rattle.std.specs.Bool.{Decides}
use Rattle.std.specs.List.{Contains, filter}
use Rattle.std.proofs.lemmas.Bool.Decides.{nat_tests}
use Rattle.dns_names.specs.Labels.{is_within, wire_len}
use Rattle.dns_names.specs.Reading.{relative_name, symbols_within}
use Rattle.dns_names.proofs.NameLemmas.{same_name-Decides, is_within-Decides}
use Rattle.dns_data.specs.declared.record.Record.{Record}
use Rattle.dns_data.specs.declared.record_type.RecordType.{RecordType}
use Rattle.dns_data.specs.Rdata.{type_of}
use Rattle.zone_core.specs.Sets.{key_of}
use Rattle.zone_core.specs.Sets as sets
use Rattle.zone_core.proofs.MetLemmas.{Among, among_of, of_among, any_is, is_any}
use Rattle.zone_core.proofs.BelowLemmas.{Name, no_test, within_within}
use Rattle.zone_tools.specs.ZoneRules.{asterisk, Exists, IsWildcardOver, IsSourceOf, AnswersWith}
use Rattle.zone_tools.specs.ZoneTests.{records_at, some_type, is_there, wildcard_over, records_from, answering}

-- ---- wildcards

pub wildcard_read : (encloser : Name) → wire_len encloser + 2 ≤ 255 → relative_name encloser (42 ∷ []) ≡ Ok (asterisk ∷ encloser)
unfolding symbols_within
wildcard_read encloser room =
    let fits : nat_lt 255 (1 + 1 + wire_len encloser) ≡ false = grind (arith, nat_tests) in
    rw fits refl

module _ (rs : List Record) where
  pub there-Decides : (name : Name) → Decides (is_there rs name) (Exists rs name)
  there-Decides name = (
    λ e. let found = any_is (λ r. is_within r.owner name) rs e in (found.0, of_among rs found.0 found.1, (is_within-Decides found.0.owner name).0 found.2),
    λ has. is_any (λ r. is_within r.owner name) rs has.0 (among_of rs has.0 has.1) ((is_within-Decides has.0.owner name).1 has.2),
  )

  -- above what exists all exists
  exists_above : (name : Name) (front : Name) (above : Name) → name ≡ front ++ above → Exists rs name → Exists rs above
  exists_above name front above e has = (has.0, has.1, within_within has.0.owner name above has.2 (front, e))

  wildcard_is : (name w : Name) → ¬ Exists rs name → wildcard_over rs name ≡ Some w → IsWildcardOver rs name w
  wildcard_is [] w none e = absurd cc
  wildcard_is (label ∷ labels) w none e = by_test (is_there rs labels) refl e (wildcard_is labels w)
    where
      by_test : (b : Bool) → is_there rs labels ≡ b → cond b (Some (asterisk ∷ labels)) (wildcard_over rs labels) ≡ Some w
          → (¬ Exists rs labels → wildcard_over rs labels ≡ Some w → IsWildcardOver rs labels w) → IsWildcardOver rs (label ∷ labels) w
      by_test true t f later = ([], label, labels, refl, (there-Decides labels).0 t, none, (let same : asterisk ∷ labels ≡ w = cc in sym same))
      by_test false t f later =
          let found = later (λ has. no_test (is_there rs labels) ((there-Decides labels).1 has) t) f in
          (label ∷ found.0, found.1, found.2, ap (λ (n : Name). label ∷ n) found.3, found.4, found.5, found.6)

  is_wildcard : (name w : Name) → IsWildcardOver rs name w → wildcard_over rs name ≡ Some w
  is_wildcard name w over = by_front name over.0 over.3
    where
      encloser : Name
      encloser = over.2

      by_front : (name front : Name) → name ≡ front ++ over.1 ∷ over.2 → wildcard_over rs name ≡ Some w
      by_front [] [] e = absurd cc
      by_front [] (f ∷ front) e = absurd cc
      by_front (label ∷ labels) [] e =
          let same : labels ≡ over.2 = cc in
          let there : is_there rs labels ≡ true = ap (is_there rs) same ∙ (there-Decides over.2).1 over.4 in
          ap (λ b. cond b (Some (asterisk ∷ labels)) (wildcard_over rs labels)) there ∙ ap (λ (n : Name). Some (asterisk ∷ n)) same ∙ ap Some (sym over.6)
      by_front (label ∷ labels) (f ∷ front) e =
          let same : labels ≡ front ++ over.1 ∷ over.2 = cc in
          let gone : is_there rs labels ≡ false = not_there labels front same in
          ap (λ b. cond b (Some (asterisk ∷ labels)) (wildcard_over rs labels)) gone ∙ by_front labels front same
        where
          not_there : (labels front : Name) → labels ≡ front ++ over.1 ∷ over.2 → is_there rs labels ≡ false
          not_there labels front same = by_test (is_there rs labels) refl
            where
              by_test : (b : Bool) → is_there rs labels ≡ b → is_there rs labels ≡ false
              by_test false t = t
              by_test true t = absurd (over.5 (exists_above labels front (over.1 ∷ over.2) same ((there-Decides labels).0 t)))

  -- what exists is its own source
  own_source : (name source : Name) → Exists rs name → IsSourceOf rs name source → source ≡ name
  own_source name source has is = (elim is [ inl own ↦ own.1 | inr over ↦ absurd (over.5 (exists_above name over.0 (over.1 ∷ over.2) over.3 has)) ])

  pub among_filter : (p : Record → Bool) (xs : List Record) (r : Record) → Among r (filter p xs) ↔ (Among r xs × (p r ≡ true))
  among_filter p [] r = (λ a. absurd a, λ a. absurd a.0)
  among_filter p (x ∷ xs) r = by_test (p x) refl (among_filter p xs r)
    where
      by_test : (b : Bool) → p x ≡ b → Among r (filter p xs) ↔ (Among r xs × (p r ≡ true)) → Among r (cond b (x ∷ filter p xs) (filter p xs)) ↔ (Among r (x ∷ xs) × (p r ≡ true))
      by_test true e rest = (
        λ a. (elim a [ inl same ↦ (inl same, ap p same ∙ e) | inr later ↦ (let found = rest.0 later in (inr found.0, found.1)) ]),
        λ both. (elim (both.0) [ inl same ↦ inl same | inr later ↦ inr (rest.1 (later, both.1)) ]),
      )
      by_test false e rest = (
        λ a. let found = rest.0 a in (inr found.0, found.1),
        λ both. (elim (both.0) [ inl same ↦ (let c : true ≡ false = sym both.1 ∙ ap p same ∙ e in absurd cc) | inr later ↦ rest.1 (later, both.1) ]),
      )

  module _ (test : RecordType → Bool) (P : RecordType → Type 0) (tells : (s : RecordType) → Decides (test s) (P s)) where
    -- some record at a name has a type that passes a test
    pub some_type-Decides : (name : Name) → Decides (some_type test (records_at rs name)) ((r : Record) × Contains rs r × (r.owner ≡ name) × P (type_of r.rdata))
    some_type-Decides name = (
      λ e.
          let found = any_is (λ r. test (type_of r.rdata)) (records_at rs name) e in
          let there = (among_filter (λ r. sets.at_name name (key_of r)) rs found.0).0 found.1 in
          (found.0, of_among rs found.0 there.0, (same_name-Decides found.0.owner name).0 there.1, (tells (type_of found.0.rdata)).0 found.2),
      λ has.
          let r = has.0 in
          is_any (λ r. test (type_of r.rdata)) (records_at rs name) r
          ((among_filter (λ r. sets.at_name name (key_of r)) rs r).1 (among_of rs r has.1, (same_name-Decides r.owner name).1 has.2)) ((tells (type_of r.rdata)).1 has.3),
    )

    -- some record that answers for a name does
    pub answers-Decides : (name : Name) → Decides (some_type test (answering rs name)) (AnswersWith P rs name)
    answers-Decides name = by_test (is_there rs name) refl
      where
        by_test : (b : Bool) → is_there rs name ≡ b → Decides (some_type test (cond b (records_at rs name) (records_from rs (wildcard_over rs name)))) (AnswersWith P rs name)
        by_test true t =
            let has = (there-Decides name).0 t in (
              λ e. let r = (some_type-Decides name).0 e in (r.0, r.1, inl (has, r.2), r.3),
              λ a. (some_type-Decides name).1 (a.0, a.1, own_source name a.0.owner has a.2, a.3),
            )
        by_test false t = by_wildcard (wildcard_over rs name) refl
          where
            none : ¬ Exists rs name
            none has = no_test (is_there rs name) ((there-Decides name).1 has) t

            over : (source : Name) → IsSourceOf rs name source → IsWildcardOver rs name source
            over source is = (elim is [ inl own ↦ absurd (none own.0) | inr w ↦ w ])

            by_wildcard : (o : Option Name) → wildcard_over rs name ≡ o → Decides (some_type test (records_from rs o)) (AnswersWith P rs name)
            by_wildcard None e = (
              λ f. absurd cc,
              λ a. absurd (let f : None ≡ Some a.0.owner = sym e ∙ is_wildcard name a.0.owner (over a.0.owner a.2) in cc),
            )
            by_wildcard (Some w) e = (
              λ f. let r = (some_type-Decides w).0 f in (r.0, r.1, inr (subst (IsWildcardOver rs name) (sym r.2) (wildcard_is name w none e)), r.3),
              λ a.
                  let same : a.0.owner ≡ w = (let f : Some w ≡ Some a.0.owner = sym e ∙ is_wildcard name a.0.owner (over a.0.owner a.2) in let g : w ≡ a.0.owner = cc in sym g) in
                  (some_type-Decides w).1 (a.0, a.1, same, a.3),
            )

  -- a name with a record answers by its own
  pub own_answers : (test : RecordType → Bool) (name : Name) → some_type test (records_at rs name) ≡ true → answering rs name ≡ records_at rs name
  own_answers test name e =
      let found = any_is (λ r. test (type_of r.rdata)) (records_at rs name) e in
      let there = (among_filter (λ r. sets.at_name name (key_of r)) rs found.0).0 found.1 in
      let at = (same_name-Decides found.0.owner name).0 there.1 in
      let has : is_there rs name ≡ true = (there-Decides name).1 (found.0, of_among rs found.0 there.0, ([], at)) in
      ap (λ b. cond b (records_at rs name) (records_from rs (wildcard_over rs name))) has
