-- What is found for a name is what the definition has.
use Rattle.std.proofs.Common.{◌≡◌, List, [], ◌∷◌, Bool, true, false, cond, ◌&&◌, Option, Some, None, refl, sym, ap, subst, ◌∙◌, inl}
use Rattle.std.specs.List.{filter}
use Rattle.std.proofs.lemmas.Bool.{and_parts, false_from_ne_true}
use Rattle.dns_names.specs.Labels.{IsWithin, is_within}
use Rattle.dns_names.specs.Order.{same_name}
use Rattle.dns_names.proofs.NameLemmas.{is_within-Decides}
use Rattle.dns_data.specs.declared.record.Record.{Record}
use Rattle.dns_data.specs.declared.record_type.RecordType.TheVariants as types
use Rattle.dns_data.specs.Rdata.{type_of}
use Rattle.dns_data.proofs.RecordOrderLemmas.{one_rank}
use Rattle.zone_core.specs.Sets.{key_of, rank_of, at}
use Rattle.zone_core.specs.Zones.{first_of}
use Rattle.zone_core.proofs.SetLemmas.{name_is, name_self}
use Rattle.zone_core.proofs.ZoneLemmas.{at_is, at_has, both_true}
use Rattle.zone_core.proofs.MetLemmas.{Among, among_of, of_among}
use Rattle.zone_core.proofs.BelowLemmas.{no_test}
use Rattle.zone_answers.specs.declared.query_type.QueryType.{QueryType}
use Rattle.zone_answers.specs.declared.query_type.QueryType.TheVariants.{Kept}
use Rattle.zone_answers.specs.Answers.{Name, IsSourceOf, IsReferred, IsOwn, asks_alias, IsFollowed, Found, Outside, Delegated, Missing, Alias, Listed, Again, Finds}
use Rattle.zone_answers.specs.AnswerTests.{cut_over, is_ds, unless_parent, referral, source_of, followed_at, found_by, found_from, found_below, found_at}
use Rattle.zone_answers.proofs.SourceLemmas.{source_is, is_source, no_source, among_filter}
use Rattle.zone_answers.proofs.CutLemmas.{IsOver, over_is, is_over}

pub none_of : {X : Type 0} (o : Option X) → ((x : X) → o ≡ Some x → ⊥) → o ≡ None
none_of None never = refl
none_of (Some x) never = absurd (never x refl)

first_some : (xs : List Record) (r : Record) → first_of xs ≡ Some r → Among r xs
first_some [] r e = absurd cc
first_some (x ∷ xs) r e = let same : x ≡ r = cc in inl (sym same)

some_first : (xs : List Record) (r : Record) → Among r xs → (s : Record) × (first_of xs ≡ Some s)
some_first [] r a = absurd a
some_first (x ∷ xs) r a = (x, refl)

ds_is : (asked : QueryType) → is_ds asked ≡ true → asked ≡ Kept types.Ds
ds_is (Kept types.Ds) e = refl
ds_is asked e = absurd cc

-- a name has one alias only
abbrev pub HasOneAlias : List Record → Type 0
HasOneAlias rs = (r s : Record) → Among r rs → Among s rs → type_of r.rdata ≡ types.Cname → s.owner ≡ r.owner → s ≡ r

-- ---- aliases that are followed

module _ (rs : List Record) (name : Name) (asked : QueryType) where
  there_is : (r : Record) → Among r (filter (λ r. at name types.Cname (key_of r)) rs) → Among r rs × (r.owner ≡ name) × (type_of r.rdata ≡ types.Cname)
  there_is r a =
      let both = (among_filter (λ r. at name types.Cname (key_of r)) rs r).0 a in
      let is = at_is name types.Cname (key_of r) both.1 in
      (both.0, is.0, one_rank (type_of r.rdata) types.Cname is.1)

  pub followed_is : (r : Record) → followed_at rs name asked ≡ Some r → IsFollowed rs name asked r
  followed_is r e = by_test (asks_alias asked) refl e
    where
      by_test : (b : Bool) → asks_alias asked ≡ b → cond b None (first_of (filter (λ r. at name types.Cname (key_of r)) rs)) ≡ Some r → IsFollowed rs name asked r
      by_test true t f = absurd cc
      by_test false t f =
          let is = there_is r (first_some (filter (λ r. at name types.Cname (key_of r)) rs) r f) in
          (t, of_among rs r is.0, is.1, is.2)

  pub is_followed : HasOneAlias rs → (r : Record) → IsFollowed rs name asked r → followed_at rs name asked ≡ Some r
  is_followed one r f =
      let own = among_of rs r f.1 in
      let here = (among_filter (λ r. at name types.Cname (key_of r)) rs r).1 (own, at_has name types.Cname (key_of r) f.2 (ap rank_of f.3)) in
      let first = some_first (filter (λ r. at name types.Cname (key_of r)) rs) r here in
      let is = there_is first.0 (first_some (filter (λ r. at name types.Cname (key_of r)) rs) first.0 first.1) in
      let same : first.0 ≡ r = one r first.0 own is.0 f.3 (is.1 ∙ sym f.2) in
      ap (λ b. cond b None (first_of (filter (λ r. at name types.Cname (key_of r)) rs))) f.0 ∙ first.1 ∙ ap Some same

module _ (origin : Name) (rs : List Record) (name : Name) (asked : QueryType) where
  -- ---- referrals

  pub referral_is : (cut : Name) → referral origin rs name asked ≡ Some cut → IsReferred origin rs name asked cut
  referral_is cut e = by_cut (cut_over origin rs name) (over_is origin rs name) e
    where
      by_cut : (o : Option Name) → IsOver origin rs name o → unless_parent name asked o ≡ Some cut → IsReferred origin rs name asked cut
      by_cut None none f = absurd cc
      by_cut (Some c) is f = by_test (is_ds asked && same_name name c) refl f
        where
          by_test : (b : Bool) → (is_ds asked && same_name name c) ≡ b → cond b None (Some c) ≡ Some cut → IsReferred origin rs name asked cut
          by_test true t g = absurd cc
          by_test false t g =
              let same : c ≡ cut = cc in
              subst (IsReferred origin rs name asked) same (
                is,
                λ both.
                    no_test (is_ds asked && same_name name c)
                    (both_true (is_ds asked) (same_name name c) (ap is_ds both.1) (ap (λ (n : Name). same_name n c) both.0 ∙ name_self c)) t,
              )

  pub is_referred : (cut : Name) → IsReferred origin rs name asked cut → referral origin rs name asked ≡ Some cut
  is_referred cut is =
      let over : Some cut ≡ cut_over origin rs name = is_over origin rs name (Some cut) is.0 in
      let not_ds : (is_ds asked && same_name name cut) ≡ false = false_from_ne_true (is_ds asked && same_name name cut) (λ t.
      let both = and_parts (is_ds asked) (same_name name cut) t in
      is.1 (name_is name cut both.1, ds_is asked both.0)) in
      ap (unless_parent name asked) (sym over) ∙ ap (λ b. cond b None (Some cut)) not_ds

  own_below : IsOwn origin rs name asked → found_at origin rs name asked ≡ found_from rs asked (source_of rs name)
  own_below own =
      let inside : is_within name origin ≡ true = (is_within-Decides name origin).1 own.0 in
      let none : referral origin rs name asked ≡ None = none_of (referral origin rs name asked) (λ cut e. own.1 cut (referral_is cut e)) in
      ap (λ b. cond b (found_below rs name asked (referral origin rs name asked)) Outside) inside ∙ ap (found_below rs name asked) none

  -- ---- what is found

  pub finds_one : HasOneAlias rs → (found : Found) → Finds origin rs name asked found → found ≡ found_at origin rs name asked
  finds_one one Outside outside =
      let gone : is_within name origin ≡ false = false_from_ne_true (is_within name origin) (λ t. outside ((is_within-Decides name origin).0 t)) in
      sym (ap (λ b. cond b (found_below rs name asked (referral origin rs name asked)) Outside) gone)
  finds_one one (Delegated cut) is =
      let inside : is_within name origin ≡ true = (is_within-Decides name origin).1 is.0 in
      sym (ap (λ b. cond b (found_below rs name asked (referral origin rs name asked)) Outside) inside ∙ ap (found_below rs name asked) (is_referred cut is.1))
  finds_one one Missing is =
      let none : source_of rs name ≡ None = none_of (source_of rs name) (λ s e. is.1 s (source_is rs name s e)) in
      sym (own_below is.0 ∙ ap (found_from rs asked) none)
  finds_one one (Alias r) is =
      let source = is.1.0 in
      sym (own_below is.0 ∙ ap (found_from rs asked) (is_source rs name source is.1.1) ∙ ap (found_by rs source asked) (is_followed rs source asked one r is.1.2))
  finds_one one (Listed found) is =
      let source = is.1.0 in
      let none : followed_at rs source asked ≡ None = none_of (followed_at rs source asked) (λ r e. is.1.2 r (followed_is rs source asked r e)) in
      sym (own_below is.0 ∙ ap (found_from rs asked) (is_source rs name source is.1.1) ∙ ap (found_by rs source asked) none ∙ ap Listed (sym is.1.3))
  finds_one one Again is = absurd is

  pub finds_is : HasOneAlias rs → Finds origin rs name asked (found_at origin rs name asked)
  finds_is one = by_origin (is_within name origin) refl
    where
      by_alias : IsOwn origin rs name asked → (source : Name) → IsSourceOf rs name source → (o : Option Record) → followed_at rs source asked ≡ o
          → Finds origin rs name asked (found_by rs source asked o)
      by_alias own source is None e = (own, (source, is, λ r f. (let g : None ≡ Some r = sym e ∙ is_followed rs source asked one r f in cc), refl))
      by_alias own source is (Some r) e = (own, (source, is, followed_is rs source asked r e))

      by_source : IsOwn origin rs name asked → (o : Option Name) → source_of rs name ≡ o → Finds origin rs name asked (found_from rs asked o)
      by_source own None e = (own, no_source rs name e)
      by_source own (Some source) e = by_alias own source (source_is rs name source e) (followed_at rs source asked) refl

      by_referral : IsWithin name origin → (o : Option Name) → referral origin rs name asked ≡ o → Finds origin rs name asked (found_below rs name asked o)
      by_referral inside None e =
          by_source (inside, λ cut is. (let f : None ≡ Some cut = sym e ∙ is_referred cut is in cc)) (source_of rs name) refl
      by_referral inside (Some cut) e = (inside, referral_is cut e)

      by_origin : (b : Bool) → is_within name origin ≡ b → Finds origin rs name asked (cond b (found_below rs name asked (referral origin rs name asked)) Outside)
      by_origin true t = by_referral ((is_within-Decides name origin).0 t) (referral origin rs name asked) refl
      by_origin false t = λ inside. no_test (is_within name origin) ((is_within-Decides name origin).1 inside) t
