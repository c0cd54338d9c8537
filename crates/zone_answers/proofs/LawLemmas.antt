-- What is true of answers.
use Rattle.std.proofs.Common.{◌≡◌, List, [], ◌∷◌, ◌++◌, map, Option, Some, None, Result, Ok, Err, IfOk, refl, sym, ap, subst, ◌∙◌, inl, inr}
use Rattle.std.specs.List.{AllByRecursion, Contains, flat_map}
use Rattle.std.specs.FinMap.{find}
use Rattle.dns_names.specs.Labels.{IsWithin}
use Rattle.dns_data.specs.declared.record.Record.{Record}
use Rattle.dns_data.specs.declared.record_type.RecordType.{RecordType}
use Rattle.dns_data.specs.declared.record_type.RecordType.TheVariants as types
use Rattle.dns_data.specs.declared.rdata.Data.{Data}
use Rattle.dns_data.specs.declared.rdata.Data.TheVariants as variants
use Rattle.dns_data.specs.Rdata.{type_of}
use Rattle.dns_data.proofs.RecordOrderLemmas.{one_rank}
use Rattle.zone_core.specs.declared.rcode.Rcode.TheVariants.{NxDomain}
use Rattle.zone_core.specs.Sets.{key_of, key_cmp, keyed, at, at_name, Records, set_of, listing, IsIn, InOrder}
use Rattle.zone_core.specs.Zones.{ZoneOf, IsZone}
use Rattle.zone_core.specs.Delegations.{IsCutAt}
use Rattle.zone_core.specs.Views.{AreOfZone}
use Rattle.zone_core.proofs.SetLemmas.{name_is}
use Rattle.zone_core.proofs.RowLemmas.{get-set_of, each_in}
use Rattle.zone_core.proofs.ZoneLemmas.{at_is}
use Rattle.zone_core.proofs.MetLemmas.{Among, among_of, of_among, among_append}
use Rattle.zone_core.proofs.BelowLemmas.{within_within}
use Rattle.zone_answers.specs.declared.query_type.QueryType.{QueryType}
use Rattle.zone_answers.specs.declared.query_type.QueryType.TheVariants.{Kept, Any, Other}
use Rattle.zone_answers.specs.Answers.{Name, Exists, IsSourceOf, IsCutOver, IsReferred, asked_at, answered_as, as_negative, addresses_in, authority_in, additional_in, answer_in, negative_soa, Found, Outside, Delegated, Missing, Alias, Listed, Again, Finds, Lead, Ends, AnswerOf, answer_with, IsAnswer}
use Rattle.zone_answers.specs.AnswerTests.{cut_over, answer_to}
use Rattle.zone_answers.specs.Views.{answer_of}
use Rattle.zone_answers.specs.declared.answer.Answer.{Answer}
use Rattle.zone_answers.specs.AnswerLaws.{QuestionsHaveOneAnswer, IsOfZone, IsOfAuthority, AnswersAreOfZones, Refers, CutsRefer, IsNowhere, MissingNamesAreNowhere}
use Rattle.zone_answers.proofs.SourceLemmas.{among_filter}
use Rattle.zone_answers.proofs.CutLemmas.{IsOver, over_is, within_both}
use Rattle.zone_answers.proofs.FindingLemmas.{HasOneAlias}
use Rattle.zone_answers.proofs.LeadLemmas.{answer_one, answer_is}

-- ---- each question has one answer

all_among : (P : Record → Type 0) (xs : List Record) (x : Record) → AllByRecursion P xs → Among x xs → P x
all_among P [] x all a = absurd a
all_among P (y ∷ ys) x all a = (elim a [ inl e ↦ subst P (sym e) all.0 | inr later ↦ all_among P ys x all.1 later ])

pub row_in : (rs : List Record) → InOrder rs → (x : Record) → Among x rs → IsIn x (set_of rs)
row_in rs order x a = get-set_of rs (key_of x) ∙ all_among (λ (y : Record). find key_cmp (key_of y) (keyed rs) ≡ Some y) rs x (each_in rs order) a

pub one_alias : (origin : Name) (rs : List Record) → AreOfZone origin rs → HasOneAlias rs
one_alias origin rs of r s p q = of.zone.cnames r s (row_in rs of.order r p) (row_in rs of.order s q)

pub one_answer : QuestionsHaveOneAnswer
one_answer origin rs name asked of =
    let one = one_alias origin rs of in (
      (answer_to origin rs name asked, answer_is origin rs asked one name),
      λ a b p q. answer_one origin rs asked one name a p ∙ sym (answer_one origin rs asked one name b q),
    )

-- ---- records that are asked for

among_asked : (rs : List Record) (name : Name) (asked : QueryType) (r : Record) → Among r (asked_at rs name asked) → Among r rs × (r.owner ≡ name)
among_asked rs name (Kept t) r a =
    let both = (among_filter (λ r. at name t (key_of r)) rs r).0 a in
    (both.0, (at_is name t (key_of r) both.1).0)
among_asked rs name Any r a =
    let both = (among_filter (λ r. at_name name (key_of r)) rs r).0 a in
    (both.0, name_is r.owner name both.1)
among_asked rs name Other r a = absurd a

asked_type : (rs : List Record) (name : Name) (t : RecordType) (r : Record) → Among r (asked_at rs name (Kept t)) → type_of r.rdata ≡ t
asked_type rs name t r a =
    let both = (among_filter (λ r. at name t (key_of r)) rs r).0 a in
    one_rank (type_of r.rdata) t (at_is name t (key_of r) both.1).1

pub among_map : {X Y : Type 0} (f : X → Y) (xs : List X) (y : Y) → Among y (map f xs) → (x : X) × Among x xs × (y ≡ f x)
among_map f [] y a = absurd a
among_map f (x ∷ xs) y a = (elim a [ inl e ↦ (x, inl refl, e) | inr later ↦ (let found = among_map f xs y later in (found.0, inr found.1, found.2)) ])

pub among_flat : {X Y : Type 0} (f : X → List Y) (xs : List X) (y : Y) → Among y (flat_map f xs) → (x : X) × Among x xs × Among y (f x)
among_flat f [] y a = absurd a
among_flat f (x ∷ xs) y a = (elim ((among_append (f x) (flat_map f xs) y).0 a) [ inl here ↦ (x, inl refl, here) | inr later ↦ (let found = among_flat f xs y later in (found.0, inr found.1, found.2)) ])

-- ---- no answer has a record that the zone has not

module _ (origin : Name) (rs : List Record) (asked : QueryType) where
  as_own : (name source : Name) (r s : Record) → IsSourceOf rs name source → Among s rs → s.owner ≡ source → r ≡ answered_as name s → IsOfZone rs r
  as_own name source r s is here own e =
      let owner : r.owner ≡ name = ap (λ (x : Record). x.owner) e in (
        s,
        of_among rs s here,
        subst (λ (n : Name). IsSourceOf rs n s.owner) (sym owner) (subst (IsSourceOf rs name) (sym own) is),
        e ∙ ap (λ (n : Name). answered_as n s) (sym owner),
      )

  led_of : (aliases before : List Record) (name last : Name) (r : Record) → Lead origin rs asked before name aliases last → Among r aliases → IsOfZone rs r
  led_of [] before name last r lead a = absurd a
  led_of (x ∷ aliases) before name last r lead a = (elim a [
    | inl same ↦
        (let followed = lead.1.1.1 in
        as_own name followed.0 r lead.1.0 followed.1 (among_of rs lead.1.0 followed.2.1) followed.2.2 (same ∙ lead.1.2))
    | inr later ↦ led_of aliases (before ++ x ∷ []) lead.1.3.0 last r lead.1.3.2 later
  ])

  ended_of : (aliases : List Record) (last : Name) (found : Found) (r : Record) → Ends origin rs asked aliases last found → Among r (answer_in last found) → IsOfZone rs r
  ended_of aliases last (Listed found) r ends a =
      let is = ends.1.1 in
      let made = among_map (answered_as last) found r a in
      let there = among_asked rs is.0 asked made.0 (subst (Among made.0) is.3 made.1) in
      as_own last is.0 r made.0 is.1 there.0 there.1 made.2
  ended_of aliases last found r ends a = absurd a

  soa_of : (r : Record) → Among r (negative_soa origin rs) → IsOfAuthority rs r
  soa_of r a =
      let made = among_map as_negative (asked_at rs origin (Kept types.Soa)) r a in
      inr (made.0, of_among rs made.0 (among_asked rs origin (Kept types.Soa) made.0 made.1).0, asked_type rs origin types.Soa made.0 made.1, made.2)

  authority_of : (found : Found) (r : Record) → Among r (authority_in origin rs found) → IsOfAuthority rs r
  authority_of (Delegated cut) r a = inl (of_among rs r (among_asked rs cut (Kept types.Ns) r a).0)
  authority_of Missing r a = soa_of r a
  authority_of (Listed []) r a = soa_of r a
  authority_of found r a = absurd a

  address_of : (d : Data) (r : Record) → Among r (addresses_in rs d) → Contains rs r
  address_of (variants.Ns server) r a = of_among rs r (elim ((among_append (asked_at rs server (Kept types.A)) (asked_at rs server (Kept types.Aaaa)) r).0 a) [
    | inl first ↦ (among_asked rs server (Kept types.A) r first).0
    | inr second ↦ (among_asked rs server (Kept types.Aaaa) r second).0
  ])
  address_of d r a = absurd a

  additional_of : (found : Found) (r : Record) → Among r (additional_in rs found) → Contains rs r
  additional_of (Delegated cut) r a =
      let made = among_flat (λ (s : Record). addresses_in rs s.rdata) (asked_at rs cut (Kept types.Ns)) r a in
      address_of made.0.rdata r made.2
  additional_of found r a = absurd a

pub of_zones : AnswersAreOfZones
of_zones origin rs name asked a is r =
    let aliases = is.0 in
    let last = is.1 in
    let found = is.2 in (
      λ c. (elim ((among_append aliases (answer_in last found) r).0 (among_of (aliases ++ answer_in last found) r (subst (λ (b : AnswerOf). Contains b.answer r) is.5 c))) [
        | inl before ↦ led_of origin rs asked aliases [] name last r is.3 before
        | inr end ↦ ended_of origin rs asked aliases last found r is.4 end
      ]),
      λ c. authority_of origin rs asked found r (among_of (authority_in origin rs found) r (subst (λ (b : AnswerOf). Contains b.authority r) is.5 c)),
      λ c. additional_of origin rs asked found r (among_of (additional_in rs found) r (subst (λ (b : AnswerOf). Contains b.additional r) is.5 c)),
    )

-- ---- at or below cuts

none_among : {X : Type 0} (x : X) → Contains [] x → ⊥
none_among x c = among_of [] x c

pub referrals : CutsRefer
referrals origin rs name asked a cut is cuts over ds = by_top (cut_over origin rs name) (over_is origin rs name)
  where
    by_lead : (top : Name) → IsReferred origin rs name asked top → (aliases : List Record) (last : Name) (found : Found) → Lead origin rs asked [] name aliases last
        → Ends origin rs asked aliases last found → a ≡ answer_with origin rs aliases last found → Refers rs top a
    by_lead top referred (x ∷ aliases) last found lead ends e = absurd (lead.1.1.0.1 top referred)
    by_lead top referred [] last found lead ends e = by_found found ends e
      where
        refers : IsReferred origin rs last asked top
        refers = subst (λ (n : Name). IsReferred origin rs n asked top) (sym lead) referred

        by_found : (found : Found) → Ends origin rs asked [] last found → a ≡ answer_with origin rs [] last found → Refers rs top a
        by_found Outside ends e = absurd (ends.1 (within_within last top origin refers.0.over refers.0.here.0.0))
        by_found (Delegated c) ends e =
            let same : c ≡ top = within_both c top (refers.0.outermost c ends.1.1.0.here ends.1.1.0.over) (ends.1.1.0.outermost top refers.0.here refers.0.over) in
            record {
              code = ap (λ (b : AnswerOf). b.code) e;
              authoritative = ap (λ (b : AnswerOf). b.authoritative) e;
              answer = ap (λ (b : AnswerOf). b.answer) e;
              authority = ap (λ (b : AnswerOf). b.authority) e ∙ ap (λ (n : Name). asked_at rs n (Kept types.Ns)) same;
            }
        by_found Missing ends e = absurd (ends.1.0.1 top refers)
        by_found (Listed found) ends e = absurd (ends.1.0.1 top refers)
        by_found Again ends e = absurd (none_among ends.0 ends.1)
        by_found (Alias r) ends e = absurd ends

    by_top : (o : Option Name) → IsOver origin rs name o → (top : Name) × IsCutOver origin rs name top × Refers rs top a
    by_top None none = absurd (none cut cuts over)
    by_top (Some top) is_top =
        let not_ds : ¬ ((name ≡ top) × (asked ≡ Kept types.Ds)) = λ both. (elim ds [
          | inl below ↦ below.1 (within_both name cut over (subst (IsWithin cut) (sym both.0) (is_top.outermost cut cuts over)))
          | inr other ↦ other both.1
        ]) in
        (top, is_top, by_lead top (is_top, not_ds) is.0 is.1 is.2 is.3 is.4 is.5)

-- ---- names that are nowhere

module _ (origin : Name) (rs : List Record) (name : Name) (asked : QueryType) where
  nowhere_missing : Finds origin rs name asked Missing → IsNowhere origin rs name
  nowhere_missing is = record {
    inside = is.0.0;
    answered = λ cut cuts over. by_top cut cuts over (cut_over origin rs name) (over_is origin rs name);
    absent = absent;
    uncovered = λ wildcard over there. is.1 wildcard (there, inr (absent, over));
  }
    where
      absent : ¬ Exists rs name
      absent there = is.1 name (there, inl refl)

      by_top : (cut : Name) → IsCutAt origin rs cut → IsWithin name cut → (o : Option Name) → IsOver origin rs name o → ⊥
      by_top cut cuts over None none = none cut cuts over
      by_top cut cuts over (Some top) is_top =
          is.0.1 top (is_top, λ both. absent (subst (Exists rs) (sym both.0) (is_top.here.1.0, is_top.here.1.1, ([], is_top.here.1.2))))

  missing_nowhere : IsNowhere origin rs name → Finds origin rs name asked Missing
  missing_nowhere gone = (
    (gone.inside, λ cut is. gone.answered cut is.0.here is.0.over),
    λ source is. (elim (is.1) [ inl same ↦ gone.absent (subst (Exists rs) same is.0) | inr over ↦ gone.uncovered source over.1 is.0 ]),
  )

pub nowhere : MissingNamesAreNowhere
nowhere origin rs name asked a is = (
  λ both. by_lead is.0 is.1 is.2 is.3 is.4 (ap (λ (b : AnswerOf). b.code) (sym is.5) ∙ both.0) (ap (λ (b : AnswerOf). b.answer) (sym is.5) ∙ both.1),
  λ gone. by_nowhere (missing_nowhere origin rs name asked gone) is.0 is.1 is.2 is.3 is.4 is.5,
)
  where
    by_lead : (aliases : List Record) (last : Name) (found : Found) → Lead origin rs asked [] name aliases last → Ends origin rs asked aliases last found
        → (answer_with origin rs aliases last found).code ≡ NxDomain → (answer_with origin rs aliases last found).answer ≡ [] → IsNowhere origin rs name
    by_lead (x ∷ aliases) last found lead ends e none = absurd cc
    by_lead [] last Missing lead ends e none = nowhere_missing origin rs name asked (subst (λ (n : Name). Finds origin rs n asked Missing) lead ends.1)
    by_lead [] last found lead ends e none = absurd cc

    by_nowhere : Finds origin rs name asked Missing → (aliases : List Record) (last : Name) (found : Found) → Lead origin rs asked [] name aliases last
        → Ends origin rs asked aliases last found → a ≡ answer_with origin rs aliases last found → (a.code ≡ NxDomain) × (a.answer ≡ [])
    by_nowhere missing (x ∷ aliases) last found lead ends e = absurd (missing.1 lead.1.1.1.0 lead.1.1.1.1)
    by_nowhere missing [] last found lead ends e = by_found found ends e
      where
        here : Finds origin rs last asked Missing
        here = subst (λ (n : Name). Finds origin rs n asked Missing) (sym lead) missing

        by_found : (found : Found) → Ends origin rs asked [] last found → a ≡ answer_with origin rs [] last found → (a.code ≡ NxDomain) × (a.answer ≡ [])
        by_found Missing ends e = (ap (λ (b : AnswerOf). b.code) e, ap (λ (b : AnswerOf). b.answer) e)
        by_found Outside ends e = absurd (ends.1 here.0.0)
        by_found (Delegated cut) ends e = absurd (here.0.1 cut ends.1.1)
        by_found (Listed found) ends e = absurd (here.1 ends.1.1.0 ends.1.1.1)
        by_found Again ends e = absurd (none_among ends.0 ends.1)
        by_found (Alias r) ends e = absurd ends

-- ---- the answers of an index

pub if_ok : {X E : Type 0} {P Q : X → Type 0} (r : Result X E) → ((x : X) → P x → Q x) → IfOk r P → IfOk r Q
if_ok (Ok x) more p = more x p
if_ok (Err e) more p = p

pub of_zone : (zone : ZoneOf) → IsZone zone → (rows : List Record) → InOrder rows → set_of rows ≡ zone.records → AreOfZone zone.origin rows
of_zone zone is rows order set = record { order = order; zone = subst (λ (s : Records). IsZone (record { origin = zone.origin; records = s })) (sym set) is }

module _ (zone : ZoneOf) (is : IsZone zone) (rows : List Record) (order : InOrder rows) (set : set_of rows ≡ zone.records) (listed : rows ≡ listing zone.records)
    (name : Name) (asked : QueryType) {E : Type 0} (r : Result Answer E) (exact : IfOk r (λ a. answer_of a ≡ answer_to zone.origin (listing zone.records) name asked)) where
  one_of_zone : HasOneAlias (listing zone.records)
  one_of_zone = subst HasOneAlias listed (one_alias zone.origin rows (of_zone zone is rows order set))

  pub index_found : IfOk r (λ a. IsAnswer zone.origin (listing zone.records) name asked (answer_of a))
  index_found = if_ok r (λ a e. subst (IsAnswer zone.origin (listing zone.records) name asked) (sym e) (answer_is zone.origin (listing zone.records) asked one_of_zone name)) exact

  pub index_only : IfOk r (λ a. (other : AnswerOf) → IsAnswer zone.origin (listing zone.records) name asked other → other ≡ answer_of a)
  index_only = if_ok r (λ a e other p. answer_one zone.origin (listing zone.records) asked one_of_zone name other p ∙ sym e) exact
