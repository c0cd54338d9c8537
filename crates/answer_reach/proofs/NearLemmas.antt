-- Rows that are alike near a name answer its questions alike.
use Rattle.std.proofs.Common.{◌≡◌, ◌↔◌, ℕ, List, [], ◌∷◌, ◌++◌, map, false, cond, refl, sym, ap, subst, ◌∙◌, inl, inr}
use Rattle.std.specs.List.{flat_map}
use Rattle.dns_names.specs.Labels.{IsWithin}
use Rattle.dns_data.specs.declared.record.Record.{Record}
use Rattle.dns_data.specs.declared.record_type.RecordType.TheVariants as types
use Rattle.dns_data.specs.declared.rdata.Data.{Data}
use Rattle.dns_data.specs.declared.rdata.Data.TheVariants as variants
use Rattle.zone_core.specs.Sets.{key_of, at, at_name, InOrder}
use Rattle.zone_core.specs.Delegations.{IsCutAt}
use Rattle.zone_core.specs.Views.{AreOfZone}
use Rattle.zone_core.proofs.SetLemmas.{name_is}
use Rattle.zone_core.proofs.ZoneLemmas.{at_is}
use Rattle.zone_core.proofs.MetLemmas.{Among, among_of, of_among, among_append}
use Rattle.zone_core.proofs.BelowLemmas.{within_itself, within_within}
use Rattle.zone_answers.specs.declared.query_type.QueryType.{QueryType}
use Rattle.zone_answers.specs.declared.query_type.QueryType.TheVariants.{Kept, Any, Other}
use Rattle.zone_answers.specs.Answers.{Name, asterisk, Exists, IsSourceOf, IsReferred, IsOwn, IsFollowed, asked_at, asks_alias, as_negative, negative_soa, addresses_in, authority_in, additional_in, answer_in, Found, Outside, Delegated, Missing, Alias, Listed, Again, Finds, Lead, Ends, AnswerOf, answer_with, IsAnswer}
use Rattle.zone_answers.proofs.CutLemmas.{in_turn, within_or_is, one_more}
use Rattle.zone_answers.proofs.KnownLemmas.{flat_among}
use Rattle.answer_reach.specs.ReachTests.{target_list, targets, asked_in_turn}
use Rattle.answer_reach.proofs.PossibleLemmas.{found_among, same_filters}
use Rattle.answer_reach.proofs.AnswerLemmas.{flat_same}

-- two rows have the same records at a name
abbrev pub SameAt : List Record → List Record → Name → Type 0
SameAt ps rs name = (r : Record) → r.owner ≡ name → Among r ps ↔ Among r rs

-- and it exists in both or in neither
pub record Near (ps rs : List Record) (name : Name) : Type 0 where
  pub same : SameAt ps rs name
  pub there : Exists ps name ↔ Exists rs name

-- so it is of the names from one up to an origin, and of the wildcards below them
abbrev pub NearAt : Name → List Record → List Record → Name → Type 0
NearAt origin ps rs name = (m : Name) → IsWithin name m → IsWithin m origin → Near ps rs m × Near ps rs (asterisk ∷ m)

flip : (ps rs : List Record) (name : Name) → Near ps rs name → Near rs ps name
flip ps rs name near = record { same = λ r own. let both = near.same r own in (both.1, both.0); there = (near.there.1, near.there.0) }

flip_at : (origin : Name) (ps rs : List Record) (name : Name) → NearAt origin ps rs name → NearAt origin rs ps name
flip_at origin ps rs name near m up home = let both = near m up home in (flip ps rs m both.0, flip ps rs (asterisk ∷ m) both.1)

-- the same records are asked for
same_asked : (ps rs : List Record) → InOrder ps → InOrder rs → (name : Name) → SameAt ps rs name → (asked : QueryType) → asked_at ps name asked ≡ asked_at rs name asked
same_asked ps rs in_p in_r name same (Kept t) =
    same_filters (λ r. at name t (key_of r)) ps rs in_p in_r
    (λ r e a. (same r (at_is name t (key_of r) e).0).0 a) (λ r e a. (same r (at_is name t (key_of r) e).0).1 a)
same_asked ps rs in_p in_r name same Any =
    same_filters (λ r. at_name name (key_of r)) ps rs in_p in_r (λ r e a. (same r (name_is r.owner name e)).0 a) (λ r e a. (same r (name_is r.owner name e)).1 a)
same_asked ps rs in_p in_r name same Other = refl

-- the origin of a zone exists
pub home_of : (origin : Name) (ps : List Record) → AreOfZone origin ps → Exists ps origin
home_of origin ps of = let one = of.zone.soa in (one.0, of_among ps one.0 (found_among ps (key_of one.0) one.0 one.1.here).0, ([], one.1.origin))

-- ---- what is found

module _ (origin : Name) (ps rs : List Record) where
  cut_moves : (cut : Name) → Near ps rs cut → IsCutAt origin ps cut → IsCutAt origin rs cut
  cut_moves cut near is = (is.0, (is.1.0, of_among rs is.1.0 ((near.same is.1.0 is.1.2).0 (among_of ps is.1.0 is.1.1)), is.1.2, is.1.3))

module _ (origin : Name) (ps rs : List Record) (name : Name) (near : NearAt origin ps rs name) (asked : QueryType) where
  referral_moves : (cut : Name) → IsReferred origin ps name asked cut → IsReferred origin rs name asked cut
  referral_moves cut is = (
    record {
      here = cut_moves origin ps rs cut (near cut is.0.over is.0.here.0.0).0 is.0.here;
      over = is.0.over;
      outermost = λ other there over. is.0.outermost other (cut_moves origin rs ps other (flip ps rs other (near other over there.0.0).0) there) over;
    },
    is.1,
  )

module _ (origin : Name) (ps rs : List Record) (name : Name) (near : NearAt origin ps rs name) (asked : QueryType) where
  own_moves : IsOwn origin ps name asked → IsOwn origin rs name asked
  own_moves own = (own.0, λ cut is. own.1 cut (referral_moves origin rs ps name (flip_at origin ps rs name near) asked cut is))

module _ (origin : Name) (ps rs : List Record) (home : Exists ps origin) (name : Name) (inside : IsWithin name origin) (near : NearAt origin ps rs name) where
  -- the closest encloser and the name below it, which does not exist, are within the origin
  enclosed : (front : Name) (label : List ℕ) (encloser : Name) → name ≡ front ++ label ∷ encloser → ¬ Exists ps (label ∷ encloser) → IsWithin (label ∷ encloser) origin × IsWithin encloser origin
  enclosed front label encloser split gone = (elim (in_turn name (label ∷ encloser) origin (front, split) inside) [
    | inl within ↦ (within, elim (within_or_is label encloser origin within) [ inl same ↦ absurd (gone (subst (Exists ps) same home)) | inr up ↦ up ])
    | inr above ↦ absurd (gone (home.0, home.1, within_within home.0.owner origin (label ∷ encloser) home.2 above))
  ])

  source_moves : (source : Name) → IsSourceOf ps name source → IsSourceOf rs name source × Near ps rs source
  source_moves source is = (elim (is.1) [
    | inl same ↦
        (let here = (near name (within_itself name) inside).0 in
        let at : Near ps rs source = subst (Near ps rs) (sym same) here in
        ((at.there.0 is.0, inl same), at))
    | inr other ↦
        (let over = other.1 in
        let label = over.1 in
        let encloser = over.2 in
        let in_both = enclosed over.0 label encloser over.3 over.5 in
        let next = (near (label ∷ encloser) (over.0, over.3) in_both.0).0 in
        let up : IsWithin name encloser = within_within name (label ∷ encloser) encloser (over.0, over.3) (one_more label encloser encloser (within_itself encloser)) in
        let two = near encloser up in_both.1 in
        let at : Near ps rs source = subst (Near ps rs) (sym over.6) two.1 in
        let here = (near name (within_itself name) inside).0 in
        ((at.there.0 is.0, inr ((λ e. other.0 (here.there.1 e)), (over.0, label, encloser, over.3, two.0.there.0 over.4, (λ e. over.5 (next.there.1 e)), over.6))), at))
  ])

module _ (ps rs : List Record) (source : Name) (near : Near ps rs source) (asked : QueryType) where
  followed : (r : Record) → IsFollowed ps source asked r → IsFollowed rs source asked r
  followed r f = (f.0, of_among rs r ((near.same r f.2).0 (among_of ps r f.1)), f.2, f.3)

module _ (origin : Name) (ps rs : List Record) (from : AreOfZone origin ps) (to : AreOfZone origin rs) (asked : QueryType) where
  finds_inside : (name : Name) → IsWithin name origin → NearAt origin ps rs name → (found : Found) → Finds origin ps name asked found → Finds origin rs name asked found
  finds_inside name inside near Outside is = is
  finds_inside name inside near (Delegated cut) is = (is.0, referral_moves origin ps rs name near asked cut is.1)
  finds_inside name inside near Missing is = (
    own_moves origin ps rs name near asked is.0,
    λ source has. is.1 source (source_moves origin rs ps (home_of origin rs to) name inside (flip_at origin ps rs name near) source has).0,
  )
  finds_inside name inside near (Alias r) is =
      let source = is.1.0 in
      let at = source_moves origin ps rs (home_of origin ps from) name inside near source is.1.1 in
      (own_moves origin ps rs name near asked is.0, (source, at.0, followed ps rs source at.1 asked r is.1.2))
  finds_inside name inside near (Listed found) is =
      let source = is.1.0 in
      let at = source_moves origin ps rs (home_of origin ps from) name inside near source is.1.1 in (
        own_moves origin ps rs name near asked is.0,
        (source, at.0, (λ r f. is.1.2 r (followed rs ps source (flip ps rs source at.1) asked r f)), is.1.3 ∙ same_asked ps rs from.order to.order source at.1.same asked),
      )
  finds_inside name inside near Again is = absurd is

  finds : (name : Name) → (IsWithin name origin → NearAt origin ps rs name) → (found : Found) → Finds origin ps name asked found → Finds origin rs name asked found
  finds name near Outside is = is
  finds name near Again is = absurd is
  finds name near (Delegated cut) is = finds_inside name is.0 (near is.0) (Delegated cut) is
  finds name near Missing is = finds_inside name is.0.0 (near is.0.0) Missing is
  finds name near (Alias r) is = finds_inside name is.0.0 (near is.0.0) (Alias r) is
  finds name near (Listed found) is = finds_inside name is.0.0 (near is.0.0) (Listed found) is

  -- ---- aliases

  abbrev Covered : Name → Type 0
  Covered name = IsWithin name origin → NearAt origin ps rs name

  leads : (aliases earlier : List Record) (name last : Name) → Covered name
      → ((alias : Record) (target : Name) → Among alias aliases → asks_alias asked ≡ false → alias.rdata ≡ variants.Cname target → Covered target)
      → Lead origin ps asked earlier name aliases last → Lead origin rs asked earlier name aliases last × Covered last
  leads [] earlier name last near each lead = (lead, subst Covered (sym lead) near)
  leads (alias ∷ aliases) earlier name last near each lead =
      let r = lead.1.0 in
      let target = lead.1.3.0 in
      let on = leads aliases (earlier ++ alias ∷ []) target last (each alias target (inl refl) lead.1.1.1.2.0 lead.1.3.1) (λ a t in_a. each a t (inr in_a)) lead.1.3.2 in
      ((lead.0, (r, finds name near (Alias r) lead.1.1, lead.1.2, (target, lead.1.3.1, on.0))), on.1)

  ends : (aliases : List Record) (last : Name) → Covered last → (found : Found) → Ends origin ps asked aliases last found → Ends origin rs asked aliases last found
  ends aliases last near Again is = is
  ends aliases last near (Alias r) is = absurd is
  ends aliases last near Outside is = (is.0, finds last near Outside is.1)
  ends aliases last near (Delegated cut) is = (is.0, finds last near (Delegated cut) is.1)
  ends aliases last near Missing is = (is.0, finds last near Missing is.1)
  ends aliases last near (Listed found) is = (is.0, finds last near (Listed found) is.1)

  -- ---- sections

  module _ (last : Name) (near : Covered last) where
    soa_same : IsWithin last origin → negative_soa origin ps ≡ negative_soa origin rs
    soa_same inside =
        let at = (near inside origin inside (within_itself origin)).0 in
        ap (map as_negative) (same_asked ps rs from.order to.order origin at.same (Kept types.Soa))

    servers_same : (cut : Name) → IsWithin last origin → IsReferred origin ps last asked cut → asked_at ps cut (Kept types.Ns) ≡ asked_at rs cut (Kept types.Ns)
    servers_same cut inside is =
        let at = (near inside cut is.0.over is.0.here.0.0).0 in
        same_asked ps rs from.order to.order cut at.same (Kept types.Ns)

    authority_same : (aliases : List Record) (found : Found) → Ends origin ps asked aliases last found → authority_in origin ps found ≡ authority_in origin rs found
    authority_same aliases Outside is = refl
    authority_same aliases (Delegated cut) is = servers_same cut is.1.0 is.1.1
    authority_same aliases Missing is = soa_same is.1.0.0
    authority_same aliases (Alias r) is = refl
    authority_same aliases (Listed []) is = soa_same is.1.0.0
    authority_same aliases (Listed (r ∷ found)) is = refl
    authority_same aliases Again is = refl

    addresses_same : (d : Data) → ((server : Name) → d ≡ variants.Ns server → SameAt ps rs server) → addresses_in ps d ≡ addresses_in rs d
    addresses_same (variants.Ns server) same =
        let four = same_asked ps rs from.order to.order server (same server refl) (Kept types.A) in
        let six = same_asked ps rs from.order to.order server (same server refl) (Kept types.Aaaa) in
        λ i. four i ++ six i
    addresses_same d same = refl

    additional_same : (aliases : List Record) (found : Found) → ((r : Record) (server : Name) → Among r (authority_in origin ps found) → r.rdata ≡ variants.Ns server → SameAt ps rs server)
        → Ends origin ps asked aliases last found → additional_in ps found ≡ additional_in rs found
    additional_same aliases (Delegated cut) same is =
        flat_same (λ (r : Record). addresses_in ps r.rdata) (λ (r : Record). addresses_in rs r.rdata) (asked_at ps cut (Kept types.Ns)) (λ r a. addresses_same r.rdata (λ server e. same r server a e))
        ∙ ap (flat_map (λ (r : Record). addresses_in rs r.rdata)) (servers_same cut is.1.0 is.1.1)
    additional_same aliases found same is = refl

  -- ---- answers

  -- an answer of one zone is one of another that is alike near the names that are asked for in turn, and at the servers of the referral
  pub answer_moves : (name : Name) (a : AnswerOf) → IsAnswer origin ps name asked a → ((n : Name) → Among n (asked_in_turn name asked a) → Covered n)
      → ((r : Record) (server : Name) → Among r a.authority → r.rdata ≡ variants.Ns server → SameAt ps rs server) → IsAnswer origin rs name asked a
  answer_moves name a is near same =
      let aliases = is.0 in
      let last = is.1 in
      let found = is.2 in
      let on = leads aliases [] name last (near name (inl refl)) each is.3 in
      let authority = authority_same last on.1 aliases found is.4 in
      let additional = additional_same last on.1 aliases found (λ r server in_r e. same r server (subst (λ (x : AnswerOf). Among r x.authority) (sym is.5) in_r) e) is.4 in (
        aliases,
        last,
        found,
        on.0,
        ends aliases last on.1 found is.4,
        is.5 ∙ (λ i. record {
          code = (answer_with origin ps aliases last found).code;
          authoritative = (answer_with origin ps aliases last found).authoritative;
          answer = aliases ++ answer_in last found;
          authority = authority i;
          additional = additional i;
        }),
      )
    where
      each : (alias : Record) (target : Name) → Among alias is.0 → asks_alias asked ≡ false → alias.rdata ≡ variants.Cname target → Covered target
      each alias target in_aliases follows e =
          let in_answer : Among alias a.answer = subst (λ (x : AnswerOf). Among alias x.answer) (sym is.5) ((among_append is.0 (answer_in is.1 is.2) alias).1 (inl in_aliases)) in
          let in_list : Among target (target_list alias.rdata) = subst (λ (d : Data). Among target (target_list d)) (sym e) (inl refl) in
          let in_targets : Among target (targets a.answer) = flat_among (λ (r : Record). target_list r.rdata) a.answer alias target in_answer in_list in
          near target (inr (subst (λ (l : List Name). Among target l) (sym (ap (λ b. cond b [] (targets a.answer)) follows)) in_targets))
