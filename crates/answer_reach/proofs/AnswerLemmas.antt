-- A question that the caller cannot reach is answered alike in each zone that it may make.
use Rattle.std.proofs.Common.{◌≡◌, ◌⊎◌, ℕ, List, [], ◌∷◌, ◌++◌, map, true, refl, sym, ap, subst, ◌∙◌, inl, inr}
use Rattle.std.specs.List.{flat_map}
use Rattle.std.proofs.lemmas.Bool.{false_from_ne_true}
use Rattle.dns_names.specs.Labels.{IsWithin}
use Rattle.dns_data.specs.declared.record.Record.{Record}
use Rattle.dns_data.specs.declared.record_type.RecordType.{RecordType}
use Rattle.dns_data.specs.declared.record_type.RecordType.TheVariants as types
use Rattle.dns_data.specs.declared.rdata.Data.{Data}
use Rattle.dns_data.specs.declared.rdata.Data.TheVariants as variants
use Rattle.dns_data.specs.Rdata.{type_of}
use Rattle.grant_policy.specs.declared.rule.Rule.{Rule}
use Rattle.zone_core.specs.Sets.{key_of, at}
use Rattle.zone_core.specs.Views.{AreOfZone}
use Rattle.zone_core.proofs.RowLemmas.{order_is, InOrder-filter}
use Rattle.zone_core.proofs.MetLemmas.{Among, of_among}
use Rattle.zone_answers.specs.declared.query_type.QueryType.{QueryType}
use Rattle.zone_answers.specs.declared.query_type.QueryType.TheVariants.{Kept}
use Rattle.zone_answers.specs.Answers.{Name, IsReferred, asked_at, Found, Outside, Delegated, Missing, Alias, Listed, Again, Finds, Lead, Ends, AnswerOf, answer_with, IsAnswer, negative_ttl, as_negative, negative_soa, addresses_in, authority_in, additional_in}
use Rattle.zone_answers.specs.AnswerChanges.{data_but_serial, but_serial, AreSame, Differs}
use Rattle.zone_answers.proofs.LawLemmas.{row_in, one_answer}
use Rattle.answer_reach.specs.Reach.{may_change, may_come, MayExist, MayChange, IsReached}
use Rattle.answer_reach.proofs.PossibleLemmas.{IsPossible, IsFixed, same_set, same_rows, found_among, asked_owner, owner_asked}
use Rattle.answer_reach.proofs.FoundLemmas.{finds_moves, referral_fixed, addresses_fixed}

-- ---- the SOA of negative answers

as_negative_but_serial : (r : Record) → but_serial (as_negative r) ≡ as_negative (but_serial r)
as_negative_but_serial r = λ i. record { owner = r.owner; ttl = of_data r.ttl r.rdata i; rdata = data_but_serial r.rdata }
  where
    of_data : (ttl : ℕ) (d : Data) → negative_ttl ttl d ≡ negative_ttl ttl (data_but_serial d)
    of_data ttl (variants.Soa soa) = refl
    of_data ttl d = refl

-- the SOA of a zone, and no other
pub record OneSoa (origin : Name) (rows : List Record) : Type 0 where
  pub soa : Record
  pub here : Among soa rows
  pub kind : type_of soa.rdata ≡ types.Soa
  pub alone : (r : Record) → Among r rows → type_of r.rdata ≡ types.Soa → r ≡ soa
  pub only : asked_at rows origin (Kept types.Soa) ≡ soa ∷ []

pub one_soa : (origin : Name) (rows : List Record) → AreOfZone origin rows → OneSoa origin rows
one_soa origin rows of =
    let soa = of.zone.soa.0 in
    let is = of.zone.soa.1 in
    let here : Among soa rows = (found_among rows (key_of soa) soa is.here).0 in
    let alone : (r : Record) → Among r rows → type_of r.rdata ≡ types.Soa → r ≡ soa = λ r a t. is.alone r (row_in rows of.order r a) t in
    record {
      soa = soa;
      here = here;
      kind = is.type;
      alone = alone;
      only =
          same_rows (asked_at rows origin (Kept types.Soa)) (soa ∷ []) (InOrder-filter (λ r. at origin types.Soa (key_of r)) rows of.order) (order_is (soa ∷ []) tt)
          (λ r a. let own = owner_asked rows origin types.Soa r a in inl (alone r own.0 own.2))
          (λ r a. (elim a [ inl same ↦ subst (λ (x : Record). Among x (asked_at rows origin (Kept types.Soa))) (sym same) (asked_owner rows origin types.Soa soa here is.origin is.type) | inr none ↦ absurd none ]));
    }

pub flat_same : {X Y : Type 0} (f g : X → List Y) (xs : List X) → ((x : X) → Among x xs → f x ≡ g x) → flat_map f xs ≡ flat_map g xs
flat_same f g [] each = refl
flat_same f g (x ∷ xs) each = λ i. each x (inl refl) i ++ flat_same f g xs (λ y a. each y (inr a)) i

module _ (rules : List Rule) (caller : List ℕ) (origin : Name) (rs ys : List Record) (before : AreOfZone origin rs) (after : AreOfZone origin ys)
    (itself : IsPossible rules caller origin rs rs) (to : IsPossible rules caller origin rs ys) where
  home : MayExist rules caller origin rs origin
  home =
      let one = before.zone.soa in
      inl (one.0, of_among rs one.0 (found_among rs (key_of one.0) one.0 one.1.here).0, ([], one.1.origin))

  soa_same : ¬ (may_come rules caller origin rs origin types.Soa ≡ true) → map but_serial (negative_soa origin rs) ≡ map but_serial (negative_soa origin ys)
  soa_same kept =
      let old = one_soa origin rs before in
      let new = one_soa origin ys after in
      let serial : but_serial new.soa ≡ but_serial old.soa = (elim (to.is.soa new.soa new.here new.kind) [
        | inl come ↦ absurd (kept come)
        | inr was ↦ was.3 ∙ ap but_serial (old.alone was.0 was.1 was.2)
      ]) in
      ap (λ (l : List Record). map but_serial (map as_negative l)) old.only
      ∙ ap (λ (r : Record). r ∷ []) (as_negative_but_serial old.soa ∙ ap as_negative (sym serial) ∙ sym (as_negative_but_serial new.soa))
      ∙ sym (ap (λ (l : List Record). map but_serial (map as_negative l)) new.only)

  module _ (asked : QueryType) where
    -- ---- what is found

    found_inside : (name : Name) → ¬ MayChange rules caller origin rs name asked → IsWithin name origin → (found : Found) → Finds origin rs name asked found → Finds origin ys name asked found
    found_inside name never inside found is =
        finds_moves rules caller origin rs rs ys itself to itself home name asked (λ m. never (inside, inl m)) (λ own m. never (inside, inr (inl (own, m)))) found is

    finds : (name : Name) → ¬ MayChange rules caller origin rs name asked → (found : Found) → Finds origin rs name asked found → Finds origin ys name asked found
    finds name never Outside is = is
    finds name never Again is = absurd is
    finds name never (Delegated cut) is = found_inside name never is.0 (Delegated cut) is
    finds name never Missing is = found_inside name never is.0.0 Missing is
    finds name never (Alias r) is = found_inside name never is.0.0 (Alias r) is
    finds name never (Listed found) is = found_inside name never is.0.0 (Listed found) is

    -- ---- aliases

    leads : (aliases earlier : List Record) (name last : Name)
        → ((some : List Record) (at : Name) → Lead origin rs asked earlier name some at → ¬ MayChange rules caller origin rs at asked)
        → Lead origin rs asked earlier name aliases last → Lead origin ys asked earlier name aliases last
    leads [] earlier name last never lead = lead
    leads (alias ∷ aliases) earlier name last never lead =
        let r = lead.1.0 in
        let target = lead.1.3.0 in (
          lead.0,
          (
            r,
            finds name (never [] name refl) (Alias r) lead.1.1,
            lead.1.2,
            (target, lead.1.3.1, leads aliases (earlier ++ alias ∷ []) target last (λ some at more. never (alias ∷ some) at (lead.0, (r, lead.1.1, lead.1.2, (target, lead.1.3.1, more)))) lead.1.3.2),
          ),
        )

    ends : (aliases : List Record) (last : Name) → ¬ MayChange rules caller origin rs last asked → (found : Found) → Ends origin rs asked aliases last found → Ends origin ys asked aliases last found
    ends aliases last never Again is = is
    ends aliases last never (Alias r) is = absurd is
    ends aliases last never Outside is = (is.0, finds last never Outside is.1)
    ends aliases last never (Delegated cut) is = (is.0, finds last never (Delegated cut) is.1)
    ends aliases last never Missing is = (is.0, finds last never Missing is.1)
    ends aliases last never (Listed found) is = (is.0, finds last never (Listed found) is.1)

    -- ---- sections

    module _ (last : Name) (never : ¬ MayChange rules caller origin rs last asked) where
      no_soa : IsWithin last origin → ¬ (may_come rules caller origin rs origin types.Soa ≡ true)
      no_soa inside e = never (inside, inr (inr e))

      servers : (cut : Name) → IsWithin last origin → IsReferred origin rs last asked cut → asked_at rs cut (Kept types.Ns) ≡ asked_at ys cut (Kept types.Ns)
      servers cut inside is =
          same_set rules caller origin rs rs ys itself to cut types.Ns
          (record { change = referral_fixed rules caller origin rs rs itself itself last asked (λ m. never (inside, inl m)) cut is; serial = λ s. (let e : types.Ns ≡ types.Soa = s.1 in absurd cc) })

      authority : (aliases : List Record) (found : Found) → Ends origin rs asked aliases last found → map but_serial (authority_in origin rs found) ≡ map but_serial (authority_in origin ys found)
      authority aliases Outside is = refl
      authority aliases (Delegated cut) is = ap (map but_serial) (servers cut is.1.0 is.1.1)
      authority aliases Missing is = soa_same (no_soa is.1.0.0)
      authority aliases (Alias r) is = refl
      authority aliases (Listed []) is = soa_same (no_soa is.1.0.0)
      authority aliases (Listed (r ∷ found)) is = refl
      authority aliases Again is = refl

      module _ (cut : Name) (inside : IsWithin last origin) (is : IsReferred origin rs last asked cut) where
        address_fixed : (server : Name) (r : Record) → Among r (asked_at rs cut (Kept types.Ns)) → r.rdata ≡ variants.Ns server → (t : RecordType)
            → (may_change rules caller origin rs server t ≡ true → (may_change rules caller origin rs server types.A ≡ true) ⊎ (may_change rules caller origin rs server types.Aaaa ≡ true))
            → ¬ (t ≡ types.Soa) → IsFixed rules caller origin rs server t
        address_fixed server r a e t either other =
            let own = owner_asked rs cut types.Ns r a in
            record {
              change = false_from_ne_true (may_change rules caller origin rs server t) (λ m.
                  addresses_fixed rules caller origin rs rs itself itself last asked (λ n. never (inside, inl n)) cut is (server, (r, of_among rs r own.0, own.1, e), either m));
              serial = λ s. other s.1;
            }

        of_server : (r : Record) → Among r (asked_at rs cut (Kept types.Ns)) → (d : Data) → r.rdata ≡ d → addresses_in rs d ≡ addresses_in ys d
        of_server r a (variants.Ns server) e =
            let four = same_set rules caller origin rs rs ys itself to server types.A (address_fixed server r a e types.A (λ m. inl m) (λ t. absurd cc)) in
            let six = same_set rules caller origin rs rs ys itself to server types.Aaaa (address_fixed server r a e types.Aaaa (λ m. inr m) (λ t. absurd cc)) in
            λ i. four i ++ six i
        of_server r a d e = refl

      additional : (aliases : List Record) (found : Found) → Ends origin rs asked aliases last found → additional_in rs found ≡ additional_in ys found
      additional aliases (Delegated cut) is =
          flat_same (λ (r : Record). addresses_in rs r.rdata) (λ (r : Record). addresses_in ys r.rdata) (asked_at rs cut (Kept types.Ns)) (λ r a. of_server cut is.1.0 is.1.1 r a r.rdata refl)
          ∙ ap (flat_map (λ (r : Record). addresses_in ys r.rdata)) (servers cut is.1.0 is.1.1)
      additional aliases found is = refl

      same : (aliases : List Record) (found : Found) → Ends origin rs asked aliases last found → AreSame (answer_with origin rs aliases last found) (answer_with origin ys aliases last found)
      same aliases found is = record { code = refl; authoritative = refl; answer = refl; authority = authority aliases found is; additional = additional aliases found is }

    -- ---- answers

    pub unreached : (name : Name) → ¬ IsReached rules caller origin rs name asked → ¬ Differs origin rs ys name asked
    unreached name never differs =
        let a = differs.0 in
        let b = differs.1 in
        let is = differs.2 in
        let aliases = is.0 in
        let last = is.1 in
        let found = is.2 in
        let lead = is.3 in
        let kept : (some : List Record) (at : Name) → Lead origin rs asked [] name some at → ¬ MayChange rules caller origin rs at asked = λ some at l m. never (some, at, l, m) in
        let last_kept = kept aliases last lead in
        let there : IsAnswer origin ys name asked (answer_with origin ys aliases last found) =
        (aliases, last, found, leads aliases [] name last kept lead, ends aliases last last_kept found is.4, refl) in
        let other : answer_with origin ys aliases last found ≡ b = (one_answer origin ys name asked after).1 (answer_with origin ys aliases last found) b there differs.3 in
        let alike : AreSame (answer_with origin rs aliases last found) (answer_with origin ys aliases last found) = same last last_kept aliases found is.4 in
        differs.4 (subst (λ (x : AnswerOf). AreSame x b) (sym is.5) (subst (AreSame (answer_with origin rs aliases last found)) other alike))
