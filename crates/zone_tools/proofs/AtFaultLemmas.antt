-- The tests of records tell which are at fault.
use Rattle.std.proofs.Common.{◌≡◌, ◌↔◌, ◌⊎◌, List, [], ◌∷◌, length, eqb, ne_eqb, arith, Bool, true, false, cond, not, ◌&&◌, ◌||◌, Option, Some, None, refl, sym, ap, subst, ◌∙◌, inl, inr}
use Rattle.std.specs.Bool.{Decides}
use Rattle.std.specs.List.{Contains, list_any}
use Rattle.std.proofs.lemmas.Bool.{and_parts}
use Rattle.std.proofs.lemmas.Bool.Decides.{Decides-and, Decides-at, Decides-not, Decides-or, Decides-like}
use Rattle.dns_names.specs.Labels.{IsWithin, IsBelow, is_within}
use Rattle.dns_names.specs.Order.{same_name}
use Rattle.dns_names.proofs.NameLemmas.{same_name-Decides, is_within-Decides}
use Rattle.dns_data.specs.declared.record.Record.{Record}
use Rattle.dns_data.specs.declared.record_type.RecordType.{RecordType}
use Rattle.dns_data.specs.declared.record_type.RecordType.TheVariants as types
use Rattle.dns_data.specs.declared.rdata.Data.{Data}
use Rattle.dns_data.specs.declared.rdata.Data.TheVariants as variants
use Rattle.dns_data.specs.Rdata.{type_of}
use Rattle.zone_core.specs.Delegations.{is_below, server_in, servers_in, IsCutAt, HasAddress}
use Rattle.zone_core.proofs.MetLemmas.{Among, among_of, of_among, any_is, is_any, among_append}
use Rattle.zone_core.proofs.BelowLemmas.{Name, below-Decides, within_within}
use Rattle.zone_tools.specs.declared.zone_rule.ZoneRule.{ZoneRule}
use Rattle.zone_tools.specs.declared.zone_rule.ZoneRule.TheVariants.{HostName, AliasTarget, MissingAddress, MissingGlue, BelowCut, DsWithoutNs, WildcardNs, DigestLength, WeakDigest, AddressName, UnreadOctet, DanglingAlias}
use Rattle.zone_tools.specs.HostNames.{has_host_names}
use Rattle.zone_tools.specs.RecordFaults.{is_wildcard_server, is_fit_digest, is_sha1, points_to_address, is_unread_record}
use Rattle.zone_tools.specs.ZoneRules.{server_of, HasType, IsAlias, IsAddressed, IsDelegated, IsBelowCut, IsOccluded, IsGlue, AnswersWith, NamesNothing, IsAtFault}
use Rattle.zone_tools.specs.ZoneTests.{is_ns, is_cname, is_ds, is_address, records_at, some_type, answering, is_cut, is_delegated, is_below_cut, is_occluded, is_server, broken_by, broken_by_server, is_missing, dangles_by, is_rule, is_at_fault}
use Rattle.zone_tools.proofs.AnswerLemmas.{some_type-Decides, answers-Decides, own_answers}

-- ---- types

abbrev IsType : RecordType → (RecordType → Bool) → Type 0
IsType t test = (s : RecordType) → Decides (test s) (s ≡ t)

ns_type : IsType types.Ns is_ns
ns_type types.Ns = (λ e. refl, λ e. refl)
ns_type s = (λ e. absurd cc, λ e. absurd cc)

cname_type : IsType types.Cname is_cname
cname_type types.Cname = (λ e. refl, λ e. refl)
cname_type s = (λ e. absurd cc, λ e. absurd cc)

ds_type : IsType types.Ds is_ds
ds_type types.Ds = (λ e. refl, λ e. refl)
ds_type s = (λ e. absurd cc, λ e. absurd cc)

address_type : (s : RecordType) → Decides (is_address s) ((s ≡ types.A) ⊎ (s ≡ types.Aaaa))
address_type types.A = (λ e. inl refl, λ e. refl)
address_type types.Aaaa = (λ e. inr refl, λ e. refl)
address_type s = (λ e. absurd cc, λ e. (elim e [ inl f ↦ absurd cc | inr f ↦ absurd cc ]))

-- ---- records at a name

both_true : (a b : Bool) → a ≡ true → b ≡ true → (a && b) ≡ true
both_true a b e f = (λ i. e i && f i)

module _ (rs : List Record) where
  pub has_type-Decides : (test : RecordType → Bool) (t : RecordType) → IsType t test → (name : Name) → Decides (some_type test (records_at rs name)) (HasType rs name t)
  has_type-Decides test t tells name = some_type-Decides rs test (λ s. s ≡ t) tells name

  pub has_address-Decides : (name : Name) → Decides (some_type is_address (records_at rs name)) (HasAddress rs name)
  has_address-Decides name = some_type-Decides rs is_address (λ s. (s ≡ types.A) ⊎ (s ≡ types.Aaaa)) address_type name

  -- ---- glue

  server_named : (d : Data) (name : Name) → Among name (server_in d) ↔ (d ≡ variants.Ns name)
  server_named (variants.Ns s) name = (λ a. (elim a [ inl same ↦ ap variants.Ns (sym same) | inr none ↦ absurd none ]), λ e. inl (sym (ns_is s name e)))
    where
      ns_is : (a b : Name) → variants.Ns a ≡ variants.Ns b → a ≡ b
      ns_is a b e = cc
  server_named d name = (λ a. absurd a, λ e. absurd cc)

servers_are : (rs : List Record) (name : Name) → Among name (servers_in rs) ↔ ((r : Record) × Among r rs × (r.rdata ≡ variants.Ns name))
servers_are [] name = (λ a. absurd a, λ a. absurd a.1)
servers_are (x ∷ rs) name =
    let parts = among_append (server_in x.rdata) (servers_in rs) name in
    let one = server_named rs x.rdata name in
    let rest = servers_are rs name in (
      λ a. (elim (parts.0 a) [ inl here ↦ (x, inl refl, one.0 here) | inr later ↦ (let found = rest.0 later in (found.0, inr found.1, found.2)) ]),
      λ a. (elim (a.1) [
        | inl same ↦ parts.1 (inl (one.1 (ap (λ (r : Record). r.rdata) (sym same) ∙ a.2)))
        | inr later ↦ parts.1 (inr (rest.1 (a.0, later, a.2)))
      ]),
    )

module _ (origin : Name) (rs : List Record) where
  server-Decides : (name : Name) → Decides (is_server rs name) ((r : Record) × Contains rs r × (r.rdata ≡ variants.Ns name))
  server-Decides name = (
    λ e.
        let found = any_is (same_name name) (servers_in rs) e in
        let same : found.0 ≡ name = sym ((same_name-Decides name found.0).0 found.2) in
        let r = (servers_are rs name).0 (subst (λ (n : Name). Among n (servers_in rs)) same found.1) in
        (r.0, of_among rs r.0 r.1, r.2),
    λ has. is_any (same_name name) (servers_in rs) name ((servers_are rs name).1 (has.0, among_of rs has.0 has.1, has.2)) ((same_name-Decides name name).1 refl),
  )

  glue-Decides : (r : Record) → Decides (is_address (type_of r.rdata) && is_server rs r.owner) (IsGlue rs r)
  glue-Decides r = Decides-and (is_address (type_of r.rdata)) (is_server rs r.owner) (address_type (type_of r.rdata)) (server-Decides r.owner)

  -- ---- cuts

  cut-Decides : (r : Record) → Decides (is_cut origin r) ((type_of r.rdata ≡ types.Ns) × IsBelow r.owner origin)
  cut-Decides r = Decides-and (is_ns (type_of r.rdata)) (is_below r.owner origin) (ns_type (type_of r.rdata)) (below-Decides r.owner origin)

  -- some cut is so to a name
  cuts-Decides : (test : Name → Name → Bool) (P : Name → Name → Type 0) → ((a b : Name) → Decides (test a b) (P a b)) → (name : Name)
      → Decides (list_any (λ r. is_cut origin r && test name r.owner) rs) ((child : Name) × IsCutAt origin rs child × P name child)
  cuts-Decides test P tells name = (
    λ e.
        let found = any_is (λ r. is_cut origin r && test name r.owner) rs e in
        let r = found.0 in
        let both = and_parts (is_cut origin r) (test name r.owner) found.2 in
        let cut = (cut-Decides r).0 both.0 in
        (r.owner, (cut.1, (r, of_among rs r found.1, refl, cut.0)), (tells name r.owner).0 both.1),
    λ has.
        let child = has.0 in
        let r = has.1.1.0 in
        let at : r.owner ≡ child = has.1.1.2 in
        is_any (λ r. is_cut origin r && test name r.owner) rs r (among_of rs r has.1.1.1)
        (both_true (is_cut origin r) (test name r.owner) ((cut-Decides r).1 (has.1.1.3, subst (λ (n : Name). IsBelow n origin) (sym at) has.1.0)) (ap (test name) at ∙ (tells name child).1 has.2)),
  )

  pub delegated-Decides : (name : Name) → Decides (is_delegated origin rs name) (IsDelegated origin rs name)
  delegated-Decides name = cuts-Decides is_within IsWithin is_within-Decides name

  pub below_cut-Decides : (name : Name) → Decides (is_below_cut origin rs name) (IsBelowCut origin rs name)
  below_cut-Decides name = cuts-Decides is_below IsBelow below-Decides name

  pub occluded-Decides : (r : Record) → Decides (is_occluded origin rs r) (IsOccluded origin rs r)
  occluded-Decides r =
      let t = type_of r.rdata in
      Decides-and (is_delegated origin rs r.owner) (not ((is_ns t || is_ds t) && not (is_below_cut origin rs r.owner))) (delegated-Decides r.owner)
      (Decides-not ((is_ns t || is_ds t) && not (is_below_cut origin rs r.owner))
      (Decides-and (is_ns t || is_ds t) (not (is_below_cut origin rs r.owner)) (Decides-or (is_ns t) (is_ds t) (ns_type t) (ds_type t)) (Decides-not (is_below_cut origin rs r.owner) (below_cut-Decides r.owner))))

  -- ---- the rules on servers

  delegated_within : (name : Name) → IsDelegated origin rs name → IsWithin name origin
  delegated_within name d = within_within name d.0 origin d.2 d.1.0.0

-- an NS names the server that it has
ns_server : (d : Data) (s : Name) → server_of d ≡ Some s → type_of d ≡ types.Ns → d ≡ variants.Ns s
ns_server (variants.Ns t) s e f = ap variants.Ns (let same : t ≡ s = cc in same)
ns_server d s e f = absurd cc

flipped : (b : Bool) → not b ≡ true → b ≡ false
flipped true e = absurd cc
flipped false e = refl

-- what is told of a server, from what is asked of it and of the records that answer for it
abbrev verdict : Bool → Bool → Bool → Bool → Bool → Bool → Bool → Bool → Option ZoneRule
verdict inside address alias delegated cuts occluded answer_alias answer_address =
    cond (not inside) None
    (cond (address && not alias) None
    (cond delegated (cond (not address && cuts && not occluded) (Some MissingGlue) None)
    (cond occluded None (cond answer_alias (Some AliasTarget) (cond answer_address None (Some MissingAddress))))))

record Tells (inside address alias delegated cuts occluded answer_alias answer_address : Bool) : Type 0 where
  alias_target : is_rule AliasTarget (verdict inside address alias delegated cuts occluded answer_alias answer_address) ≡ (answer_alias && inside && not delegated && not occluded)
  missing_address : is_rule MissingAddress (verdict inside address alias delegated cuts occluded answer_alias answer_address) ≡ (not answer_alias && not answer_address && inside && not delegated && not occluded)
  missing_glue : is_rule MissingGlue (verdict inside address alias delegated cuts occluded answer_alias answer_address) ≡ (not address && inside && delegated && cuts && not occluded)

-- a name with an address and without an alias answers so
tells : (inside address alias delegated cuts occluded answer_alias answer_address : Bool) → ((address && not alias) ≡ true → (answer_alias ≡ false) × (answer_address ≡ true))
    → Tells inside address alias delegated cuts occluded answer_alias answer_address
tells false true true d c o true true own = record { alias_target = refl; missing_address = refl; missing_glue = refl }
tells false true true d c o true false own = record { alias_target = refl; missing_address = refl; missing_glue = refl }
tells false true true d c o false true own = record { alias_target = refl; missing_address = refl; missing_glue = refl }
tells false true true d c o false false own = record { alias_target = refl; missing_address = refl; missing_glue = refl }
tells false true false d c o true true own = record { alias_target = refl; missing_address = refl; missing_glue = refl }
tells false true false d c o true false own = record { alias_target = refl; missing_address = refl; missing_glue = refl }
tells false true false d c o false true own = record { alias_target = refl; missing_address = refl; missing_glue = refl }
tells false true false d c o false false own = record { alias_target = refl; missing_address = refl; missing_glue = refl }
tells false false true d c o true true own = record { alias_target = refl; missing_address = refl; missing_glue = refl }
tells false false true d c o true false own = record { alias_target = refl; missing_address = refl; missing_glue = refl }
tells false false true d c o false true own = record { alias_target = refl; missing_address = refl; missing_glue = refl }
tells false false true d c o false false own = record { alias_target = refl; missing_address = refl; missing_glue = refl }
tells false false false d c o true true own = record { alias_target = refl; missing_address = refl; missing_glue = refl }
tells false false false d c o true false own = record { alias_target = refl; missing_address = refl; missing_glue = refl }
tells false false false d c o false true own = record { alias_target = refl; missing_address = refl; missing_glue = refl }
tells false false false d c o false false own = record { alias_target = refl; missing_address = refl; missing_glue = refl }
tells true true false d c o true true own = absurd (let e = own refl in cc (e.0, e.1))
tells true true false d c o true false own = absurd (let e = own refl in cc (e.0, e.1))
tells true true false d c o false true own = record { alias_target = refl; missing_address = refl; missing_glue = refl }
tells true true false d c o false false own = absurd (let e = own refl in cc (e.0, e.1))
tells true true true true c o true true own = record { alias_target = refl; missing_address = refl; missing_glue = refl }
tells true true true false c true true true own = record { alias_target = refl; missing_address = refl; missing_glue = refl }
tells true true true false c false true true own = record { alias_target = refl; missing_address = refl; missing_glue = refl }
tells true true true true c o true false own = record { alias_target = refl; missing_address = refl; missing_glue = refl }
tells true true true false c true true false own = record { alias_target = refl; missing_address = refl; missing_glue = refl }
tells true true true false c false true false own = record { alias_target = refl; missing_address = refl; missing_glue = refl }
tells true true true true c o false true own = record { alias_target = refl; missing_address = refl; missing_glue = refl }
tells true true true false c true false true own = record { alias_target = refl; missing_address = refl; missing_glue = refl }
tells true true true false c false false true own = record { alias_target = refl; missing_address = refl; missing_glue = refl }
tells true true true true c o false false own = record { alias_target = refl; missing_address = refl; missing_glue = refl }
tells true true true false c true false false own = record { alias_target = refl; missing_address = refl; missing_glue = refl }
tells true true true false c false false false own = record { alias_target = refl; missing_address = refl; missing_glue = refl }
tells true false true true false o true true own = record { alias_target = refl; missing_address = refl; missing_glue = refl }
tells true false true true true true true true own = record { alias_target = refl; missing_address = refl; missing_glue = refl }
tells true false true true true false true true own = record { alias_target = refl; missing_address = refl; missing_glue = refl }
tells true false true false c true true true own = record { alias_target = refl; missing_address = refl; missing_glue = refl }
tells true false true false c false true true own = record { alias_target = refl; missing_address = refl; missing_glue = refl }
tells true false true true false o true false own = record { alias_target = refl; missing_address = refl; missing_glue = refl }
tells true false true true true true true false own = record { alias_target = refl; missing_address = refl; missing_glue = refl }
tells true false true true true false true false own = record { alias_target = refl; missing_address = refl; missing_glue = refl }
tells true false true false c true true false own = record { alias_target = refl; missing_address = refl; missing_glue = refl }
tells true false true false c false true false own = record { alias_target = refl; missing_address = refl; missing_glue = refl }
tells true false true true false o false true own = record { alias_target = refl; missing_address = refl; missing_glue = refl }
tells true false true true true true false true own = record { alias_target = refl; missing_address = refl; missing_glue = refl }
tells true false true true true false false true own = record { alias_target = refl; missing_address = refl; missing_glue = refl }
tells true false true false c true false true own = record { alias_target = refl; missing_address = refl; missing_glue = refl }
tells true false true false c false false true own = record { alias_target = refl; missing_address = refl; missing_glue = refl }
tells true false true true false o false false own = record { alias_target = refl; missing_address = refl; missing_glue = refl }
tells true false true true true true false false own = record { alias_target = refl; missing_address = refl; missing_glue = refl }
tells true false true true true false false false own = record { alias_target = refl; missing_address = refl; missing_glue = refl }
tells true false true false c true false false own = record { alias_target = refl; missing_address = refl; missing_glue = refl }
tells true false true false c false false false own = record { alias_target = refl; missing_address = refl; missing_glue = refl }
tells true false false true false o true true own = record { alias_target = refl; missing_address = refl; missing_glue = refl }
tells true false false true true true true true own = record { alias_target = refl; missing_address = refl; missing_glue = refl }
tells true false false true true false true true own = record { alias_target = refl; missing_address = refl; missing_glue = refl }
tells true false false false c true true true own = record { alias_target = refl; missing_address = refl; missing_glue = refl }
tells true false false false c false true true own = record { alias_target = refl; missing_address = refl; missing_glue = refl }
tells true false false true false o true false own = record { alias_target = refl; missing_address = refl; missing_glue = refl }
tells true false false true true true true false own = record { alias_target = refl; missing_address = refl; missing_glue = refl }
tells true false false true true false true false own = record { alias_target = refl; missing_address = refl; missing_glue = refl }
tells true false false false c true true false own = record { alias_target = refl; missing_address = refl; missing_glue = refl }
tells true false false false c false true false own = record { alias_target = refl; missing_address = refl; missing_glue = refl }
tells true false false true false o false true own = record { alias_target = refl; missing_address = refl; missing_glue = refl }
tells true false false true true true false true own = record { alias_target = refl; missing_address = refl; missing_glue = refl }
tells true false false true true false false true own = record { alias_target = refl; missing_address = refl; missing_glue = refl }
tells true false false false c true false true own = record { alias_target = refl; missing_address = refl; missing_glue = refl }
tells true false false false c false false true own = record { alias_target = refl; missing_address = refl; missing_glue = refl }
tells true false false true false o false false own = record { alias_target = refl; missing_address = refl; missing_glue = refl }
tells true false false true true true false false own = record { alias_target = refl; missing_address = refl; missing_glue = refl }
tells true false false true true false false false own = record { alias_target = refl; missing_address = refl; missing_glue = refl }
tells true false false false c true false false own = record { alias_target = refl; missing_address = refl; missing_glue = refl }
tells true false false false c false false false own = record { alias_target = refl; missing_address = refl; missing_glue = refl }

module _ (origin : Name) (rs : List Record) (r : Record) where
  -- the rule that a server breaks
  module _ (s : Name) (e : server_of r.rdata ≡ Some s) where
    abbrev inside : Bool
    inside = is_within s origin

    abbrev address : Bool
    address = some_type is_address (records_at rs s)

    abbrev alias : Bool
    alias = some_type is_cname (records_at rs s)

    abbrev delegated : Bool
    delegated = is_delegated origin rs s

    abbrev cuts : Bool
    cuts = is_cut origin r

    abbrev occluded : Bool
    occluded = is_occluded origin rs r

    abbrev answer_alias : Bool
    answer_alias = some_type is_cname (answering rs s)

    abbrev answer_address : Bool
    answer_address = some_type is_address (answering rs s)

    own : (address && not alias) ≡ true → (answer_alias ≡ false) × (answer_address ≡ true)
    own f =
        let both = and_parts address (not alias) f in
        let same = own_answers rs is_address s both.0 in
        (ap (λ (xs : List Record). some_type is_cname xs) same ∙ flipped alias both.1, ap (λ (xs : List Record). some_type is_address xs) same ∙ both.0)

    it_tells : Tells inside address alias delegated cuts occluded answer_alias answer_address
    it_tells = tells inside address alias delegated cuts occluded answer_alias answer_address own

    alias-Decides : Decides answer_alias (IsAlias rs s)
    alias-Decides = answers-Decides rs is_cname (λ t. t ≡ types.Cname) cname_type s

    addressed-Decides : Decides answer_address (IsAddressed rs s)
    addressed-Decides = answers-Decides rs is_address (λ t. (t ≡ types.A) ⊎ (t ≡ types.Aaaa)) address_type s

    address-Decides : Decides address (HasAddress rs s)
    address-Decides = has_address-Decides rs s

    inside-Decides : Decides inside (IsWithin s origin)
    inside-Decides = is_within-Decides s origin

    visible-Decides : Decides (not occluded) (¬ IsOccluded origin rs r)
    visible-Decides = Decides-not occluded (occluded-Decides origin rs r)

    own-Decides : Decides (not delegated) (¬ IsDelegated origin rs s)
    own-Decides = Decides-not delegated (delegated-Decides origin rs s)

    one_server : (t : Name) → server_of r.rdata ≡ Some t → t ≡ s
    one_server t f = let g : Some t ≡ Some s = sym f ∙ e in cc

    alias_fault : Decides (is_rule AliasTarget (broken_by origin rs r s)) (IsAtFault AliasTarget origin rs r)
    alias_fault =
        Decides-at (is_rule AliasTarget (broken_by origin rs r s)) (answer_alias && inside && not delegated && not occluded) (it_tells.alias_target)
        (Decides-like (answer_alias && inside && not delegated && not occluded)
        (λ p. (s, record { named = e; visible = p.1; within = p.0.0.1; answered = p.0.1 }, p.0.0.0))
        (λ f. subst (λ (t : Name). ((IsAlias rs t × IsWithin t origin) × ¬ IsDelegated origin rs t) × ¬ IsOccluded origin rs r) (one_server f.0 f.1.named) (((f.2, f.1.within), f.1.answered), f.1.visible))
        (Decides-and (answer_alias && inside && not delegated) (not occluded) (Decides-and (answer_alias && inside) (not delegated) (Decides-and answer_alias inside alias-Decides inside-Decides) own-Decides) visible-Decides))

    address_fault : Decides (is_rule MissingAddress (broken_by origin rs r s)) (IsAtFault MissingAddress origin rs r)
    address_fault =
        Decides-at (is_rule MissingAddress (broken_by origin rs r s)) (not answer_alias && not answer_address && inside && not delegated && not occluded) (it_tells.missing_address)
        (Decides-like (not answer_alias && not answer_address && inside && not delegated && not occluded)
        (λ p. (s, record { named = e; visible = p.1; within = p.0.0.1; answered = p.0.1 }, p.0.0.0.0, p.0.0.0.1))
        (λ f. subst (λ (t : Name). (((¬ IsAlias rs t × ¬ IsAddressed rs t) × IsWithin t origin) × ¬ IsDelegated origin rs t) × ¬ IsOccluded origin rs r) (one_server f.0 f.1.named) ((((f.2, f.3), f.1.within), f.1.answered), f.1.visible))
        (Decides-and (not answer_alias && not answer_address && inside && not delegated) (not occluded)
        (Decides-and (not answer_alias && not answer_address && inside) (not delegated)
        (Decides-and (not answer_alias && not answer_address) inside (Decides-and (not answer_alias) (not answer_address) (Decides-not answer_alias alias-Decides) (Decides-not answer_address addressed-Decides)) inside-Decides) own-Decides) visible-Decides))

    glue_fault : Decides (is_rule MissingGlue (broken_by origin rs r s)) (IsAtFault MissingGlue origin rs r)
    glue_fault =
        Decides-at (is_rule MissingGlue (broken_by origin rs r s)) (not address && inside && delegated && cuts && not occluded) (it_tells.missing_glue)
        (Decides-like (not address && inside && delegated && cuts && not occluded)
        (λ p. (s, record { named = ns_server r.rdata s e p.0.1.0; visible = p.1; cut = p.0.1.1; delegated = p.0.0.1 }, p.0.0.0.0))
        (λ f.
        let named = f.1.named in
        subst (λ (t : Name). (((¬ HasAddress rs t × IsWithin t origin) × IsDelegated origin rs t) × ((type_of r.rdata ≡ types.Ns) × IsBelow r.owner origin)) × ¬ IsOccluded origin rs r) (one_server f.0 (ap server_of named))
        ((((f.2, delegated_within origin rs f.0 f.1.delegated), f.1.delegated), (ap (λ (d : Data). type_of d) named, f.1.cut)), f.1.visible))
        (Decides-and (not address && inside && delegated && cuts) (not occluded)
        (Decides-and (not address && inside && delegated) cuts
        (Decides-and (not address && inside) delegated (Decides-and (not address) inside (Decides-not address address-Decides) inside-Decides) (delegated-Decides origin rs s)) (cut-Decides origin rs r)) visible-Decides))

  by_server : (o : Option Name) → server_of r.rdata ≡ o
      → Decides (is_rule AliasTarget (broken_by_server origin rs r o)) (IsAtFault AliasTarget origin rs r)
      × Decides (is_rule MissingAddress (broken_by_server origin rs r o)) (IsAtFault MissingAddress origin rs r)
      × Decides (is_rule MissingGlue (broken_by_server origin rs r o)) (IsAtFault MissingGlue origin rs r)
  by_server None e =
      let none : (s : Name) → server_of r.rdata ≡ Some s → ⊥ = λ s f. (let g : None ≡ Some s = sym e ∙ f in cc) in (
        (λ f. absurd cc, λ f. absurd (none f.0 f.1.named)),
        (λ f. absurd cc, λ f. absurd (none f.0 f.1.named)),
        (λ f. absurd cc, λ f. absurd (none f.0 (ap server_of f.1.named))),
      )
  by_server (Some s) e = (alias_fault s e, address_fault s e, glue_fault s e)

  failed-Decides : (b : Bool) → Decides (not b) (b ≡ false)
  failed-Decides true = (λ e. absurd cc, λ e. absurd cc)
  failed-Decides false = (λ e. refl, λ e. refl)

  passed-Decides : (b : Bool) → Decides b (b ≡ true)
  passed-Decides b = (λ e. e, λ e. e)

  -- an alias of nothing
  empty_test : (xs : List Record) → eqb (length xs) 0 ≡ not (some_type (λ t. true) xs)
  empty_test [] = refl
  empty_test (x ∷ xs) = ne_eqb (length (x ∷ xs)) 0 (λ e. omega (arith, e))

  missing-Decides : (target : Name) → r.rdata ≡ variants.Cname target → Decides (is_missing origin rs r target) ((t : Name) × NamesNothing origin rs r t)
  missing-Decides target e =
      let nothing = Decides-at (eqb (length (answering rs target)) 0) (not (some_type (λ t. true) (answering rs target))) (empty_test (answering rs target))
      (Decides-not (some_type (λ t. true) (answering rs target)) (answers-Decides rs (λ t. true) (λ t. Unit {0}) (λ t. ((λ f. tt), (λ f. refl))) target)) in
      Decides-like (is_missing origin rs r target)
      (λ p. (target, record { named = e; visible = p.0.1; within = p.0.0.0; answered = p.0.0.1; nothing = p.1 }))
      (λ f.
      let same : f.0 ≡ target = (let g : variants.Cname f.0 ≡ variants.Cname target = sym f.1.named ∙ e in cc) in
      subst (λ (t : Name). ((IsWithin t origin × ¬ IsDelegated origin rs t) × ¬ IsOccluded origin rs r) × ¬ AnswersWith (λ s. Unit {0}) rs t) same
      (((f.1.within, f.1.answered), f.1.visible), f.1.nothing))
      (Decides-and (is_within target origin && not (is_delegated origin rs target) && not (is_occluded origin rs r)) (eqb (length (answering rs target)) 0)
      (Decides-and (is_within target origin && not (is_delegated origin rs target)) (not (is_occluded origin rs r))
      (Decides-and (is_within target origin) (not (is_delegated origin rs target)) (is_within-Decides target origin)
      (Decides-not (is_delegated origin rs target) (delegated-Decides origin rs target))) (Decides-not (is_occluded origin rs r) (occluded-Decides origin rs r))) nothing)

  -- data of another type are no alias
  no_alias : (d : Data) → ((target : Name) → d ≡ variants.Cname target → ⊥) → r.rdata ≡ d → Decides false ((t : Name) × NamesNothing origin rs r t)
  no_alias d other e = (λ f. absurd cc, λ f. absurd (other f.0 (sym e ∙ f.1.named)))

  dangles-Decides : (d : Data) → r.rdata ≡ d → Decides (dangles_by origin rs r d) ((t : Name) × NamesNothing origin rs r t)
  dangles-Decides (variants.Cname target) e = missing-Decides target e
  dangles-Decides rdata e = no_alias rdata (λ target f. cc) e

  -- a test tells whether a record is at fault by its rule
  pub fault-Decides : (rule : ZoneRule) → Decides (is_at_fault rule origin rs r) (IsAtFault rule origin rs r)
  fault-Decides HostName = failed-Decides (has_host_names r)
  fault-Decides AliasTarget = (by_server (server_of r.rdata) refl).0
  fault-Decides MissingAddress = (by_server (server_of r.rdata) refl).1
  fault-Decides MissingGlue = (by_server (server_of r.rdata) refl).2
  fault-Decides BelowCut =
      Decides-and (is_occluded origin rs r) (not (is_address (type_of r.rdata) && is_server rs r.owner)) (occluded-Decides origin rs r)
      (Decides-not (is_address (type_of r.rdata) && is_server rs r.owner) (glue-Decides origin rs r))
  fault-Decides DsWithoutNs =
      Decides-and (is_ds (type_of r.rdata)) (not (some_type is_ns (records_at rs r.owner))) (ds_type (type_of r.rdata))
      (Decides-not (some_type is_ns (records_at rs r.owner)) (has_type-Decides rs is_ns types.Ns ns_type r.owner))
  fault-Decides WildcardNs = passed-Decides (is_wildcard_server r.owner r.rdata)
  fault-Decides DigestLength = failed-Decides (is_fit_digest r.rdata)
  fault-Decides WeakDigest = passed-Decides (is_sha1 r.rdata)
  fault-Decides AddressName = passed-Decides (points_to_address r.rdata)
  fault-Decides UnreadOctet = passed-Decides (is_unread_record r)
  fault-Decides DanglingAlias = dangles-Decides r.rdata refl
