-- The prerequisites on sets only: when they are met, and what each of them tests.
use Rattle.std.proofs.Common.{◌≡◌, ◌≢◌, ◌⊎◌, ℕ, List, [], ◌∷◌, length, Bool, true, false, ◌&&◌, if◌then◌else◌, inl, inr, refl, sym, ap, subst, ◌∙◌, eqb-true}
use Rattle.std.specs.Prelude.{◌==◌}
use Rattle.std.specs.List.{filter, list_all, zip}
use Rattle.std.specs.FinMap.{get}
use Rattle.std.proofs.lemmas.Bool.{and_parts, false_from_ne_true}
use Rattle.dns_data.specs.declared.record.Record.{Record}
use Rattle.dns_data.specs.declared.record_type.RecordType.{RecordType}
use Rattle.dns_data.specs.declared.record_type.RecordType.TheVariants as types
use Rattle.dns_data.specs.Rdata.{type_of}
use Rattle.dns_data.specs.Types.{kept_types}
use Rattle.zone_core.specs.declared.update.Operation.{Operation}
use Rattle.zone_core.specs.declared.update.Prerequisite.{Prerequisite}
use Rattle.zone_core.specs.declared.update.Prerequisite.TheVariants.{RrsetEquals, RrsetAbsent, NameUnused}
use Rattle.zone_core.specs.Sets.{Records, Key, key_of, rank_of, listing, IsIn}
use Rattle.zone_core.specs.Zones.{ZoneOf, is_soa, is_cname}
use Rattle.zone_core.specs.Accounts.{Stands}
use Rattle.zone_core.specs.Met.{IsMet}
use Rattle.zone_core.proofs.MetLemmas.{Among, among_of}
use Rattle.zone_core.proofs.ZoneLemmas.{Keys, is_kind, kind, no}
use Rattle.zone_tools.specs.Differences.{is_equal, operations}
use Rattle.cli_core.specs.declared.job.GuardScope.TheVariants.{Sets}
use Rattle.cli_updates.specs.Guards.{absent, changes_set, comes_first, guards_of, is_below_origin, is_first, is_new, lacks, set_like, there, types_absent}
use Rattle.cli_updates.specs.GuardPromises.{HaveSameSet, IsTestFor}
use Rattle.cli_updates.specs.Diff.{IsReadyFor, NoSoaIsTestedFor, SetsAreEnough, SetsAreTested}
use Rattle.cli_updates.proofs.GuardLaws.{all_among, among_all, among_filter, guards_met, is_comer, listed_in, none_among, none_stands, parts, stands_like}
use Rattle.cli_updates.proofs.OperationLaws.{unequal}
use Rattle.cli_updates.proofs.DiffLaws.{new_keys, old_keys}

-- ---- a set that comes

module _ (origin : List (List ℕ)) (old new : Records) (z : Keys origin old) (n : Keys origin new) where
  abbrev ops : List Operation
  ops = operations origin old new

  -- is not that of the SOA, which both zones have
  comer_off : (r : Record) → IsIn r new → is_new old r ≡ true → type_of r.rdata ≢ types.Soa
  comer_off r here fresh soa =
      let s : Record = z.soa_there.0 in
      let own = z.rows.kept z.soa s z.soa_there.1 in
      let owner : s.owner ≡ r.owner =
      ap (λ (k : Key). k.0) own.0 ∙ z.soa_origin ∙ sym n.soa_origin ∙ ap (λ (k : Key). k.0) (sym (n.soa_alone (key_of r) (r, here) (ap rank_of soa))) in
      let type : type_of s.rdata ≡ type_of r.rdata = is_kind s types.Soa (kind (key_of s) types.Soa (ap (λ (k : Key). k.1) own.0 ∙ z.soa_type)) ∙ sym soa in
      none_stands old z.rows.kept r.owner (type_of r.rdata) fresh s (ap (get old) own.0 ∙ z.soa_there.1, owner, type)

  -- and changes
  comer_changes : (r : Record) → IsIn r new → is_new old r ≡ true → changes_set old new ops r ≡ true
  comer_changes r here fresh =
      unequal origin old new z n r (false_from_ne_true (is_soa (key_of r)) (λ e. comer_off r here fresh (is_kind r types.Soa e)))
      (λ e.
      let both = and_parts (length (set_like old r) == length (set_like new r)) (list_all (λ p. is_equal p.0 p.1) (zip (set_like old r) (set_like new r))) e in
      let bare : length (set_like old r) ≡ 0 = eqb-true (length (set_like old r)) 0 fresh in
      let none : (length (set_like new r) == 0) ≡ true = ap (λ k. k == 0) (sym (eqb-true (length (set_like old r)) (length (set_like new r)) both.0) ∙ bare) in
      none_among (set_like new r) r none (stands_like new n.rows.kept r.owner (type_of r.rdata) r (here, refl, refl)))

  -- what is tested of the first record of such a set
  module _ (first : Record) (here : IsIn first new) (fresh : is_new old first ≡ true) where
    abbrev Tested : RecordType → Type 0
    Tested t = (t ≡ type_of first.rdata) ⊎ (((t ≡ types.Cname) × (type_of first.rdata ≢ types.Cname)) ⊎ ((type_of first.rdata ≡ types.Cname) × (t ≢ types.Soa)))

    types_tested : (t : RecordType) → Among t (types_absent old new first)
        → Tested t
    types_tested t a = by_alias (is_cname (key_of first)) refl (lacks old first.owner types.Cname && comes_first old new first) a
      where
        by_alias : (b : Bool) → is_cname (key_of first) ≡ b → (c : Bool)
            → Among t (if b then filter (λ u. is_below_origin u && lacks old first.owner u) kept_types
            else (if c then type_of first.rdata ∷ types.Cname ∷ [] else type_of first.rdata ∷ []))
            → Tested t
        by_alias true e c h =
            let below = (and_parts (is_below_origin t) (lacks old first.owner t) (among_filter (λ u. is_below_origin u && lacks old first.owner u) kept_types t h).1).0 in
            inr (inr (is_kind first types.Cname e, λ soa. no (is_below_origin t) below (ap is_below_origin soa)))
        by_alias false e true h = (elim h [
          | inl same ↦ inl same
          | inr more ↦ (elim more [ inl same ↦ inr (inl (same, λ alias. no (is_cname (key_of first)) (kind (key_of first) types.Cname (ap rank_of alias)) e)) | inr none ↦ absurd none ])
        ])
        by_alias false e false h = (elim h [ inl same ↦ inl same | inr none ↦ absurd none ])

-- ---- the laws

abbrev changes : (old new : Records) (ops : List Operation) (r : Record) → Among r (filter (λ s. is_first old s && changes_set old new ops s) (listing old)) → changes_set old new ops r ≡ true
changes old new ops r a = (and_parts (is_first old r) (changes_set old new ops r) (among_filter (λ s. is_first old s && changes_set old new ops s) (listing old) r a).1).1

module _ (old new now : ZoneOf) (m : IsReadyFor old new now) where
  abbrev all : List Operation
  all = operations old.origin old.records new.records

  abbrev asked : List Prerequisite
  asked = guards_of Sets old.records new.records all

  -- a set that is there
  met_there : (first one : Record) → Stands old.records first.owner (type_of first.rdata) one → HaveSameSet now.records old.records first → IsMet old.records asked (there one)
      → IsMet now.records asked (there one)
  met_there first one stands same met d type = (
    λ has. (met d type).0 (let before = (same d).0 (has.0, (has.1.0, has.1.1 ∙ stands.1, has.1.2 ∙ type ∙ stands.2), has.2) in
        (before.0, (before.1.0, before.1.1 ∙ sym stands.1, before.1.2 ∙ sym (type ∙ stands.2)), before.2)),
    λ con. let before = (met d type).1 con in
        let after = (same d).1 (before.0, (before.1.0, before.1.1 ∙ stands.1, before.1.2 ∙ type ∙ stands.2), before.2) in
        (after.0, (after.1.0, after.1.1 ∙ sym stands.1, after.1.2 ∙ sym (type ∙ stands.2)), after.2),
  )

  -- a type that is not there
  met_absent : (first : Record) → IsIn first new.records → is_new old.records first ≡ true → (t : RecordType) → Among t (types_absent old.records new.records first)
      → lacks old.records first.owner t ≡ true → IsMet now.records asked (absent first.owner t)
  met_absent first here fresh t a none s stands =
      let z = old_keys old new m.is_old m.is_new m.new_origin in
      let n = new_keys old new m.is_old m.is_new m.new_origin in
      let kept = m.is_old.kept in
      let room = m.room first here (none_stands old.records kept first.owner (type_of first.rdata) fresh) in
      (elim (types_tested old.origin old.records new.records z n first here fresh t a) [
        | inl own ↦ (
            let before = (m.same first (inr here) (comer_changes old.origin old.records new.records z n first here fresh) s.rdata).0 (s, (stands.0, stands.1, stands.2 ∙ own), refl) in
            none_stands old.records kept first.owner (type_of first.rdata) fresh before.0 before.1)
        | inr more ↦ (elim more [
          | inl beside ↦ room.other beside.1
              (λ x there. none_stands old.records kept first.owner t none x (there.0, there.1, there.2 ∙ sym beside.0)) s (stands.0, stands.1, stands.2 ∙ beside.0)
          | inr alias ↦ (let before = room.alias alias.0 s stands.0 stands.1 in
              none_stands old.records kept first.owner t none before.0 (before.1.0, before.1.1, before.1.2 ∙ stands.2))
        ])
      ])

  met_each : (p : Prerequisite) → Among p asked → IsMet now.records asked p
  met_each p a = elim (parts Sets old.records new.records all m.is_old.kept p a) [
    | inl t ↦ (
        let here = listed_in old.records m.is_old.kept t.first (among_filter (λ s. is_first old.records s && changes_set old.records new.records all s) (listing old.records) t.first t.among).0 in
        let before = among_all (IsMet old.records asked) asked (there t.one) (guards_met Sets old.records new.records all m.is_old.kept) (subst (λ (q : Prerequisite). Among q asked) (sym t.is) a) in
        subst (IsMet now.records asked) t.is
        (met_there t.first t.one t.stands (m.same t.first (inl here) (changes old.records new.records all t.first t.among)) before))
    | inr f ↦ (elim (f.is) [
      | inl unused ↦ absurd (let e : false ≡ true = unused.1 in cc)
      | inr none ↦ (
          let both = is_comer Sets old.records new.records all m.is_old.kept f.first f.among in
          subst (IsMet now.records asked) (sym none.1) (met_absent f.first (listed_in new.records m.is_new.kept f.first both.0) both.1 none.0 none.3 none.2))
    ])
  ]

pub sets_enough : SetsAreEnough
sets_enough old new now m = all_among (IsMet now.records (asked old new now m)) (asked old new now m) (met_each old new now m)

pub sets_tested : SetsAreTested
sets_tested old new is_old is_new same p con =
    let ops : List Operation = operations old.origin old.records new.records in
    let z = old_keys old new is_old is_new same in
    let n = new_keys old new is_old is_new same in
    (elim (parts Sets old.records new.records ops is_old.kept p (among_of (guards_of Sets old.records new.records ops) p con)) [
      | inl t ↦ (
        t.first,
        inl (listed_in old.records is_old.kept t.first (among_filter (λ s. is_first old.records s && changes_set old.records new.records ops s) (listing old.records) t.first t.among).0),
        changes old.records new.records ops t.first t.among,
        subst (IsTestFor t.first) t.is (t.stands.1, t.stands.2),
      )
      | inr f ↦ (elim (f.is) [
        | inl unused ↦ absurd (let e : false ≡ true = unused.1 in cc)
        | inr none ↦ (
            let both = is_comer Sets old.records new.records ops is_old.kept f.first f.among in
            let here = listed_in new.records is_new.kept f.first both.0 in (
              f.first,
              inr here,
              comer_changes old.origin old.records new.records z n f.first here both.1,
              subst (IsTestFor f.first) (sym none.1) (
                refl,
                (elim (types_tested old.origin old.records new.records z n f.first here both.1 none.0 none.3) [
                  | inl own ↦ inl own
                  | inr more ↦ (elim more [ inl beside ↦ inr (inl beside.0) | inr alias ↦ inr (inr alias) ])
                ]),
              ),
            ))
      ])
    ])

pub no_soa_tested : NoSoaIsTestedFor
no_soa_tested scope old new is_old is_new same name con =
    let ops : List Operation = operations old.origin old.records new.records in
    let z = old_keys old new is_old is_new same in
    let n = new_keys old new is_old is_new same in
    (elim (parts scope old.records new.records ops is_old.kept (RrsetAbsent name types.Soa) (among_of (guards_of scope old.records new.records ops) (RrsetAbsent name types.Soa) con)) [
      | inl t ↦ (let e : RrsetEquals t.one.owner t.one.rdata ≡ RrsetAbsent name types.Soa = t.is in absurd cc)
      | inr f ↦ (elim (f.is) [
        | inl unused ↦ (let e : RrsetAbsent name types.Soa ≡ NameUnused f.first.owner = unused.0 in absurd cc)
        | inr none ↦ (
            let e : RrsetAbsent name types.Soa ≡ RrsetAbsent f.first.owner none.0 = none.1 in
            let soa : none.0 ≡ types.Soa = cc in
            let both = is_comer scope old.records new.records ops is_old.kept f.first f.among in
            let here = listed_in new.records is_new.kept f.first both.0 in
            (elim (types_tested old.origin old.records new.records z n f.first here both.1 none.0 none.3) [
              | inl own ↦ comer_off old.origin old.records new.records z n f.first here both.1 (sym own ∙ soa)
              | inr more ↦ (elim more [
                | inl beside ↦ (let clash : types.Soa ≡ types.Cname = sym soa ∙ beside.0 in absurd cc)
                | inr alias ↦ alias.1 soa
              ])
            ]))
      ])
    ])
