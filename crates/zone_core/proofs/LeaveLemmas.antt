-- What an update leaves of a zone's records.
use Rattle.std.proofs.Common.{◌≡◌, ◌≢◌, inl, inr, ℕ, suc, List, [], ◌∷◌, Bool, true, false, ◌==◌, if◌then◌else◌, Some, refl, sym, ap, ◌∙◌, arith}
use Rattle.std.specs.List.{Contains}
use Rattle.std.specs.FinMap.{get}
use Rattle.std.proofs.lemmas.Bool.Decides.{nat_tests}
use Rattle.std.proofs.lemmas.Bool.{eqb-true, false_from_ne_true}
use Rattle.dns_data.specs.declared.record.Record.{Record}
use Rattle.dns_data.specs.declared.record_type.RecordType.TheVariants as types
use Rattle.dns_data.specs.Rdata.{type_of}
use Rattle.dns_data.proofs.RecordOrderLemmas.{one_rank}
use Rattle.zone_core.specs.Sets.{Records, Key, key_of, rank_of, IsIn, cut, at, is_same}
use Rattle.zone_core.specs.Zones.{ZoneOf, IsZone, IsSoaOf, serial_in, soa_at, serial_at}
use Rattle.zone_core.specs.Updates.{UpdateOf, IsUpdate, ActsWithin}
use Rattle.zone_core.specs.Effects.{effect, effects, next_version, with_next, serial_advanced}
use Rattle.zone_core.specs.Accounts.{Puts, IsPut, UpdatesLeave}
use Rattle.zone_core.specs.Versions.{Advances, UpdatesAdvance}
use Rattle.zone_core.specs.declared.update.Operation.{Operation}
use Rattle.zone_core.specs.declared.update.Operation.TheVariants.{Add, DeleteRrset, DeleteName, DeleteRecord}
use Rattle.zone_core.proofs.SetLemmas.{kept_by_put, kept_by_cut}
use Rattle.zone_core.proofs.ChangedLemmas.{one_set}
use Rattle.zone_core.proofs.ZoneLemmas.{Keys, Heir, keys_of, zone_of_keys, soa_is, at_is}
use Rattle.zone_core.proofs.VersionLemmas.{heir_of, next_type, soa_type, one_further, greater}
use Rattle.zone_core.proofs.AccountLemmas.{left_effects}

-- but for the SOA, the records with the serial advanced are those after the operations
module _ (origin : List (List ℕ)) (before after : Records) (z : Keys origin before) (heir : Heir origin before z after) (r : Record) (other : type_of r.rdata ≢ types.Soa) where
  pub next_there : get (with_next after (soa_at origin after)) (key_of r) ≡ get after (key_of r)
  next_there =
      let soa = heir.0.soa_there.0 in
      let p : Key → Bool = at soa.owner types.Soa in
      ap (λ o. get (with_next after o) (key_of r)) (soa_is origin after heir.0)
      ∙ kept_by_put (cut after p) (next_version soa) (key_of r) (λ e. other (one_rank (type_of r.rdata) types.Soa (ap (λ (q : Key). q.1) e ∙ ap rank_of (next_type soa.rdata ∙ soa_type origin before after z heir))))
      ∙ kept_by_cut after p (key_of r) (false_from_ne_true (p (key_of r)) (λ t. other (one_rank (type_of r.rdata) types.Soa (at_is soa.owner types.Soa (key_of r) t).1)))

  pub advanced_there : get (serial_advanced origin before after) (key_of r) ≡ get after (key_of r)
  advanced_there = by_same (is_same before after) refl
    where
      by_serial : (b : Bool) → get (if b then with_next after (soa_at origin after) else after) (key_of r) ≡ get after (key_of r)
      by_serial true = next_there
      by_serial false = refl

      by_same : (b : Bool) → is_same before after ≡ b → get (if b then before else (if serial_at origin before == serial_at origin after then with_next after (soa_at origin after) else after)) (key_of r) ≡ get after (key_of r)
      by_same true e = one_set before after z.rows.kept heir.0.rows.kept e (key_of r)
      by_same false e = by_serial (serial_at origin before == serial_at origin after)

pub updates_leave : UpdatesLeave
updates_leave zone update z is acts r other =
    let there = keys_of zone.origin zone.records z in
    let after = effects zone.origin zone.records update.operations in
    let same = advanced_there zone.origin zone.records after there (heir_of zone update z is acts) r other in
    let left = left_effects zone.origin zone.records there update.operations is.operations acts.operations r in
    (λ here. left.0 (sym same ∙ here), λ l. same ∙ left.1 l)

-- ---- the serial

-- an SOA that operations put there is one that they add
added_soa : (origin : List (List ℕ)) (set : Records) (ops : List Operation) (r : Record) → type_of r.rdata ≡ types.Soa → IsPut origin set ops r → Contains ops (Add r)
added_soa origin set [] r type put_it = absurd put_it
added_soa origin set (op ∷ ops) r type put_it =
    (elim put_it [ inl now ↦ first (own op now.0) | inr later ↦ more (added_soa origin (effect origin set op) ops r type later) ])
  where
    first : Add r ≡ op → Contains (op ∷ ops) (Add r)
    first e = (0, omega arith, sym e)

    more : Contains ops (Add r) → Contains (op ∷ ops) (Add r)
    more c = (suc c.0, omega (arith, c.1), c.2)

    own : (o : Operation) → Puts origin set o r → Add r ≡ o
    own (Add x) puts = (elim (puts.1) [ inl same ↦ ap (λ (y : Record). Add y) same | inr ttl ↦ absurd (ttl.0 (sym ttl.2.1.2 ∙ ap (λ (y : Record). type_of y.rdata) (sym ttl.2.3) ∙ type)) ])
    own (DeleteRrset name t) puts = absurd puts
    own (DeleteName name) puts = absurd puts
    own (DeleteRecord name rdata) puts = absurd puts

module _ (zone : ZoneOf) (update : UpdateOf) (z : IsZone zone) (is : IsUpdate update) (acts : ActsWithin zone.origin update) where
  abbrev there : Keys zone.origin zone.records
  there = keys_of zone.origin zone.records z

  abbrev after : Records
  after = effects zone.origin zone.records update.operations

  abbrev heir : Heir zone.origin zone.records there after
  heir = heir_of zone update z is acts

  -- where the serial differs, the SOA is one that was added
  taken : (serial_at zone.origin zone.records == serial_at zone.origin after) ≡ false → (soa : Record) × Contains update.operations (Add soa) × IsSoaOf (record zone { records = after }) soa
  taken differ =
      let whole = zone_of_keys zone.origin after z.not_root heir.0 in
      let soa = whole.soa.0 in
      let one = whole.soa.1 in
      (elim ((left_effects zone.origin zone.records there update.operations is.operations acts.operations soa).0 one.here) [
        | inl put_it ↦ (soa, added_soa zone.origin zone.records update.operations soa one.type put_it, one)
        | inr old ↦ absurd (stayed soa one old.0)
      ])
    where
      stayed : (soa : Record) → IsSoaOf (record zone { records = after }) soa → IsIn soa zone.records → ⊥
      stayed soa one here =
          let before_is : soa_at zone.origin zone.records ≡ Some soa = soa_is zone.origin zone.records there ∙ sym there.soa_there.1 ∙ ap (get zone.records) (sym (there.soa_alone (key_of soa) (soa, here) (ap rank_of one.type))) ∙ here in
          let after_is : soa_at zone.origin after ≡ Some soa = soa_is zone.origin after heir.0 ∙ sym heir.0.soa_there.1 ∙ ap (get after) (sym (heir.0.soa_alone (key_of soa) (soa, one.here) (ap rank_of one.type))) ∙ one.here in
          let equal : (serial_at zone.origin zone.records == serial_at zone.origin after) ≡ true = rw (before_is, after_is) (self (serial_in soa)) in
          let f : true ≡ false = sym equal ∙ differ in cc
        where
          self : (n : ℕ) → (n == n) ≡ true
          self n = grind (arith, nat_tests)

  abbrev AdvancesTo : Records → Type 0
  AdvancesTo set = Advances zone update (record zone { records = set })

  advances : AdvancesTo (serial_advanced zone.origin zone.records after)
  advances = by_same (is_same zone.records after)
    where
      by_serial : (b : Bool) → (serial_at zone.origin zone.records == serial_at zone.origin after) ≡ b → AdvancesTo (if b then with_next after (soa_at zone.origin after) else after)
      by_serial true e =
          let both = one_further zone.origin zone.records after there heir (eqb-true (serial_at zone.origin zone.records) (serial_at zone.origin after) e) in
          inr (both.0, inr both.1)
      by_serial false e = inr (greater zone.origin zone.records after there heir e, inl (taken e))

      by_same : (b : Bool) → AdvancesTo (if b then zone.records else (if serial_at zone.origin zone.records == serial_at zone.origin after then with_next after (soa_at zone.origin after) else after))
      by_same true = inl refl
      by_same false = by_serial (serial_at zone.origin zone.records == serial_at zone.origin after) refl

pub updates_advance : UpdatesAdvance
updates_advance zone update z is acts = advances zone update z is acts
