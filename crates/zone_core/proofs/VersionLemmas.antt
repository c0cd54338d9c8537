-- The zone after an update is a zone, and is the one before or has a greater serial.
use Rattle.std.proofs.Common.{◌≡◌, ℕ, ◌-◌, ◌<◌, ◌^◌, List, Bool, true, false, ◌&&◌, ◌==◌, nat_lt, if◌then◌else◌, Some, inl, inr, refl, sym, ap, subst, ◌∙◌, arith}
use Rattle.std.specs.Option.{option_map_or}
use Rattle.std.proofs.lemmas.Bool.Decides.{nat_tests, Decides-ltb, Decides-and, Decides-or}
use Rattle.std.specs.Bool.{Decides}
use Rattle.dns_data.specs.declared.record.Record.{Record}
use Rattle.dns_data.specs.declared.record_type.RecordType.TheVariants as types
use Rattle.dns_data.specs.declared.rdata.Data.{Data}
use Rattle.dns_data.specs.declared.rdata.Data.TheVariants as variants
use Rattle.dns_data.specs.Rdata.{type_of, IsRdata, IsRecord}
use Rattle.dns_data.proofs.RecordOrderLemmas.{one_rank}
use Rattle.dns_names.specs.Labels.{IsWithin}
use Rattle.zone_core.specs.Serials.{serial_sum, IsLess, is_less}
use Rattle.zone_core.specs.Sets.{Records, Key, key_of, is_same}
use Rattle.zone_core.specs.Zones.{ZoneOf, IsZone, soa_in, serial_in, soa_at, serial_at}
use Rattle.zone_core.specs.Updates.{UpdateOf, IsUpdate, ActsWithin}
use Rattle.zone_core.specs.Effects.{effects, next_data, next_version, with_next, serial_advanced, zone_after}
use Rattle.zone_core.specs.Versions.{UpdatesKeepZones}
use Rattle.zone_core.proofs.ZoneLemmas.{Keys, Heir, keys_of, zone_of_keys, keys_soa, soa_is, effects_heir}

-- ---- serials

pub is_less-Decides : (s t : ℕ) → Decides (is_less s t) (IsLess s t)
is_less-Decides s t =
    let up = Decides-and (nat_lt s t) (nat_lt (t - s) (2 ^ 31)) (Decides-ltb s t) (Decides-ltb (t - s) (2 ^ 31)) in
    let down = Decides-and (nat_lt t s) (nat_lt (2 ^ 31) (s - t)) (Decides-ltb t s) (Decides-ltb (2 ^ 31) (s - t)) in
    Decides-or (nat_lt s t && nat_lt (t - s) (2 ^ 31)) (nat_lt t s && nat_lt (2 ^ 31) (s - t)) up down

pub next_less : (s : ℕ) → s < 2 ^ 32 → IsLess s (serial_sum s 1)
next_less s small = grind arith

next_fits : (s : ℕ) → serial_sum s 1 < 2 ^ 32
next_fits s = grind arith

-- ---- the next version of an SOA

pub next_type : (d : Data) → type_of (next_data d) ≡ type_of d
next_type (variants.Soa soa) = refl
next_type d = refl

pub next_is : (d : Data) → IsRdata d → IsRdata (next_data d)
next_is (variants.Soa soa) is =
    record { mname = is.mname; rname = is.rname; serial = next_fits soa.serial.0; refresh = is.refresh; retry = is.retry; expire = is.expire; minimum = is.minimum }
next_is d is = is

pub next_serial : (d : Data) → type_of d ≡ types.Soa → IsRdata d → (serial : ℕ) × (option_map_or (λ soa. soa.serial.0) (soa_in d) 0 ≡ serial) × (serial < 2 ^ 32) × (option_map_or (λ soa. soa.serial.0) (soa_in (next_data d)) 0 ≡ serial_sum serial 1)
next_serial (variants.Soa soa) e is = (soa.serial.0, refl, is.serial, refl)
next_serial d e is = absurd cc

-- ---- what an update makes of a zone

module _ (origin : List (List ℕ)) (before after : Records) (z : Keys origin before) (heir : Heir origin before z after) where
  abbrev k : Keys origin after
  k = heir.0

  abbrev soa : Record
  soa = k.soa_there.0

  pub soa_key : key_of soa ≡ k.soa
  soa_key = (k.rows.kept k.soa soa k.soa_there.1).0

  pub soa_record : IsRecord soa
  soa_record = (k.rows.kept k.soa soa k.soa_there.1).1

  pub soa_type : type_of soa.rdata ≡ types.Soa
  soa_type = one_rank (type_of soa.rdata) types.Soa (ap (λ (q : Key). q.1) soa_key ∙ k.soa_type)

  pub home : soa.owner ≡ origin
  home = ap (λ (q : Key). q.0) soa_key ∙ k.soa_origin

  -- the SOA is one further
  pub next_keys : (n : Keys origin (with_next after (Some soa))) × (n.soa_there.0 ≡ next_version soa)
  next_keys =
      keys_soa origin after k (next_version soa) (record { owner = soa_record.owner; ttl = soa_record.ttl; rdata = next_is soa.rdata soa_record.rdata })
      (subst (λ (q : Key). IsWithin q.0 origin) (sym soa_key) (k.rows.owners k.soa k.soa_there)) (next_type soa.rdata ∙ soa_type) home

  advanced_keys : Keys origin (serial_advanced origin before after)
  advanced_keys = either (is_same before after) z (either (serial_at origin before == serial_at origin after) (rw (soa_is origin after k) next_keys.0) k)
    where
      either : (b : Bool) {x y : Records} → Keys origin x → Keys origin y → Keys origin (if b then x else y)
      either true x y = x
      either false x y = y

  pub serial_before : serial_at origin before ≡ serial_in z.soa_there.0
  serial_before = ap (λ o. option_map_or serial_in o 0) (soa_is origin before z)

  pub serial_after : serial_at origin after ≡ serial_in soa
  serial_after = ap (λ o. option_map_or serial_in o 0) (soa_is origin after k)

  pub one_further : serial_at origin before ≡ serial_at origin after
      → IsLess (serial_at origin before) (serial_at origin (with_next after (soa_at origin after))) × (serial_at origin (with_next after (soa_at origin after)) ≡ serial_sum (serial_at origin before) 1)
  one_further same =
      let next = next_serial soa.rdata soa_type soa_record.rdata in
      let old : serial_at origin before ≡ next.0 = same ∙ serial_after ∙ next.1 in
      let new : serial_at origin (with_next after (soa_at origin after)) ≡ serial_sum next.0 1 =
      ap (λ o. serial_at origin (with_next after o)) (soa_is origin after k)
      ∙ ap (λ o. option_map_or serial_in o 0) (soa_is origin (with_next after (Some soa)) next_keys.0) ∙ ap serial_in next_keys.1 ∙ next.3 in
      rw (old, new) (next_less next.0 next.2, refl)

  pub greater : (serial_at origin before == serial_at origin after) ≡ false → IsLess (serial_at origin before) (serial_at origin after)
  greater differ =
      (elim (heir.1) [
        | inl same ↦ absurd (let equal : (serial_at origin before == serial_at origin after) ≡ true = rw (serial_before, serial_after, same) (self (serial_in z.soa_there.0)) in let f : true ≡ false = sym equal ∙ differ in cc)
        | inr over ↦ rw (serial_before, serial_after) ((is_less-Decides (serial_in z.soa_there.0) (serial_in soa)).0 over)
      ])
    where
      self : (n : ℕ) → (n == n) ≡ true
      self n = grind (arith, nat_tests)

pub heir_of : (zone : ZoneOf) (update : UpdateOf) (z : IsZone zone) → IsUpdate update → ActsWithin zone.origin update
    → Heir zone.origin zone.records (keys_of zone.origin zone.records z) (effects zone.origin zone.records update.operations)
heir_of zone update z is acts = effects_heir zone.origin zone.records (keys_of zone.origin zone.records z) update.operations is.operations acts.operations is.one_soa

pub updates_keep : UpdatesKeepZones
updates_keep zone update z is acts =
    zone_of_keys zone.origin (zone_after zone update).records z.not_root
    (advanced_keys zone.origin zone.records (effects zone.origin zone.records update.operations) (keys_of zone.origin zone.records z) (heir_of zone update z is acts))
