-- An update does to the part of a zone at the origin and at its names what it does to the zone.
use Rattle.std.proofs.Common.{◌≡◌, ℕ, List, Bool, true, false, cond, not, ◌||◌, ◌&&◌, ◌==◌, if◌then◌else◌, Option, Some, None, refl, sym, ap, subst, ◌∙◌}
use Rattle.std.specs.FinMap.{get, len}
use Rattle.std.specs.Option.{option_map_or}
use Rattle.std.proofs.lemmas.Bool.{false_from_ne_true}
use Rattle.dns_data.specs.declared.record.Record.{Record}
use Rattle.dns_data.specs.declared.record_type.RecordType.TheVariants as types
use Rattle.zone_core.specs.declared.update.Operation.{Operation}
use Rattle.zone_core.specs.Sets.{Records, Key, part, cut, at_name, at, minus, same_key, key_of, is_same}
use Rattle.zone_core.specs.Zones.{ZoneOf, IsZone, serial_in, soa_at, serial_at}
use Rattle.zone_core.specs.Updates.{UpdateOf, IsUpdate, ActsWithin}
use Rattle.zone_core.specs.Effects.{effects, next_version, with_next, serial_advanced, zone_after}
use Rattle.zone_core.specs.Parts.{tested, touched, part_of, Covers, DoesForZone, UpdatesNeedTheirPart}
use Rattle.zone_core.proofs.SetLemmas.{name_self, get-part, get-cut, get-put, same_sets, found_in_part, kept_by_cut, kept_by_put}
use Rattle.zone_core.proofs.EffectLemmas.{soa_alike}
use Rattle.zone_core.proofs.ChangeLemmas.{effects_away}
use Rattle.zone_core.proofs.PartLemmas.{SameOn, verdict_alike, effects_on, all_touch, minus_alike}
use Rattle.zone_core.proofs.ZoneLemmas.{Keys, Heir, keys_of, zone_of_keys, keys_without, at_is, soa_is}
use Rattle.zone_core.proofs.VersionLemmas.{heir_of, home}

-- ---- a part of a zone

part_is_cut : (set : Records) (w : Key → Bool) → part set w ≡ cut set (λ k. not (w k))
part_is_cut set w = same_sets (part set w) (cut set (λ k. not (w k))) (λ k. get-part set w k ∙ turned (w k) (get set k) ∙ sym (get-cut set (λ j. not (w j)) k))
  where
    turned : (b : Bool) (o : Option Record) → cond b o None ≡ cond (not b) None o
    turned true o = refl
    turned false o = refl

keys_part : (origin : List (List ℕ)) (set : Records) (w : Key → Bool) (z : Keys origin set) → ((k : Key) → k.0 ≡ origin → w k ≡ true) → Keys origin (part set w)
keys_part origin set w z wide =
    subst (Keys origin) (sym (part_is_cut set w))
    (keys_without origin set (λ k. not (w k)) z (ap not (wide z.soa z.soa_origin)) (ap not (wide z.ns z.ns_origin)))

-- a part that has the records at the origin is a zone
pub part_is_zone : (zone : ZoneOf) (w : Key → Bool) → IsZone zone → ((k : Key) → k.0 ≡ zone.origin → w k ≡ true) → IsZone (part_of zone w)
part_is_zone zone w z wide = zone_of_keys zone.origin (part zone.records w) z.not_root (keys_part zone.origin zone.records w (keys_of zone.origin zone.records z) wide)

-- ---- the next version of the SOA

next_on : (w : Key → Bool) (a b : Records) (soa : Option Record) → SameOn w a b → SameOn w (with_next a soa) (with_next b soa)
next_on w a b None same k e = same k e
next_on w a b (Some r) same k e =
    let p : Key → Bool = at r.owner types.Soa in
    get-put (cut a p) (next_version r) k
    ∙ ap (cond (same_key k (key_of (next_version r))) (Some (next_version r))) (get-cut a p k ∙ ap (cond (p k) None) (same k e) ∙ sym (get-cut b p k))
    ∙ sym (get-put (cut b p) (next_version r) k)

next_away : (a : Records) (r : Record) (k : Key) → (k.0 ≡ r.owner → ⊥) → get (with_next a (Some r)) k ≡ get a k
next_away a r k away =
    let p : Key → Bool = at r.owner types.Soa in
    kept_by_put (cut a p) (next_version r) k (λ same. away (ap (λ (q : Key). q.0) same))
    ∙ kept_by_cut a p k (false_from_ne_true (p k) (λ e. away (at_is r.owner types.Soa k e).0))

-- ---- the zone after

module _ (origin : List (List ℕ)) (set : Records) (z : Keys origin set) (ops : List Operation) (heir : Heir origin set z (effects origin set ops)) (w : Key → Bool) (at_origin : (k : Key) → k.0 ≡ origin → w k ≡ true) (wide : (k : Key) → touched ops k ≡ true → w k ≡ true) where
  -- outside the names nothing changes
  advanced_away : (k : Key) → w k ≡ false → get (serial_advanced origin set (effects origin set ops)) k ≡ get set k
  advanced_away k e = by_same (is_same set (effects origin set ops))
    where
      after : Records
      after = effects origin set ops

      off : k.0 ≡ origin → ⊥
      off name = let f : true ≡ false = sym (at_origin k name) ∙ e in cc

      untouched : get after k ≡ get set k
      untouched = effects_away origin set ops k (false_from_ne_true (touched ops k) (λ t. let f : true ≡ false = sym (wide k t) ∙ e in cc))

      next : get (with_next after (soa_at origin after)) k ≡ get after k
      next =
          ap (λ o. get (with_next after o) k) (soa_is origin after heir.0)
          ∙ next_away after heir.0.soa_there.0 k (λ name. off (name ∙ home origin set after z heir))

      by_serial : (b : Bool) → get (if b then with_next after (soa_at origin after) else after) k ≡ get set k
      by_serial true = next ∙ untouched
      by_serial false = untouched

      by_same : (b : Bool) → get (if b then set else (if serial_at origin set == serial_at origin after then with_next after (soa_at origin after) else after)) k ≡ get set k
      by_same true = refl
      by_same false = by_serial (serial_at origin set == serial_at origin after)

-- sets that agree at the origin have one SOA there
soa_on : (origin : List (List ℕ)) (w : Key → Bool) (a b : Records) → ((k : Key) → k.0 ≡ origin → w k ≡ true) → SameOn w a b → soa_at origin a ≡ soa_at origin b
soa_on origin w a b at_origin same = soa_alike origin a b (λ k name. same k (at_origin k name))

advanced_on : (origin : List (List ℕ)) (w : Key → Bool) (a b c d : Records) → ((k : Key) → k.0 ≡ origin → w k ≡ true) → SameOn w a c → SameOn w b d → is_same a b ≡ is_same c d → SameOn w (serial_advanced origin a b) (serial_advanced origin c d)
advanced_on origin w a b c d at_origin first second alike k e =
    let before = soa_on origin w a c at_origin first in
    let after = soa_on origin w b d at_origin second in
    let serials : (serial_at origin a == serial_at origin b) ≡ (serial_at origin c == serial_at origin d) =
    λ i. option_map_or serial_in (before i) 0 == option_map_or serial_in (after i) 0 in
    let next : get (with_next b (soa_at origin b)) k ≡ get (with_next d (soa_at origin d)) k =
    ap (λ o. get (with_next b o) k) after ∙ next_on w b d (soa_at origin d) second k e in
    chosen (is_same a b) (is_same c d) a _ c _ alike (first k e)
    (chosen (serial_at origin a == serial_at origin b) (serial_at origin c == serial_at origin d) (with_next b (soa_at origin b)) b (with_next d (soa_at origin d)) d serials next (second k e))
  where
    chosen : (s t : Bool) (x y u v : Records) → s ≡ t → get x k ≡ get u k → get y k ≡ get v k → get (if s then x else y) k ≡ get (if t then u else v) k
    chosen true true x y u v e f g = f
    chosen true false x y u v e f g = absurd cc
    chosen false true x y u v e f g = absurd cc
    chosen false false x y u v e f g = g

-- ---- the law

module _ (zone : ZoneOf) (update : UpdateOf) (w : Key → Bool) (z : IsZone zone) (is : IsUpdate update) (acts : ActsWithin zone.origin update) (covers : Covers zone.origin update w) where
  abbrev ops : List Operation
  ops = update.operations

  abbrev less : Records
  less = part zone.records w

  at_origin : (k : Key) → k.0 ≡ zone.origin → w k ≡ true
  at_origin k name = covers k (ap (λ t. t || (tested update.prerequisites k || touched ops k)) (same_true k name))
    where
      same_true : (j : Key) → j.0 ≡ zone.origin → at_name zone.origin j ≡ true
      same_true j e = rw e (name_self zone.origin)

  in_third : (a b c : Bool) → c ≡ true → (a || (b || c)) ≡ true
  in_third true b c e = refl
  in_third false true c e = refl
  in_third false false c e = e

  in_second : (a b c : Bool) → b ≡ true → (a || (b || c)) ≡ true
  in_second true b c e = refl
  in_second false true c e = refl
  in_second false false c e = absurd cc

  wide : (k : Key) → touched ops k ≡ true → w k ≡ true
  wide k e = covers k (in_third (at_name zone.origin k) (tested update.prerequisites k) (touched ops k) e)

  there : SameOn w less zone.records
  there k e = found_in_part zone.records w k e

  after : SameOn w (effects zone.origin less ops) (effects zone.origin zone.records ops)
  after = effects_on zone.origin ops w less zone.records (all_touch w ops wide) there

  untouched : (set : Records) (k : Key) → w k ≡ false → get (effects zone.origin set ops) k ≡ get set k
  untouched set k e = effects_away zone.origin set ops k (false_from_ne_true (touched ops k) (λ t. let f : true ≡ false = sym (wide k t) ∙ e in cc))

  removed_alike : minus less (effects zone.origin less ops) ≡ minus zone.records (effects zone.origin zone.records ops)
  removed_alike = minus_alike w less (effects zone.origin less ops) zone.records (effects zone.origin zone.records ops) there after (λ k e. (sym (untouched less k e), sym (untouched zone.records k e)))

  added_alike : minus (effects zone.origin less ops) less ≡ minus (effects zone.origin zone.records ops) zone.records
  added_alike = minus_alike w (effects zone.origin less ops) less (effects zone.origin zone.records ops) zone.records after there (λ k e. (untouched less k e, untouched zone.records k e))

  alike : is_same less (effects zone.origin less ops) ≡ is_same zone.records (effects zone.origin zone.records ops)
  alike = λ i. (len (removed_alike i) == 0) && (len (added_alike i) == 0)

  abbrev whole_keys : Keys zone.origin zone.records
  whole_keys = keys_of zone.origin zone.records z

  part_zone : IsZone (part_of zone w)
  part_zone = part_is_zone zone w z at_origin

  advanced_alike : SameOn w (zone_after (part_of zone w) update).records (zone_after zone update).records
  advanced_alike = advanced_on zone.origin w less (effects zone.origin less ops) zone.records (effects zone.origin zone.records ops) at_origin there after alike

  away : (k : Key) → w k ≡ false → (get (zone_after (part_of zone w) update).records k ≡ get less k) × (get (zone_after zone update).records k ≡ get zone.records k)
  away k e = (
    advanced_away zone.origin less (keys_of zone.origin less part_zone) ops (heir_of (part_of zone w) update part_zone is acts) w at_origin wide k e,
    advanced_away zone.origin zone.records whole_keys ops (heir_of zone update z is acts) w at_origin wide k e,
  )

  pub does : DoesForZone zone update w
  does = record {
    zone = part_zone;
    verdict = verdict_alike less zone.records update.prerequisites (λ k e. there k (covers k (in_second (at_name zone.origin k) (tested update.prerequisites k) (touched ops k) e)));
    removed = minus_alike w less (zone_after (part_of zone w) update).records zone.records (zone_after zone update).records there advanced_alike (λ k e. let both = away k e in (sym both.0, sym both.1));
    added = minus_alike w (zone_after (part_of zone w) update).records less (zone_after zone update).records zone.records advanced_alike there away;
  }

pub updates_need : UpdatesNeedTheirPart
updates_need zone update w z is acts covers = does zone update w z is acts covers
