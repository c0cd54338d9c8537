-- Sets in which each record stands under its own key, under operations.
use Rattle.std.proofs.Common.{◌≡◌, ℕ, List, [], ◌∷◌, Bool, true, false, ◌&&◌, Some, inl, inr, sym, ap, subst, ◌∙◌, if◌then◌else◌}
use Rattle.std.specs.List.{AllByRecursion}
use Rattle.std.specs.FinMap.{get}
use Rattle.dns_names.specs.Order.{same_name}
use Rattle.dns_data.specs.declared.record.Record.{Record}
use Rattle.dns_data.specs.declared.record_type.RecordType.TheVariants as types
use Rattle.dns_data.specs.Rdata.{type_of, IsRecord}
use Rattle.zone_core.specs.declared.update.Operation.{Operation}
use Rattle.zone_core.specs.declared.update.Operation.TheVariants.{Add, DeleteRrset, DeleteName, DeleteRecord}
use Rattle.zone_core.specs.Sets.{Records, Key, key_of, rank_of, same_key, cut, has, at_name, at, put, with_ttl}
use Rattle.zone_core.specs.Zones.{AreKept, is_soa, is_cname, soa_at}
use Rattle.zone_core.specs.Updates.{IsOperation}
use Rattle.zone_core.specs.Effects.{is_other_type, takes_over, add_soa, add_cname, add_other, is_misplaced, is_guarded, goes, key_at, stays, effect, effects}
use Rattle.zone_core.proofs.EffectLemmas.{retag}
use Rattle.zone_core.proofs.ZoneLemmas.{found_uncut, found_put, found_given, either_fits}

-- ---- records under their own keys

-- each record stands under its own key, and has P
abbrev pub Hold : (Record → Type 0) → Records → Type 0
Hold P set = (k : Key) (r : Record) → get set k ≡ Some r → (key_of r ≡ k) × P r

-- what an operation adds has P
abbrev Brings : (Record → Type 0) → Operation → Type 0
Brings P (Add r) = P r
Brings P (DeleteRrset name t) = Unit {0}
Brings P (DeleteName name) = Unit {0}
Brings P (DeleteRecord name rdata) = Unit {0}

-- P stays where a record is given the TTL of another that has it
module _ (P : Record → Type 0) (given : (test : Key → Bool) (k : Key) (r x : Record) → P r → P x → P (retag test r.ttl k x)) where
  hold_cut : (set : Records) (p : Key → Bool) → Hold P set → Hold P (cut set p)
  hold_cut set p hold k r e = hold k r (found_uncut set p k r e).1

  hold_put : (set : Records) (r : Record) → P r → Hold P set → Hold P (put set r)
  hold_put set r is hold k y e = (elim (found_put set r k y e) [ inl mine ↦ (ap key_of mine.1 ∙ sym mine.0, subst P (sym mine.1) is) | inr old ↦ hold k y old ])

  hold_given : (set : Records) (p : Key → Bool) (r : Record) → P r → Hold P set → Hold P (with_ttl set p r.ttl)
  hold_given set p r is hold k y e =
      let found = found_given set p r.ttl k y e in
      let was = hold k found.0 found.1 in
      (ap key_of (sym found.2) ∙ was.0, subst P found.2 (given p k r found.0 is was.1))

  hold_if : (b : Bool) (x y : Records) → Hold P x → Hold P y → Hold P (if b then x else y)
  hold_if true x y h g = h
  hold_if false x y h g = g

  hold_effect : (origin : List (List ℕ)) (set : Records) (op : Operation) → Brings P op → Hold P set → Hold P (effect origin set op)
  hold_effect origin set (Add r) is hold =
      hold_if (is_soa (key_of r)) (add_soa set r) _
      (hold_if (takes_over r (soa_at r.owner set)) (put (cut set (at r.owner types.Soa)) r) set (hold_put (cut set (at r.owner types.Soa)) r is (hold_cut set (at r.owner types.Soa) hold)) hold)
      (hold_if (is_cname (key_of r)) (add_cname set r) _
      (hold_if (has set (is_other_type r.owner)) set (put (cut set (at_name r.owner)) r) hold (hold_put (cut set (at_name r.owner)) r is (hold_cut set (at_name r.owner) hold)))
      (hold_if (is_misplaced origin r) set (add_other set r) hold
      (hold_if (has set (at r.owner types.Cname)) set (put (with_ttl set (at r.owner (type_of r.rdata)) r.ttl) r) hold
      (hold_put (with_ttl set (at r.owner (type_of r.rdata)) r.ttl) r is (hold_given set (at r.owner (type_of r.rdata)) r is hold)))))
  hold_effect origin set (DeleteRrset name t) is hold = hold_if (same_name name origin && is_guarded (rank_of t)) set (cut set (at name t)) hold (hold_cut set (at name t) hold)
  hold_effect origin set (DeleteName name) is hold = hold_cut set (goes origin name) hold
  hold_effect origin set (DeleteRecord name rdata) is hold =
      hold_if (stays origin set (key_at name rdata)) set (cut set (same_key (key_at name rdata))) hold (hold_cut set (same_key (key_at name rdata)) hold)

  hold_effects : (origin : List (List ℕ)) (set : Records) (ops : List Operation) → AllByRecursion (Brings P) ops → Hold P set → Hold P (effects origin set ops)
  hold_effects origin set [] all hold = hold
  hold_effects origin set (op ∷ ops) all hold = hold_effects origin (effect origin set op) ops all.1 (hold_effect origin set op all.0 hold)

-- under its own key, whatever it is
abbrev pub AreOwn : Records → Type 0
AreOwn = Hold (λ _. Unit {0})

pub own : (set : Records) → AreKept set → AreOwn set
own set kept k r e = ((kept k r e).0, tt)

brings_any : (ops : List Operation) → AllByRecursion (Brings (λ _. Unit {0})) ops
brings_any [] = tt
brings_any (Add r ∷ ops) = (tt, brings_any ops)
brings_any (DeleteRrset name t ∷ ops) = (tt, brings_any ops)
brings_any (DeleteName name ∷ ops) = (tt, brings_any ops)
brings_any (DeleteRecord name rdata ∷ ops) = (tt, brings_any ops)

brings_records : (ops : List Operation) → AllByRecursion IsOperation ops → AllByRecursion (Brings IsRecord) ops
brings_records [] all = tt
brings_records (Add r ∷ ops) all = (all.0, brings_records ops all.1)
brings_records (DeleteRrset name t ∷ ops) all = (tt, brings_records ops all.1)
brings_records (DeleteName name ∷ ops) all = (tt, brings_records ops all.1)
brings_records (DeleteRecord name rdata ∷ ops) all = (tt, brings_records ops all.1)

pub effects_own : (origin : List (List ℕ)) (set : Records) (ops : List Operation) → AreOwn set → AreOwn (effects origin set ops)
effects_own origin set ops = hold_effects (λ _. Unit {0}) (λ test k r x _ _. tt) origin set ops (brings_any ops)

-- a record with the TTL of another is one
given_record : (test : Key → Bool) (k : Key) (r x : Record) → IsRecord r → IsRecord x → IsRecord (retag test r.ttl k x)
given_record test k r x is was = record { owner = was.owner; ttl = either_fits (test k) r.ttl x.ttl is.ttl was.ttl; rdata = was.rdata }

pub effects_kept : (origin : List (List ℕ)) (set : Records) (ops : List Operation) → AllByRecursion IsOperation ops → AreKept set → AreKept (effects origin set ops)
effects_kept origin set ops all = hold_effects IsRecord given_record origin set ops (brings_records ops all)
