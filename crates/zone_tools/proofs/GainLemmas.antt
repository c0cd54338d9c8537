-- A record that is new after operations is one that an operation adds.
use Rattle.std.proofs.Common.{◌≡◌, ℕ, List, [], ◌∷◌, Bool, true, false, cond, ◌||◌, ◌&&◌, if◌then◌else◌, Option, Some, None, refl, sym, ap, ◌∙◌}
use Rattle.std.specs.List.{list_any}
use Rattle.std.specs.Option.{option_map}
use Rattle.std.specs.FinMap.{get}
use Rattle.dns_names.specs.Order.{same_name}
use Rattle.dns_data.specs.declared.record.Record.{Record}
use Rattle.dns_data.specs.declared.record_type.RecordType.TheVariants as types
use Rattle.dns_data.specs.Rdata.{type_of}
use Rattle.zone_core.specs.declared.update.Operation.{Operation}
use Rattle.zone_core.specs.declared.update.Operation.TheVariants.{Add, DeleteRrset, DeleteName, DeleteRecord}
use Rattle.zone_core.specs.Sets.{Records, Key, key_of, rank_of, same_key, cut, put, with_ttl, has, at, at_name}
use Rattle.zone_core.specs.Zones.{is_soa, is_cname, soa_at}
use Rattle.zone_core.specs.Effects.{takes_over, add_soa, add_cname, add_other, add, is_other_type, is_misplaced, is_guarded, goes, key_at, stays, effect, effects}
use Rattle.zone_core.proofs.SetLemmas.{by_cases, get-cut, get-put}
use Rattle.zone_core.proofs.EffectLemmas.{get-with_ttl}
use Rattle.zone_tools.specs.RecordKeys.{same_key_equiv}
use Rattle.zone_tools.specs.Past.{adds_key}

module _ (origin : List (List ℕ)) (k : Key) where
  none_if : (b : Bool) (x y : Records) → get x k ≡ None → get y k ≡ None → get (if b then x else y) k ≡ None
  none_if true x y e f = e
  none_if false x y e f = f

  none_cut : (set : Records) (p : Key → Bool) → get set k ≡ None → get (cut set p) k ≡ None
  none_cut set p e = get-cut set p k ∙ ap (cond (p k) None) e ∙ nothing (p k)
    where
      nothing : (b : Bool) → ◌≡◌ {A = Option Record} (cond b None None) None
      nothing true = refl
      nothing false = refl

  module _ (x : Record) (differ : same_key (key_of x) k ≡ false) where
    none_put : (set : Records) → get set k ≡ None → get (put set x) k ≡ None
    none_put set e = get-put set x k ∙ (λ i. cond ((same_key_equiv.symm k (key_of x) ∙ differ) i) (Some x) (e i))

    none_add : (set : Records) → get set k ≡ None → get (add origin set x) k ≡ None
    none_add set e =
        none_if (is_soa (key_of x)) (add_soa set x) (if is_cname (key_of x) then add_cname set x else (if is_misplaced origin x then set else add_other set x))
        (none_if (takes_over x (soa_at x.owner set)) (put (cut set (at x.owner types.Soa)) x) set (none_put (cut set (at x.owner types.Soa)) (none_cut set (at x.owner types.Soa) e)) e)
        (none_if (is_cname (key_of x)) (add_cname set x) (if is_misplaced origin x then set else add_other set x)
        (none_if (has set (is_other_type x.owner)) set (put (cut set (at_name x.owner)) x) e (none_put (cut set (at_name x.owner)) (none_cut set (at_name x.owner) e)))
        (none_if (is_misplaced origin x) set (add_other set x) e
        (none_if (has set (at x.owner types.Cname)) set (put (with_ttl set (at x.owner (type_of x.rdata)) x.ttl) x) e
        (none_put (with_ttl set (at x.owner (type_of x.rdata)) x.ttl) (get-with_ttl set (at x.owner (type_of x.rdata)) x.ttl k ∙ ap (option_map _) e)))))

  both : (o : Option Record) (s : Record) → o ≡ None → o ≡ Some s → ⊥
  both o s e f = let bad : None ≡ Some s = sym e ∙ f in cc

  -- one operation
  gains_one : (set : Records) (op : Operation) (s : Record) → get set k ≡ None → get (effect origin set op) k ≡ Some s → adds_key k op ≡ true
  gains_one set (Add x) s e f = by_cases (same_key (key_of x) k) (same_key (key_of x) k ≡ true) (λ t. t) (λ differ. absurd (both (get (add origin set x) k) s (none_add x differ set e) f))
  gains_one set (DeleteRrset name t) s e f =
      absurd (both (get (effect origin set (DeleteRrset name t)) k) s (none_if (same_name name origin && is_guarded (rank_of t)) set (cut set (at name t)) e (none_cut set (at name t) e)) f)
  gains_one set (DeleteName name) s e f = absurd (both (get (effect origin set (DeleteName name)) k) s (none_cut set (goes origin name) e) f)
  gains_one set (DeleteRecord name rdata) s e f =
      absurd (both (get (effect origin set (DeleteRecord name rdata)) k) s (none_if (stays origin set (key_at name rdata)) set (cut set (same_key (key_at name rdata))) e (none_cut set (same_key (key_at name rdata)) e)) f)

  -- and all of them
  pub gains : (ops : List Operation) (set : Records) (r : Record) → get set k ≡ None → get (effects origin set ops) k ≡ Some r → list_any (adds_key k) ops ≡ true
  gains [] set r e f = absurd (both (get set k) r e f)
  gains (op ∷ ops) set r e f = by_first (get (effect origin set op) k) refl (λ none. gains ops (effect origin set op) r none f)
    where
      after : (a b : Bool) → b ≡ true → (a || b) ≡ true
      after true b t = refl
      after false b t = t

      here : (a b : Bool) → a ≡ true → (a || b) ≡ true
      here true b t = refl
      here false b t = absurd cc

      by_first : (o : Option Record) → get (effect origin set op) k ≡ o → (get (effect origin set op) k ≡ None → list_any (adds_key k) ops ≡ true) → (adds_key k op || list_any (adds_key k) ops) ≡ true
      by_first None g rest = after (adds_key k op) (list_any (adds_key k) ops) (rest g)
      by_first (Some s) g rest = here (adds_key k op) (list_any (adds_key k) ops) (gains_one set op s e g)
