-- One zone after the other: a step of the walk, and its end; and a zone by itself.
use Rattle.std.proofs.Common.{◌≡◌, ◌↔◌, ℕ, ◌+◌, ◌<◌, ◌≤◌, Bool, true, false, eqb, List, [], ◌∷◌, length, take, drop, get_or, sym, ap, subst, ◌∙◌, eqb-true, eq-eqb, Option, Some, None, Result, Ok, Err}
use Rattle.std.proofs.lemmas.List.{drop_more, drop_all, nil_from_length}
use Rattle.sqlite_rules.proofs.ListLemmas.{all_from, contains_had}
use Rattle.zone_core.specs.declared.faults.ZoneFault.{ZoneFault}
use Rattle.zone_core.specs.Sets.{Records, set_of, listing, InOrder, IsIn}
use Rattle.zone_core.specs.Zones.{ZoneOf, IsZone, built, min_rrset_ttls, latest, fault_in, unless_fault}
use Rattle.zone_core.specs.Views.{zone_in, AreOfZone}
use Rattle.zone_core.proofs.RowLemmas.{listing_of}
use Rattle.zone_core.proofs.RebuiltLemmas.{zones_are_rebuilt}
use Rattle.store_rows.specs.declared.row_fault.RowFault.TheVariants.{BadRow}
use Rattle.store_rows.proofs.RowSteps.{ok_is}
use Rattle.store_rows.specs.RowFaults.{of_zones}
use Rattle.store_rows.proofs.ZoneReadLemmas.{here, there}
use Rattle.dns_data.specs.declared.record.Record.{Record}
use Rattle.store_rows.specs.Checks.{AreInTurn}

abbrev Labels : Type 0
Labels = List (List ℕ)

module _ {X : Type 0} (first : Labels → List X → ℕ) (P : Labels → List X → Type 0) (Whole : Type 0) (origins : List Labels) (i : ℕ) (xs : List X) (left : AreInTurn first P (drop i origins) xs ↔ Whole) where
  module _ (o : Labels) (below : i < length origins) (is : o ≡ get_or origins i o) (n : ℕ) (n_is : n ≡ first o xs) where
    -- the next zone, and those after it
    abbrev Next : Type 0
    Next = P o (take n xs) × AreInTurn first P (drop (i + 1) origins) (drop n xs)

    opened : drop i origins ≡ o ∷ drop (i + 1) origins
    opened = drop_more origins i o below ∙ ap (λ p. p ∷ drop (i + 1) origins) (sym is)

    from_next : Next → AreInTurn first P (drop i origins) xs
    from_next next =
        subst (λ os. AreInTurn first P os xs) (sym opened) (subst (λ k. P o (take k xs) × AreInTurn first P (drop (i + 1) origins) (drop k xs)) n_is next)

    to_next : AreInTurn first P (drop i origins) xs → Next
    to_next turn =
        subst (λ k. P o (take k xs) × AreInTurn first P (drop (i + 1) origins) (drop k xs)) (sym n_is) (subst (λ os. AreInTurn first P os xs) opened turn)

    -- a zone that passes leaves those after it
    pub passes : P o (take n xs) → AreInTurn first P (drop (i + 1) origins) (drop n xs) ↔ Whole
    passes zone = (λ later. left.0 (from_next (zone, later)), λ whole. (to_next (left.1 whole)).1)

    -- one that does not stops all
    pub stops : ¬ (P o (take n xs)) → (false ≡ true) ↔ Whole
    stops none = (λ e. absurd (let bad : false ≡ true = e in cc), λ whole. absurd (none (to_next (left.1 whole)).0))

  -- after the last zone nothing is left
  pub ends : length origins ≤ i → (b : Bool) → b ≡ eqb (length xs) 0 → (b ≡ true) ↔ Whole
  ends past b b_is =
      let none : drop i origins ≡ [] = drop_all i origins past in (
        λ t. left.0 (subst (λ os. AreInTurn first P os xs) (sym none) (nil_from_length xs (eqb-true (length xs) 0 (sym b_is ∙ t)))),
        λ whole. b_is ∙ eq-eqb (length xs) 0 (ap length (subst (λ os. AreInTurn first P os xs) none (left.1 whole))),
      )

-- ---- a zone by itself

built_origin : (o : Labels) (set : Records) (fault : Option ZoneFault) (zone : ZoneOf) → unless_fault o set fault ≡ Ok zone → zone.origin ≡ o
built_origin o set None zone e = let is : record { origin = o; records = set } ≡ zone = cc in ap (λ (z : ZoneOf). z.origin) (sym is)
built_origin o set (Some fault) zone e = absurd cc

zones_ok : (b : Result ZoneOf ZoneFault) (zone : ZoneOf) → of_zones b ≡ Ok zone → b ≡ Ok zone
zones_ok (Ok x) zone e = cc
zones_ok (Err fault) zone e = absurd cc

module _ (o : Labels) (rs : List Record) where
  -- records of a zone, in record order, are built as it
  own_built : AreOfZone o rs → of_zones (built o rs) ≡ Ok (zone_in o rs)
  own_built is =
      ap of_zones (zones_are_rebuilt (zone_in o rs) rs is.zone (record { inside = all_from (λ r. IsIn r (set_of rs)) rs (λ r h. here rs r is.order h); whole = λ r h. contains_had rs r (there rs r h) }))

  -- what is built has the same records exactly where they are those of a zone
  pub is_built : (zone : ZoneOf) (seen : List Record) → of_zones (built o rs) ≡ Ok zone → InOrder seen → set_of seen ≡ zone.records → IsZone zone → (b : Bool) → (b ≡ true) ↔ (seen ≡ rs) → (b ≡ true) ↔ AreOfZone o rs
  is_built zone seen e order set is b tells = (
    λ t.
        (let same = tells.0 t in
        let origin : zone.origin ≡ o = built_origin o (min_rrset_ttls (latest rs)) (fault_in o (min_rrset_ttls (latest rs))) zone (zones_ok (built o rs) zone e) in
        let records : zone.records ≡ set_of rs = sym set ∙ ap set_of same in
        record { order = subst InOrder same order; zone = subst IsZone ((λ i. record { origin = origin i; records = records i })) is }),
    λ of.
        (let own : zone ≡ zone_in o rs = ok_is zone (zone_in o rs) (sym e ∙ own_built of) in
        tells.1 (sym (listing_of seen order) ∙ ap listing (set ∙ ap (λ (z : ZoneOf). z.records) own) ∙ listing_of rs of.order)),
  )

  -- where nothing is built they are those of no zone
  pub none_built : of_zones (built o rs) ≡ Err BadRow → (false ≡ true) ↔ AreOfZone o rs
  none_built e = (λ f. absurd (let bad : false ≡ true = f in cc), λ of. absurd (let bad = sym e ∙ own_built of in cc))
