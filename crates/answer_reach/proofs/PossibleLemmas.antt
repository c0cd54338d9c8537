-- What a zone that the caller can make has in common with the zone before.
use Rattle.std.proofs.Common.{◌≡◌, ◌⊎◌, ℕ, List, [], ◌∷◌, Bool, true, false, ◌&&◌, ◌||◌, Option, Some, None, refl, sym, ap, subst, ◌∙◌, inl, inr}
use Rattle.std.specs.List.{AllByRecursion, filter}
use Rattle.std.specs.FinMap.{get}
use Rattle.std.proofs.lemmas.Bool.{and_parts, false_from_ne_true}
use Rattle.std.proofs.lemmas.Bool.Decides.{Decides-eqb}
use Rattle.dns_names.specs.Labels.{IsWithin, is_within}
use Rattle.dns_names.proofs.NameLemmas.{is_within-Decides}
use Rattle.dns_data.specs.declared.record.Record.{Record}
use Rattle.dns_data.specs.declared.record_type.RecordType.{RecordType}
use Rattle.dns_data.specs.declared.record_type.RecordType.TheVariants as types
use Rattle.dns_data.specs.Rdata.{type_of}
use Rattle.dns_data.proofs.RecordOrderLemmas.{one_rank}
use Rattle.grant_policy.specs.declared.rule.Rule.{Rule}
use Rattle.zone_core.specs.Sets.{rank_of, Key, Records, key_of, at, at_name, set_of, listing, InOrder}
use Rattle.zone_core.proofs.SetLemmas.{name_is, same_sets}
use Rattle.zone_core.proofs.RowLemmas.{get-set_of, listing_of, found_has, found_key, InOrder-filter}
use Rattle.zone_core.proofs.ZoneLemmas.{at_is, at_has}
use Rattle.zone_core.proofs.MetLemmas.{Among, among_of, of_among, any_is}
use Rattle.zone_core.proofs.BelowLemmas.{no_test, within_within}
use Rattle.zone_answers.specs.declared.query_type.QueryType.{QueryType}
use Rattle.zone_answers.specs.declared.query_type.QueryType.TheVariants.{Kept, Any, Other}
use Rattle.zone_answers.specs.Answers.{Name, Exists, asked_at}
use Rattle.zone_answers.specs.AnswerChanges.{but_serial}
use Rattle.zone_answers.proofs.SourceLemmas.{among_filter}
use Rattle.zone_answers.proofs.LawLemmas.{row_in}
use Rattle.answer_reach.specs.Reach.{matters, is_type, remains, may_come, may_change, MayUpdate, RecordsMayChange, MayExist, must_exist}

-- ---- rows with the same records

all_of : {X : Type 0} (P : X → Type 0) (xs : List X) → ((x : X) → Among x xs → P x) → AllByRecursion P xs
all_of P [] each = tt
all_of P (x ∷ xs) each = (each x (inl refl), all_of P xs (λ y a. each y (inr a)))

-- what is found in the set of a row is in the row
pub found_among : (xs : List Record) (k : Key) (r : Record) → get (set_of xs) k ≡ Some r → Among r xs × (k ≡ key_of r)
found_among xs k r e =
    let found = sym (get-set_of xs k) ∙ e in
    (found_has (λ (y : Record). Among y xs) xs k r (all_of (λ (y : Record). Among y xs) xs (λ y a. a)) found, found_key xs k r found)

pub same_rows : (xs ys : List Record) → InOrder xs → InOrder ys → ((r : Record) → Among r xs → Among r ys) → ((r : Record) → Among r ys → Among r xs) → xs ≡ ys
same_rows xs ys in_x in_y there back = sym (listing_of xs in_x) ∙ ap (λ (s : Records). listing s) (same_sets (set_of xs) (set_of ys) same) ∙ listing_of ys in_y
  where
    same : (k : Key) → get (set_of xs) k ≡ get (set_of ys) k
    same k = by_found (get (set_of xs) k) (get (set_of ys) k) refl refl
      where
        by_found : (o p : Option Record) → get (set_of xs) k ≡ o → get (set_of ys) k ≡ p → o ≡ p
        by_found None None e f = refl
        by_found (Some r) p e f =
            let found = found_among xs k r e in
            let here : get (set_of ys) k ≡ Some r = ap (get (set_of ys)) found.1 ∙ row_in ys in_y r (there r found.0) in
            sym here ∙ f
        by_found None (Some r) e f =
            let found = found_among ys k r f in
            let here : get (set_of xs) k ≡ Some r = ap (get (set_of xs)) found.1 ∙ row_in xs in_x r (back r found.0) in
            sym e ∙ here

pub same_filters : (p : Record → Bool) (xs ys : List Record) → InOrder xs → InOrder ys → ((r : Record) → p r ≡ true → Among r xs → Among r ys)
    → ((r : Record) → p r ≡ true → Among r ys → Among r xs) → filter p xs ≡ filter p ys
same_filters p xs ys in_x in_y there back =
    same_rows (filter p xs) (filter p ys) (InOrder-filter p xs in_x) (InOrder-filter p ys in_y)
    (λ r a. let both = (among_filter p xs r).0 a in (among_filter p ys r).1 (there r both.1 both.0, both.1))
    (λ r a. let both = (among_filter p ys r).0 a in (among_filter p xs r).1 (back r both.1 both.0, both.1))

-- ---- records that are asked for

pub asked_owner : (rs : List Record) (name : Name) (t : RecordType) (r : Record) → Among r rs → r.owner ≡ name → type_of r.rdata ≡ t → Among r (asked_at rs name (Kept t))
asked_owner rs name t r a owner kind = (among_filter (λ r. at name t (key_of r)) rs r).1 (a, at_has name t (key_of r) owner (ap rank_of kind))

pub owner_asked : (rs : List Record) (name : Name) (t : RecordType) (r : Record) → Among r (asked_at rs name (Kept t)) → Among r rs × (r.owner ≡ name) × (type_of r.rdata ≡ t)
owner_asked rs name t r a =
    let both = (among_filter (λ r. at name t (key_of r)) rs r).0 a in
    let is = at_is name t (key_of r) both.1 in
    (both.0, is.0, one_rank (type_of r.rdata) t is.1)

pub second : (a b : Bool) → b ≡ true → (a || b) ≡ true
second true b e = refl
second false b e = e

pub first : (a b : Bool) → a ≡ true → (a || b) ≡ true
first true b e = refl
first false b e = absurd cc

-- ---- zones that the caller may make

module _ (rules : List Rule) (caller : List ℕ) (origin : Name) (rs : List Record) where
  -- an SOA at the origin, the serial of which each update advances
  abbrev pub IsSerial : Name → RecordType → Type 0
  IsSerial name t = (name ≡ origin) × (t ≡ types.Soa) × MayUpdate rules caller origin

  -- Records are those of the zone before, but for what the caller may change.
  pub record Possible (In : Record → Type 0) : Type 0 where
    pub comes : (r : Record) → In r → Among r rs ⊎ ((may_come rules caller origin rs r.owner (type_of r.rdata) ≡ true) ⊎ IsSerial r.owner (type_of r.rdata))
    pub goes : (r : Record) → Among r rs → In r ⊎ ((may_change rules caller origin rs r.owner (type_of r.rdata) ≡ true) ⊎ IsSerial r.owner (type_of r.rdata))
    pub stays : (r : Record) → Among r rs → remains rules caller origin r ≡ true → (s : Record) × In s × (s.owner ≡ r.owner) × (type_of s.rdata ≡ type_of r.rdata)
    pub soa : (r : Record) → In r → type_of r.rdata ≡ types.Soa → (may_come rules caller origin rs origin types.Soa ≡ true) ⊎ ((s : Record) × Among s rs × (type_of s.rdata ≡ types.Soa) × (but_serial r ≡ but_serial s))

  pub record IsPossible (ys : List Record) : Type 0 where
    pub order : InOrder ys
    pub is : Possible (λ r. Among r ys)

  pub itself : InOrder rs → IsPossible rs
  itself order = record { order = order; is = record { comes = λ r a. inl a; goes = λ r a. inl a; stays = λ r a e. (r, a, refl, refl); soa = λ r a t. inr (r, a, t, refl) } }

  -- no record of the type at the name may come or go
  pub record IsFixed (name : Name) (t : RecordType) : Type 0 where
    pub change : may_change rules caller origin rs name t ≡ false
    pub serial : ¬ IsSerial name t

  -- a set that may not change is the same in all of them
  module _ (ys zs : List Record) (from : IsPossible ys) (to : IsPossible zs) where
    pub moves : (name : Name) (t : RecordType) → IsFixed name t → (r : Record) → r.owner ≡ name → type_of r.rdata ≡ t → Among r ys → Among r zs
    moves name t fixed r owner kind a =
        let off : may_change rules caller origin rs r.owner (type_of r.rdata) ≡ false =
        (λ i. may_change rules caller origin rs (owner i) (kind i)) ∙ fixed.change in
        let not_serial : ¬ IsSerial r.owner (type_of r.rdata) = λ is. fixed.serial (sym owner ∙ is.0, sym kind ∙ is.1, is.2) in
        let before : Among r rs = (elim (from.is.comes r a) [
          | inl here ↦ here
          | inr new ↦ (elim new [ inl come ↦ no_test (may_change rules caller origin rs r.owner (type_of r.rdata)) (first _ _ come) off | inr serial ↦ absurd (not_serial serial) ])
        ]) in
        (elim (to.is.goes r before) [
          | inl here ↦ here
          | inr gone ↦ (elim gone [ inl change ↦ no_test (may_change rules caller origin rs r.owner (type_of r.rdata)) change off | inr serial ↦ absurd (not_serial serial) ])
        ])

  module _ (ys zs : List Record) (from : IsPossible ys) (to : IsPossible zs) where
    pub same_set : (name : Name) (t : RecordType) → IsFixed name t → asked_at ys name (Kept t) ≡ asked_at zs name (Kept t)
    same_set name t fixed =
        same_filters (λ r. at name t (key_of r)) ys zs from.order to.order
        (λ r e a. let is = at_is name t (key_of r) e in moves ys zs from to name t fixed r is.0 (one_rank (type_of r.rdata) t is.1) a)
        (λ r e a. let is = at_is name t (key_of r) e in moves zs ys to from name t fixed r is.0 (one_rank (type_of r.rdata) t is.1) a)

    same_all : (name : Name) → ((t : RecordType) → IsFixed name t) → asked_at ys name Any ≡ asked_at zs name Any
    same_all name fixed =
        same_filters (λ r. at_name name (key_of r)) ys zs from.order to.order
        (λ r e a. moves ys zs from to name (type_of r.rdata) (fixed (type_of r.rdata)) r (name_is r.owner name e) refl a)
        (λ r e a. moves zs ys to from name (type_of r.rdata) (fixed (type_of r.rdata)) r (name_is r.owner name e) refl a)

  -- what makes a difference to a question is fixed, where it may not change
  pub fixed_by : (name : Name) (asked : QueryType) → ¬ RecordsMayChange rules caller origin rs name asked → (t : RecordType) → matters asked t ≡ true → IsFixed name t
  fixed_by name asked never t m =
      record { change = false_from_ne_true (may_change rules caller origin rs name t) (λ e. never (t, m, inl e)); serial = λ is. never (t, m, inr is) }

  pub self_type : (t : RecordType) → is_type t t ≡ true
  self_type t = (Decides-eqb (rank_of t) (rank_of t)).1 refl

  module _ (ys zs : List Record) (from : IsPossible ys) (to : IsPossible zs) where
    pub same_asked : (name : Name) (asked : QueryType) → ¬ RecordsMayChange rules caller origin rs name asked → asked_at ys name asked ≡ asked_at zs name asked
    same_asked name (Kept t) never = same_set ys zs from to name t (fixed_by name (Kept t) never t (first (is_type t t) (is_type t types.Cname) (self_type t)))
    same_asked name Any never = same_all ys zs from to name (λ t. fixed_by name Any never t refl)
    same_asked name Other never = refl

  -- ---- names that exist

  module _ (ys : List Record) (is : IsPossible ys) where
    -- what exists in one of them may exist
    pub may_there : MayExist rules caller origin rs origin → (name : Name) → Exists ys name → MayExist rules caller origin rs name
    may_there home name has = (elim (is.is.comes has.0 (among_of ys has.0 has.1)) [
      | inl old ↦ inl (has.0, of_among rs has.0 old, has.2)
      | inr new ↦ (elim new [
        | inl come ↦ inr (has.0.owner, type_of has.0.rdata, has.2, come)
        | inr serial ↦ above home (subst (λ (n : Name). IsWithin n name) serial.0 has.2)
      ])
    ])
      where
        above : MayExist rules caller origin rs origin → IsWithin origin name → MayExist rules caller origin rs name
        above may up = (elim may [
          | inl there ↦ inl (there.0, there.1, within_within there.0.owner origin name there.2 up)
          | inr come ↦ inr (come.0, come.1, within_within come.0 origin name come.2 up, come.3)
        ])

    -- what must exist is in each of them
    pub must_there : (name : Name) → must_exist rules caller origin rs name ≡ true → Exists ys name
    must_there name e =
        let found = any_is (λ r. is_within r.owner name && remains rules caller origin r) rs e in
        let both = and_parts (is_within found.0.owner name) (remains rules caller origin found.0) found.2 in
        let kept = is.is.stays found.0 found.1 both.1 in
        (kept.0, of_among ys kept.0 kept.1, subst (λ (n : Name). IsWithin n name) (sym kept.2) ((is_within-Decides found.0.owner name).0 both.0))
