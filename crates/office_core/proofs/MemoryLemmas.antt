-- What a table in memory finds, and what it holds once something was put in.
use Rattle.std.proofs.Common.{◌≡◌, ℕ, zero, suc, ◌<◌, ◌≤◌, List, [], ◌∷◌, ◌++◌, length, get_or, map, Bool, true, false, cond, ◌&&◌, nat_lt, arith, Option, Some, None, Result, Ok, Err, refl, sym, ap, ◌∙◌, subst, append_assoc, Vec, Global}
use Rattle.std.specs.Prelude.{OnErr, option_map, option_and_then, bytes_eq}
use Rattle.std.proofs.Math.ListN.{set}
use Rattle.std.specs.List.{AllByRecursion, find, position, position_or_len}
use Rattle.std.specs.Map.{lookup}
use Rattle.std.specs.BTreeMap.{BTreeMap, get, is_at}
use Rattle.std.specs.Cmp.Lexicographic.{slice_cmp}
use Rattle.std.specs.Ordering.{nat_cmp}
use Rattle.std.proofs.lemmas.Bool.{ltb-false}
use Rattle.std.specs.Cmp.{both_ways}
use Rattle.std.proofs.lemmas.List.{append-nil, set-set, map-append, get_or_default, length-set, with_items_is}
use Rattle.std.proofs.lemmas.Grind.{get_or-set_at}
use Rattle.std.specs.Vec.{with_items}
use Rattle.dns_data.specs.declared.record.Record.{Record}
use Rattle.std.proofs.lemmas.List.Folds.{find_at, find-set, find_past}
use Rattle.std.proofs.lemmas.List.Quantifiers.{position-Some}
use Rattle.std.proofs.lemmas.Map.Made.{lookup-map_values}
use Rattle.std.proofs.lemmas.Map.Text.{is_eq-slice_cmp}
use Rattle.std.proofs.lemmas.Option.{slice_get-get_or, slice_get_past}
use Rattle.std.proofs.lemmas.Slice.Eq.{bytes_eq-Decides}
use Rattle.dns_names.specs.Order.{same_name}
use Rattle.zone_core.proofs.SetLemmas.{by_cases, name_is, name_self, name_other}
use Rattle.zone_core.specs.Changes.{changed, change_in}
use Rattle.zone_core.specs.Updates.{IsUpdate}
use Rattle.zone_core.specs.Zones.{ZoneOf, IsZone}
use Rattle.zone_core.specs.declared.change.Change.{Change}
use Rattle.office_model.specs.declared.receipt.Receipt.{Receipt}
use Rattle.office_model.specs.declared.receipt.Addition.{Addition}
use Rattle.office_model.specs.States.{Held, State, zone_held, zone_at, changes_at, keep}
use Rattle.office_model.specs.Tables.{with_change_of, Fits, FitsChange, FitsHeld, addition_in, committed, held_with}
use Rattle.office_core.specs.declared.memory.HeldZone.{HeldZone}
use Rattle.office_core.specs.Memory.{MemoryOf, IsPutAt, HoldsSame, HoldsChange, Receipts, EachIsZone, IsMemory, HoldsState, state_in, held_among, held_of, is_of, receipt_among, receipt_in, receipt_rows, zone_among, without_changes, state_of}

-- ---- lists

pub found_passes : {X : Type 0} (p : X → Bool) (xs : List X) (x : X) → find p xs ≡ Some x → p x ≡ true
found_passes p [] x e = absurd cc
found_passes p (y ∷ ys) x e =
    by_cases (p y) (p x ≡ true) (λ t. let first : Some y ≡ Some x = rw t at e in let is : y ≡ x = cc in subst (λ q. p q ≡ true) is t)
    (λ f. let later : find p ys ≡ Some x = rw f at e in found_passes p ys x later)

pub found_has : {X : Type 0} (P : X → Type 0) (p : X → Bool) (xs : List X) (x : X) → AllByRecursion P xs → find p xs ≡ Some x → P x
found_has P p [] x all e = absurd cc
found_has P p (y ∷ ys) x all e =
    by_cases (p y) (P x) (λ t. let first : Some y ≡ Some x = rw t at e in let is : y ≡ x = cc in subst P is all.0)
    (λ f. let later : find p ys ≡ Some x = rw f at e in found_has P p ys x all.1 later)

pub all_set : {X : Type 0} (P : X → Type 0) (xs : List X) (i : ℕ) (y : X) → AllByRecursion P xs → P y → AllByRecursion P (set xs i y)
all_set P [] i y all here = all
all_set P (x ∷ xs) zero y all here = (here, all.1)
all_set P (x ∷ xs) (suc i) y all here = (all.0, all_set P xs i y all.1 here)

pub all_at : {X : Type 0} (P : X → Type 0) (xs : List X) (i : ℕ) (d : X) → AllByRecursion P xs → i < length xs → P (get_or xs i d)
all_at P [] i d all lt = absurd (omega arith)
all_at P (x ∷ xs) zero d all lt = all.0
all_at P (x ∷ xs) (suc i) d all lt = all_at P xs i d all.1 (omega arith)

pub all_push : {X : Type 0} (P : X → Type 0) (xs : List X) (y : X) → AllByRecursion P xs → P y → AllByRecursion P (xs ++ y ∷ [])
all_push P [] y all here = (here, tt)
all_push P (x ∷ xs) y all here = (all.0, all_push P xs y all.1 here)

place_is : {X : Type 0} (p : X → Bool) (xs : List X) (i : ℕ) → position p xs ≡ Some i → i ≡ position_or_len p xs
place_is p xs i e =
    by_cases (nat_lt (position_or_len p xs) (length xs)) (i ≡ position_or_len p xs) (λ t. let is : Some (position_or_len p xs) ≡ Some i = rw t at e in cc)
    (λ f. let is : None ≡ Some i = rw f at e in absurd cc)

-- what is found is what stands at its place
pub found_at : {X : Type 0} (p : X → Bool) (xs : List X) (i : ℕ) (d : X) → position p xs ≡ Some i → find p xs ≡ Some (get_or xs i d)
found_at p xs i d e =
    let is = place_is p xs i e in
    let inside : i < length xs = (position-Some p xs i d e).0 in
    find_at p xs ∙ rw (sym is) (slice_get-get_or xs i d inside)

-- what has no place is not found
pub no_place : {X : Type 0} (p : X → Bool) (xs : List X) (x : X) → position p xs ≡ None → find p xs ≡ Some x → ⊥
no_place p xs x e found =
    by_cases (nat_lt (position_or_len p xs) (length xs)) ⊥ (λ t. let is : Some (position_or_len p xs) ≡ None = rw t at e in cc)
    (λ f. let past : length xs ≤ position_or_len p xs = ltb-false (position_or_len p xs) (length xs) f in
    let none : find p xs ≡ None = find_at p xs ∙ slice_get_past xs (position_or_len p xs) past in
    let bad : None ≡ Some x = sym none ∙ found in cc)

-- what holds anyway holds at an error
pub on_err : {T E : Type 0} (r : Result T E) (P : Type 0) → P → OnErr r P
on_err (Ok x) P p = tt
on_err (Err e) P p = p

-- ---- zones

pub of_origin : (zones : List HeldZone) (origin : List (List ℕ)) (h : HeldZone) → find (is_of origin) zones ≡ Some h → h.zone.origin ≡ origin
of_origin zones origin h e = name_is h.zone.origin origin (found_passes (is_of origin) zones h e)

-- a zone is what is held of its origin
pub held_is_zone : (origin : List (List ℕ)) (zone : ZoneOf) → zone.origin ≡ origin → record { origin = origin; records = zone.records } ≡ zone
held_is_zone origin zone is = λ i. record { origin = sym is i; records = zone.records }

-- what is held of an origin is a zone
pub each_found : (zones : List HeldZone) (origin : List (List ℕ)) (held : Held) → EachIsZone zones → held_among zones origin ≡ Some held → IsZone (zone_held origin held)
each_found zones origin held all e = go (find (is_of origin) zones) refl e where
  go : (o : Option HeldZone) → find (is_of origin) zones ≡ o → option_map held_of o ≡ Some held → IsZone (zone_held origin held)
  go None found is = absurd cc
  go (Some h) found is =
      let same : held_of h ≡ held = cc in
      let zone : IsZone h.zone = found_has (λ q. IsZone q.zone) (is_of origin) zones h all found in
      subst (λ q. IsZone (zone_held origin q)) same (subst IsZone (sym (held_is_zone origin h.zone (of_origin zones origin h found))) zone)

-- what is told of a zone that was looked for
pub zone_found : (zones : List HeldZone) (s : State) (origin : List (List ℕ)) (o : Option HeldZone)
    → s.zones origin ≡ held_among zones origin → o ≡ find (is_of origin) zones → zone_at s origin ≡ option_map (λ h. h.zone) o
zone_found zones s origin o is found = ap (option_map (zone_held origin)) is ∙ ap (λ q. option_map (zone_held origin) (option_map held_of q)) (sym found) ∙ go o (sym found) where
  go : (o : Option HeldZone) → find (is_of origin) zones ≡ o → option_map (zone_held origin) (option_map held_of o) ≡ option_map (λ h. h.zone) o
  go None e = refl
  go (Some h) e = ap Some (held_is_zone origin h.zone (of_origin zones origin h e))

-- ---- a zone that is put

not_of : (o origin : List (List ℕ)) (h : HeldZone) → h.zone.origin ≡ origin → same_name o origin ≡ false → is_of o h ≡ false
not_of o origin h is f =
    name_other h.zone.origin o (λ e. let t : same_name o origin ≡ true = subst (λ q. same_name q origin ≡ true) (sym is ∙ e) (name_self origin) in let bad : true ≡ false = sym t ∙ f in cc)

pub held_put : (zones : List HeldZone) (origin : List (List ℕ)) (i : ℕ) (h : HeldZone) → position (is_of origin) zones ≡ Some i → h.zone.origin ≡ origin
    → (o : List (List ℕ)) → held_among (set zones i h) o ≡ cond (same_name o origin) (Some (held_of h)) (held_among zones o)
held_put zones origin i h e is o =
    let place = position-Some (is_of origin) zones i h e in
    by_cases (same_name o origin) (held_among (set zones i h) o ≡ cond (same_name o origin) (Some (held_of h)) (held_among zones o))
    (λ t.
    let passes : is_of origin h ≡ true = subst (λ q. same_name q origin ≡ true) (sym is) (name_self origin) in
    let found : find (is_of origin) (set zones i h) ≡ Some h = find-set (is_of origin) zones i h (place_is (is_of origin) zones i e) place.0 passes in
    rw t (subst (λ q. held_among (set zones i h) q ≡ Some (held_of h)) (sym (name_is o origin t)) (ap (option_map held_of) found)))
    (λ f.
    let was : (get_or zones i h).zone.origin ≡ origin = name_is _ _ place.1 in
    rw f (ap (option_map held_of) (find_past (is_of o) zones i h h (not_of o origin (get_or zones i h) was f) (not_of o origin h is f))))

-- the zone at its place, with something else in its place that holds the same
pub held_same : (zones : List HeldZone) (origin : List (List ℕ)) (i : ℕ) (h : HeldZone) → position (is_of origin) zones ≡ Some i
    → h.zone ≡ (get_or zones i h).zone → h.changes.items ≡ (get_or zones i h).changes.items → (o : List (List ℕ)) → held_among (set zones i h) o ≡ held_among zones o
held_same zones origin i h e zone changes o =
    let before = get_or zones i h in
    let was : before.zone.origin ≡ origin = of_origin zones origin before (found_at (is_of origin) zones i h e) in
    let is : h.zone.origin ≡ origin = ap (λ z. z.origin) zone ∙ was in
    let same : held_of h ≡ held_of before = λ k. record { records = (zone k).records; changes = map change_in (changes k) } in
    by_cases (same_name o origin) (held_among (set zones i h) o ≡ held_among zones o)
    (λ t.
    let found : held_among zones o ≡ Some (held_of before) = subst (λ q. held_among zones q ≡ Some (held_of before)) (sym (name_is o origin t)) (ap (option_map held_of) (found_at (is_of origin) zones i h e)) in
    let put : held_among (set zones i h) o ≡ Some (held_of h) = held_put zones origin i h e is o ∙ rw t refl in
    put ∙ ap Some same ∙ sym found)
    (λ f. held_put zones origin i h e is o ∙ rw f refl)

-- the zone at its place, with a change made
pub held_made : (zones : List HeldZone) (origin : List (List ℕ)) (i : ℕ) (h : HeldZone) (c : Change) → position (is_of origin) zones ≡ Some i
    → h.zone ≡ record (get_or zones i h).zone { records = changed (get_or zones i h).zone.records c.removed.items c.added.items } → h.changes.items ≡ (get_or zones i h).changes.items ++ c ∷ []
    → (o : List (List ℕ)) → held_among (set zones i h) o ≡ cond (same_name o origin) (option_map (held_with (change_in c)) (held_among zones origin)) (held_among zones o)
held_made zones origin i h c e zone changes o =
    let before = get_or zones i h in
    let found = found_at (is_of origin) zones i h e in
    let was : before.zone.origin ≡ origin = of_origin zones origin before found in
    let is : h.zone.origin ≡ origin = ap (λ z. z.origin) zone ∙ was in
    let listed : map change_in h.changes.items ≡ map change_in before.changes.items ++ change_in c ∷ [] = ap (map change_in) changes ∙ map-append change_in before.changes.items (c ∷ []) in
    let made : held_of h ≡ held_with (change_in c) (held_of before) = λ k. record { records = (zone k).records; changes = listed k } in
    let there : option_map (held_with (change_in c)) (held_among zones origin) ≡ Some (held_with (change_in c) (held_of before)) = ap (λ q. option_map (held_with (change_in c)) (option_map held_of q)) found in
    held_put zones origin i h e is o ∙ ap (λ q. cond (same_name o origin) q (held_among zones o)) (ap Some made ∙ sym there)

-- what a row of zones is once something was put in it
pub put_items : (v : Vec HeldZone Global) (before after : List HeldZone) (at : ℕ) (B : HeldZone → HeldZone → Type 0) → IsPutAt before after at B → before ≡ v.items
    → (with_items v after).items ≡ after
put_items v before after at B p is = with_items_is v after (ap length p.put ∙ length-set before at p.held ∙ ap length is ∙ sym v.ok.0)

-- room changes nothing that is found
pub room_same : (zones after : List HeldZone) (origin : List (List ℕ)) (at : ℕ) → position (is_of origin) zones ≡ Some at → IsPutAt zones after at HoldsSame
    → (o : List (List ℕ)) → held_among after o ≡ held_among zones o
room_same zones after origin at place p o = ap (λ q. held_among q o) p.put ∙ held_same zones origin at p.held place p.becomes.0 p.becomes.1 o

pub room_are_zones : (zones after : List HeldZone) (at : ℕ) → EachIsZone zones → at < length zones → IsPutAt zones after at HoldsSame → EachIsZone after
room_are_zones zones after at all inside p =
    subst EachIsZone (sym p.put) (all_set (λ h. IsZone h.zone) zones at p.held all (subst IsZone (sym p.becomes.0) (all_at (λ h. IsZone h.zone) zones at p.held all inside)))

-- what is put twice
twice : (zones room after : List HeldZone) (at : ℕ) (B C : HeldZone → HeldZone → Type 0) → IsPutAt zones room at B → (q : IsPutAt room after at C) → after ≡ set zones at q.held
twice zones room after at B C p q = q.put ∙ ap (λ r. set r at q.held) p.put ∙ set-set zones at p.held q.held

-- the zone before a change that was made of it
abbrev pub IsChangedAt : List HeldZone → ℕ → Change → ZoneOf → Type 0
IsChangedAt zones at c zone = (d : HeldZone) → zone ≡ record { origin = (get_or zones at d).zone.origin; records = changed (get_or zones at d).zone.records c.removed.items c.added.items }

pub made_zones : (zones room after : List HeldZone) (origin : List (List ℕ)) (at : ℕ) (c : Change) (zone : ZoneOf) → position (is_of origin) zones ≡ Some at
    → IsPutAt zones room at HoldsSame → IsPutAt room after at (HoldsChange zone c) → IsChangedAt zones at c zone
    → (o : List (List ℕ)) → held_among after o ≡ cond (same_name o origin) (option_map (held_with (change_in c)) (held_among zones origin)) (held_among zones o)
made_zones zones room after origin at c zone place p q is o =
    let h = q.held in
    let inside : at < length zones = (position-Some (is_of origin) zones at h place).0 in
    let before : get_or room at h ≡ p.held = ap (λ r. get_or r at h) p.put ∙ get_or-set_at zones at at p.held h refl inside in
    let changes : h.changes.items ≡ (get_or zones at h).changes.items ++ c ∷ [] =
    q.becomes.1 ∙ ap (λ r. r ++ c ∷ []) (ap (λ r. r.changes.items) before ∙ p.becomes.1 ∙ ap (λ r. r.changes.items) (get_or_default zones at p.held h inside)) in
    ap (λ r. held_among r o) (twice zones room after at HoldsSame (HoldsChange zone c) p q) ∙ held_made zones origin at h c place (q.becomes.0 ∙ is h) changes o

pub made_are_zones : (zones room after : List HeldZone) (at : ℕ) (c : Change) (zone : ZoneOf) → EachIsZone zones → IsPutAt zones room at HoldsSame
    → IsPutAt room after at (HoldsChange zone c) → IsZone zone → EachIsZone after
made_are_zones zones room after at c zone all p q is =
    subst EachIsZone (sym (twice zones room after at HoldsSame (HoldsChange zone c) p q)) (all_set (λ h. IsZone h.zone) zones at q.held all (subst IsZone (sym q.becomes.0) is))

-- what holds of some values holds of those that they are
pub moved : (P : ZoneOf → List Record → List Record → Type 0) (z z' : ZoneOf) (r r' s s' : List Record) → z ≡ z' → r ≡ r' → s ≡ s' → P z' r' s' → P z r s
moved P z z' r r' s s' e f g p = subst (λ q. P q r s) (sym e) (subst (λ q. P z' q s) (sym f) (subst (λ q. P z' r' q) (sym g) p))

-- ---- receipts

pub rows_are : (m : Receipts) (caller id : List ℕ) → receipt_among (receipt_rows m) caller id ≡ receipt_in m caller id
rows_are m caller id = ap (option_and_then (lookup (is_at (slice_cmp nat_cmp id)))) (lookup-map_values (λ own. own.entries) (is_at (slice_cmp nat_cmp caller)) m.entries) ∙ go (get (slice_cmp nat_cmp) m caller) where
  go : (o : Option (BTreeMap (List ℕ) Receipt)) → option_and_then (lookup (is_at (slice_cmp nat_cmp id))) (option_map (λ own. own.entries) o) ≡ option_and_then (λ own. get (slice_cmp nat_cmp) own id) o
  go None = refl
  go (Some own) = refl

-- identifiers that tie are the same octets
pub tied_is : (a b : List ℕ) → is_at (slice_cmp nat_cmp a) b ≡ bytes_eq b a
tied_is a b =
    is_eq-slice_cmp a b ∙ both_ways (bytes_eq a b) (bytes_eq b a) (λ t. (bytes_eq-Decides b a).1 (sym ((bytes_eq-Decides a b).0 t))) (λ t. (bytes_eq-Decides a b).1 (sym ((bytes_eq-Decides b a).0 t)))

-- identifiers that tie are one
tied_same : (a b : List ℕ) → is_at (slice_cmp nat_cmp a) b ≡ true → a ≡ b
tied_same a b t = (bytes_eq-Decides a b).0 (sym (is_eq-slice_cmp a b) ∙ t)

-- a receipt that is put among those of a caller
pub kept_in : (m n : Receipts) (caller id : List ℕ) (receipt : Receipt) (own all : BTreeMap (List ℕ) Receipt)
    → ((i : List ℕ) → receipt_in m caller i ≡ get (slice_cmp nat_cmp) own i)
    → ((c : List ℕ) → get (slice_cmp nat_cmp) n c ≡ cond (is_at (slice_cmp nat_cmp caller) c) (Some all) (get (slice_cmp nat_cmp) m c))
    → ((i : List ℕ) → get (slice_cmp nat_cmp) all i ≡ cond (is_at (slice_cmp nat_cmp id) i) (Some receipt) (get (slice_cmp nat_cmp) own i))
    → (c i : List ℕ) → receipt_in n c i ≡ cond (is_at (slice_cmp nat_cmp caller) c && is_at (slice_cmp nat_cmp id) i) (Some receipt) (receipt_in m c i)
kept_in m n caller id receipt own all was outer inner c i = ap (option_and_then (λ o. get (slice_cmp nat_cmp) o i)) (outer c) ∙ rest where
  rest : option_and_then (λ o. get (slice_cmp nat_cmp) o i) (cond (is_at (slice_cmp nat_cmp caller) c) (Some all) (get (slice_cmp nat_cmp) m c))
      ≡ cond (is_at (slice_cmp nat_cmp caller) c && is_at (slice_cmp nat_cmp id) i) (Some receipt) (receipt_in m c i)
  rest =
      by_cases (is_at (slice_cmp nat_cmp caller) c) (option_and_then (λ o. get (slice_cmp nat_cmp) o i) (cond (is_at (slice_cmp nat_cmp caller) c) (Some all) (get (slice_cmp nat_cmp) m c))
      ≡ cond (is_at (slice_cmp nat_cmp caller) c && is_at (slice_cmp nat_cmp id) i) (Some receipt) (receipt_in m c i))
      (λ t. let here : get (slice_cmp nat_cmp) own i ≡ receipt_in m c i = sym (was i) ∙ ap (λ q. receipt_in m q i) (tied_same caller c t) in rw t (inner i ∙ ap (λ q. cond (is_at (slice_cmp nat_cmp id) i) (Some receipt) q) here))
      (λ f. rw f refl)

-- where what a caller had stays, all stays
pub same_in : (m n : Receipts) (caller : List ℕ) (own all : BTreeMap (List ℕ) Receipt)
    → ((i : List ℕ) → receipt_in m caller i ≡ get (slice_cmp nat_cmp) own i)
    → ((c : List ℕ) → get (slice_cmp nat_cmp) n c ≡ cond (is_at (slice_cmp nat_cmp caller) c) (Some all) (get (slice_cmp nat_cmp) m c))
    → all.entries ≡ own.entries → (c i : List ℕ) → receipt_in n c i ≡ receipt_in m c i
same_in m n caller own all was outer same c i = ap (option_and_then (λ o. get (slice_cmp nat_cmp) o i)) (outer c) ∙ rest where
  rest : option_and_then (λ o. get (slice_cmp nat_cmp) o i) (cond (is_at (slice_cmp nat_cmp caller) c) (Some all) (get (slice_cmp nat_cmp) m c)) ≡ receipt_in m c i
  rest =
      by_cases (is_at (slice_cmp nat_cmp caller) c) (option_and_then (λ o. get (slice_cmp nat_cmp) o i) (cond (is_at (slice_cmp nat_cmp caller) c) (Some all) (get (slice_cmp nat_cmp) m c)) ≡ receipt_in m c i)
      (λ t. rw t (ap (lookup (is_at (slice_cmp nat_cmp i))) same ∙ sym (was i) ∙ ap (λ q. receipt_in m q i) (tied_same caller c t)))
      (λ f. rw f refl)

-- the same of entries
pub kept_rows : (m n : Receipts) (caller id : List ℕ) (receipt : Receipt)
    → ((c i : List ℕ) → receipt_in n c i ≡ cond (is_at (slice_cmp nat_cmp caller) c && is_at (slice_cmp nat_cmp id) i) (Some receipt) (receipt_in m c i))
    → (c i : List ℕ) → receipt_among (receipt_rows n) c i ≡ cond (bytes_eq c caller && bytes_eq i id) (Some receipt) (receipt_among (receipt_rows m) c i)
kept_rows m n caller id receipt kept c i = rows_are n c i ∙ kept c i ∙ (λ k. cond (tied_is caller c k && tied_is id i k) (Some receipt) (sym (rows_are m c i) k))

pub same_rows : (m n : Receipts) → ((c i : List ℕ) → receipt_in n c i ≡ receipt_in m c i) → (c i : List ℕ) → receipt_among (receipt_rows n) c i ≡ receipt_among (receipt_rows m) c i
same_rows m n same c i = rows_are n c i ∙ same c i ∙ sym (rows_are m c i)

-- ---- states

-- what is held by what is found
pub holds_found : (m : MemoryOf) (s : State) → IsMemory m → ((origin : List (List ℕ)) → s.zones origin ≡ held_among m.zones origin)
    → ((caller id : List ℕ) → s.receipts caller id ≡ receipt_among m.receipts caller id) → HoldsState m s
holds_found m s all zones receipts = record {
  zones = zones;
  receipts = receipts;
  are_zones = λ origin held e. each_found m.zones origin held all.zones (sym (zones origin) ∙ e);
  are_receipts = λ caller id receipt e. all.receipts caller id receipt (sym (receipts caller id) ∙ e);
}

pub holds_itself : (m : MemoryOf) → IsMemory m → HoldsState m (state_in m)
holds_itself m all = holds_found m (state_in m) all (λ origin. refl) (λ caller id. refl)

-- what fits each state that is held fits what is found
pub fits_found : (m : MemoryOf) (a : Addition) (c : Change) (h : HeldZone) → IsMemory m → (Unit {0} → (s : State) → HoldsState m s → Fits s (addition_in a))
    → a.change ≡ Some c → find (is_of a.receipt.origin) m.zones ≡ Some h → FitsHeld a.receipt.origin (held_of h) (change_in c)
fits_found m a c h all fits is found =
    let origin = a.receipt.origin in
    let some : FitsChange (state_in m) origin (Some (change_in c)) = subst (λ q. FitsChange (state_in m) origin (option_map change_in q)) is (fits tt (state_in m) (holds_itself m all)).change in
    let same : Some (held_of h) ≡ Some some.0 = ap (option_map held_of) (sym found) ∙ some.1 in
    let here : held_of h ≡ some.0 = cc in
    subst (λ q. FitsHeld origin q (change_in c)) (sym here) some.2

-- a zone with a change that fits is a zone
pub fits_zone : (origin : List (List ℕ)) (h : HeldZone) (c : Change) → h.zone.origin ≡ origin → FitsHeld origin (held_of h) (change_in c)
    → IsZone (record h.zone { records = changed h.zone.records c.removed.items c.added.items })
fits_zone origin h c is fits = subst IsZone (λ i. record { origin = sym is i; records = changed h.zone.records c.removed.items c.added.items }) fits.zone

-- its zone is there
pub has_place : (m : MemoryOf) (a : Addition) (c : Change) → IsMemory m → (Unit {0} → (s : State) → HoldsState m s → Fits s (addition_in a))
    → a.change ≡ Some c → position (is_of a.receipt.origin) m.zones ≡ None → ⊥
has_place m a c all fits is none =
    let origin = a.receipt.origin in
    let some : FitsChange (state_in m) origin (Some (change_in c)) = subst (λ q. FitsChange (state_in m) origin (option_map change_in q)) is (fits tt (state_in m) (holds_itself m all)).change in
    go (find (is_of origin) m.zones) refl some.1 where
      go : {held : Held} (o : Option HeldZone) → find (is_of a.receipt.origin) m.zones ≡ o → option_map held_of o ≡ Some held → ⊥
      go None e bad = cc
      go (Some h) e same = no_place (is_of a.receipt.origin) m.zones h none e

-- what is told of a zone, and of a receipt, that was looked for
pub zone_told : (m : MemoryOf) (zones : List HeldZone) (receipts : List (List ℕ × List (List ℕ × Receipt))) (s : State) (origin : List (List ℕ)) (o : Option HeldZone)
    → record { zones = zones; receipts = receipts } ≡ m → HoldsState m s → o ≡ find (is_of origin) zones → option_map (λ h. h.zone) o ≡ zone_at s origin
zone_told m zones receipts s origin o is h found = sym (zone_found zones s origin o (h.zones origin ∙ ap (λ q. held_among q.zones origin) (sym is)) found)

pub changes_told : (m : MemoryOf) (zones : List HeldZone) (receipts : List (List ℕ × List (List ℕ × Receipt))) (s : State) (origin : List (List ℕ)) (o : Option HeldZone)
    → record { zones = zones; receipts = receipts } ≡ m → HoldsState m s → o ≡ find (is_of origin) zones → option_map (λ h. map change_in h.changes.items) o ≡ changes_at s origin
changes_told m zones receipts s origin o is h found =
    go o ∙ ap (λ q. option_map (λ held. held.changes) (option_map held_of q)) found ∙ ap (option_map (λ held. held.changes)) (ap (λ q. held_among q.zones origin) is ∙ sym (h.zones origin)) where
      go : (o : Option HeldZone) → option_map (λ h. map change_in h.changes.items) o ≡ option_map (λ (held : Held). held.changes) (option_map held_of o)
      go None = refl
      go (Some h) = refl

pub receipt_told : (m : MemoryOf) (zones : List HeldZone) (receipts : Receipts) (s : State) (caller id : List ℕ) (o : Option Receipt)
    → record { zones = zones; receipts = receipt_rows receipts } ≡ m → HoldsState m s → o ≡ receipt_in receipts caller id → o ≡ s.receipts caller id
receipt_told m zones receipts s caller id o is h found =
    found ∙ sym (rows_are receipts caller id) ∙ ap (λ q. receipt_among q.receipts caller id) is ∙ sym (h.receipts caller id)

-- ---- receipts

-- an empty list of receipts has only receipts of updates
pub no_receipts : (m : MemoryOf) → EachIsZone m.zones → m.receipts ≡ [] → IsMemory m
no_receipts m all none = record {
  zones = all;
  receipts = λ caller id receipt e. (let bad : None ≡ Some receipt = ap (λ rs. receipt_among rs caller id) (sym none) ∙ e in cc);
}

-- what was of updates is, where the same is found
pub same_receipts : (m n : MemoryOf) → EachIsZone n.zones → ((c i : List ℕ) → receipt_among n.receipts c i ≡ receipt_among m.receipts c i) → IsMemory m → IsMemory n
same_receipts m n all same is = record {
  zones = all;
  receipts = λ caller id receipt e. is.receipts caller id receipt (sym (same caller id) ∙ e);
}

-- and with one more of an update
pub one_receipt : (m n : MemoryOf) (caller id : List ℕ) (receipt : Receipt) → EachIsZone n.zones
    → ((c i : List ℕ) → receipt_among n.receipts c i ≡ cond (bytes_eq c caller && bytes_eq i id) (Some receipt) (receipt_among m.receipts c i))
    → IsUpdate receipt.update → IsMemory m → IsMemory n
one_receipt m n caller id receipt all kept update is = record {
  zones = all;
  receipts = λ c i r e. by_cases (bytes_eq c caller && bytes_eq i id) (IsUpdate r.update)
      (λ t. let here : Some receipt ≡ Some r = rw t at (sym (kept c i) ∙ e) in let same : receipt ≡ r = cc in subst (λ q. IsUpdate q.update) same update)
      (λ f. let there : receipt_among m.receipts c i ≡ Some r = rw f at (sym (kept c i) ∙ e) in is.receipts c i r there);
}

-- ---- what is held after a call

-- what is found stays
pub holds_same : (m n : MemoryOf) (s : State) → ((o : List (List ℕ)) → held_among n.zones o ≡ held_among m.zones o)
    → ((c i : List ℕ) → receipt_among n.receipts c i ≡ receipt_among m.receipts c i) → HoldsState m s → HoldsState n s
holds_same m n s zones receipts h = record {
  zones = λ o. h.zones o ∙ sym (zones o);
  receipts = λ c i. h.receipts c i ∙ sym (receipts c i);
  are_zones = h.are_zones;
  are_receipts = h.are_receipts;
}

-- a change is made, and a receipt kept
pub holds_change : (m n : MemoryOf) (s : State) (a : Addition) (c : Change) → a.change ≡ Some c → IsMemory n
    → ((o : List (List ℕ)) → held_among n.zones o ≡ cond (same_name o a.receipt.origin) (option_map (held_with (change_in c)) (held_among m.zones a.receipt.origin)) (held_among m.zones o))
    → ((c i : List ℕ) → receipt_among n.receipts c i ≡ cond (bytes_eq c a.caller && bytes_eq i a.id) (Some a.receipt) (receipt_among m.receipts c i))
    → HoldsState m s → HoldsState n (committed (addition_in a) s)
holds_change m n s a c is all zones receipts h =
    let origin = a.receipt.origin in
    subst (λ q. HoldsState n (keep (with_change_of s origin (option_map change_in q)) a.caller a.id a.receipt)) (sym is)
    (holds_found n (keep (with_change_of s origin (Some (change_in c))) a.caller a.id a.receipt) all
    (λ o. (λ k. cond (same_name o origin) (option_map (held_with (change_in c)) (h.zones origin k)) (h.zones o k)) ∙ sym (zones o))
    (λ caller id. (λ k. cond (bytes_eq caller a.caller && bytes_eq id a.id) (Some a.receipt) (h.receipts caller id k)) ∙ sym (receipts caller id)))

-- a receipt is kept, and no change made
pub holds_receipt : (m n : MemoryOf) (s : State) (a : Addition) → a.change ≡ None → IsMemory n → n.zones ≡ m.zones
    → ((c i : List ℕ) → receipt_among n.receipts c i ≡ cond (bytes_eq c a.caller && bytes_eq i a.id) (Some a.receipt) (receipt_among m.receipts c i))
    → HoldsState m s → HoldsState n (committed (addition_in a) s)
holds_receipt m n s a is all zones receipts h =
    subst (λ q. HoldsState n (keep (with_change_of s a.receipt.origin (option_map change_in q)) a.caller a.id a.receipt)) (sym is)
    (holds_found n (keep s a.caller a.id a.receipt) all
    (λ o. h.zones o ∙ ap (λ zs. held_among zs o) (sym zones))
    (λ caller id. (λ k. cond (bytes_eq caller a.caller && bytes_eq id a.id) (Some a.receipt) (h.receipts caller id k)) ∙ sym (receipts caller id)))

-- ---- a new table

-- a zone with its changes
abbrev pub is_fresh : HeldZone → ZoneOf × List Change
is_fresh h = (h.zone, h.changes.items)

-- a zone without changes
abbrev pub fresh : ZoneOf → ZoneOf × List Change
fresh zone = (zone, [])

held_pair : List (ZoneOf × List Change) → List (List ℕ) → Option Held
held_pair pairs origin = option_map (λ p. record { records = p.0.records; changes = map change_in p.1 }) (find (λ p. same_name p.0.origin origin) pairs)

held_in_pairs : (zones : List HeldZone) (origin : List (List ℕ)) → held_among zones origin ≡ held_pair (map is_fresh zones) origin
unfolding held_pair
held_in_pairs [] origin = refl
held_in_pairs (h ∷ zones) origin =
    by_cases (same_name h.zone.origin origin) (held_among (h ∷ zones) origin ≡ held_pair (map is_fresh (h ∷ zones)) origin) (λ t. rw t refl) (λ f. rw f (held_in_pairs zones origin))

zones_in_pairs : (zones : List ZoneOf) (origin : List (List ℕ)) → option_map without_changes (zone_among zones origin) ≡ held_pair (map fresh zones) origin
unfolding held_pair
zones_in_pairs [] origin = refl
zones_in_pairs (z ∷ zones) origin =
    by_cases (same_name z.origin origin) (option_map without_changes (zone_among (z ∷ zones) origin) ≡ held_pair (map fresh (z ∷ zones)) origin) (λ t. rw t refl) (λ f. rw f (zones_in_pairs zones origin))

-- zones of which nothing was changed and nothing answered
pub holds_fresh : (m : MemoryOf) (zones : List ZoneOf) → IsMemory m → map is_fresh m.zones ≡ map fresh zones → m.receipts ≡ [] → HoldsState m (state_of zones)
holds_fresh m zones all same none =
    holds_found m (state_of zones) all (λ origin. zones_in_pairs zones origin ∙ ap (λ ps. held_pair ps origin) (sym same) ∙ sym (held_in_pairs m.zones origin))
    (λ caller id. sym (ap (λ rs. receipt_among rs caller id) none))

-- one more zone is taken
pub more_fresh : (held : List HeldZone) (h : HeldZone) (zone : ZoneOf) (before rest : List ZoneOf) (all : List (ZoneOf × List Change))
    → h.zone ≡ zone → h.changes.items ≡ [] → before ≡ zone ∷ rest → map is_fresh held ++ map fresh before ≡ all → map is_fresh (held ++ h ∷ []) ++ map fresh rest ≡ all
more_fresh held h zone before rest all is none first e =
    let first_held : is_fresh h ≡ fresh zone = λ i. (is i, none i) in
    ap (λ q. q ++ map fresh rest) (map-append is_fresh held (h ∷ [])) ∙ append_assoc (map is_fresh held) (is_fresh h ∷ []) (map fresh rest)
    ∙ ap (λ q. map is_fresh held ++ q ∷ map fresh rest) first_held ∙ ap (λ q. map is_fresh held ++ map fresh q) (sym first) ∙ e

-- all are taken
pub all_fresh : (held : List HeldZone) (rest : List ZoneOf) (all : List (ZoneOf × List Change)) → rest ≡ [] → map is_fresh held ++ map fresh rest ≡ all → map is_fresh held ≡ all
all_fresh held rest all none e = sym (append-nil (map is_fresh held)) ∙ ap (λ q. map is_fresh held ++ map fresh q) (sym none) ∙ e
