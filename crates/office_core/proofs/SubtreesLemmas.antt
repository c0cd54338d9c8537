-- The records within names that are apart, one name after the other, are those within some of them, in record order.
use Rattle.std.proofs.Common.{◌≡◌, ◌↔◌, ℕ, suc, ◌+◌, ◌-◌, ◌<◌, List, [], ◌∷◌, ◌++◌, length, length-append, take, drop, get_or, Bool, true, false, cond, ◌||◌, Option, Some, None, option_map, refl, sym, ap, subst, ◌∙◌, arith, ⊎_elim}
use Rattle.std.specs.declared.cmp.Ordering.{Ordering}
use Rattle.std.specs.declared.cmp.Ordering.TheVariants.{Less, Equal, Greater}
use Rattle.std.specs.Ordering.{is_lt, is_le, is_eq}
use Rattle.std.specs.Cmp.{tied_itself}
use Rattle.std.specs.List.{AllByRecursion, filter, list_any}
use Rattle.std.specs.List.Sorted.{IsStrictlySortedBy}
use Rattle.std.proofs.lemmas.Bool.{cases_Bool, false_from_ne_true}
use Rattle.std.proofs.lemmas.List.{append-nil, get_or_default, take_more, take-append-drop, get_or_append_left, get_or-append-add}
use Rattle.std.proofs.lemmas.List.Concat.{flat_map-append}
use Rattle.std.proofs.lemmas.List.Elements.{filter-append}
use Rattle.dns_names.specs.Labels.{is_within}
use Rattle.dns_names.specs.Order.{canonical_cmp, canonical_total}
use Rattle.dns_data.specs.declared.record.Record.{Record}
use Rattle.dns_data.specs.Rdata.{type_of}
use Rattle.dns_data.specs.RecordOrder.{record_order, record_order_total}
use Rattle.grant_policy.specs.Grants.{GrantsOf, includes}
use Rattle.zone_core.specs.Outermost.{AreApart}
use Rattle.zone_core.specs.Sets.{Records, InOrder, listing, part, within}
use Rattle.zone_core.specs.Zones.{AreKept, IsZone, ZoneOf}
use Rattle.zone_core.proofs.SetLemmas.{name_is}
use Rattle.zone_core.proofs.RowLemmas.{InOrder-filter, listed_part}
use Rattle.zone_core.proofs.RangeLemmas.{pair_order, by_owner}
use Rattle.zone_core.proofs.WithinLemmas.{not_before, between}
use Rattle.zone_core.proofs.MetLemmas.{Among, any_is, of_among}
use Rattle.zone_core.proofs.BelowLemmas.{before_then, not_behind, is_behind, not_above, no_test}
use Rattle.zone_core.proofs.ChangedLemmas as changed
use Rattle.office_model.specs.States.{AreZones, Held, State, zone_at, zone_held}
use Rattle.office_model.specs.Tables.{included}
use Rattle.office_core.specs.Subtrees.{subtrees}

abbrev Labels : Type 0
Labels = List (List ℕ)

-- ---- lists

all_map : {X : Type 0} (P Q : X → Type 0) (xs : List X) → ((x : X) → P x → Q x) → AllByRecursion P xs → AllByRecursion Q xs
all_map P Q [] then all = tt
all_map P Q (x ∷ xs) then all = (then x all.0, all_map P Q xs then all.1)

all_front : {X : Type 0} (P : X → Type 0) (xs ys : List X) → AllByRecursion P (xs ++ ys) → AllByRecursion P xs
all_front P [] ys all = tt
all_front P (x ∷ xs) ys all = (all.0, all_front P xs ys all.1)

-- ---- rows in order

before_all : (x y : Record) (rs : List Record) → record_order x y ≡ Less → AllByRecursion (λ z. record_order y z ≡ Less) rs → AllByRecursion (λ z. record_order x z ≡ Less) rs
before_all x y rs less all = all_map (λ z. record_order y z ≡ Less) (λ z. record_order x z ≡ Less) rs (λ z e. record_order_total.trans x y z less e) all

-- a row after another, by the last of this and the first of that
pub join_order : (xs ys : List Record) (d : Record) → InOrder xs → InOrder ys
    → ((k : ℕ) → k + 1 ≡ length xs → 0 < length ys → record_order (get_or xs k d) (get_or ys 0 d) ≡ Less) → InOrder (xs ++ ys)
unfolding IsStrictlySortedBy
join_order [] ys d first second less = second
join_order (x ∷ []) [] d first second less = (tt, tt)
join_order (x ∷ []) (y ∷ ys) d first second less =
    let here = less 0 (omega arith) (omega arith) in
    ((here, before_all x y ys here second.0), second)
join_order (x ∷ x' ∷ xs) ys d first second less =
    let rest = join_order (x' ∷ xs) ys d first.1 second (λ k e others. less (suc k) (omega (arith, e)) others) in
    ((first.0.0, before_all x x' (xs ++ ys) first.0.0 rest.0), rest)

pub across : (xs ys : List Record) (d : Record) → InOrder (xs ++ ys) → 0 < length xs → 0 < length ys → record_order (get_or xs (length xs - 1) d) (get_or ys 0 d) ≡ Less
across xs ys d order some others =
    let pair = pair_order (xs ++ ys) order (length xs - 1) (length xs + 0) d (omega (arith, some)) (omega (arith, some, others, length-append xs ys)) in
    sym (λ k. record_order (get_or_append_left xs ys d (length xs - 1) (omega (arith, some)) k) (get_or-append-add xs ys 0 d k)) ∙ pair

less_of : (o : Ordering) → is_lt o ≡ true → o ≡ Less
less_of Less e = refl
less_of Equal e = absurd cc
less_of Greater e = absurd cc

-- the last of one and the first of another tell whether they are in order together
pub behind_by : (xs ys : List Record) (a b : Record) → InOrder xs → InOrder ys → 0 < length xs → 0 < length ys → a ≡ get_or xs (length xs - 1) a → b ≡ get_or ys 0 b
    → (is_lt (record_order a b) ≡ true) ↔ InOrder (xs ++ ys)
behind_by xs ys a b first second some others last next = (
  λ less. join_order xs ys a first second (λ k e there. (λ j. record_order (last_at k e j) (first_at j)) ∙ less_of (record_order a b) less),
  λ order. ap is_lt ((λ j. record_order (last j) (sym first_at j)) ∙ across xs ys a order some others),
)
  where
    last_at : (k : ℕ) → k + 1 ≡ length xs → get_or xs k a ≡ a
    last_at k e = ap (λ (n : ℕ). get_or xs n a) (let same : k ≡ length xs - 1 = omega (arith, e) in same) ∙ sym last

    first_at : get_or ys 0 a ≡ b
    first_at = get_or_default ys 0 a b others ∙ sym next

pub front_order : (xs ys : List Record) → InOrder (xs ++ ys) → InOrder xs
unfolding IsStrictlySortedBy
front_order [] ys order = tt
front_order (x ∷ xs) ys order = (all_front (λ z. record_order x z ≡ Less) xs ys order.0, front_order xs ys order.1)

-- ---- the order of owners

le_le : (a b c : Labels) → is_le (canonical_cmp a b) ≡ true → is_le (canonical_cmp b c) ≡ true → is_le (canonical_cmp a c) ≡ true
le_le a b c first second = by_order (canonical_cmp a b) refl first
  where
    by_order : (o : Ordering) → canonical_cmp a b ≡ o → is_le o ≡ true → is_le (canonical_cmp a c) ≡ true
    by_order Less e h = before_then a b c e second
    by_order Equal e h = subst (λ (x : Labels). is_le (canonical_cmp x c) ≡ true) (sym (name_is a b (ap is_eq e))) second
    by_order Greater e h = absurd cc

itself_le : (a : Labels) → is_le (canonical_cmp a a) ≡ true
itself_le a = ap is_le (tied_itself canonical_total a)

-- a name is not before one that it is within
within_le : (name top : Labels) → is_within name top ≡ true → is_le (canonical_cmp top name) ≡ true
within_le name top inside =
    ⊎_elim
    (λ (yes' : is_le (canonical_cmp top name) ≡ true). yes')
    (λ (no' : is_le (canonical_cmp top name) ≡ false). no_test (is_within name top) inside (not_before top name (is_behind top name no')))
    (cases_Bool (is_le (canonical_cmp top name)))

two_in_order : (a b : Record) → record_order a b ≡ Less → InOrder (a ∷ b ∷ [])
unfolding IsStrictlySortedBy
two_in_order a b less = ((less, tt), (tt, tt))

owner_le : (a b : Record) → record_order a b ≡ Less → is_le (canonical_cmp a.owner b.owner) ≡ true
owner_le a b less =
    not_above (canonical_cmp a.owner b.owner) (canonical_cmp b.owner b.owner) (tied_itself canonical_total b.owner)
    (by_owner (a ∷ b ∷ []) (two_in_order a b less) b.owner 0 1 a (omega arith) (omega arith))

-- ---- two tests, of which none of the first passes after one of the second

nothing : (p : Record → Bool) (rs : List Record) → AllByRecursion (λ r. p r ≡ false) rs → filter p rs ≡ []
nothing p [] fails = refl
nothing p (r ∷ rs) fails = ap (λ (b : Bool). cond b (r ∷ filter p rs) (filter p rs)) fails.0 ∙ nothing p rs fails.1

module _ (p q : Record → Bool) where
  abbrev IsParted : List Record → Type 0
  IsParted [] = Unit {0}
  IsParted (r ∷ rs) = (q r ≡ true → AllByRecursion (λ x. p x ≡ false) (r ∷ rs)) × IsParted rs

  merged : (rs : List Record) → IsParted rs → filter p rs ++ filter q rs ≡ filter (λ r. p r || q r) rs
  merged [] parted = refl
  merged (r ∷ rs) parted = by_tests (merged rs parted.1) (p r) refl (q r) refl
    where
      by_tests : filter p rs ++ filter q rs ≡ filter (λ x. p x || q x) rs → (a : Bool) → p r ≡ a → (b : Bool) → q r ≡ b
          → cond a (r ∷ filter p rs) (filter p rs) ++ cond b (r ∷ filter q rs) (filter q rs) ≡ cond (a || b) (r ∷ filter (λ x. p x || q x) rs) (filter (λ x. p x || q x) rs)
      by_tests later true e true f = no_test (p r) e (parted.0 f).0
      by_tests later true e false f = ap (λ (l : List Record). r ∷ l) later
      by_tests later false e true f =
          let none = nothing p rs (parted.0 f).1 in
          ap (λ (l : List Record). l ++ (r ∷ filter q rs)) none ∙ ap (λ (l : List Record). r ∷ l) (sym (ap (λ (l : List Record). l ++ filter q rs) none) ∙ later)
      by_tests later false e false f = later

-- ---- names apart

-- whether the owner of a record is within some of them
abbrev pub in_some : List Labels → Record → Bool
in_some tops r = list_any (λ top. is_within r.owner top) tops

rest_apart : (top : Labels) (tops : List Labels) → AreApart (top ∷ tops) → AreApart tops
rest_apart top tops apart i j d up below = apart (suc i) (suc j) d (omega arith) (omega arith)

module _ (top : Labels) (tops : List Labels) (apart : AreApart (top ∷ tops)) where
  -- the first is before another, which is not within it
  pair : (other : Labels) → Among other tops → (canonical_cmp top other ≡ Less) × (is_within other top ≡ false)
  pair other here =
      let i = of_among tops other here in
      let two = apart 0 (suc i.0) other (omega arith) (omega (arith, i.1)) in
      (ap (canonical_cmp top) (sym i.2) ∙ two.0, ap (λ (x : Labels). is_within x top) (sym i.2) ∙ two.1)

  -- what is not before a name within a later one is not within the first
  outside : (r x : Record) → in_some tops r ≡ true → is_le (canonical_cmp r.owner x.owner) ≡ true → is_within x.owner top ≡ false
  outside r x some le =
      let over = any_is (λ t. is_within r.owner t) tops some in
      let two = pair over.0 over.1 in
      false_from_ne_true (is_within x.owner top) (λ inside.
      no_test (is_within over.0 top)
      (between top over.0 x.owner (not_behind top over.0 two.0) (le_le over.0 r.owner x.owner (within_le r.owner over.0 over.2) le) inside) two.1)

  parted : (rs : List Record) → InOrder rs → IsParted (λ r. is_within r.owner top) (in_some tops) rs
  unfolding IsStrictlySortedBy
  parted [] order = tt
  parted (r ∷ rs) order = (
    λ some. (outside r r some (itself_le r.owner), all_map (λ x. record_order r x ≡ Less) (λ x. is_within x.owner top ≡ false) rs (λ x less. outside r x some (owner_le r x less)) order.0),
    parted rs order.1,
  )

module _ (set : Records) (kept : AreKept set) where
  pub subtrees_are : (tops : List Labels) → AreApart tops → subtrees set tops ≡ filter (in_some tops) (listing set)
  subtrees_are [] apart = sym (nothing (λ r. false) (listing set) (no_test_passes (listing set)))
    where
      no_test_passes : (rs : List Record) → AllByRecursion (λ r. false ≡ false) rs
      no_test_passes [] = tt
      no_test_passes (r ∷ rs) = (refl, no_test_passes rs)
  subtrees_are (top ∷ tops) apart =
      let rows = changed.listed set kept in
      (λ k. sym (listed_part (within top) (listing set) (listing set) set refl rows.set rows.order) k ++ subtrees_are tops (rest_apart top tops apart) k)
      ∙ merged (λ r. is_within r.owner top) (in_some tops) (listing set) (parted top tops apart (listing set) rows.order)

  pub subtrees_in_order : (tops : List Labels) → AreApart tops → InOrder (subtrees set tops)
  subtrees_in_order tops apart = subst InOrder (sym (subtrees_are tops apart)) (InOrder-filter (in_some tops) (listing set) (changed.listed set kept).order)

-- in a state
pub zones_in_order : (s : State) (origin : Labels) (tops : List Labels) → AreZones s → AreApart tops → (zone : ZoneOf) → zone_at s origin ≡ Some zone → InOrder (subtrees zone.records tops)
zones_in_order s origin tops zones apart zone is = of_held (s.zones origin) (zones origin) is
  where
    of_held : (h : Option Held) → ((held : Held) → h ≡ Some held → IsZone (zone_held origin held)) → option_map (zone_held origin) h ≡ Some zone → InOrder (subtrees zone.records tops)
    of_held None each e = absurd cc
    of_held (Some held) each e =
        let same : zone_held origin held ≡ zone = cc in
        subst (λ (z : ZoneOf). InOrder (subtrees z.records tops)) same (subtrees_in_order held.records (each held refl).kept tops apart)

-- ---- one name after the other

-- the records within the first names that grants include, if the zone is there; else no name was asked for
abbrev pub AreSoFar : GrantsOf → Option ZoneOf → List Labels → List Record → Type 0
AreSoFar g None tops rs = tops ≡ []
AreSoFar g (Some zone) tops rs = rs ≡ included g (subtrees zone.records tops)

pub so_far_none : (g : GrantsOf) (zone : Option ZoneOf) → AreSoFar g zone [] []
so_far_none g None = refl
so_far_none g (Some zone) = refl

-- with those within the next
pub so_far_more : (g : GrantsOf) (found : Option ZoneOf) (tops : List Labels) (i : ℕ) (top : Labels) (all more joined : List Record) → i < length tops → top ≡ get_or tops i top
    → ((zone : ZoneOf) → found ≡ Some zone → InOrder (subtrees zone.records tops)) → Some more ≡ option_map (included g) (option_map (λ zone. listing (part zone.records (within top))) found)
    → (InOrder (all ++ more) → joined ≡ all ++ more) → AreSoFar g found (take i tops) all → AreSoFar g found (take (i + 1) tops) joined
so_far_more g None tops i top all more joined lt is order tells joins so_far = absurd cc
so_far_more g (Some zone) tops i top all more joined lt is order tells joins so_far = joins (subst InOrder whole in_order) ∙ sym whole
  where
    set : Records
    set = zone.records

    here : more ≡ included g (listing (part set (within top)))
    here = cc

    both : subtrees set (take (i + 1) tops) ≡ subtrees set (take i tops) ++ listing (part set (within top))
    both =
        ap (subtrees set) (take_more tops i top lt ∙ ap (λ (x : Labels). take i tops ++ x ∷ []) (sym is))
        ∙ flat_map-append (λ (t : Labels). listing (part set (within t))) (take i tops) (top ∷ [])
        ∙ ap (λ (l : List Record). subtrees set (take i tops) ++ l) (append-nil (listing (part set (within top))))

    whole : included g (subtrees set (take (i + 1) tops)) ≡ all ++ more
    whole =
        ap (included g) both
        ∙ filter-append (λ r. includes g r.owner (type_of r.rdata)) (subtrees set (take i tops)) (listing (part set (within top)))
        ∙ (λ k. sym so_far k ++ sym here k)

    in_order : InOrder (included g (subtrees set (take (i + 1) tops)))
    in_order =
        InOrder-filter (λ r. includes g r.owner (type_of r.rdata)) (subtrees set (take (i + 1) tops))
        (front_order (subtrees set (take (i + 1) tops)) (subtrees set (drop (i + 1) tops))
        (subst InOrder
        (sym (ap (subtrees set) (take-append-drop (i + 1) tops)) ∙ flat_map-append (λ (t : Labels). listing (part set (within t))) (take (i + 1) tops) (drop (i + 1) tops))
        (order zone refl)))

-- of all of them
pub so_far_all : (g : GrantsOf) (found : Option ZoneOf) (tops : List Labels) (all : List Record) → 0 < length tops → AreSoFar g found tops all
    → Some all ≡ option_map (included g) (option_map (λ zone. subtrees zone.records tops) found)
so_far_all g None tops all some none = absurd (omega (arith, some, ap (λ (ts : List Labels). length ts) none))
so_far_all g (Some zone) tops all some is = ap (λ (rs : List Record). Some rs) is

pub none_there : (g : GrantsOf) (found : Option ZoneOf) (top : Labels) (tops : List Labels) → None ≡ option_map (included g) (option_map (λ zone. listing (part zone.records (within top))) found)
    → None ≡ option_map (included g) (option_map (λ zone. subtrees zone.records tops) found)
none_there g None top tops e = refl
none_there g (Some zone) top tops e = absurd cc
