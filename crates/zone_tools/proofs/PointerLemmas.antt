-- The pointers that records call for.
use Rattle.std.proofs.Common.{◌≡◌, ◌≢◌, ◌↔◌, ℕ, suc, ◌+◌, ◌<◌, ◌≤◌, Bool, true, false, cond, nat_le, List, [], ◌∷◌, length, get_or, Option, Some, None, decimal, refl, sym, ap, subst, ◌∙◌, arith, inl, inr}
use Rattle.std.specs.declared.cmp.Ordering.{Ordering}
use Rattle.std.specs.declared.cmp.Ordering.TheVariants.{Less, Equal, Greater}
use Rattle.std.specs.Ordering.{is_lt, nat_cmp, on, ordering_then, ordering_reverse}
use denote.Ref.{Bor}
use denote.Param.Members.{Mut}
use Rattle.std.specs.Fn.{Called}
use Rattle.std.specs.FinMap.{nat_cmp-IsAntisymmetric}
use Rattle.std.proofs.lemmas.Fn.{always_returns_same}
use Rattle.std.specs.Cmp.{tied_itself, IsTotalOrder, IsStrictWeakOrder, IsEquivalence, eq_by_cmp_equiv, nat_cmp_total, on_total, then_total}
use Rattle.std.specs.Cmp.Lexicographic.{slice_cmp, nat_list_cmp_total}
use Rattle.std.specs.Option.{option_map}
use Rattle.std.specs.List.{AllByRecursion, Contains, flat_map, dedup, dedup_from}
use Rattle.std.specs.List.Sorted.{IsPermutation, IsSorted, IsSortedByClosure, IsStrictlySortedBy}
use Rattle.std.specs.declared.net.ipv4_addr.Ipv4Addr.{Ipv4Addr}
use Rattle.std.proofs.lemmas.Bool.{and_parts, and_from, false_from_ne_true}
use Rattle.std.proofs.lemmas.Bool.Decides.{nat_tests}
use Rattle.std.proofs.lemmas.List.Kept.{Any-dedup, Contains-from_dedup, IsStrictlySortedBy-dedup}
use Rattle.std.proofs.lemmas.List.Sorted.{ranks_by, sorted_far, Contains-permutation}
use Rattle.dns_names.specs.Labels.{IsName, is_within, wire_len}
use Rattle.dns_names.specs.Order.{canonical_cmp, canonical_total, same_name}
use Rattle.dns_names.proofs.NameLemmas.{same_name-Decides, is_within-Decides}
use Rattle.dns_data.specs.declared.record.Record.{Record}
use Rattle.dns_data.specs.declared.rdata.Data.{Data}
use Rattle.dns_data.specs.declared.rdata.Data.TheVariants.{A, Aaaa, Ptr}
use Rattle.dns_data.specs.Rdata.{type_of, IsRdata, IsRecord}
use Rattle.dns_data.specs.RecordOrder.{key_of, rank_of, data_order, record_order}
use Rattle.dns_data.specs.Text.{data_text}
use Rattle.dns_data.proofs.RecordOrderLemmas.{data_answers}
use Rattle.zone_core.proofs.BelowLemmas.{Name, no_test}
use Rattle.zone_core.proofs.MetLemmas.{Among, among_of, of_among, among_append}
use Rattle.zone_core.proofs.SetLemmas.{name_is}
use Rattle.zone_tools.specs.declared.reverse_blocks.OctetRange.{OctetRange}
use Rattle.zone_tools.specs.declared.reverse_blocks.Block.{Block}
use Rattle.zone_tools.specs.HostNames.{is_wildcard}
use Rattle.zone_tools.specs.ReverseNames.{ipv4_name, ipv6_name, last_octet, block_of, has_octet, has_address, block_place, place_of, IsPlacedInBlock, IsPlaceOf}
use Rattle.zone_tools.specs.Pointers.{CallsFor, target_len, choice, IsPointerFor, AreByOwner, ArePointers, AreComplete, AreSound, HaveOwnersOnce, PointersAreOne, pointer_at, pointer_of, called, pointer_order, AreFirsts}
use Rattle.zone_tools.proofs.ReverseBlockLemmas.{block_origin}

-- ---- places

le_from : (a b : ℕ) → nat_le a b ≡ true → a ≤ b
le_from a b e = grind (arith, nat_tests)

le_true : (a b : ℕ) → a ≤ b → nat_le a b ≡ true
le_true a b le = grind (arith, nat_tests)

in_block : (origin : Name) (block : Block) (address : Ipv4Addr) (owner : Name) → block_of origin ≡ Some block → has_address block address ≡ true
    → owner ≡ decimal (last_octet address) ∷ origin → IsPlacedInBlock origin address owner
in_block origin block address owner e has place =
    let of = block_origin origin block (sym e) in
    let octet = last_octet address in
    let parts = and_parts (has_octet block.octets octet) (same_name (ipv4_name address) (decimal octet ∷ block.parent)) has in
    let bounds = and_parts (nat_le block.octets.first octet) (nat_le octet block.octets.last) parts.0 in
    record {
      label = of.label;
      network = block.parent;
      octets = block.octets;
      is_origin = of.is_origin;
      named = of.named;
      within = name_is (ipv4_name address) (decimal octet ∷ block.parent) parts.1;
      low = le_from block.octets.first octet bounds.0;
      high = le_from octet block.octets.last bounds.1;
      place = place;
    }

block_place_is : (origin : Name) (o : Option Block) (address : Ipv4Addr) (owner : Name) → block_of origin ≡ o → block_place origin o address ≡ Some owner → IsPlacedInBlock origin address owner
block_place_is origin None address owner e f = absurd cc
block_place_is origin (Some block) address owner e f = by_has (has_address block address) refl f
  where
    by_has : (b : Bool) → has_address block address ≡ b → cond b (Some (decimal (last_octet address) ∷ origin)) None ≡ Some owner → IsPlacedInBlock origin address owner
    by_has true has g = in_block origin block address owner e has (let h : decimal (last_octet address) ∷ origin ≡ owner = cc in sym h)
    by_has false has g = absurd cc

pub place_is : (origin : Name) (d : Data) (owner : Name) → place_of origin d ≡ Some owner → IsPlaceOf origin d owner
place_is origin (A address) owner e = by_within (is_within (ipv4_name address) origin) refl e
  where
    by_within : (b : Bool) → is_within (ipv4_name address) origin ≡ b → cond b (Some (ipv4_name address)) (block_place origin (block_of origin) address) ≡ Some owner → IsPlaceOf origin (A address) owner
    by_within true w f = inl ((is_within-Decides (ipv4_name address) origin).0 w, (let g : ipv4_name address ≡ owner = cc in sym g))
    by_within false w f =
        inr ((λ h. no_test (is_within (ipv4_name address) origin) ((is_within-Decides (ipv4_name address) origin).1 h) w), block_place_is origin (block_of origin) address owner refl f)
place_is origin (Aaaa address) owner e = by_within (is_within (ipv6_name address) origin) refl e
  where
    by_within : (b : Bool) → is_within (ipv6_name address) origin ≡ b → cond b (Some (ipv6_name address)) None ≡ Some owner → IsPlaceOf origin (Aaaa address) owner
    by_within true w f = ((is_within-Decides (ipv6_name address) origin).0 w, (let g : ipv6_name address ≡ owner = cc in sym g))
    by_within false w f = absurd cc
place_is origin rdata owner e = absurd cc

block_is : (origin : Name) (address : Ipv4Addr) (owner : Name) → (p : IsPlacedInBlock origin address owner) → block_of origin ≡ Some (record { octets = p.octets; parent = p.network })
block_is origin address owner p =
    ap block_of p.is_origin ∙ ap (option_map (λ (octets : OctetRange). record { octets = octets; parent = p.network })) p.named

block_has : (origin : Name) (address : Ipv4Addr) (owner : Name) → (p : IsPlacedInBlock origin address owner) → has_address (record { octets = p.octets; parent = p.network }) address ≡ true
block_has origin address owner p =
    let octet = last_octet address in
    and_from (has_octet p.octets octet) (same_name (ipv4_name address) (decimal octet ∷ p.network))
    (and_from (nat_le p.octets.first octet) (nat_le octet p.octets.last) (le_true p.octets.first octet p.low) (le_true octet p.octets.last p.high))
    ((same_name-Decides (ipv4_name address) (decimal octet ∷ p.network)).1 p.within)

pub is_place : (origin : Name) (d : Data) (owner : Name) → IsPlaceOf origin d owner → place_of origin d ≡ Some owner
is_place origin (A address) owner (inl own) = rw ((is_within-Decides (ipv4_name address) origin).1 own.0) (ap Some (sym own.1))
is_place origin (A address) owner (inr other) =
    let out : is_within (ipv4_name address) origin ≡ false = false_from_ne_true (is_within (ipv4_name address) origin) (λ t. other.0 ((is_within-Decides (ipv4_name address) origin).0 t)) in
    rw (out, block_is origin address owner other.1, block_has origin address owner other.1) (ap Some (sym other.1.place))
is_place origin (Aaaa address) owner own = rw ((is_within-Decides (ipv6_name address) origin).1 own.0) (ap Some (sym own.1))
is_place origin rdata owner none = absurd none

-- ---- what a record calls for

call_is : (origin : Name) (r p : Record) (o : Option Name) → is_wildcard r.owner ≡ false → place_of origin r.rdata ≡ o → Among p (pointer_at r o) → CallsFor origin r p
call_is origin r p None host e a = absurd a
call_is origin r p (Some owner) host e (inl same) =
    subst (CallsFor origin r) (sym same) (record { place = place_is origin r.rdata owner e; host = host; target = refl; ttl = refl })
call_is origin r p (Some owner) host e (inr later) = absurd later

pub calls_of : (origin : Name) (r p : Record) → Among p (pointer_of origin r) → CallsFor origin r p
calls_of origin r p a = by_host (is_wildcard r.owner) refl a
  where
    by_host : (b : Bool) → is_wildcard r.owner ≡ b → Among p (cond b [] (pointer_at r (place_of origin r.rdata))) → CallsFor origin r p
    by_host true e a = absurd a
    by_host false e a = call_is origin r p (place_of origin r.rdata) e refl a

pub of_calls : (origin : Name) (r p : Record) → CallsFor origin r p → Among p (pointer_of origin r)
of_calls origin r p calls =
    rw (calls.host, is_place origin r.rdata p.owner calls.place) (inl (λ i. record { owner = p.owner; ttl = calls.ttl i; rdata = calls.target i }))

among_flat : (f : Record → List Record) (rs : List Record) (p : Record) → Among p (flat_map f rs) → (r : Record) × Among r rs × Among p (f r)
among_flat f [] p a = absurd a
among_flat f (r ∷ rs) p a =
    (elim ((among_append (f r) (flat_map f rs) p).0 a) [ inl here ↦ (r, inl refl, here) | inr later ↦ (let found = among_flat f rs p later in (found.0, inr found.1, found.2)) ])

flat_among : (f : Record → List Record) (rs : List Record) (r p : Record) → Among r rs → Among p (f r) → Among p (flat_map f rs)
flat_among f [] r p a b = absurd a
flat_among f (x ∷ rs) r p (inl same) b = (among_append (f x) (flat_map f rs) p).1 (inl (subst (λ y. Among p (f y)) same b))
flat_among f (x ∷ rs) r p (inr later) b = (among_append (f x) (flat_map f rs) p).1 (inr (flat_among f rs r p later b))

pub called_is : (origin : Name) (rs : List Record) (p : Record) → Contains (called origin rs) p → (r : Record) × Contains rs r × CallsFor origin r p
called_is origin rs p c =
    let found = among_flat (pointer_of origin) rs p (among_of (called origin rs) p c) in
    (found.0, of_among rs found.0 found.1, calls_of origin found.0 p found.2)

pub is_called : (origin : Name) (rs : List Record) (r p : Record) → Contains rs r → CallsFor origin r p → Contains (called origin rs) p
is_called origin rs r p c calls = of_among (called origin rs) p (flat_among (pointer_of origin) rs r p (among_of rs r c) (of_calls origin r p calls))

-- ---- orders

pub data_total : IsTotalOrder data_order
data_total = then_total (on_total (λ d. rank_of (type_of d)) nat_cmp_total) (on_total data_text nat_list_cmp_total)

choice_total : IsTotalOrder choice
choice_total =
    then_total (then_total (on_total (λ (p : Record). target_len p.rdata) nat_cmp_total) (on_total (λ (p : Record). p.rdata) data_total)) (on_total (λ (p : Record). p.ttl) nat_cmp_total)

abbrev pub owner_order : Record → Record → Ordering
owner_order = on (λ p. p.owner) canonical_cmp

owner_total : IsTotalOrder owner_order
owner_total = on_total (λ (p : Record). p.owner) canonical_total

pub pointer_total : IsTotalOrder pointer_order
pointer_total = then_total owner_total choice_total

abbrev pub is_before : Record → Record → Bool
is_before p q = is_lt (pointer_order p q)

pub before_ranks : IsStrictWeakOrder is_before
before_ranks = ranks_by pointer_total (λ (p : Record). p)

abbrev pub same_owner : Record → Record → Bool
same_owner p q = same_name p.owner q.owner

owner_equiv : IsEquivalence same_owner
owner_equiv = eq_by_cmp_equiv owner_total

-- ---- the first of each owner

then_lt : (o c : Ordering) → is_lt (ordering_then o c) ≡ false → is_lt o ≡ false
then_lt Less c e = e
then_lt Equal c e = refl
then_lt Greater c e = refl

sorted_by_owner : (ps : List Record) → IsSorted pointer_order ps → IsSorted owner_order ps
sorted_by_owner ps up k d low high = then_lt (owner_order (get_or ps (k + 1) d) (get_or ps k d)) (choice (get_or ps (k + 1) d) (get_or ps k d)) (up k d low high)

pub all_of : {X : Type 0} (P : X → Type 0) (xs : List X) → ((x : X) → Among x xs → P x) → AllByRecursion P xs
all_of P [] each = tt
all_of P (x ∷ xs) each = (each x (inl refl), all_of P xs (λ y a. each y (inr a)))

pub all_at : {X : Type 0} (P : X → Type 0) (xs : List X) (x : X) → AllByRecursion P xs → Among x xs → P x
all_at P [] x all a = absurd a
all_at P (y ∷ ys) x all (inl e) = subst P (sym e) all.0
all_at P (y ∷ ys) x all (inr later) = all_at P ys x all.1 later

-- each is before none that stands after it
abbrev pub Rising : List Record → Type 0
Rising [] = Unit {0}
Rising (p ∷ ps) = AllByRecursion (λ q. is_before q p ≡ false) ps × Rising ps

tail_sorted : (p : Record) (ps : List Record) → IsSorted pointer_order (p ∷ ps) → IsSorted pointer_order ps
tail_sorted p ps up k d low high =
    let e : suc k + 1 ≡ suc (k + 1) = omega arith in
    subst (λ (n : ℕ). is_before (get_or (p ∷ ps) n d) (get_or ps k d) ≡ false) e (up (suc k) d (omega arith) (omega (arith, high)))

behind_first : (p : Record) (ps : List Record) → IsSorted pointer_order (p ∷ ps) → (q : Record) → Among q ps → is_before q p ≡ false
behind_first p ps up q a =
    let c = of_among ps q a in
    subst (λ (r : Record). is_before r p ≡ false) c.2 (sorted_far is_before before_ranks (p ∷ ps) up 0 (suc c.0) q (omega arith) (omega (arith, c.1)))

rising : (ps : List Record) → IsSorted pointer_order ps → Rising ps
rising [] up = tt
rising (p ∷ ps) up = (all_of (λ q. is_before q p ≡ false) ps (behind_first p ps up), rising ps (tail_sorted p ps up))

not_before_itself : (p : Record) → is_before p p ≡ false
not_before_itself p = false_from_ne_true (is_before p p) (λ e. no_test (is_before p p) e (before_ranks.one_way p p e))

not_less_itself : (name : Name) → canonical_cmp name name ≡ Less → ⊥
not_less_itself name e = (let f : Less ≡ Equal = sym e ∙ tied_itself canonical_total name in cc)

abbrev KeepsFirst : Record → List Record → Type 0
KeepsFirst x xs =
    Rising (x ∷ xs) → AreByOwner (dedup_from same_owner x xs)
    → (p other : Record) → Among p (dedup_from same_owner x xs) → Among other (x ∷ xs) → other.owner ≡ p.owner → is_before other p ≡ false

-- the next has the same owner as the one that is kept
keeps_same : (x y : Record) (ys : List Record) → y.owner ≡ x.owner → KeepsFirst x ys → Rising (x ∷ y ∷ ys) → AreByOwner (dedup_from same_owner x ys)
    → (p other : Record) → Among p (dedup_from same_owner x ys) → Among other (x ∷ y ∷ ys) → other.owner ≡ p.owner → is_before other p ≡ false
keeps_same x y ys owners keeps up strict p other a (inl f) same = keeps (up.0.1, up.1.1) strict p other a (inl f) same
keeps_same x y ys owners keeps up strict p other a (inr (inl f)) same =
    let of_first : x.owner ≡ p.owner = sym owners ∙ ap (λ (r : Record). r.owner) (sym f) ∙ same in
    subst (λ (o : Record). is_before o p ≡ false) (sym f) (before_ranks.chain y x p up.0.0 (keeps (up.0.1, up.1.1) strict p x a (inl refl) of_first))
keeps_same x y ys owners keeps up strict p other a (inr (inr later)) same = keeps (up.0.1, up.1.1) strict p other a (inr later) same

-- it has another, and is kept too
keeps_other : (x y : Record) (ys : List Record) → KeepsFirst y ys → Rising (x ∷ y ∷ ys) → AreByOwner (x ∷ dedup_from same_owner y ys)
    → (p other : Record) → Among p (x ∷ dedup_from same_owner y ys) → Among other (x ∷ y ∷ ys) → other.owner ≡ p.owner → is_before other p ≡ false
unfolding IsStrictlySortedBy
keeps_other x y ys keeps up strict p other (inl f) (inl g) same = rw (f, g) (not_before_itself x)
keeps_other x y ys keeps up strict p other (inl f) (inr later) same =
    subst (λ (q : Record). is_before other q ≡ false) (sym f) (all_at (λ q. is_before q x ≡ false) (y ∷ ys) other up.0 later)
keeps_other x y ys keeps up strict p other (inr a) (inl g) same =
    let less = all_at (λ q. owner_order x q ≡ Less) (dedup_from same_owner y ys) p strict.0 a in
    let owners : x.owner ≡ p.owner = ap (λ (r : Record). r.owner) (sym g) ∙ same in
    absurd (not_less_itself p.owner (ap (λ (n : Name). canonical_cmp n p.owner) (sym owners) ∙ less))
keeps_other x y ys keeps up strict p other (inr a) (inr later) same = keeps up.1 strict.1 p other a later same

keeps_more : (x y : Record) (ys : List Record) → KeepsFirst x ys → KeepsFirst y ys → KeepsFirst x (y ∷ ys)
keeps_more x y ys first next up strict p other a b same = by_owner (same_owner y x) refl strict a
  where
    by_owner : (t : Bool) → same_owner y x ≡ t → AreByOwner (cond t (dedup_from same_owner x ys) (x ∷ dedup_from same_owner y ys))
        → Among p (cond t (dedup_from same_owner x ys) (x ∷ dedup_from same_owner y ys)) → is_before other p ≡ false
    by_owner true e strict a = keeps_same x y ys (name_is y.owner x.owner e) first up strict p other a b same
    by_owner false e strict a = keeps_other x y ys next up strict p other a b same

kept_first : (x : Record) (xs : List Record) → KeepsFirst x xs
kept_first x [] up strict p other (inl e) (inl f) same = rw (e, f) (not_before_itself x)
kept_first x [] up strict p other (inr none) b same = absurd none
kept_first x [] up strict p other a (inr none) same = absurd none
kept_first x (y ∷ ys) up strict p other a b same = keeps_more x y ys (kept_first x ys) (kept_first y ys) up strict p other a b same

kept_first_of : (ps : List Record) → IsSorted pointer_order ps → (p other : Record) → Among p (dedup same_owner ps) → Among other ps → other.owner ≡ p.owner → is_before other p ≡ false
kept_first_of [] up p other a b same = absurd b
kept_first_of (x ∷ xs) up p other a b same =
    kept_first x xs (rising (x ∷ xs) up) (IsStrictlySortedBy-dedup owner_total (λ p q. refl) (x ∷ xs) (sorted_by_owner (x ∷ xs) up)) p other a b same

not_chosen : (p other : Record) → other.owner ≡ p.owner → is_before other p ≡ false → choice other p ≢ Less
not_chosen p other same e less =
    let tied : canonical_cmp other.owner p.owner ≡ Equal = ap (λ (n : Name). canonical_cmp n p.owner) same ∙ tied_itself canonical_total p.owner in
    no_test (is_before other p) (ap (λ (o : Ordering). is_lt (ordering_then o (choice other p))) tied ∙ ap is_lt less) e

one_kept : (ps : List Record) (p : Record) → Contains ps p → (q : Record) × Contains (dedup same_owner ps) q × (q.owner ≡ p.owner)
one_kept ps p c =
    let found = Any-dedup owner_equiv ps p c in
    (found.1, (found.0, found.2, found.3), sym (name_is p.owner found.1.owner found.4))

pub firsts_are : (all sorted firsts : List Record) → IsPermutation all sorted → IsPermutation sorted all → IsSorted pointer_order sorted → firsts ≡ dedup same_owner sorted → AreFirsts all firsts
firsts_are all sorted firsts there back up is =
    subst (AreFirsts all) (sym is)
    (record {
      each = λ p c. Contains-permutation sorted all p back (Contains-from_dedup same_owner sorted p c);
      first = λ p other c d same.
          not_chosen p other same
          (kept_first_of sorted up p other (among_of (dedup same_owner sorted) p c) (among_of sorted other (Contains-permutation all sorted other there d)) same);
      every = λ p c. one_kept sorted p (Contains-permutation all sorted p there c);
      order = IsStrictlySortedBy-dedup owner_total (λ p q. refl) sorted (sorted_by_owner sorted up);
    })

pub pointers_are : (origin : Name) (rs firsts : List Record) → AreFirsts (called origin rs) firsts → ArePointers origin rs firsts
pointers_are origin rs firsts are =
    record {
      each = λ p c. record {
        called = called_is origin rs p (are.each p c);
        first = λ r other d calls same. are.first p other c (is_called origin rs r other d calls) same;
      };
      all = λ r p c calls. are.every p (is_called origin rs r p c calls);
      order = are.order;
    }

-- ---- what is promised of them

pub are_complete : (origin : Name) (rs ps : List Record) → ArePointers origin rs ps → AreComplete origin rs ps
are_complete origin rs ps are r owner c host place =
    are.all r (record { owner = owner; ttl = r.ttl; rdata = Ptr r.owner }) c (record { place = place; host = host; target = refl; ttl = refl })

pub are_sound : (origin : Name) (rs ps : List Record) → ArePointers origin rs ps → AreSound origin rs ps
are_sound origin rs ps are p c =
    let one = (are.each p c).called in
    (one.0, one.1, one.2.place, one.2.target)

not_behind : (p q x : Record) → p ≡ x → p.owner ≡ q.owner → owner_order x q ≡ Less → ⊥
not_behind p q x e owners less =
    not_less_itself q.owner (ap (λ (n : Name). canonical_cmp n q.owner) (sym owners ∙ ap (λ (r : Record). r.owner) e) ∙ less)

one_among : (ps : List Record) → AreByOwner ps → (p q : Record) → Among p ps → Among q ps → p.owner ≡ q.owner → p ≡ q
unfolding IsStrictlySortedBy
one_among [] up p q a b owners = absurd a
one_among (x ∷ ps) up p q (inl e) (inl f) owners = e ∙ sym f
one_among (x ∷ ps) up p q (inl e) (inr b) owners = absurd (not_behind p q x e owners (all_at (λ r. owner_order x r ≡ Less) ps q up.0 b))
one_among (x ∷ ps) up p q (inr a) (inl f) owners = absurd (not_behind q p x f (sym owners) (all_at (λ r. owner_order x r ≡ Less) ps p up.0 a))
one_among (x ∷ ps) up p q (inr a) (inr b) owners = one_among ps up.1 p q a b owners

pub are_once : (ps : List Record) → AreByOwner ps → HaveOwnersOnce ps
are_once ps up p q c d owners = one_among ps up p q (among_of ps p c) (among_of ps q d) owners

-- ---- in record order

record_less : (p q : Record) → owner_order p q ≡ Less → record_order p q ≡ Less
record_less p q e =
    ap (λ (o : Ordering). ordering_then (ordering_then o (nat_cmp (key_of p).1 (key_of q).1)) (slice_cmp nat_cmp (key_of p).2 (key_of q).2)) e

all_less : (p : Record) (ps : List Record) → AllByRecursion (λ q. owner_order p q ≡ Less) ps → AllByRecursion (λ q. record_order p q ≡ Less) ps
all_less p [] all = tt
all_less p (q ∷ ps) all = (record_less p q all.0, all_less p ps all.1)

pub in_record_order : (ps : List Record) → AreByOwner ps → IsStrictlySortedBy record_order ps
unfolding IsStrictlySortedBy
in_record_order [] up = tt
in_record_order (p ∷ ps) up = (all_less p ps up.0, in_record_order ps up.1)

-- ---- there is one such list

pub both_tied : (first second : Ordering) → ordering_then first second ≡ Equal → (first ≡ Equal) × (second ≡ Equal)
both_tied Less second e = absurd cc
both_tied Equal second e = (refl, e)
both_tied Greater second e = absurd cc

tied_by : (o reversed : Ordering) → reversed ≡ ordering_reverse o → o ≢ Less → reversed ≢ Less → o ≡ Equal
tied_by Less reversed e f g = absurd (f refl)
tied_by Equal reversed e f g = refl
tied_by Greater reversed e f g = absurd (g e)

target_is_data : (r p : Record) (origin : Name) → IsRecord r → CallsFor origin r p → IsRdata p.rdata
target_is_data r p origin is calls = subst IsRdata (sym calls.target) (is.owner, tt)

one_choice : (p q : Record) → IsRdata p.rdata → IsRdata q.rdata → p.owner ≡ q.owner → choice p q ≡ Equal → p ≡ q
one_choice p q is also owners e =
    let whole = both_tied (ordering_then (nat_cmp (target_len p.rdata) (target_len q.rdata)) (data_order p.rdata q.rdata)) (nat_cmp p.ttl q.ttl) e in
    let parts = both_tied (nat_cmp (target_len p.rdata) (target_len q.rdata)) (data_order p.rdata q.rdata) whole.0 in
    let same_data = (data_answers p.rdata q.rdata is also (data_order p.rdata q.rdata) refl).0 parts.1 in
    let ttls : p.ttl ≡ q.ttl = nat_cmp-IsAntisymmetric p.ttl q.ttl whole.1 in
    λ i. record { owner = owners i; ttl = ttls i; rdata = same_data i }

abbrev HaveSame : List Record → List Record → Type 0
HaveSame rs ss = (r : Record) → Contains rs r ↔ Contains ss r

one_pointer : (origin : Name) (rs ss : List Record) (p q : Record) → AllByRecursion IsRecord rs → HaveSame rs ss → IsPointerFor origin rs p → IsPointerFor origin ss q → p.owner ≡ q.owner → p ≡ q
one_pointer origin rs ss p q are same of also owners =
    let r = of.called in
    let s = also.called in
    let there = (same s.0).1 s.1 in
    let later : choice q p ≢ Less = of.first s.0 q there s.2 (sym owners) in
    let earlier : choice p q ≢ Less = also.first r.0 p ((same r.0).0 r.1) r.2 owners in
    one_choice p q (target_is_data r.0 p origin (all_at IsRecord rs r.0 are (among_of rs r.0 r.1)) r.2) (target_is_data s.0 q origin (all_at IsRecord rs s.0 are (among_of rs s.0 there)) s.2) owners
    (tied_by (choice p q) (choice q p) (choice_total.antisymm q p) earlier later)

not_both : (p q : Record) → owner_order p q ≡ Less → owner_order q p ≡ Less → ⊥
not_both p q e f = (let g : Less ≡ Greater = sym e ∙ owner_total.antisymm p q ∙ ap ordering_reverse f in cc)

one_sorted : (ps qs : List Record) → AreByOwner ps → AreByOwner qs → ((p : Record) → Among p ps → Among p qs) → ((q : Record) → Among q qs → Among q ps) → ps ≡ qs
unfolding IsStrictlySortedBy
one_sorted [] [] up also to back = refl
one_sorted [] (q ∷ qs) up also to back = absurd (back q (inl refl))
one_sorted (p ∷ ps) [] up also to back = absurd (to p (inl refl))
one_sorted (p ∷ ps) (q ∷ qs) up also to back =
    let head = same_head (to p (inl refl)) (back q (inl refl)) in
    let rest = one_sorted ps qs up.1 also.1 (λ z a. behind_head (sym head) z a (all_at (λ r. owner_order p r ≡ Less) ps z up.0 a) (to z (inr a)))
    (λ z a. behind_head_back head z a (all_at (λ r. owner_order q r ≡ Less) qs z also.0 a) (back z (inr a))) in
    λ i. head i ∷ rest i
  where
    same_head : Among p (q ∷ qs) → Among q (p ∷ ps) → p ≡ q
    same_head (inl e) b = e
    same_head (inr a) (inl e) = sym e
    same_head (inr a) (inr b) = absurd (not_both p q (all_at (λ r. owner_order p r ≡ Less) ps q up.0 b) (all_at (λ r. owner_order q r ≡ Less) qs p also.0 a))

    behind_head : q ≡ p → (z : Record) → Among z ps → owner_order p z ≡ Less → Among z (q ∷ qs) → Among z qs
    behind_head e z a less (inl f) = absurd (not_less_itself p.owner (ap (λ (r : Record). owner_order p r) (sym (f ∙ e)) ∙ less))
    behind_head e z a less (inr b) = b

    behind_head_back : p ≡ q → (z : Record) → Among z qs → owner_order q z ≡ Less → Among z (p ∷ ps) → Among z ps
    behind_head_back e z a less (inl f) = absurd (not_less_itself q.owner (ap (λ (r : Record). owner_order q r) (sym (f ∙ e)) ∙ less))
    behind_head_back e z a less (inr b) = b

pub pointers_one : PointersAreOne
pointers_one origin rs ss ps qs are same of also = one_sorted ps qs of.order also.order to back
  where
    to : (p : Record) → Among p ps → Among p qs
    to p a =
        let each = of.each p (of_among ps p a) in
        let found = also.all each.called.0 p ((same each.called.0).0 each.called.1) each.called.2 in
        let one = one_pointer origin rs ss p found.0 are same each (also.each found.0 found.1) (sym found.2) in
        subst (λ (r : Record). Among r qs) (sym one) (among_of qs found.0 found.1)

    back : (q : Record) → Among q qs → Among q ps
    back q a =
        let each = also.each q (of_among qs q a) in
        let found = of.all each.called.0 q ((same each.called.0).1 each.called.1) each.called.2 in
        let one = one_pointer origin rs ss found.0 q are same (of.each found.0 found.1) each found.2 in
        subst (λ (r : Record). Among r ps) one (among_of ps found.0 found.1)

-- ---- what a sort by calls of an order leaves

pub sorted_by_calls : {F : Type 0} {g : Mut F (Bor Record × (Bor Record × Unit {0})) Ordering} {f : F} (cmp : Record → Record → Ordering) (ps : List Record) → IsStrictWeakOrder (λ p q. is_lt (cmp p q)) → IsSortedByClosure g f ps
    → ((a : Bor Record × (Bor Record × Unit {0})) (r : Ordering) (f' : F) → Called g f a r f' → (r ≡ cmp a.0.now a.1.0.now) × (f' ≡ f)) → IsSorted cmp ps
sorted_by_calls {g = g} {f = f} cmp ps weak sorted answers =
    sorted (λ p q. is_lt (cmp p q)) weak (always_returns_same g (λ a r. is_lt r ≡ is_lt (cmp a.0.now a.1.0.now)) f (λ a r f' called. let one = answers a r f' called in (ap is_lt one.0, one.1)))

-- ---- names have few labels

few_labels : (name : Name) → length name < wire_len name
few_labels [] = omega arith
few_labels (label ∷ labels) = omega (arith, few_labels labels)

pub short_labels : (name labels : Name) → labels ≡ name → IsName name → length labels < 256
short_labels name labels same is = omega (arith, few_labels name, is.short, ap length same)
