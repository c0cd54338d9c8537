-- The laws of keys: their order, their beginnings and their ranges.
use Rattle.std.proofs.Common.{◌≡◌, ℕ, zero, suc, ◌+◌, ◌-◌, ◌<◌, ◌≤◌, ◌⊎◌, inl, inr, true, List, [], ◌∷◌, ◌++◌, length, take, drop, reverse, Some, None, refl, sym, ap, subst, ◌∙◌, append_assoc, append-nil, arith, cond, leb, ltb, ltb-true, ne_eqb, add-one, length-append, length-drop}
use Rattle.std.specs.List.{concat, count_by, flat_map, list_all}
use Rattle.std.specs.Option.{IfSome}
use Rattle.std.specs.declared.cmp.Ordering.{Ordering}
use Rattle.std.specs.declared.cmp.Ordering.TheVariants.{Less, Equal, Greater}
use Rattle.std.specs.Ordering.{nat_cmp, ordering_then, is_le, is_lt}
use Rattle.std.specs.Cmp.{nat_cmp_is, tied_itself}
use Rattle.std.specs.Cmp.Lexicographic.{slice_cmp, nat_list_cmp_total}
use Rattle.std.specs.FinMap.{slice_cmp-IsAntisymmetric, nat_cmp-IsAntisymmetric}
use Rattle.std.proofs.lemmas.Bool.{cases_lt, cond_both, le-leb, lt-leb, and_parts}
use Rattle.std.proofs.lemmas.Bool.Decides.{eqb_tells}
use Rattle.std.proofs.lemmas.List.{reverse-append, reverse-reverse, drop_all, take_all, take-append-le, take-append-drop, length-reverse, set-append_right}
use Rattle.std.proofs.Math.ListN.{set}
use Rattle.std.proofs.lemmas.List.Concat.{flat_map-append}
use Rattle.std.proofs.lemmas.List.Sums.{sum_by-append, sum_by-cons}
use Rattle.dns_names.specs.Labels.{IsWithin}
use Rattle.dns_names.specs.Rows.{behind_label}
use Rattle.dns_names.specs.Keys.{key_octet, label_front, label_key, key_of, key_end, IsInRange, BeginsWith, ancestor_key, OrdersNames, IsKeyOfOne, RangesOver, BeginsAll, BeginsAtAncestor}

abbrev by_octets : List ℕ → List ℕ → Ordering
by_octets = slice_cmp nat_cmp

abbrev by_labels : List (List ℕ) → List (List ℕ) → Ordering
by_labels = slice_cmp by_octets

-- ---- numbers

pub less : (a b : ℕ) → a < b → nat_cmp a b ≡ Less
less a b h = sym (nat_cmp_is a b Less h)

pub greater : (a b : ℕ) → b < a → nat_cmp a b ≡ Greater
greater a b h = sym (nat_cmp_is a b Greater h)

pub tied : (a : ℕ) → nat_cmp a a ≡ Equal
tied a = sym (nat_cmp_is a a Equal refl)

-- ---- octets

-- an octet is 0, 1 or one that stands for itself
octet_cases : (o : ℕ) → (o ≡ 0) ⊎ ((o ≡ 1) ⊎ ((2 ≤ o) × (key_octet o ≡ o ∷ [])))
octet_cases o =
    elim (eqb_tells o 0) [
      | inl t ↦ inl t.1
      | inr f ↦ elim (eqb_tells o 1) [ inl t ↦ inr (inl t.1) | inr g ↦ inr (inr (omega (arith, f.1, g.1), rw (f.0, g.0) refl)) ]
    ]

-- the order of two octets' keys decides, unless they are one
octet_order : (a b : ℕ) (s t : List ℕ) → by_octets (key_octet a ++ s) (key_octet b ++ t) ≡ ordering_then (nat_cmp a b) (by_octets s t)
octet_order a b s t =
    elim (octet_cases a) [
      | inl a0 ↦ elim (octet_cases b) [
        | inl b0 ↦ rw (a0, b0) refl
        | inr b1 ↦ elim b1 [ inl b1 ↦ rw (a0, b1) refl | inr b2 ↦ rw (a0, b2.1, less 1 b (omega (arith, b2.0)), less 0 b (omega (arith, b2.0))) refl ]
      ]
      | inr a1 ↦ elim a1 [
        | inl a1 ↦ elim (octet_cases b) [
          | inl b0 ↦ rw (a1, b0) refl
          | inr b1 ↦ elim b1 [ inl b1 ↦ rw (a1, b1) refl | inr b2 ↦ rw (a1, b2.1, less 1 b (omega (arith, b2.0))) refl ]
        ]
        | inr a2 ↦ elim (octet_cases b) [
          | inl b0 ↦ rw (b0, a2.1, greater a 1 (omega (arith, a2.0)), greater a 0 (omega (arith, a2.0))) refl
          | inr b1 ↦ elim b1 [ inl b1 ↦ rw (b1, a2.1, greater a 1 (omega (arith, a2.0))) refl | inr b2 ↦ rw (a2.1, b2.1) refl ]
        ]
      ]
    ]

-- a key has two octets for an octet 0 or 1, and one for any other
octet_len : (o : ℕ) → length (key_octet o) ≡ 1 + cond (leb o 1) 1 0
octet_len o =
    elim (octet_cases o) [
      | inl o0 ↦ rw o0 refl
      | inr o1 ↦ elim o1 [ inl o1 ↦ rw o1 refl | inr o2 ↦ rw (o2.1, lt-leb o 1 (omega (arith, o2.0))) refl ]
    ]

front_len : (label : List ℕ) → length (label_front label) ≡ length label + count_by (λ o. leb o 1) label
front_len [] = refl
front_len (o ∷ label) =
    omega (arith, length-append (key_octet o) (label_front label), octet_len o, front_len label, sum_by-cons (λ (k : ℕ). cond (leb k 1) 1 0) o label)

-- octets that stand for themselves
pub front_stands : (label : List ℕ) → list_all (λ o. ltb 1 o) label ≡ true → label_front label ≡ label
front_stands [] all = refl
front_stands (o ∷ label) all =
    let both = and_parts (ltb 1 o) (list_all (λ o. ltb 1 o) label) all in
    let more = ltb-true 1 o both.0 in
    elim (octet_cases o) [
      | inl o0 ↦ absurd (omega arith)
      | inr o1 ↦ elim o1 [ inl o1 ↦ absurd (omega arith) | inr o2 ↦ rw o2.1 (ap (λ (l : List ℕ). o ∷ l) (front_stands label both.1)) ]
    ]

-- ---- labels

-- what ends a label comes before any octet
end_first : (b : ℕ) (s t : List ℕ) → by_octets (0 ∷ s) (key_octet b ++ t) ≡ Less
end_first b s t =
    elim (octet_cases b) [
      | inl b0 ↦ rw b0 refl
      | inr b1 ↦ elim b1 [ inl b1 ↦ rw b1 refl | inr b2 ↦ rw (b2.1, less 0 b (omega (arith, b2.0))) refl ]
    ]

end_last : (a : ℕ) (s t : List ℕ) → by_octets (key_octet a ++ s) (0 ∷ t) ≡ Greater
end_last a s t =
    elim (octet_cases a) [
      | inl a0 ↦ rw a0 refl
      | inr a1 ↦ elim a1 [ inl a1 ↦ rw a1 refl | inr a2 ↦ rw (a2.1, greater a 0 (omega (arith, a2.0))) refl ]
    ]

pub then_assoc : (p q r : Ordering) → ordering_then p (ordering_then q r) ≡ ordering_then (ordering_then p q) r
then_assoc Less q r = refl
then_assoc Equal q r = refl
then_assoc Greater q r = refl

-- the order of two labels' keys decides, unless they are one
label_order : (x y s t : List ℕ) → by_octets (label_front x ++ 0 ∷ s) (label_front y ++ 0 ∷ t) ≡ ordering_then (by_octets x y) (by_octets s t)
label_order [] [] s t = refl
label_order [] (b ∷ y) s t = rw (append_assoc (key_octet b) (label_front y) (0 ∷ t)) (end_first b s (label_front y ++ 0 ∷ t))
label_order (a ∷ x) [] s t = rw (append_assoc (key_octet a) (label_front x) (0 ∷ s)) (end_last a (label_front x ++ 0 ∷ s) t)
label_order (a ∷ x) (b ∷ y) s t =
    rw (append_assoc (key_octet a) (label_front x) (0 ∷ s), append_assoc (key_octet b) (label_front y) (0 ∷ t))
    (octet_order a b (label_front x ++ 0 ∷ s) (label_front y ++ 0 ∷ t) ∙ ap (ordering_then (nat_cmp a b)) (label_order x y s t) ∙ then_assoc (nat_cmp a b) (by_octets x y) (by_octets s t))

-- a label's key, and what stands after it
label_and : (x s : List ℕ) → label_key x ++ s ≡ label_front x ++ 0 ∷ s
label_and x s = append_assoc (label_front x) (0 ∷ []) s

-- a label's key has an octet at least
label_some : (x s : List ℕ) → (first : ℕ) × (rest : List ℕ) × (label_key x ++ s ≡ first ∷ rest)
label_some [] s = (0, s, refl)
label_some (a ∷ x) s =
    elim (octet_cases a) [
      | inl a0 ↦ (1, 1 ∷ (label_key x ++ s), rw a0 refl)
      | inr a1 ↦ elim a1 [ inl a1 ↦ (1, 2 ∷ (label_key x ++ s), rw a1 refl) | inr a2 ↦ (a, label_key x ++ s, rw a2.1 refl) ]
    ]

abbrev keys : List (List ℕ) → List ℕ
keys labels = flat_map label_key labels

labels_order : (xs ys : List (List ℕ)) → by_octets (keys xs) (keys ys) ≡ by_labels xs ys
labels_order [] [] = refl
labels_order [] (y ∷ ys) = let some = label_some y (keys ys) in rw some.2 refl
labels_order (x ∷ xs) [] = let some = label_some x (keys xs) in rw some.2 refl
labels_order (x ∷ xs) (y ∷ ys) =
    rw (label_and x (keys xs), label_and y (keys ys)) (label_order x y (keys xs) (keys ys) ∙ ap (ordering_then (by_octets x y)) (labels_order xs ys))

-- ---- the order, and what it gives

pub key_order : (name : List (List ℕ)) → OrdersNames name
key_order name other = labels_order (reverse name) (reverse other)

pub octets_exact : (s t : List ℕ) → by_octets s t ≡ Equal → s ≡ t
octets_exact s t e = slice_cmp-IsAntisymmetric nat_cmp-IsAntisymmetric s t e

octets_tied : (s t : List ℕ) → s ≡ t → by_octets s t ≡ Equal
octets_tied s t e = subst (λ (x : List ℕ). by_octets s x ≡ Equal) e (tied_itself nat_list_cmp_total s)

-- two orders of which one is taken after the other tie only where both do
then_tied : (p q : Ordering) → ordering_then p q ≡ Equal → (p ≡ Equal) × (q ≡ Equal)
then_tied Less q e = absurd cc
then_tied Equal q e = (refl, e)
then_tied Greater q e = absurd cc

-- a row of keys that begins with another's
keys_begin : (xs ys : List (List ℕ)) (rest : List ℕ) → keys xs ≡ keys ys ++ rest → (more : List (List ℕ)) × (xs ≡ ys ++ more)
keys_begin xs [] rest e = (xs, refl)
keys_begin [] (y ∷ ys) rest e = absurd (let some = label_some y (keys ys ++ rest) in let whole : [] ≡ some.0 ∷ some.1 = e ∙ append_assoc (label_key y) (keys ys) rest ∙ some.2 in cc)
keys_begin (x ∷ xs) (y ∷ ys) rest e =
    let whole : label_front x ++ 0 ∷ keys xs ≡ label_front y ++ 0 ∷ (keys ys ++ rest) =
    sym (label_and x (keys xs)) ∙ e ∙ append_assoc (label_key y) (keys ys) rest ∙ label_and y (keys ys ++ rest) in
    let both = then_tied (by_octets x y) (by_octets (keys xs) (keys ys ++ rest)) (sym (label_order x y (keys xs) (keys ys ++ rest)) ∙ octets_tied _ _ whole) in
    let here : x ≡ y = octets_exact x y both.0 in
    let more = keys_begin xs ys rest (octets_exact (keys xs) (keys ys ++ rest) both.1) in
    (more.0, ap (λ (z : List ℕ). z ∷ xs) here ∙ ap (λ (l : List (List ℕ)). y ∷ l) more.1)

keys-append : (xs ys : List (List ℕ)) → keys (xs ++ ys) ≡ keys xs ++ keys ys
keys-append xs ys = flat_map-append label_key xs ys

-- ---- beginnings

within_begins : (name top : List (List ℕ)) → IsWithin name top → BeginsWith (key_of name) (key_of top)
within_begins name top w = (key_of w.0, ap key_of w.1 ∙ ap keys (reverse-append w.0 top) ∙ keys-append (reverse top) (reverse w.0))

begins_within : (name top : List (List ℕ)) → BeginsWith (key_of name) (key_of top) → IsWithin name top
begins_within name top b =
    let more = keys_begin (reverse name) (reverse top) b.0 b.1 in
    (reverse more.0, sym (reverse-reverse name) ∙ ap (reverse {A = List ℕ}) more.1 ∙ reverse-append (reverse top) more.0 ∙ ap (λ (l : List (List ℕ)). reverse more.0 ++ l) (reverse-reverse top))

pub key_begins : (top : List (List ℕ)) → BeginsAll top
key_begins top name = (within_begins name top, begins_within name top)

pub key_unique : (name : List (List ℕ)) → IsKeyOfOne name
key_unique name other e =
    let xs = keys_begin (reverse other) (reverse name) [] (e ∙ sym (append-nil (key_of name))) in
    let ys = keys_begin (reverse name) (reverse other) [] (sym e ∙ sym (append-nil (key_of other))) in
    let none : xs.0 ≡ [] = nothing xs.0 (omega (arith, ap (length {A = List ℕ}) xs.1, ap (length {A = List ℕ}) ys.1, length-append (reverse name) xs.0, length-append (reverse other) ys.0)) in
    sym (reverse-reverse other) ∙ ap (reverse {A = List ℕ}) (xs.1 ∙ ap (λ (l : List (List ℕ)). reverse name ++ l) none ∙ append-nil (reverse name)) ∙ reverse-reverse name
  where
    nothing : (l : List (List ℕ)) → length l ≡ 0 → l ≡ []
    nothing [] e = refl
    nothing (x ∷ l) e = absurd (omega arith)

-- ---- ranges

-- a number is less than another, or they are one, or it is greater
pub three : (a b : ℕ) → ((nat_cmp a b ≡ Less) × (nat_cmp b a ≡ Greater)) ⊎ ((a ≡ b) ⊎ ((nat_cmp a b ≡ Greater) × (nat_cmp b a ≡ Less)))
three a b =
    elim (cases_lt a b) [
      | inl l ↦ inl (less a b l, greater b a l)
      | inr h ↦ elim (cases_lt b a) [ inl l ↦ inr (inr (greater a b l, less b a l)) | inr k ↦ inr (inl (omega arith)) ]
    ]

-- no row is before one that is empty
nothing_before : (key : List ℕ) → is_lt (by_octets key []) ≡ true → ⊥
nothing_before [] h = absurd cc
nothing_before (k ∷ key) h = absurd cc

-- between a row that ends in 0 and the same that ends in 1 stand those that begin with the first
in_range : (front key : List ℕ) → is_le (by_octets (front ++ 0 ∷ []) key) ≡ true → is_lt (by_octets key (front ++ 1 ∷ [])) ≡ true → BeginsWith key (front ++ 0 ∷ [])
in_range [] [] low high = absurd cc
in_range [] (k ∷ key) low high =
    elim (cases_lt k 1) [
      | inl l ↦ (key, ap (λ (n : ℕ). n ∷ key) (omega arith))
      | inr h ↦ absurd (elim (cases_lt 1 k) [
        | inl g ↦ (let f = rw (greater k 1 g) at high in cc)
        | inr e ↦ nothing_before key (rw (one e h) at high)
      ])
    ]
  where
    one : k ≤ 1 → 1 ≤ k → k ≡ 1
    one e h = omega arith
in_range (o ∷ front) [] low high = absurd cc
in_range (o ∷ front) (k ∷ key) low high =
    elim (three o k) [
      | inl l ↦ absurd (let f = rw l.1 at high in cc)
      | inr s ↦ elim s [
        | inl e ↦ let rest = in_range front key (rw (e, tied k) at low) (rw (e, tied k) at high) in (rest.0, ap (λ (l : List ℕ). k ∷ l) rest.1 ∙ ap (λ (n : ℕ). n ∷ (front ++ 0 ∷ []) ++ rest.0) (sym e))
        | inr g ↦ absurd (let f = rw g.0 at low in cc)
      ]
    ]

begins_range : (front rest : List ℕ) → (is_le (by_octets (front ++ 0 ∷ []) ((front ++ 0 ∷ []) ++ rest)) ≡ true) × (is_lt (by_octets ((front ++ 0 ∷ []) ++ rest) (front ++ 1 ∷ [])) ≡ true)
begins_range [] [] = (refl, refl)
begins_range [] (k ∷ rest) = (refl, refl)
begins_range (o ∷ front) rest = let more = begins_range front rest in (rw (tied o) more.0, rw (tied o) more.1)

-- the key of a name that is no root, and the end of its range
pub key_cons : (label : List ℕ) (labels : List (List ℕ)) → key_of (label ∷ labels) ≡ (key_of labels ++ label_front label) ++ 0 ∷ []
key_cons label labels =
    ap keys (reverse-append (label ∷ []) labels) ∙ keys-append (reverse labels) (label ∷ []) ∙ ap (λ (l : List ℕ). key_of labels ++ l) (append-nil (label_key label)) ∙ sym (append_assoc (key_of labels) (label_front label) (0 ∷ []))

-- how many octets a key has
pub length-key : (name : List (List ℕ)) → length (key_of name) ≡ length name + length (concat name) + count_by (λ o. leb o 1) (concat name)
length-key [] = refl
length-key (label ∷ labels) =
    omega (arith, ap (length {A = ℕ}) (key_cons label labels), length-append (key_of labels ++ label_front label) (0 ∷ []), length-append (key_of labels) (label_front label), front_len label, length-key labels, length-append label (concat labels), sum_by-append (λ (k : ℕ). cond (leb k 1) 1 0) label (concat labels))

root_first : (key : List ℕ) → is_le (by_octets [] key) ≡ true
root_first [] = refl
root_first (k ∷ key) = refl

range_begins : (top : List (List ℕ)) (key : List ℕ) → IsInRange (key_of top) (key_end top) key → BeginsWith key (key_of top)
range_begins [] key r = (key, refl)
range_begins (label ∷ labels) key r =
    let front = key_of labels ++ label_front label in
    subst (BeginsWith key) (sym (key_cons label labels)) (in_range front key (rw (key_cons label labels) at r.0) (rw (sym (append_assoc (key_of labels) (label_front label) (1 ∷ []))) at r.1))

begins_in_range : (top : List (List ℕ)) (key : List ℕ) → BeginsWith key (key_of top) → IsInRange (key_of top) (key_end top) key
begins_in_range [] key b = (root_first key, tt)
begins_in_range (label ∷ labels) key b =
    let front = key_of labels ++ label_front label in
    let both = begins_range front b.0 in
    let whole : key ≡ (front ++ 0 ∷ []) ++ b.0 = b.1 ∙ ap (λ (l : List ℕ). l ++ b.0) (key_cons label labels) in
    (rw (key_cons label labels, whole) both.0, rw (sym (append_assoc (key_of labels) (label_front label) (1 ∷ [])), whole) both.1)

pub key_ranges : (top : List (List ℕ)) → RangesOver top
key_ranges top name = (λ w. begins_in_range top (key_of name) (within_begins name top w), λ r. begins_within name top (range_begins top (key_of name) r))

-- the end of a range, from the key without its last octet
pub end_of_root : (name : List (List ℕ)) → length (key_of name) ≡ 0 → None ≡ key_end name
end_of_root [] e = refl
end_of_root (label ∷ labels) e = absurd (omega (arith, ap (length {A = ℕ}) (key_cons label labels), length-append (key_of labels ++ label_front label) (0 ∷ [])))

pub end_of_other : (name : List (List ℕ)) (first end : List ℕ) → first ≡ key_of name → 0 < length first → end ≡ first → Some (set end (length first - 1) 1) ≡ key_end name
end_of_other [] first end is some same = absurd (omega (arith, ap (length {A = ℕ}) is))
end_of_other (label ∷ labels) first end is some same =
    let front = key_of labels ++ label_front label in
    let whole : first ≡ front ++ 0 ∷ [] = is ∙ key_cons label labels in
    let place : length first - 1 ≡ length front = omega (arith, ap (length {A = ℕ}) whole, length-append front (0 ∷ [])) in
    let here : length front - length front ≡ 0 = omega arith in
    rw (same, place, whole, set-append_right front (0 ∷ []) (length front) (length front) 1 refl (omega arith))
    (ap (λ (k : ℕ). Some (front ++ set (0 ∷ []) k 1)) here ∙ ap (λ (l : List ℕ). Some l) (append_assoc (key_of labels) (label_front label) (1 ∷ [])))

-- ---- ancestors

-- what stands after a label's key
behind_front : (label rest : List ℕ) → behind_label (label_front label ++ 0 ∷ rest) ≡ Some rest
behind_front [] rest = refl
behind_front (o ∷ label) rest =
    rw (append_assoc (key_octet o) (label_front label) (0 ∷ rest))
    (elim (octet_cases o) [
      | inl o0 ↦ rw o0 (behind_front label rest)
      | inr o1 ↦ elim o1 [ inl o1 ↦ rw o1 (behind_front label rest) | inr o2 ↦ rw (o2.1, ne_eqb o 0 (λ z. omega (arith, o2.0))) (behind_front label rest) ]
    ])

pub one_behind : (labels : List (List ℕ)) (n : ℕ) → n < length labels → behind_label (keys (drop n labels)) ≡ Some (keys (drop (n + 1) labels))
one_behind [] n more = absurd (omega arith)
one_behind (label ∷ labels) zero more = rw (label_and label (keys labels)) (behind_front label (keys labels))
one_behind (label ∷ labels) (suc n) more = rw (add-one (suc n)) (rw (add-one n) at (one_behind labels n (omega arith)))

pub none_behind : (labels : List (List ℕ)) (n : ℕ) → length labels ≤ n → behind_label (keys (drop n labels)) ≡ None
none_behind labels n none = rw (drop_all n labels none) refl

-- the labels from the right, so many of them
reverse-drop : (name : List (List ℕ)) (n : ℕ) → n ≤ length name → reverse (drop (length name - n) name) ≡ take n (reverse name)
reverse-drop name n fits =
    let front = take (length name - n) name in
    let back = drop (length name - n) name in
    let parts : reverse name ≡ reverse back ++ reverse front = ap (reverse {A = List ℕ}) (sym (take-append-drop (length name - n) name)) ∙ reverse-append front back in
    let short : length (reverse back) ≡ n = omega (arith, length-reverse back, length-drop (length name - n) name) in
    sym (ap (take n) parts ∙ take-append-le n (reverse back) (reverse front) (omega arith) ∙ take_all n (reverse back) (omega arith))

-- the key of a name, where the keys of some labels from the right were passed
module _ (name : List (List ℕ)) (n : ℕ) (rest : List ℕ) (fits : n ≤ length name) (is : rest ≡ keys (drop n (reverse name))) where
  passed_parts : key_of name ≡ keys (take n (reverse name)) ++ rest
  passed_parts = ap keys (sym (take-append-drop n (reverse name))) ∙ keys-append (take n (reverse name)) (drop n (reverse name)) ∙ ap (λ (l : List ℕ). keys (take n (reverse name)) ++ l) (sym is)

  pub rest_fits : length rest ≤ length (key_of name)
  rest_fits = omega (arith, ap (length {A = ℕ}) passed_parts, length-append (keys (take n (reverse name))) rest)

  -- what stands before is the ancestor's key
  pub ancestor_front : Some (take (length (key_of name) - length rest) (key_of name)) ≡ ancestor_key name n
  ancestor_front =
      let front = keys (take n (reverse name)) in
      let whole : take (length (key_of name) - length rest) (key_of name) ≡ front =
      ap (λ (l : List ℕ). take (length l - length rest) l) passed_parts ∙ take-append-le (length (front ++ rest) - length rest) front rest (omega (arith, length-append front rest)) ∙ take_all (length (front ++ rest) - length rest) front (omega (arith, length-append front rest)) in
      rw (le-leb n (length name) fits) (ap (λ (l : List ℕ). Some l) (whole ∙ ap keys (sym (reverse-drop name n fits))))

  -- one label more
  pub ancestor_more : (after : List ℕ) → Some after ≡ behind_label rest → (n + 1 ≤ length name) × (after ≡ keys (drop (n + 1) (reverse name)))
  ancestor_more after e =
      elim (cases_lt n (length name)) [
        | inl l ↦ (omega arith, let f = e ∙ ap behind_label is ∙ one_behind (reverse name) n (omega (arith, length-reverse name)) in cc)
        | inr h ↦ absurd (let f = e ∙ ap behind_label is ∙ none_behind (reverse name) n (omega (arith, length-reverse name)) in cc)
      ]

  -- no label more
  pub ancestor_stops : (labels : ℕ) → None ≡ behind_label rest → n < labels → None ≡ ancestor_key name labels
  ancestor_stops labels e more =
      elim (cases_lt n (length name)) [
        | inl l ↦ absurd (let f = e ∙ ap behind_label is ∙ one_behind (reverse name) n (omega (arith, length-reverse name)) in cc)
        | inr h ↦ rw (lt-leb labels (length name) (omega arith)) refl
      ]

pub ancestor_begins : (name : List (List ℕ)) (n : ℕ) → BeginsAtAncestor name n
ancestor_begins name n =
    cond_both (leb n (length name)) (Some (key_of (drop (length name - n) name))) None (λ k. IfSome k (BeginsWith (key_of name)))
    (λ h. within_begins name (drop (length name - n) name) (take (length name - n) name, sym (take-append-drop (length name - n) name)))
    (λ h. tt)
