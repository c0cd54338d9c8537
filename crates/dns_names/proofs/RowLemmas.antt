-- Labels that a row of lengths cuts from a row of octets.
use Rattle.std.proofs.Common.{◌≡◌, ℕ, ◌+◌, ◌-◌, ◌≤◌, List, [], ◌∷◌, ◌++◌, length, get_or, map, reverse, sum, take, drop, ◌<◌, inl, inr, Some, true, leb, ltb, ne_eqb, refl, sym, ap, subst, ◌∙◌, append_assoc, append-nil, arith, length-append, length-drop}
use Rattle.std.specs.List.{concat, count_by, list_all}
use Rattle.std.proofs.Math.Seq.{take-append_seam, drop-append_seam, take-append-add, drop-append-add}
use Rattle.std.proofs.lemmas.Bool.{and_parts, le-leb}
use Rattle.std.proofs.lemmas.List.{take-append-le, drop-append-le, drop-drop, take_all, length-take, length-map, take-append-drop, drop_at, map-append, reverse-append}
use Rattle.std.proofs.lemmas.List.Concat.{flat_map-append}
use Rattle.std.proofs.lemmas.List.Folds.{list_all-append}
use Rattle.std.proofs.lemmas.List.Sums.{count_by-le-length, sum_by-append, sum_by-cons}
use Rattle.std.specs.List.{flat_map}
use Rattle.dns_names.specs.Labels.{labels_of, parent_of, wire_len, IsName}
use Rattle.dns_names.specs.Keys.{ancestor_key, key_of, label_key, label_front}
use Rattle.dns_names.proofs.KeyLaws.{key_cons, length-key, front_stands}
use Rattle.dns_names.specs.Rows.{row_label, row_of, labels_in, plain_rows, escaped_rows, escaped_in, name_in, AreRows, AreEscaped, AreRowsOf, IsPlain}

pub sum-cons : (n : ℕ) (ns : List ℕ) → sum (n ∷ ns) ≡ n + sum ns
sum-cons n ns = sum_by-cons (λ (k : ℕ). k) n ns

pub sum-append : (ns ms : List ℕ) → sum (ns ++ ms) ≡ sum ns + sum ms
sum-append ns ms = sum_by-append (λ (k : ℕ). k) ns ms

-- octets after the last label don't matter
pub labels_of-append_octets : (ns os ps : List ℕ) → sum ns ≤ length os → labels_of ns (os ++ ps) ≡ labels_of ns os
labels_of-append_octets [] os ps fits = refl
labels_of-append_octets (n ∷ ns) os ps fits =
    let total = sum-cons n ns in
    let here : take n (os ++ ps) ≡ take n os = take-append-le n os ps (omega (arith, total)) in
    let there : drop n (os ++ ps) ≡ drop n os ++ ps = drop-append-le n os ps (omega (arith, total)) in
    rw (here, there) (ap (λ (ls : List (List ℕ)). take n os ∷ ls) (labels_of-append_octets ns (drop n os) ps (omega (arith, total, length-drop n os))))

pub labels_of-append : (ns ms os : List ℕ) → labels_of (ns ++ ms) os ≡ labels_of ns os ++ labels_of ms (drop (sum ns) os)
labels_of-append [] ms os = refl
labels_of-append (n ∷ ns) ms os =
    let rest : drop (sum ns) (drop n os) ≡ drop (sum (n ∷ ns)) os = rw (drop-drop (sum ns) n os, sum-cons n ns) refl in
    ap (λ (ls : List (List ℕ)). take n os ∷ ls) (labels_of-append ns ms (drop n os) ∙ ap (λ (o : List ℕ). labels_of ns (drop n os) ++ labels_of ms o) rest)

-- the last label, and those before it
pub last_label : (ns ms : List ℕ) (n : ℕ) (os front back : List ℕ) → ns ≡ ms ++ n ∷ [] → sum ns ≡ length os → front ≡ take (length os - n) os → back ≡ drop (length os - n) os → labels_of ns os ≡ labels_of ms front ++ back ∷ []
last_label ns ms n os front back cut whole front-is back-is =
    let total : sum ms + n ≡ length os = omega (arith, sum-append ms (n ∷ []), ap sum cut, whole) in
    let parts : front ++ back ≡ os = rw (front-is, back-is) (take-append-drop (length os - n) os) in
    let long : length front ≡ sum ms = rw front-is (omega (arith, length-take (length os - n) os)) in
    let short : length back ≡ n = rw back-is (omega (arith, length-drop (length os - n) os)) in
    let last : take n (drop (sum ms) (front ++ back)) ≡ back = rw (drop_at front back (sum ms) long) (take_all n back (omega arith)) in
    let first : labels_of ms (front ++ back) ≡ labels_of ms front = labels_of-append_octets ms front back (omega arith) in
    ap (λ (ks : List ℕ). labels_of ks os) cut ∙ ap (λ (o : List ℕ). labels_of (ms ++ n ∷ []) o) (sym parts) ∙ labels_of-append ms (n ∷ []) (front ++ back) ∙ rw (first, last) refl

-- ---- labels in a row

-- the last label, which stands first
pub labels_in-last : (ms : List ℕ) (n : ℕ) (front back : List ℕ) → length front ≡ n + 1 → sum ms + length ms ≡ length back → labels_in (ms ++ n ∷ []) (front ++ back) ≡ labels_in ms back ++ take n front ∷ []
labels_in-last [] n front back long whole =
    let none : length (front ++ back) - (n + 1) ≡ 0 = omega (arith, length-append front back) in
    ap (λ (k : ℕ). take n (drop k (front ++ back)) ∷ []) none ∙ ap (λ (l : List ℕ). l ∷ []) (take-append-le n front back (omega arith))
labels_in-last (m ∷ ms) n front back long whole =
    let left : length (front ++ back) - (m + 1) ≡ length front + (length back - (m + 1)) = omega (arith, length-append front back, sum-cons m ms) in
    let there : drop (length (front ++ back) - (m + 1)) (front ++ back) ≡ drop (length back - (m + 1)) back =
    ap (λ (k : ℕ). drop k (front ++ back)) left ∙ drop-append-add front back (length back - (m + 1)) in
    let before : take (length (front ++ back) - (m + 1)) (front ++ back) ≡ front ++ take (length back - (m + 1)) back =
    ap (λ (k : ℕ). take k (front ++ back)) left ∙ take-append-add front back (length back - (m + 1)) in
    let rest = labels_in-last ms n front (take (length back - (m + 1)) back) long (omega (arith, length-take (length back - (m + 1)) back, sum-cons m ms)) in
    rw (there, before) (ap (λ (ls : List (List ℕ)). take m (drop (length back - (m + 1)) back) ∷ ls) rest)

-- the same, as a row is cut
pub last_in_row : (ns ms : List ℕ) (n : ℕ) (row front back : List ℕ) → ns ≡ ms ++ n ∷ [] → sum ns + length ns ≡ length row → front ≡ take (n + 1) row → back ≡ drop (n + 1) row
    → (sum ms + length ms ≡ length back) × (labels_in ns row ≡ labels_in ms back ++ take n front ∷ [])
last_in_row ns ms n row front back cut whole front-is back-is =
    let total : sum ms + length ms + (n + 1) ≡ length row = omega (arith, sum-append ms (n ∷ []), length-append ms (n ∷ []), ap sum cut, ap (length {A = ℕ}) cut, whole) in
    let parts : front ++ back ≡ row = rw (front-is, back-is) (take-append-drop (n + 1) row) in
    let long : length front ≡ n + 1 = rw front-is (omega (arith, length-take (n + 1) row)) in
    let short : sum ms + length ms ≡ length back = rw back-is (omega (arith, length-drop (n + 1) row)) in
    (short, ap (λ (ks : List ℕ). labels_in ks row) cut ∙ ap (λ (r : List ℕ). labels_in (ms ++ n ∷ []) r) (sym parts) ∙ labels_in-last ms n front back long short)

-- ---- a name's row

pub row_cons : (label : List ℕ) (labels : List (List ℕ)) → row_of (label ∷ labels) ≡ row_of labels ++ (label ++ 0 ∷ [])
row_cons label labels =
    ap (flat_map row_label) (reverse-append (label ∷ []) labels) ∙ flat_map-append row_label (reverse labels) (label ∷ []) ∙ ap (λ (l : List ℕ). row_of labels ++ l) (append-nil (label ++ 0 ∷ []))

pub row_append : (front tail : List (List ℕ)) → row_of (front ++ tail) ≡ row_of tail ++ row_of front
row_append front tail = ap (flat_map row_label) (reverse-append front tail) ∙ flat_map-append row_label (reverse tail) (reverse front)

pub sum-lengths : (name : List (List ℕ)) → sum (map length name) ≡ length (concat name)
sum-lengths [] = refl
sum-lengths (label ∷ name) = omega (arith, sum-cons (length label) (map length name), sum-lengths name, length-append label (concat name))

pub length-row : (name : List (List ℕ)) → length (row_of name) ≡ length name + length (concat name)
length-row [] = refl
length-row (label ∷ name) =
    omega (arith, ap (length {A = ℕ}) (row_cons label name), length-append (row_of name) (label ++ 0 ∷ []), length-append label (0 ∷ []), length-row name, length-append label (concat name))

-- the labels that a name's own lengths cut from its row
pub labels_in-name : (name : List (List ℕ)) → labels_in (map length name) (row_of name) ≡ name
labels_in-name [] = refl
labels_in-name (label ∷ name) =
    let row = row_of name in
    let left : length (row ++ (label ++ 0 ∷ [])) - (length label + 1) ≡ length row = omega (arith, length-append row (label ++ 0 ∷ []), length-append label (0 ∷ [])) in
    let there : drop (length (row ++ (label ++ 0 ∷ [])) - (length label + 1)) (row ++ (label ++ 0 ∷ [])) ≡ label ++ 0 ∷ [] = ap (λ (k : ℕ). drop k (row ++ (label ++ 0 ∷ []))) left ∙ drop-append_seam row (label ++ 0 ∷ []) in
    let before : take (length (row ++ (label ++ 0 ∷ [])) - (length label + 1)) (row ++ (label ++ 0 ∷ [])) ≡ row = ap (λ (k : ℕ). take k (row ++ (label ++ 0 ∷ []))) left ∙ take-append_seam row (label ++ 0 ∷ []) in
    ap (labels_in (map length (label ∷ name))) (row_cons label name) ∙ rw (there, before, take-append_seam label (0 ∷ [])) (ap (λ (ls : List (List ℕ)). label ∷ ls) (labels_in-name name))

-- a row of octets above 1 is the key
pub stands : (name : List (List ℕ)) → list_all (λ o. ltb 1 o) (concat name) ≡ true → IsPlain name
stands [] all = refl
stands (label ∷ name) all =
    let both = and_parts (list_all (λ o. ltb 1 o) label) (list_all (λ o. ltb 1 o) (concat name)) (sym (list_all-append (λ o. ltb 1 o) label (concat name)) ∙ all) in
    row_cons label name ∙ sym (append_assoc (row_of name) label (0 ∷ []))
    ∙ ap (λ (l : List ℕ). (row_of name ++ l) ++ 0 ∷ []) (sym (front_stands label both.0)) ∙ ap (λ (l : List ℕ). (l ++ label_front label) ++ 0 ∷ []) (stands name both.1)
    ∙ sym (key_cons label name)

-- ---- labels in the order of a text

-- the labels that a name's own lengths cut from its octets
pub labels_of-name : (name : List (List ℕ)) (rest : List ℕ) → labels_of (map length name) (concat name ++ rest) ≡ name
labels_of-name [] rest = refl
labels_of-name (label ∷ name) rest =
    let parts = append_assoc label (concat name) rest in
    let here : take (length label) ((label ++ concat name) ++ rest) ≡ label = rw parts (take-append-le (length label) label (concat name ++ rest) (omega arith) ∙ take_all (length label) label (omega arith)) in
    let there : drop (length label) ((label ++ concat name) ++ rest) ≡ concat name ++ rest = rw parts (drop_at label (concat name ++ rest) (length label) refl) in
    rw (here, there) (ap (λ (ls : List (List ℕ)). label ∷ ls) (labels_of-name name rest))

pub lengths_back : (ns os : List ℕ) → sum ns ≤ length os → map length (labels_of ns os) ≡ ns
lengths_back [] os fits = refl
lengths_back (n ∷ ns) os fits =
    let total = sum-cons n ns in
    let here : length (take n os) ≡ n = omega (arith, total, length-take n os) in
    rw here (ap (λ (ks : List ℕ). n ∷ ks) (lengths_back ns (drop n os) (omega (arith, total, length-drop n os))))

pub octets_back : (ns os : List ℕ) → sum ns ≡ length os → concat (labels_of ns os) ≡ os
octets_back [] [] whole = refl
octets_back [] (o ∷ os) whole = absurd (omega arith)
octets_back (n ∷ ns) os whole =
    let total = sum-cons n ns in
    ap (λ (rest : List ℕ). take n os ++ rest) (octets_back ns (drop n os) (omega (arith, total, length-drop n os))) ∙ take-append-drop n os

-- ---- a name's memory

pub wire_len-name : (name : List (List ℕ)) → wire_len name ≡ 1 + (length name + length (concat name))
wire_len-name [] = refl
wire_len-name (label ∷ name) = omega (arith, wire_len-name name, length-append label (concat name))

-- no name has as many labels as the mark of an escape says
pub few_labels : (name : List (List ℕ)) → IsName name → length name < 255
few_labels name is = omega (arith, wire_len-name name, is.short)

take_lengths : (name : List (List ℕ)) (rest : List ℕ) → take (length name) (map length name ++ rest) ≡ map length name
take_lengths name rest = take-append-le (length name) (map length name) rest (omega (arith, length-map name length)) ∙ take_all (length name) (map length name) (omega (arith, length-map name length))

drop_lengths : (name : List (List ℕ)) (rest : List ℕ) → drop (length name) (map length name ++ rest) ≡ rest
drop_lengths name rest = drop_at (map length name) rest (length name) (length-map name length)

-- a name's memory holds it
pub in_escaped : (name : List (List ℕ)) → escaped_in (escaped_rows name) ≡ name
in_escaped name = rw (take_lengths name (row_of name ++ key_of name), drop_lengths name (row_of name ++ key_of name), take-append_seam (row_of name) (key_of name)) (labels_in-name name)

pub in_plain : (name : List (List ℕ)) → IsName name → IsPlain name → name_in (plain_rows name) ≡ name
in_plain name is plain =
    rw (ne_eqb (length name) 255 (λ e. omega (arith, few_labels name is)), take_lengths name (key_of name), drop_lengths name (key_of name), sym plain) (labels_in-name name)

pub rows_escaped : (memory : List ℕ) (name : List (List ℕ)) → memory ≡ 255 ∷ escaped_rows name → IsName name → AreRows memory
rows_escaped memory name e is =
    let held : name_in memory ≡ name = ap name_in e ∙ in_escaped name in
    record { name = subst IsName (sym held) is; whole = inl (e ∙ ap (λ (n : List (List ℕ)). 255 ∷ escaped_rows n) (sym held)) }

pub rows_plain : (memory : List ℕ) (name : List (List ℕ)) → memory ≡ plain_rows name → IsName name → IsPlain name → AreRows memory
rows_plain memory name e is plain =
    let held : name_in memory ≡ name = ap name_in e ∙ in_plain name is plain in
    record { name = subst IsName (sym held) is; whole = inr (e ∙ ap plain_rows (sym held), subst IsPlain (sym held) plain) }

-- ---- what a name's memory is cut into

module _ (name : List (List ℕ)) (lengths row key : List ℕ) (are : AreRowsOf name lengths row key) where
  pub rows_hold : labels_in lengths row ≡ name
  rows_hold = ap (λ (ns : List ℕ). labels_in ns row) are.lengths_are ∙ ap (labels_in (map length name)) are.row_is ∙ labels_in-name name

  pub rows_of_labels : AreRowsOf (labels_in lengths row) lengths row key
  rows_of_labels = subst (λ (n : List (List ℕ)). AreRowsOf n lengths row key) (sym rows_hold) are

  pub rows_whole : sum lengths + length lengths ≡ length row
  rows_whole =
      omega (arith, ap sum are.lengths_are, ap (length {A = ℕ}) are.lengths_are, length-map name length, sum-lengths name, ap (length {A = ℕ}) are.row_is, length-row name)

-- what stands after the mark of an escape
pub behind_mark : (memory : List ℕ) → AreRows memory → get_or memory 0 0 ≡ 255 → AreEscaped (take (length memory - 1) (drop 1 memory))
behind_mark memory are marked =
    let name = name_in memory in
    elim are.whole [
      | inl e ↦
          let rest : take (length memory - 1) (drop 1 memory) ≡ escaped_rows name = ap (λ (m : List ℕ). take (length m - 1) (drop 1 m)) e ∙ take_all (length (255 ∷ escaped_rows name) - 1) (escaped_rows name) (omega arith) in
          rest ∙ ap escaped_rows (sym (ap escaped_in rest ∙ in_escaped name))
      | inr p ↦ absurd (omega (arith, few_labels name are.name, ap (λ (m : List ℕ). get_or m 0 0) p.0, marked))
    ]

pub name_behind : (memory : List ℕ) → get_or memory 0 0 ≡ 255 → name_in memory ≡ escaped_in (take (length memory - 1) (drop 1 memory))
name_behind [] marked = absurd (omega arith)
name_behind (count ∷ rows) marked = rw (marked, take_all (length (count ∷ rows) - 1) rows (omega arith)) refl

-- the parts of memory with an escape
module _ (memory : List ℕ) (are : AreEscaped memory) where
  pub escaped_rest : take (length memory - 2) (drop 2 memory) ≡ map length (escaped_in memory) ++ (row_of (escaped_in memory) ++ key_of (escaped_in memory))
  escaped_rest =
      let name = escaped_in memory in
      ap (λ (m : List ℕ). take (length m - 2) (drop 2 m)) are ∙ take_all (length (escaped_rows name) - 2) (map length name ++ (row_of name ++ key_of name)) (omega arith)

  pub escaped_count : get_or memory 0 0 ≡ length (escaped_in memory)
  escaped_count = ap (λ (m : List ℕ). get_or m 0 0) are

  pub escaped_total : get_or memory 1 0 ≡ length (row_of (escaped_in memory))
  escaped_total = ap (λ (m : List ℕ). get_or m 1 0) are

-- what stands in memory without one
pub plain_whole : (memory : List ℕ) → AreRows memory → (get_or memory 0 0 ≡ 255 → ⊥) → (memory ≡ plain_rows (name_in memory)) × IsPlain (name_in memory)
plain_whole memory are other = elim are.whole [ inl e ↦ absurd (other (ap (λ (m : List ℕ). get_or m 0 0) e)) | inr p ↦ p ]

module _ (memory : List ℕ) (are : memory ≡ plain_rows (name_in memory)) where
  pub plain_rest : take (length memory - 1) (drop 1 memory) ≡ map length (name_in memory) ++ key_of (name_in memory)
  plain_rest =
      let name = name_in memory in
      ap (λ (m : List ℕ). take (length m - 1) (drop 1 m)) are ∙ take_all (length (plain_rows name) - 1) (map length name ++ key_of name) (omega arith)

  pub plain_count : get_or memory 0 0 ≡ length (name_in memory)
  plain_count = ap (λ (m : List ℕ). get_or m 0 0) are

-- the lengths, and what stands after them
module _ (name : List (List ℕ)) (rest more lengths back : List ℕ) (n : ℕ) (whole : rest ≡ map length name ++ more) (many : n ≡ length name) where
  pub lengths_fit : n ≤ length rest
  lengths_fit = omega (arith, ap (length {A = ℕ}) whole, length-append (map length name) more, length-map name length)

  pub lengths_cut : lengths ≡ take n rest → lengths ≡ map length name
  lengths_cut cut = cut ∙ ap (λ (k : ℕ). take k rest) many ∙ ap (take (length name)) whole ∙ take_lengths name more

  pub more_cut : back ≡ drop n rest → back ≡ more
  more_cut cut = cut ∙ ap (λ (k : ℕ). drop k rest) many ∙ ap (drop (length name)) whole ∙ drop_lengths name more

-- the row and the key
module _ (name : List (List ℕ)) (back row key : List ℕ) (t : ℕ) (whole : back ≡ row_of name ++ key_of name) (long : t ≡ length (row_of name)) where
  pub row_fits : t ≤ length back
  row_fits = omega (arith, ap (length {A = ℕ}) whole, length-append (row_of name) (key_of name))

  pub row_cut : row ≡ take t back → row ≡ row_of name
  row_cut cut = cut ∙ ap (λ (k : ℕ). take k back) long ∙ ap (take (length (row_of name))) whole ∙ take-append_seam (row_of name) (key_of name)

  pub key_cut : key ≡ drop t back → key ≡ key_of name
  key_cut cut = cut ∙ ap (λ (k : ℕ). drop k back) long ∙ ap (drop (length (row_of name))) whole ∙ drop-append_seam (row_of name) (key_of name)

-- what memory is cut into
pub escaped_cut : (memory : List ℕ) → AreEscaped memory → (n t : ℕ) (lengths back row key : List ℕ) → n ≡ get_or memory 0 0 → t ≡ get_or memory 1 0
    → lengths ≡ take n (take (length memory - 2) (drop 2 memory)) → back ≡ drop n (take (length memory - 2) (drop 2 memory)) → row ≡ take t back → key ≡ drop t back → AreRowsOf (escaped_in memory) lengths row key
escaped_cut memory are n t lengths back row key count total lengths-is back-is row-is key-is =
    let name = escaped_in memory in
    let many = count ∙ escaped_count memory are in
    let long = total ∙ escaped_total memory are in
    let rest = escaped_rest memory are in
    let more = more_cut name _ _ lengths back n rest many back-is in
    record { lengths_are = lengths_cut name _ _ lengths back n rest many lengths-is; row_is = row_cut name back row key t more long row-is; key_is = key_cut name back row key t more long key-is }

pub plain_cut : (memory : List ℕ) → (memory ≡ plain_rows (name_in memory)) × IsPlain (name_in memory) → (n : ℕ) (lengths key : List ℕ) → n ≡ get_or memory 0 0
    → lengths ≡ take n (take (length memory - 1) (drop 1 memory)) → key ≡ drop n (take (length memory - 1) (drop 1 memory)) → AreRowsOf (name_in memory) lengths key key
plain_cut memory are n lengths key count lengths-is key-is =
    let name = name_in memory in
    let many = count ∙ plain_count memory are.0 in
    let rest = plain_rest memory are.0 in
    let more = more_cut name _ _ lengths key n rest many key-is in
    record { lengths_are = lengths_cut name _ _ lengths key n rest many lengths-is; row_is = more ∙ sym are.1; key_is = more }

-- ---- the name without its first label

module _ (name : List (List ℕ)) (lengths row key : List ℕ) (n : ℕ) (ns : List ℕ) (cut : lengths ≡ n ∷ ns) where
  pub first_fits : AreRowsOf name lengths row key → n + 1 ≤ length row
  first_fits are = omega (arith, rows_whole name lengths row key are, ap sum cut, sum-cons n ns, ap (length {A = ℕ}) cut)

abbrev pub after_first : List (List ℕ) → List (List ℕ)
after_first [] = []
after_first (label ∷ labels) = labels

-- what is left of the rows without the first label
module _ (name : List (List ℕ)) (lengths row key ns : List ℕ) (n : ℕ) (are : AreRowsOf name lengths row key) (cut : lengths ≡ n ∷ ns) where
  pub parent_is : Some (after_first name) ≡ parent_of name
  parent_is = some name (sym cut ∙ are.lengths_are)
    where
      some : (name : List (List ℕ)) → n ∷ ns ≡ map length name → Some (after_first name) ≡ parent_of name
      some [] e = absurd cc
      some (label ∷ labels) e = refl

  pub parent_name : IsName name → IsName (after_first name)
  parent_name is = shorter name is
    where
      shorter : (name : List (List ℕ)) → IsName name → IsName (after_first name)
      shorter [] is = is
      shorter (label ∷ labels) is = record { labels = is.labels.1; short = omega (arith, is.short) }

  pub parent_key : ancestor_key name (length ns) ≡ Some (key_of (after_first name))
  parent_key = some name (sym cut ∙ are.lengths_are)
    where
      some : (name : List (List ℕ)) → n ∷ ns ≡ map length name → ancestor_key name (length ns) ≡ Some (key_of (after_first name))
      some [] e = absurd cc
      some (label ∷ labels) e =
          let many : length ns ≡ length labels = omega (arith, ap (length {A = ℕ}) e, length-map labels length) in
          let one : length (label ∷ labels) - length labels ≡ 1 = omega arith in
          rw (many, le-leb (length labels) (length (label ∷ labels)) (omega arith), one) refl

  pub parent_rows : (key' : List ℕ) → ancestor_key name (length ns) ≡ Some key' → AreRowsOf (after_first name) ns (take (length row - (n + 1)) row) key'
  parent_rows key' e =
      let keys : Some (key_of (after_first name)) ≡ Some key' = sym parent_key ∙ e in
      rest name are (sym cut ∙ are.lengths_are) (cc)
    where
      rest : (name : List (List ℕ)) → AreRowsOf name lengths row key → n ∷ ns ≡ map length name → key' ≡ key_of (after_first name) → AreRowsOf (after_first name) ns (take (length row - (n + 1)) row) key'
      rest [] rows e k = absurd cc
      rest (label ∷ labels) rows e k =
          let whole : row ≡ row_of labels ++ (label ++ 0 ∷ []) = rows.row_is ∙ row_cons label labels in
          let many : n ≡ length label = cc in
          let left : length row - (n + 1) ≡ length (row_of labels) = omega (arith, ap (length {A = ℕ}) whole, length-append (row_of labels) (label ++ 0 ∷ []), length-append label (0 ∷ [])) in
          record {
            lengths_are = cc;
            row_is = ap (λ (k : ℕ). take k row) left ∙ ap (take (length (row_of labels))) whole ∙ take-append_seam (row_of labels) (label ++ 0 ∷ []);
            key_is = k;
          }

-- ---- a name of labels before another

module _ (ns os ms row key : List ℕ) (front tail : List (List ℕ)) (whole : sum ns ≡ length os) (cut : labels_of ns os ≡ front) (rows : AreRowsOf (labels_in ms row) ms row key) (held : labels_in ms row ≡ tail) where
  front_lengths : map length front ≡ ns
  front_lengths = ap (map length) (sym cut) ∙ lengths_back ns os (omega arith)

  front_octets : concat front ≡ os
  front_octets = ap concat (sym cut) ∙ octets_back ns os whole

  tail_rows : AreRowsOf tail ms row key
  tail_rows = subst (λ (n : List (List ℕ)). AreRowsOf n ms row key) held rows

  pub lengths_joined : map length (front ++ tail) ≡ ns ++ ms
  lengths_joined = map-append length front tail ∙ ap (λ (l : List ℕ). l ++ map length tail) front_lengths ∙ ap (λ (l : List ℕ). ns ++ l) (sym tail_rows.lengths_are)

  pub row_joined : row_of (front ++ tail) ≡ row ++ row_of front
  row_joined = row_append front tail ∙ ap (λ (l : List ℕ). l ++ row_of front) (sym tail_rows.row_is)

  pub key_joined : key_of (front ++ tail) ≡ key ++ key_of front
  key_joined = ap (flat_map label_key) (reverse-append front tail) ∙ flat_map-append label_key (reverse tail) (reverse front) ∙ ap (λ (l : List ℕ). l ++ key_of front) (sym tail_rows.key_is)

  pub labels_joined : length (front ++ tail) ≡ length ns + length ms
  labels_joined = sym (length-map (front ++ tail) length) ∙ ap (length {A = ℕ}) lengths_joined ∙ length-append ns ms

  front_labels : length front ≡ length ns
  front_labels = sym (length-map front length) ∙ ap (length {A = ℕ}) front_lengths

  pub total_joined : length (row_of (front ++ tail)) ≡ length row + length os + length ns
  total_joined = omega (arith, ap (length {A = ℕ}) row_joined, length-append row (row_of front), length-row front, ap (length {A = ℕ}) front_octets, front_labels)

  pub key_total : length (key_of (front ++ tail)) ≡ length key + length os + length ns + count_by (λ o. leb o 1) os
  key_total =
      omega (arith, ap (length {A = ℕ}) key_joined, length-append key (key_of front), length-key front, ap (length {A = ℕ}) front_octets, front_labels, ap (count_by (λ (o : ℕ). leb o 1)) front_octets)

  -- memory after which the lengths and the row were put
  pub rows_joined : (before with_ns with_ms with_row : List ℕ) → with_ns ≡ before ++ ns → with_ms ≡ with_ns ++ ms → with_row ≡ with_ms ++ row
      → with_row ++ row_of front ≡ before ++ (map length (front ++ tail) ++ row_of (front ++ tail))
  rows_joined before with_ns with_ms with_row a b c =
      let parts : (((before ++ ns) ++ ms) ++ row) ++ row_of front ≡ before ++ ((ns ++ ms) ++ (row ++ row_of front)) = simp append_assoc in
      rw (c, b, a, lengths_joined, row_joined) parts

  pub plain_joined : row ≡ key → list_all (λ o. ltb 1 o) os ≡ true → IsPlain (front ++ tail)
  plain_joined same all =
      let stand : row_of front ≡ key_of front = stands front (ap (list_all (λ o. ltb 1 o)) front_octets ∙ all) in
      row_joined ∙ ap (λ (l : List ℕ). l ++ row_of front) same ∙ ap (λ (l : List ℕ). key ++ l) stand ∙ sym key_joined

-- how many labels a name has, and how long its row and its key are
pub counts_fit : (name : List (List ℕ)) → IsName name → (length name < 255) × (length (row_of name) < 255) × (length (key_of name) < 510)
counts_fit name is =
    (few_labels name is, omega (arith, wire_len-name name, length-row name, is.short), omega (arith, wire_len-name name, length-key name, count_by-le-length (λ (o : ℕ). leb o 1) (concat name), is.short))

-- how long a name is, by its row
pub length-held : (ms row key : List ℕ) (name : List (List ℕ)) → AreRowsOf (labels_in ms row) ms row key → labels_in ms row ≡ name → length row ≡ length name + length (concat name)
length-held ms row key name rows held = ap (length {A = ℕ}) (rows.row_is ∙ ap row_of held) ∙ length-row name
