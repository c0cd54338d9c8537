-- Pieces that pass the checks: their labels are labels, and labels pass.
use Rattle.std.proofs.Common.{◌≡◌, ℕ, ◌<◌, ◌≤◌, false, cond, ltb, ◌||◌, List, [], ◌∷◌, ◌++◌, length, length-append, Result, Ok, Err, refl, ap, subst, ◌∙◌, arith, ltb-false, le-ltb, ne_eqb}
use Rattle.std.proofs.lemmas.Bool.{cond_both, or_parts, or_from, eqb-false}
use Rattle.std.proofs.lemmas.Bool.Decides.{nat_tests}
use Rattle.std.specs.List.{AllByRecursion, list_any}
use Rattle.std.specs.Char.{to_ascii_lowercase}
use Rattle.dns_names.specs.declared.name_fault.NameFault.{NameFault}
use Rattle.dns_names.specs.declared.name_fault.NameFault.TheVariants.{EmptyLabel, LabelTooLong, NameTooLong}
use Rattle.dns_names.specs.Labels.{IsFolded, IsLabel, wire_len}
use Rattle.dns_names.specs.Spelling.{SpellsFolded, SpellsLabel, SpellsLabels}
use Rattle.dns_names.specs.Reading.{◌>>=◌, Pieces, cut, is_empty, is_long, checked, pieces_of, fitting}
use Rattle.dns_names.proofs.SymbolLaws.{IsBytes, Spelled-some, bind_ok, guard_ok}
use Rattle.dns_names.specs.declared.symbol.Symbol.TheVariants.{Octet}
use Rattle.dns_names.proofs.SpellingLaws.{made, SpellsPieces, cut_spells, cut_spelled}

-- ---- checks

-- what the checks of pieces pass
pub record Pass (p q : Pieces) : Type 0 where
  pub same : p ≡ q
  pub no_empty : list_any is_empty p.ended ≡ false
  pub no_long : list_any is_long p.ended ≡ false
  pub last_short : length p.last ≤ 63

-- pieces that are checked pass
pub checked_ok : (p q : Pieces) → checked p ≡ Ok q → Pass p q
checked_ok p q e =
    cond_both (list_any is_empty p.ended) (Err EmptyLabel) (cond (list_any is_long p.ended || is_long p.last) (Err LabelTooLong) (Ok p)) (λ r. r ≡ Ok q → Pass p q)
    (λ h f. absurd cc)
    (λ h f.
    let g = guard_ok (list_any is_long p.ended || is_long p.last) LabelTooLong p q f in
    let o = or_parts (list_any is_long p.ended) (is_long p.last) g.0 in
    record { same = g.1; no_empty = h; no_long = o.0; last_short = ltb-false 63 (length p.last) o.1 })
    e

-- labels pass the checks
pub none_empty : (labels : List (List ℕ)) → AllByRecursion IsLabel labels → list_any is_empty labels ≡ false
none_empty [] h = refl
none_empty (label ∷ labels) h = let some = h.0.not_empty in or_from (is_empty label) (list_any is_empty labels) (ne_eqb (length label) 0 (λ z. omega arith)) (none_empty labels h.1)

-- nor is one of them too long
pub none_long : (labels : List (List ℕ)) → AllByRecursion IsLabel labels → list_any is_long labels ≡ false
none_long [] h = refl
none_long (label ∷ labels) h = or_from (is_long label) (list_any is_long labels) (le-ltb 63 (length label) h.0.short) (none_long labels h.1)

-- pieces of labels, and of a last one that is not too long, pass
pub checked_again : (p : Pieces) → AllByRecursion IsLabel p.ended → length p.last ≤ 63 → checked p ≡ Ok p
checked_again p h k = rw (none_empty p.ended h, none_long p.ended h, le-ltb 63 (length p.last) k) refl

-- a name that fits
pub fitting_ok : (labels name : List (List ℕ)) → fitting labels ≡ Ok name → (labels ≡ name) × (wire_len labels ≤ 255)
fitting_ok labels name e =
    let g = guard_ok (ltb 255 (wire_len labels)) NameTooLong labels name e in
    (g.1, ltb-false 255 (wire_len labels) g.0)

-- and one that fits is found to fit
pub fitting_again : (name : List (List ℕ)) → wire_len name ≤ 255 → fitting name ≡ Ok name
fitting_again name h = rw (le-ltb 255 (wire_len name) h) refl

-- ---- labels that are spelled

-- a folded octet is one that stays when it is folded
fold_again : (raw : ℕ) → raw < 256 → to_ascii_lowercase (to_ascii_lowercase raw) ≡ to_ascii_lowercase raw
fold_again raw h = grind (arith, nat_tests)

-- folding gives an octet
fold_below : (raw : ℕ) → raw < 256 → to_ascii_lowercase raw < 256
fold_below raw h = grind (arith, nat_tests)

-- what is spelled is folded
folded_is : (octet : ℕ) (text : List ℕ) → SpellsFolded octet text → IsFolded octet
folded_is octet text h = subst IsFolded h.2 (record { below = fold_below h.0 h.1; folded = fold_again h.0 h.1 })

-- and so is each octet of a label
Label-folded : (label text : List ℕ) → SpellsLabel label text → AllByRecursion IsFolded label
Label-folded [] text h = tt
Label-folded (octet ∷ octets) text h = (folded_is octet h.0 h.3, Label-folded octets h.1 h.4)

-- a spelled label that the checks pass is a label
pub label_is : (label text : List ℕ) → SpellsLabel label text → is_empty label ≡ false → length label ≤ 63 → IsLabel label
label_is label text h some short =
    let not_zero = eqb-false (length label) 0 some in
    record { octets = Label-folded label text h; not_empty = omega arith; short = short }

-- and so are all of them
labels_are : (labels : List (List ℕ)) (text : List ℕ) → SpellsLabels labels text → list_any is_empty labels ≡ false → list_any is_long labels ≡ false → AllByRecursion IsLabel labels
labels_are [] text h some short = tt
labels_are (label ∷ labels) text h some short =
    let s = or_parts (is_empty label) (list_any is_empty labels) some in
    let l = or_parts (is_long label) (list_any is_long labels) short in
    (label_is label h.0 h.3 s.0 (ltb-false 63 (length label) l.0), labels_are labels h.1 h.4 s.1 l.1)

-- a label with an octet is spelled by one at least
pub Label-some : (label text : List ℕ) → SpellsLabel label text → 0 < length label → 0 < length text
Label-some [] text h some = absurd (omega arith)
Label-some (octet ∷ octets) text (here, there, parts, folded, more) some =
    let s = Spelled-some (Octet folded.0) here folded.3 in
    let l : length text ≡ length (here ++ there) = ap length parts in
    omega (arith, length-append here there)

-- ---- the pieces of a text

-- the pieces that are read from octets
pub record Found (p : Pieces) (text : List ℕ) : Type 0 where
  pub spelled : SpellsPieces p text
  pub labels : AllByRecursion IsLabel p.ended
  pub last_short : length p.last ≤ 63

-- pieces that are read are found
pub pieces_found : (text : List ℕ) (p : Pieces) → IsBytes text → pieces_of text ≡ Ok p → Found p text
pieces_found text p bytes e =
    let b = bind_ok (cut text) checked p e in
    let c = checked_ok b.0 p b.2 in
    let s = cut_spells text b.0 bytes b.1 in
    subst (λ (q : Pieces). Found q text) c.same (record { spelled = s; labels = labels_are b.0.ended s.front s.labels c.no_empty c.no_long; last_short = c.last_short })

-- labels and a last one that a text spells are its pieces
pub pieces_again : (labels : List (List ℕ)) (last front back : List ℕ) → AllByRecursion IsLabel labels → length last ≤ 63 → SpellsLabels labels front → SpellsLabel last back → pieces_of (front ++ back) ≡ Ok (made labels last)
pieces_again labels last front back are short h k =
    ap (λ (r : Result Pieces NameFault). r >>= checked) (cut_spelled labels last front back h k) ∙ checked_again (made labels last) are short
