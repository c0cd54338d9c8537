-- The labels of a name before those of an origin, and what is printed of them.
use Rattle.std.proofs.Common.{◌≡◌, ◌≢◌, ℕ, ◌-◌, ◌≤◌, inl, inr, Bool, true, false, not, eqb, List, [], ◌∷◌, ◌++◌, length, take, drop, Option, None, Some, Ok, refl, sym, ap, subst, ◌∙◌, arith, append_assoc, length-append, take-append-drop}
use Rattle.std.proofs.Math.Seq.{take-append_seam}
use Rattle.std.proofs.lemmas.Bool.{cond_both, agree_below_at}
use Rattle.std.proofs.lemmas.List.{length-take-le}
use Rattle.std.specs.Borrow.{Bor}
use Rattle.std.specs.Iterator.{YieldsLastRef}
use Rattle.std.specs.List.{AllByRecursion, flat_map}
use Rattle.dns_names.specs.Labels.{IsLabel, IsName, is_within}
use Rattle.dns_names.specs.Spelling.{SpellsLabels, SpellsRelative, octet_text, label_octets, label_text, name_text, dotted_label, dotted_text, labels_before, relative_text}
use Rattle.dns_names.specs.Reading.{relative_name}
use Rattle.dns_names.proofs.NameLemmas.{is_within-Decides}
use Rattle.dns_names.proofs.SymbolLaws.{All-parts}
use Rattle.dns_names.proofs.ReadingLaws.{labels_text_spells, text_spells, relative_only}

-- a prefix without its last label is one label shorter
init_of : (name after : List (List ℕ)) (x : List ℕ) (n : ℕ) → n ≤ length name → take n name ≡ after ++ x ∷ [] → after ≡ take (n - 1) name
init_of name after x n h e =
    let long : length (after ++ x ∷ []) ≡ n = ap (length {A = List ℕ}) (sym e) ∙ length-take-le n name h in
    let shorter : n - 1 ≡ length after = omega (arith, long, length-append after (x ∷ [])) in
    let whole : name ≡ after ++ (x ∷ drop n name) = sym (take-append-drop n name) ∙ ap (λ (l : List (List ℕ)). l ++ drop n name) e ∙ append_assoc after (x ∷ []) (drop n name) in
    sym (ap (take (n - 1)) whole ∙ ap (λ (k : ℕ). take k (after ++ (x ∷ drop n name))) shorter ∙ take-append_seam after (x ∷ drop n name))

-- a label less at the end
pub one_less : (name before after : List (List ℕ)) (label : Option (Bor (List ℕ))) (n : ℕ) → n ≤ length name → before ≡ take n name → YieldsLastRef (λ l. l) before label after → after ≡ take (n - 1) name
one_less name before after None n h e steps =
    let none : length (take n name) ≡ 0 = ap (length {A = List ℕ}) (sym e ∙ steps.0) in
    let zero : n - 1 ≡ 0 = omega (arith, none, length-take-le n name h) in
    steps.1 ∙ ap (λ (k : ℕ). take k name) (sym zero)
one_less name before after (Some label) n h e steps = init_of name after label.now n h (sym e ∙ steps)

-- ---- what is printed of them

-- the labels before those of an origin
pub before_are : (origin front : List (List ℕ)) → labels_before origin (front ++ origin) ≡ front
before_are origin front =
    let many : length (front ++ origin) - length origin ≡ length front = omega (arith, length-append front origin) in
    ap (λ (k : ℕ). take k (front ++ origin)) many ∙ take-append_seam front origin

-- a dot before each and one at the end are a dot, and one after each
dots_shift : (labels : List (List ℕ)) → flat_map dotted_label labels ++ 46 ∷ [] ≡ 46 ∷ flat_map label_text labels
dots_shift [] = refl
dots_shift (label ∷ labels) =
    ap (λ (t : List ℕ). 46 ∷ t) (append_assoc (label_octets label) (flat_map dotted_label labels) (46 ∷ []) ∙ ap (λ (t : List ℕ). label_octets label ++ t) (dots_shift labels) ∙ sym (append_assoc (label_octets label) (46 ∷ []) (flat_map label_text labels)))

dotted_ends : (label : List ℕ) (labels : List (List ℕ)) → dotted_text (label ∷ labels) ++ 46 ∷ [] ≡ flat_map label_text (label ∷ labels)
dotted_ends label labels =
    append_assoc (label_octets label) (flat_map dotted_label labels) (46 ∷ []) ∙ ap (λ (t : List ℕ). label_octets label ++ t) (dots_shift labels) ∙ sym (append_assoc (label_octets label) (46 ∷ []) (flat_map label_text labels))

-- the first octet is there, and no `@`
abbrev no_at : List ℕ → Bool
no_at [] = false
no_at (o ∷ rest) = not (eqb o 64)

no_at_more : (a b : List ℕ) → no_at a ≡ true → no_at (a ++ b) ≡ true
no_at_more [] b e = absurd cc
no_at_more (o ∷ a) b e = e

no_at_in : (label : List ℕ) (labels : List (List ℕ)) → IsLabel label → no_at (dotted_text (label ∷ labels)) ≡ true
no_at_in [] labels is = absurd (let some = is.not_empty in omega arith)
no_at_in (o ∷ label) labels is =
    let more = flat_map dotted_label labels in
    no_at_more (label_octets (o ∷ label)) more (no_at_more (octet_text o) (flat_map octet_text label) (agree_below_at (λ n. no_at (octet_text n)) (λ n. true) 256 o refl is.octets.0.below))

no_mark : (text : List ℕ) → no_at text ≡ true → text ≢ 64 ∷ []
no_mark text e same = absurd (let at : no_at text ≡ false = ap no_at same in let both = sym at ∙ e in cc)

within_spells : (origin front name : List (List ℕ)) → IsName name → name ≡ front ++ origin → SpellsRelative origin name (dotted_text front)
within_spells origin [] name is e = inr (inl (refl, e))
within_spells origin (label ∷ labels) name is e =
    let all = All-parts IsLabel (label ∷ labels) origin (subst (AllByRecursion IsLabel) e is.labels) in
    inr (inr (label ∷ labels, no_mark (dotted_text (label ∷ labels)) (no_at_in label labels all.0.0), (λ none. cc), e, subst (SpellsLabels (label ∷ labels)) (sym (dotted_ends label labels)) (labels_text_spells (label ∷ labels) all.0)))

-- a printed name spells it, relative to the origin
pub relative_spells : (origin name : List (List ℕ)) → IsName name → SpellsRelative origin name (relative_text origin name)
relative_spells origin name is =
    cond_both (is_within name origin) (dotted_text (labels_before origin name)) (name_text name) (SpellsRelative origin name)
    (λ yes.
    let within = (is_within-Decides name origin).0 yes in
    let front : labels_before origin name ≡ within.0 = ap (labels_before origin) within.1 ∙ before_are origin within.0 in
    subst (λ (labels : List (List ℕ)). SpellsRelative origin name (dotted_text labels)) (sym front) (within_spells origin within.0 name is within.1))
    (λ no. inl (text_spells name is))

-- and is read as it
pub relative_again : (origin name : List (List ℕ)) → IsName origin → IsName name → relative_name origin (relative_text origin name) ≡ Ok name
relative_again origin name of is = relative_only origin name (relative_text origin name) of is (relative_spells origin name is)
