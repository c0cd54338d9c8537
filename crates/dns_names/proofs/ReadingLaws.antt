-- The laws of reading: what is read is a name that the text spells, what a text spells is read, and so is what is printed.
use Rattle.std.proofs.Common.{◌≡◌, ◌≢◌, ℕ, suc, ◌<◌, ◌≤◌, inl, inr, true, false, cond, leb, eqb, ◌&&◌, List, [], ◌∷◌, ◌++◌, length, length-append, Ok, Err, refl, sym, ap, subst, ◌∙◌, append_assoc, append-nil, arith, eqb-true, ne_eqb, eq-eqb}
use Rattle.std.proofs.lemmas.Bool.{cond_both, and_parts, and_right, and_from, agree_below_at, both_ways, false_from_ne_true}
use Rattle.std.proofs.lemmas.List.{nil_from_length, same_from_push}
use Rattle.std.specs.List.{AllByRecursion, flat_map}
use Rattle.std.specs.Char.{is_ascii_digit}
use Rattle.dns_names.specs.declared.name_fault.NameFault.TheVariants.{NotAbsolute}
use Rattle.dns_names.specs.Labels.{IsFolded, IsLabel, IsName, wire_len}
use Rattle.dns_names.specs.Spelling.{three_digits, SpellsOctet, SpellsLabel, SpellsLabels, SpellsAbsolute, SpellsRelative, is_special, octet_text, label_text, name_text}
use Rattle.dns_names.specs.Reading.{Pieces, cut, is_empty, pieces_of, fitting, ended, ended_name, absolute_name, placed, placed_name, relative_name}
use Rattle.dns_names.proofs.SymbolLaws.{All-both, All-parts, IsBytes, bind_ok, ok_is}
use Rattle.dns_names.proofs.PieceLaws.{fitting_ok, fitting_again, label_is, Label-some, Found, pieces_found, pieces_again}
use Rattle.dns_names.proofs.SpellingLaws.{made, SpellsPieces, cut_dot_alone, cut_spelled}

-- ---- absolute names

-- `.` and `@` alone, and no other text, have a meaning of their own
alone : (mark octet : ℕ) (rest : List ℕ) → eqb octet mark && is_empty rest ≡ true → octet ∷ rest ≡ mark ∷ []
alone mark octet rest h =
    let p = and_parts (eqb octet mark) (is_empty rest) h in
    let o = eqb-true octet mark p.0 in
    let r = nil_from_length rest (eqb-true (length rest) 0 p.1) in
    cc

-- any other text has none
not_alone : (mark octet : ℕ) (rest : List ℕ) → (octet ∷ rest ≡ mark ∷ [] → ⊥) → eqb octet mark && is_empty rest ≡ false
not_alone mark octet rest h = false_from_ne_true (eqb octet mark && is_empty rest) (λ e. h (alone mark octet rest e))

-- the root is a name
root_found : IsName []
root_found = record { labels = tt; short = omega arith }

-- labels that spell some octets are those of a name that is not the root
absolute_from_labels : (name : List (List ℕ)) (octet : ℕ) (rest : List ℕ) → SpellsLabels name (octet ∷ rest) → SpellsAbsolute name (octet ∷ rest)
absolute_from_labels [] octet rest h = absurd cc
absolute_from_labels (label ∷ labels) octet rest h = h

-- pieces with nothing after the last dot
ended_spells : (p : Pieces) (octet : ℕ) (rest : List ℕ) → SpellsPieces p (octet ∷ rest) → is_empty p.last ≡ true → SpellsAbsolute p.ended (octet ∷ rest)
ended_spells p octet rest s nothing =
    let last-is : p.last ≡ [] = nil_from_length p.last (eqb-true (length p.last) 0 nothing) in
    let back-is : s.back ≡ [] = subst (λ (l : List ℕ). SpellsLabel l s.back) last-is s.last in
    let front-is : octet ∷ rest ≡ s.front = s.parts ∙ ap (λ (t : List ℕ). s.front ++ t) back-is ∙ append-nil s.front in
    absolute_from_labels p.ended octet rest (subst (SpellsLabels p.ended) (sym front-is) s.labels)

-- an absolute text that is not the root
ended_found : (octet : ℕ) (rest : List ℕ) (name : List (List ℕ)) → IsBytes (octet ∷ rest) → ended_name (octet ∷ rest) ≡ Ok name → IsName name × SpellsAbsolute name (octet ∷ rest)
ended_found octet rest name bytes e =
    let b = bind_ok (pieces_of (octet ∷ rest)) ended name e in
    let f = pieces_found (octet ∷ rest) b.0 bytes b.1 in
    cond_both (is_empty b.0.last) (fitting b.0.ended) (Err NotAbsolute) (λ r. r ≡ Ok name → IsName name × SpellsAbsolute name (octet ∷ rest))
    (λ h k.
    let g = fitting_ok b.0.ended name k in
    subst (λ (n : List (List ℕ)). IsName n × SpellsAbsolute n (octet ∷ rest)) g.0 (record { labels = f.labels; short = g.1 }, ended_spells b.0 octet rest f.spelled h))
    (λ h k. absurd cc)
    b.2

-- an absolute name that is read is spelled
pub absolute_found : (text : List ℕ) (name : List (List ℕ)) → IsBytes text → absolute_name text ≡ Ok name → IsName name × SpellsAbsolute name text
absolute_found [] name bytes e = absurd cc
absolute_found (octet ∷ rest) name bytes e =
    cond_both (eqb octet 46 && is_empty rest) (Ok []) (ended_name (octet ∷ rest)) (λ r. r ≡ Ok name → IsName name × SpellsAbsolute name (octet ∷ rest))
    (λ h k. subst (λ (n : List (List ℕ)). IsName n × SpellsAbsolute n (octet ∷ rest)) (ok_is [] name k) (root_found, alone 46 octet rest h))
    (λ h k. ended_found octet rest name bytes k)
    e

-- labels that are no root are spelled by two octets at least
Labels-long : (label : List ℕ) (labels : List (List ℕ)) (octet : ℕ) (rest : List ℕ) → IsLabel label → SpellsLabels (label ∷ labels) (octet ∷ rest) → 0 < length rest
Labels-long label labels octet rest is h =
    let s = Label-some label h.0 h.3 is.not_empty in
    let l : suc (length rest) ≡ length (h.0 ++ 46 ∷ h.1) = ap length h.2 in
    omega (arith, l, s, length-append h.0 (46 ∷ h.1))

-- two octets are not one
not_alone_long : (mark octet : ℕ) (rest : List ℕ) → 0 < length rest → eqb octet mark && is_empty rest ≡ false
not_alone_long mark octet rest h = and_right (eqb octet mark) (is_empty rest) (ne_eqb (length rest) 0 (λ z. omega arith))

-- the pieces of labels with their dots
whole_pieces : (name : List (List ℕ)) (text : List ℕ) → IsName name → SpellsLabels name text → pieces_of text ≡ Ok (made name [])
whole_pieces name text is h = ap pieces_of (sym (append-nil text)) ∙ pieces_again name [] text [] is.labels (omega arith) h refl

-- what spells labels with their dots is read as them
ended_only : (name : List (List ℕ)) (text : List ℕ) → IsName name → SpellsLabels name text → ended_name text ≡ Ok name
ended_only name text is h = rw (whole_pieces name text is h) (fitting_again name is.short)

-- what spells an absolute name is read as it
pub absolute_only : (name : List (List ℕ)) (text : List ℕ) → IsName name → SpellsAbsolute name text → absolute_name text ≡ Ok name
absolute_only [] text is e = rw e refl
absolute_only (label ∷ labels) [] is h = absurd (let l : 0 ≡ length (h.0 ++ 46 ∷ h.1) = ap length h.2 in omega (arith, l, length-append h.0 (46 ∷ h.1)))
absolute_only (label ∷ labels) (octet ∷ rest) is h =
    let long = Labels-long label labels octet rest is.labels.0 h in
    rw (not_alone_long 46 octet rest long) (ended_only (label ∷ labels) (octet ∷ rest) is h)

-- ---- relative names

-- one more label after labels, with its dot
labels_push : (labels : List (List ℕ)) (last front back : List ℕ) → SpellsLabels labels front → SpellsLabel last back → SpellsLabels (labels ++ last ∷ []) ((front ++ back) ++ 46 ∷ [])
labels_push [] last front back h k = (back, [], ap (λ (t : List ℕ). (t ++ back) ++ 46 ∷ []) h, k, refl)
labels_push (label ∷ labels) last front back (here, there, parts, spelled, more) k =
    let others = labels_push labels last there back more k in
    (here, (there ++ back) ++ 46 ∷ [], ap (λ (t : List ℕ). (t ++ back) ++ 46 ∷ []) parts ∙ simp append_assoc, spelled, others)

-- labels and one more are some
pushed_not_nil : (labels : List (List ℕ)) (last : List ℕ) → labels ++ last ∷ [] ≢ []
pushed_not_nil [] last = λ e. cc
pushed_not_nil (label ∷ labels) last = λ e. cc

-- labels that fit are a name
wire_len-short : (labels : List (List ℕ)) → wire_len labels ≤ 255 → AllByRecursion IsLabel labels → IsName labels
wire_len-short labels short are = record { labels = are; short = short }

-- pieces with a label after the last dot
placed_spells : (origin : List (List ℕ)) (p : Pieces) (text : List ℕ) → SpellsPieces p text → text ≢ 64 ∷ [] → SpellsRelative origin (p.ended ++ p.last ∷ origin) text
placed_spells origin p text s other =
    let labels = labels_push p.ended p.last s.front s.back s.labels s.last in
    inr (inr (p.ended ++ p.last ∷ [], other, pushed_not_nil p.ended p.last, sym (append_assoc p.ended (p.last ∷ []) origin), subst (λ (t : List ℕ). SpellsLabels (p.ended ++ p.last ∷ []) (t ++ 46 ∷ [])) (sym s.parts) labels))

-- they are labels
placed_labels : (origin : List (List ℕ)) (p : Pieces) (text : List ℕ) → IsName origin → Found p text → is_empty p.last ≡ false → AllByRecursion IsLabel (p.ended ++ p.last ∷ origin)
placed_labels origin p text is f some = All-both IsLabel p.ended (p.last ∷ origin) f.labels (label_is p.last f.spelled.back f.spelled.last some f.last_short, is.labels)

-- a relative text that is no mark alone
placed_found : (origin : List (List ℕ)) (octet : ℕ) (rest : List ℕ) (name : List (List ℕ)) → IsName origin → IsBytes (octet ∷ rest) → octet ∷ rest ≢ 64 ∷ [] → placed_name origin (octet ∷ rest) ≡ Ok name → IsName name × SpellsRelative origin name (octet ∷ rest)
placed_found origin octet rest name is bytes other e =
    let b = bind_ok (pieces_of (octet ∷ rest)) (λ p. fitting (placed origin p)) name e in
    let f = pieces_found (octet ∷ rest) b.0 bytes b.1 in
    let g = fitting_ok (placed origin b.0) name b.2 in
    subst (λ (n : List (List ℕ)). IsName n × SpellsRelative origin n (octet ∷ rest)) g.0
    (cond_both (is_empty b.0.last) b.0.ended (b.0.ended ++ b.0.last ∷ origin) (λ n. wire_len n ≤ 255 → IsName n × SpellsRelative origin n (octet ∷ rest))
    (λ h short. (wire_len-short b.0.ended short f.labels, inl (ended_spells b.0 octet rest f.spelled h)))
    (λ h short. (wire_len-short (b.0.ended ++ b.0.last ∷ origin) short (placed_labels origin b.0 (octet ∷ rest) is f h), placed_spells origin b.0 (octet ∷ rest) f.spelled other))
    g.1)

-- what is no mark alone
other_text : (mark octet : ℕ) (rest : List ℕ) → eqb octet mark && is_empty rest ≡ false → octet ∷ rest ≢ mark ∷ []
other_text mark octet rest h e =
    let o : octet ≡ mark = cc in
    let r : rest ≡ [] = cc in
    both_ways (eqb octet mark && is_empty rest) h (and_from (eqb octet mark) (is_empty rest) (eq-eqb octet mark o) (eq-eqb (length rest) 0 (ap length r)))

-- a relative name that is read is spelled
pub relative_found : (origin : List (List ℕ)) (text : List ℕ) (name : List (List ℕ)) → IsName origin → IsBytes text → relative_name origin text ≡ Ok name → IsName name × SpellsRelative origin name text
relative_found origin [] name is bytes e = absurd cc
relative_found origin (octet ∷ rest) name is bytes e =
    cond_both (eqb octet 46 && is_empty rest) (Ok []) (cond (eqb octet 64 && is_empty rest) (Ok origin) (placed_name origin (octet ∷ rest))) (λ r. r ≡ Ok name → IsName name × SpellsRelative origin name (octet ∷ rest))
    (λ h k. subst (λ (n : List (List ℕ)). IsName n × SpellsRelative origin n (octet ∷ rest)) (ok_is [] name k) (root_found, inl (alone 46 octet rest h)))
    (λ h. cond_both (eqb octet 64 && is_empty rest) (Ok origin) (placed_name origin (octet ∷ rest)) (λ r. r ≡ Ok name → IsName name × SpellsRelative origin name (octet ∷ rest))
    (λ m k. subst (λ (n : List (List ℕ)). IsName n × SpellsRelative origin n (octet ∷ rest)) (ok_is origin name k) (is, inr (inl (alone 64 octet rest m, refl))))
    (λ m k. placed_found origin octet rest name is bytes (other_text 64 octet rest m) k))
    e

-- ---- what a text spells relative to an origin is read

-- labels with their dots, by the last of them and the text before its dot
pub record EndsIn (labels : List (List ℕ)) (text : List ℕ) : Type 0 where
  pub init : List (List ℕ)
  pub last : List ℕ
  pub front : List ℕ
  pub back : List ℕ
  pub whole : labels ≡ init ++ last ∷ []
  pub parts : text ≡ (front ++ back) ++ 46 ∷ []
  pub init_spelled : SpellsLabels init front
  pub last_spelled : SpellsLabel last back

-- some labels end in one
ends_in : (label : List ℕ) (labels : List (List ℕ)) (text : List ℕ) → SpellsLabels (label ∷ labels) text → EndsIn (label ∷ labels) text
ends_in label [] text h = record {
  init = [];
  last = label;
  front = [];
  back = h.0;
  whole = refl;
  parts = h.2 ∙ ap (λ (t : List ℕ). h.0 ++ 46 ∷ t) h.4;
  init_spelled = refl;
  last_spelled = h.3;
}
ends_in label (next ∷ labels) text h =
    let e = ends_in next labels h.1 h.4 in
    record {
      init = label ∷ e.init;
      last = e.last;
      front = h.0 ++ 46 ∷ e.front;
      back = e.back;
      whole = ap (λ (ls : List (List ℕ)). label ∷ ls) e.whole;
      parts = h.2 ∙ ap (λ (t : List ℕ). h.0 ++ 46 ∷ t) e.parts ∙ simp append_assoc;
      init_spelled = (h.0, e.front, refl, h.3, e.init_spelled);
      last_spelled = e.last_spelled;
    }

-- an absolute spelling that is not the root, read relative to an origin
absolute_placed : (origin : List (List ℕ)) (label : List ℕ) (labels : List (List ℕ)) (octet : ℕ) (rest : List ℕ) → IsName (label ∷ labels) → SpellsLabels (label ∷ labels) (octet ∷ rest) → relative_name origin (octet ∷ rest) ≡ Ok (label ∷ labels)
absolute_placed origin label labels octet rest is h =
    let long = Labels-long label labels octet rest is.labels.0 h in
    rw (not_alone_long 46 octet rest long, not_alone_long 64 octet rest long, whole_pieces (label ∷ labels) (octet ∷ rest) is h) (fitting_again (label ∷ labels) is.short)

-- a text that ends in a label is not `.`
no_dot_alone : (init : List (List ℕ)) (last front back text : List ℕ) → 0 < length last → text ≡ front ++ back → SpellsLabels init front → SpellsLabel last back → text ≡ 46 ∷ [] → ⊥
no_dot_alone init last front back text some parts h k e =
    let same : Ok (made init last) ≡ Ok (made ([] ∷ []) []) = sym (cut_spelled init last front back h k) ∙ ap cut (sym parts ∙ e) ∙ cut_dot_alone in
    let nothing : last ≡ [] = ap (λ (p : Pieces). p.last) (ok_is (made init last) (made ([] ∷ []) []) same) in
    let none : length last ≡ 0 = ap length nothing in
    omega arith

-- labels without their last dot are read before those of the origin
placed_only : (origin init : List (List ℕ)) (last front back text : List ℕ) → IsName (init ++ last ∷ origin) → text ≡ front ++ back → SpellsLabels init front → SpellsLabel last back → text ≢ 64 ∷ [] → relative_name origin text ≡ Ok (init ++ last ∷ origin)
placed_only origin init last front back [] is parts h k other =
    let are = All-parts IsLabel init (last ∷ origin) is.labels in
    let some = Label-some last back k are.1.0.not_empty in
    let none : 0 ≡ length (front ++ back) = ap length parts in
    absurd (omega (arith, none, some, length-append front back))
placed_only origin init last front back (octet ∷ rest) is parts h k other =
    let are = All-parts IsLabel init (last ∷ origin) is.labels in
    let some = are.1.0.not_empty in
    let cut_up : pieces_of (octet ∷ rest) ≡ Ok (made init last) = ap pieces_of parts ∙ pieces_again init last front back are.0 are.1.0.short h k in
    let no_dot = not_alone 46 octet rest (no_dot_alone init last front back (octet ∷ rest) some parts h k) in
    let no_at = not_alone 64 octet rest other in
    let full : is_empty last ≡ false = ne_eqb (length last) 0 (λ z. omega arith) in
    rw (no_dot, no_at, cut_up, full) (fitting_again (init ++ last ∷ origin) is.short)

-- and so where they are spelled with that dot
without_dot_only : (origin labels name : List (List ℕ)) (text : List ℕ) → IsName name → text ≢ 64 ∷ [] → labels ≢ [] → name ≡ labels ++ origin → SpellsLabels labels (text ++ 46 ∷ []) → relative_name origin text ≡ Ok name
without_dot_only origin [] name text is other some whole h = absurd (some refl)
without_dot_only origin (label ∷ labels) name text is other some whole h =
    let e = ends_in label labels (text ++ 46 ∷ []) h in
    let parts = (same_from_push text (e.front ++ e.back) 46 46 e.parts).0 in
    let name-is : name ≡ e.init ++ e.last ∷ origin = whole ∙ ap (λ (ls : List (List ℕ)). ls ++ origin) e.whole ∙ append_assoc e.init (e.last ∷ []) origin in
    placed_only origin e.init e.last e.front e.back text (subst IsName name-is is) parts e.init_spelled e.last_spelled other ∙ ap (λ (n : List (List ℕ)). Ok n) (sym name-is)

-- an absolute spelling, read relative to an origin
absolute_relative : (origin name : List (List ℕ)) (text : List ℕ) → IsName name → SpellsAbsolute name text → relative_name origin text ≡ Ok name
absolute_relative origin [] text is e = rw e refl
absolute_relative origin (label ∷ labels) [] is h = absurd (let l : 0 ≡ length (h.0 ++ 46 ∷ h.1) = ap length h.2 in omega (arith, l, length-append h.0 (46 ∷ h.1)))
absolute_relative origin (label ∷ labels) (octet ∷ rest) is h = absolute_placed origin label labels octet rest is h

-- what spells a name relative to an origin is read as it
pub relative_only : (origin name : List (List ℕ)) (text : List ℕ) → IsName origin → IsName name → SpellsRelative origin name text → relative_name origin text ≡ Ok name
relative_only origin name text of is (inl h) = absolute_relative origin name text is h
relative_only origin name text of is (inr (inl h)) = rw (h.0, h.1) refl
relative_only origin name text of is (inr (inr (labels, other, some, whole, h))) = without_dot_only origin labels name text is other some whole h

-- ---- what is printed

-- what is special is no digit
special_no_digit : (o : ℕ) → o < 256 → is_special o ≡ true → is_ascii_digit o ≡ false
special_no_digit o h s =
    let no_both : is_special o && is_ascii_digit o ≡ false = agree_below_at (λ n. is_special n && is_ascii_digit n) (λ n. false) 256 o refl h in
    false_from_ne_true (is_ascii_digit o) (λ d. both_ways (is_special o && is_ascii_digit o) no_both (and_from (is_special o) (is_ascii_digit o) s d))

-- what is not special is no mark
not_special : (mark o : ℕ) → is_special mark ≡ true → is_special o ≡ false → o ≢ mark
not_special mark o m s e = both_ways (is_special o) s (ap is_special e ∙ m)

-- the printed octet spells it
pub octet_text_spells : (o : ℕ) → o < 256 → SpellsOctet o (octet_text o)
octet_text_spells o h =
    cond_both (is_special o) (92 ∷ o ∷ []) (cond (leb 33 o && leb o 126) (o ∷ []) (92 ∷ three_digits o)) (SpellsOctet o)
    (λ s. inr (inl (special_no_digit o h s, refl)))
    (λ s. cond_both (leb 33 o && leb o 126) (o ∷ []) (92 ∷ three_digits o) (SpellsOctet o)
    (λ p. inl (not_special 46 o refl s, not_special 92 o refl s, refl))
    (λ p. inr (inr (h, refl))))

-- the printed octets of a label spell it
octets_text_spells : (label : List ℕ) → AllByRecursion IsFolded label → SpellsLabel label (flat_map octet_text label)
octets_text_spells [] h = refl
octets_text_spells (octet ∷ octets) h = (octet_text octet, flat_map octet_text octets, refl, (octet, h.0.below, h.0.folded, octet_text_spells octet h.0.below), octets_text_spells octets h.1)

-- the printed labels spell them
pub labels_text_spells : (name : List (List ℕ)) → AllByRecursion IsLabel name → SpellsLabels name (flat_map label_text name)
labels_text_spells [] h = refl
labels_text_spells (label ∷ labels) h = (flat_map octet_text label, flat_map label_text labels, append_assoc (flat_map octet_text label) (46 ∷ []) (flat_map label_text labels), octets_text_spells label h.0.octets, labels_text_spells labels h.1)

-- the printed name spells it
pub text_spells : (name : List (List ℕ)) → IsName name → SpellsAbsolute name (name_text name)
text_spells [] is = refl
text_spells (label ∷ labels) is = labels_text_spells (label ∷ labels) is.labels

-- what is printed is read again
pub absolute_again : (name : List (List ℕ)) → IsName name → absolute_name (name_text name) ≡ Ok name
absolute_again name is = absolute_only name (name_text name) is (text_spells name is)
