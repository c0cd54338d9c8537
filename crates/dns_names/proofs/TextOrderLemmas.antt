-- The order of names by their texts: the first label that differs decides, and in it the first octet.
use Rattle.std.proofs.Common.{◌≡◌, ◌≢◌, ℕ, ◌<◌, inl, inr, Bool, true, false, List, [], ◌∷◌, ◌++◌, nat_eq, Ok, refl, sym, ap, subst, ◌∙◌, append_assoc, append-nil}
use Rattle.std.specs.List.{flat_map, AllByRecursion}
use Rattle.std.specs.declared.cmp.Ordering.{Ordering}
use Rattle.std.specs.declared.cmp.Ordering.TheVariants.{Less, Equal, Greater}
use Rattle.std.specs.Ordering.{nat_cmp, ordering_then, is_eq}
use lib.Pointwise.{pointwise}
use Rattle.std.specs.Cmp.{tied_itself}
use Rattle.std.specs.Cmp.Lexicographic.{slice_cmp, nat_list_cmp_total}
use Rattle.std.proofs.lemmas.Bool.{both_ways}
use Rattle.std.proofs.lemmas.Bool.Decides.{eqb_tells}
use Rattle.std.proofs.lemmas.List.{append_cancel_left}
use Rattle.std.proofs.lemmas.Slice.Eq.{bytes_eq-Decides}
use Rattle.dns_names.specs.declared.symbol.Symbol.{Symbol}
use Rattle.dns_names.specs.declared.symbol.Symbol.TheVariants.{Dot, Octet}
use Rattle.dns_names.specs.Labels.{IsFolded, IsLabel}
use Rattle.dns_names.specs.Spelling.{octet_text, label_text}
use Rattle.dns_names.specs.Reading.{symbol_at}
use Rattle.dns_names.proofs.SymbolLaws.{symbol_again, ok_is}
use Rattle.dns_names.proofs.KeyLaws.{three, tied, octets_exact}
use Rattle.dns_names.proofs.ReadingLaws.{octet_text_spells}

abbrev AreOctets : List ℕ → Type 0
AreOctets octets = AllByRecursion (λ o. o < 256) octets

abbrev by_octets : List ℕ → List ℕ → Ordering
by_octets = slice_cmp nat_cmp

-- ---- rows that part

-- two rows no ends of which make them one: what stands after them does not count
pub parted : (x y u v : List ℕ) → ((s t : List ℕ) → x ++ s ≡ y ++ t → ⊥) → by_octets (x ++ u) (y ++ v) ≡ by_octets x y
parted [] y u v part = absurd (part y [] (sym (append-nil y)))
parted (a ∷ x) [] u v part = absurd (part [] (a ∷ x) (append-nil (a ∷ x)))
parted (a ∷ x) (b ∷ y) u v part =
    elim (three a b) [
      | inl l ↦ rw l.0 refl
      | inr s ↦ elim s [
        | inl e ↦ rw (e, tied b) (parted x y u v (λ s t f. part s t (ap (λ (n : ℕ). n ∷ (x ++ s)) e ∙ ap (λ (l : List ℕ). b ∷ l) f)))
        | inr g ↦ rw g.0 refl
      ]
    ]

-- and they are not one
parted_differ : (x y : List ℕ) → ((s t : List ℕ) → x ++ s ≡ y ++ t → ⊥) → by_octets x y ≢ Equal
parted_differ x y part e = part [] [] (ap (λ (l : List ℕ). l ++ []) (octets_exact x y e))

-- equal octets leave it to those after them
pub tied_front : (front u v : List ℕ) → by_octets (front ++ u) (front ++ v) ≡ by_octets u v
tied_front [] u v = refl
tied_front (o ∷ front) u v = rw (tied o) (tied_front front u v)

then_first : (r o : Ordering) → r ≢ Equal → ordering_then r o ≡ r
then_first Less o differ = refl
then_first Equal o differ = absurd (differ refl)
then_first Greater o differ = refl

-- ---- rows that are printed octet by octet, with a last octet after them

module _ (text : ℕ → List ℕ) (last : ℕ) (octets_part : (a b : ℕ) → a < 256 → b < 256 → a ≢ b → (s t : List ℕ) → text a ++ s ≡ text b ++ t → ⊥) (last_parts : (b : ℕ) → b < 256 → (s t : List ℕ) → last ∷ s ≡ text b ++ t → ⊥) where
  abbrev printed : List ℕ → List ℕ
  printed octets = flat_map text octets ++ last ∷ []

  -- the first octet that differs decides
  octets_decide : (a b : ℕ) (x y : List ℕ) → a < 256 → b < 256 → a ≢ b → by_octets (printed (a ∷ x)) (printed (b ∷ y)) ≡ by_octets (text a) (text b)
  octets_decide a b x y fits also differ =
      rw (append_assoc (text a) (flat_map text x) (last ∷ []), append_assoc (text b) (flat_map text y) (last ∷ []))
      (parted (text a) (text b) (printed x) (printed y) (octets_part a b fits also differ))

  end_decides : (b : ℕ) (y : List ℕ) → b < 256 → by_octets (printed []) (printed (b ∷ y)) ≡ by_octets (last ∷ []) (text b)
  end_decides b y fits =
      rw (append_assoc (text b) (flat_map text y) (last ∷ [])) (parted (last ∷ []) (text b) [] (printed y) (last_parts b fits))

  end_decides_first : (a : ℕ) (x : List ℕ) → a < 256 → by_octets (printed (a ∷ x)) (printed []) ≡ by_octets (text a) (last ∷ [])
  end_decides_first a x fits =
      rw (append_assoc (text a) (flat_map text x) (last ∷ [])) (parted (text a) (last ∷ []) (printed x) [] (λ s t e. last_parts a fits t s (sym e)))

  octet_passes : (a : ℕ) (x y : List ℕ) → by_octets (printed (a ∷ x)) (printed (a ∷ y)) ≡ by_octets (printed x) (printed y)
  octet_passes a x y =
      rw (append_assoc (text a) (flat_map text x) (last ∷ []), append_assoc (text a) (flat_map text y) (last ∷ [])) (tied_front (text a) (printed x) (printed y))

  printed_cons : (o : ℕ) (octets rest : List ℕ) → printed (o ∷ octets) ++ rest ≡ text o ++ (printed octets ++ rest)
  printed_cons o octets rest =
      ap (λ (l : List ℕ). l ++ rest) (append_assoc (text o) (flat_map text octets) (last ∷ [])) ∙ append_assoc (text o) (printed octets) rest

  -- the texts of two rows part, unless the rows are one
  rows_part : (x y : List ℕ) → AreOctets x → AreOctets y → x ≢ y → (s t : List ℕ) → printed x ++ s ≡ printed y ++ t → ⊥
  rows_part [] [] fits also differ s t e = differ refl
  rows_part [] (b ∷ y) fits also differ s t e = last_parts b also.0 s (printed y ++ t) (e ∙ printed_cons b y t)
  rows_part (a ∷ x) [] fits also differ s t e = last_parts a fits.0 t (printed x ++ s) (sym e ∙ printed_cons a x s)
  rows_part (a ∷ x) (b ∷ y) fits also differ s t e =
      let parts : text a ++ (printed x ++ s) ≡ text b ++ (printed y ++ t) = sym (printed_cons a x s) ∙ e ∙ printed_cons b y t in
      elim (eqb_tells a b) [
        | inl same ↦
            let rest : printed x ++ s ≡ printed y ++ t = append_cancel_left (text b) (printed x ++ s) (printed y ++ t) (ap (λ (n : ℕ). text n ++ (printed x ++ s)) (sym same.1) ∙ parts) in
            rows_part x y fits.1 also.1 (λ f. differ (ap (λ (n : ℕ). n ∷ x) same.1 ∙ ap (λ (l : List ℕ). b ∷ l) f)) s t rest
        | inr other ↦ octets_part a b fits.0 also.0 other.1 (printed x ++ s) (printed y ++ t) parts
      ]

  -- the order of the first rows' texts decides, unless they are one
  pub rows_then : (x y s t : List ℕ) → AreOctets x → AreOctets y → by_octets (printed x ++ s) (printed y ++ t) ≡ ordering_then (by_octets (printed x) (printed y)) (by_octets s t)
  rows_then x y s t fits also = by (pointwise nat_eq x y) refl
    where
      by : (b : Bool) → pointwise nat_eq x y ≡ b → by_octets (printed x ++ s) (printed y ++ t) ≡ ordering_then (by_octets (printed x) (printed y)) (by_octets s t)
      by true e =
          let same : printed x ≡ printed y = ap printed ((bytes_eq-Decides x y).0 e) in
          rw (same, tied_itself nat_list_cmp_total (printed y)) (tied_front (printed y) s t)
      by false e =
          let part = rows_part x y fits also (λ f. both_ways (pointwise nat_eq x y) e ((bytes_eq-Decides x y).1 f)) in
          parted (printed x) (printed y) s t part ∙ sym (then_first (by_octets (printed x) (printed y)) (by_octets s t) (parted_differ (printed x) (printed y) part))

  -- what the code that compares two rows answers
  module _ (first second ours theirs : List ℕ) (so_far : by_octets (printed ours) (printed theirs) ≡ by_octets (printed first) (printed second)) where
    pub first_ended : (b : ℕ) (y : List ℕ) → ours ≡ [] → theirs ≡ b ∷ y → b < 256 → by_octets (last ∷ []) (text b) ≡ by_octets (printed first) (printed second)
    first_ended b y none some fits = sym (end_decides b y fits) ∙ ap (λ (l : List ℕ). by_octets (printed l) (printed (b ∷ y))) (sym none) ∙ ap (λ (l : List ℕ). by_octets (printed ours) (printed l)) (sym some) ∙ so_far

    pub second_ended : (a : ℕ) (x : List ℕ) → ours ≡ a ∷ x → theirs ≡ [] → a < 256 → by_octets (text a) (last ∷ []) ≡ by_octets (printed first) (printed second)
    second_ended a x some none fits = sym (end_decides_first a x fits) ∙ ap (λ (l : List ℕ). by_octets (printed l) (printed [])) (sym some) ∙ ap (λ (l : List ℕ). by_octets (printed ours) (printed l)) (sym none) ∙ so_far

    module _ (a b : ℕ) (x y : List ℕ) (first_is : ours ≡ a ∷ x) (second_is : theirs ≡ b ∷ y) where
      both_are : by_octets (printed (a ∷ x)) (printed (b ∷ y)) ≡ by_octets (printed first) (printed second)
      both_are = ap (λ (l : List ℕ). by_octets (printed l) (printed (b ∷ y))) (sym first_is) ∙ ap (λ (l : List ℕ). by_octets (printed ours) (printed l)) (sym second_is) ∙ so_far

      pub differ_here : a < 256 → b < 256 → a ≢ b → by_octets (text a) (text b) ≡ by_octets (printed first) (printed second)
      differ_here fits also differ = sym (octets_decide a b x y fits also differ) ∙ both_are

      pub same_here : a ≡ b → by_octets (printed x) (printed y) ≡ by_octets (printed first) (printed second)
      same_here same = sym (octet_passes a x y) ∙ ap (λ (n : ℕ). by_octets (printed (a ∷ x)) (printed (n ∷ y))) same ∙ both_are

-- ---- labels

octet_reads : (o : ℕ) (rest : List ℕ) → o < 256 → symbol_at (octet_text o ++ rest) ≡ Ok (Octet o, rest)
octet_reads o rest fits = symbol_again (Octet o) (octet_text o) rest (octet_text_spells o fits)

same_octet : (a b : ℕ) (x y : Symbol × List ℕ) → x ≡ y → x.0 ≡ Octet a → y.0 ≡ Octet b → a ≡ b
same_octet a b x y e first second = let symbols : Octet a ≡ Octet b = sym first ∙ ap (λ (x : Symbol × List ℕ). x.0) e ∙ second in cc

no_octet : (b : ℕ) (x y : Symbol × List ℕ) → x ≡ y → x.0 ≡ Dot → y.0 ≡ Octet b → ⊥
no_octet b x y e first second = let symbols : Dot ≡ Octet b = sym first ∙ ap (λ (x : Symbol × List ℕ). x.0) e ∙ second in absurd cc

-- the texts of two octets part
pub octets_part : (a b : ℕ) → a < 256 → b < 256 → a ≢ b → (s t : List ℕ) → octet_text a ++ s ≡ octet_text b ++ t → ⊥
octets_part a b fits also differ s t e = differ (same_octet a b (Octet a, s) (Octet b, t) (ok_is (Octet a, s) (Octet b, t) (sym (octet_reads a s fits) ∙ ap symbol_at e ∙ octet_reads b t also)) refl refl)

-- and no octet's begins as a dot does
pub dot_parts : (b : ℕ) → b < 256 → (s t : List ℕ) → 46 ∷ s ≡ octet_text b ++ t → ⊥
dot_parts b fits s t e = no_octet b (Dot, s) (Octet b, t) (ok_is (Dot, s) (Octet b, t) (ap symbol_at e ∙ octet_reads b t fits)) refl refl

pub labels_then : (x y s t : List ℕ) → AreOctets x → AreOctets y → by_octets (label_text x ++ s) (label_text y ++ t) ≡ ordering_then (by_octets (label_text x) (label_text y)) (by_octets s t)
labels_then = rows_then octet_text 46 octets_part dot_parts

-- ---- what the code that compares names answers

octets_of : (label : List ℕ) → AllByRecursion IsFolded label → AreOctets label
octets_of [] folded = tt
octets_of (o ∷ label) folded = (folded.0.below, octets_of label folded.1)

before_text : (label rest : List ℕ) → by_octets [] (label_text label ++ rest) ≡ Less
before_text label rest = by (flat_map octet_text label)
  where
    by : (text : List ℕ) → by_octets [] ((text ++ 46 ∷ []) ++ rest) ≡ Less
    by [] = refl
    by (o ∷ text) = refl

behind_nothing : (label rest : List ℕ) → by_octets (label_text label ++ rest) [] ≡ Greater
behind_nothing label rest = by (flat_map octet_text label)
  where
    by : (text : List ℕ) → by_octets ((text ++ 46 ∷ []) ++ rest) [] ≡ Greater
    by [] = refl
    by (o ∷ text) = refl

abbrev pub labels_order : List (List ℕ) → List (List ℕ) → Ordering
labels_order ours theirs = by_octets (flat_map label_text ours) (flat_map label_text theirs)

module _ (order whole : Ordering) (ours theirs : List (List ℕ)) (so_far : ordering_then order (labels_order ours theirs) ≡ whole) (even : order ≡ Equal) where
  left_decides : labels_order ours theirs ≡ whole
  left_decides = ap (λ (o : Ordering). ordering_then o (labels_order ours theirs)) (sym even) ∙ so_far

  pub ours_ended : (their : List ℕ) (theirs' : List (List ℕ)) → ours ≡ [] → theirs ≡ their ∷ theirs' → Less ≡ whole
  ours_ended their theirs' none some =
      sym (before_text their (flat_map label_text theirs')) ∙ ap (λ (l : List (List ℕ)). labels_order [] l) (sym some) ∙ ap (λ (l : List (List ℕ)). labels_order l theirs) (sym none) ∙ left_decides

  pub theirs_ended : (our : List ℕ) (ours' : List (List ℕ)) → ours ≡ our ∷ ours' → theirs ≡ [] → Greater ≡ whole
  theirs_ended our ours' some none =
      sym (behind_nothing our (flat_map label_text ours')) ∙ ap (λ (l : List (List ℕ)). labels_order l []) (sym some) ∙ ap (λ (l : List (List ℕ)). labels_order ours l) (sym none) ∙ left_decides

  pub label_passes : (our their : List ℕ) (ours' theirs' : List (List ℕ)) → ours ≡ our ∷ ours' → theirs ≡ their ∷ theirs' → AllByRecursion IsLabel ours → AllByRecursion IsLabel theirs → AllByRecursion IsLabel ours' × AllByRecursion IsLabel theirs' × (ordering_then (by_octets (label_text our) (label_text their)) (labels_order ours' theirs') ≡ whole)
  label_passes our their ours' theirs' some also labels labels' =
      let all = subst (λ (l : List (List ℕ)). AllByRecursion IsLabel l) some labels in
      let all' = subst (λ (l : List (List ℕ)). AllByRecursion IsLabel l) also labels' in (
        all.1,
        all'.1,
        sym (labels_then our their (flat_map label_text ours') (flat_map label_text theirs') (octets_of our all.0.octets) (octets_of their all'.0.octets))
            ∙ ap (λ (l : List (List ℕ)). labels_order (our ∷ ours') l) (sym also) ∙ ap (λ (l : List (List ℕ)). labels_order l theirs) (sym some) ∙ left_decides,
      )

pub was_even : (order : Ordering) (answer : Bool) → answer ≡ is_eq order → answer ≡ true → order ≡ Equal
was_even Less answer e test = absurd cc
was_even Equal answer e test = refl
was_even Greater answer e test = absurd cc
