-- The order of texts of strings: the first string that differs decides, and in it the first octet.
use Rattle.std.proofs.Common.{◌≡◌, ◌≢◌, ℕ, ◌<◌, ◌||◌, ◌&&◌, eqb, leb, cond, List, [], ◌∷◌, ◌++◌, refl, sym, ap, ◌∙◌}
use Rattle.std.specs.List.{flat_map}
use Rattle.std.specs.declared.cmp.Ordering.{Ordering}
use Rattle.std.specs.declared.cmp.Ordering.TheVariants.{Equal}
use Rattle.std.specs.Ordering.{ordering_then}
use Rattle.std.proofs.lemmas.Bool.{cond_both, or_parts, eqb-false}
use Rattle.dns_names.specs.declared.symbol.Symbol.{Symbol}
use Rattle.dns_names.specs.Reading.{symbol_at}
use Rattle.dns_names.specs.Spelling.{three_digits}
use Rattle.dns_names.proofs.KeyLaws.{tied}
use Rattle.dns_names.proofs.SymbolLaws.{symbol_again, ok_is}
use Rattle.dns_names.proofs.TextOrderLemmas.{rows_then}
use Rattle.dns_data.specs.Items.{items_text}
use Rattle.dns_data.specs.Strings.{IsString, octet_text, string_text, symbol_octet}
use Rattle.dns_data.specs.Text.{strings_items}
use Rattle.dns_data.proofs.OrderLemmas.{by_octets}
use Rattle.dns_data.proofs.StringLaws.{symbol_of, octet_text_spells}
use Rattle.dns_data.proofs.TextLemmas.{behind, strings_text}

-- ---- octets

-- the texts of two octets part
pub octets_part : (a b : ℕ) → a < 256 → b < 256 → a ≢ b → (s t : List ℕ) → octet_text a ++ s ≡ octet_text b ++ t → ⊥
octets_part a b fits also differ s t e =
    let one = symbol_of a (octet_text a) (octet_text_spells a fits) in
    let other = symbol_of b (octet_text b) (octet_text_spells b also) in
    let same : (one.symbol, s) ≡ (other.symbol, t) = ok_is (one.symbol, s) (other.symbol, t) (sym (symbol_again one.symbol (octet_text a) s one.spelled) ∙ ap symbol_at e ∙ symbol_again other.symbol (octet_text b) t other.spelled) in
    differ (sym one.same ∙ ap (λ (x : Symbol × List ℕ). symbol_octet x.0) same ∙ other.same)

-- and no octet's begins with a quote
pub quote_parts : (b : ℕ) → b < 256 → (s t : List ℕ) → 34 ∷ s ≡ octet_text b ++ t → ⊥
quote_parts b fits s t =
    cond_both (eqb b 34 || eqb b 92) (92 ∷ b ∷ []) (cond (leb 32 b && leb b 126) (b ∷ []) (92 ∷ three_digits b)) Parts
    (λ special e. absurd cc)
    (λ plain. cond_both (leb 32 b && leb b 126) (b ∷ []) (92 ∷ three_digits b) Parts
    (λ shown e. eqb-false b 34 (or_parts (eqb b 34) (eqb b 92) plain).0 cc)
    (λ hidden e. absurd cc))
  where
    Parts : List ℕ → Type 0
    Parts text = 34 ∷ s ≡ text ++ t → ⊥

-- ---- strings in turn

abbrev pub strings_order : List (List ℕ) → List (List ℕ) → Ordering
strings_order ours theirs = by_octets (flat_map behind ours) (flat_map behind theirs)

abbrev ended : List ℕ → List ℕ
ended string = string_text string ++ 34 ∷ []

-- the order of the first strings' texts decides, unless they are one
first_decides : (x y : List ℕ) (xs ys : List (List ℕ)) → IsString x → IsString y → strings_order (x ∷ xs) (y ∷ ys) ≡ ordering_then (by_octets (ended x) (ended y)) (strings_order xs ys)
first_decides x y xs ys is also = rw (tied 32, tied 34) (rows_then octet_text 34 octets_part quote_parts x y (flat_map behind xs) (flat_map behind ys) is.octets also.octets)

-- and so the order of the texts of all
pub texts_order : (xs ys : List (List ℕ)) → by_octets (items_text (strings_items xs)) (items_text (strings_items ys)) ≡ strings_order xs ys
texts_order [] [] = refl
texts_order [] (y ∷ ys) = rw (sym (strings_text y ys)) refl
texts_order (x ∷ xs) [] = rw (sym (strings_text x xs)) refl
texts_order (x ∷ xs) (y ∷ ys) = rw (sym (strings_text x xs), sym (strings_text y ys), tied 32) refl

-- ---- what the code that compares strings answers

module _ (order whole : Ordering) (ours theirs : List (List ℕ)) (so_far : ordering_then order (strings_order ours theirs) ≡ whole) (even : order ≡ Equal) where
  left_decides : strings_order ours theirs ≡ whole
  left_decides = ap (λ (o : Ordering). ordering_then o (strings_order ours theirs)) (sym even) ∙ so_far

  pub string_passes : (our their : List ℕ) (ours' theirs' : List (List ℕ)) → ours ≡ our ∷ ours' → theirs ≡ their ∷ theirs' → IsString our → IsString their → ordering_then (by_octets (ended our) (ended their)) (strings_order ours' theirs') ≡ whole
  string_passes our their ours' theirs' some also is is' =
      sym (first_decides our their ours' theirs' is is') ∙ ap (λ (l : List (List ℕ)). strings_order (our ∷ ours') l) (sym also) ∙ ap (λ (l : List (List ℕ)). strings_order l theirs) (sym some) ∙ left_decides
