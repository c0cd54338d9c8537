-- The order of the texts of IPv4 addresses: the first numbers that differ decide.
use Rattle.std.proofs.Common.{◌≡◌, ◌≢◌, ℕ, ◌<◌, ◌^◌, false, List, ◌∷◌, ◌++◌, append_assoc, sym, ap, ◌∙◌, arith}
use Rattle.std.specs.Prelude.{decimal}
use Rattle.std.specs.List.{AllByRecursion}
use Rattle.std.specs.Fmt.{digit_glyph}
use Rattle.std.specs.Net.Text.{dotted_text}
use Rattle.std.specs.declared.cmp.Ordering.TheVariants.{Equal}
use Rattle.std.specs.Ordering.{ordering_then}
use Rattle.std.specs.Cmp.{tied_itself}
use Rattle.std.specs.Cmp.Lexicographic.{nat_list_cmp_total}
use Rattle.std.specs.Str.Parse.{digits_value}
use Rattle.std.proofs.lemmas.Bool.Decides.{nat_tests}
use Rattle.std.proofs.lemmas.Fmt.{decimal_is_IsNumeral}
use Rattle.std.proofs.lemmas.List.Elements.{recursion_from_All}
use Rattle.dns_names.proofs.KeyLaws.{octets_exact}
use Rattle.dns_data.proofs.CutLemmas.{decimal_holds}
use Rattle.dns_data.proofs.OrderLemmas.{by_octets, decided, tied_then, above_then}

-- ---- numbers

abbrev IsAbove : ℕ → Type 0
IsAbove o = 46 < o

glyph_above : (d : ℕ) → IsAbove (digit_glyph false d)
glyph_above d = grind (arith, nat_tests)

-- digits are after the dot
digits_above : (n : ℕ) → AllByRecursion IsAbove (decimal n)
digits_above n = recursion_from_All IsAbove (decimal n) (decimal_holds IsAbove glyph_above n)

-- numbers that differ have texts that differ
texts_differ : (m n : ℕ) → m < 2 ^ 32 → n < 2 ^ 32 → m ≢ n → by_octets (decimal m) (decimal n) ≢ Equal
texts_differ m n small also differ even =
    let same : decimal m ≡ decimal n = octets_exact (decimal m) (decimal n) even in
    differ (sym (decimal_is_IsNumeral m (omega arith)).1 ∙ ap (digits_value 10) same ∙ (decimal_is_IsNumeral n (omega arith)).1)

number_then : (m n : ℕ) (s t : List ℕ) → by_octets (decimal m ++ 46 ∷ s) (decimal n ++ 46 ∷ t) ≡ ordering_then (by_octets (decimal m) (decimal n)) (by_octets s t)
number_then m n s t = above_then 46 (decimal m) (decimal n) s t (digits_above m) (digits_above n)

-- the first number decides, where it differs
number_decides : (m n : ℕ) (s t : List ℕ) → m < 2 ^ 32 → n < 2 ^ 32 → m ≢ n → by_octets (decimal m) (decimal n) ≡ by_octets (decimal m ++ 46 ∷ s) (decimal n ++ 46 ∷ t)
number_decides m n s t small also differ =
    decided (by_octets (decimal m) (decimal n)) (by_octets s t) (texts_differ m n small also differ) ∙ sym (number_then m n s t)

-- and else what is after it
number_ties : (m n : ℕ) (s t : List ℕ) → m ≡ n → by_octets s t ≡ by_octets (decimal m ++ 46 ∷ s) (decimal n ++ 46 ∷ t)
number_ties m n s t same =
    let even : by_octets (decimal m) (decimal n) ≡ Equal = rw same (tied_itself nat_list_cmp_total (decimal n)) in
    tied_then (by_octets (decimal m) (decimal n)) (by_octets s t) even ∙ sym (number_then m n s t)

-- ---- addresses

-- the text of an address, from the left
abbrev dotted : ℕ → ℕ → ℕ → ℕ → List ℕ
dotted a b c d = decimal a ++ 46 ∷ (decimal b ++ 46 ∷ (decimal c ++ 46 ∷ decimal d))

dotted_is : (a b c d : ℕ) → dotted a b c d ≡ dotted_text a b c d
dotted_is a b c d = simp append_assoc

module _ (a b c d e f g h : ℕ) where
  abbrev pub Decides : ℕ → ℕ → Type 0
  Decides m n = by_octets (decimal m) (decimal n) ≡ by_octets (dotted_text a b c d) (dotted_text e f g h)

  whole : (m n : ℕ) → by_octets (decimal m) (decimal n) ≡ by_octets (dotted a b c d) (dotted e f g h) → Decides m n
  whole m n is = is ∙ ap (λ t. by_octets t (dotted e f g h)) (dotted_is a b c d) ∙ ap (by_octets (dotted_text a b c d)) (dotted_is e f g h)

  pub first_decides : a < 2 ^ 32 → e < 2 ^ 32 → a ≢ e → Decides a e
  first_decides small also differ = whole a e (number_decides a e (decimal b ++ 46 ∷ (decimal c ++ 46 ∷ decimal d)) (decimal f ++ 46 ∷ (decimal g ++ 46 ∷ decimal h)) small also differ)

  module _ (first : a ≡ e) where
    behind_first : (m n : ℕ) → by_octets (decimal m) (decimal n) ≡ by_octets (decimal b ++ 46 ∷ (decimal c ++ 46 ∷ decimal d)) (decimal f ++ 46 ∷ (decimal g ++ 46 ∷ decimal h)) → Decides m n
    behind_first m n is = whole m n (is ∙ number_ties a e (decimal b ++ 46 ∷ (decimal c ++ 46 ∷ decimal d)) (decimal f ++ 46 ∷ (decimal g ++ 46 ∷ decimal h)) first)

    pub second_decides : b < 2 ^ 32 → f < 2 ^ 32 → b ≢ f → Decides b f
    second_decides small also differ = behind_first b f (number_decides b f (decimal c ++ 46 ∷ decimal d) (decimal g ++ 46 ∷ decimal h) small also differ)

    module _ (second : b ≡ f) where
      behind_second : (m n : ℕ) → by_octets (decimal m) (decimal n) ≡ by_octets (decimal c ++ 46 ∷ decimal d) (decimal g ++ 46 ∷ decimal h) → Decides m n
      behind_second m n is = behind_first m n (is ∙ number_ties b f (decimal c ++ 46 ∷ decimal d) (decimal g ++ 46 ∷ decimal h) second)

      pub third_decides : c < 2 ^ 32 → g < 2 ^ 32 → c ≢ g → Decides c g
      third_decides small also differ = behind_second c g (number_decides c g (decimal d) (decimal h) small also differ)

      pub last_decides : c ≡ g → Decides d h
      last_decides third = behind_second d h (number_ties c g (decimal d) (decimal h) third)
