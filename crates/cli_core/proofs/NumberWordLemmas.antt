-- A number among the words, as it is read.
use Rattle.std.proofs.Common.{ap, ◌≡◌, ◌^◌, ◌&&◌, ℕ, Bool, true, false, refl, List, ◌∷◌, length, Option, Some, None, Result, Ok, Err, nat_lt, lt-ltb, ltb-true, []}
use Rattle.std.specs.Prelude.{option_map}
use Rattle.std.specs.List.{list_all}
use Rattle.std.specs.Result.{result_ok}
use Rattle.std.specs.Char.{digit_value}
use Rattle.std.specs.Str.Parse.{AllDigits, ParsesUnsigned, digits_value, without_leading_plus}
use Rattle.clap.specs.Words.{Text, TriesOne}
use Rattle.clap.proofs.WalkLemmas.{both}
use Rattle.cli_core.specs.Values.{number_if, number_in}

digits_pass : (ds : List ℕ) → AllDigits 10 ds → list_all (λ d. nat_lt (digit_value d) 10) ds ≡ true
digits_pass [] h = refl
digits_pass (d ∷ ds) h = rw (lt-ltb (digit_value d) 10 h.0) (digits_pass ds h.1)

digits_are : (ds : List ℕ) → list_all (λ d. nat_lt (digit_value d) 10) ds ≡ true → AllDigits 10 ds
digits_are [] e = tt
digits_are (d ∷ ds) e =
    let parts = both _ _ e in
    (ltb-true _ _ parts.0, digits_are ds parts.1)

abbrev is_number : List ℕ → Bool
is_number ds = nat_lt 0 (length ds) && list_all (λ d. nat_lt (digit_value d) 10) ds && nat_lt (digits_value 10 ds) (2 ^ 64)

pub number_read : {E : Type 0} (text : Text) (r : Result ℕ E) → ParsesUnsigned 64 10 text r → result_ok r ≡ number_in text
number_read text (Ok n) h =
    let ds = without_leading_plus text in
    rw (lt-ltb 0 (length ds) h.0.0.0, digits_pass ds h.0.0.1, lt-ltb (digits_value 10 ds) (2 ^ 64) h.0.1, h.1) refl
number_read text (Err e) h = go (is_number (without_leading_plus text)) refl
  where
    go : (b : Bool) → is_number (without_leading_plus text) ≡ b → None ≡ number_in text
    go false t = rw t refl
    go true t =
        let outer = both _ _ t in
        let inner = both _ _ outer.0 in
        absurd (h ((ltb-true _ _ inner.0, digits_are (without_leading_plus text) inner.1), ltb-true _ _ outer.1))

tries : {E : Type 0} (gives : Text → Result ℕ E → Type 0) → ((t : Text) (x : Result ℕ E) → gives t x → ParsesUnsigned 64 10 t x)
    → (t : Text) (r : Result (Option ℕ) E) → TriesOne gives t r → result_ok r ≡ number_if (Some t)
tries {E} gives parses t (Ok (Some v)) h = ap (option_map (λ n. Some n)) (number_read {E = E} t (Ok v) (parses t (Ok v) h))
tries {E} gives parses t (Ok None) h = absurd h
tries {E} gives parses t (Err e) h = ap (option_map (λ n. Some n)) (number_read {E = E} t (Err e) (parses t (Err e) h))

pub number_tried : {E : Type 0} (gives : Text → Result ℕ E → Type 0) → ((t : Text) (x : Result ℕ E) → gives t x → ParsesUnsigned 64 10 t x)
    → (o : Option Text) (r : Result (Option ℕ) E) → (o ≡ None → r ≡ Ok None) → ((t : Text) → o ≡ Some t → TriesOne gives t r)
    → result_ok r ≡ number_if o
number_tried gives parses None r none value = rw (none refl) refl
number_tried gives parses (Some t) r none value = tries gives parses t r (value t refl)
