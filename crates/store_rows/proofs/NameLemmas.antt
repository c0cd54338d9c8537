-- Names by their texts and by their keys.
use Rattle.std.proofs.Common.{◌≡◌, ◌≢◌, ℕ, true, false, List, sym, ap, ◌∙◌}
use Rattle.std.proofs.lemmas.Bool.{false_from_ne_true}
use Rattle.std.proofs.lemmas.Slice.Eq.{bytes_eq-Decides}
use Rattle.std.specs.Prelude.{bytes_eq}
use Rattle.dns_names.specs.Keys.{key_of}
use Rattle.dns_names.specs.Labels.{IsName}
use Rattle.dns_names.specs.Order.{same_name}
use Rattle.dns_names.specs.Spelling.{name_text}
use Rattle.dns_names.proofs.KeyLaws.{key_unique}
use Rattle.zone_core.proofs.SetLemmas.{by_cases, name_is, name_self}
use Rattle.store_rows.specs.RowReading.{name_from}
use Rattle.store_rows.proofs.StoredLaws.{name_stored}
use Rattle.store_rows.proofs.RowSteps.{ok_is}

abbrev Labels : Type 0
Labels = List (List ℕ)

pub bytes_is : (a b : List ℕ) → bytes_eq a b ≡ true → a ≡ b
bytes_is a b e = (bytes_eq-Decides a b).0 e

pub bytes_same : (a b : List ℕ) → a ≡ b → bytes_eq a b ≡ true
bytes_same a b e = (bytes_eq-Decides a b).1 e

pub bytes_other : (a b : List ℕ) → (a ≡ b → ⊥) → bytes_eq a b ≡ false
bytes_other a b apart = false_from_ne_true (bytes_eq a b) (λ t. apart (bytes_is a b t))

-- a text is that of one name
pub text_one : (a b : Labels) → IsName a → IsName b → name_text a ≡ name_text b → a ≡ b
text_one a b is also e = ok_is a b (sym (name_stored a is) ∙ ap name_from e ∙ name_stored b also)

pub text_other : (a b : Labels) → IsName a → IsName b → a ≢ b → bytes_eq (name_text a) (name_text b) ≡ false
text_other a b is also apart = bytes_other (name_text a) (name_text b) (λ e. apart (text_one a b is also e))

-- names are one by their texts where they are one
pub text_same : (a b : Labels) → IsName a → IsName b → bytes_eq (name_text a) (name_text b) ≡ same_name b a
text_same a b is also =
    by_cases (same_name b a) (bytes_eq (name_text a) (name_text b) ≡ same_name b a)
    (λ t. bytes_same (name_text a) (name_text b) (ap name_text (sym (name_is b a t))) ∙ sym t)
    (λ f. text_other a b is also (λ e. let t : same_name b a ≡ true = ap (λ n. same_name b n) e ∙ name_self b in let bad : true ≡ false = sym t ∙ f in cc) ∙ sym f)

-- and so by their keys
pub key_same : (a b : Labels) → bytes_eq (key_of a) (key_of b) ≡ same_name a b
key_same a b =
    by_cases (same_name a b) (bytes_eq (key_of a) (key_of b) ≡ same_name a b)
    (λ t. bytes_same (key_of a) (key_of b) (ap key_of (name_is a b t)) ∙ sym t)
    (λ f. bytes_other (key_of a) (key_of b) (λ e. let is : a ≡ b = key_unique b a e in let t : same_name a b ≡ true = ap (λ n. same_name n b) is ∙ name_self b in let bad : true ≡ false = sym t ∙ f in cc) ∙ sym f)
