-- What the code that looks for a type answers.
use Rattle.std.proofs.Common.{◌≡◌, ◌↔◌, ℕ, Bool, eqb, List, Option, Some, None, Result, Ok, Err, sym, ap, subst, ◌∙◌}
use Rattle.std.specs.List.{find}
use Rattle.std.specs.Str.{str_eq_ignore_ascii_case}
use Rattle.std.proofs.lemmas.Bool.{eqb-true}
use Rattle.std.specs.Result.{result_ok}
use Rattle.dns_data.specs.declared.data_fault.DataFault.{DataFault}
use Rattle.dns_data.specs.declared.record_type.RecordType.{RecordType}
use Rattle.dns_data.specs.Types.{type_text, type_number, kept_types, IsCalled}
use Rattle.dns_data.proofs.KeptLaws.{number_found, named_called}
use Rattle.dns_data.proofs.WordLemmas.{found_passes}

-- ---- by number

abbrev pub has_number : ℕ → RecordType → Bool
has_number n t = eqb (type_number t) n

pub by_number : (n : ℕ) (r : Option RecordType) → r ≡ find (has_number n) kept_types → (t : RecordType) → (r ≡ Some t) ↔ (type_number t ≡ n)
by_number n r e t =
    (λ found. eqb-true (type_number t) n (found_passes (has_number n) kept_types t (sym e ∙ found)), λ is. e ∙ subst (λ (k : ℕ). find (has_number k) kept_types ≡ Some t) is (number_found t))

-- ---- by name

abbrev pub has_name : List ℕ → RecordType → Bool
has_name text t = str_eq_ignore_ascii_case (type_text t) text

abbrev pub found_or : Option RecordType → DataFault → Result RecordType DataFault
found_or None fault = Err fault
found_or (Some t) fault = Ok t

ok_from_found : (o : Option RecordType) (fault : DataFault) (t : RecordType) → found_or o fault ≡ Ok t → o ≡ Some t
ok_from_found None fault t e = absurd cc
ok_from_found (Some s) fault t e = cc

pub by_name : (text : List ℕ) (fault : DataFault) (o : Option RecordType) (r : Result RecordType DataFault) → o ≡ find (has_name text) kept_types → r ≡ found_or o fault → (t : RecordType) → (r ≡ Ok t) ↔ IsCalled t text
by_name text fault o r e f t =
    let named = named_called text t in
    (λ found. named.0 (sym e ∙ ok_from_found o fault t (sym f ∙ found)), λ called. f ∙ ap (λ (s : Option RecordType). found_or s fault) (e ∙ named.1 called))

-- the value of what is found
pub found_ok : (fault : DataFault) (o : Option RecordType) (r : Result RecordType DataFault) → r ≡ found_or o fault → result_ok r ≡ o
found_ok fault None r e = ap result_ok e
found_ok fault (Some t) r e = ap result_ok e
