-- Fields that are read in parts.
use Rattle.std.proofs.Common.{◌≡◌, ℕ, List, Option, None, Ok, Err, refl, ap, ◌∙◌}
use Rattle.dns_data.specs.declared.data_fault.DataFault.{DataFault}
use Rattle.dns_data.specs.declared.record_type.RecordType.TheVariants as types
use Rattle.dns_data.specs.declared.rdata.Data.{Data}
use Rattle.dns_data.specs.Faults.{Refuses, ◌>>=◌}
use Rattle.dns_data.specs.Items.{ItemText}
use Rattle.dns_data.specs.Fields.{Kind, Name, Number, U32, Seconds, Fields, End, ◌▸◌, Value, Values}
use Rattle.dns_data.specs.Rdata.{data_with}
use Rattle.dns_data.specs.Reading.{Field, field, value_of, values_at, data_of_values, data_at}
use Rattle.dns_data.proofs.EachLemmas.{refuses_on}

-- ---- the first field, and those after it

-- values after a first one
abbrev pub behind : {A V : Type 0} → A → Field V → Field (A × V)
behind x others = others >>= λ v. Ok ((x, v.0), v.1)

module _ (origin : Option (List (List ℕ))) (kind : Kind) (fields : Fields) (items : List ItemText) (x : Value kind) (rest : List ItemText) (first : field (value_of origin kind) items ≡ Ok (x, rest)) where
  first_is : values_at origin (kind ▸ fields) items ≡ behind x (values_at origin fields rest)
  unfolding values_at
  first_is = rw first refl

  pub behind_first : (v : Values fields) (left : List ItemText) → values_at origin fields rest ≡ Ok (v, left) → values_at origin (kind ▸ fields) items ≡ Ok ((x, v), left)
  behind_first v left e = first_is ∙ ap (behind x) e

  pub refused_behind : (e : DataFault) → Refuses e (values_at origin fields rest) → Refuses e (values_at origin (kind ▸ fields) items)
  refused_behind e h = refuses_on e (values_at origin fields rest) (values_at origin (kind ▸ fields) items) h (λ f bad. first_is ∙ ap (behind x) bad)

-- ---- the first two fields, and those after them

module _ (origin : Option (List (List ℕ))) (a b : Kind) (fields : Fields) where
  abbrev pub with_two : Field (Values (a ▸ b ▸ End)) → Field (Values (a ▸ b ▸ fields))
  with_two two = two >>= λ t. behind t.0.0 (behind t.0.1.0 (values_at origin fields t.1))

  by_second : (x : Value a) (r : Field (Value b)) → behind x (r >>= λ y. behind y.0 (values_at origin fields y.1)) ≡ with_two (behind x (r >>= λ y. behind y.0 (values_at origin End y.1)))
  unfolding values_at
  by_second x (Ok y) = refl
  by_second x (Err f) = refl

  by_first : (r : Field (Value a)) → (r >>= λ x. behind x.0 (values_at origin (b ▸ fields) x.1)) ≡ with_two (r >>= λ x. behind x.0 (values_at origin (b ▸ End) x.1))
  unfolding values_at
  by_first (Ok x) = by_second x.0 (field (value_of origin b) x.1)
  by_first (Err f) = refl

  pub two_are : (items : List ItemText) → values_at origin (a ▸ b ▸ fields) items ≡ with_two (values_at origin (a ▸ b ▸ End) items)
  unfolding values_at
  two_are items = by_first (field (value_of origin a) items)

-- ---- an SOA, whose names and whose numbers are read together

-- the fields of the numbers
abbrev pub soa_numbers : Fields
soa_numbers = Number U32 ▸ Seconds ▸ Seconds ▸ Seconds ▸ Seconds ▸ End

-- numbers are read the same with any origin
numbers_alike : (origin : Option (List (List ℕ))) (items : List ItemText) → values_at origin soa_numbers items ≡ values_at None soa_numbers items
unfolding values_at
numbers_alike origin items = refl

module _ (origin : Option (List (List ℕ))) (items : List ItemText) where
  abbrev names_read : Field (Values (Name ▸ Name ▸ End))
  names_read = values_at origin (Name ▸ Name ▸ End) items

  abbrev of_names : Field (Values (Name ▸ Name ▸ End)) → Field Data
  of_names read = data_of_values types.Soa (with_two origin Name Name soa_numbers read)

  soa_is : data_at types.Soa origin items ≡ of_names names_read
  soa_is = ap (data_of_values types.Soa) (two_are origin Name Name soa_numbers items)

  pub names_refused : (e : DataFault) → Refuses e names_read → Refuses e (data_at types.Soa origin items)
  names_refused e h = refuses_on e names_read (data_at types.Soa origin items) h (λ f bad. soa_is ∙ ap of_names bad)

  module _ (names : Values (Name ▸ Name ▸ End)) (rest : List ItemText) (named : names_read ≡ Ok (names, rest)) where
    abbrev of_numbers : Field (Values soa_numbers) → Field Data
    of_numbers read = data_of_values types.Soa (behind names.0 (behind names.1.0 read))

    numbers_are : data_at types.Soa origin items ≡ of_numbers (values_at None soa_numbers rest)
    numbers_are = soa_is ∙ ap of_names named ∙ ap of_numbers (numbers_alike origin rest)

    pub numbers_refused : (e : DataFault) → Refuses e (values_at None soa_numbers rest) → Refuses e (data_at types.Soa origin items)
    numbers_refused e h = refuses_on e (values_at None soa_numbers rest) (data_at types.Soa origin items) h (λ f bad. numbers_are ∙ ap of_numbers bad)

    pub soa_read : (numbers : Values soa_numbers) (left : List ItemText) → values_at None soa_numbers rest ≡ Ok (numbers, left)
        → data_at types.Soa origin items ≡ Ok (data_with types.Soa (names.0, (names.1.0, numbers)), left)
    soa_read numbers left e = numbers_are ∙ ap of_numbers e
