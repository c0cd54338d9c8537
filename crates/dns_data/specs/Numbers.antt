-- Numbers and durations.
use Rattle.std.specs.Prelude.{◌≡◌, ◌≢◌, ℕ, ◌+◌, ◌-◌, ◌*◌, ◌⊎◌, List, [], ◌∷◌, ◌++◌, length, Bool, ◌&&◌, ◌==◌, nat_lt, nat_le, if◌then◌else◌, Option, Some, None, option_and_then, IsSome, unwrap_or, Result, Ok, Err}
use Rattle.std.specs.List.{list_all, flat_map, sum_by, AllByRecursion}
use Rattle.std.specs.Option.{option_map}
use Rattle.std.specs.Char.{is_ascii_digit, to_ascii_lowercase}
use Rattle.std.specs.Str.Parse.{IsNumeral, digits_value}
use Rattle.dns_data.specs.declared.data_fault.DataFault.{DataFault}
use Rattle.dns_data.specs.declared.data_fault.DataFault.TheVariants.{BadNumber, NumberRange}

-- one decimal digit or more, which write the number
abbrev pub IsNumber : List ℕ → ℕ → Type 0
IsNumber text n = IsNumeral 10 text × (digits_value 10 text ≡ n)

abbrev pub is_number : List ℕ → Bool
is_number text = nat_lt 0 (length text) && list_all is_ascii_digit text

-- a value that has room in its field
abbrev pub up_to : ℕ → ℕ → Result ℕ DataFault
up_to most n = if nat_le n most then Ok n else Err NumberRange

-- what a number says, for a field that holds numbers up to `most`
abbrev pub number_of : ℕ → List ℕ → Result ℕ DataFault
number_of most text = if is_number text then up_to most (digits_value 10 text) else Err BadNumber

-- ---- durations

-- the seconds of a week, a day, an hour, a minute and a second, in either letter case
abbrev pub unit_seconds : ℕ → Option ℕ
unit_seconds unit =
    let u = to_ascii_lowercase unit in
    if u == 119 then Some 604800
    else (if u == 100 then Some 86400
    else (if u == 104 then Some 3600
    else (if u == 109 then Some 60
    else (if u == 115 then Some 1 else None))))

-- a number with a unit after it
pub record Group : Type 0 where
  pub digits : List ℕ
  pub unit : ℕ

pub record IsGroup (group : Group) : Type 0 where
  pub number : IsNumeral 10 group.digits
  pub known : IsSome (unit_seconds group.unit)

abbrev pub group_text : Group → List ℕ
group_text group = group.digits ++ group.unit ∷ []

abbrev pub group_seconds : Group → ℕ
group_seconds group = digits_value 10 group.digits * unwrap_or (unit_seconds group.unit) 0

-- a number of seconds, or one or more numbers with a unit after each, summed
abbrev pub IsDuration : List ℕ → ℕ → Type 0
IsDuration text n =
    IsNumber text n
    ⊎ ((groups : List Group) × (groups ≢ []) × AllByRecursion IsGroup groups × (text ≡ flat_map group_text groups)
    × (n ≡ sum_by group_seconds groups))

-- The sum of groups, after digits of the first of them that were read already: their number, or `None` before a digit.
-- `None` where the text is no groups.
unfoldable pub groups_after : Option ℕ → List ℕ → Option ℕ
groups_after None [] = Some 0
groups_after (Some n) [] = None
groups_after number (octet ∷ rest) =
    if is_ascii_digit octet then groups_after (Some (unwrap_or number 0 * 10 + (octet - 48))) rest
    else option_and_then (λ n. option_and_then (λ u. option_map (λ later. n * u + later) (groups_after None rest)) (unit_seconds octet)) number

abbrev pub in_time : ℕ → Option ℕ → Result ℕ DataFault
in_time most None = Err BadNumber
in_time most (Some n) = up_to most n

-- what a duration says, for a field that holds numbers up to `most`
abbrev pub duration_of : ℕ → List ℕ → Result ℕ DataFault
duration_of most text =
    if is_number text then up_to most (digits_value 10 text)
    else (if length text == 0 then Err BadNumber else in_time most (groups_after None text))
