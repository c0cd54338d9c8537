-- Reading character-strings, one item after another.
use Rattle.std.proofs.Common.{◌≡◌, ℕ, ◌+◌, ◌<◌, ◌≤◌, List, [], ◌∷◌, ◌++◌, length, map, get_or, drop, ◌↔◌, Option, Some, None, Result, Ok, Err, refl, sym, ap, ◌∙◌, append_assoc, arith}
use Rattle.std.specs.Prelude.{nat_lt, if◌then◌else◌, IsSome, IfSome, IfOk}
use Rattle.std.specs.Option.{ok_or}
use Rattle.std.proofs.lemmas.Bool.{le-ltb, lt-ltb}
use Rattle.std.proofs.lemmas.List.{append-nil, at_drop_more, at_drop_all}
use Rattle.dns_data.specs.declared.data_fault.DataFault.{DataFault}
use Rattle.dns_data.specs.declared.data_fault.DataFault.TheVariants as faults
use Rattle.dns_data.specs.declared.item.Item.{Item}
use Rattle.dns_data.specs.Faults.{Refuses, Reads, ◌>>=◌}
use Rattle.dns_data.specs.Items.{ItemText, item_of}
use Rattle.dns_data.specs.Strings.{string_of, strings_len}
use Rattle.dns_data.specs.Reading.{each_string, strings_of}

-- a refusal of one definition is a refusal of another
pub refuses_on : {A B : Type 0} (e : DataFault) (r : Result A DataFault) (total : Result B DataFault) → Refuses e r → ((f : DataFault) → r ≡ Err f → total ≡ Err f) → Refuses e total
refuses_on faults.NoMemory r total h on = tt
refuses_on fault r total h on = on fault h

-- ---- each item

-- the strings of all items, where these were read and these items are left
abbrev pub read_on : List (List ℕ) → List Item → Result (List (List ℕ)) DataFault
read_on front rest = each_string (map item_of rest) >>= λ more. Ok (front ++ more)

abbrev then_rest : List (List ℕ) → List Item → Result (List ℕ) DataFault → Result (List (List ℕ)) DataFault
then_rest front rest read = (read >>= λ string. each_string (map item_of rest) >>= λ strings. Ok (string ∷ strings)) >>= λ more. Ok (front ++ more)

regroup : (front : List (List ℕ)) (string : List ℕ) (r : Result (List (List ℕ)) DataFault) → ((r >>= λ strings. Ok (string ∷ strings)) >>= λ more. Ok (front ++ more)) ≡ (r >>= λ more. Ok ((front ++ string ∷ []) ++ more))
regroup front string (Ok strings) = ap (λ (l : List (List ℕ)). Ok l) (sym (append_assoc front (string ∷ []) strings))
regroup front string (Err f) = refl

module _ (front : List (List ℕ)) (items : List Item) (i : ℕ) (item : Item) (total : Result (List (List ℕ)) DataFault) (lt : i < length items) (so_far : read_on front (drop i items) ≡ total) where
  next_item : then_rest front (drop (i + 1) items) (string_of (get_or items i item).raw.now) ≡ total
  unfolding each_string
  next_item = sym (at_drop_more (read_on front) items i item lt) ∙ so_far

  pub goes_on : (string : List ℕ) → string_of (get_or items i item).raw.now ≡ Ok string → read_on (front ++ string ∷ []) (drop (i + 1) items) ≡ total
  goes_on string e = sym (regroup front string (each_string (map item_of (drop (i + 1) items)))) ∙ sym (ap (then_rest front (drop (i + 1) items)) e) ∙ next_item

  pub stops : (e : DataFault) → Refuses e (string_of (get_or items i item).raw.now) → Refuses e total
  stops e h = refuses_on e (string_of (get_or items i item).raw.now) total h (λ f bad. sym next_item ∙ ap (then_rest front (drop (i + 1) items)) bad)

each_none : each_string [] ≡ Ok []
unfolding each_string
each_none = refl

pub ends : (front : List (List ℕ)) (items : List Item) (i : ℕ) (total : Result (List (List ℕ)) DataFault) → length items ≤ i → read_on front (drop i items) ≡ total → total ≡ Ok front
ends front items i total le so_far =
    sym so_far ∙ at_drop_all (read_on front) items i le ∙ ap (λ (r : Result (List (List ℕ)) DataFault). r >>= λ more. Ok (front ++ more)) each_none ∙ ap (λ (l : List (List ℕ)). Ok l) (append-nil front)

-- ---- all strings

abbrev fitting : List (List ℕ) → Result (List (List ℕ)) DataFault
fitting strings = if nat_lt 65535 (strings_len strings) then Err faults.DataTooLong else Ok strings

pub strings_missing : (items : List ItemText) → length items ≡ 0 → strings_of items ≡ Err faults.FieldMissing
unfolding strings_of
strings_missing [] e = refl
strings_missing (item ∷ items) e = absurd (omega arith)

strings_are : (items : List ItemText) → 0 < length items → strings_of items ≡ (each_string items >>= fitting)
unfolding strings_of
strings_are [] some = absurd (omega arith)
strings_are (item ∷ items) some = refl

pub strings_refused : (items : List ItemText) (e : DataFault) → 0 < length items → Refuses e (each_string items) → Refuses e (strings_of items)
strings_refused items e some h = refuses_on e (each_string items) (strings_of items) h (λ f bad. strings_are items some ∙ ap (λ (r : Result (List (List ℕ)) DataFault). r >>= fitting) bad)

pub strings_fit : (items : List ItemText) (strings : List (List ℕ)) → 0 < length items → each_string items ≡ Ok strings → strings_len strings ≤ 65535 → strings_of items ≡ Ok strings
strings_fit items strings some e le = strings_are items some ∙ ap (λ (r : Result (List (List ℕ)) DataFault). r >>= fitting) e ∙ rw (le-ltb 65535 (strings_len strings) le)

pub strings_too_long : (items : List ItemText) (strings : List (List ℕ)) → 0 < length items → each_string items ≡ Ok strings → 65535 < strings_len strings → strings_of items ≡ Err faults.DataTooLong
strings_too_long items strings some e lt = strings_are items some ∙ ap (λ (r : Result (List (List ℕ)) DataFault). r >>= fitting) e ∙ rw (lt-ltb 65535 (strings_len strings) lt)

some_after : (r : Result (List ℕ) DataFault) (q : Result (List (List ℕ)) DataFault) (strings : List (List ℕ)) → (r >>= λ string. q >>= λ others. Ok (string ∷ others)) ≡ Ok strings → 0 < length strings
some_after (Err f) q strings e = absurd cc
some_after (Ok string) (Err f) strings e = absurd cc
some_after (Ok string) (Ok others) strings e = let same : string ∷ others ≡ strings = cc in rw (← same) (omega arith)

pub some_strings : (items : List ItemText) (strings : List (List ℕ)) → 0 < length items → each_string items ≡ Ok strings → 0 < length strings
unfolding each_string
some_strings [] strings some e = absurd (omega arith)
some_strings (item ∷ items) strings some e = some_after (string_of item.raw) (each_string items) strings e

above : (n : ℕ) → (n ≤ 65535 → ⊥) → 65535 < n
above n over = omega (arith, over)

pub strings_made : (items : List ItemText) (strings : List (List ℕ)) (made : Option (List (List ℕ))) → 0 < length items → each_string items ≡ Ok strings → IsSome made ↔ (strings_len strings ≤ 65535) → IfSome made (λ m. m ≡ strings)
    → Reads (λ x. x) (ok_or made faults.DataTooLong) (strings_of items)
strings_made items strings (Some made) some e fits same = rw same (strings_fit items strings some e (fits.0 refl))
strings_made items strings None some e fits same = strings_too_long items strings some e (above (strings_len strings) (λ le. let z = fits.1 le in absurd cc))

-- ---- what a call answers

-- what is true of each value that a definition reads is true of what a call answers
pub found_of : {X : Type 0} (P : X → Type 0) (r read : Result X DataFault) → Reads (λ x. x) r read → ((x : X) → read ≡ Ok x → P x) → IfOk r P
found_of P (Ok x) read h on = on x h
found_of P (Err e) read h on = tt
