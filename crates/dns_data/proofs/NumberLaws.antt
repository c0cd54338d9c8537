-- The laws of numbers and durations: what is read is written so, and what is written so is read.
use Rattle.std.proofs.Common.{◌≡◌, ◌≢◌, ℕ, ◌+◌, ◌-◌, ◌*◌, ◌^◌, ◌<◌, ◌≤◌, inl, inr, true, false, cond, ltb, leb, eqb, ◌&&◌, List, [], ◌∷◌, ◌++◌, length, decimal, Option, Some, None, option_map, option_and_then, Ok, Err, refl, sym, ap, subst, ◌∙◌, append_assoc, length-append, arith, lt-ltb, le-leb, leb-true, ltb-true, ne_eqb}
use Rattle.std.proofs.lemmas.Bool.{cond_both, and_parts, and_from, and_left, and_right, agree_below_at, both_ways, false_from_ne_true, eqb-false}
use Rattle.std.proofs.lemmas.Option.{none-some, same_Some}
use Rattle.std.proofs.NetLemmas.Options.{and_then_some, map_some}
use Rattle.std.proofs.lemmas.List.Sums.{sum_by-cons}
use Rattle.std.proofs.lemmas.Fmt.{decimal_is_IsNumeral}
use Rattle.std.proofs.lemmas.Str.{digit_value_digit}
use Rattle.std.proofs.lemmas.Str.Parse.{digit_from_value}
use Rattle.std.specs.Prelude.{IsSome, unwrap_or, is_some}
use Rattle.std.specs.List.{list_all, flat_map, sum_by, AllByRecursion}
use Rattle.std.specs.Char.{is_ascii_digit, digit_value}
use Rattle.std.specs.Str.Parse.{AllDigits, IsNumeral, digits_value, digits_value_after}
use Rattle.dns_data.specs.declared.data_fault.DataFault.TheVariants.{BadNumber, NumberRange}
use Rattle.dns_data.specs.Numbers.{IsNumber, is_number, up_to, number_of, unit_seconds, Group, IsGroup, group_text, group_seconds, IsDuration, groups_after, in_time, duration_of}
use Rattle.dns_data.proofs.StepLaws.{needed_ok, guarded_ok, ok_is}

-- ---- digits

-- a digit is an octet from 48 to 57
pub digit_range : (c : ℕ) → is_ascii_digit c ≡ true → (48 ≤ c) × (c ≤ 57)
digit_range c h = let p = and_parts (leb 48 c) (leb c 57) h in (leb-true 48 c p.0, leb-true c 57 p.1)

-- it has a value below ten, its distance from 48
pub digit_is : (c : ℕ) → is_ascii_digit c ≡ true → (digit_value c ≡ c - 48) × (digit_value c < 10)
digit_is c h =
    let r = digit_range c h in
    let v = digit_value_digit c r in
    (omega arith, omega arith)

-- and what has a value below ten is a digit
pub is_digit : (c : ℕ) → digit_value c < 10 → is_ascii_digit c ≡ true
is_digit c h = let r = digit_from_value c h in and_from (leb 48 c) (leb c 57) (le-leb 48 c r.0) (le-leb c 57 r.1)

-- a text that tests as digits has digits alone
pub digits_are : (text : List ℕ) → list_all is_ascii_digit text ≡ true → AllDigits 10 text
digits_are [] h = tt
digits_are (c ∷ cs) h = let p = and_parts (is_ascii_digit c) (list_all is_ascii_digit cs) h in ((digit_is c p.0).1, digits_are cs p.1)

-- and digits test so
pub are_digits : (text : List ℕ) → AllDigits 10 text → list_all is_ascii_digit text ≡ true
are_digits [] h = refl
are_digits (c ∷ cs) h = and_from (is_ascii_digit c) (list_all is_ascii_digit cs) (is_digit c h.0) (are_digits cs h.1)

-- what tests as a number is one
pub number_is : (text : List ℕ) → is_number text ≡ true → IsNumeral 10 text
number_is text h =
    let p = and_parts (ltb 0 (length text)) (list_all is_ascii_digit text) h in
    (ltb-true 0 (length text) p.0, digits_are text p.1)

-- and a number tests so
pub is_numeral : (text : List ℕ) → IsNumeral 10 text → is_number text ≡ true
is_numeral text h = and_from (ltb 0 (length text)) (list_all is_ascii_digit text) (lt-ltb 0 (length text) h.0) (are_digits text h.1)

-- ---- numbers

-- a value that has room
pub up_to_ok : (most m n : ℕ) → up_to most m ≡ Ok n → (m ≡ n) × (n ≤ most)
up_to_ok most m n e =
    let g = needed_ok (leb m most) NumberRange (Ok m) n e in
    let same = ok_is m n g.1 in
    let small = leb-true m most g.0 in
    (same, omega arith)

-- and one that has it is found to have it
pub up_to_again : (most n : ℕ) → n ≤ most → up_to most n ≡ Ok n
up_to_again most n h = rw (le-leb n most h) refl

-- a number that is read is written so
pub number_found : (most : ℕ) (text : List ℕ) (n : ℕ) → number_of most text ≡ Ok n → IsNumber text n × (n ≤ most)
number_found most text n e =
    let g = needed_ok (is_number text) BadNumber (up_to most (digits_value 10 text)) n e in
    let u = up_to_ok most (digits_value 10 text) n g.1 in
    ((number_is text g.0, u.0), u.1)

-- what is written so is read
pub number_only : (most : ℕ) (text : List ℕ) (n : ℕ) → IsNumber text n → n ≤ most → number_of most text ≡ Ok n
number_only most text n is h = rw (is_numeral text is.0, is.1) (up_to_again most n h)

-- what is printed of a number writes it
pub decimal_is_number : (n : ℕ) → n < 2 ^ 64 → IsNumber (decimal n) n
decimal_is_number n h = decimal_is_IsNumeral n h

-- ---- durations that are read

-- digits that were read before a text: none, or those of a number
abbrev pub AreBefore : Option ℕ → List ℕ → Type 0
AreBefore None ds = ds ≡ []
AreBefore (Some k) ds = IsNumeral 10 ds × (digits_value 10 ds ≡ k)

-- a text that is groups, with the sum of their seconds
pub record AreGroups (text : List ℕ) (n : ℕ) : Type 0 where
  pub groups : List Group
  pub each : AllByRecursion IsGroup groups
  pub parts : text ≡ flat_map group_text groups
  pub total : n ≡ sum_by group_seconds groups

-- one more digit after digits
digits_value_push : (k : ℕ) (ds : List ℕ) (c : ℕ) → digits_value_after 10 k (ds ++ c ∷ []) ≡ digits_value_after 10 k ds * 10 + digit_value c
digits_value_push k [] c = refl
digits_value_push k (d ∷ ds) c = digits_value_push (k * 10 + digit_value d) ds c

-- digits and one more are digits
digits_push : (ds : List ℕ) (c : ℕ) → AllDigits 10 ds → digit_value c < 10 → AllDigits 10 (ds ++ c ∷ [])
digits_push [] c h k = (k, tt)
digits_push (d ∷ ds) c h k = (h.0, digits_push ds c h.1 k)

-- one more digit after those that were read
before_push : (number : Option ℕ) (ds : List ℕ) (c : ℕ) → AreBefore number ds → is_ascii_digit c ≡ true → AreBefore (Some (unwrap_or number 0 * 10 + (c - 48))) (ds ++ c ∷ [])
before_push None ds c h d =
    let v = digit_is c d in
    rw h ((omega arith, (v.1, tt)), omega arith)
before_push (Some k) ds c h d =
    let v = digit_is c d in
    ((omega (arith, length-append ds (c ∷ [])), digits_push ds c h.0.1 v.1), digits_value_push 0 ds c ∙ omega (arith, h.1))

-- no groups
no_groups : (n : ℕ) → Some 0 ≡ Some n → AreGroups [] n
no_groups n e = record { groups = []; each = tt; parts = refl; total = sym (same_Some 0 n e) }

-- a group before groups
group_before : (ds : List ℕ) (unit u : ℕ) (rest : List ℕ) (later n : ℕ) → IsNumeral 10 ds → unit_seconds unit ≡ Some u → AreGroups rest later → digits_value 10 ds * u + later ≡ n → AreGroups (ds ++ unit ∷ rest) n
group_before ds unit u rest later n is known g e =
    let first : Group = record { digits = ds; unit = unit } in
    let seconds : group_seconds first ≡ digits_value 10 ds * u = ap (λ (o : Option ℕ). digits_value 10 ds * unwrap_or o 0) known in
    record {
      groups = first ∷ g.groups;
      each = (record { number = is; known = rw known refl }, g.each);
      parts = ap (λ (t : List ℕ). ds ++ unit ∷ t) g.parts ∙ sym (append_assoc ds (unit ∷ []) (flat_map group_text g.groups));
      total = omega (arith, sum_by-cons group_seconds first g.groups, seconds, g.total, e);
    }

-- where a unit stands, a number stands before it and groups after it
unit_found : (number : Option ℕ) (ds : List ℕ) (octet : ℕ) (rest : List ℕ) (n : ℕ) → AreBefore number ds → ((later : ℕ) → groups_after None rest ≡ Some later → AreGroups rest later)
    → option_and_then (λ k. option_and_then (λ u. option_map (λ later. k * u + later) (groups_after None rest)) (unit_seconds octet)) number ≡ Some n → AreGroups (ds ++ octet ∷ rest) n
unit_found None ds octet rest n h more e = absurd (none-some n e)
unit_found (Some k) ds octet rest n h more e =
    and_then_some (λ u. option_map (λ later. k * u + later) (groups_after None rest)) (unit_seconds octet) n e λ u known f.
    map_some (λ later. k * u + later) (groups_after None rest) n f λ later after g.
    group_before ds octet u rest later n h.0 known (more later after) (ap (λ (v : ℕ). v * u + later) h.1 ∙ g)

-- what is read as groups, after digits that were read before
groups_found : (text : List ℕ) (number : Option ℕ) (ds : List ℕ) (n : ℕ) → AreBefore number ds → groups_after number text ≡ Some n → AreGroups (ds ++ text) n
unfolding groups_after
groups_found [] None ds n h e = rw h (no_groups n e)
groups_found [] (Some k) ds n h e = absurd (none-some n e)
groups_found (octet ∷ rest) number ds n h e =
    cond_both (is_ascii_digit octet) (groups_after (Some (unwrap_or number 0 * 10 + (octet - 48))) rest) (option_and_then (λ k. option_and_then (λ u. option_map (λ later. k * u + later) (groups_after None rest)) (unit_seconds octet)) number) (λ r. r ≡ Some n → AreGroups (ds ++ octet ∷ rest) n)
    (λ d f. subst (λ (t : List ℕ). AreGroups t n) (append_assoc ds (octet ∷ []) rest) (groups_found rest (Some (unwrap_or number 0 * 10 + (octet - 48))) (ds ++ octet ∷ []) n (before_push number ds octet h d) f))
    (λ d f. unit_found number ds octet rest n h (λ later g. groups_found rest None [] later refl g) f)
    e

-- some octets are some groups
some_groups : (groups : List Group) (text : List ℕ) → text ≡ flat_map group_text groups → 0 < length text → groups ≢ []
some_groups [] text e some = let l : length text ≡ 0 = ap length e in absurd (omega arith)
some_groups (group ∷ groups) text e some = λ f. cc

-- groups that were read in time
in_time_ok : (most : ℕ) (read : Option ℕ) (n : ℕ) → in_time most read ≡ Ok n → (read ≡ Some n) × (n ≤ most)
in_time_ok most None n e = absurd cc
in_time_ok most (Some m) n e = let u = up_to_ok most m n e in (ap (λ (k : ℕ). Some k) u.0, u.1)

-- a text that is no number
units_found : (most : ℕ) (text : List ℕ) (n : ℕ) → cond (eqb (length text) 0) (Err BadNumber) (in_time most (groups_after None text)) ≡ Ok n → IsDuration text n × (n ≤ most)
units_found most text n e =
    let g = guarded_ok (eqb (length text) 0) BadNumber (in_time most (groups_after None text)) n e in
    let not_zero = eqb-false (length text) 0 g.0 in
    let t = in_time_ok most (groups_after None text) n g.1 in
    let a = groups_found text None [] n refl t.0 in
    (inr (a.groups, some_groups a.groups text a.parts (omega arith), a.each, a.parts, a.total), t.1)

-- a duration that is read is written so
pub duration_found : (most : ℕ) (text : List ℕ) (n : ℕ) → duration_of most text ≡ Ok n → IsDuration text n × (n ≤ most)
duration_found most text n e =
    cond_both (is_number text) (up_to most (digits_value 10 text)) (cond (eqb (length text) 0) (Err BadNumber) (in_time most (groups_after None text))) (λ r. r ≡ Ok n → IsDuration text n × (n ≤ most))
    (λ h f. let u = up_to_ok most (digits_value 10 text) n f in (inl (number_is text h, u.0), u.1))
    (λ h f. units_found most text n f)
    e

-- ---- durations that are written

-- digits are read before what stands after them
digits_read : (ds : List ℕ) (k : ℕ) (rest : List ℕ) → AllDigits 10 ds → groups_after (Some k) (ds ++ rest) ≡ groups_after (Some (digits_value_after 10 k ds)) rest
unfolding groups_after
digits_read [] k rest h = refl
digits_read (d ∷ ds) k rest h =
    let digit = is_digit d h.0 in
    let v = (digit_is d digit).0 in
    rw digit (ap (λ (m : ℕ). groups_after (Some (k * 10 + m)) (ds ++ rest)) (sym v) ∙ digits_read ds (k * 10 + digit_value d) rest h.1)

-- and so is a number where none was begun
number_read : (ds rest : List ℕ) → IsNumeral 10 ds → groups_after None (ds ++ rest) ≡ groups_after (Some (digits_value 10 ds)) rest
unfolding groups_after
number_read [] rest h = absurd (omega (arith, h.0))
number_read (d ∷ ds) rest h =
    let digit = is_digit d h.1.0 in
    let v = (digit_is d digit).0 in
    rw digit (ap (λ (m : ℕ). groups_after (Some (0 * 10 + m)) (ds ++ rest)) (sym v) ∙ digits_read ds (0 * 10 + digit_value d) rest h.1.1)

-- what is known of a unit
known_is : (o : Option ℕ) → IsSome o → o ≡ Some (unwrap_or o 0)
known_is None h = absurd cc
known_is (Some u) h = refl

-- a digit is no unit
digit_no_unit : (c : ℕ) → is_ascii_digit c ≡ true → is_some (unit_seconds c) ≡ false
digit_no_unit c h =
    let r = digit_range c h in
    let no_both : is_ascii_digit c && is_some (unit_seconds c) ≡ false = agree_below_at (λ n. is_ascii_digit n && is_some (unit_seconds n)) (λ n. false) 58 c refl (omega arith) in
    false_from_ne_true (is_some (unit_seconds c)) (λ s. both_ways (is_ascii_digit c && is_some (unit_seconds c)) no_both (and_from (is_ascii_digit c) (is_some (unit_seconds c)) h s))

-- so a unit is no digit
unit_no_digit : (c : ℕ) → IsSome (unit_seconds c) → is_ascii_digit c ≡ false
unit_no_digit c h = false_from_ne_true (is_ascii_digit c) (λ d. both_ways (is_some (unit_seconds c)) (digit_no_unit c d) h)

-- the step at a unit, after a number
unit_read : (k unit u : ℕ) (rest : List ℕ) (later : ℕ) → is_ascii_digit unit ≡ false → unit_seconds unit ≡ Some u → groups_after None rest ≡ Some later → groups_after (Some k) (unit ∷ rest) ≡ Some (k * u + later)
unfolding groups_after
unit_read k unit u rest later no_digit known h = rw no_digit (rw known (rw h refl))

-- a group is read before what is read after it
group_read : (group : Group) (rest : List ℕ) (later : ℕ) → IsGroup group → groups_after None rest ≡ Some later → groups_after None (group_text group ++ rest) ≡ Some (group_seconds group + later)
group_read group rest later is h =
    ap (groups_after None) (append_assoc group.digits (group.unit ∷ []) rest) ∙ number_read group.digits (group.unit ∷ rest) is.number
    ∙ unit_read (digits_value 10 group.digits) group.unit (unwrap_or (unit_seconds group.unit) 0) rest later (unit_no_digit group.unit is.known) (known_is (unit_seconds group.unit) is.known) h

-- no octets are no seconds
nothing_read : groups_after None [] ≡ Some 0
unfolding groups_after
nothing_read = refl

-- groups are read as their sum
groups_read : (groups : List Group) → AllByRecursion IsGroup groups → groups_after None (flat_map group_text groups) ≡ Some (sum_by group_seconds groups)
groups_read [] h = nothing_read
groups_read (group ∷ groups) h = group_read group (flat_map group_text groups) (sum_by group_seconds groups) h.0 (groups_read groups h.1) ∙ ap (λ (n : ℕ). Some n) (sym (sum_by-cons group_seconds group groups))

-- where a unit stands, the text is no number
unit_fails : (ds : List ℕ) (unit : ℕ) (rest : List ℕ) → is_ascii_digit unit ≡ false → list_all is_ascii_digit (ds ++ unit ∷ rest) ≡ false
unit_fails [] unit rest h = and_left (is_ascii_digit unit) (list_all is_ascii_digit rest) h
unit_fails (d ∷ ds) unit rest h = and_right (is_ascii_digit d) (list_all is_ascii_digit (ds ++ unit ∷ rest)) (unit_fails ds unit rest h)

-- groups are no number
groups_no_number : (groups : List Group) → groups ≢ [] → AllByRecursion IsGroup groups → is_number (flat_map group_text groups) ≡ false
groups_no_number [] some h = absurd (some refl)
groups_no_number (group ∷ groups) some h =
    let fails = unit_fails group.digits group.unit (flat_map group_text groups) (unit_no_digit group.unit h.0.known) in
    let text : flat_map group_text (group ∷ groups) ≡ group.digits ++ group.unit ∷ flat_map group_text groups = append_assoc group.digits (group.unit ∷ []) (flat_map group_text groups) in
    ap is_number text ∙ and_right (ltb 0 (length (group.digits ++ group.unit ∷ flat_map group_text groups))) (list_all is_ascii_digit (group.digits ++ group.unit ∷ flat_map group_text groups)) fails

-- and they have octets
groups_some : (groups : List Group) → groups ≢ [] → eqb (length (flat_map group_text groups)) 0 ≡ false
groups_some [] some = absurd (some refl)
groups_some (group ∷ groups) some =
    let text : length (flat_map group_text (group ∷ groups)) ≡ length (group.digits ++ group.unit ∷ flat_map group_text groups) = ap length (append_assoc group.digits (group.unit ∷ []) (flat_map group_text groups)) in
    ne_eqb (length (flat_map group_text (group ∷ groups))) 0 (λ z. omega (arith, text, z, length-append group.digits (group.unit ∷ flat_map group_text groups)))

-- what is written so is read
pub duration_only : (most : ℕ) (text : List ℕ) (n : ℕ) → IsDuration text n → n ≤ most → duration_of most text ≡ Ok n
duration_only most text n (inl is) h = rw (is_numeral text is.0, is.1) (up_to_again most n h)
duration_only most text n (inr (groups, some, each, parts, total)) h =
    rw (parts, groups_no_number groups some each, groups_some groups some, groups_read groups each, ← total) (up_to_again most n h)
