-- The expectations of a text, or its first refusal.
use Rattle.std.specs.Prelude.{ℕ, ◌+◌, ◌-◌, List, [], ◌∷◌, ◌++◌, length, take, drop, Bool, false, if◌then◌else◌, Option, Some, None, Result, Ok, Err, codes, bytes_eq}
use Rattle.std.specs.List.{find, slice_split}
use Rattle.std.specs.Option.{option_to_list}
use Rattle.dns_names.specs.Reading.{absolute_name}
use Rattle.grant_policy.specs.declared.effect.Effect.{Effect}
use Rattle.grant_policy.specs.declared.effect.Effect.TheVariants.{Grant, Deny}
use Rattle.grant_policy.specs.declared.scope.Scope.{Scope}
use Rattle.grant_policy.specs.declared.scope.Scope.TheVariants.{Name, Subtree, Below}
use Rattle.grant_policy.specs.Reading.{identifier_of, type_of}
use Rattle.grant_policy.specs.Words.{action_of}
use Rattle.policy_tools.specs.declared.expectation.ExpectedDecision.{ExpectedDecision}
use Rattle.policy_tools.specs.declared.expectation.Limit.{Limit}
use Rattle.policy_tools.specs.declared.expectation.Expectation.{Expectation}
use Rattle.policy_tools.specs.declared.expectation.Expectation.TheVariants.{Decides, Keeps}
use Rattle.policy_tools.specs.declared.expectation_fault.ExpectationFault.{ExpectationFault}
use Rattle.policy_tools.specs.declared.expectation_fault.ExpectationFault.TheVariants.{Form, NoCaller, TypeNotKept, NoAction, NoRule}
use Rattle.policy_tools.specs.declared.expectation_fault.ExpectationsFault.{ExpectationsFault}
use Rattle.policy_tools.specs.declared.expectation_lines.ExpectationLine.{ExpectationLine}
use Rattle.policy_tools.specs.ExpectationFaults.{or_fault, of_names, ◌>>=◌, ◌>>>=◌}
use Rattle.policy_tools.specs.ExpectationLines.{is_blank, begins_comment, lines_of, place_word}

-- ---- words

-- whether a part of a line begins a comment
abbrev pub is_comment : List ℕ → Bool
is_comment [] = false
is_comment (o ∷ text) = begins_comment o

-- the words among the parts between blanks, up to a comment
abbrev pub words_among : List (List ℕ) → List (List ℕ)
words_among [] = []
words_among ([] ∷ parts) = words_among parts
words_among ((o ∷ text) ∷ parts) = if begins_comment o then [] else (o ∷ text) ∷ words_among parts

-- the parts of a line, between its blanks
abbrev pub parts_of : List ℕ → List (List ℕ)
parts_of line = slice_split is_blank line

abbrev pub words_of : List ℕ → List (List ℕ)
words_of line = words_among (parts_of line)

-- ---- decisions

-- `by` and a rule, or nothing
abbrev pub rule_in : List (List ℕ) → Result (Option (List ℕ)) ExpectationFault
rule_in [] = Ok None
rule_in (by ∷ rule ∷ []) = if bytes_eq by (codes "by") then (or_fault (identifier_of rule) NoRule >>= λ id. Ok (Some id)) else Err Form
rule_in words = Err Form

-- a caller, a name, a type, an action, and maybe a rule
abbrev pub decision_in : Effect → List (List ℕ) → Result ExpectedDecision ExpectationFault
decision_in effect (caller ∷ name ∷ record_type ∷ action ∷ rule) = do
  c ← or_fault (identifier_of caller) NoCaller
  n ← of_names (absolute_name name)
  t ← or_fault (type_of record_type) TypeNotKept
  a ← or_fault (action_of action) NoAction
  r ← rule_in rule
  Ok (record { effect = effect; caller = c; name = n; record_type = t; action = a; rule = r })
decision_in effect words = Err Form

-- ---- limits

-- an identifier that is not `nobody`
abbrev pub listable_of : List ℕ → Option (List ℕ)
listable_of word = if bytes_eq word (codes "nobody") then None else identifier_of word

abbrev pub callers_in : List (List ℕ) → Result (List (List ℕ)) ExpectationFault
callers_in [] = Ok []
callers_in (word ∷ words) = do
  first ← or_fault (listable_of word) NoCaller
  others ← callers_in words
  Ok (first ∷ others)

-- `nobody`, and no more
abbrev pub is_nobody : List (List ℕ) → Bool
is_nobody (word ∷ []) = bytes_eq word (codes "nobody")
is_nobody words = false

-- one caller or more, or `nobody`
abbrev pub listed_in : List (List ℕ) → Result (List (List ℕ)) ExpectationFault
listed_in [] = Err Form
listed_in (word ∷ words) = if is_nobody (word ∷ words) then Ok [] else callers_in (word ∷ words)

-- `*`, or one
abbrev pub one_in : {X : Type 0} → (List ℕ → Option X) → ExpectationFault → List ℕ → Result (Option (List X)) ExpectationFault
one_in read fault word = if bytes_eq word (codes "*") then Ok None else (or_fault (read word) fault >>= λ x. Ok (Some (x ∷ [])))

-- which names it is about
abbrev pub place_of : List ℕ → Option Scope
place_of word = find (λ scope. bytes_eq (place_word scope) word) (Name ∷ Subtree ∷ Below ∷ [])

-- callers, an action, a type, a place and a name
abbrev pub limit_by : List (List ℕ) → List ℕ → List ℕ → List ℕ → List ℕ → Result Limit ExpectationFault
limit_by callers action record_type place name = do
  cs ← listed_in callers
  acts ← one_in action_of NoAction action
  ts ← one_in type_of TypeNotKept record_type
  scope ← or_fault (place_of place) Form
  at ← of_names (absolute_name name)
  Ok (record { callers = cs; actions = acts; types = ts; scope = scope; at = at })

-- callers and, after `may`, the others
abbrev pub limit_of : List (List ℕ) → List (List ℕ) → Result Limit ExpectationFault
limit_of callers (may ∷ action ∷ record_type ∷ place ∷ name ∷ []) =
    if bytes_eq may (codes "may") then limit_by callers action record_type place name else Err Form
limit_of callers words = Err Form

-- callers, and five words at the end
abbrev pub limit_in : List (List ℕ) → Result Limit ExpectationFault
limit_in words = limit_of (take (length words - 5) words) (drop (length words - 5) words)

-- ---- lines

-- what words expect, by the first of them
abbrev pub expectation_in : List (List ℕ) → Result (Option Expectation) ExpectationFault
expectation_in [] = Ok None
expectation_in (word ∷ words) =
    if bytes_eq word (codes "granted") then (decision_in Grant words >>= λ e. Ok (Some (Decides e)))
    else (if bytes_eq word (codes "denied") then (decision_in Deny words >>= λ e. Ok (Some (Decides e)))
    else (if bytes_eq word (codes "only") then (limit_in words >>= λ l. Ok (Some (Keeps l))) else Err Form))

-- ---- texts

-- the row of a line that has this number, if it expects something
abbrev pub row_of : ℕ → Result (Option Expectation) ExpectationFault → Result (Option ExpectationLine) ExpectationsFault
row_of number (Ok None) = Ok None
row_of number (Ok (Some e)) = Ok (Some (record { line = number; expectation = e }))
row_of number (Err fault) = Err (record { line = number; fault = fault })

-- the expectations of lines, from this number on
abbrev pub expectations_from : ℕ → List (List ℕ) → Result (List ExpectationLine) ExpectationsFault
expectations_from number [] = Ok []
expectations_from number (line ∷ lines) =
    row_of number (expectation_in (words_of line)) >>>= λ row. expectations_from (number + 1) lines >>>= λ rows. Ok (option_to_list row ++ rows)

abbrev pub expectations_of : List ℕ → Result (List ExpectationLine) ExpectationsFault
expectations_of text = expectations_from 1 (lines_of text)
