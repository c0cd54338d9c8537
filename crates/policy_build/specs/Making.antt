-- The rules that entries make, in order, with the refusal that comes first.
use Rattle.std.specs.Prelude.{ℕ, ◌+◌, ◌*◌, List, [], ◌∷◌, ◌++◌, length, map, Bool, Result, Ok, Err, if◌then◌else◌, ◌==◌, bytes_eq, codes, decimal}
use Rattle.std.specs.List.{list_any}
use Rattle.grant_policy.specs.declared.callers.Callers.{Callers}
use Rattle.grant_policy.specs.declared.rule.Rule.{Rule}
use Rattle.grant_policy.specs.Reading.{is_identifier}
use Rattle.policy_build.specs.declared.build_fault.BuildFault.{BuildFault}
use Rattle.policy_build.specs.declared.build_fault.BuildFault.TheVariants.{Repeated, Reserved, IdTooLong}
use Rattle.policy_build.specs.declared.building.Built.{Built}
use Rattle.policy_build.specs.declared.building.Pair.{Pair}
use Rattle.policy_build.specs.declared.made_rule.MadeRule.{MadeRule}
use Rattle.policy_build.specs.declared.names.Names.{Names}
use Rattle.policy_build.specs.declared.place.FileKey.TheVariants as key
use Rattle.policy_build.specs.declared.place.Place.{Place}
use Rattle.policy_build.specs.Entries.{EntryOf, entry_of, entries_in, few_rules}
use Rattle.policy_build.specs.Faults.{◌>>=◌}
use Rattle.policy_build.specs.Places.{at_key}
use Rattle.policy_build.specs.Resolving.{RowOf, members_from, rows_from}
use Rattle.policy_build.specs.Sources.{SourceOf}

-- a caller, or every caller, and names
pub record PairOf : Type 0 where
  pub callers : Callers
  pub names : Names

-- a rule of the office, and the number of the entry that it is made of, from 0
pub record MadeOf : Type 0 where
  pub rule : Rule
  pub entry : ℕ

-- what is built of a file
pub record BuiltOf : Type 0 where
  pub entries : List EntryOf
  pub rules : List MadeOf

-- ---- pairs

-- a caller with each of some names
abbrev pub pairs_with : Callers → List Names → List PairOf
pairs_with callers names = map (λ one. record { callers = callers; names = one }) names

-- the pairs so far, and each of some callers with each of some names
abbrev pub products : List PairOf → List Callers → List Names → List PairOf
products before [] names = before
products before (one ∷ callers) names = products (before ++ pairs_with one names) callers names

-- ---- ids

-- the one rule of an entry has its id; of several each has a dot and its number after it
abbrev pub made_id : List ℕ → ℕ → ℕ → List ℕ
made_id id count number = if count == 1 then id else id ++ 46 ∷ decimal number

-- whether a rule has an id
abbrev pub is_taken : List ℕ → List MadeOf → Bool
is_taken id rules = list_any (λ made. bytes_eq made.rule.id id) rules

-- an identifier that no rule before has, nor the closing default
abbrev pub free_id : Place → List MadeOf → List ℕ → Result (List ℕ) BuildFault
free_id place rules text =
    if bytes_eq text (codes "closing")
    then Err (Reserved place)
    else (if is_taken text rules then Err (Repeated place) else (if is_identifier text then Ok text else Err (IdTooLong place)))

-- ---- rules

-- the rule of an entry for a pair
abbrev pub rule_for : EntryOf → List ℕ → PairOf → Rule
rule_for entry id pair = record {
  id = id;
  effect = entry.rule.effect;
  callers = pair.callers;
  scope = pair.names.scope;
  at = pair.names.at;
  types = entry.rule.types;
  actions = entry.rule.actions;
}

-- the rules so far, and one of those of the entry of this number
abbrev pub with_rule : EntryOf → ℕ → ℕ → ℕ → List MadeOf → PairOf → Result (List MadeOf) BuildFault
with_rule entry number count k before pair =
    free_id entry.place before (made_id entry.id count k) >>= λ id. Ok (before ++ record { rule = rule_for entry id pair; entry = number } ∷ [])

-- the rules so far, and those for pairs, from the k-th on
abbrev pub numbered : EntryOf → ℕ → ℕ → ℕ → List MadeOf → List PairOf → Result (List MadeOf) BuildFault
numbered entry number count k before [] = Ok before
numbered entry number count k before (pair ∷ pairs) =
    with_rule entry number count k before pair >>= λ made. numbered entry number count (k + 1) made pairs

module _ (callers : List (RowOf Callers)) (names : List (RowOf Names)) where
  -- the rules so far, and those of an entry
  abbrev pub made_in : ℕ → List MadeOf → EntryOf → Result (List MadeOf) BuildFault
  made_in number before entry = do
    cs ← members_from (at_key entry.callers.place key.Callers) callers [] entry.callers.members
    ns ← members_from (at_key entry.names.place key.Names) names [] entry.names.members
    count ← few_rules entry.place (length before + length cs * length ns)
    numbered entry number (length (products [] cs ns)) 1 before (products [] cs ns)

  -- the rules so far, and those of entries in order, from that of this number on
  abbrev pub made_from : ℕ → List MadeOf → List EntryOf → Result (List MadeOf) BuildFault
  made_from number before [] = Ok before
  made_from number before (entry ∷ entries) = made_in number before entry >>= λ made. made_from (number + 1) made entries

-- what is built of a file
abbrev pub built_of : SourceOf → Result BuiltOf BuildFault
built_of source = do
  callers ← rows_from [] source.callers
  names ← rows_from [] source.names
  entries ← entries_in source
  rules ← made_from callers names 0 [] entries
  Ok (record { entries = entries; rules = rules })

-- ---- as the program has them

abbrev pub pair_of : Pair → PairOf
pair_of p = record { callers = p.callers.now; names = p.names.now }

abbrev pub made_of : MadeRule → MadeOf
made_of m = record {
  rule = record {
    id = m.id;
    effect = m.effect;
    callers = m.callers.now;
    scope = m.names.now.scope;
    at = m.names.now.at;
    types = m.types.now;
    actions = m.actions.now;
  };
  entry = m.entry;
}

abbrev pub built_view : Built → BuiltOf
built_view b = record { entries = map entry_of b.entries.items; rules = map made_of b.rules.items }

-- the rules of the office
abbrev pub rules_made : List MadeOf → List Rule
rules_made made = map (λ m. m.rule) made
