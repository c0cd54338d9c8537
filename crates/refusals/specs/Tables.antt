-- The tables of refusals, as src/table.rt has them.
use Rattle.std.specs.Prelude.{ℕ, List, ◌++◌, map}
use Rattle.std.specs.Borrow.{Bor}
use Rattle.refusals.specs.declared.row.Kind.{Kind}
use Rattle.refusals.specs.declared.row.RefusalRow.{RefusalRow}
use Rattle.refusals.specs.declared.table.TheConstants.{NAMES, DATA, FILES, ZONES, POLICIES, STORES, REQUESTS, COMMANDS, CODES}

-- a refusal in words: its number or its code, where that is printed, its name, what is wrong in a few words, what it means, what to do, and
-- the standard
pub record RowOf : Type 0 where
  pub number : List ℕ
  pub kind : Kind
  pub name : List ℕ
  pub words : List ℕ
  pub meaning : List ℕ
  pub advice : List ℕ
  pub source : List ℕ

-- a row, by its texts
abbrev pub row_of : RefusalRow → RowOf
row_of row = record { number = row.number.now; kind = row.kind; name = row.name.now; words = row.words.now; meaning = row.meaning.now; advice = row.advice.now; source = row.source.now }

unfoldable pub name_rows : List RowOf
name_rows = map (λ r. record { number = r.0.now; kind = r.1; name = r.2.now; words = r.3.now; meaning = r.4.now; advice = r.5.now; source = r.6.now }) NAMES

unfoldable pub data_rows : List RowOf
data_rows = map (λ r. record { number = r.0.now; kind = r.1; name = r.2.now; words = r.3.now; meaning = r.4.now; advice = r.5.now; source = r.6.now }) DATA

unfoldable pub file_rows : List RowOf
file_rows = map (λ r. record { number = r.0.now; kind = r.1; name = r.2.now; words = r.3.now; meaning = r.4.now; advice = r.5.now; source = r.6.now }) FILES

unfoldable pub zone_rows : List RowOf
zone_rows = map (λ r. record { number = r.0.now; kind = r.1; name = r.2.now; words = r.3.now; meaning = r.4.now; advice = r.5.now; source = r.6.now }) ZONES

unfoldable pub policy_rows : List RowOf
policy_rows = map (λ r. record { number = r.0.now; kind = r.1; name = r.2.now; words = r.3.now; meaning = r.4.now; advice = r.5.now; source = r.6.now }) POLICIES

unfoldable pub store_rows : List RowOf
store_rows = map (λ r. record { number = r.0.now; kind = r.1; name = r.2.now; words = r.3.now; meaning = r.4.now; advice = r.5.now; source = r.6.now }) STORES

unfoldable pub request_rows : List RowOf
request_rows = map (λ r. record { number = r.0.now; kind = r.1; name = r.2.now; words = r.3.now; meaning = r.4.now; advice = r.5.now; source = r.6.now }) REQUESTS

unfoldable pub command_rows : List RowOf
command_rows = map (λ r. record { number = r.0.now; kind = r.1; name = r.2.now; words = r.3.now; meaning = r.4.now; advice = r.5.now; source = r.6.now }) COMMANDS

unfoldable pub code_rows : List RowOf
code_rows = map (λ r. record { number = r.0.now; kind = r.1; name = r.2.now; words = r.3.now; meaning = r.4.now; advice = r.5.now; source = r.6.now }) CODES

-- the rows of what an input has, and all of them
unfoldable pub input_rows : List RowOf
input_rows = name_rows ++ data_rows ++ file_rows ++ zone_rows ++ policy_rows

unfoldable pub rows : List RowOf
rows = input_rows ++ store_rows ++ request_rows ++ command_rows ++ code_rows
