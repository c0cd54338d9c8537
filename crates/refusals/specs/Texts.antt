-- Rows as texts: for a person, and as JSON (RFC 8259).
use Rattle.std.specs.Prelude.{ℕ, List, [], ◌∷◌, ◌++◌, codes}
use Rattle.std.specs.List.{flat_map}
use Rattle.refusals.specs.Tables.{RowOf}

-- ---- for a person

-- a line for the source, where there is one
abbrev pub source_line : List ℕ → List ℕ
source_line [] = []
source_line (c ∷ cs) = codes "    " ++ (c ∷ cs) ++ 10 ∷ []

-- its number and its name, what it means, and what to do
abbrev pub row_head : RowOf → List ℕ
row_head row = row.number ++ (codes "  " ++ (row.name ++ (codes "\n    " ++ (row.meaning ++ (codes "\n    " ++ (row.advice ++ codes "\n"))))))

abbrev pub row_text : RowOf → List ℕ
row_text row = row_head row ++ source_line row.source

abbrev pub text_of : List RowOf → List ℕ
text_of rows = flat_map row_text rows

-- ---- as JSON

-- an object, whose texts need no escape
abbrev pub row_json : RowOf → List ℕ
row_json row = codes "{\"number\":\"" ++ (row.number ++ (codes "\",\"name\":\"" ++ (row.name ++ (codes "\",\"meaning\":\"" ++ (row.meaning
    ++ (codes "\",\"advice\":\"" ++ (row.advice ++ (codes "\",\"source\":\"" ++ (row.source ++ codes "\"}")))))))))

-- each further row is after a comma, on a line of its own
abbrev pub further : List RowOf → List ℕ
further rows = flat_map (λ row. codes ",\n" ++ row_json row) rows

-- an array, a row a line
abbrev pub json_of : List RowOf → List ℕ
json_of [] = codes "[]\n"
json_of (row ∷ rows) = codes "[" ++ (row_json row ++ (further rows ++ codes "]\n"))
