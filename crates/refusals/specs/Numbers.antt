-- Which numbers the program prints for refusals, and the rows of their parts.
use Rattle.std.specs.Prelude.{ℕ, Bool, true, false, ◌&&◌, ◌==◌, List, [], ◌∷◌, Option, Some, None, option_map, option_and_then, find, bytes_eq, decimal}
use Rattle.std.specs.List.{slice_split}
use Rattle.refusals.specs.declared.row.NumberPlace.{NumberPlace}
use Rattle.refusals.specs.declared.row.NumberPlace.TheVariants as place
use Rattle.refusals.specs.declared.row.Kind.{Kind}
use Rattle.refusals.specs.declared.row.Kind.TheVariants as kind
use Rattle.refusals.specs.Tables.{RowOf, rows}

-- ---- where a number may be, and what follows it

abbrev pub may_be : Kind → NumberPlace → Bool
may_be kind.Whole place.Start = true
may_be kind.Name place.Start = true
may_be kind.Type place.Start = true
may_be kind.Entry place.Start = true
may_be kind.RuleName place.Start = true
may_be kind.Type place.Entry = true
may_be kind.Data place.Entry = true
may_be kind.InnerName place.Entry = true
may_be kind.Name place.Name = true
may_be _ _ = false

abbrev pub behind : Kind → NumberPlace
behind kind.Entry = place.Entry
behind kind.InnerName = place.Name
behind kind.RuleName = place.Name
behind _ = place.End

-- ---- the row of a number, and its words

abbrev pub row_numbered : List RowOf → List ℕ → Option RowOf
row_numbered all number = find (λ row. bytes_eq row.number number) all

abbrev pub words_in : Option RowOf → List ℕ
words_in None = []
words_in (Some row) = row.words

-- what is wrong, in a few words
abbrev pub words_of : ℕ → List ℕ
words_of number = words_in (row_numbered rows (decimal number))

-- ---- numbers with dots between their parts

-- the row of a part, in a place
abbrev pub row_in : List RowOf → NumberPlace → List ℕ → Option RowOf
row_in all at part = find (λ row. may_be row.kind at && bytes_eq row.number part) all

-- where nothing follows, the number ends; elsewhere it does not
abbrev pub ends : NumberPlace → Option (List RowOf)
ends place.End = Some []
ends _ = None

-- the rows of parts, of which the first is in this place
abbrev pub rows_from : List RowOf → NumberPlace → List (List ℕ) → Option (List RowOf)
rows_from all at [] = ends at
rows_from all at (part ∷ parts) =
    option_and_then (λ row. option_map (λ more. row ∷ more) (rows_from all (behind row.kind) parts)) (row_in all at part)

-- what is between the dots
abbrev pub parts_of : List ℕ → List (List ℕ)
parts_of number = slice_split (λ b. b == 46) number

-- the rows of a number that the program prints, one for each part of it
abbrev pub explained : List ℕ → Option (List RowOf)
explained number = rows_from rows place.Start (parts_of number)
