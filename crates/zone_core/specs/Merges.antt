-- Rows in record order, out of which records go and into which others come.
use Rattle.std.specs.Prelude.{List, [], ◌∷◌, ◌++◌, drop, Bool, false, cond}
use Rattle.std.specs.Ordering.{is_lt, is_eq}
use Rattle.dns_data.specs.declared.record.Record.{Record}
use Rattle.zone_core.specs.Sets.{record_order}

-- the records before one, as far as they stand first
abbrev pub before : Record → List Record → List Record
before r [] = []
before r (x ∷ xs) = cond (is_lt (record_order x r)) (x ∷ before r xs) []

-- and the others
abbrev pub behind : Record → List Record → List Record
behind r [] = []
behind r (x ∷ xs) = cond (is_lt (record_order x r)) (behind r xs) (x ∷ xs)

-- whether the first of some records is the same as one
abbrev pub is_first : Record → List Record → Bool
is_first r [] = false
is_first r (x ∷ xs) = is_eq (record_order x r)

-- the rows without those that go, and with those that come
abbrev pub merged : List Record → List Record → List Record → List Record
merged [] gone come = come
merged (r ∷ rs) gone come = before r come ++ cond (is_first r gone) (merged rs (drop 1 gone) (behind r come)) (r ∷ merged rs gone (behind r come))
