-- The rows of matches: what a first use of an argument adds, and what defaults add.
use Rattle.std.proofs.Common.{◌≡◌, ◌∙◌, ◌||◌, ap, refl, Bool, true, false, List, [], ◌∷◌, ◌++◌, append-nil, Option, Some, None, is_some, inl, inr}
use Rattle.std.specs.Prelude.{◌⊎◌, find, fold, not}
use Rattle.std.specs.List.{list_all}
use Rattle.std.specs.Option.{option_map_or, option_or}
use Rattle.std.specs.Str.{bytes_eq}
use Rattle.std.proofs.lemmas.List.Folds.{find-append}
use Rattle.clap.specs.Words.{Row, Rule, Text}
use Rattle.clap.specs.Walk.{at_row, default_rows, has_row, more_values, reading_by, with_default, with_values, without}
use Rattle.clap.specs.declared.builder.value_parser.Reading.{Reading}
use Rattle.clap.specs.declared.parser.matches.ValueSource.{ValueSource}
use Rattle.clap.specs.declared.parser.matches.ValueSource.TheVariants.{DefaultValue}
use Rattle.clap.proofs.WalkLemmas.{both}

-- the row of an id
abbrev pub row_at : Text → List Row → Option Row
row_at n rows = find (λ r. bytes_eq r.id n) rows

-- the row of an argument that has these values
abbrev pub row_with : Text → Reading → ValueSource → List Text → Row
row_with n how source vs = record { id = n; values = vs; count = None; source = Some source; reading = how }

-- a row that is not there is not changed, and another comes to the end
at_missing : (n : Text) (change : Row → List Row) (missing rows : List Row) → row_at n rows ≡ None → at_row n change missing rows ≡ rows ++ missing
at_missing n change missing [] none = refl
at_missing n change missing (r ∷ rows) none = go (bytes_eq r.id n) refl (at_missing n change missing rows)
  where
    go : (b : Bool) → bytes_eq r.id n ≡ b → (row_at n rows ≡ None → at_row n change missing rows ≡ rows ++ missing)
        → at_row n change missing (r ∷ rows) ≡ r ∷ (rows ++ missing)
    go true is rest = let found : Some r ≡ None = rw is at none in cc
    go false is rest = rw is (ap (λ xs. r ∷ xs) (rest (rw is at none)))

-- a first use of an argument
pub row_added : (n : Text) (how : Reading) (source : ValueSource) (vs : List Text) (rows : List Row) → row_at n rows ≡ None
    → with_values n how source vs (without n rows) ≡ rows ++ row_with n how source vs ∷ []
row_added n how source vs rows none =
    let kept : without n rows ≡ rows = at_missing n (λ r. []) [] rows none ∙ append-nil rows in
    rw kept (at_missing n (more_values source vs) (row_with n how source vs ∷ []) rows none)

pub row_new : (n : Text) (rows : List Row) (x : Row) → row_at n rows ≡ None → bytes_eq x.id n ≡ true → row_at n (rows ++ x ∷ []) ≡ Some x
row_new n rows x none is = rw (find-append (λ r. bytes_eq r.id n) rows (x ∷ []), none, is) refl

pub row_kept : (n : Text) (rows more : List Row) (y : Row) → row_at n rows ≡ Some y → row_at n (rows ++ more) ≡ Some y
row_kept n rows more y is = rw (find-append (λ r. bytes_eq r.id n) rows more, is) refl

pub row_other : (n : Text) (rows : List Row) (x : Row) → bytes_eq x.id n ≡ false → row_at n (rows ++ x ∷ []) ≡ row_at n rows
row_other n rows x other = rw (find-append (λ r. bytes_eq r.id n) rows (x ∷ [])) (go (row_at n rows))
  where
    go : (o : Option Row) → option_or o (row_at n (x ∷ [])) ≡ o
    go (Some y) = refl
    go None = rw other refl

has_row-row_at : (n : Text) (rows : List Row) → has_row n rows ≡ is_some (row_at n rows)
has_row-row_at n [] = refl
has_row-row_at n (r ∷ rows) = go (bytes_eq r.id n) refl (has_row-row_at n rows)
  where
    go : (b : Bool) → bytes_eq r.id n ≡ b → has_row n rows ≡ is_some (row_at n rows) → has_row n (r ∷ rows) ≡ is_some (row_at n (r ∷ rows))
    go true is rest = rw is refl
    go false is rest = rw is rest

-- ---- defaults

abbrev default_row : Rule → Row
default_row a = row_with a.id (reading_by a) DefaultValue a.defaults

-- an argument without a row gets one with its default values, if it has any
default_is : (rows : List Row) (a : Rule)
    → (with_default rows a ≡ rows) ⊎ ((row_at a.id rows ≡ None) × (with_default rows a ≡ rows ++ default_row a ∷ []))
default_is rows a = go (row_at a.id rows) refl
  where
    fresh : (ds : List Text) → row_at a.id rows ≡ None
        → (default_rows a.id (reading_by a) ds rows ≡ rows) ⊎ ((row_at a.id rows ≡ None) × (default_rows a.id (reading_by a) ds rows ≡ rows ++ row_with a.id (reading_by a) DefaultValue ds ∷ []))
    fresh [] none = inl refl
    fresh (d ∷ ds) none = inr (none, at_missing a.id (more_values DefaultValue (d ∷ ds)) (row_with a.id (reading_by a) DefaultValue (d ∷ ds) ∷ []) rows none)

    by_defaults : with_default rows a ≡ default_rows a.id (reading_by a) a.defaults rows
        → (default_rows a.id (reading_by a) a.defaults rows ≡ rows) ⊎ ((row_at a.id rows ≡ None) × (default_rows a.id (reading_by a) a.defaults rows ≡ rows ++ default_row a ∷ []))
        → (with_default rows a ≡ rows) ⊎ ((row_at a.id rows ≡ None) × (with_default rows a ≡ rows ++ default_row a ∷ []))
    by_defaults e (inl same) = inl (e ∙ same)
    by_defaults e (inr more) = inr (more.0, e ∙ more.1)

    go : (o : Option Row) → row_at a.id rows ≡ o
        → (with_default rows a ≡ rows) ⊎ ((row_at a.id rows ≡ None) × (with_default rows a ≡ rows ++ default_row a ∷ []))
    go (Some y) is = inl (rw (has_row-row_at a.id rows, is) refl)
    go None is = by_defaults (rw (has_row-row_at a.id rows, is) refl) (fresh a.defaults is)

kept_default : (n : Text) (rows : List Row) (a : Rule) (y : Row) → row_at n rows ≡ Some y → row_at n (with_default rows a) ≡ Some y
kept_default n rows a y is = go (default_is rows a)
  where
    go : (with_default rows a ≡ rows) ⊎ ((row_at a.id rows ≡ None) × (with_default rows a ≡ rows ++ default_row a ∷ [])) → row_at n (with_default rows a) ≡ Some y
    go (inl e) = ap (row_at n) e ∙ is
    go (inr e) = ap (row_at n) e.1 ∙ row_kept n rows (default_row a ∷ []) y is

-- a row that is there stays
pub row_stays : (n : Text) (rows : List Row) (c : List Rule) (y : Row) → row_at n rows ≡ Some y → row_at n (fold with_default rows c) ≡ Some y
row_stays n rows [] y is = is
row_stays n rows (a ∷ c) y is = row_stays n (with_default rows a) c y (kept_default n rows a y is)

-- the row of an id, if there is one, has values that pass the test
abbrev pub values_pass : (List Text → Bool) → Text → List Row → Bool
values_pass test n rows = option_map_or (λ r. test r.values) (row_at n rows) true

abbrev pub default_passes : (List Text → Bool) → Text → Rule → Bool
default_passes test n a = not (bytes_eq a.id n) || test a.defaults

passes_added : (test : List Text → Bool) (n : Text) (rows : List Row) (a : Rule) → values_pass test n rows ≡ true → default_passes test n a ≡ true
    → values_pass test n (rows ++ default_row a ∷ []) ≡ true
passes_added test n rows a passes fine = go (bytes_eq a.id n) refl (row_at n rows) refl
  where
    go : (b : Bool) → bytes_eq a.id n ≡ b → (o : Option Row) → row_at n rows ≡ o → values_pass test n (rows ++ default_row a ∷ []) ≡ true
    go false other o is = rw (row_other n rows (default_row a) other) passes
    go true same (Some y) is = rw (row_kept n rows (default_row a ∷ []) y is) (rw is at passes)
    go true same None is = rw (row_new n rows (default_row a) is same) (rw same at fine)

passes_default : (test : List Text → Bool) (n : Text) (rows : List Row) (a : Rule) → values_pass test n rows ≡ true → default_passes test n a ≡ true
    → values_pass test n (with_default rows a) ≡ true
passes_default test n rows a passes fine = go (default_is rows a)
  where
    go : (with_default rows a ≡ rows) ⊎ ((row_at a.id rows ≡ None) × (with_default rows a ≡ rows ++ default_row a ∷ [])) → values_pass test n (with_default rows a) ≡ true
    go (inl e) = ap (values_pass test n) e ∙ passes
    go (inr e) = ap (values_pass test n) e.1 ∙ passes_added test n rows a passes fine

-- and so it does after defaults that pass it
pub values_stay : (test : List Text → Bool) (n : Text) (rows : List Row) (c : List Rule) → values_pass test n rows ≡ true
    → list_all (default_passes test n) c ≡ true → values_pass test n (fold with_default rows c) ≡ true
values_stay test n rows [] passes fine = passes
values_stay test n rows (a ∷ c) passes fine =
    let each = both _ _ fine in
    values_stay test n (with_default rows a) c (passes_default test n rows a passes each.0) each.1
