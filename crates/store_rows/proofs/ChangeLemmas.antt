-- The rows of a zone's changes, and of one more.
use Rattle.std.proofs.Common.{◌≡◌, ℕ, suc, ◌+◌, List, [], ◌∷◌, ◌++◌, length, map, refl, sym, ap, ◌∙◌, arith, append_assoc, append-nil}
use Rattle.dns_data.specs.declared.record.Record.{Record}
use Rattle.zone_core.specs.Changes.{ChangeOf}
use Rattle.store_sql.specs.Rows.{RecordRowOf}
use Rattle.store_rows.specs.declared.side.Side.{Side}
use Rattle.store_rows.specs.declared.side.Side.TheVariants.{Removed, Added}
use Rattle.store_rows.specs.ChangeRows.{change_row, change_rows, changes_rows, row_on_side}
use Rattle.store_rows.specs.RecordRows.{record_row}

abbrev Labels : Type 0
Labels = List (List ℕ)

one_later : (n : ℕ) (c : ChangeOf) (cs : List ChangeOf) → suc n + length cs ≡ n + length (c ∷ cs)
one_later n c cs = omega arith

none_later : (n : ℕ) → n ≡ n + 0
none_later n = omega arith

changes_from : (o : Labels) (n : ℕ) (cs : List ChangeOf) (c : ChangeOf) → changes_rows o n (cs ++ c ∷ []) ≡ changes_rows o n cs ++ change_rows o (n + length cs) c
changes_from o n [] c = append-nil (change_rows o n c) ∙ ap (λ m. change_rows o m c) (none_later n)
changes_from o n (d ∷ cs) c =
    ap (λ rows. change_rows o n d ++ rows) (changes_from o (suc n) cs c ∙ ap (λ m. changes_rows o (suc n) cs ++ change_rows o m c) (one_later n d cs))
    ∙ sym (append_assoc (change_rows o n d) (changes_rows o (suc n) cs) (change_rows o (n + length (d ∷ cs)) c))

first_number : (n : ℕ) → 1 + n ≡ suc n
first_number n = omega arith

-- the last change has the number after that of the one before it
pub changes_more : (o : Labels) (cs : List ChangeOf) (c : ChangeOf) → changes_rows o 1 (cs ++ c ∷ []) ≡ changes_rows o 1 cs ++ change_rows o (suc (length cs)) c
changes_more o cs c = changes_from o 1 cs c ∙ ap (λ n. changes_rows o 1 cs ++ change_rows o n c) (first_number (length cs))

-- ---- the rows of sides, by those of the records

on_side : (o : Labels) (n : ℕ) (side : Side) (rs : List Record) → map (row_on_side n side) (map (record_row o) rs) ≡ map (change_row o n side) rs
on_side o n side [] = refl
on_side o n side (r ∷ rs) = ap (λ l. change_row o n side r ∷ l) (on_side o n side rs)

-- they are those of the change
pub sides_make : (o : Labels) (n : ℕ) (c : ChangeOf) (removed added : List RecordRowOf) → removed ≡ map (record_row o) c.removed → added ≡ map (record_row o) c.added
    → map (row_on_side n Removed) removed ++ map (row_on_side n Added) added ≡ change_rows o n c
sides_make o n c removed added went came =
    (λ i. map (row_on_side n Removed) (went i) ++ map (row_on_side n Added) (came i)) ∙ (λ i. on_side o n Removed c.removed i ++ on_side o n Added c.added i)
