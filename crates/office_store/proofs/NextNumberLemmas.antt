-- The number of the next change of a zone.
use Rattle.std.proofs.Common.{◌≡◌, ℕ, suc, ◌+◌, true, false, List, [], ◌∷◌, ◌++◌, length, map, fold, refl, sym, ap, ◌∙◌, arith}
use Rattle.std.specs.List.{AllByRecursion}
use Rattle.sqlite_keyed.proofs.ListLemmas.{all_weaker, test_from_all}
use Rattle.dns_names.specs.Order.{same_name}
use Rattle.dns_data.specs.declared.record.Record.{Record}
use Rattle.zone_core.proofs.SetLemmas.{name_self}
use Rattle.zone_core.specs.Changes.{ChangeOf, is_empty}
use Rattle.store_rows.specs.declared.changes.ChangedRecord.{ChangedRecord}
use Rattle.store_rows.specs.declared.side.Side.{Side}
use Rattle.store_rows.specs.declared.side.Side.TheVariants.{Removed, Added}
use Rattle.store_rows.specs.ChangeRows.{are_numbered, are_of_one, gathered}
use Rattle.store_rows.proofs.GatheringLaws.{entry, sides, entries}
use Rattle.store_rows.proofs.GatheredLaws.{IsSome, whole}
use Rattle.office_store.specs.MigrationSteps.{last_number}

abbrev Labels : Type 0
Labels = List (List ℕ)

-- the number of the last, and this for an empty list
abbrev last_from : ℕ → List ChangedRecord → ℕ
last_from n cs = fold (λ (m : ℕ) (c : ChangedRecord). c.number) n cs

last_of_two : (n : ℕ) (xs ys : List ChangedRecord) → last_from n (xs ++ ys) ≡ last_from (last_from n xs) ys
last_of_two n [] ys = refl
last_of_two n (x ∷ xs) ys = last_of_two x.number xs ys

last_of_side : (o : Labels) (n : ℕ) (s : Side) (rs : List Record) → last_from n (map (entry o n s) rs) ≡ n
last_of_side o n s [] = refl
last_of_side o n s (r ∷ rs) = last_of_side o n s rs

last_of_change : (o : Labels) (m n : ℕ) (removed added : List Record) → is_empty (record { removed = removed; added = added }) ≡ false → last_from m (sides o n removed added) ≡ n
last_of_change o m n [] [] some = absurd cc
last_of_change o m n [] (r ∷ added) some = last_of_side o n Added added
last_of_change o m n (r ∷ removed) added some =
    last_of_two n (map (entry o n Removed) removed) (map (entry o n Added) added) ∙ ap (λ k. last_from k (map (entry o n Added) added)) (last_of_side o n Removed removed) ∙ last_of_side o n Added added

one_later : (m : ℕ) (c : ChangeOf) (cs : List ChangeOf) → suc m + length cs ≡ m + length (c ∷ cs)
one_later m c cs = omega arith

none_later : (m : ℕ) → m ≡ m + 0
none_later m = omega arith

last_of_entries : (o : Labels) (m : ℕ) (cs : List ChangeOf) → AllByRecursion IsSome cs → last_from m (entries o (suc m) cs) ≡ m + length cs
last_of_entries o m [] each = none_later m
last_of_entries o m (c ∷ cs) each =
    last_of_two m (sides o (suc m) c.removed c.added) (entries o (suc (suc m)) cs)
    ∙ ap (λ k. last_from k (entries o (suc (suc m)) cs)) (last_of_change o m (suc m) c.removed c.added each.0)
    ∙ last_of_entries o (suc m) cs each.1 ∙ one_later m c cs

-- the last number of changes that are numbered is how many they are
pub last_counts : (o : Labels) (cs : List ChangedRecord) → AllByRecursion (λ c. c.origin ≡ o) cs → are_numbered cs ≡ true → last_number cs ≡ length (gathered cs)
last_counts o [] all numbered = refl
last_counts o (c ∷ cs) all numbered =
    let one : are_of_one (c ∷ cs) ≡ true = test_from_all (λ (d : ChangedRecord). same_name d.origin c.origin) cs (all_weaker (λ d. d.origin ≡ o) (λ d. same_name d.origin c.origin ≡ true) (λ d is. ap (λ p. same_name p c.origin) (is ∙ sym all.0) ∙ name_self c.origin) cs all.1) in
    let w = whole c cs one numbered in
    ap last_number (sym w.entries_are) ∙ last_of_entries c.origin 0 (gathered (c ∷ cs)) w.each ∙ zero_and (length (gathered (c ∷ cs)))
  where
    zero_and : (n : ℕ) → 0 + n ≡ n
    zero_and n = omega arith
