-- Rows that go, and lists in another order.
use Rattle.std.proofs.Common.{◌≡◌, false, not, ◌||◌, Bool, true, List, [], ◌∷◌, ◌++◌, IsPermutation, refl, ap, subst, ◌∙◌, append_assoc}
use Rattle.std.specs.List.{list_any}
use Rattle.std.proofs.lemmas.List.Sorted.{IsPermutation-trans, IsPermutation-append, IsPermutation-append_left}
use Rattle.sqlite_trees.proofs.ListLemmas.{filter_same, all_weaker, all_both}
use Rattle.store_sql.specs.Rows.{RecordRowOf, same_key, without}
use Rattle.store_rows.proofs.ListLemmas.{turned_last}
use Rattle.store_rows.proofs.RecordLemmas.{Stay}

-- ---- rows that go

abbrev Rows : Type 0
Rows = List RecordRowOf

any_of_two : (r : RecordRowOf) (gone more : Rows) → list_any (λ g. same_key g r) (gone ++ more) ≡ (list_any (λ g. same_key g r) gone || list_any (λ g. same_key g r) more)
any_of_two r [] more = refl
any_of_two r (g ∷ gone) more = either (same_key g r) (list_any (λ x. same_key x r) (gone ++ more)) (list_any (λ x. same_key x r) gone) (list_any (λ x. same_key x r) more) (any_of_two r gone more)
  where
    either : (b x y z : Bool) → x ≡ (y || z) → (b || x) ≡ ((b || y) || z)
    either true x y z e = refl
    either false x y z e = e

pub stay_none : (rows : Rows) → Stay [] rows
stay_none [] = tt
stay_none (r ∷ rows) = (refl, stay_none rows)

pub stay_both : (gone more rows : Rows) → Stay gone rows → Stay more rows → Stay (gone ++ more) rows
stay_both gone more rows first second =
    all_both (λ r. list_any (λ g. same_key g r) gone ≡ false) (λ r. list_any (λ g. same_key g r) more ≡ false) (λ r. list_any (λ g. same_key g r) (gone ++ more) ≡ false)
    (λ r e f. any_of_two r gone more ∙ (λ i. e i || f i)) rows first second

or_false : (b : Bool) → (b || false) ≡ b
or_false true = refl
or_false false = refl

-- what goes elsewhere does not count
pub without_first : (gone more rows : Rows) → Stay more rows → without (gone ++ more) rows ≡ without gone rows
without_first gone more rows stay =
    filter_same (λ r. not (list_any (λ g. same_key g r) (gone ++ more))) (λ r. not (list_any (λ g. same_key g r) gone)) rows
    (all_weaker (λ r. list_any (λ g. same_key g r) more ≡ false) (λ r. not (list_any (λ g. same_key g r) (gone ++ more)) ≡ not (list_any (λ g. same_key g r) gone))
    (λ r e. ap not (any_of_two r gone more ∙ ap (λ b. list_any (λ g. same_key g r) gone || b) e ∙ or_false (list_any (λ g. same_key g r) gone))) rows stay)

pub without_second : (gone more rows : Rows) → Stay gone rows → without (gone ++ more) rows ≡ without more rows
without_second gone more rows stay =
    filter_same (λ r. not (list_any (λ g. same_key g r) (gone ++ more))) (λ r. not (list_any (λ g. same_key g r) more)) rows
    (all_weaker (λ r. list_any (λ g. same_key g r) gone ≡ false) (λ r. not (list_any (λ g. same_key g r) (gone ++ more)) ≡ not (list_any (λ g. same_key g r) more))
    (λ r e. ap not (any_of_two r gone more ∙ ap (λ b. b || list_any (λ g. same_key g r) more) e)) rows stay)

-- ---- lists in another order

module _ {X : Type 0} where
  -- two pairs of lists, joined across
  across : (a b c d : List X) → IsPermutation ((a ++ c) ++ (b ++ d)) ((a ++ b) ++ (c ++ d))
  across a b c d =
      subst (λ (l : List X). IsPermutation l ((a ++ b) ++ (c ++ d))) (append_assoc (a ++ c) b d)
      (subst (IsPermutation (((a ++ c) ++ b) ++ d)) (append_assoc (a ++ b) c d) (IsPermutation-append_left d ((a ++ c) ++ b) ((a ++ b) ++ c) (turned_last a c b)))

  pub joined : (a b c d first later : List X) → IsPermutation first (a ++ c) → IsPermutation later (b ++ d) → IsPermutation (first ++ later) ((a ++ b) ++ (c ++ d))
  joined a b c d first later p q =
      IsPermutation-trans (first ++ later) ((a ++ c) ++ (b ++ d)) ((a ++ b) ++ (c ++ d)) (IsPermutation-append first (a ++ c) later (b ++ d) p q) (across a b c d)
