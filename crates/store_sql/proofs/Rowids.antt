-- Rows whose rowids come once.
use Rattle.std.proofs.Common.{◌≡◌, inl, inr, true, false, List, [], ◌∷◌, sym, subst, ◌∙◌, Less, Equal, Greater, Ordering, true≢false}
use Rattle.std.specs.List.{AllByRecursion}
use Rattle.std.specs.Ordering.{is_eq, match_ordering}
use Rattle.std.proofs.lemmas.Cmp.{eq_by_cmp_equiv}
use Rattle.std.proofs.lemmas.Bool.{or_parts, both_ways}
use Rattle.sqlite_value.specs.Order.{Row, value_cmp}
use Rattle.sqlite_value.proofs.OrderLemmas.{value_cmp_total}
use Rattle.sqlite_trees.specs.Tree.{rowid, put_row}
use Rattle.sqlite_trees.proofs.TreeLemmas.{all-put_row}
use Rattle.sqlite_rules.specs.Lists.{Has}
use Rattle.sqlite_rules.specs.Edit.{is_taken}
use Rattle.sqlite_rules.proofs.ListLemmas.{all_has}
use Rattle.store_sql.specs.Stores.{HasOwnRowid, AreApart}

turned : (a b : Row) → HasOwnRowid a b → HasOwnRowid b a
turned a b h = (eq_by_cmp_equiv value_cmp_total).symm (rowid b) (rowid a) ∙ h

pub one_row : (rows : List Row) (a b : Row) → AreApart rows → Has rows a → Has rows b → is_eq (value_cmp (rowid a) (rowid b)) ≡ true → a ≡ b
one_row [] a b up h k tie = absurd h
one_row (r ∷ rows) a b up (inl p) (inl q) tie = p ∙ sym q
one_row (r ∷ rows) a b up (inl p) (inr k) tie = absurd (both_ways _ (subst (λ x. HasOwnRowid x b) (sym p) (all_has _ rows b up.0 k)) tie)
one_row (r ∷ rows) a b up (inr h) (inl q) tie = absurd (both_ways _ (turned b a (subst (λ x. HasOwnRowid x a) (sym q) (all_has _ rows a up.0 h))) tie)
one_row (r ∷ rows) a b up (inr h) (inr k) tie = one_row rows a b up.1 h k tie

free_all : (new : Row) (rows : List Row) → is_taken rows new ≡ false → AllByRecursion (HasOwnRowid new) rows
free_all new [] free = tt
free_all new (r ∷ rows) free = let parts = or_parts (is_eq (value_cmp (rowid r) (rowid new))) (is_taken rows new) free in (turned r new parts.0, free_all new rows parts.1)

pub apart_put : (new : Row) (rows : List Row) → AreApart rows → is_taken rows new ≡ false → AreApart (put_row new rows)
apart_put new [] up free = (tt, tt)
apart_put new (r ∷ rows) up free =
    let parts = or_parts (is_eq (value_cmp (rowid r) (rowid new))) (is_taken rows new) free in
    go (value_cmp (rowid r) (rowid new)) parts.0 (apart_put new rows up.1 parts.1) (all-put_row (HasOwnRowid r) new rows parts.0 up.0)
  where
    go : (o : Ordering) → is_eq o ≡ false → AreApart (put_row new rows) → AllByRecursion (HasOwnRowid r) (put_row new rows) → AreApart (match_ordering o (r ∷ put_row new rows) (new ∷ rows) (new ∷ r ∷ rows))
    go Less other more all = (all, more)
    go Equal other more all = absurd (true≢false other)
    go Greater other more all = (free_all new (r ∷ rows) free, up)
