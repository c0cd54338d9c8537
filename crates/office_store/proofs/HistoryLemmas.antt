-- What is remembered of the changes of a zone, and the state that the connection holds.
use Rattle.std.proofs.Common.{◌≡◌, ℕ, zero, suc, ◌+◌, ◌<◌, get_or, append_assoc, cond, nat_lt, ◌≤◌, List, [], ◌∷◌, ◌++◌, length, map, take, drop, Bool, true, false, not, ◌&&◌, nat_le, Option, Some, None, pos, option_map, Result, Ok, Err, OnOk, IsTrue, IsPermutation, refl, sym, ap, subst, ◌∙◌, arith}
use Rattle.std.proofs.Math.Bool.{Bool-set}
use Rattle.std.proofs.Props.{props}
use Rattle.std.proofs.Math.Logic.{∥∥₁_map, ∥∥₁_elim}
use Rattle.std.proofs.lemmas.Bool.{and_from, and_parts}
use Rattle.std.proofs.lemmas.List.{length-map, take_more}
use Rattle.std.proofs.lemmas.List.Sorted.{IsPermutation-sym, IsPermutation-trans}
use Rattle.std.specs.List.{AllByRecursion, list_all}
use Rattle.sqlite.specs.State.{State as Shown, HasCleanDisk}
use Rattle.dns_data.specs.declared.record.Record.{Record}
use Rattle.dns_data.specs.Rdata.{type_of}
use Rattle.grant_policy.specs.Grants.{GrantsOf, includes}
use Rattle.zone_core.specs.declared.change.Change.{Change}
use Rattle.zone_core.specs.Changes.{ChangeOf, change_in}
use Rattle.office_model.specs.States.{Held, State, changes_at, zone_at, zone_held}
use Rattle.office_model.specs.declared.passed.Passed.{Passed}
use Rattle.office_model.specs.Tables.{AdditionOf, AreHidden, ArePassed, IsHidden, committed, shown}
use Rattle.store_sql.specs.Tables.{changes_tree, layout_in, stored_change}
use Rattle.store_sql.proofs.Selections.{read_as, one_stored_change}
use Rattle.store_rows.proofs.LaterChangeLaws.{histories_are_one}
use Rattle.store_cache.specs.declared.history.ZoneHistory.{ZoneHistory}
use Rattle.store_cache.specs.History.{HasAlso, KnowsAll, Remembers, are_hidden, hides, hides_each, without_records}
use Rattle.store_rows.specs.declared.changes.ChangedRecord.{ChangedRecord}
use Rattle.store_rows.specs.declared.side.Side.{Side}
use Rattle.store_rows.specs.declared.side.Side.TheVariants.{Removed, Added}
use Rattle.store_rows.specs.ChangeRows.{gathered, nothing, opened, placed, with_last, with_record}
use Rattle.std.proofs.lemmas.List.Folds.{list_all-append}
use Rattle.std.proofs.lemmas.List.Sums.{fold_push}
use Rattle.store_cache.proofs.HistoryLemmas.{remembers_committed}
use Rattle.office_store.specs.History.{FitsHistory}
use Rattle.office_store.specs.Cache.{FitsCache}
use Rattle.office_store.specs.Holds.{HoldsState, LeavesStates}
use Rattle.office_store.specs.Queries.{Asked}
use Rattle.office_store.specs.Turns.{Turns}
use Rattle.office_store.proofs.CacheLemmas.{fits_turned, one_zone}

abbrev Labels : Type 0
Labels = List (List ℕ)

-- as many as there are of the first ones
take_few : {X : Type 0} (most : ℕ) (xs : List X) → take (length (take most xs)) xs ≡ take most xs
take_few zero [] = refl
take_few zero (x ∷ xs) = refl
take_few (suc most) [] = refl
take_few (suc most) (x ∷ xs) = ap (λ (l : List _). x ∷ l) (take_few most xs)

-- ---- what a call leaves

-- nothing is remembered of a state that is held
pub history_none : (conn : Shown) (cached : _) → FitsCache conn cached → FitsHistory conn None
history_none conn cached fits = record { held = λ clean. ∥∥₁_map (fits.held clean) (λ it. (it.0, it.1, tt)) }

-- what a check has read is remembered
pub history_checked : (conn : Shown) (history : Option ZoneHistory) (Other : State → Type 0) → (HasCleanDisk conn → (s : State) × HoldsState conn s × LeavesStates conn s s × Other s × Remembers s history) → FitsHistory conn history
history_checked conn history Other found = record { held = λ clean. let it = found clean in ∣ (it.0, it.1, it.4) ∣₁ }

-- after questions
pub history_asked : (old new : Shown) (history : Option ZoneHistory) → Asked old new → FitsHistory old history → FitsHistory new history
history_asked old new history asked fits = record { held = λ clean. ∥∥₁_map (fits.held (asked.honest clean)) (λ it. (it.0, asked.same it.0 it.1, it.2)) }

-- after a call that turns the state into another, nothing is remembered
pub history_turned : {X E : Type 0} (old new : Shown) (r : Result X E) (after : State → State) (cached : _) → Turns old new r after → FitsCache old cached → FitsHistory new None
history_turned old new r after cached turns fits = history_none new None (fits_turned old new r after cached turns fits)

pub history_committed : {X E : Type 0} (old new : Shown) (r : Result X E) (a : AdditionOf) (history : Option ZoneHistory) → Turns old new r (committed a) → FitsHistory old history → FitsHistory new history
history_committed old new (Ok x) a history turns fits = record { held = λ clean. ∥∥₁_map (fits.held (turns.honest clean)) (λ it. (committed a it.0, turns.made clean it.0 it.1, remembers_committed a it.0 history it.2)) }
history_committed old new (Err e) a history turns fits = record { held = λ clean. ∥∥₁_map (fits.held (turns.honest clean)) (λ it. (it.0, turns.failed it.0 it.1, it.2)) }

-- ---- what is told of it

-- an open connection holds one history of a zone
one_history : (conn : Shown) → IsTrue conn.is_open → (s t : State) → HoldsState conn s → HoldsState conn t → (o : Labels) (held : Held) → t.zones o ≡ Some held → (mine : Held) × (s.zones o ≡ Some mine) × (mine.changes ≡ held.changes)
one_history conn up s t h k o held e = of_zone (s.zones o) refl
  where
    there : zone_at s o ≡ Some (zone_held o held)
    there = one_zone conn up t s k h o (zone_held o held) (ap (option_map (zone_held o)) e)

    same : IsPermutation h.rows.changes k.rows.changes
    same =
        let first = (h.held up).0.tables.changes.same in
        let second = (k.held up).0.tables.changes.same in
        let shown = map (drop 1) (conn.now.trees (changes_tree (layout_in conn.now.trees))) in
        read_as stored_change one_stored_change h.rows.changes k.rows.changes
        (IsPermutation-trans (map stored_change h.rows.changes) shown (map stored_change k.rows.changes) first (IsPermutation-sym (map stored_change k.rows.changes) shown second))

    of_zone : (found : Option Held) → s.zones o ≡ found → (mine : Held) × (s.zones o ≡ Some mine) × (mine.changes ≡ held.changes)
    of_zone None is = absurd (let none : None ≡ Some (zone_held o held) = sym (ap (option_map (zone_held o)) is) ∙ there in cc)
    of_zone (Some mine) is = (mine, is, histories_are_one (pos 2) h.rows k.rows s t o mine held h.are k.are same is e)

are_as_told : (g : GrantsOf) (cs : List ChangeOf) (n : ℕ) → IsTrue (are_hidden g cs n) → AreHidden g cs n
are_as_told g cs n is =
    let both = and_parts (nat_le n (length cs)) (list_all (hides g) (take n cs)) is in
    record { there = le_from n (length cs) both.0; hidden = each (take n cs) both.1 }
  where
    le_from : (a b : ℕ) → nat_le a b ≡ true → a ≤ b
    le_from a b h = grind (arith, h)

    negated : (b : Bool) → not b ≡ true → b ≡ false
    negated true e = absurd cc
    negated false e = refl

    none : (rs : List Record) → IsTrue (hides_each g rs) → AllByRecursion (λ r. includes g r.owner (type_of r.rdata) ≡ false) rs
    none [] h = tt
    none (r ∷ rs) h = let parts = and_parts (not (includes g r.owner (type_of r.rdata))) (hides_each g rs) h in (negated (includes g r.owner (type_of r.rdata)) parts.0, none rs parts.1)

    each : (ds : List ChangeOf) → IsTrue (list_all (hides g) ds) → AllByRecursion (IsHidden g) ds
    each [] h = tt
    each (d ∷ ds) h = let parts = and_parts (hides g d) (list_all (hides g) ds) h in (none (d.removed ++ d.added) parts.0, each ds parts.1)

-- what is hidden by what is remembered is hidden in each state that an open connection holds
pub told_of_history : (conn : Shown) (history : Option ZoneHistory) (o : Labels) (g : GrantsOf) (count n : ℕ) → FitsHistory conn history → HasCleanDisk conn → IsTrue conn.is_open
    → ((s : State) (held : Held) → s.zones o ≡ Some held → Remembers s history → IsTrue (are_hidden g (drop count held.changes) n))
    → (s : State) (held : Held) → HoldsState conn s → s.zones o ≡ Some held → AreHidden g (drop count held.changes) n
told_of_history conn history o g count n fits clean up hidden s held holds e =
    are_as_told g (drop count held.changes) n
    (∥∥₁_elim (fits.held clean) (Bool-set _ _) (λ it.
    let mine = one_history conn up it.0 s it.1 holds o held e in
    subst (λ (cs : List ChangeOf). are_hidden g (drop count cs) n ≡ true) mine.2 (hidden it.0 mine.0 mine.1 it.2)))

-- what is passed over by what is remembered is so in each state that an open connection holds
pub told_of_passed : (conn : Shown) (history : Option ZoneHistory) (o : Labels) (g : GrantsOf) (count most : ℕ) (passed : Passed) → FitsHistory conn history → HasCleanDisk conn → IsTrue conn.is_open
    → ((s : State) (held : Held) → s.zones o ≡ Some held → Remembers s history → ArePassed g (drop count held.changes) most passed)
    → (s : State) (held : Held) → HoldsState conn s → s.zones o ≡ Some held → ArePassed g (drop count held.changes) most passed
told_of_passed conn history o g count most passed fits clean up are s held holds e =
    ∥∥₁_elim (fits.held clean) (Prim.hlevel props) (λ it.
    let mine = one_history conn up it.0 s it.1 holds o held e in
    subst (λ (cs : List ChangeOf). ArePassed g (drop count cs) most passed) mine.2 (are it.0 mine.0 mine.1 it.2))

-- nothing is passed over of any changes
pub none_passed : (g : GrantsOf) (cs : List ChangeOf) (most : ℕ) (passed : Passed) → passed.read ≡ 0 → passed.seen ≡ 0 → ArePassed g cs most passed
none_passed g cs most passed read seen =
    record { there = omega (arith, read); seen = seen ∙ ap (λ (n : ℕ). length (shown g (take n cs))) (sym read); few = omega (arith, seen) }

-- none are hidden of none
pub none_hidden : (g : GrantsOf) (cs : List ChangeOf) (n : ℕ) → n ≡ 0 → AreHidden g cs n
none_hidden g cs n none = subst (AreHidden g cs) (sym none) (record { there = omega arith; hidden = tt })

-- what was read is remembered
pub history_read : (old new : Shown) (before after : Option ZoneHistory) (o : Labels) (count most : ℕ) (changes : List Change) → Asked old new → FitsHistory old before
    → (HasCleanDisk new → (s : State) → HoldsState old s → Some (map change_in changes) ≡ option_map (λ cs. take most (drop count cs)) (changes_at s o))
    → ((s : State) (held : Held) → s.zones o ≡ Some held → map change_in changes ≡ take (length changes) (drop count held.changes) → Remembers s before → Remembers s after) → FitsHistory new after
history_read old new before after o count most changes asked fits tells remembers =
    record { held = λ clean. ∥∥₁_map (fits.held (asked.honest clean)) (λ it. (it.0, asked.same it.0 it.1, found it.0 it.2 (it.0.zones o) refl (tells clean it.0 it.1))) }
  where
    cut : (cs : List ChangeOf) → map change_in changes ≡ take most (drop count cs) → map change_in changes ≡ take (length changes) (drop count cs)
    cut cs is =
        is
        ∙ sym (take_few most (drop count cs))
        ∙ ap (λ (m : ℕ). take m (drop count cs)) (sym (ap (λ (l : List ChangeOf). length l) is) ∙ length-map changes change_in)

    found : (s : State) → Remembers s before → (h : Option Held) → s.zones o ≡ h → Some (map change_in changes) ≡ option_map (λ cs. take most (drop count cs)) (option_map (λ held. held.changes) h) → Remembers s after
    found s are None is e = absurd cc
    found s are (Some held) is e = remembers s held is (cut held.changes (let it : map change_in changes ≡ take most (drop count held.changes) = cc in it)) are

-- ---- what is noted of rows

-- what one more row has
pub gathered_more : (xs : List ChangedRecord) (i : ℕ) (x : ChangedRecord) → i < length xs → x ≡ get_or xs i x → gathered (take (i + 1) xs) ≡ placed (gathered (take i xs)) x
gathered_more xs i x low is = ap gathered (take_more xs i x low ∙ ap (λ (y : ChangedRecord). take i xs ++ y ∷ []) (sym is)) ∙ fold_push placed [] (take i xs) x

all_both : (test : Record → Bool) (xs ys : List Record) → list_all test xs ≡ true → list_all test ys ≡ true → list_all test (xs ++ ys) ≡ true
all_both test xs ys one two = list_all-append test xs ys ∙ and_from (list_all test xs) (list_all test ys) one two

last_of_first : (a b c : Bool) → ((a && (b && true)) && c) ≡ ((a && c) && b)
last_of_first true true true = refl
last_of_first true true false = refl
last_of_first true false true = refl
last_of_first true false false = refl
last_of_first false b c = refl

last_of_second : (a b c : Bool) → (a && (c && (b && true))) ≡ ((a && c) && b)
last_of_second true true true = refl
last_of_second true true false = refl
last_of_second true false true = refl
last_of_second true false false = refl
last_of_second false b c = refl

-- a change has one more record on a side
also : (c : ChangeOf) (s : Side) (r : Record) → HasAlso r c (with_record c s r)
also c Removed r test =
    list_all-append test (c.removed ++ r ∷ []) c.added
    ∙ ap (λ b. b && list_all test c.added) (list_all-append test c.removed (r ∷ []))
    ∙ last_of_first (list_all test c.removed) (test r) (list_all test c.added)
    ∙ ap (λ b. b && test r) (sym (list_all-append test c.removed c.added))
also c Added r test =
    list_all-append test c.removed (c.added ++ r ∷ [])
    ∙ ap (λ b. list_all test c.removed && b) (list_all-append test c.added (r ∷ []))
    ∙ last_of_second (list_all test c.removed) (test r) (list_all test c.added)
    ∙ ap (λ b. b && test r) (sym (list_all-append test c.removed c.added))

-- the last change has one more record, if there is a change
module _ (mid new : ZoneHistory) (s : Side) (r : Record) (last : (cs : List ChangeOf) (c more : ChangeOf) → KnowsAll mid (cs ++ c ∷ []) → HasAlso r c more → KnowsAll new (cs ++ more ∷ [])) (none : KnowsAll mid [] → KnowsAll new []) where
  behind : (front : List ChangeOf) (c : ChangeOf) (cs : List ChangeOf) → KnowsAll mid (front ++ c ∷ cs) → KnowsAll new (front ++ with_last (c ∷ cs) s r)
  behind front c [] knows = last front c (with_record c s r) knows (also c s r)
  behind front c (d ∷ cs) knows = subst (KnowsAll new) (append_assoc front (c ∷ []) (with_last (d ∷ cs) s r)) (behind (front ++ c ∷ []) d cs (subst (KnowsAll mid) (sym (append_assoc front (c ∷ []) (d ∷ cs))) knows))

  pub noted_last : (cs : List ChangeOf) → KnowsAll mid cs → KnowsAll new (with_last cs s r)
  noted_last [] knows = none knows
  noted_last (c ∷ cs) knows = behind [] c cs knows

-- a change is begun where there are fewer
pub noted_next : (old mid : ZoneHistory) (cs : List ChangeOf) (number : ℕ) → nat_lt (length cs) number ≡ true → (KnowsAll old cs → KnowsAll mid (cs ++ without_records ∷ [])) → KnowsAll old cs → KnowsAll mid (opened cs number)
noted_next old mid cs number fewer next knows = subst (λ (b : Bool). KnowsAll mid (cond b (cs ++ nothing ∷ []) cs)) (sym fewer) (next knows)

pub noted_same : (mid : ZoneHistory) (cs : List ChangeOf) (number : ℕ) → nat_lt (length cs) number ≡ false → KnowsAll mid cs → KnowsAll mid (opened cs number)
noted_same mid cs number many knows = subst (λ (b : Bool). KnowsAll mid (cond b (cs ++ nothing ∷ []) cs)) (sym many) knows

pub on_ok_both : {X E : Type 0} (r : Result X E) (A B C : Type 0) → (A → B → C) → OnOk r A → OnOk r B → OnOk r C
on_ok_both (Ok x) A B C both one two = both one two
on_ok_both (Err e) A B C both one two = tt
