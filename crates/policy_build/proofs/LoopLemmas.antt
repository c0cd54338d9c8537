-- What is made item by item, and its refusals.
use Rattle.std.proofs.Common.{◌≡◌, ℕ, ◌+◌, ◌<◌, ◌≤◌, zero, suc, List, [], ◌∷◌, ◌++◌, length, map, drop, take, Option, Some, None, Result, Ok, Err, true, false, cond, refl, sym, ap, ◌∙◌, append_assoc, arith}
use Rattle.std.specs.Prelude.{bytes_eq, is_some, MatchOption}
use Rattle.std.proofs.lemmas.Bool.{false≢true}
use Rattle.std.proofs.Common.{get_or}
use Rattle.std.proofs.lemmas.List.{drop_all, drop_more, take_more, take_all, take-map, map-append}
use Rattle.grant_policy.specs.declared.callers.Callers.{Callers}
use Rattle.policy_build.specs.declared.build_fault.BuildFault.{BuildFault}
use Rattle.policy_build.specs.declared.build_fault.BuildFault.TheVariants.{NotToml, UnknownKey, MissingKey, BadValue, Empty, Name, Repeated, Reserved, IdTooLong, UnknownGroup, UnknownTemplate, TooManyMembers, TooManyRules, NoMemory}
use Rattle.policy_build.specs.declared.member.Member.{Member}
use Rattle.policy_build.specs.declared.names.Names.{Names}
use Rattle.policy_build.specs.declared.place.Place.{Place}
use Rattle.policy_build.specs.declared.statement.Statement.{Statement}
use Rattle.policy_build.specs.Entries.{EntryOf, called, entries_from, entries_of, fresh_templates}
use Rattle.policy_build.specs.Faults.{Refuses, ◌>>=◌}
use Rattle.policy_build.specs.Groups.{GroupOf}
use Rattle.policy_build.specs.Making.{MadeOf, PairOf, made_from, made_in, numbered, pairs_with, products, with_rule}
use Rattle.policy_build.specs.Resolving.{RowOf, IsRowAt, few_members, members_from, row_called, row_in, rows_from, with_member}
use Rattle.policy_build.specs.Templates.{TemplateOf}
use Rattle.policy_build.specs.declared.place.FileKey.TheVariants as key
use Rattle.policy_build.specs.Places.{at_key}
use Rattle.std.proofs.Common.{length-append}
use Rattle.std.proofs.lemmas.List.{length-map}
use Rattle.std.specs.Result.{IfOk}
use Rattle.policy_build.specs.declared.made_rule.MadeRule.{MadeRule}
use Rattle.policy_build.specs.Faults.{Reads}
use Rattle.std.proofs.Common.{Bor}
use Rattle.policy_build.specs.declared.building.Pair.{Pair}
use Rattle.std.specs.List.{list_any}
use Rattle.policy_build.specs.Making.{is_taken, made_of, pair_of}
use Rattle.policy_build.proofs.MakingLaws.{made_for, pair_for, rule_step}
use Rattle.policy_build.proofs.ResolvingLaws.{bind_ok, row_for, same_Ok}

-- a refusal goes on, where the definition's does
pub Refuses-on : {A B : Type 0} (e : BuildFault) (r : Result A BuildFault) (s : Result B BuildFault) → ((fault : BuildFault) → r ≡ Err fault → s ≡ Err fault) → Refuses e r → Refuses e s
Refuses-on NotToml r s on h = on _ h
Refuses-on (UnknownKey place) r s on h = on _ h
Refuses-on (MissingKey place) r s on h = on _ h
Refuses-on (BadValue place) r s on h = on _ h
Refuses-on (Empty place) r s on h = on _ h
Refuses-on (Name place fault) r s on h = on _ h
Refuses-on (Repeated place) r s on h = on _ h
Refuses-on (Reserved place) r s on h = on _ h
Refuses-on (IdTooLong place) r s on h = on _ h
Refuses-on (UnknownGroup place) r s on h = on _ h
Refuses-on (UnknownTemplate place) r s on h = on _ h
Refuses-on (TooManyMembers place count) r s on h = on _ h
Refuses-on (TooManyRules place count) r s on h = on _ h
Refuses-on NoMemory r s on h = tt

-- the first step refused
pub Refuses-first : {A B : Type 0} (e : BuildFault) (r : Result A BuildFault) (f : A → Result B BuildFault) → Refuses e r → Refuses e (r >>= f)
Refuses-first e r f h = Refuses-on e r (r >>= f) (λ fault is. ap (λ q. q >>= f) is) h

-- the same by another term
pub Refuses-as : {A : Type 0} (e : BuildFault) (r s : Result A BuildFault) → s ≡ r → Refuses e r → Refuses e s
Refuses-as e r s same h = Refuses-on e r s (λ fault is. same ∙ is) h

-- a first step that went well
pub bind_step : {A B : Type 0} (r : Result A BuildFault) (f : A → Result B BuildFault) (a : A) → r ≡ Ok a → (r >>= f) ≡ f a
bind_step r f a e = ap (λ q. q >>= f) e

-- ---- lists

pub here : {X : Type 0} (xs : List X) (i : ℕ) (x : X) → i < length xs → x ≡ get_or xs i x → drop i xs ≡ x ∷ drop (i + 1) xs
here xs i x lt is = drop_more xs i x lt ∙ ap (λ y. y ∷ drop (i + 1) xs) (sym is)

pub so_far : {X : Type 0} (xs : List X) (i : ℕ) (x : X) → i < length xs → x ≡ get_or xs i x → take (i + 1) xs ≡ take i xs ++ x ∷ []
so_far xs i x lt is = take_more xs i x lt ∙ ap (λ y. take i xs ++ y ∷ []) (sym is)

pub mapped_so_far : {X Y : Type 0} (f : X → Y) (xs : List X) (i : ℕ) (x : X) → i < length xs → x ≡ get_or xs i x → take (i + 1) (map f xs) ≡ take i (map f xs) ++ f x ∷ []
mapped_so_far f xs i x lt is = take-map f (i + 1) xs ∙ ap (map f) (so_far xs i x lt is) ∙ map-append f (take i xs) (x ∷ []) ∙ ap (λ l. l ++ f x ∷ []) (sym (take-map f i xs))

-- what is appended one by one, seen by a function
pub pushed : {X Y : Type 0} (f : X → Y) (before : List Y) (xs : List X) (i : ℕ) (x : X) (got : List Y) → take (i + 1) xs ≡ take i xs ++ x ∷ [] → got ≡ before ++ map f (take i xs) → got ++ f x ∷ [] ≡ before ++ map f (take (i + 1) xs)
pushed f before xs i x got grown e =
    ap (λ l. l ++ f x ∷ []) e
    ∙ append_assoc before (map f (take i xs)) (f x ∷ [])
    ∙ ap (λ l. before ++ l) (sym (map-append f (take i xs) (x ∷ [])))
    ∙ ap (λ l. before ++ map f l) (sym grown)

pub pushed_all : {X Y : Type 0} (f : X → Y) (before : List Y) (xs : List X) (i : ℕ) (got : List Y) → length xs ≤ i → got ≡ before ++ map f (take i xs) → got ≡ before ++ map f xs
pushed_all f before xs i got past e = e ∙ ap (λ l. before ++ map f l) (take_all i xs past)

-- ---- templates

module _ (all : List TemplateOf) where
  pub templates_more : (i : ℕ) (t : TemplateOf) → i < length all → t ≡ get_or all i t → is_some (called t.id (take i all)) ≡ false → fresh_templates (take i all) (drop i all) ≡ fresh_templates (take (i + 1) all) (drop (i + 1) all)
  templates_more i t lt is free =
      ap (fresh_templates (take i all)) (here all i t lt is)
      ∙ ap (λ b. cond b (Err (Repeated t.place)) (fresh_templates (take i all ++ t ∷ []) (drop (i + 1) all))) free
      ∙ ap (λ l. fresh_templates l (drop (i + 1) all)) (sym (so_far all i t lt is))

  pub templates_stop : (i : ℕ) (t : TemplateOf) → i < length all → t ≡ get_or all i t → is_some (called t.id (take i all)) ≡ true → fresh_templates (take i all) (drop i all) ≡ Err (Repeated t.place)
  templates_stop i t lt is taken =
      ap (fresh_templates (take i all)) (here all i t lt is)
      ∙ ap (λ b. cond b (Err (Repeated t.place)) (fresh_templates (take i all ++ t ∷ []) (drop (i + 1) all))) taken

  pub templates_done : (i : ℕ) → length all ≤ i → fresh_templates (take i all) (drop i all) ≡ Ok all
  templates_done i past = ap (fresh_templates (take i all)) (drop_all i all past) ∙ ap (λ (l : List TemplateOf). Ok l) (take_all i all past)

-- ---- entries

module _ (templates : List TemplateOf) (all : List Statement) (before : List EntryOf) (i : ℕ) where
  pub entries_more : (s : Statement) (after : List EntryOf) → i < length all → s ≡ get_or all i s → entries_of templates before s ≡ Ok after → entries_from templates before (drop i all) ≡ entries_from templates after (drop (i + 1) all)
  entries_more s after lt is e = ap (entries_from templates before) (here all i s lt is) ∙ ap (λ r. r >>= λ entries. entries_from templates entries (drop (i + 1) all)) e

  pub entries_stop : (s : Statement) (fault : BuildFault) → i < length all → s ≡ get_or all i s → entries_of templates before s ≡ Err fault → entries_from templates before (drop i all) ≡ Err fault
  entries_stop s fault lt is e = ap (entries_from templates before) (here all i s lt is) ∙ ap (λ r. r >>= λ entries. entries_from templates entries (drop (i + 1) all)) e

  pub entries_done : length all ≤ i → entries_from templates before (drop i all) ≡ Ok before
  entries_done past = ap (entries_from templates before) (drop_all i all past)

-- ---- members

module _ {X : Type 0} (id : List ℕ) (rows : List (RowOf X)) (i : ℕ) (row : RowOf X) (lt : i < length rows) (is : row ≡ get_or rows i row) where
  pub called_other : bytes_eq row.id id ≡ false → row_called id (drop i rows) ≡ row_called id (drop (i + 1) rows)
  called_other no' = ap (row_called id) (here rows i row lt is) ∙ ap (λ b. cond b (Some row.members) (row_called id (drop (i + 1) rows))) no'

  pub called_here : bytes_eq row.id id ≡ true → row_called id (drop i rows) ≡ Some row.members
  called_here yes' = ap (row_called id) (here rows i row lt is) ∙ ap (λ b. cond b (Some row.members) (row_called id (drop (i + 1) rows))) yes'

same_get : {X : Type 0} (xs : List X) (i : ℕ) (d e : X) → i < length xs → get_or xs i d ≡ get_or xs i e
same_get [] i d e lt = absurd (omega arith)
same_get (x ∷ xs) zero d e lt = refl
same_get (x ∷ xs) (suc i) d e lt = same_get xs i d e (omega arith)

pub row_found : {X : Type 0} (id : List ℕ) (rows : List (RowOf X)) (i : ℕ) (row : RowOf X) → i < length rows → row ≡ get_or rows i row → bytes_eq row.id id ≡ true → row_called id rows ≡ row_called id (drop i rows) → IsRowAt id rows i
row_found id rows i row lt is yes' e = record { within = lt; called = λ d. e ∙ called_here id rows i row lt is yes' ∙ ap (λ r. Some r.members) (is ∙ same_get rows i row d lt) }

some_at : {X : Type 0} (id : List ℕ) (rows : List (RowOf X)) (k : ℕ) → IsRowAt id rows k → is_some (row_called id rows) ≡ true
some_at id [] k is = absurd (omega (arith, is.within))
some_at id (row ∷ rows) k is = ap is_some (is.called row)

pub taken : {X : Type 0} (r : Option ℕ) (id : List ℕ) (rows : List (RowOf X)) → MatchOption r (row_called id rows ≡ None) (IsRowAt id rows) → is_some r ≡ true → is_some (row_called id rows) ≡ true
taken None id rows m e = absurd (false≢true e)
taken (Some k) id rows m e = some_at id rows k m

pub row_taken : {X : Type 0} (rows : List (RowOf X)) (group : GroupOf X) → is_some (row_called group.id rows) ≡ true → row_in rows group ≡ Err (Repeated group.place)
row_taken rows group t = ap (λ b. cond b (Err (Repeated group.place)) (members_from (at_key group.place key.Members) rows [] group.members >>= λ members. Ok (row_for group members))) t

pub called_none : {X : Type 0} (id : List ℕ) (rows : List (RowOf X)) (i : ℕ) → length rows ≤ i → row_called id (drop i rows) ≡ None
called_none id rows i past = ap (row_called id) (drop_all i rows past)

module _ {X : Type 0} (place : Place) (rows : List (RowOf X)) (all : List (Member X)) (before : List X) (i : ℕ) where
  few_after : (after : List X) (n : ℕ) (r : Result ℕ BuildFault) → length after ≡ n → few_members place n ≡ r → few_members place (length after) ≡ r
  few_after after n r same e = ap (few_members place) same ∙ e

  pub members_more : (m : Member X) (after : List X) (n count : ℕ) → i < length all → m ≡ get_or all i m → with_member place rows before m ≡ Ok after → length after ≡ n → few_members place n ≡ Ok count → members_from place rows before (drop i all) ≡ members_from place rows after (drop (i + 1) all)
  members_more m after n count lt is e same few =
      ap (members_from place rows before) (here all i m lt is)
      ∙ bind_step (with_member place rows before m) (λ more. few_members place (length more) >>= λ count. members_from place rows more (drop (i + 1) all)) after e
      ∙ bind_step (few_members place (length after)) (λ count. members_from place rows after (drop (i + 1) all)) count (few_after after n (Ok count) same few)

  pub members_stop : (m : Member X) (fault : BuildFault) → i < length all → m ≡ get_or all i m → with_member place rows before m ≡ Err fault → members_from place rows before (drop i all) ≡ Err fault
  members_stop m fault lt is e =
      ap (members_from place rows before) (here all i m lt is)
      ∙ ap (λ r. r >>= λ more. few_members place (length more) >>= λ count. members_from place rows more (drop (i + 1) all)) e

  pub members_many : (m : Member X) (after : List X) (n : ℕ) (fault : BuildFault) → i < length all → m ≡ get_or all i m → with_member place rows before m ≡ Ok after → length after ≡ n → few_members place n ≡ Err fault → members_from place rows before (drop i all) ≡ Err fault
  members_many m after n fault lt is e same few =
      ap (members_from place rows before) (here all i m lt is)
      ∙ bind_step (with_member place rows before m) (λ more. few_members place (length more) >>= λ count. members_from place rows more (drop (i + 1) all)) after e
      ∙ ap (λ r. r >>= λ count. members_from place rows after (drop (i + 1) all)) (few_after after n (Err fault) same few)

  pub members_done : length all ≤ i → members_from place rows before (drop i all) ≡ Ok before
  members_done past = ap (members_from place rows before) (drop_all i all past)

module _ {X : Type 0} (all : List (GroupOf X)) (rows : List (RowOf X)) (i : ℕ) where
  pub rows_more : (g : GroupOf X) (row : RowOf X) → i < length all → g ≡ get_or all i g → row_in rows g ≡ Ok row → rows_from rows (drop i all) ≡ rows_from (rows ++ row ∷ []) (drop (i + 1) all)
  rows_more g row lt is e = ap (rows_from rows) (here all i g lt is) ∙ bind_step (row_in rows g) (λ row. rows_from (rows ++ row ∷ []) (drop (i + 1) all)) row e

  pub rows_stop : (g : GroupOf X) (fault : BuildFault) → i < length all → g ≡ get_or all i g → row_in rows g ≡ Err fault → rows_from rows (drop i all) ≡ Err fault
  rows_stop g fault lt is e = ap (rows_from rows) (here all i g lt is) ∙ ap (λ r. r >>= λ row. rows_from (rows ++ row ∷ []) (drop (i + 1) all)) e

  pub rows_done : length all ≤ i → rows_from rows (drop i all) ≡ Ok rows
  rows_done past = ap (rows_from rows) (drop_all i all past)

-- ---- pairs and rules

pub pairs_more : (c : Callers) (names : List (Bor Names)) (i : ℕ) (n : Bor Names) (before : List PairOf) (old new : List Pair) (p : Pair) → i < length names → n ≡ get_or names i n → new ≡ old ++ p ∷ [] → pair_of p ≡ pair_for c n.now
    → map pair_of old ≡ before ++ pairs_with c (take i (map (λ m. m.now) names)) → map pair_of new ≡ before ++ pairs_with c (take (i + 1) (map (λ m. m.now) names))
pairs_more c names i n before old new p lt is e same inv =
    ap (map pair_of) e
    ∙ map-append pair_of old (p ∷ [])
    ∙ ap (λ q. map pair_of old ++ q ∷ []) same
    ∙ pushed (pair_for c) before (map (λ m. m.now) names) i n.now (map pair_of old) (mapped_so_far (λ (m : Bor Names). m.now) names i n lt is) inv

module _ (all : List Callers) (ns : List Names) (before : List PairOf) (i : ℕ) where
  pub products_more : (c : Callers) → drop i all ≡ c ∷ drop (i + 1) all → products before (drop i all) ns ≡ products (before ++ pairs_with c ns) (drop (i + 1) all) ns
  products_more c at = ap (λ l. products before l ns) at

  pub products_done : length all ≤ i → products before (drop i all) ns ≡ before
  products_done past = ap (λ l. products before l ns) (drop_all i all past)

module _ (entry : EntryOf) (number count : ℕ) (all : List PairOf) (before : List MadeOf) (i : ℕ) where
  pub numbered_more : (p : PairOf) (after : List MadeOf) → drop i all ≡ p ∷ drop (i + 1) all → with_rule entry number count (i + 1) before p ≡ Ok after → numbered entry number count (i + 1) before (drop i all) ≡ numbered entry number count (i + 1 + 1) after (drop (i + 1) all)
  numbered_more p after at e =
      ap (numbered entry number count (i + 1) before) at
      ∙ bind_step (with_rule entry number count (i + 1) before p) (λ made. numbered entry number count (i + 1 + 1) made (drop (i + 1) all)) after e

  pub numbered_stop : (p : PairOf) (fault : BuildFault) → drop i all ≡ p ∷ drop (i + 1) all → with_rule entry number count (i + 1) before p ≡ Err fault → numbered entry number count (i + 1) before (drop i all) ≡ Err fault
  numbered_stop p fault at e =
      ap (numbered entry number count (i + 1) before) at
      ∙ ap (λ r. r >>= λ made. numbered entry number count (i + 1 + 1) made (drop (i + 1) all)) e

  pub numbered_done : length all ≤ i → numbered entry number count (i + 1) before (drop i all) ≡ Ok before
  numbered_done past = ap (numbered entry number count (i + 1) before) (drop_all i all past)

module _ (callers : List (RowOf Callers)) (names : List (RowOf Names)) (all : List EntryOf) (before : List MadeOf) (i : ℕ) where
  pub made_more : (e : EntryOf) (after : List MadeOf) → drop i all ≡ e ∷ drop (i + 1) all → made_in callers names i before e ≡ Ok after → made_from callers names i before (drop i all) ≡ made_from callers names (i + 1) after (drop (i + 1) all)
  made_more e after at is =
      ap (made_from callers names i before) at
      ∙ bind_step (made_in callers names i before e) (λ made. made_from callers names (i + 1) made (drop (i + 1) all)) after is

  pub made_stop : (e : EntryOf) (fault : BuildFault) → drop i all ≡ e ∷ drop (i + 1) all → made_in callers names i before e ≡ Err fault → made_from callers names i before (drop i all) ≡ Err fault
  made_stop e fault at is =
      ap (made_from callers names i before) at
      ∙ ap (λ r. r >>= λ made. made_from callers names (i + 1) made (drop (i + 1) all)) is

  pub made_done : length all ≤ i → made_from callers names i before (drop i all) ≡ Ok before
  made_done past = ap (made_from callers names i before) (drop_all i all past)

rule_length : (entry : EntryOf) (number count k : ℕ) (before : List MadeOf) (p : PairOf) (made : List MadeOf) → with_rule entry number count k before p ≡ Ok made → length made ≡ length before + 1
rule_length entry number count k before p made e =
    let s = rule_step entry number count k before p made e in
    ap (length {A = MadeOf}) s.2 ∙ length-append before (made_for entry number s.0 p ∷ [])

pub numbered_length : (entry : EntryOf) (number count k : ℕ) (before : List MadeOf) (ps : List PairOf) (made : List MadeOf) → numbered entry number count k before ps ≡ Ok made → length made ≡ length before + length ps
numbered_length entry number count k before [] made e = omega (arith, ap (length {A = MadeOf}) (same_Ok before made e))
numbered_length entry number count k before (p ∷ ps) made e =
    let a = bind_ok (with_rule entry number count k before p) (λ m. numbered entry number count (k + 1) m ps) made e in
    omega (arith, rule_length entry number count k before p a.0 a.1, numbered_length entry number count (k + 1) a.0 ps made a.2)

-- as many rules as before, and one for each pair
pub few_kept : {U : Type 0} (r : Result U BuildFault) (entry : EntryOf) (number count k : ℕ) (old new : List MadeRule) (ps : List PairOf) → Reads (λ _. map made_of new) r (numbered entry number count k (map made_of old) ps) → length old + length ps ≤ 1024 → IfOk r (λ _. length new ≤ 1024)
few_kept (Ok u) entry number count k old new ps read few =
    let made = numbered_length entry number count k (map made_of old) ps (map made_of new) read in
    omega (arith, made, few, length-map old made_of, length-map new made_of)
few_kept (Err e) entry number count k old new ps read few = tt

-- the ids of the rules, seen before and after
pub taken_of : (id : List ℕ) (rules : List MadeRule) → list_any (λ rule. bytes_eq rule.id id) rules ≡ is_taken id (map made_of rules)
taken_of id [] = refl
taken_of id (rule ∷ rules) = rw (taken_of id rules) refl
