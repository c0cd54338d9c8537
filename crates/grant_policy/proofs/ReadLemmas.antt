-- What is read item by item, and its refusals.
use Rattle.std.proofs.Common.{◌≡◌, ℕ, ◌+◌, ◌<◌, ◌≤◌, List, [], ◌∷◌, ◌++◌, length, drop, take, length-take, Option, Some, None, Result, Ok, Err, refl, sym, ap, ◌∙◌, append_assoc, append-nil, arith, codes, Bool, false, ◌==◌, zero, suc, get_or, add-one, option_map, String, Global, string_bytes, true, ◌&&◌, ◌||◌, ⊎_elim}
use Rattle.std.specs.Prelude.{bytes_eq, slice_get, map, if◌then◌else◌}
use Rattle.std.proofs.lemmas.List.{drop_all, map-append, take_more, drop_more, take_all, length-map}
use Rattle.toml.specs.declared.value.Value.{Value}
use Rattle.toml.specs.Data.{Data, string, integer, float, boolean, datetime, array, table, Items, item, Members, as_str, as_array, as_table}
use Rattle.toml.specs.View.{view, items_view, members_view}
use Rattle.toml.proofs.Views.{items_view-drop}
use Rattle.grant_policy.specs.declared.policy_fault.PolicyFault.{PolicyFault}
use Rattle.grant_policy.specs.declared.policy_fault.PolicyFault.TheVariants.{NotToml, UnknownKey, MissingKey, BadValue, IdRepeated, IdReserved, TooManyRules, Name, NoMemory}
use Rattle.grant_policy.specs.declared.policy_fault.PolicyPlace.{PolicyPlace}
use Rattle.grant_policy.specs.Faults.{Reads, Refuses, ◌>>=◌}
use Rattle.grant_policy.specs.Reading.{word_in, words_of, selection_in, rule_of, rules_of, IsNamedIn, AreNamedIn, has_only, tables_of, rule_tables, SameIds, is_among, free_id, free_rules}
use Rattle.grant_policy.specs.Documents.{document_of}
use Rattle.grant_policy.specs.declared.policy_fault.PolicyPlace.TheVariants.{Rules}
use Rattle.toml.specs.Parse.{parse_document}
use Rattle.std.specs.Option.{ok_or}
use Rattle.std.specs.Str.{IsUtf8, is_utf8}
use Rattle.std.proofs.lemmas.Str.{IsUtf8-from_is_utf8, is_utf8-from_IsUtf8}
use Rattle.std.proofs.lemmas.Bool.{cases_Bool}
use Rattle.std.specs.List.{list_any, list_all}
use Rattle.std.specs.Map.{keys_of}
use Rattle.grant_policy.specs.declared.rule.Rule.{Rule}

-- a refusal goes on, where the definition's does
pub Refuses-on : {A B : Type 0} (e : PolicyFault) (r : Result A PolicyFault) (s : Result B PolicyFault) → ((fault : PolicyFault) → r ≡ Err fault → s ≡ Err fault) → Refuses e r → Refuses e s
Refuses-on NotToml r s on h = on _ h
Refuses-on (UnknownKey place) r s on h = on _ h
Refuses-on (MissingKey place) r s on h = on _ h
Refuses-on (BadValue place) r s on h = on _ h
Refuses-on (IdRepeated number) r s on h = on _ h
Refuses-on (IdReserved number) r s on h = on _ h
Refuses-on TooManyRules r s on h = on _ h
Refuses-on (Name number fault) r s on h = on _ h
Refuses-on NoMemory r s on h = tt

-- items that were read, before what is read of the others
abbrev pub with_front : {X : Type 0} → List X → Result (List X) PolicyFault → Result (List X) PolicyFault
with_front done (Ok xs) = Ok (done ++ xs)
with_front done (Err fault) = Err fault

pub front_more : {X : Type 0} (done : List X) (x : X) (rest : Result (List X) PolicyFault) → with_front done (rest >>= λ others. Ok (x ∷ others)) ≡ with_front (done ++ x ∷ []) rest
front_more done x (Ok others) = ap (λ (l : List _). Ok l) (sym (append_assoc done (x ∷ []) others))
front_more done x (Err fault) = refl

pub front_none : {X : Type 0} (rest : Result (List X) PolicyFault) → rest ≡ with_front [] rest
front_none (Ok xs) = refl
front_none (Err fault) = refl

pub front_all : {X : Type 0} (done : List X) → with_front done (Ok []) ≡ Ok done
front_all done = ap (λ (l : List _). Ok l) (append-nil done)

-- an item, and those after it
pub item_here : (items : List Value) (i : ℕ) (v : Value) → i < length items → v ≡ get_or items i v → items_view (drop i items) ≡ item (view v) (items_view (drop (i + 1) items))
item_here items i v lt is = items_view-drop items i v lt ∙ ap (λ (x : Value). item (view x) (items_view (drop (i + 1) items))) (sym is)

-- a member that is needed, as it is found
pub reads_member : {X Y : Type 0} (view : X → Y) (o : Option X) (place : PolicyPlace) → Reads view (ok_or o (MissingKey place)) (ok_or (option_map view o) (MissingKey place))
reads_member view None place = refl
reads_member view (Some x) place = refl

-- ---- words

module _ {X : Type 0} (word : List ℕ → Option X) (at : PolicyPlace) (items : List Value) where
  abbrev pub words_from : ℕ → Result (List X) PolicyFault
  words_from i = words_of word at (items_view (drop i items))

  pub words_more : (done : List X) (i : ℕ) (value : Value) (x : X) → i < length items → items_view (drop i items) ≡ item (view value) (items_view (drop (i + 1) items)) → word_in word at (view value) ≡ Ok x → with_front done (words_from i) ≡ with_front (done ++ x ∷ []) (words_from (i + 1))
  words_more done i value x lt here e =
      ap (λ ds. with_front done (words_of word at ds)) here ∙ ap (λ (r : Result X PolicyFault). with_front done (r >>= λ first. words_from (i + 1) >>= λ others. Ok (first ∷ others))) e ∙ front_more done x (words_from (i + 1))

  pub words_stop : (done : List X) (i : ℕ) (value : Value) (fault : PolicyFault) → items_view (drop i items) ≡ item (view value) (items_view (drop (i + 1) items)) → word_in word at (view value) ≡ Err fault → with_front done (words_from i) ≡ Err fault
  words_stop done i value fault here e =
      ap (λ ds. with_front done (words_of word at ds)) here ∙ ap (λ (r : Result X PolicyFault). with_front done (r >>= λ first. words_from (i + 1) >>= λ others. Ok (first ∷ others))) e

  pub words_done : (done : List X) (i : ℕ) → length items ≤ i → with_front done (words_from i) ≡ Ok done
  words_done done i all = ap (λ (l : List Value). with_front done (words_of word at (items_view l))) (drop_all i items all) ∙ front_all done

-- ---- selections

pub not_zero : (n : ℕ) → (n == 0) ≡ false → 0 < n
not_zero zero e = absurd cc
not_zero (suc n) e = omega arith

module _ {X : Type 0} (word : List ℕ → Option X) (at : PolicyPlace) where
  pub selection_text : (d : Data) (text : List ℕ) → as_str d ≡ Some text → selection_in word at d ≡ (if bytes_eq text (codes "*") then Ok None else Err (BadValue at))
  selection_text (string text) other e = let same : text ≡ other = cc in ap (λ (t : List ℕ). if bytes_eq t (codes "*") then Ok None else Err (BadValue at)) same
  selection_text (integer z) text e = absurd cc
  selection_text (float x) text e = absurd cc
  selection_text (boolean b) text e = absurd cc
  selection_text (datetime t) text e = absurd cc
  selection_text (array ds) text e = absurd cc
  selection_text (table ms) text e = absurd cc

  pub selection_none : (d : Data) → as_str d ≡ None → as_array d ≡ None → selection_in word at d ≡ Err (BadValue at)
  selection_none (string text) e f = absurd cc
  selection_none (integer z) e f = refl
  selection_none (float x) e f = refl
  selection_none (boolean b) e f = refl
  selection_none (datetime t) e f = refl
  selection_none (array ds) e f = absurd cc
  selection_none (table ms) e f = refl

  pub selection_array : (d : Data) (ds : Items) → as_array d ≡ Some ds → d ≡ array ds
  selection_array (string text) ds e = absurd cc
  selection_array (integer z) ds e = absurd cc
  selection_array (float x) ds e = absurd cc
  selection_array (boolean b) ds e = absurd cc
  selection_array (datetime t) ds e = absurd cc
  selection_array (array es) ds e = let same : es ≡ ds = cc in ap array same
  selection_array (table ms) ds e = absurd cc

  pub selection_empty : (items : List Value) → length items ≡ 0 → selection_in word at (array (items_view items)) ≡ Err (BadValue at)
  selection_empty [] e = refl
  selection_empty (v ∷ items) e = absurd (omega arith)

  pub selection_some : (items : List Value) → 0 < length items → selection_in word at (array (items_view items)) ≡ (words_of word at (items_view items) >>= λ words. Ok (Some words))
  selection_some [] e = absurd (omega arith)
  selection_some (v ∷ items) e = refl

-- ---- rules

-- what is mapped, from a place on
map_here : {A B : Type 0} (f : A → B) (xs : List A) (i : ℕ) (d : A) → i < length xs → drop i (map f xs) ≡ f (get_or xs i d) ∷ drop (i + 1) (map f xs)
map_here f [] i d lt = absurd (omega arith)
map_here f (x ∷ xs) zero d lt = refl
map_here f (x ∷ xs) (suc i) d lt = rw (add-one (suc i)) (rw (add-one i) at (map_here f xs i d (omega arith)))

map_at : {A B : Type 0} (f : A → B) (xs : List A) (i : ℕ) (d : A) → i < length xs → slice_get (map f xs) i ≡ Some (f (get_or xs i d))
map_at f [] i d lt = absurd (omega arith)
map_at f (x ∷ xs) zero d lt = refl
map_at f (x ∷ xs) (suc i) d lt = map_at f xs i d (omega arith)

pub mapped_here : {A B : Type 0} (f : A → B) (xs : List A) (i : ℕ) (x : A) → i < length xs → x ≡ get_or xs i x → drop i (map f xs) ≡ f x ∷ drop (i + 1) (map f xs)
mapped_here f xs i x lt is = map_here f xs i x lt ∙ ap (λ (y : _). f y ∷ drop (i + 1) (map f xs)) (sym is)

pub mapped_at : {A B : Type 0} (f : A → B) (xs : List A) (i : ℕ) (x : A) → i < length xs → x ≡ get_or xs i x → slice_get (map f xs) i ≡ Some (f x)
mapped_at f xs i x lt is = map_at f xs i x lt ∙ ap (λ (y : _). Some (f y)) (sym is)

pub named_push : (done : List Rule) (mss : List Members) (rule : Rule) (ms : Members) → AreNamedIn done mss → slice_get mss (length done) ≡ Some ms → IsNamedIn rule.at ms → AreNamedIn (done ++ rule ∷ []) mss
named_push [] [] rule ms named at is = tt
named_push [] (m ∷ mss) rule ms named at is = let same : m ≡ ms = cc in rw same (is, tt)
named_push (r ∷ done) [] rule ms named at is = tt
named_push (r ∷ done) (m ∷ mss) rule ms named at is = (named.0, named_push done mss rule ms named.1 at is)

module _ (all : List Members) where
  abbrev pub rules_from : List Rule → ℕ → Result (List Rule) PolicyFault
  rules_from done i = with_front done (rules_of (map (λ rule. rule.id) done) (drop i all))

  pub rules_more : (done : List Rule) (i : ℕ) (ms : Members) (rule : Rule) → drop i all ≡ ms ∷ drop (i + 1) all → rule_of (map (λ r. r.id) done) ms ≡ Ok rule → rules_from done i ≡ rules_from (done ++ rule ∷ []) (i + 1)
  rules_more done i ms rule here e =
      let ids = map (λ (r : Rule). r.id) done in
      ap (λ mss. with_front done (rules_of ids mss)) here
      ∙ ap (λ (r : Result Rule PolicyFault). with_front done (r >>= λ first. rules_of (ids ++ first.id ∷ []) (drop (i + 1) all) >>= λ others. Ok (first ∷ others))) e
      ∙ front_more done rule (rules_of (ids ++ rule.id ∷ []) (drop (i + 1) all))
      ∙ ap (λ (l : List (List ℕ)). with_front (done ++ rule ∷ []) (rules_of l (drop (i + 1) all))) (sym (map-append (λ (r : Rule). r.id) done (rule ∷ [])))

  pub rules_stop : (done : List Rule) (i : ℕ) (ms : Members) (fault : PolicyFault) → drop i all ≡ ms ∷ drop (i + 1) all → rule_of (map (λ r. r.id) done) ms ≡ Err fault → rules_from done i ≡ Err fault
  rules_stop done i ms fault here e =
      let ids = map (λ (r : Rule). r.id) done in
      ap (λ mss. with_front done (rules_of ids mss)) here
      ∙ ap (λ (r : Result Rule PolicyFault). with_front done (r >>= λ first. rules_of (ids ++ first.id ∷ []) (drop (i + 1) all) >>= λ others. Ok (first ∷ others))) e

  pub rules_done : (done : List Rule) (i : ℕ) → length all ≤ i → rules_from done i ≡ Ok done
  rules_done done i past = ap (λ l. with_front done (rules_of (map (λ (r : Rule). r.id) done) l)) (drop_all i all past) ∙ front_all done

-- rules whose ids are checked
module _ (all : List Rule) where
  abbrev pub free_from : ℕ → Result (List Rule) PolicyFault
  free_from i = with_front (take i all) (free_rules (map (λ rule. rule.id) (take i all)) (drop i all))

  abbrev pub ids_before : ℕ → List (List ℕ)
  ids_before i = map (λ rule. rule.id) (take i all)

  ids_more : (i : ℕ) (rule : Rule) → i < length all → rule ≡ get_or all i rule → ids_before (i + 1) ≡ ids_before i ++ rule.id ∷ []
  ids_more i rule lt is = ap (map (λ (r : Rule). r.id)) (take_more all i rule lt ∙ ap (λ (r : Rule). take i all ++ r ∷ []) (sym is)) ∙ map-append (λ (r : Rule). r.id) (take i all) (rule ∷ [])

  free_here : (i : ℕ) (rule : Rule) → i < length all → rule ≡ get_or all i rule → drop i all ≡ rule ∷ drop (i + 1) all
  free_here i rule lt is = drop_more all i rule lt ∙ ap (λ (r : Rule). r ∷ drop (i + 1) all) (sym is)

  pub free_more : (i : ℕ) (rule : Rule) → i < length all → rule ≡ get_or all i rule → free_id (length (ids_before i) + 1) (ids_before i) rule.id ≡ Ok rule.id → free_from i ≡ free_from (i + 1)
  free_more i rule lt is e =
      ap (λ l. with_front (take i all) (free_rules (ids_before i) l)) (free_here i rule lt is)
      ∙ ap (λ (r : Result (List ℕ) PolicyFault). with_front (take i all) (r >>= λ first. free_rules (ids_before i ++ rule.id ∷ []) (drop (i + 1) all) >>= λ others. Ok (rule ∷ others))) e
      ∙ front_more (take i all) rule (free_rules (ids_before i ++ rule.id ∷ []) (drop (i + 1) all))
      ∙ ap (λ (l : List Rule). with_front l (free_rules (ids_before i ++ rule.id ∷ []) (drop (i + 1) all))) (sym (take_more all i rule lt ∙ ap (λ (r : Rule). take i all ++ r ∷ []) (sym is)))
      ∙ ap (λ (l : List (List ℕ)). with_front (take (i + 1) all) (free_rules l (drop (i + 1) all))) (sym (ids_more i rule lt is))

  pub free_stop : (i : ℕ) (rule : Rule) (fault : PolicyFault) → i < length all → rule ≡ get_or all i rule → free_id (length (ids_before i) + 1) (ids_before i) rule.id ≡ Err fault → free_from i ≡ Err fault
  free_stop i rule fault lt is e =
      ap (λ l. with_front (take i all) (free_rules (ids_before i) l)) (free_here i rule lt is)
      ∙ ap (λ (r : Result (List ℕ) PolicyFault). with_front (take i all) (r >>= λ first. free_rules (ids_before i ++ rule.id ∷ []) (drop (i + 1) all) >>= λ others. Ok (rule ∷ others))) e

  pub free_seen : (ids : List (List ℕ)) (i : ℕ) (rule : Rule) → i < length all → rule ≡ get_or all i rule → SameIds ids (ids_before i ++ rule.id ∷ []) → SameIds ids (ids_before (i + 1))
  free_seen ids i rule lt is same q = same q ∙ ap (is_among q) (sym (ids_more i rule lt is))

  pub free_count : (i : ℕ) → i < length all → i + 1 ≡ length (ids_before i) + 1
  free_count i lt = omega (arith, length-map (take i all) (λ (r : Rule). r.id), length-take i all)

  pub free_done : (i : ℕ) → length all ≤ i → free_from i ≡ Ok all
  free_done i past = ap (λ l. with_front (take i all) (free_rules (ids_before i) l)) (drop_all i all past) ∙ front_all (take i all) ∙ ap (λ (l : List Rule). Ok l) (take_all i all past)

-- ---- keys

-- the keys of a map are those of its members
pub only_tells : (known : List (List ℕ)) (es : List (String Global × Value)) → list_all (λ k. list_any (λ word. bytes_eq word (string_bytes k)) known) (keys_of es) ≡ has_only known (members_view es)
only_tells known [] = refl
only_tells known (e ∷ es) = rw (only_tells known es) refl

-- ---- tables

abbrev pub tables_front : List Members → Option (List Members) → Option (List Members)
tables_front done rest = option_map (λ mss. done ++ mss) rest

table_next : (d : Data) (ds : Items) (ms : Members) → as_table d ≡ Some ms → tables_of (item d ds) ≡ option_map (λ mss. ms ∷ mss) (tables_of ds)
table_next (string text) ds ms e = absurd cc
table_next (integer z) ds ms e = absurd cc
table_next (float x) ds ms e = absurd cc
table_next (boolean b) ds ms e = absurd cc
table_next (datetime t) ds ms e = absurd cc
table_next (array es) ds ms e = absurd cc
table_next (table ns) ds ms e = let same : ns ≡ ms = cc in ap (λ (m : Members). option_map (λ mss. m ∷ mss) (tables_of ds)) same

table_none : (d : Data) (ds : Items) → as_table d ≡ None → tables_of (item d ds) ≡ None
table_none (string text) ds e = refl
table_none (integer z) ds e = refl
table_none (float x) ds e = refl
table_none (boolean b) ds e = refl
table_none (datetime t) ds e = refl
table_none (array es) ds e = refl
table_none (table ns) ds e = absurd cc

front_table : (done : List Members) (ms : Members) (rest : Option (List Members)) → tables_front done (option_map (λ mss. ms ∷ mss) rest) ≡ tables_front (done ++ ms ∷ []) rest
front_table done ms None = refl
front_table done ms (Some mss) = ap (λ (l : List Members). Some l) (sym (append_assoc done (ms ∷ []) mss))

pub tables_first : (rest : Option (List Members)) → rest ≡ tables_front [] rest
tables_first None = refl
tables_first (Some mss) = refl

module _ (items : List Value) where
  pub tables_more : (done : List Members) (i : ℕ) (v : Value) (ms : Members) → items_view (drop i items) ≡ item (view v) (items_view (drop (i + 1) items)) → as_table (view v) ≡ Some ms → tables_front done (tables_of (items_view (drop i items))) ≡ tables_front (done ++ ms ∷ []) (tables_of (items_view (drop (i + 1) items)))
  tables_more done i v ms here e = ap (λ ds. tables_front done (tables_of ds)) here ∙ ap (tables_front done) (table_next (view v) (items_view (drop (i + 1) items)) ms e) ∙ front_table done ms (tables_of (items_view (drop (i + 1) items)))

  pub tables_stop : (done : List Members) (i : ℕ) (v : Value) → items_view (drop i items) ≡ item (view v) (items_view (drop (i + 1) items)) → as_table (view v) ≡ None → tables_front done (tables_of (items_view (drop i items))) ≡ None
  tables_stop done i v here e = ap (λ ds. tables_front done (tables_of ds)) here ∙ ap (tables_front done) (table_none (view v) (items_view (drop (i + 1) items)) e)

  pub tables_done : (done : List Members) (i : ℕ) → length items ≤ i → tables_front done (tables_of (items_view (drop i items))) ≡ Some done
  tables_done done i past = ap (λ (l : List Value). tables_front done (tables_of (items_view l))) (drop_all i items past) ∙ ap (λ (l : List Members). Some l) (append-nil done)

pub rules_array : (d : Data) (ds : Items) → as_array d ≡ Some ds → rule_tables (Some d) ≡ ok_or (tables_of ds) (BadValue Rules)
rules_array (string text) ds e = absurd cc
rules_array (integer z) ds e = absurd cc
rules_array (float x) ds e = absurd cc
rules_array (boolean b) ds e = absurd cc
rules_array (datetime t) ds e = absurd cc
rules_array (array es) ds e = let same : es ≡ ds = cc in ap (λ (l : Items). ok_or (tables_of l) (BadValue Rules)) same
rules_array (table ms) ds e = absurd cc

pub rules_other : (d : Data) → as_array d ≡ None → rule_tables (Some d) ≡ Err (BadValue Rules)
rules_other (string text) e = refl
rules_other (integer z) e = refl
rules_other (float x) e = refl
rules_other (boolean b) e = refl
rules_other (datetime t) e = refl
rules_other (array es) e = absurd cc
rules_other (table ms) e = refl

-- ---- documents

pub only_rule : (word : List ℕ) (es : List (String Global × Value)) → list_all (λ k. bytes_eq word (string_bytes k)) (keys_of es) ≡ has_only (word ∷ []) (members_view es)
only_rule word [] = refl
only_rule word (e ∷ es) = rw (only_rule word es) (ap (λ (b : Bool). b && has_only (word ∷ []) (members_view es)) (sym (or_false (bytes_eq word (string_bytes e.0)))))
  where
    or_false : (a : Bool) → (a || false) ≡ a
    or_false true = refl
    or_false false = refl

pub document_text : (text : List ℕ) → IsUtf8 text → document_of text ≡ parse_document text
document_text text is = rw (is_utf8-from_IsUtf8 text is) refl

pub document_none : (text : List ℕ) → ¬ IsUtf8 text → document_of text ≡ None
document_none text not =
    ⊎_elim
    (λ (yes' : is_utf8 text ≡ true). absurd (not (IsUtf8-from_is_utf8 text yes')))
    (λ (no' : is_utf8 text ≡ false). rw no' refl)
    (cases_Bool (is_utf8 text))
