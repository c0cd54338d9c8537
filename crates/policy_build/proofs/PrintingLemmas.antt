-- The tables that rules are printed as spell them.
use Rattle.std.proofs.Common.{◌≡◌, inr, ℕ, ◌+◌, ◌<◌, ◌≤◌, List, [], ◌∷◌, ◌++◌, length, map, take, get_or, Option, Some, None, Ok, Ordering, Less, Equal, Greater, String, Global, string_bytes, refl, sym, ap, ◌∙◌, subst, codes, arith}
use Rattle.std.specs.List.{All}
use Rattle.std.specs.BTreeMap.{insert_entry}
use Rattle.std.specs.Ordering.{match_ordering}
use Rattle.std.specs.String.{string_cmp}
use Rattle.toml.specs.Data.{Data, string, array, table, Items, no_items, item, Members, no_members, push_item, depth, items_depth, members_depth}
use Rattle.toml.specs.View.{view, items_view, members_view, table_view}
use Rattle.toml.specs.declared.value.Value.{Value, Table}
use Rattle.dns_names.specs.Labels.{IsName}
use Rattle.dns_names.specs.Spelling.{SpellsAbsolute}
use Rattle.dns_data.specs.Types.{IsCalled, type_text}
use Rattle.grant_policy.specs.declared.rule.Rule.{Rule}
use Rattle.grant_policy.specs.Documents.{AreRules, HasOnly, SpellsCallers, SpellsItems, SpellsRule, SpellsRules, SpellsSelection, document_of, rule_keys}
use Rattle.grant_policy.specs.Identifiers.{IsIdentifier}
use Rattle.grant_policy.specs.Reading.{policy_of}
use Rattle.grant_policy.specs.Words.{action_text, effect_text, scope_text}
use Rattle.grant_policy.proofs.DocumentLaws.{policy_only}
use Rattle.grant_policy.proofs.ReadLemmas.{document_text}
use Rattle.std.specs.Str.{IsUtf8}
use Rattle.toml.specs.Parse.{parse_document}
use Rattle.policy_build.specs.Printing.{put_member, selection_data, words_data}
use Rattle.policy_build.specs.Selections.{IsSelection}
use Rattle.policy_build.proofs.LoopLemmas.{so_far}
use Rattle.toml.proofs.Views.{items_view-push, view-Table}
use Rattle.std.proofs.Common.{BTreeMap}
use Rattle.std.proofs.lemmas.List.{get_or-map, length-map, map-append}

-- ---- tables

match_members : (o : Ordering) (a b c : List (String Global × Value)) → members_view (match_ordering o a b c) ≡ match_ordering o (members_view a) (members_view b) (members_view c)
match_members Less a b c = refl
match_members Equal a b c = refl
match_members Greater a b c = refl

-- what an insert into the map of a table leaves
pub put_view : (k : String Global) (v : Value) (es : List (String Global × Value)) → members_view (insert_entry string_cmp es k v) ≡ put_member (string_bytes k) (view v) (members_view es)
put_view k v [] = refl
put_view k v (e ∷ es) = match_members (string_cmp k e.0) ((k, v) ∷ e ∷ es) ((e.0, v) ∷ es) (e ∷ insert_entry string_cmp es k v) ∙ rw (put_view k v es) refl

pub put_table : (k : String Global) (text : List ℕ) (v : Value) (old new : List (String Global × Value)) → new ≡ insert_entry string_cmp old k v → string_bytes k ≡ text → members_view new ≡ put_member text (view v) (members_view old)
put_table k text v old new e same = ap members_view e ∙ put_view k v old ∙ ap (λ t. put_member t (view v) (members_view old)) same

-- ---- words

pub words_push : {X : Type 0} (text : X → List ℕ) (xs : List X) (x : X) → words_data text (xs ++ x ∷ []) ≡ push_item (words_data text xs) (string (text x))
words_push text [] x = refl
words_push text (y ∷ xs) x = ap (item (string (text y))) (words_push text xs x)

pub words_more : {X : Type 0} (text : X → List ℕ) (words : List X) (i : ℕ) (x : X) (values : List Value) (v : Value) → i < length words → x ≡ get_or words i x → items_view values ≡ words_data text (take i words) → view v ≡ string (text x) → items_view (values ++ v ∷ []) ≡ words_data text (take (i + 1) words)
words_more text words i x values v lt is e seen =
    items_view-push values v
    ∙ ap (λ l. push_item l (view v)) e
    ∙ ap (push_item (words_data text (take i words))) seen
    ∙ sym (words_push text (take i words) x)
    ∙ ap (words_data text) (sym (so_far words i x lt is))

words_spelled : {X : Type 0} (text : X → List ℕ) (Spells : X → List ℕ → Type 0) → ((x : X) → Spells x (text x)) → (xs : List X) → SpellsItems Spells xs (words_data text xs)
words_spelled text Spells own [] = refl
words_spelled text Spells own (x ∷ xs) = (text x, words_data text xs, refl, own x, words_spelled text Spells own xs)

selection_spelled : {X : Type 0} (text : X → List ℕ) (Spells : X → List ℕ → Type 0) → ((x : X) → Spells x (text x)) → (o : Option (List X)) → IsSelection o → SpellsSelection Spells o (selection_data text o)
selection_spelled text Spells own None is = refl
selection_spelled text Spells own (Some xs) is = (words_data text xs, refl, (λ (e : xs ≡ []). omega (arith, ap length e, is)), words_spelled text Spells own xs)

words_shallow : {X : Type 0} (text : X → List ℕ) (xs : List X) → items_depth (words_data text xs) ≡ 0
words_shallow text [] = refl
words_shallow text (x ∷ xs) = rw (words_shallow text xs) refl

selection_shallow : {X : Type 0} (text : X → List ℕ) (o : Option (List X)) → depth (selection_data text o) ≤ 1
selection_shallow text None = omega arith
selection_shallow text (Some xs) = rw (words_shallow text xs) (omega arith)

-- ---- rules

-- the table of a rule
abbrev pub rule_members : List ℕ → List ℕ → List ℕ → List ℕ → List ℕ → Data → Data → Members
rule_members id effect caller scope at types actions =
    put_member (codes "actions") actions
    (put_member (codes "types") types
    (put_member (codes "at") (string at)
    (put_member (codes "scope") (string scope)
    (put_member (codes "caller") (string caller)
    (put_member (codes "effect") (string effect)
    (put_member (codes "id") (string id) no_members))))))

module _ (rule : Rule) (caller at : List ℕ) where
  abbrev pub the_members : Members
  the_members = rule_members rule.id (effect_text rule.effect) caller (scope_text rule.scope) at (selection_data type_text rule.types) (selection_data action_text rule.actions)

  keys_are : HasOnly rule_keys the_members
  keys_are =
      ((6, omega arith, refl), ((4, omega arith, refl), ((2, omega arith, refl), ((1, omega arith, refl), ((0, omega arith, refl), ((3, omega arith, refl), ((5, omega arith, refl), tt)))))))

  pub rule_spelled : IsIdentifier rule.id → SpellsCallers rule.callers caller → IsName rule.at → SpellsAbsolute rule.at at → IsSelection rule.types → IsSelection rule.actions → SpellsRule rule the_members
  rule_spelled id callers name spelled types actions = record {
    keys = keys_are;
    id = refl;
    identifier = id;
    effect = refl;
    caller = (caller, refl, callers);
    scope = refl;
    at = (at, refl, name, spelled);
    types = (selection_data type_text rule.types, refl, selection_spelled type_text IsCalled (λ t. refl) rule.types types);
    actions = (selection_data action_text rule.actions, refl, selection_spelled action_text (λ a text. action_text a ≡ text) (λ a. refl) rule.actions actions);
  }

  pub rule_shallow : members_depth the_members ≤ 1
  rule_shallow = omega (arith, selection_shallow type_text rule.types, selection_shallow action_text rule.actions)

-- ---- lists of rules

pub all_mapped : {X Y : Type 0} (P : Y → Type 0) (f : X → Y) (xs : List X) → All P (map f xs) → All (λ x. P (f x)) xs
all_mapped P f xs all = λ k d lt. subst P (get_or-map f xs k d (f d) lt) (all k (f d) (omega (arith, lt, length-map xs f)))

pub spelled_push : (rules : List Rule) (items : Items) (rule : Rule) (ms : Members) → SpellsRules rules items → SpellsRule rule ms → SpellsRules (rules ++ rule ∷ []) (push_item items (table ms))
spelled_push [] items rule ms none s = (ms, no_items, ap (λ i. push_item i (table ms)) none, s, refl)
spelled_push (r ∷ rules) items rule ms (first, rest, is, here, more) s = (first, push_item rest (table ms), ap (λ i. push_item i (table ms)) is, here, spelled_push rules rest rule ms more s)

pub shallow_push : (items : Items) (ms : Members) → items_depth items ≤ 2 → members_depth ms ≤ 1 → items_depth (push_item items (table ms)) ≤ 2
shallow_push no_items ms a b = omega arith
shallow_push (item d ds) ms a b = let more : items_depth ds ≤ 2 = omega (arith, a) in omega (arith, a, shallow_push ds ms more b)

-- one more rule, and its table
module _ (tables : List Value) (m : BTreeMap (String Global) Value) where
  table_pushed : items_view (tables ++ Table m ∷ []) ≡ push_item (items_view tables) (table (table_view m))
  table_pushed = items_view-push tables (Table m) ∙ ap (push_item (items_view tables)) (view-Table m)

  pub spelled_more : {X : Type 0} (rule_of : X → Rule) (rules : List X) (i : ℕ) (x : X) → i < length rules → x ≡ get_or rules i x
      → SpellsRules (map rule_of (take i rules)) (items_view tables) → SpellsRule (rule_of x) (table_view m) → SpellsRules (map rule_of (take (i + 1) rules)) (items_view (tables ++ Table m ∷ []))
  spelled_more rule_of rules i x lt is spelled s =
      let grown : map rule_of (take (i + 1) rules) ≡ map rule_of (take i rules) ++ rule_of x ∷ [] = ap (map rule_of) (so_far rules i x lt is) ∙ map-append rule_of (take i rules) (x ∷ []) in
      subst (λ (l : List Rule). SpellsRules l (items_view (tables ++ Table m ∷ []))) (sym grown)
      (subst (λ (l : Items). SpellsRules (map rule_of (take i rules) ++ rule_of x ∷ []) l) (sym table_pushed)
      (spelled_push (map rule_of (take i rules)) (items_view tables) (rule_of x) (table_view m) spelled s))

  pub shallow_more : items_depth (items_view tables) ≤ 2 → members_depth (table_view m) ≤ 1 → items_depth (items_view (tables ++ Table m ∷ [])) ≤ 2
  shallow_more shallow a = subst (λ (l : Items). items_depth l ≤ 2) (sym table_pushed) (shallow_push (items_view tables) (table_view m) shallow a)

-- ---- documents

abbrev pub policy_members : Items → Members
policy_members items = put_member (codes "rule") (array items) no_members

pub printed_again : (items : Items) (rules : List Rule) → SpellsRules rules items → AreRules rules → policy_of (Some (policy_members items)) ≡ Ok rules
printed_again items rules spelled are = policy_only (policy_members items) rules (record { keys = ((0, omega arith, refl), tt); tables = inr (items, refl, spelled); are = are })

pub printed_shallow : (items : Items) → items_depth items ≤ 2 → members_depth (policy_members items) ≤ 80
printed_shallow items a = omega (arith, a)

pub printed : (items : Items) (rules : List Rule) (top : Members) (text : List ℕ) → top ≡ policy_members items → IsUtf8 text → (members_depth top ≤ 80 → parse_document text ≡ Some top) → SpellsRules rules items → items_depth items ≤ 2 → AreRules rules → policy_of (document_of text) ≡ Ok rules
printed items rules top text e utf8 back spelled shallow are =
    let deep : members_depth top ≤ 80 = subst (λ (m : Members). members_depth m ≤ 80) (sym e) (printed_shallow items shallow) in
    ap policy_of (document_text text utf8 ∙ back deep ∙ ap Some e) ∙ printed_again items rules spelled are
