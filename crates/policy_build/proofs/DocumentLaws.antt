-- A file is read exactly from the documents that are one.
use Rattle.std.proofs.Common.{◌≡◌, ◌≢◌, inl, inr, ℕ, ◌+◌, Bool, true, false, ◌||◌, cond, List, [], ◌∷◌, ◌++◌, length, map, Option, Some, None, Result, Ok, Err, Ordering, Less, Equal, Greater, refl, sym, ap, ◌∙◌, subst, ⊎_elim, codes, arith, length-append, append_assoc, append-nil}
use Rattle.std.specs.Prelude.{bytes_eq, is_some}
use Rattle.std.specs.Bool.{Decides}
use Rattle.std.specs.Cmp.Lexicographic.{slice_cmp}
use Rattle.std.specs.List.{Contains, list_any}
use Rattle.std.specs.Ordering.{match_ordering, nat_cmp}
use Rattle.std.specs.Result.{IfOk}
use Rattle.std.proofs.lemmas.Bool.{cases_Bool, false≢true}
use Rattle.std.proofs.lemmas.Bool.Decides.{Decides-and}
use Rattle.std.proofs.lemmas.Map.Lookups.{exact_bytes}
use Rattle.std.proofs.lemmas.Slice.Eq.{bytes_eq-Decides}
use Rattle.toml.specs.Data.{Data, string, integer, float, boolean, datetime, array, table, Items, no_items, item, Members, no_members, member, as_array, get_member}
use Rattle.dns_data.specs.declared.record_type.RecordType.{RecordType}
use Rattle.dns_data.specs.Types.{IsCalled}
use Rattle.grant_policy.specs.declared.action.Action.{Action}
use Rattle.grant_policy.specs.declared.callers.Callers.{Callers}
use Rattle.grant_policy.specs.declared.effect.Effect.{Effect}
use Rattle.grant_policy.specs.Documents.{HasOnly, SpellsCallers}
use Rattle.grant_policy.proofs.RuleLemmas.{list_any-Decides}
use Rattle.policy_build.specs.declared.build_fault.BuildFault.{BuildFault}
use Rattle.policy_build.specs.declared.build_fault.BuildFault.TheVariants.{UnknownKey, MissingKey, BadValue, Empty}
use Rattle.policy_build.specs.declared.group_rule.GroupRule.{GroupRule}
use Rattle.policy_build.specs.declared.member.Member.{Member}
use Rattle.policy_build.specs.declared.names.Names.{Names}
use Rattle.policy_build.specs.declared.place.FileKey.{FileKey}
use Rattle.policy_build.specs.declared.place.FileKey.TheVariants as key
use Rattle.policy_build.specs.declared.place.Place.{Place}
use Rattle.policy_build.specs.declared.statement.Statement.{Statement}
use Rattle.policy_build.specs.declared.statement.Statement.TheVariants as statement
use Rattle.policy_build.specs.Documents.{AreAt, AreItems, HasKeys, IsAt, IsGroup, IsList, IsListUnless, IsRule, IsSource, IsStatement, IsTable, IsTemplate, IsUse, IsWord, SpellsAction, SpellsEffect, SpellsIdentifier, SpellsMember, SpellsNames}
use Rattle.policy_build.specs.Faults.{Reads, ◌>>=◌}
use Rattle.policy_build.specs.Groups.{GroupOf}
use Rattle.policy_build.specs.Places.{at_key, document_place, key_text, nth_of}
use Rattle.policy_build.specs.Reading.{action_in, at_member, callers_in, effect_in, group_in, has_list, has_only, identifier_in, is_text, items_from, key_of, known_keys, list_of, list_unless, member_in, names_in, of_table, one_member, one_of, optional_of, plain_rule, rule_in, rule_statement_in, source_in, statement_in, template_in, type_in, use_in, use_statement_in, word_of}
use Rattle.policy_build.specs.Sources.{SourceOf}
use Rattle.policy_build.specs.Templates.{TemplateOf, TemplateUseOf}
use Rattle.policy_build.proofs.LoopLemmas.{bind_step}
use Rattle.policy_build.proofs.ReadingLemmas.{list_filled, list_none, unless_list, unless_word}
use Rattle.policy_build.proofs.ResolvingLaws.{bind_ok, not_Err, same_Ok}
use Rattle.policy_build.proofs.SeenLemmas.{AreMembers, AreSeen, IsSeen, array_seen, member_seen, table_seen, text_seen}
use Rattle.policy_build.proofs.WordLaws.{FindsWord, IsPlain, TakesWord, action_found, action_only, callers_found, callers_only, callers_plain, effect_found, effect_only, identifier_found, identifier_only, member_found, member_only, names_found, names_only, names_plain, type_found, type_only}

-- what a reading of values finds is as it says, and what is so is read
abbrev pub Finds : {X : Type 0} → (Place → Data → Result X BuildFault) → (Place → X → Data → Type 0) → Type 0
Finds {X} read Is = (place : Place) (d : Data) (x : X) → IsSeen d → read place d ≡ Ok x → Is place x d

abbrev pub Takes : {X : Type 0} → (Place → Data → Result X BuildFault) → (Place → X → Data → Type 0) → Type 0
Takes {X} read Is = (place : Place) (d : Data) (x : X) → Is place x d → read place d ≡ Ok x

-- the same of tables
abbrev pub FindsIn : {X : Type 0} → (Place → Members → Result X BuildFault) → (Place → X → Members → Type 0) → Type 0
FindsIn {X} read Is = (place : Place) (ms : Members) (x : X) → AreMembers ms → read place ms ≡ Ok x → Is place x ms

abbrev pub TakesIn : {X : Type 0} → (Place → Members → Result X BuildFault) → (Place → X → Members → Type 0) → Type 0
TakesIn {X} read Is = (place : Place) (ms : Members) (x : X) → Is place x ms → read place ms ≡ Ok x

-- ---- values

module _ {X : Type 0} (word : Place → List ℕ → Result X BuildFault) (Spells : X → List ℕ → Type 0) where
  word_found : FindsWord word Spells → Finds (word_of word) (IsWord Spells)
  word_found found place (string text) x seen e = (text, refl, found place text x (text_seen text seen) e)
  word_found found place (integer z) x seen e = absurd (not_Err (BadValue place) x e)
  word_found found place (float r) x seen e = absurd (not_Err (BadValue place) x e)
  word_found found place (boolean b) x seen e = absurd (not_Err (BadValue place) x e)
  word_found found place (datetime t) x seen e = absurd (not_Err (BadValue place) x e)
  word_found found place (array ds) x seen e = absurd (not_Err (BadValue place) x e)
  word_found found place (table ms) x seen e = absurd (not_Err (BadValue place) x e)

  word_only : TakesWord word Spells → Takes (word_of word) (IsWord Spells)
  word_only takes place d x (text, is, spelled) = ap (word_of word place) is ∙ takes place text x spelled

module _ {X : Type 0} (read : Place → Members → Result X BuildFault) (Is : Place → X → Members → Type 0) where
  table_found : FindsIn read Is → Finds (of_table read) (IsTable Is)
  table_found found place (table ms) x seen e = (ms, refl, found place ms x (table_seen ms seen) e)
  table_found found place (string text) x seen e = absurd (not_Err (BadValue place) x e)
  table_found found place (integer z) x seen e = absurd (not_Err (BadValue place) x e)
  table_found found place (float r) x seen e = absurd (not_Err (BadValue place) x e)
  table_found found place (boolean b) x seen e = absurd (not_Err (BadValue place) x e)
  table_found found place (datetime t) x seen e = absurd (not_Err (BadValue place) x e)
  table_found found place (array ds) x seen e = absurd (not_Err (BadValue place) x e)

  table_only : TakesIn read Is → Takes (of_table read) (IsTable Is)
  table_only takes place d x (ms, is, here) = ap (of_table read place) is ∙ takes place ms x here

module _ {X : Type 0} (read : Place → Data → Result X BuildFault) (Is : Place → X → Data → Type 0) where
  -- ---- lists

  abbrev next : Place → List X → Items → X → Result (List X) BuildFault
  next place before ds x = items_from read place (before ++ x ∷ []) ds

  abbrev alone : X → Result (List X) BuildFault
  alone x = Ok (x ∷ [])

  one_more : (before : List X) (x : X) → length (before ++ x ∷ []) ≡ length before + 1
  one_more before x = omega (arith, length-append before (x ∷ []))

  items_found : Finds read Is → (place : Place) (before : List X) (ds : Items) (all : List X) → AreSeen ds → items_from read place before ds ≡ Ok all → (xs : List X) × (all ≡ before ++ xs) × AreItems Is place (length before + 1) xs ds
  items_found found place before no_items all seen e = ([], sym (same_Ok before all e) ∙ sym (append-nil before), refl)
  items_found found place before (item d ds) all seen e =
      let a = bind_ok (read (nth_of place (length before + 1)) d) (next place before ds) all e in
      let rest = items_found found place (before ++ a.0 ∷ []) ds all seen.1 a.2 in (
        a.0 ∷ rest.0,
        rest.1 ∙ append_assoc before (a.0 ∷ []) rest.0,
        (d, ds, refl, found (nth_of place (length before + 1)) d a.0 seen.0 a.1, subst (λ (n : ℕ). AreItems Is place (n + 1) rest.0 ds) (one_more before a.0) rest.2),
      )

  items_only : Takes read Is → (place : Place) (xs before : List X) (ds : Items) → AreItems Is place (length before + 1) xs ds → items_from read place before ds ≡ Ok (before ++ xs)
  items_only takes place [] before ds e = ap (items_from read place before) e ∙ ap (λ (l : List X). Ok l) (sym (append-nil before))
  items_only takes place (x ∷ xs) before ds (d, rest, is, here, more) =
      ap (items_from read place before) is
      ∙ bind_step (read (nth_of place (length before + 1)) d) (next place before rest) x (takes (nth_of place (length before + 1)) d x here)
      ∙ items_only takes place xs (before ++ x ∷ []) rest (subst (λ (n : ℕ). AreItems Is place (n + 1) xs rest) (sym (one_more before x)) more)
      ∙ ap (λ (l : List X). Ok l) (append_assoc before (x ∷ []) xs)

  alone_found : Finds read Is → (place : Place) (d : Data) (xs : List X) → IsSeen d → as_array d ≡ None → one_of read place d ≡ Ok xs → IsList Is place xs d
  alone_found found place d xs seen none e =
      let a = bind_ok (read (nth_of place 1) d) alone xs e in
      inr (a.0, sym (same_Ok (a.0 ∷ []) xs a.2), none, found (nth_of place 1) d a.0 seen a.1)

  pub list_found : Finds read Is → Finds (list_of read) (IsList Is)
  list_found found place (array no_items) xs seen e = absurd (not_Err (Empty place) xs e)
  list_found found place (array (item d ds)) xs seen e =
      let all = items_found found place [] (item d ds) xs (array_seen (item d ds) seen) e in
      let some = list_filled read place (array (item d ds)) xs e in
      inl (item d ds, refl, (λ (none : xs ≡ []). omega (arith, some, ap (length {A = X}) none)), subst (λ (l : List X). AreItems Is place 1 l (item d ds)) (sym all.1) all.2)
  list_found found place (string text) xs seen e = alone_found found place (string text) xs seen refl e
  list_found found place (integer z) xs seen e = alone_found found place (integer z) xs seen refl e
  list_found found place (float r) xs seen e = alone_found found place (float r) xs seen refl e
  list_found found place (boolean b) xs seen e = alone_found found place (boolean b) xs seen refl e
  list_found found place (datetime t) xs seen e = alone_found found place (datetime t) xs seen refl e
  list_found found place (table ms) xs seen e = alone_found found place (table ms) xs seen refl e

  array_only : Takes read Is → (place : Place) (xs : List X) (ds : Items) → xs ≢ [] → AreItems Is place 1 xs ds → list_of read place (array ds) ≡ Ok xs
  array_only takes place [] ds some are = absurd (some refl)
  array_only takes place (x ∷ xs) ds some (d, rest, is, here, more) = ap (λ l. list_of read place (array l)) is ∙ items_only takes place (x ∷ xs) [] (item d rest) (d, rest, refl, here, more)

  pub list_only : Takes read Is → Takes (list_of read) (IsList Is)
  list_only takes place d xs are =
      ⊎_elim
      (λ (many : (items : Items) × (d ≡ array items) × (xs ≢ []) × AreItems Is place 1 xs items). ap (list_of read place) many.1 ∙ array_only takes place xs many.0 many.2 many.3)
      (λ (one : (x : X) × (xs ≡ x ∷ []) × (as_array d ≡ None) × Is (nth_of place 1) x d).
      list_none read place d one.2 ∙ bind_step (read (nth_of place 1) d) alone one.0 (takes (nth_of place 1) d one.0 one.3) ∙ ap (λ (l : List X). Ok l) (sym one.1))
      are

  -- ---- a word in place of a list

  abbrev listed : List X → Result (Option (List X)) BuildFault
  listed items = Ok (Some items)

  abbrev unlisted : Result (Option (List X)) BuildFault
  unlisted = Ok None

  text_is : (word : List ℕ) (d : Data) → is_text word d ≡ true → d ≡ string word
  text_is word (string text) e = ap string ((bytes_eq-Decides text word).0 e)
  text_is word (integer z) e = absurd (false≢true e)
  text_is word (float r) e = absurd (false≢true e)
  text_is word (boolean b) e = absurd (false≢true e)
  text_is word (datetime t) e = absurd (false≢true e)
  text_is word (array ds) e = absurd (false≢true e)
  text_is word (table ms) e = absurd (false≢true e)

  is_itself : (word : List ℕ) (d : Data) → d ≡ string word → is_text word d ≡ true
  is_itself word d e = ap (is_text word) e ∙ (bytes_eq-Decides word word).1 refl

  pub unless_found : (word : List ℕ) → Finds read Is → Finds (list_unless word read) (λ p. IsListUnless Is p word)
  unless_found word found place d o seen e =
      ⊎_elim
      (λ (yes' : is_text word d ≡ true).
      subst (λ (p : Option (List X)). IsListUnless Is place word p d) (same_Ok None o (sym (unless_word word read place d yes') ∙ e)) (text_is word d yes'))
      (λ (no' : is_text word d ≡ false).
      let a = bind_ok (list_of read place d) listed o (sym (unless_list word read place d no') ∙ e) in
      subst (λ (p : Option (List X)). IsListUnless Is place word p d) (same_Ok (Some a.0) o a.2) (
        (λ (same : d ≡ string word). absurd (false≢true (sym no' ∙ is_itself word d same))),
        list_found found place d a.0 seen a.1,
      ))
      (cases_Bool (is_text word d))

  pub unless_only : (word : List ℕ) → Takes read Is → Takes (list_unless word read) (λ p. IsListUnless Is p word)
  unless_only word takes place d None same = unless_word word read place d (is_itself word d same)
  unless_only word takes place d (Some xs) (other, are) =
      ⊎_elim
      (λ (yes' : is_text word d ≡ true). absurd (other (text_is word d yes')))
      (λ (no' : is_text word d ≡ false). unless_list word read place d no' ∙ bind_step (list_of read place d) listed xs (list_only takes place d xs are))
      (cases_Bool (is_text word d))

  -- ---- keys

  at_found : (k : FileKey) → Finds read Is → FindsIn (λ place. key_of read place k) (λ place. IsAt Is place k)
  at_found k found place ms x members e = by (get_member (key_text k) ms) refl e
    where
      by : (o : Option Data) → get_member (key_text k) ms ≡ o → at_member (read (at_key place k)) (Err (MissingKey (at_key place k))) o ≡ Ok x → IsAt Is place k x ms
      by None is f = absurd (not_Err (MissingKey (at_key place k)) x f)
      by (Some d) is f = (d, is, found (at_key place k) d x (member_seen (key_text k) ms d members is) f)

  at_only : (k : FileKey) → Takes read Is → TakesIn (λ place. key_of read place k) (λ place. IsAt Is place k)
  at_only k takes place ms x (d, is, here) = ap (at_member (read (at_key place k)) (Err (MissingKey (at_key place k)))) is ∙ takes (at_key place k) d x here

  are_found : (k : FileKey) → Finds read Is → FindsIn (λ place. optional_of read place k) (λ place. AreAt Is place k)
  are_found k found place ms xs members e = by (get_member (key_text k) ms) refl e
    where
      by : (o : Option Data) → get_member (key_text k) ms ≡ o → at_member (list_of read (at_key place k)) (Ok []) o ≡ Ok xs → AreAt Is place k xs ms
      by None is f = inl (is, sym (same_Ok [] xs f))
      by (Some d) is f = inr (d, is, list_found found (at_key place k) d xs (member_seen (key_text k) ms d members is) f)

  are_only : (k : FileKey) → Takes read Is → TakesIn (λ place. optional_of read place k) (λ place. AreAt Is place k)
  are_only k takes place ms xs are =
      ⊎_elim
      (λ (none : (get_member (key_text k) ms ≡ None) × (xs ≡ [])). ap (at_member (list_of read (at_key place k)) (Ok [])) none.0 ∙ ap (λ (l : List X). Ok l) (sym none.1))
      (λ (some : IsAt (IsList Is) place k xs ms). ap (at_member (list_of read (at_key place k)) (Ok [])) some.1 ∙ list_only takes (at_key place k) some.0 xs some.2)
      are

any_key : (known : List FileKey) (k : List ℕ) → list_any (λ word. bytes_eq word k) (map key_text known) ≡ list_any (λ one. bytes_eq (key_text one) k) known
any_key [] k = refl
any_key (one ∷ known) k = ap (λ b. bytes_eq (key_text one) k || b) (any_key known k)

keys-Decides : (known : List FileKey) (ms : Members) → Decides (has_only known ms) (HasKeys known ms)
keys-Decides known no_members = (λ _. tt, λ _. refl)
keys-Decides known (member k d ms) =
    Decides-and _ _ (subst (λ b. Decides b (Contains (map key_text known) k)) (any_key known k) (list_any-Decides bytes_eq bytes_eq-Decides k (map key_text known))) (keys-Decides known ms)

keys_found : (known : List FileKey) (place : Place) (ms : Members) (u : Unit {0}) → known_keys known place ms ≡ Ok u → HasKeys known ms
keys_found known place ms u e =
    ⊎_elim
    (λ (yes' : has_only known ms ≡ true). (keys-Decides known ms).0 yes')
    (λ (no' : has_only known ms ≡ false). absurd (not_Err (UnknownKey place) u (sym (ap (λ b. cond b (Ok tt) (Err (UnknownKey place))) no') ∙ e)))
    (cases_Bool (has_only known ms))

keys_only : (known : List FileKey) (place : Place) (ms : Members) → HasKeys known ms → known_keys known place ms ≡ Ok tt
keys_only known place ms has = ap (λ b. cond b (Ok tt) (Err (UnknownKey place))) ((keys-Decides known ms).1 has)

-- ---- the values of tables

abbrev pub read_id : Place → Data → Result (List ℕ) BuildFault
read_id = word_of identifier_in

id_found : Finds read_id (IsWord SpellsIdentifier)
id_found = word_found identifier_in SpellsIdentifier identifier_found

id_only : Takes read_id (IsWord SpellsIdentifier)
id_only = word_only identifier_in SpellsIdentifier identifier_only

module _ {X : Type 0} (word : Place → List ℕ → Result X BuildFault) (Spells : X → List ℕ → Type 0) where
  one_found : FindsWord word Spells → Finds (one_member word) (IsWord (SpellsMember Spells))
  one_found found = word_found (member_in word) (SpellsMember Spells) (member_found word Spells found)

  one_only : IsPlain Spells → TakesWord word Spells → Takes (one_member word) (IsWord (SpellsMember Spells))
  one_only plain takes = word_only (member_in word) (SpellsMember Spells) (member_only word Spells plain takes)

  members_found : FindsWord word Spells → Finds (list_of (one_member word)) (IsList (IsWord (SpellsMember Spells)))
  members_found found = list_found (one_member word) (IsWord (SpellsMember Spells)) (one_found found)

  members_only : IsPlain Spells → TakesWord word Spells → Takes (list_of (one_member word)) (IsList (IsWord (SpellsMember Spells)))
  members_only plain takes = list_only (one_member word) (IsWord (SpellsMember Spells)) (one_only plain takes)

  -- ---- groups

  abbrev group_keys : List FileKey
  group_keys = key.Id ∷ key.Members ∷ []

  module _ (place : Place) (ms : Members) where
    abbrev group_of : List ℕ → List (Member X) → Result (GroupOf X) BuildFault
    group_of id members = Ok (record { place = place; id = id; members = members })

    abbrev group_with : List ℕ → Result (GroupOf X) BuildFault
    group_with id = key_of (list_of (one_member word)) place key.Members ms >>= group_of id

    abbrev group_after : Unit {0} → Result (GroupOf X) BuildFault
    group_after known = key_of read_id place key.Id ms >>= group_with

  group_found : FindsWord word Spells → FindsIn (group_in word) (IsGroup Spells)
  group_found found place ms group seen e =
      let k = bind_ok (known_keys group_keys place ms) (group_after place ms) group e in
      let i = bind_ok (key_of read_id place key.Id ms) (group_with place ms) group k.2 in
      let m = bind_ok (key_of (list_of (one_member word)) place key.Members ms) (group_of place ms i.0) group i.2 in
      subst (λ (g : GroupOf X). IsGroup Spells place g ms) (same_Ok (record { place = place; id = i.0; members = m.0 }) group m.2) (record {
        keys = keys_found group_keys place ms k.0 k.1;
        here = refl;
        id = at_found read_id (IsWord SpellsIdentifier) key.Id id_found place ms i.0 seen i.1;
        members = at_found (list_of (one_member word)) (IsList (IsWord (SpellsMember Spells))) key.Members (members_found found) place ms m.0 seen m.1;
      })

  group_only : IsPlain Spells → TakesWord word Spells → TakesIn (group_in word) (IsGroup Spells)
  group_only plain takes place ms group is =
      bind_step (known_keys group_keys place ms) (group_after place ms) tt (keys_only group_keys place ms is.keys)
      ∙ bind_step (key_of read_id place key.Id ms) (group_with place ms) group.id (at_only read_id (IsWord SpellsIdentifier) key.Id id_only place ms group.id is.id)
      ∙ bind_step (key_of (list_of (one_member word)) place key.Members ms) (group_of place ms group.id) group.members
      (at_only (list_of (one_member word)) (IsList (IsWord (SpellsMember Spells))) key.Members (members_only plain takes) place ms group.members is.members)
      ∙ ap (λ (p : Place). ok_group (record { place = p; id = group.id; members = group.members })) (sym is.here)
    where
      ok_group : GroupOf X → Result (GroupOf X) BuildFault
      ok_group g = Ok g

-- ---- rules

abbrev rule_keys : List FileKey
rule_keys = key.Id ∷ key.Effect ∷ key.Callers ∷ key.Names ∷ key.Types ∷ key.Actions ∷ []

abbrev read_effect : Place → Data → Result Effect BuildFault
read_effect = word_of effect_in

abbrev read_callers : Place → Data → Result (Option (List (Member Callers))) BuildFault
read_callers = list_unless (codes "$callers") (one_member callers_in)

abbrev read_names : Place → Data → Result (Option (List (Member Names))) BuildFault
read_names = list_unless (codes "$names") (one_member names_in)

abbrev read_types : Place → Data → Result (Option (List RecordType)) BuildFault
read_types = list_unless (codes "*") (word_of type_in)

abbrev read_actions : Place → Data → Result (Option (List Action)) BuildFault
read_actions = list_unless (codes "*") (word_of action_in)

abbrev AreCallers : Place → Option (List (Member Callers)) → Data → Type 0
AreCallers p = IsListUnless (IsWord (SpellsMember SpellsCallers)) p (codes "$callers")

abbrev AreNames : Place → Option (List (Member Names)) → Data → Type 0
AreNames p = IsListUnless (IsWord (SpellsMember SpellsNames)) p (codes "$names")

abbrev AreTypes : Place → Option (List RecordType) → Data → Type 0
AreTypes p = IsListUnless (IsWord IsCalled) p (codes "*")

abbrev AreActions : Place → Option (List Action) → Data → Type 0
AreActions p = IsListUnless (IsWord SpellsAction) p (codes "*")

module _ (place : Place) (ms : Members) where
  abbrev r6 : List ℕ → Effect → Option (List (Member Callers)) → Option (List (Member Names)) → Option (List RecordType) → Option (List Action) → Result GroupRule BuildFault
  r6 id effect callers names types actions = Ok (record { place = place; id = id; effect = effect; callers = callers; names = names; types = types; actions = actions })

  abbrev r5 : List ℕ → Effect → Option (List (Member Callers)) → Option (List (Member Names)) → Option (List RecordType) → Result GroupRule BuildFault
  r5 id effect callers names types = key_of read_actions place key.Actions ms >>= r6 id effect callers names types

  abbrev r4 : List ℕ → Effect → Option (List (Member Callers)) → Option (List (Member Names)) → Result GroupRule BuildFault
  r4 id effect callers names = key_of read_types place key.Types ms >>= r5 id effect callers names

  abbrev r3 : List ℕ → Effect → Option (List (Member Callers)) → Result GroupRule BuildFault
  r3 id effect callers = key_of read_names place key.Names ms >>= r4 id effect callers

  abbrev r2 : List ℕ → Effect → Result GroupRule BuildFault
  r2 id effect = key_of read_callers place key.Callers ms >>= r3 id effect

  abbrev r1 : List ℕ → Result GroupRule BuildFault
  r1 id = key_of read_effect place key.Effect ms >>= r2 id

  abbrev r0 : Unit {0} → Result GroupRule BuildFault
  r0 known = key_of read_id place key.Id ms >>= r1

rule_found : FindsIn rule_in IsRule
rule_found place ms rule seen e =
    let k = bind_ok (known_keys rule_keys place ms) (r0 place ms) rule e in
    let i = bind_ok (key_of read_id place key.Id ms) (r1 place ms) rule k.2 in
    let f = bind_ok (key_of read_effect place key.Effect ms) (r2 place ms i.0) rule i.2 in
    let c = bind_ok (key_of read_callers place key.Callers ms) (r3 place ms i.0 f.0) rule f.2 in
    let n = bind_ok (key_of read_names place key.Names ms) (r4 place ms i.0 f.0 c.0) rule c.2 in
    let t = bind_ok (key_of read_types place key.Types ms) (r5 place ms i.0 f.0 c.0 n.0) rule n.2 in
    let a = bind_ok (key_of read_actions place key.Actions ms) (r6 place ms i.0 f.0 c.0 n.0 t.0) rule t.2 in
    subst (λ (r : GroupRule). IsRule place r ms) (same_Ok (record { place = place; id = i.0; effect = f.0; callers = c.0; names = n.0; types = t.0; actions = a.0 }) rule a.2) (record {
      keys = keys_found rule_keys place ms k.0 k.1;
      here = refl;
      id = at_found read_id (IsWord SpellsIdentifier) key.Id id_found place ms i.0 seen i.1;
      effect = at_found read_effect (IsWord SpellsEffect) key.Effect (word_found effect_in SpellsEffect effect_found) place ms f.0 seen f.1;
      callers = at_found read_callers AreCallers key.Callers (unless_found (one_member callers_in) (IsWord (SpellsMember SpellsCallers)) (codes "$callers") (one_found callers_in SpellsCallers callers_found)) place ms c.0 seen c.1;
      names = at_found read_names AreNames key.Names (unless_found (one_member names_in) (IsWord (SpellsMember SpellsNames)) (codes "$names") (one_found names_in SpellsNames names_found)) place ms n.0 seen n.1;
      types = at_found read_types AreTypes key.Types (unless_found (word_of type_in) (IsWord IsCalled) (codes "*") (word_found type_in IsCalled type_found)) place ms t.0 seen t.1;
      actions = at_found read_actions AreActions key.Actions (unless_found (word_of action_in) (IsWord SpellsAction) (codes "*") (word_found action_in SpellsAction action_found)) place ms a.0 seen a.1;
    })

rule_only : TakesIn rule_in IsRule
rule_only place ms rule is =
    bind_step (known_keys rule_keys place ms) (r0 place ms) tt (keys_only rule_keys place ms is.keys)
    ∙ bind_step (key_of read_id place key.Id ms) (r1 place ms) rule.id (at_only read_id (IsWord SpellsIdentifier) key.Id id_only place ms rule.id is.id)
    ∙ bind_step (key_of read_effect place key.Effect ms) (r2 place ms rule.id) rule.effect (at_only read_effect (IsWord SpellsEffect) key.Effect (word_only effect_in SpellsEffect effect_only) place ms rule.effect is.effect)
    ∙ bind_step (key_of read_callers place key.Callers ms) (r3 place ms rule.id rule.effect) rule.callers
    (at_only read_callers AreCallers key.Callers (unless_only (one_member callers_in) (IsWord (SpellsMember SpellsCallers)) (codes "$callers") (one_only callers_in SpellsCallers callers_plain callers_only)) place ms rule.callers is.callers)
    ∙ bind_step (key_of read_names place key.Names ms) (r4 place ms rule.id rule.effect rule.callers) rule.names
    (at_only read_names AreNames key.Names (unless_only (one_member names_in) (IsWord (SpellsMember SpellsNames)) (codes "$names") (one_only names_in SpellsNames names_plain names_only)) place ms rule.names is.names)
    ∙ bind_step (key_of read_types place key.Types ms) (r5 place ms rule.id rule.effect rule.callers rule.names) rule.types
    (at_only read_types AreTypes key.Types (unless_only (word_of type_in) (IsWord IsCalled) (codes "*") (word_only type_in IsCalled type_only)) place ms rule.types is.types)
    ∙ bind_step (key_of read_actions place key.Actions ms) (r6 place ms rule.id rule.effect rule.callers rule.names rule.types) rule.actions
    (at_only read_actions AreActions key.Actions (unless_only (word_of action_in) (IsWord SpellsAction) (codes "*") (word_only action_in SpellsAction action_only)) place ms rule.actions is.actions)
    ∙ ap (λ (p : Place). ok_rule (record { place = p; id = rule.id; effect = rule.effect; callers = rule.callers; names = rule.names; types = rule.types; actions = rule.actions })) (sym is.here)
  where
    ok_rule : GroupRule → Result GroupRule BuildFault
    ok_rule r = Ok r

-- ---- templates

abbrev read_rules : Place → Data → Result (List GroupRule) BuildFault
read_rules = list_of (of_table rule_in)

abbrev template_keys : List FileKey
template_keys = key.Id ∷ key.Rule ∷ []

module _ (place : Place) (ms : Members) where
  abbrev template_of : List ℕ → List GroupRule → Result TemplateOf BuildFault
  template_of id rules = Ok (record { place = place; id = id; rules = rules })

  abbrev template_with : List ℕ → Result TemplateOf BuildFault
  template_with id = key_of read_rules place key.Rule ms >>= template_of id

  abbrev template_after : Unit {0} → Result TemplateOf BuildFault
  template_after known = key_of read_id place key.Id ms >>= template_with

rules_found : Finds read_rules (IsList (IsTable IsRule))
rules_found = list_found (of_table rule_in) (IsTable IsRule) (table_found rule_in IsRule rule_found)

rules_only : Takes read_rules (IsList (IsTable IsRule))
rules_only = list_only (of_table rule_in) (IsTable IsRule) (table_only rule_in IsRule rule_only)

template_found : FindsIn template_in IsTemplate
template_found place ms template seen e =
    let k = bind_ok (known_keys template_keys place ms) (template_after place ms) template e in
    let i = bind_ok (key_of read_id place key.Id ms) (template_with place ms) template k.2 in
    let r = bind_ok (key_of read_rules place key.Rule ms) (template_of place ms i.0) template i.2 in
    subst (λ (t : TemplateOf). IsTemplate place t ms) (same_Ok (record { place = place; id = i.0; rules = r.0 }) template r.2) (record {
      keys = keys_found template_keys place ms k.0 k.1;
      here = refl;
      id = at_found read_id (IsWord SpellsIdentifier) key.Id id_found place ms i.0 seen i.1;
      rules = at_found read_rules (IsList (IsTable IsRule)) key.Rule rules_found place ms r.0 seen r.1;
    })

template_only : TakesIn template_in IsTemplate
template_only place ms template is =
    bind_step (known_keys template_keys place ms) (template_after place ms) tt (keys_only template_keys place ms is.keys)
    ∙ bind_step (key_of read_id place key.Id ms) (template_with place ms) template.id (at_only read_id (IsWord SpellsIdentifier) key.Id id_only place ms template.id is.id)
    ∙ bind_step (key_of read_rules place key.Rule ms) (template_of place ms template.id) template.rules (at_only read_rules (IsList (IsTable IsRule)) key.Rule rules_only place ms template.rules is.rules)
    ∙ ap (λ (p : Place). ok_template (record { place = p; id = template.id; rules = template.rules })) (sym is.here)
  where
    ok_template : TemplateOf → Result TemplateOf BuildFault
    ok_template t = Ok t

-- ---- uses

abbrev use_keys : List FileKey
use_keys = key.Id ∷ key.Template ∷ key.Callers ∷ key.Names ∷ []

abbrev each_caller : Place → Data → Result (List (Member Callers)) BuildFault
each_caller = list_of (one_member callers_in)

abbrev each_name : Place → Data → Result (List (Member Names)) BuildFault
each_name = list_of (one_member names_in)

module _ (place : Place) (ms : Members) where
  abbrev u4 : List ℕ → List ℕ → List (Member Callers) → List (Member Names) → Result TemplateUseOf BuildFault
  u4 id template callers names = Ok (record { place = place; id = id; template = template; callers = callers; names = names })

  abbrev u3 : List ℕ → List ℕ → List (Member Callers) → Result TemplateUseOf BuildFault
  u3 id template callers = key_of each_name place key.Names ms >>= u4 id template callers

  abbrev u2 : List ℕ → List ℕ → Result TemplateUseOf BuildFault
  u2 id template = key_of each_caller place key.Callers ms >>= u3 id template

  abbrev u1 : List ℕ → Result TemplateUseOf BuildFault
  u1 id = key_of read_id place key.Template ms >>= u2 id

  abbrev u0 : Unit {0} → Result TemplateUseOf BuildFault
  u0 known = key_of read_id place key.Id ms >>= u1

use_found : FindsIn use_in IsUse
use_found place ms usage seen e =
    let k = bind_ok (known_keys use_keys place ms) (u0 place ms) usage e in
    let i = bind_ok (key_of read_id place key.Id ms) (u1 place ms) usage k.2 in
    let t = bind_ok (key_of read_id place key.Template ms) (u2 place ms i.0) usage i.2 in
    let c = bind_ok (key_of each_caller place key.Callers ms) (u3 place ms i.0 t.0) usage t.2 in
    let n = bind_ok (key_of each_name place key.Names ms) (u4 place ms i.0 t.0 c.0) usage c.2 in
    subst (λ (u : TemplateUseOf). IsUse place u ms) (same_Ok (record { place = place; id = i.0; template = t.0; callers = c.0; names = n.0 }) usage n.2) (record {
      keys = keys_found use_keys place ms k.0 k.1;
      here = refl;
      id = at_found read_id (IsWord SpellsIdentifier) key.Id id_found place ms i.0 seen i.1;
      template = at_found read_id (IsWord SpellsIdentifier) key.Template id_found place ms t.0 seen t.1;
      callers = at_found each_caller (IsList (IsWord (SpellsMember SpellsCallers))) key.Callers (members_found callers_in SpellsCallers callers_found) place ms c.0 seen c.1;
      names = at_found each_name (IsList (IsWord (SpellsMember SpellsNames))) key.Names (members_found names_in SpellsNames names_found) place ms n.0 seen n.1;
    })

use_only : TakesIn use_in IsUse
use_only place ms usage is =
    bind_step (known_keys use_keys place ms) (u0 place ms) tt (keys_only use_keys place ms is.keys)
    ∙ bind_step (key_of read_id place key.Id ms) (u1 place ms) usage.id (at_only read_id (IsWord SpellsIdentifier) key.Id id_only place ms usage.id is.id)
    ∙ bind_step (key_of read_id place key.Template ms) (u2 place ms usage.id) usage.template (at_only read_id (IsWord SpellsIdentifier) key.Template id_only place ms usage.template is.template)
    ∙ bind_step (key_of each_caller place key.Callers ms) (u3 place ms usage.id usage.template) usage.callers
    (at_only each_caller (IsList (IsWord (SpellsMember SpellsCallers))) key.Callers (members_only callers_in SpellsCallers callers_plain callers_only) place ms usage.callers is.callers)
    ∙ bind_step (key_of each_name place key.Names ms) (u4 place ms usage.id usage.template usage.callers) usage.names
    (at_only each_name (IsList (IsWord (SpellsMember SpellsNames))) key.Names (members_only names_in SpellsNames names_plain names_only) place ms usage.names is.names)
    ∙ ap (λ (p : Place). ok_use (record { place = p; id = usage.id; template = usage.template; callers = usage.callers; names = usage.names })) (sym is.here)
  where
    ok_use : TemplateUseOf → Result TemplateUseOf BuildFault
    ok_use u = Ok u

-- ---- statements

-- a key that a table does not have
key_absent : (known : List (List ℕ)) (k : List ℕ) (ms : Members) → list_any (λ word. bytes_eq word k) known ≡ false → HasOnly known ms → get_member k ms ≡ None
key_absent known k no_members none has = refl
key_absent known k (member l d ms) none has = by (slice_cmp nat_cmp k l) refl (key_absent known k ms none has.1)
  where
    by : (o : Ordering) → slice_cmp nat_cmp k l ≡ o → get_member k ms ≡ None → match_ordering o (get_member k ms) (Some d) (get_member k ms) ≡ None
    by Less is rest = rest
    by Equal is rest = absurd (false≢true (sym none ∙ (list_any-Decides bytes_eq bytes_eq-Decides k known).1 (subst (Contains known) (sym (exact_bytes k l is)) has.0)))
    by Greater is rest = rest

some_list : {X : Type 0} (place : Place) (k : FileKey) (o : Option X) (x : X) → has_list place k o ≡ Ok x → o ≢ None
some_list place k None x e = absurd (not_Err (BadValue (at_key place k)) x e)
some_list place k (Some y) x e = λ none. absurd cc

its_list : {X : Type 0} (place : Place) (k : FileKey) (o : Option X) → o ≢ None → (x : X) × (has_list place k o ≡ Ok x)
its_list place k None some = absurd (some refl)
its_list place k (Some x) some = (x, refl)

abbrev ok_of : GroupRule → Result GroupRule BuildFault
ok_of rule = Ok rule

module _ (rule : GroupRule) where
  abbrev with_names : List (Member Callers) → Result GroupRule BuildFault
  with_names callers = has_list rule.place key.Names rule.names >>= λ names. ok_of rule

  plain_found : (plain : GroupRule) → plain_rule rule ≡ Ok plain → (plain ≡ rule) × (rule.callers ≢ None) × (rule.names ≢ None)
  plain_found plain e =
      let c = bind_ok (has_list rule.place key.Callers rule.callers) with_names plain e in
      let n = bind_ok (has_list rule.place key.Names rule.names) (λ names. ok_of rule) plain c.2 in
      (sym (same_Ok rule plain n.2), some_list rule.place key.Callers rule.callers c.0 c.1, some_list rule.place key.Names rule.names n.0 n.1)

  plain_only : rule.callers ≢ None → rule.names ≢ None → plain_rule rule ≡ Ok rule
  plain_only callers names =
      let c = its_list rule.place key.Callers rule.callers callers in
      let n = its_list rule.place key.Names rule.names names in
      bind_step (has_list rule.place key.Callers rule.callers) with_names c.0 c.1 ∙ bind_step (has_list rule.place key.Names rule.names) (λ names. ok_of rule) n.0 n.1

abbrev use_stated : TemplateUseOf → Result Statement BuildFault
use_stated usage = Ok (statement.Use usage)

abbrev rule_stated : GroupRule → Result Statement BuildFault
rule_stated plain = Ok (statement.Rule plain)

abbrev plain_stated : GroupRule → Result Statement BuildFault
plain_stated rule = plain_rule rule >>= rule_stated

abbrev stated : Bool → Place → Members → Result Statement BuildFault
stated template place ms = cond template (use_statement_in place ms) (rule_statement_in place ms)

abbrev has_template : Members → Bool
has_template ms = is_some (get_member (codes "template") ms)

statement_found : FindsIn statement_in IsStatement
statement_found place ms s seen e =
    ⊎_elim
    (λ (yes' : has_template ms ≡ true).
    let u = bind_ok (use_in place ms) use_stated s (sym (ap (λ b. stated b place ms) yes') ∙ e) in
    subst (λ (t : Statement). IsStatement place t ms) (same_Ok (statement.Use u.0) s u.2) (use_found place ms u.0 seen u.1))
    (λ (no' : has_template ms ≡ false).
    let r = bind_ok (rule_in place ms) plain_stated s (sym (ap (λ b. stated b place ms) no') ∙ e) in
    let p = bind_ok (plain_rule r.0) rule_stated s r.2 in
    let is = plain_found r.0 p.0 p.1 in
    subst (λ (t : Statement). IsStatement place t ms) (ap statement.Rule (sym is.0) ∙ same_Ok (statement.Rule p.0) s p.2) (rule_found place ms r.0 seen r.1, is.1, is.2))
    (cases_Bool (has_template ms))

statement_only : TakesIn statement_in IsStatement
statement_only place ms (statement.Use usage) is =
    ap (λ o. stated (is_some o) place ms) is.template.1 ∙ bind_step (use_in place ms) use_stated usage (use_only place ms usage is)
statement_only place ms (statement.Rule rule) (is, callers, names) =
    ap (λ o. stated (is_some o) place ms) (key_absent (map key_text rule_keys) (codes "template") ms refl is.keys)
    ∙ bind_step (rule_in place ms) plain_stated rule (rule_only place ms rule is)
    ∙ bind_step (plain_rule rule) rule_stated rule (plain_only rule callers names)

-- ---- documents

abbrev source_keys : List FileKey
source_keys = key.Callers ∷ key.Names ∷ key.Template ∷ key.Rule ∷ []

abbrev caller_groups : Place → Data → Result (GroupOf Callers) BuildFault
caller_groups = of_table (group_in callers_in)

abbrev name_groups : Place → Data → Result (GroupOf Names) BuildFault
name_groups = of_table (group_in names_in)

module _ (top : Members) where
  abbrev s4 : List (GroupOf Callers) → List (GroupOf Names) → List TemplateOf → List Statement → Result SourceOf BuildFault
  s4 callers names templates statements = Ok (record { callers = callers; names = names; templates = templates; statements = statements })

  abbrev s3 : List (GroupOf Callers) → List (GroupOf Names) → List TemplateOf → Result SourceOf BuildFault
  s3 callers names templates = optional_of (of_table statement_in) document_place key.Rule top >>= s4 callers names templates

  abbrev s2 : List (GroupOf Callers) → List (GroupOf Names) → Result SourceOf BuildFault
  s2 callers names = optional_of (of_table template_in) document_place key.Template top >>= s3 callers names

  abbrev s1 : List (GroupOf Callers) → Result SourceOf BuildFault
  s1 callers = optional_of name_groups document_place key.Names top >>= s2 callers

  abbrev s0 : Unit {0} → Result SourceOf BuildFault
  s0 known = optional_of caller_groups document_place key.Callers top >>= s1

  pub source_found : (source : SourceOf) → AreMembers top → source_in top ≡ Ok source → IsSource top source
  source_found source seen e =
      let k = bind_ok (known_keys source_keys document_place top) s0 source e in
      let c = bind_ok (optional_of caller_groups document_place key.Callers top) s1 source k.2 in
      let n = bind_ok (optional_of name_groups document_place key.Names top) (s2 c.0) source c.2 in
      let t = bind_ok (optional_of (of_table template_in) document_place key.Template top) (s3 c.0 n.0) source n.2 in
      let r = bind_ok (optional_of (of_table statement_in) document_place key.Rule top) (s4 c.0 n.0 t.0) source t.2 in
      subst (IsSource top) (same_Ok (record { callers = c.0; names = n.0; templates = t.0; statements = r.0 }) source r.2) (record {
        keys = keys_found source_keys document_place top k.0 k.1;
        callers = are_found caller_groups (IsTable (IsGroup SpellsCallers)) key.Callers (table_found (group_in callers_in) (IsGroup SpellsCallers) (group_found callers_in SpellsCallers callers_found)) document_place top c.0 seen c.1;
        names = are_found name_groups (IsTable (IsGroup SpellsNames)) key.Names (table_found (group_in names_in) (IsGroup SpellsNames) (group_found names_in SpellsNames names_found)) document_place top n.0 seen n.1;
        templates = are_found (of_table template_in) (IsTable IsTemplate) key.Template (table_found template_in IsTemplate template_found) document_place top t.0 seen t.1;
        statements = are_found (of_table statement_in) (IsTable IsStatement) key.Rule (table_found statement_in IsStatement statement_found) document_place top r.0 seen r.1;
      })

  pub source_only : (source : SourceOf) → IsSource top source → source_in top ≡ Ok source
  source_only source is =
      bind_step (known_keys source_keys document_place top) s0 tt (keys_only source_keys document_place top is.keys)
      ∙ bind_step (optional_of caller_groups document_place key.Callers top) s1 source.callers
      (are_only caller_groups (IsTable (IsGroup SpellsCallers)) key.Callers (table_only (group_in callers_in) (IsGroup SpellsCallers) (group_only callers_in SpellsCallers callers_plain callers_only)) document_place top source.callers is.callers)
      ∙ bind_step (optional_of name_groups document_place key.Names top) (s2 source.callers) source.names
      (are_only name_groups (IsTable (IsGroup SpellsNames)) key.Names (table_only (group_in names_in) (IsGroup SpellsNames) (group_only names_in SpellsNames names_plain names_only)) document_place top source.names is.names)
      ∙ bind_step (optional_of (of_table template_in) document_place key.Template top) (s3 source.callers source.names) source.templates
      (are_only (of_table template_in) (IsTable IsTemplate) key.Template (table_only template_in IsTemplate template_only) document_place top source.templates is.templates)
      ∙ bind_step (optional_of (of_table statement_in) document_place key.Rule top) (s4 source.callers source.names source.templates) source.statements
      (are_only (of_table statement_in) (IsTable IsStatement) key.Rule (table_only statement_in IsStatement statement_only) document_place top source.statements is.statements)

-- what is true of each file that the definition reads is true of what a call answers
pub found_of : {X : Type 0} (P : X → Type 0) (r read : Result X BuildFault) → Reads (λ x. x) r read → ((x : X) → read ≡ Ok x → P x) → IfOk r P
found_of P (Ok x) read h on = on x h
found_of P (Err e) read h on = tt
