-- Which tables are rules, and which documents are policies.
use Rattle.std.proofs.Common.{◌≡◌, ◌⊎◌, ◌↔◌, inl, inr, ℕ, suc, ◌+◌, ◌≤◌, Bool, true, false, cond, List, [], ◌∷◌, ◌++◌, length, Option, Some, None, option_map, Result, Ok, Err, refl, sym, ap, ◌∙◌, subst, ⊎_elim, codes, arith, leb}
use Rattle.std.specs.Prelude.{bytes_eq}
use Rattle.std.specs.Bool.{Decides}
use Rattle.std.specs.Option.{ok_or}
use Rattle.std.proofs.lemmas.Bool.{cases_Bool, false≢true}
use Rattle.std.proofs.lemmas.Bool.Decides.{Decides-and, Decides-like, Decides-ltb, leb_tells}
use Rattle.std.proofs.lemmas.Slice.Eq.{bytes_eq-Decides}
use Rattle.toml.specs.Data.{Data, string, integer, float, boolean, datetime, array, table, Items, no_items, item, Members, no_members, member, get_member}
use Rattle.dns_names.proofs.ReadingLaws.{absolute_only}
use Rattle.dns_data.specs.declared.record_type.RecordType.{RecordType}
use Rattle.dns_data.specs.Types.{IsCalled}
use Rattle.grant_policy.specs.declared.action.Action.{Action}
use Rattle.grant_policy.specs.declared.callers.Callers.{Callers}
use Rattle.grant_policy.specs.declared.callers.Callers.TheVariants.{Every, One}
use Rattle.grant_policy.specs.declared.effect.Effect.{Effect}
use Rattle.grant_policy.specs.declared.effect.Effect.TheVariants.{Grant, Deny}
use Rattle.grant_policy.specs.declared.scope.Scope.{Scope}
use Rattle.grant_policy.specs.declared.scope.Scope.TheVariants as scope
use Rattle.grant_policy.specs.declared.policy_fault.PolicyFault.{PolicyFault}
use Rattle.grant_policy.specs.declared.policy_fault.PolicyFault.TheVariants.{UnknownKey, MissingKey, BadValue}
use Rattle.grant_policy.specs.declared.policy_fault.PolicyPlace.{PolicyPlace}
use Rattle.grant_policy.specs.declared.policy_fault.PolicyPlace.TheVariants as place
use Rattle.grant_policy.specs.declared.policy_fault.RuleKey.{RuleKey}
use Rattle.grant_policy.specs.declared.policy_fault.RuleKey.TheVariants as key
use Rattle.grant_policy.specs.declared.rule.Rule.{Rule}
use Rattle.grant_policy.specs.Identifiers.{IsIdentifier}
use Rattle.grant_policy.specs.Words.{effect_text, scope_text, action_text, effect_of, scope_of, action_of, all_actions}
use Rattle.grant_policy.specs.Documents.{AreRules, HasOnly, IsPolicy, SpellsCallers, SpellsRule, SpellsRules, SpellsSelection, key_text, rule_keys}
use Rattle.grant_policy.specs.Faults.{◌>>=◌}
use Rattle.grant_policy.specs.Reading.{RuleData, IsNamedIn, AreNamedIn, free_id, free_rules, few, word_in, identifier_of, is_identifier, callers_of, type_of, named, name_in, selection_in, needed, rule_data, rule_in, rule_of, rules_of, has_only, known_keys, tables_of, rule_tables, policy_of}
use Rattle.dns_data.proofs.WordLemmas.{by_word}
use Rattle.grant_policy.proofs.WordLemmas.{action_own, type_named}
use Rattle.grant_policy.proofs.RuleLemmas.{list_any-Decides}
use Rattle.grant_policy.proofs.PolicyLaws.{ok, same_Ok, not_Err, bind_ok, ok_or_ok, word_ok, word_only, selection_found, selection_only, free_id_same, free_found, free_only, few_ok, few_only, none_before, free_are}

-- ---- keys

only-Decides : (known : List (List ℕ)) (ms : Members) → Decides (has_only known ms) (HasOnly known ms)
only-Decides known no_members = (λ _. tt, λ _. refl)
only-Decides known (member k d ms) = Decides-and _ _ (list_any-Decides bytes_eq bytes_eq-Decides k known) (only-Decides known ms)

known_ok : (known : List (List ℕ)) (at : PolicyPlace) (ms : Members) (u : Unit {0}) → known_keys known at ms ≡ Ok u → HasOnly known ms
known_ok known at ms u e =
    ⊎_elim
    (λ (yes' : has_only known ms ≡ true). (only-Decides known ms).0 yes')
    (λ (no' : has_only known ms ≡ false). absurd (not_Err (UnknownKey at) u (sym (ap (λ b. cond b (Ok tt) (Err (UnknownKey at))) no') ∙ e)))
    (cases_Bool (has_only known ms))

known_only : (known : List (List ℕ)) (at : PolicyPlace) (ms : Members) → HasOnly known ms → known_keys known at ms ≡ Ok tt
known_only known at ms has = ap (λ b. cond b (Ok tt) (Err (UnknownKey at))) ((only-Decides known ms).1 has)

-- ---- words

effect_own : (t : Effect) → effect_of (effect_text t) ≡ Some t
effect_own Grant = refl
effect_own Deny = refl

scope_own : (t : Scope) → scope_of (scope_text t) ≡ Some t
scope_own scope.Name = refl
scope_own scope.Subtree = refl
scope_own scope.Below = refl

effect_spelled : (text : List ℕ) (x : Effect) → (effect_of text ≡ Some x) ↔ (effect_text x ≡ text)
effect_spelled text x = by_word effect_text (Grant ∷ Deny ∷ []) effect_own text (effect_of text) refl x

scope_spelled : (text : List ℕ) (x : Scope) → (scope_of text ≡ Some x) ↔ (scope_text x ≡ text)
scope_spelled text x = by_word scope_text (scope.Name ∷ scope.Subtree ∷ scope.Below ∷ []) scope_own text (scope_of text) refl x

action_spelled : (text : List ℕ) (x : Action) → (action_of text ≡ Some x) ↔ (action_text x ≡ text)
action_spelled text x = by_word action_text all_actions action_own text (action_of text) refl x

type_spelled : (text : List ℕ) (x : RecordType) → (type_of text ≡ Some x) ↔ IsCalled x text
type_spelled text x = type_named text x

same_Some : {T : Type 0} (a b : T) → Some a ≡ Some b → a ≡ b
same_Some a b e = cc

identifier-Decides : (text : List ℕ) → Decides (is_identifier text) (IsIdentifier text)
identifier-Decides text =
    Decides-like _
    (λ h. record { octets = h.0; not_empty = h.1.0; short = h.1.1 })
    (λ i. (i.octets, (i.not_empty, i.short)))
    (Decides-and _ _ ((λ e. e), (λ e. e)) (Decides-and _ _ (Decides-ltb 0 (length text)) (Decides-leb (length text) 64)))
  where
    Decides-leb : (a b : ℕ) → Decides (leb a b) (a ≤ b)
    Decides-leb a b = elim (leb_tells a b) [ inl t ↦ (λ _. t.1, λ _. t.0) | inr f ↦ (λ e. absurd (false≢true (sym f.0 ∙ e)), λ le. absurd (omega (arith, f.1, le))) ]

some_of : (test : Bool) (text id : List ℕ) → cond test (Some text) None ≡ Some id → (test ≡ true) × (text ≡ id)
some_of true text id e = (refl, same_Some text id e)
some_of false text id e = absurd cc

identifier_ok : (text id : List ℕ) → identifier_of text ≡ Some id → (text ≡ id) × IsIdentifier id
identifier_ok text id e =
    let h = some_of (is_identifier text) text id e in
    (h.1, subst IsIdentifier h.1 ((identifier-Decides text).0 h.0))

identifier_only : (id : List ℕ) → IsIdentifier id → identifier_of id ≡ Some id
identifier_only id is = ap (λ b. cond b (Some id) None) ((identifier-Decides id).1 is)

one_ok : (o : Option (List ℕ)) (c : Callers) → option_map One o ≡ Some c → (id : List ℕ) × (o ≡ Some id) × (c ≡ One id)
one_ok None c e = absurd cc
one_ok (Some id) c e = (id, refl, sym (same_Some (One id) c e))

callers_ok : (text : List ℕ) (c : Callers) → callers_of text ≡ Some c → SpellsCallers c text
callers_ok text c e =
    ⊎_elim
    (λ (yes' : bytes_eq text (codes "*") ≡ true). let every : Some Every ≡ Some c = sym (ap (λ b. cond b (Some Every) (option_map One (identifier_of text))) yes') ∙ e in subst (λ (d : Callers). SpellsCallers d text) (same_Some Every c every) ((bytes_eq-Decides text (codes "*")).0 yes'))
    (λ (no' : bytes_eq text (codes "*") ≡ false).
    let one = one_ok (identifier_of text) c (sym (ap (λ b. cond b (Some Every) (option_map One (identifier_of text))) no') ∙ e) in
    let id = identifier_ok text one.0 one.1 in
    subst (λ (d : Callers). SpellsCallers d text) (sym one.2) (id.0, id.1))
    (cases_Bool (bytes_eq text (codes "*")))

no_star : (id : List ℕ) → IsIdentifier id → bytes_eq id (codes "*") ≡ false
no_star id is =
    ⊎_elim
    (λ (yes' : bytes_eq id (codes "*") ≡ true). let e = (bytes_eq-Decides id (codes "*")).0 yes' in absurd (let f = rw e at is.octets in cc))
    (λ (no' : bytes_eq id (codes "*") ≡ false). no')
    (cases_Bool (bytes_eq id (codes "*")))

callers_only : (c : Callers) (text : List ℕ) → SpellsCallers c text → callers_of text ≡ Some c
callers_only Every text e = ap callers_of e
callers_only (One id) text (e, is) = ap callers_of e ∙ ap (λ b. cond b (Some Every) (option_map One (identifier_of id))) (no_star id is) ∙ ap (option_map One) (identifier_only id is)

-- ---- the values of a rule

bind_step : {A B : Type 0} (r : Result A PolicyFault) (f : A → Result B PolicyFault) (a : A) → r ≡ Ok a → (r >>= f) ≡ f a
bind_step r f a e = ap (λ q. q >>= f) e

bind_stop : {A B : Type 0} (r : Result A PolicyFault) (f : A → Result B PolicyFault) (fault : PolicyFault) → r ≡ Err fault → (r >>= f) ≡ Err fault
bind_stop r f fault e = ap (λ q. q >>= f) e

needed_ok : (number : ℕ) (ms : Members) (k : RuleKey) (d : Data) → needed number ms k ≡ Ok d → get_member (key_text k) ms ≡ Some d
needed_ok number ms k d e = ok_or_ok (get_member (key_text k) ms) (MissingKey (place.Key number k)) d e

needed_only : (number : ℕ) (ms : Members) (k : RuleKey) (d : Data) → get_member (key_text k) ms ≡ Some d → needed number ms k ≡ Ok d
needed_only number ms k d e = ap (λ (o : Option Data). ok_or o (MissingKey (place.Key number k))) e

pub record HasData (ms : Members) (d : RuleData) : Type 0 where
  pub id : get_member (codes "id") ms ≡ Some d.id
  pub effect : get_member (codes "effect") ms ≡ Some d.effect
  pub caller : get_member (codes "caller") ms ≡ Some d.caller
  pub scope : get_member (codes "scope") ms ≡ Some d.scope
  pub at : get_member (codes "at") ms ≡ Some d.at
  pub types : get_member (codes "types") ms ≡ Some d.types
  pub actions : get_member (codes "actions") ms ≡ Some d.actions

module _ (number : ℕ) (ms : Members) where
  abbrev d7 : Data → Data → Data → Data → Data → Data → Data → Result RuleData PolicyFault
  d7 id effect caller scope at types actions = ok (record { id = id; effect = effect; caller = caller; scope = scope; at = at; types = types; actions = actions })

  abbrev d6 : Data → Data → Data → Data → Data → Data → Result RuleData PolicyFault
  d6 id effect caller scope at types = needed number ms key.Actions >>= λ actions. d7 id effect caller scope at types actions

  abbrev d5 : Data → Data → Data → Data → Data → Result RuleData PolicyFault
  d5 id effect caller scope at = needed number ms key.Types >>= λ types. d6 id effect caller scope at types

  abbrev d4 : Data → Data → Data → Data → Result RuleData PolicyFault
  d4 id effect caller scope = needed number ms key.At >>= λ at. d5 id effect caller scope at

  abbrev d3 : Data → Data → Data → Result RuleData PolicyFault
  d3 id effect caller = needed number ms key.Scope >>= λ scope. d4 id effect caller scope

  abbrev d2 : Data → Data → Result RuleData PolicyFault
  d2 id effect = needed number ms key.Caller >>= λ caller. d3 id effect caller

  abbrev d1 : Data → Result RuleData PolicyFault
  d1 id = needed number ms key.Effect >>= λ effect. d2 id effect

  data_found : (d : RuleData) → rule_data number ms ≡ Ok d → HasData ms d
  data_found d e =
      let a = bind_ok (needed number ms key.Id) d1 d e in
      let b = bind_ok (needed number ms key.Effect) (d2 a.0) d a.2 in
      let c = bind_ok (needed number ms key.Caller) (d3 a.0 b.0) d b.2 in
      let f = bind_ok (needed number ms key.Scope) (d4 a.0 b.0 c.0) d c.2 in
      let g = bind_ok (needed number ms key.At) (d5 a.0 b.0 c.0 f.0) d f.2 in
      let h = bind_ok (needed number ms key.Types) (d6 a.0 b.0 c.0 f.0 g.0) d g.2 in
      let i = bind_ok (needed number ms key.Actions) (d7 a.0 b.0 c.0 f.0 g.0 h.0) d h.2 in
      subst (HasData ms) (same_Ok (record { id = a.0; effect = b.0; caller = c.0; scope = f.0; at = g.0; types = h.0; actions = i.0 }) d i.2) (record {
        id = needed_ok number ms key.Id a.0 a.1;
        effect = needed_ok number ms key.Effect b.0 b.1;
        caller = needed_ok number ms key.Caller c.0 c.1;
        scope = needed_ok number ms key.Scope f.0 f.1;
        at = needed_ok number ms key.At g.0 g.1;
        types = needed_ok number ms key.Types h.0 h.1;
        actions = needed_ok number ms key.Actions i.0 i.1;
      })

  data_only : (d : RuleData) → HasData ms d → rule_data number ms ≡ Ok d
  data_only d has =
      bind_step (needed number ms key.Id) d1 d.id (needed_only number ms key.Id d.id has.id)
      ∙ bind_step (needed number ms key.Effect) (d2 d.id) d.effect (needed_only number ms key.Effect d.effect has.effect)
      ∙ bind_step (needed number ms key.Caller) (d3 d.id d.effect) d.caller (needed_only number ms key.Caller d.caller has.caller)
      ∙ bind_step (needed number ms key.Scope) (d4 d.id d.effect d.caller) d.scope (needed_only number ms key.Scope d.scope has.scope)
      ∙ bind_step (needed number ms key.At) (d5 d.id d.effect d.caller d.scope) d.at (needed_only number ms key.At d.at has.at)
      ∙ bind_step (needed number ms key.Types) (d6 d.id d.effect d.caller d.scope d.at) d.types (needed_only number ms key.Types d.types has.types)
      ∙ bind_step (needed number ms key.Actions) (d7 d.id d.effect d.caller d.scope d.at d.types) d.actions (needed_only number ms key.Actions d.actions has.actions)

  -- where a key is missing, after others that are there
  pub no_id : (fault : PolicyFault) → needed number ms key.Id ≡ Err fault → rule_data number ms ≡ Err fault
  no_id fault e = bind_stop (needed number ms key.Id) d1 fault e

  module _ (id : Data) (is_id : needed number ms key.Id ≡ Ok id) where
    upto_id : rule_data number ms ≡ d1 id
    upto_id = bind_step (needed number ms key.Id) d1 id is_id

    pub no_effect : (fault : PolicyFault) → needed number ms key.Effect ≡ Err fault → rule_data number ms ≡ Err fault
    no_effect fault e = upto_id ∙ bind_stop (needed number ms key.Effect) (d2 id) fault e

    module _ (effect : Data) (is_effect : needed number ms key.Effect ≡ Ok effect) where
      upto_effect : rule_data number ms ≡ d2 id effect
      upto_effect = upto_id ∙ bind_step (needed number ms key.Effect) (d2 id) effect is_effect

      pub no_caller : (fault : PolicyFault) → needed number ms key.Caller ≡ Err fault → rule_data number ms ≡ Err fault
      no_caller fault e = upto_effect ∙ bind_stop (needed number ms key.Caller) (d3 id effect) fault e

      module _ (caller : Data) (is_caller : needed number ms key.Caller ≡ Ok caller) where
        upto_caller : rule_data number ms ≡ d3 id effect caller
        upto_caller = upto_effect ∙ bind_step (needed number ms key.Caller) (d3 id effect) caller is_caller

        pub no_scope : (fault : PolicyFault) → needed number ms key.Scope ≡ Err fault → rule_data number ms ≡ Err fault
        no_scope fault e = upto_caller ∙ bind_stop (needed number ms key.Scope) (d4 id effect caller) fault e

        module _ (scope : Data) (is_scope : needed number ms key.Scope ≡ Ok scope) where
          upto_scope : rule_data number ms ≡ d4 id effect caller scope
          upto_scope = upto_caller ∙ bind_step (needed number ms key.Scope) (d4 id effect caller) scope is_scope

          pub no_at : (fault : PolicyFault) → needed number ms key.At ≡ Err fault → rule_data number ms ≡ Err fault
          no_at fault e = upto_scope ∙ bind_stop (needed number ms key.At) (d5 id effect caller scope) fault e

          module _ (at : Data) (is_at : needed number ms key.At ≡ Ok at) where
            upto_at : rule_data number ms ≡ d5 id effect caller scope at
            upto_at = upto_scope ∙ bind_step (needed number ms key.At) (d5 id effect caller scope) at is_at

            pub no_types : (fault : PolicyFault) → needed number ms key.Types ≡ Err fault → rule_data number ms ≡ Err fault
            no_types fault e = upto_at ∙ bind_stop (needed number ms key.Types) (d6 id effect caller scope at) fault e

            module _ (types : Data) (is_types : needed number ms key.Types ≡ Ok types) where
              upto_types : rule_data number ms ≡ d6 id effect caller scope at types
              upto_types = upto_at ∙ bind_step (needed number ms key.Types) (d6 id effect caller scope at) types is_types

              pub no_actions : (fault : PolicyFault) → needed number ms key.Actions ≡ Err fault → rule_data number ms ≡ Err fault
              no_actions fault e = upto_types ∙ bind_stop (needed number ms key.Actions) (d7 id effect caller scope at types) fault e

              module _ (actions : Data) (is_actions : needed number ms key.Actions ≡ Ok actions) where
                pub upto_actions : rule_data number ms ≡ Ok (record { id = id; effect = effect; caller = caller; scope = scope; at = at; types = types; actions = actions })
                upto_actions = upto_types ∙ bind_step (needed number ms key.Actions) (d7 id effect caller scope at types) actions is_actions

-- ---- the rule of its values

pub record SpellsData (d : RuleData) (rule : Rule) : Type 0 where
  pub id : d.id ≡ string rule.id
  pub identifier : IsIdentifier rule.id
  pub effect : d.effect ≡ string (effect_text rule.effect)
  pub caller : (text : List ℕ) × (d.caller ≡ string text) × SpellsCallers rule.callers text
  pub scope : d.scope ≡ string (scope_text rule.scope)
  pub types : SpellsSelection IsCalled rule.types d.types
  pub actions : SpellsSelection (λ a text. action_text a ≡ text) rule.actions d.actions

module _ (number : ℕ) (ids : List (List ℕ)) (d : RuleData) where
  abbrev r8 : List ℕ → Effect → Callers → Scope → List (List ℕ) → Option (List RecordType) → Option (List Action) → Result Rule PolicyFault
  r8 id effect callers scope at types actions = ok (record { id = id; effect = effect; callers = callers; scope = scope; at = at; types = types; actions = actions })

  abbrev r7 : List ℕ → Effect → Callers → Scope → List (List ℕ) → Option (List RecordType) → Result Rule PolicyFault
  r7 id effect callers scope at types = selection_in action_of (place.Key number key.Actions) d.actions >>= λ actions. r8 id effect callers scope at types actions

  abbrev r6 : List ℕ → Effect → Callers → Scope → List (List ℕ) → Result Rule PolicyFault
  r6 id effect callers scope at = selection_in type_of (place.Key number key.Types) d.types >>= λ types. r7 id effect callers scope at types

  abbrev r5 : List ℕ → Effect → Callers → Scope → Result Rule PolicyFault
  r5 id effect callers scope = name_in number d.at >>= λ at. r6 id effect callers scope at

  abbrev r4 : List ℕ → Effect → Callers → Result Rule PolicyFault
  r4 id effect callers = word_in scope_of (place.Key number key.Scope) d.scope >>= λ scope. r5 id effect callers scope

  abbrev r3 : List ℕ → Effect → Result Rule PolicyFault
  r3 id effect = word_in callers_of (place.Key number key.Caller) d.caller >>= λ callers. r4 id effect callers

  abbrev r2 : List ℕ → Result Rule PolicyFault
  r2 id = word_in effect_of (place.Key number key.Effect) d.effect >>= λ effect. r3 id effect

  abbrev r1 : List ℕ → Result Rule PolicyFault
  r1 text = free_id number ids text >>= λ id. r2 id

  rule_found : (rule : Rule) → rule_in number ids d ≡ Ok rule → SpellsData d rule × (free_id number ids rule.id ≡ Ok rule.id)
  rule_found rule e =
      let t = bind_ok (word_in identifier_of (place.Key number key.Id) d.id) r1 rule e in
      let a = bind_ok (free_id number ids t.0) r2 rule t.2 in
      let b = bind_ok (word_in effect_of (place.Key number key.Effect) d.effect) (r3 a.0) rule a.2 in
      let c = bind_ok (word_in callers_of (place.Key number key.Caller) d.caller) (r4 a.0 b.0) rule b.2 in
      let f = bind_ok (word_in scope_of (place.Key number key.Scope) d.scope) (r5 a.0 b.0 c.0) rule c.2 in
      let g = bind_ok (name_in number d.at) (r6 a.0 b.0 c.0 f.0) rule f.2 in
      let h = bind_ok (selection_in type_of (place.Key number key.Types) d.types) (r7 a.0 b.0 c.0 f.0 g.0) rule g.2 in
      let i = bind_ok (selection_in action_of (place.Key number key.Actions) d.actions) (r8 a.0 b.0 c.0 f.0 g.0 h.0) rule h.2 in
      let own = word_ok identifier_of (place.Key number key.Id) d.id t.0 t.1 in
      let id = identifier_ok own.0 t.0 own.2 in
      let free = free_id_same number ids t.0 a.0 a.1 in
      let effect = word_ok effect_of (place.Key number key.Effect) d.effect b.0 b.1 in
      let caller = word_ok callers_of (place.Key number key.Caller) d.caller c.0 c.1 in
      let scope = word_ok scope_of (place.Key number key.Scope) d.scope f.0 f.1 in
      let made : Rule = record { id = a.0; effect = b.0; callers = c.0; scope = f.0; at = g.0; types = h.0; actions = i.0 } in
      subst (λ (r : Rule). SpellsData d r × (free_id number ids r.id ≡ Ok r.id)) (same_Ok made rule i.2) (
        record {
          id = own.1 ∙ ap string (id.0 ∙ free);
          identifier = subst IsIdentifier free id.1;
          effect = effect.1 ∙ ap string (sym ((effect_spelled effect.0 b.0).0 effect.2));
          caller = (caller.0, caller.1, callers_ok caller.0 c.0 caller.2);
          scope = scope.1 ∙ ap string (sym ((scope_spelled scope.0 f.0).0 scope.2));
          types = selection_found type_of IsCalled type_spelled (place.Key number key.Types) d.types h.0 h.1;
          actions = selection_found action_of (λ x text. action_text x ≡ text) action_spelled (place.Key number key.Actions) d.actions i.0 i.1;
        },
        subst (λ (x : List ℕ). free_id number ids x ≡ Ok a.0) free a.1,
      )

  rule_only : (rule : Rule) → SpellsData d rule → free_id number ids rule.id ≡ Ok rule.id → name_in number d.at ≡ Ok rule.at → rule_in number ids d ≡ Ok rule
  rule_only rule is free at =
      bind_step (word_in identifier_of (place.Key number key.Id) d.id) r1 rule.id (ap (word_in identifier_of (place.Key number key.Id)) is.id ∙ word_only identifier_of (place.Key number key.Id) rule.id rule.id (identifier_only rule.id is.identifier))
      ∙ bind_step (free_id number ids rule.id) r2 rule.id free
      ∙ bind_step (word_in effect_of (place.Key number key.Effect) d.effect) (r3 rule.id) rule.effect (ap (word_in effect_of (place.Key number key.Effect)) is.effect ∙ word_only effect_of (place.Key number key.Effect) (effect_text rule.effect) rule.effect (effect_own rule.effect))
      ∙ bind_step (word_in callers_of (place.Key number key.Caller) d.caller) (r4 rule.id rule.effect) rule.callers (ap (word_in callers_of (place.Key number key.Caller)) is.caller.1 ∙ word_only callers_of (place.Key number key.Caller) is.caller.0 rule.callers (callers_only rule.callers is.caller.0 is.caller.2))
      ∙ bind_step (word_in scope_of (place.Key number key.Scope) d.scope) (r5 rule.id rule.effect rule.callers) rule.scope (ap (word_in scope_of (place.Key number key.Scope)) is.scope ∙ word_only scope_of (place.Key number key.Scope) (scope_text rule.scope) rule.scope (scope_own rule.scope))
      ∙ bind_step (name_in number d.at) (r6 rule.id rule.effect rule.callers rule.scope) rule.at at
      ∙ bind_step (selection_in type_of (place.Key number key.Types) d.types) (r7 rule.id rule.effect rule.callers rule.scope rule.at) rule.types (selection_only type_of IsCalled type_spelled (place.Key number key.Types) rule.types d.types is.types)
      ∙ bind_step (selection_in action_of (place.Key number key.Actions) d.actions) (r8 rule.id rule.effect rule.callers rule.scope rule.at rule.types) rule.actions (selection_only action_of (λ x text. action_text x ≡ text) action_spelled (place.Key number key.Actions) rule.actions d.actions is.actions)

  -- where a value is refused, after others that are read
  pub bad_text : (fault : PolicyFault) → word_in identifier_of (place.Key number key.Id) d.id ≡ Err fault → rule_in number ids d ≡ Err fault
  bad_text fault e = bind_stop (word_in identifier_of (place.Key number key.Id) d.id) r1 fault e

  module _ (text : List ℕ) (is_text : word_in identifier_of (place.Key number key.Id) d.id ≡ Ok text) where
    read_text : rule_in number ids d ≡ r1 text
    read_text = bind_step (word_in identifier_of (place.Key number key.Id) d.id) r1 text is_text

    pub bad_free : (fault : PolicyFault) → free_id number ids text ≡ Err fault → rule_in number ids d ≡ Err fault
    bad_free fault e = read_text ∙ bind_stop (free_id number ids text) r2 fault e

    module _ (id : List ℕ) (is_free : free_id number ids text ≡ Ok id) where
      read_free : rule_in number ids d ≡ r2 id
      read_free = read_text ∙ bind_step (free_id number ids text) r2 id is_free

      pub bad_effect : (fault : PolicyFault) → word_in effect_of (place.Key number key.Effect) d.effect ≡ Err fault → rule_in number ids d ≡ Err fault
      bad_effect fault e = read_free ∙ bind_stop (word_in effect_of (place.Key number key.Effect) d.effect) (r3 id) fault e

      module _ (effect : Effect) (is_effect : word_in effect_of (place.Key number key.Effect) d.effect ≡ Ok effect) where
        read_effect : rule_in number ids d ≡ r3 id effect
        read_effect = read_free ∙ bind_step (word_in effect_of (place.Key number key.Effect) d.effect) (r3 id) effect is_effect

        pub bad_callers : (fault : PolicyFault) → word_in callers_of (place.Key number key.Caller) d.caller ≡ Err fault → rule_in number ids d ≡ Err fault
        bad_callers fault e = read_effect ∙ bind_stop (word_in callers_of (place.Key number key.Caller) d.caller) (r4 id effect) fault e

        module _ (callers : Callers) (is_callers : word_in callers_of (place.Key number key.Caller) d.caller ≡ Ok callers) where
          read_callers : rule_in number ids d ≡ r4 id effect callers
          read_callers = read_effect ∙ bind_step (word_in callers_of (place.Key number key.Caller) d.caller) (r4 id effect) callers is_callers

          pub bad_scope : (fault : PolicyFault) → word_in scope_of (place.Key number key.Scope) d.scope ≡ Err fault → rule_in number ids d ≡ Err fault
          bad_scope fault e = read_callers ∙ bind_stop (word_in scope_of (place.Key number key.Scope) d.scope) (r5 id effect callers) fault e

          module _ (scope : Scope) (is_scope : word_in scope_of (place.Key number key.Scope) d.scope ≡ Ok scope) where
            read_scope : rule_in number ids d ≡ r5 id effect callers scope
            read_scope = read_callers ∙ bind_step (word_in scope_of (place.Key number key.Scope) d.scope) (r5 id effect callers) scope is_scope

            pub bad_name : (fault : PolicyFault) → name_in number d.at ≡ Err fault → rule_in number ids d ≡ Err fault
            bad_name fault e = read_scope ∙ bind_stop (name_in number d.at) (r6 id effect callers scope) fault e

            module _ (at : List (List ℕ)) (is_name : name_in number d.at ≡ Ok at) where
              read_name : rule_in number ids d ≡ r6 id effect callers scope at
              read_name = read_scope ∙ bind_step (name_in number d.at) (r6 id effect callers scope) at is_name

              pub bad_types : (fault : PolicyFault) → selection_in type_of (place.Key number key.Types) d.types ≡ Err fault → rule_in number ids d ≡ Err fault
              bad_types fault e = read_name ∙ bind_stop (selection_in type_of (place.Key number key.Types) d.types) (r7 id effect callers scope at) fault e

              module _ (types : Option (List RecordType)) (is_types : selection_in type_of (place.Key number key.Types) d.types ≡ Ok types) where
                read_types : rule_in number ids d ≡ r7 id effect callers scope at types
                read_types = read_name ∙ bind_step (selection_in type_of (place.Key number key.Types) d.types) (r7 id effect callers scope at) types is_types

                pub bad_actions : (fault : PolicyFault) → selection_in action_of (place.Key number key.Actions) d.actions ≡ Err fault → rule_in number ids d ≡ Err fault
                bad_actions fault e = read_types ∙ bind_stop (selection_in action_of (place.Key number key.Actions) d.actions) (r8 id effect callers scope at types) fault e

-- ---- the rule of a table

module _ (ids : List (List ℕ)) (ms : Members) where
  abbrev n : ℕ
  n = length ids + 1

  abbrev t2 : Unit {0} → Result Rule PolicyFault
  t2 known = rule_data n ms >>= λ d. rule_in n ids d

  table_found : (rule : Rule) → rule_of ids ms ≡ Ok rule → IsNamedIn rule.at ms → SpellsRule rule ms × (free_id n ids rule.id ≡ Ok rule.id)
  table_found rule e at =
      let known = bind_ok (known_keys rule_keys (place.Rule n) ms) t2 rule e in
      let d = bind_ok (rule_data n ms) (rule_in n ids) rule known.2 in
      let has = data_found n ms d.0 d.1 in
      let made = rule_found n ids d.0 rule d.2 in
      let is = made.0 in (
        record {
          keys = known_ok rule_keys (place.Rule n) ms known.0 known.1;
          id = has.id ∙ ap Some is.id;
          identifier = is.identifier;
          effect = has.effect ∙ ap Some is.effect;
          caller = (is.caller.0, has.caller ∙ ap Some is.caller.1, is.caller.2);
          scope = has.scope ∙ ap Some is.scope;
          at = (at.2.0, at.1 ∙ ap Some at.2.1, at.2.2, at.2.3);
          types = (d.0.types, has.types, is.types);
          actions = (d.0.actions, has.actions, is.actions);
        },
        made.1,
      )

  table_only : (rule : Rule) → SpellsRule rule ms → free_id n ids rule.id ≡ Ok rule.id → rule_of ids ms ≡ Ok rule
  table_only rule is free =
      let d : RuleData = record { id = string rule.id; effect = string (effect_text rule.effect); caller = string is.caller.0; scope = string (scope_text rule.scope); at = string is.at.0; types = is.types.0; actions = is.actions.0 } in
      let has : HasData ms d = record { id = is.id; effect = is.effect; caller = is.caller.1; scope = is.scope; at = is.at.1; types = is.types.1; actions = is.actions.1 } in
      let spelled : SpellsData d rule = record { id = refl; identifier = is.identifier; effect = refl; caller = (is.caller.0, refl, is.caller.2); scope = refl; types = is.types.2; actions = is.actions.2 } in
      let at : name_in n (string is.at.0) ≡ Ok rule.at = ap (named n) (absolute_only rule.at is.at.0 is.at.2 is.at.3) in
      bind_step (known_keys rule_keys (place.Rule n) ms) t2 tt (known_only rule_keys (place.Rule n) ms is.keys)
      ∙ bind_step (rule_data n ms) (rule_in n ids) d (data_only n ms d has)
      ∙ rule_only n ids d rule spelled free at

-- ---- rules and tables

abbrev AreSpelled : List Rule → List Members → Type 0
AreSpelled [] mss = mss ≡ []
AreSpelled (rule ∷ rules) [] = ⊥
AreSpelled (rule ∷ rules) (ms ∷ mss) = SpellsRule rule ms × AreSpelled rules mss

tables_rules : (ids : List (List ℕ)) (mss : List Members) (rules : List Rule) → rules_of ids mss ≡ Ok rules → AreNamedIn rules mss → AreSpelled rules mss × (free_rules ids rules ≡ Ok rules)
tables_rules ids [] rules e at =
    let none : [] ≡ rules = same_Ok [] rules e in
    subst (λ (l : List Rule). AreSpelled l [] × (free_rules ids l ≡ Ok l)) none (refl, refl)
tables_rules ids (ms ∷ mss) rules e at =
    let first = bind_ok (rule_of ids ms) (λ first. rules_of (ids ++ first.id ∷ []) mss >>= λ others. Ok (first ∷ others)) rules e in
    let rest = bind_ok (rules_of (ids ++ first.0.id ∷ []) mss) (λ others. Ok (first.0 ∷ others)) rules first.2 in
    let whole : first.0 ∷ rest.0 ≡ rules = same_Ok (first.0 ∷ rest.0) rules rest.2 in
    let named = subst (λ (l : List Rule). AreNamedIn l (ms ∷ mss)) (sym whole) at in
    let here = table_found ids ms first.0 first.1 named.0 in
    let others = tables_rules (ids ++ first.0.id ∷ []) mss rest.0 rest.1 named.1 in
    subst (λ (l : List Rule). AreSpelled l (ms ∷ mss) × (free_rules ids l ≡ Ok l)) whole (
      (here.0, others.0),
      bind_step (free_id (length ids + 1) ids first.0.id) (λ f. free_rules (ids ++ first.0.id ∷ []) rest.0 >>= λ l. ok (first.0 ∷ l)) first.0.id here.1
          ∙ bind_step (free_rules (ids ++ first.0.id ∷ []) rest.0) (λ l. ok (first.0 ∷ l)) rest.0 others.1,
    )

rules_tables : (ids : List (List ℕ)) (rules : List Rule) (mss : List Members) → AreSpelled rules mss → free_rules ids rules ≡ Ok rules → rules_of ids mss ≡ Ok rules
rules_tables ids [] mss none free = ap (rules_of ids) none
rules_tables ids (rule ∷ rules) [] is free = absurd is
rules_tables ids (rule ∷ rules) (ms ∷ mss) is free =
    let first = bind_ok (free_id (length ids + 1) ids rule.id) (λ f. free_rules (ids ++ rule.id ∷ []) rules >>= λ l. ok (rule ∷ l)) (rule ∷ rules) free in
    let rest = bind_ok (free_rules (ids ++ rule.id ∷ []) rules) (λ l. ok (rule ∷ l)) (rule ∷ rules) first.2 in
    let own : free_id (length ids + 1) ids rule.id ≡ Ok rule.id = first.1 ∙ ap ok (sym (free_id_same (length ids + 1) ids rule.id first.0 first.1)) in
    let others : free_rules (ids ++ rule.id ∷ []) rules ≡ Ok rules = rest.1 ∙ ap ok (free_found (ids ++ rule.id ∷ []) rules rest.0 rest.1).0 in
    bind_step (rule_of ids ms) (λ f. rules_of (ids ++ f.id ∷ []) mss >>= λ l. ok (f ∷ l)) rule (table_only ids ms rule is.0 own)
    ∙ bind_step (rules_of (ids ++ rule.id ∷ []) mss) (λ l. ok (rule ∷ l)) rules (rules_tables (ids ++ rule.id ∷ []) rules mss is.1 others)

abbrev all_tables : List Members → Items
all_tables [] = no_items
all_tables (ms ∷ mss) = item (table ms) (all_tables mss)

more_tables : (o : Option (List Members)) (ms : Members) (mss : List Members) → option_map (λ l. ms ∷ l) o ≡ Some mss → (l : List Members) × (o ≡ Some l) × (mss ≡ ms ∷ l)
more_tables None ms mss e = absurd cc
more_tables (Some l) ms mss e = (l, refl, sym (same_Some (ms ∷ l) mss e))

tables_are : (items : Items) (mss : List Members) → tables_of items ≡ Some mss → items ≡ all_tables mss
tables_are no_items mss e = ap all_tables (same_Some [] mss e)
tables_are (item (string text) ds) mss e = absurd cc
tables_are (item (integer z) ds) mss e = absurd cc
tables_are (item (float x) ds) mss e = absurd cc
tables_are (item (boolean b) ds) mss e = absurd cc
tables_are (item (datetime t) ds) mss e = absurd cc
tables_are (item (array es) ds) mss e = absurd cc
tables_are (item (table ms) ds) mss e =
    let more = more_tables (tables_of ds) ms mss e in
    ap (item (table ms)) (tables_are ds more.0 more.1) ∙ ap all_tables (sym more.2)

are_tables : (mss : List Members) → tables_of (all_tables mss) ≡ Some mss
are_tables [] = refl
are_tables (ms ∷ mss) = ap (option_map (λ l. ms ∷ l)) (are_tables mss)

spelled_rules : (rules : List Rule) (mss : List Members) → AreSpelled rules mss → SpellsRules rules (all_tables mss)
spelled_rules [] mss none = ap all_tables none
spelled_rules (rule ∷ rules) [] is = absurd is
spelled_rules (rule ∷ rules) (ms ∷ mss) is = (ms, all_tables mss, refl, is.0, spelled_rules rules mss is.1)

rules_spelled : (rules : List Rule) (items : Items) → SpellsRules rules items → (mss : List Members) × (items ≡ all_tables mss) × AreSpelled rules mss
rules_spelled [] items e = ([], e, refl)
rules_spelled (rule ∷ rules) items (ms, rest, is', here, others) =
    let more = rules_spelled rules rest others in
    (ms ∷ more.0, is' ∙ ap (item (table ms)) more.1, (here, more.2))

rule_tables_ok : (o : Option Data) (mss : List Members) → rule_tables o ≡ Ok mss → ((o ≡ None) × (mss ≡ [])) ⊎ ((items : Items) × (o ≡ Some (array items)) × (tables_of items ≡ Some mss))
rule_tables_ok None mss e = inl (refl, sym (same_Ok [] mss e))
rule_tables_ok (Some (string text)) mss e = absurd (not_Err (BadValue place.Rules) mss e)
rule_tables_ok (Some (integer z)) mss e = absurd (not_Err (BadValue place.Rules) mss e)
rule_tables_ok (Some (float x)) mss e = absurd (not_Err (BadValue place.Rules) mss e)
rule_tables_ok (Some (boolean b)) mss e = absurd (not_Err (BadValue place.Rules) mss e)
rule_tables_ok (Some (datetime t)) mss e = absurd (not_Err (BadValue place.Rules) mss e)
rule_tables_ok (Some (array items)) mss e = inr (items, refl, ok_or_ok (tables_of items) (BadValue place.Rules) mss e)
rule_tables_ok (Some (table ms)) mss e = absurd (not_Err (BadValue place.Rules) mss e)

spelled_length : (rules : List Rule) (mss : List Members) → AreSpelled rules mss → length rules ≡ length mss
spelled_length [] mss none = sym (ap (length {A = Members}) none)
spelled_length (rule ∷ rules) [] is = absurd is
spelled_length (rule ∷ rules) (ms ∷ mss) is = ap suc (spelled_length rules mss is.1)

-- tables that are read make the rules of a policy, where they are few
pub tables_make : (mss : List Members) (rules : List Rule) → rules_of [] mss ≡ Ok rules → AreNamedIn rules mss → length mss ≤ 1024 → AreRules rules
tables_make mss rules e at short =
    let both = tables_rules [] mss rules e at in
    free_are rules (omega (arith, spelled_length rules mss both.0, short)) both.1

-- ---- documents

abbrev top_value : Members → Option Data
top_value top = get_member (codes "rule") top

pub policy_found : (top : Members) (rules : List Rule) → policy_of (Some top) ≡ Ok rules → ((mss : List Members) → rule_tables (top_value top) ≡ Ok mss → AreNamedIn rules mss) → IsPolicy top rules
policy_found top rules e named =
    let known = bind_ok (known_keys (codes "rule" ∷ []) place.Document top) (λ u. rule_tables (top_value top) >>= λ all. few all >>= λ mss. rules_of [] mss) rules e in
    let all = bind_ok (rule_tables (top_value top)) (λ all. few all >>= λ mss. rules_of [] mss) rules known.2 in
    let mss = bind_ok (few all.0) (λ mss. rules_of [] mss) rules all.2 in
    let short = few_ok all.0 mss.0 mss.1 in
    let read : rules_of [] all.0 ≡ Ok rules = ap (rules_of []) short.1 ∙ mss.2 in
    let both = tables_rules [] all.0 rules read (named all.0 all.1) in
    let free = (free_found [] rules rules both.1).1 in
    record {
      keys = known_ok (codes "rule" ∷ []) place.Document top known.0 known.1;
      tables = ⊎_elim
          (λ (none : (top_value top ≡ None) × (all.0 ≡ [])). inl (none.0, no_rules rules (subst (AreSpelled rules) none.1 both.0)))
          (λ (some : (items : Items) × (top_value top ≡ Some (array items)) × (tables_of items ≡ Some all.0)).
          inr (some.0, some.1, subst (SpellsRules rules) (sym (tables_are some.0 all.0 some.2)) (spelled_rules rules all.0 both.0)))
          (rule_tables_ok (top_value top) all.0 all.1);
      are = record { few = omega (arith, spelled_length rules all.0 both.0, short.0); distinct = free.distinct; free = free.open' };
    }
  where
    no_rules : (rules : List Rule) → AreSpelled rules [] → rules ≡ []
    no_rules [] is = refl
    no_rules (rule ∷ rules) is = absurd is

pub policy_only : (top : Members) (rules : List Rule) → IsPolicy top rules → policy_of (Some top) ≡ Ok rules
policy_only top rules is =
    let got : (mss : List Members) × (rule_tables (top_value top) ≡ Ok mss) × AreSpelled rules mss = ⊎_elim
    (λ (none : (top_value top ≡ None) × (rules ≡ [])). ([], ap rule_tables none.0, subst (λ (l : List Rule). AreSpelled l []) (sym none.1) refl))
    (λ (some : (items : Items) × (top_value top ≡ Some (array items)) × SpellsRules rules items).
    let more = rules_spelled rules some.0 some.2 in
    (more.0, ap rule_tables (some.1 ∙ ap (λ (l : Items). Some (array l)) more.1) ∙ ap (λ (o : Option (List Members)). ok_or o (BadValue place.Rules)) (are_tables more.0), more.2))
    is.tables in
    let free : free_rules [] rules ≡ Ok rules = free_only [] rules (record { open' = is.are.free; fresh = none_before rules; distinct = is.are.distinct }) in
    let short : length got.0 ≤ 1024 = omega (arith, spelled_length rules got.0 got.2, is.are.few) in
    bind_step (known_keys (codes "rule" ∷ []) place.Document top) (λ u. rule_tables (top_value top) >>= λ all. few all >>= λ mss. rules_of [] mss) tt (known_only (codes "rule" ∷ []) place.Document top is.keys)
    ∙ bind_step (rule_tables (top_value top)) (λ all. few all >>= λ mss. rules_of [] mss) got.0 got.1
    ∙ bind_step (few got.0) (λ mss. rules_of [] mss) got.0 (few_only got.0 short)
    ∙ rules_tables [] rules got.0 got.2 free
