-- Grants are where the reaches of the granting rules are.
use Rattle.std.proofs.Common.{◌≡◌, ◌⊎◌, ℕ, suc, ◌+◌, ◌<◌, ◌≤◌, List, [], ◌∷◌, ◌++◌, length, take, drop, get_or, Bool, true, false, cond, ◌&&◌, ◌||◌, Option, Some, None, IfSome, inl, inr, ⊎_elim, refl, sym, ap, subst, ◌∙◌, arith, append-nil, length-append}
use Rattle.std.specs.List.{All, list_any}
use Rattle.std.specs.Option.{option_to_list}
use Rattle.std.proofs.lemmas.List.Folds.{list_any-append}
use Rattle.std.proofs.lemmas.List.Elements.{All-nil, All-cons, All-head, All-tail, All-drop}
use Rattle.std.proofs.Math.Seq.{drop-cons}
use Rattle.std.proofs.lemmas.List.{drop_all, take_more}
use Rattle.std.proofs.lemmas.List.Concat.{flat_map-append}
use Rattle.std.proofs.lemmas.Bool.{cases_Bool, false≢true, and_parts, and_from}
use Rattle.dns_names.specs.Labels.{IsWithin, is_within, parent_of}
use Rattle.dns_data.specs.declared.record_type.RecordType.{RecordType}
use Rattle.grant_policy.specs.declared.action.Action.{Action}
use Rattle.grant_policy.specs.declared.effect.Effect.{Effect}
use Rattle.grant_policy.specs.declared.effect.Effect.TheVariants.{Grant, Deny}
use Rattle.grant_policy.specs.declared.rule.Rule.{Rule}
use Rattle.grant_policy.specs.declared.scope.Scope.{Scope}
use Rattle.grant_policy.specs.declared.scope.Scope.TheVariants.{Name, Subtree, Below}
use Rattle.grant_policy.specs.Scopes.{Covers, covers}
use Rattle.grant_policy.specs.Rules.{Question, matches, is_of, has, same_type, same_action}
use Rattle.grant_policy.specs.Decisions.{decided, decision, effect_by, is_granted}
use Rattle.grant_policy.specs.Reach.{AreWithin, IsReach, IsWidened, is_grant, grants_to, reach_at, reach_of, reaches}
use Rattle.grant_policy.proofs.ScopeLemmas.{is_within-Decides, covers-Decides, within_self, within_trans, within_cons}

abbrev Labels : Type 0
Labels = List (List ℕ)

-- ---- names within others

pub within_root : (name : Labels) → IsWithin name []
within_root name = (name, sym (append-nil name))

root_within : (top : Labels) → IsWithin [] top → top ≡ []
root_within top ([], e) = sym e
root_within top (x ∷ front, e) = absurd cc

-- of two names that a third is within one is within the other
one_within : (name a b : Labels) → IsWithin name a → IsWithin name b → IsWithin a b ⊎ IsWithin b a
one_within [] a b w v = inr (subst (λ (x : Labels). IsWithin b x) (sym (root_within a w)) (within_root b))
one_within (label ∷ name) a b w v =
    ⊎_elim
    (λ (e : a ≡ label ∷ name). inl (subst (λ (x : Labels). IsWithin x b) (sym e) v))
    (λ (deeper : IsWithin name a).
    ⊎_elim (λ (e : b ≡ label ∷ name). inr (subst (λ (x : Labels). IsWithin x a) (sym e) w)) (λ (other : IsWithin name b). one_within name a b deeper other) (within_cons label name b v))
    (within_cons label name a w)

-- the parent of a name that another is not within
pub record IsPassed (name other top : Labels) : Type 0 where
  pub first : IsWithin name top
  pub last : (above : Labels) → IsWithin name above → IsWithin other above → IsWithin top above

pub passed : (name other top parent : Labels) (label : List ℕ) → top ≡ label ∷ parent → is_within other top ≡ false → IsPassed name other top → IsPassed name other parent
passed name other top parent label is not_in so_far =
    record {
      first = within_trans name top parent so_far.first (label ∷ [], is);
      last = λ above w v.
          ⊎_elim
          (λ (e : above ≡ label ∷ parent). absurd (false≢true (sym not_in ∙ (is_within-Decides other top).1 (subst (λ (x : Labels). IsWithin other x) (e ∙ sym is) v))))
          (λ (deeper : IsWithin parent above). deeper)
          (within_cons label parent above (subst (λ (x : Labels). IsWithin x above) is (so_far.last above w v)));
    }

pub passed_up : (name other top parent : Labels) (within : Bool) → parent_of top ≡ Some parent → within ≡ is_within other top → within ≡ false → IsPassed name other top → IsPassed name other parent
passed_up name other [] parent within up is out so_far = absurd cc
passed_up name other (label ∷ rest) parent within up is out so_far =
    let same : rest ≡ parent = cc in
    passed name other (label ∷ rest) parent label (ap (λ (x : Labels). label ∷ x) same) (sym is ∙ out) so_far

-- ---- rules that grant

-- a rule grants what is asked
pub record Grants (asked : Question) (rule : Rule) : Type 0 where
  pub granting : rule.effect ≡ Grant
  pub matching : matches asked rule ≡ true

-- some rule does
abbrev pub SomeGrants : Question → List Rule → Type 0
SomeGrants asked [] = ⊥
SomeGrants asked (rule ∷ rules) = Grants asked rule ⊎ SomeGrants asked rules

by_grant : (effect : Effect) (id : List ℕ) → is_granted (effect_by effect id) ≡ true → effect ≡ Grant
by_grant Grant id e = refl
by_grant Deny id e = absurd cc

-- what is granted some rule grants
some_grants : (asked : Question) (rules : List Rule) → is_granted (decision asked rules) ≡ true → SomeGrants asked rules
some_grants asked [] e = absurd cc
some_grants asked (rule ∷ rules) e =
    ⊎_elim
    (λ (yes' : matches asked rule ≡ true). inl (record { granting = by_grant rule.effect rule.id (sym (ap (λ (b : Bool). is_granted (cond b (decided rule) (decision asked rules))) yes') ∙ e); matching = yes' }))
    (λ (no' : matches asked rule ≡ false). inr (some_grants asked rules (sym (ap (λ (b : Bool). is_granted (cond b (decided rule) (decision asked rules))) no') ∙ e)))
    (cases_Bool (matches asked rule))

-- ---- the reach of a rule

-- a name is within a reach
abbrev pub IsIn : Option Labels → Labels → Type 0
IsIn None name = ⊥
IsIn (Some top) name = IsWithin name top

within_scope : (scope : Scope) (at name : Labels) → Covers scope at name → IsWithin name at
within_scope Name at name e = subst (λ (x : Labels). IsWithin x at) (sym e) (within_self at)
within_scope Subtree at name w = w
within_scope Below at name b = b.0

in_reach_at : (at origin name : Labels) → IsWithin name at → IsWithin name origin → IsIn (reach_at at origin) name
in_reach_at at origin name w v =
    ⊎_elim
    (λ (yes' : is_within at origin ≡ true). subst (λ (b : Bool). IsIn (cond b (Some at) (cond (is_within origin at) (Some origin) None)) name) (sym yes') w)
    (λ (no' : is_within at origin ≡ false).
    let above : is_within origin at ≡ true =
    ⊎_elim
    (λ (below : IsWithin at origin). absurd (false≢true (sym no' ∙ (is_within-Decides at origin).1 below)))
    (λ (up : IsWithin origin at). (is_within-Decides origin at).1 up)
    (one_within name at origin w v) in
    subst (λ (b : Bool). IsIn (cond b (Some at) (cond (is_within origin at) (Some origin) None)) name) (sym no') (subst (λ (b : Bool). IsIn (cond b (Some origin) None) name) (sym above) v))
    (cases_Bool (is_within at origin))

-- what a rule grants within the origin is in its reach there
in_reach_of : (asked : Question) (origin : Labels) (rule : Rule) → Grants asked rule → IsWithin asked.name origin → IsIn (reach_of asked.caller asked.action origin rule) asked.name
in_reach_of asked origin rule grants v =
    let parts = and_parts (is_of rule.callers asked.caller) (covers rule.scope rule.at asked.name && (has same_type rule.types asked.record_type && has same_action rule.actions asked.action)) grants.matching in
    let more = and_parts (covers rule.scope rule.at asked.name) (has same_type rule.types asked.record_type && has same_action rule.actions asked.action) parts.1 in
    let last = and_parts (has same_type rule.types asked.record_type) (has same_action rule.actions asked.action) more.1 in
    let does : grants_to asked.caller asked.action rule ≡ true =
    ap (λ (e : Effect). is_grant e && (is_of rule.callers asked.caller && has same_action rule.actions asked.action)) grants.granting
    ∙ and_from (is_of rule.callers asked.caller) (has same_action rule.actions asked.action) parts.0 last.1 in
    let w = within_scope rule.scope rule.at asked.name ((covers-Decides rule.scope rule.at asked.name).0 more.0) in
    subst (λ (b : Bool). IsIn (cond b (reach_at rule.at origin) None) asked.name) (sym does) (in_reach_at rule.at origin asked.name w v)

of_test : (b : Bool) (x : Labels) (r : Option Labels) (top : Labels) → cond b (Some x) r ≡ Some top → (x ≡ top) ⊎ (r ≡ Some top)
of_test true x r top e = inl cc
of_test false x r top e = inr e

of_grant : (b : Bool) (r : Option Labels) (top : Labels) → cond b r None ≡ Some top → r ≡ Some top
of_grant true r top e = e
of_grant false r top e = absurd cc

reach_at_within : (at origin top : Labels) → reach_at at origin ≡ Some top → IsWithin top origin
reach_at_within at origin top e =
    ⊎_elim
    (λ (yes' : is_within at origin ≡ true).
    let same : at ≡ top = let it : Some at ≡ Some top = sym (ap (λ (b : Bool). cond b (Some at) (cond (is_within origin at) (Some origin) None)) yes') ∙ e in cc in
    subst (λ (x : Labels). IsWithin x origin) same ((is_within-Decides at origin).0 yes'))
    (λ (no' : is_within at origin ≡ false).
    let rest = of_grant' (is_within origin at) origin top (sym (ap (λ (b : Bool). cond b (Some at) (cond (is_within origin at) (Some origin) None)) no') ∙ e) in
    subst (λ (x : Labels). IsWithin x origin) rest (within_self origin))
    (cases_Bool (is_within at origin))
  where
    of_grant' : (b : Bool) (x top : Labels) → cond b (Some x) None ≡ Some top → x ≡ top
    of_grant' true x top e = cc
    of_grant' false x top e = absurd cc

reach_of_within : (caller : List ℕ) (action : Action) (origin : Labels) (rule : Rule) (top : Labels) → reach_of caller action origin rule ≡ Some top → IsWithin top origin
reach_of_within caller action origin rule top e = reach_at_within rule.at origin top (of_grant (grants_to caller action rule) (reach_at rule.at origin) top e)

-- ---- the reach of the rules so far

-- what the rules grant within an origin is in the reach so far, or by a rule that is left
pub record ReachesSoFar (rules : List Rule) (caller : List ℕ) (action : Action) (origin : Labels) (rest : List Rule) (reach : Option Labels) : Type 0 where
  pub top : IfSome reach (λ top. IsWithin top origin)
  pub each : (name : Labels) (record_type : RecordType) → IsWithin name origin
      → SomeGrants (record { caller = caller; name = name; record_type = record_type; action = action }) rules
      → IsIn reach name ⊎ SomeGrants (record { caller = caller; name = name; record_type = record_type; action = action }) rest
  -- a name that the reach so far and those of the rules that are left are within, all are within; and only such a one
  pub both : (above : Labels) → AreWithin rest caller action origin above → IfSome reach (λ top. IsWithin top above) → AreWithin rules caller action origin above
  pub last : (above : Labels) → AreWithin rules caller action origin above → IfSome reach (λ top. IsWithin top above)

-- whether a reach is within a name
abbrev IsBefore : Labels → Option Labels → Type 0
IsBefore above reach = IfSome reach (λ name. IsWithin name above)

-- none is within a longer name
not_longer : (name : Labels) (label : List ℕ) → ¬ IsWithin name (label ∷ name)
not_longer name label (front, e) = omega (arith, ap (λ (x : Labels). length x) e, length-append front (label ∷ name))

-- a reach that is within every name reaches nothing
reach_none : (reach : Option Labels) → ((above : Labels) → IsBefore above reach) → reach ≡ None
reach_none None all = refl
reach_none (Some name) all = absurd (not_longer name [] (all ([] ∷ name)))

pub none_so_far : (rules : List Rule) (caller : List ℕ) (action : Action) (origin : Labels) → ReachesSoFar rules caller action origin rules None
none_so_far rules caller action origin = record { top = tt; each = λ name record_type w some. inr some; both = λ above rest so_far. rest; last = λ above all. tt }

next_rule : (rules : List Rule) (i : ℕ) (rule : Rule) → i < length rules → rule ≡ get_or rules i rule → drop i rules ≡ rule ∷ drop (i + 1) rules
next_rule rules i rule lt is = drop-cons rules i rule lt ∙ ap (λ (r : Rule). r ∷ drop (suc i) rules) (sym is) ∙ ap (λ (n : ℕ). rule ∷ drop n rules) (let e : suc i ≡ i + 1 = omega arith in e)

module _ (rules : List Rule) (caller : List ℕ) (action : Action) (origin : Labels) where
  -- the reach of a rule is within a name
  abbrev Keeps : Labels → Rule → Type 0
  Keeps above rule = IsBefore above (reach_of caller action origin rule)

  -- with the next rule, those that are left
  and_next : (i : ℕ) (rule : Rule) (above : Labels) → i < length rules → rule ≡ get_or rules i rule → Keeps above rule → All (Keeps above) (drop (i + 1) rules) → All (Keeps above) (drop i rules)
  and_next i rule above lt is here rest = subst (All (Keeps above)) (sym (next_rule rules i rule lt is)) (All-cons (Keeps above) rule (drop (i + 1) rules) here rest)

  of_next : (i : ℕ) (rule : Rule) (above : Labels) → i < length rules → rule ≡ get_or rules i rule → All (Keeps above) rules → Keeps above rule
  of_next i rule above lt is all = All-head (Keeps above) rule (drop (i + 1) rules) (subst (All (Keeps above)) (next_rule rules i rule lt is) (All-drop (Keeps above) i rules all))

  -- a rule that reaches nothing
  pub skipped : (i : ℕ) (rule : Rule) (so_far : Option Labels) → i < length rules → rule ≡ get_or rules i rule → reach_of caller action origin rule ≡ None
      → ReachesSoFar rules caller action origin (drop i rules) so_far → ReachesSoFar rules caller action origin (drop (i + 1) rules) so_far
  skipped i rule so_far lt is none before =
      record {
        top = before.top;
        each = λ name record_type w some.
            let asked : Question = record { caller = caller; name = name; record_type = record_type; action = action } in
            ⊎_elim
            (λ (here : IsIn so_far name). inl here)
            (λ (left : SomeGrants asked (drop i rules)).
            ⊎_elim
            (λ (by : Grants asked rule). absurd (subst (λ (r : Option Labels). IsIn r name) none (in_reach_of asked origin rule by w)))
            (λ (later : SomeGrants asked (drop (i + 1) rules)). inr later)
            (subst (SomeGrants asked) (next_rule rules i rule lt is) left))
            (before.each name record_type w some);
        both = λ above rest top. before.both above (and_next i rule above lt is (subst (IsBefore above) (sym none) tt) rest) top;
        last = before.last;
      }

  both_within : (so_far : Option Labels) (name top : Labels) → IsWidened so_far name top → IfSome so_far (λ t. IsWithin t origin) → IsWithin name origin → IsWithin top origin
  both_within None name top e s w = subst (λ (x : Labels). IsWithin x origin) (sym e) w
  both_within (Some t) name top e s w = e.last origin s w

  still_in : (so_far : Option Labels) (name top x : Labels) → IsWidened so_far name top → IsIn so_far x → IsWithin x top
  still_in None name top x e i = absurd i
  still_in (Some t) name top x e i = within_trans x t top i e.first

  one_in : (so_far : Option Labels) (name top : Labels) → IsWidened so_far name top → IsWithin name top
  one_in None name top e = subst (λ (x : Labels). IsWithin name x) (sym e) (within_self name)
  one_in (Some t) name top e = e.second

  so_far_before : (so_far : Option Labels) (name top above : Labels) → IsWidened so_far name top → IsWithin top above → IsBefore above so_far
  so_far_before None name top above e w = tt
  so_far_before (Some t) name top above e w = within_trans t top above e.first w

  before_both : (so_far : Option Labels) (name top above : Labels) → IsWidened so_far name top → IsBefore above so_far → IsWithin name above → IsWithin top above
  before_both None name top above e s w = subst (λ (x : Labels). IsWithin x above) (sym e) w
  before_both (Some t) name top above e s w = e.last above s w

  -- a rule that reaches a name
  pub reached : (i : ℕ) (rule : Rule) (so_far : Option Labels) (name top : Labels) → i < length rules → rule ≡ get_or rules i rule → reach_of caller action origin rule ≡ Some name
      → IsWidened so_far name top → ReachesSoFar rules caller action origin (drop i rules) so_far → ReachesSoFar rules caller action origin (drop (i + 1) rules) (Some top)
  reached i rule so_far at top lt is some_at wider before =
      record {
        top = both_within so_far at top wider before.top (reach_of_within caller action origin rule at some_at);
        each = λ name record_type w some.
            let asked : Question = record { caller = caller; name = name; record_type = record_type; action = action } in
            ⊎_elim
            (λ (here : IsIn so_far name). inl (still_in so_far at top name wider here))
            (λ (left : SomeGrants asked (drop i rules)).
            ⊎_elim
            (λ (by : Grants asked rule). inl (within_trans name at top (subst (λ (r : Option Labels). IsIn r name) some_at (in_reach_of asked origin rule by w)) (one_in so_far at top wider)))
            (λ (later : SomeGrants asked (drop (i + 1) rules)). inr later)
            (subst (SomeGrants asked) (next_rule rules i rule lt is) left))
            (before.each name record_type w some);
        both = λ above rest w.
            before.both above
            (and_next i rule above lt is (subst (IsBefore above) (sym some_at) (within_trans at top above (one_in so_far at top wider) w)) rest)
            (so_far_before so_far at top above wider w);
        last = λ above all.
            before_both so_far at top above wider (before.last above all) (subst (IsBefore above) some_at (of_next i rule above lt is all));
      }

  in_end : (reach : Option Labels) (n : ℕ) → length rules ≤ n → ReachesSoFar rules caller action origin (drop n rules) reach
      → (name : Labels) (record_type : RecordType) → IsWithin name origin
      → is_granted (decision (record { caller = caller; name = name; record_type = record_type; action = action }) rules) ≡ true → IsIn reach name
  in_end reach n past all name record_type w granted =
      let asked : Question = record { caller = caller; name = name; record_type = record_type; action = action } in
      ⊎_elim
      (λ (here : IsIn reach name). here)
      (λ (left : SomeGrants asked (drop n rules)). absurd (subst (SomeGrants asked) (drop_all n rules past) left))
      (all.each name record_type w (some_grants asked rules granted))

  -- the rules after the last
  past_all : (n : ℕ) (above : Labels) → length rules ≤ n → All (Keeps above) (drop n rules)
  past_all n above past = subst (All (Keeps above)) (sym (drop_all n rules past)) (All-nil (Keeps above))

  -- rules whose reaches are within each name reach nothing
  reach_nothing : (rs : List Rule) → ((above : Labels) → All (Keeps above) rs) → All (λ rule. reach_of caller action origin rule ≡ None) rs
  reach_nothing [] all = All-nil (λ rule. reach_of caller action origin rule ≡ None)
  reach_nothing (rule ∷ rs) all =
      All-cons (λ rule. reach_of caller action origin rule ≡ None) rule rs
      (reach_none (reach_of caller action origin rule) (λ above. All-head (Keeps above) rule rs (all above)))
      (reach_nothing rs (λ above. All-tail (Keeps above) rule rs (all above)))

  -- after the last rule
  pub all_reached : (reach : Option Labels) (n : ℕ) → length rules ≤ n → ReachesSoFar rules caller action origin (drop n rules) reach → IsReach rules caller action origin reach
  all_reached None n past all =
      record {
        granted = λ name record_type w.
            let asked : Question = record { caller = caller; name = name; record_type = record_type; action = action } in
            ⊎_elim
            (λ (yes' : is_granted (decision asked rules) ≡ true). absurd (in_end None n past all name record_type w yes'))
            (λ (no' : is_granted (decision asked rules) ≡ false). no')
            (cases_Bool (is_granted (decision asked rules)));
        each = reach_nothing rules (λ above. all.both above (past_all n above past) tt);
      }
  all_reached (Some top) n past all =
      record {
        inside = all.top;
        granted = λ name record_type w granted. in_end (Some top) n past all name record_type w granted;
        each = all.both top (past_all n top past) (within_self top);
        last = all.last;
      }

-- ---- the reaches of all rules

either : (a b : Bool) → (a ≡ true) ⊎ (b ≡ true) → (a || b) ≡ true
either true b e = refl
either false b (inl e) = absurd cc
either false b (inr e) = e

module _ (asked : Question) (origin : Labels) (inside : IsWithin asked.name origin) where
  -- whether the name is within one of some names
  abbrev covered : List Labels → Bool
  covered tops = list_any (λ top. is_within asked.name top) tops

  covers_own : (reach : Option Labels) → IsIn reach asked.name → covered (option_to_list reach) ≡ true
  covers_own None w = absurd w
  covers_own (Some top) w = either (is_within asked.name top) false (inl ((is_within-Decides asked.name top).1 w))

  -- what some rule grants is within a name to which one reaches
  in_some : (rules : List Rule) → SomeGrants asked rules → covered (reaches asked.caller asked.action origin rules) ≡ true
  in_some [] some = absurd some
  in_some (rule ∷ rules) some =
      let own = option_to_list (reach_of asked.caller asked.action origin rule) in
      let others = reaches asked.caller asked.action origin rules in
      list_any-append (λ top. is_within asked.name top) own others
      ∙ either (covered own) (covered others)
      (⊎_elim
      (λ (by : Grants asked rule). inl (covers_own (reach_of asked.caller asked.action origin rule) (in_reach_of asked origin rule by inside)))
      (λ (later : SomeGrants asked rules). inr (in_some rules later))
      some)

  pub granted_in_some : (rules : List Rule) → is_granted (decision asked rules) ≡ true → covered (reaches asked.caller asked.action origin rules) ≡ true
  granted_in_some rules granted = in_some rules (some_grants asked rules granted)

-- one rule more
pub reaches_more : (caller : List ℕ) (action : Action) (origin : Labels) (rules : List Rule) (i : ℕ) (rule : Rule) → i < length rules → rule ≡ get_or rules i rule
    → reaches caller action origin (take i rules) ++ option_to_list (reach_of caller action origin rule) ≡ reaches caller action origin (take (i + 1) rules)
reaches_more caller action origin rules i rule lt is =
    let f : Rule → List Labels = λ (r : Rule). option_to_list (reach_of caller action origin r) in
    ap (λ (l : List Labels). reaches caller action origin (take i rules) ++ l) (sym (append-nil (f rule)))
    ∙ sym (flat_map-append f (take i rules) (rule ∷ []))
    ∙ ap (reaches caller action origin) (ap (λ (r : Rule). take i rules ++ r ∷ []) is ∙ sym (take_more rules i rule lt))
