-- Which rules speak of names within an origin, and what the others do not decide there.
use Rattle.std.proofs.Common.{◌≡◌, ◌≢◌, ◌↔◌, ◌⊎◌, inl, inr, ℕ, zero, suc, ◌+◌, ◌<◌, ◌≤◌, Bool, true, false, ◌&&◌, cond, List, [], ◌∷◌, ◌++◌, length, map, get_or, take, Result, Ok, Err, IfOk, Vec, Global, Bor, codes, refl, sym, ap, ◌∙◌, subst, ⊎_elim, arith}
use Rattle.std.specs.Prelude.{is_ok}
use Rattle.std.specs.List.{All, AllByRecursion, Contains, IsDistinct}
use Rattle.std.specs.Str.{bytes_eq}
use Rattle.std.proofs.lemmas.Bool.{cases_Bool, cases_lt, false≢true, false_from_ne_true}
use Rattle.std.proofs.lemmas.List.{take_more, take_all, map_push}
use Rattle.std.proofs.lemmas.List.Elements.{All-nil, All-cons, Contains-push_cases}
use Rattle.dns_names.specs.Labels.{IsName, IsWithin, IsBelow, wire_len}
use Rattle.dns_names.specs.Order.{same_name}
use Rattle.dns_names.specs.Reading.{relative_name}
use Rattle.grant_policy.specs.declared.rule.Rule.{Rule}
use Rattle.grant_policy.specs.declared.scope.Scope.{Scope}
use Rattle.grant_policy.specs.declared.scope.Scope.TheVariants.{Name, Subtree, Below}
use Rattle.grant_policy.specs.Documents.{AreRules}
use Rattle.grant_policy.specs.Decisions.{Verdict, decided, decision}
use Rattle.grant_policy.specs.Isolated.{question}
use Rattle.grant_policy.specs.Rules.{is_of, has, same_type, same_action, matches}
use Rattle.grant_policy.specs.Scopes.{Covers, covers}
use Rattle.grant_policy.proofs.ScopeLemmas.{same_name-Decides, covers-Decides, within_self, within_trans, within_cons}
use Rattle.policy_tools.specs.Slices.{Touches, Matters, IsSpokenOf, AreKept, DecideSame, IsClosed, HasNames, Reaches}
use Rattle.policy_tools.proofs.FreeNameLemmas.{octet_name, no_label, one_fit, one_full}
use Rattle.policy_tools.proofs.RepresentativeLemmas.{last_label, top_name}

abbrev Name' : Type 0
Name' = List (List ℕ)

-- ---- names within two others

within_root : (a : Name') → IsWithin [] a → a ≡ []
within_root a ([], e) = sym e
within_root a (label ∷ front, e) = absurd cc

-- two names above a third are one above the other
pub comparable : (name a b : Name') → IsWithin name a → IsWithin name b → IsWithin a b ⊎ IsWithin b a
comparable [] a b wa wb = inl (subst (λ (x : Name'). IsWithin x b) (sym (within_root a wa)) wb)
comparable (label ∷ name) a b wa wb = by (comparable name a b) (within_cons label name a wa) (within_cons label name b wb)
  where
    by : (IsWithin name a → IsWithin name b → IsWithin a b ⊎ IsWithin b a) → (a ≡ label ∷ name) ⊎ IsWithin name a → (b ≡ label ∷ name) ⊎ IsWithin name b → IsWithin a b ⊎ IsWithin b a
    by above (inl e) _ = inl (subst (λ (x : Name'). IsWithin x b) (sym e) wb)
    by above (inr ua) (inl e) = inr (subst (λ (x : Name'). IsWithin x a) (sym e) wa)
    by above (inr ua) (inr ub) = above ua ub

-- a name has room for another below it where there is one
below_room : (at name : Name') → IsName name → IsBelow name at → wire_len at ≤ 253
below_room at name is (w, other) = by w.0 w.1
  where
    by : (front : Name') → name ≡ front ++ at → wire_len at ≤ 253
    by [] e = absurd (other e)
    by (label ∷ front) e =
        let l = last_label label front at in
        let child = top_name l.1.0 (l.0 ∷ at) (subst IsName l.1.1 (subst IsName e is)) in
        ⊎_elim (λ (full : 253 < wire_len at). absurd (no_label at full l.0 child)) (λ (room : wire_len at ≤ 253). room) (cases_lt 253 (wire_len at))

longer : (label : List ℕ) (at : Name') → label ∷ at ≢ at
longer label at e = omega (arith, ap (length {A = List ℕ}) e)

-- ---- touching

touch_below : (rule : Rule) (origin : Name') → rule.scope ≡ Below → IsName rule.at → IsName origin → IsWithin rule.at origin ⊎ IsWithin origin rule.at → wire_len rule.at ≤ 253 → Touches rule origin
touch_below rule origin scope at is reach room = by reach (cases_Bool (same_name origin rule.at))
  where
    child : IsWithin rule.at origin → Touches rule origin
    child w = record {
      name = (97 ∷ []) ∷ rule.at;
      valid = octet_name rule.at 97 at room (omega arith) refl;
      covered = subst (λ (s : Scope). Covers s rule.at ((97 ∷ []) ∷ rule.at)) (sym scope) (((97 ∷ []) ∷ [], refl), longer (97 ∷ []) rule.at);
      within = within_trans ((97 ∷ []) ∷ rule.at) rule.at origin ((97 ∷ []) ∷ [], refl) w;
    }

    by : IsWithin rule.at origin ⊎ IsWithin origin rule.at → (same_name origin rule.at ≡ true) ⊎ (same_name origin rule.at ≡ false) → Touches rule origin
    by (inl w) _ = child w
    by (inr w) (inl same) = child (subst (λ (x : Name'). IsWithin rule.at x) (sym ((same_name-Decides origin rule.at).0 same)) (within_self rule.at))
    by (inr w) (inr other) = record {
      name = origin;
      valid = is;
      covered = subst (λ (s : Scope). Covers s rule.at origin) (sym scope) (w, λ e. false≢true (sym other ∙ (same_name-Decides origin rule.at).1 e));
      within = within_self origin;
    }

touch_here : (rule : Rule) (origin : Name') → IsName rule.at → Covers rule.scope rule.at rule.at → IsWithin rule.at origin → Touches rule origin
touch_here rule origin at covered w = record { name = rule.at; valid = at; covered = covered; within = w }

-- a rule whose scope has names, and reaches into an origin
pub touches_is : (rule : Rule) (origin : Name') → IsName rule.at → IsName origin → Reaches rule.scope rule.at origin → HasNames rule.scope rule.at → Touches rule origin
touches_is rule origin at is reach has' = by rule.scope refl reach has'
  where
    by : (s : Scope) → rule.scope ≡ s → Reaches s rule.at origin → HasNames s rule.at → Touches rule origin
    by Name e w h = touch_here rule origin at (subst (λ (s : Scope). Covers s rule.at rule.at) (sym e) refl) w
    by Subtree e (inl w) h = touch_here rule origin at (subst (λ (s : Scope). Covers s rule.at rule.at) (sym e) (within_self rule.at)) w
    by Subtree e (inr w) h = record { name = origin; valid = is; covered = subst (λ (s : Scope). Covers s rule.at origin) (sym e) w; within = within_self origin }
    by Below e w h = touch_below rule origin e at is w h

pub touches_reach : (rule : Rule) (origin : Name') → Touches rule origin → Reaches rule.scope rule.at origin
touches_reach rule origin t = by rule.scope t.covered
  where
    by : (s : Scope) → Covers s rule.at t.name → Reaches s rule.at origin
    by Name e = subst (λ (x : Name'). IsWithin x origin) e t.within
    by Subtree w = comparable t.name rule.at origin w t.within
    by Below w = comparable t.name rule.at origin w.0 t.within

pub touches_names : (rule : Rule) (origin : Name') → Touches rule origin → HasNames rule.scope rule.at
touches_names rule origin t = by rule.scope t.covered
  where
    by : (s : Scope) → Covers s rule.at t.name → HasNames s rule.at
    by Name e = tt
    by Subtree w = tt
    by Below w = below_room rule.at t.name t.valid w

pub touches_exactly : {E : Type 0} (rule : Rule) (origin : Name') (r : Result Bool E) → IsName rule.at → IsName origin → Reaches rule.scope rule.at origin → IfOk r (λ b. (b ≡ true) ↔ HasNames rule.scope rule.at) → IfOk r (λ b. (b ≡ true) ↔ Touches rule origin)
touches_exactly rule origin (Ok b) at is reach tells = (λ e. touches_is rule origin at is reach (tells.0 e), λ t. tells.1 (touches_names rule origin t))
touches_exactly rule origin (Err e) at is reach tells = tt

-- a scope below a name has names where the name has room for one more label
pub room_exactly : {E : Type 0} (at : Name') (r : Result Bool E) → IfOk r (λ fits. fits ≡ is_ok (relative_name at (97 ∷ []))) → IfOk r (λ b. (b ≡ true) ↔ (wire_len at ≤ 253))
room_exactly at (Ok b) is = (
  λ e. one_fit at (sym is ∙ e),
  λ room. ⊎_elim
      (λ (yes' : b ≡ true). yes')
      (λ (no' : b ≡ false). let full = one_full at (sym is ∙ no') in absurd (omega (arith, full, room)))
      (cases_Bool b),
)
room_exactly at (Err e) is = tt

-- ---- one of several

-- none of the first has a property, and the next has not
pub none_more : {X : Type 0} (Has : X → Type 0) (xs : List X) (n : ℕ) (x : X) → n < length xs → x ≡ get_or xs n x → ¬ Has x → ((y : X) → Contains (take n xs) y → ¬ Has y) → (y : X) → Contains (take (n + 1) xs) y → ¬ Has y
none_more {X} Has xs n x lt is here none y in' h =
    let more : take (n + 1) xs ≡ take n xs ++ x ∷ [] = take_more xs n x lt ∙ ap (λ (z : X). take n xs ++ z ∷ []) (sym is) in
    ⊎_elim
    (λ (old : Contains (take n xs) y). none y old h)
    (λ (new : x ≡ y). here (subst Has (sym new) h))
    (Contains-push_cases (take n xs) x y (subst (λ (l : List X). Contains l y) more in'))

pub none_all : {X : Type 0} (Has : X → Type 0) (xs : List X) (n : ℕ) → length xs ≤ n → ((y : X) → Contains (take n xs) y → ¬ Has y) → (y : X) → Contains xs y → ¬ Has y
none_all {X} Has xs n all none y in' = none y (subst (λ (l : List X). Contains l y) (sym (take_all n xs all)) in')

-- ---- keeping

keep_push : {X : Type 0} (Has : X → Type 0) (xs kept : List X) (x : X) → AreKept Has xs kept → Has x → AreKept Has (xs ++ x ∷ []) (kept ++ x ∷ [])
keep_push {X} Has [] kept x e h = inl (h, ([], ap (λ (l : List X). l ++ x ∷ []) e, refl))
keep_push {X} Has (y ∷ ys) kept x (inl (own, (others, e, are))) h = inl (own, (others ++ x ∷ [], ap (λ (l : List X). l ++ x ∷ []) e, keep_push Has ys others x are h))
keep_push {X} Has (y ∷ ys) kept x (inr (no', are)) h = inr (no', keep_push Has ys kept x are h)

keep_skip : {X : Type 0} (Has : X → Type 0) (xs kept : List X) (x : X) → AreKept Has xs kept → ¬ Has x → AreKept Has (xs ++ x ∷ []) kept
keep_skip Has [] kept x e no' = inr (no', e)
keep_skip Has (y ∷ ys) kept x (inl (own, (others, e, are))) no' = inl (own, (others, e, keep_skip Has ys others x are no'))
keep_skip Has (y ∷ ys) kept x (inr (not', are)) no' = inr (not', keep_skip Has ys kept x are no')

one_more : {X : Type 0} (xs : List X) (n : ℕ) (x : X) → n < length xs → x ≡ get_or xs n x → take (n + 1) xs ≡ take n xs ++ x ∷ []
one_more {X} xs n x lt is = take_more xs n x lt ∙ ap (λ (z : X). take n xs ++ z ∷ []) (sym is)

pub kept_yes : {X : Type 0} (Has : X → Type 0) (xs : List X) (n : ℕ) (kept : List (Bor X)) (x : Bor X) → n < length xs → x.now ≡ get_or xs n x.now → AreKept Has (take n xs) (map (λ k. k.now) kept) → Has x.now → AreKept Has (take (n + 1) xs) (map (λ k. k.now) (kept ++ x ∷ []))
kept_yes {X} Has xs n kept x lt is are h =
    subst (λ (l : List X). AreKept Has l (map (λ k. k.now) (kept ++ x ∷ []))) (sym (one_more xs n x.now lt is))
    (subst (AreKept Has (take n xs ++ x.now ∷ [])) (sym (map_push (λ (k : Bor X). k.now) kept x)) (keep_push Has (take n xs) (map (λ k. k.now) kept) x.now are h))

pub kept_no : {X : Type 0} (Has : X → Type 0) (xs : List X) (n : ℕ) (kept : List (Bor X)) (x : X) → n < length xs → x ≡ get_or xs n x → AreKept Has (take n xs) (map (λ k. k.now) kept) → ¬ Has x → AreKept Has (take (n + 1) xs) (map (λ k. k.now) kept)
kept_no {X} Has xs n kept x lt is are no' =
    subst (λ (l : List X). AreKept Has l (map (λ k. k.now) kept)) (sym (one_more xs n x lt is)) (keep_skip Has (take n xs) (map (λ k. k.now) kept) x are no')

pub kept_all : {X : Type 0} (Has : X → Type 0) (xs : List X) (n : ℕ) (kept : List X) → length xs ≤ n → AreKept Has (take n xs) kept → AreKept Has xs kept
kept_all {X} Has xs n kept all are = subst (λ (l : List X). AreKept Has l kept) (take_all n xs all) are

-- ---- deciding

-- a rule that does not matter decides nothing within the origins
pub same_decisions : (origins : List Name') (rules slice : List Rule) → AreKept (Matters origins) rules slice → DecideSame origins rules slice
same_decisions origins [] slice e name is within caller t a = ap (decision (question caller name t a)) (sym e)
same_decisions origins (rule ∷ rules) slice (inl (own, (others, e, are))) name is within caller t a =
    ap (λ (v : Verdict). cond (matches (question caller name t a) rule) (decided rule) v) (same_decisions origins rules others are name is within caller t a)
    ∙ ap (decision (question caller name t a)) (sym e)
same_decisions origins (rule ∷ rules) slice (inr (no', are)) name is within caller t a =
    ap (λ (b : Bool). cond (is_of rule.callers caller && (b && (has same_type rule.types t && has same_action rule.actions a))) (decided rule) (decision (question caller name t a) rules)) outside
    ∙ passed (is_of rule.callers caller)
    ∙ same_decisions origins rules slice are name is within caller t a
  where
    outside : covers rule.scope rule.at name ≡ false
    outside = false_from_ne_true (covers rule.scope rule.at name) (λ yes'. no' (within.0, within.1, record { name = name; valid = is; covered = (covers-Decides rule.scope rule.at name).0 yes'; within = within.2 }))

    passed : (b : Bool) → cond (b && (false && (has same_type rule.types t && has same_action rule.actions a))) (decided rule) (decision (question caller name t a) rules) ≡ decision (question caller name t a) rules
    passed true = refl
    passed false = refl

pub slice_same : {E : Type 0} (origins : List Name') (rules : List Rule) (r : Result (Vec (Bor Rule) Global) E) → IfOk r (λ slice. AreKept (Matters origins) rules (map (λ rule. rule.now) slice.items)) → IfOk r (λ slice. DecideSame origins rules (map (λ rule. rule.now) slice.items))
slice_same origins rules (Ok slice) are = same_decisions origins rules (map (λ rule. rule.now) slice.items) are
slice_same origins rules (Err e) are = tt

-- ---- where no rule speaks

nothing_kept : (origins : List Name') (rules : List Rule) → ((rule : Rule) → Contains rules rule → ¬ Matters origins rule) → AreKept (Matters origins) rules []
nothing_kept origins [] none = refl
nothing_kept origins (rule ∷ rules) none = inr (none rule (0, omega arith, refl), nothing_kept origins rules (λ r in'. none r (suc in'.0, omega (arith, in'.1), in'.2)))

closed : (rules : List Rule) (origin : Name') → ¬ IsSpokenOf rules origin → IsClosed rules origin
closed rules origin none name is within caller t a =
    same_decisions (origin ∷ []) rules [] (nothing_kept (origin ∷ []) rules (λ rule in' m. none (rule, in', subst (Touches rule) (only m.0 m.1) m.2))) name is (origin, (0, omega arith, refl), within) caller t a
  where
    only : (o : Name') → Contains (origin ∷ []) o → o ≡ origin
    only o (zero, lt, e) = sym e
    only o (suc k, lt, e) = absurd (omega (arith, lt))

kept_each : {X : Type 0} (Has Is : X → Type 0) → ((x : X) → Has x → Is x) → (xs kept : List X) → AreKept Has xs kept → All Is kept
kept_each {X} Has Is so [] kept e = subst (All Is) (sym e) (All-nil Is)
kept_each {X} Has Is so (x ∷ xs) kept (inl (h, (others, e, are))) = subst (All Is) (sym e) (All-cons Is x others (so x h) (kept_each Has Is so xs others are))
kept_each {X} Has Is so (x ∷ xs) kept (inr (no', are)) = kept_each Has Is so xs kept are

pub all_closed : {E : Type 0} (rules : List Rule) (origins : List Name') (r : Result (Vec (Bor Name') Global) E) → IfOk r (λ unspoken. AreKept (λ origin. ¬ IsSpokenOf rules origin) origins (map (λ origin. origin.now) unspoken.items)) → IfOk r (λ unspoken. All (IsClosed rules) (map (λ origin. origin.now) unspoken.items))
all_closed rules origins (Ok unspoken) are =
    kept_each (λ (origin : Name'). ¬ IsSpokenOf rules origin) (IsClosed rules) (λ origin none. closed rules origin none) origins (map (λ (origin : Bor Name'). origin.now) unspoken.items) are
all_closed rules origins (Err e) are = tt

-- ---- what is kept of the rules of a policy

module _ {X : Type 0} (Has : X → Type 0) where
  -- what holds of all holds of those that are kept
  all_kept : (Q : X → Type 0) (xs kept : List X) → AreKept Has xs kept → AllByRecursion Q xs → AllByRecursion Q kept
  all_kept Q [] kept none all = subst (AllByRecursion Q) (sym none) tt
  all_kept Q (x ∷ xs) kept (inl (here, (others, same, more))) all = subst (AllByRecursion Q) (sym same) (all.0, all_kept Q xs others more all.1)
  all_kept Q (x ∷ xs) kept (inr (gone, more)) all = all_kept Q xs kept more all.1

  few_kept : (xs kept : List X) → AreKept Has xs kept → length kept ≤ length xs
  few_kept [] kept none = omega (arith, ap (λ (ks : List X). length ks) none)
  few_kept (x ∷ xs) kept (inl (here, (others, same, more))) = omega (arith, few_kept xs others more, ap (λ (ks : List X). length ks) same)
  few_kept (x ∷ xs) kept (inr (gone, more)) = omega (arith, few_kept xs kept more)

  module _ {Y : Type 0} (view : X → Y) where
    -- the same of what is seen of them
    views_kept : (Q : Y → Type 0) (xs kept : List X) → AreKept Has xs kept → AllByRecursion Q (map view xs) → AllByRecursion Q (map view kept)
    views_kept Q [] kept none all = subst (λ (ks : List X). AllByRecursion Q (map view ks)) (sym none) tt
    views_kept Q (x ∷ xs) kept (inl (here, (others, same, more))) all =
        subst (λ (ks : List X). AllByRecursion Q (map view ks)) (sym same) (all.0, views_kept Q xs others more all.1)
    views_kept Q (x ∷ xs) kept (inr (gone, more)) all = views_kept Q xs kept more all.1

    distinct_kept : (eq : Y → Y → Bool) (xs kept : List X) → AreKept Has xs kept → IsDistinct eq (map view xs) → IsDistinct eq (map view kept)
    unfolding IsDistinct
    distinct_kept eq [] kept none all = subst (λ (ks : List X). IsDistinct eq (map view ks)) (sym none) tt
    distinct_kept eq (x ∷ xs) kept (inl (here, (others, same, more))) all =
        subst (λ (ks : List X). IsDistinct eq (map view ks)) (sym same)
        (views_kept (λ y. eq (view x) y ≡ false) xs others more all.0, distinct_kept eq xs others more all.1)
    distinct_kept eq (x ∷ xs) kept (inr (gone, more)) all = distinct_kept eq xs kept more all.1

-- those that are kept of the rules of a policy are the rules of one
pub kept_rules : (Has : Rule → Type 0) (rules kept : List Rule) → AreKept Has rules kept → AreRules rules → AreRules kept
kept_rules Has rules kept are all = record {
  few = omega (arith, few_kept Has rules kept are, all.few);
  distinct = distinct_kept Has (λ rule. rule.id) bytes_eq rules kept are all.distinct;
  free = all_kept Has (λ rule. rule.id ≢ codes "closing") rules kept are all.free;
}

pub slice_rules : {E : Type 0} (origins : List Name') (rules : List Rule) (r : Result (Vec (Bor Rule) Global) E) → AreRules rules → IfOk r (λ slice. AreKept (Matters origins) rules (map (λ rule. rule.now) slice.items)) → IfOk r (λ slice. AreRules (map (λ rule. rule.now) slice.items))
slice_rules origins rules (Ok slice) all are = kept_rules (Matters origins) rules (map (λ rule. rule.now) slice.items) are all
slice_rules origins rules (Err e) all are = tt
