-- Each name is like the name of a rule, or like a free one below it.
use Rattle.std.proofs.Common.{◌≡◌, ◌≢◌, ℕ, ◌+◌, ◌<◌, ◌≤◌, ◌⊎◌, inl, inr, true, false, not, List, [], ◌∷◌, ◌++◌, length, get_or, take, Option, Some, None, refl, sym, ap, ◌∙◌, subst, ⊎_elim, arith, length-append, length-take}
use Rattle.std.specs.Bool.{Decides}
use Rattle.std.specs.List.{All, Contains, list_any}
use Rattle.std.specs.Option.{option_to_list}
use Rattle.std.proofs.lemmas.Bool.{cases_Bool, cases_lt, false≢true, not-true}
use Rattle.std.proofs.lemmas.Bool.Decides.{same_from_decides, Decides-like}
use Rattle.std.proofs.lemmas.List.{get_or-take, get_or_read}
use Rattle.std.proofs.lemmas.List.Folds.{Any-from_list_any, list_any_at}
use Rattle.std.proofs.lemmas.List.Elements.{All-push, All-append, All-cons, All-nil, Contains-append_left, Contains-push}
use Rattle.dns_names.specs.Labels.{IsName, IsWithin}
use Rattle.dns_names.specs.Order.{same_name}
use Rattle.grant_policy.specs.declared.rule.Rule.{Rule}
use Rattle.grant_policy.specs.declared.scope.Scope.{Scope}
use Rattle.grant_policy.specs.declared.scope.Scope.TheVariants.{Name, Subtree, Below}
use Rattle.grant_policy.specs.Scopes.{Covers, covers}
use Rattle.grant_policy.proofs.ScopeLemmas.{same_name-Decides, covers-Decides, within_self, within_trans, within_cons}
use Rattle.policy_tools.specs.Representatives.{AreAlike, Represent}
use Rattle.policy_tools.specs.FreeNames.{IsFree, IsFreeBelow, IsFreeChild, AddsServed, pair_of}
use Rattle.policy_tools.proofs.FreeNameLemmas.{at_least, HasNumber, number_of-pair_of, first_number}

-- ---- rules at a name

pub at_some : (rules : List Rule) (name : List (List ℕ)) → list_any (λ rule. same_name rule.at name) rules ≡ true → (rule : Rule) × Contains rules rule × (rule.at ≡ name)
at_some rules name e =
    let a = Any-from_list_any (λ (rule : Rule). same_name rule.at name) rules e in
    (a.1, (a.0, a.2, a.3), (same_name-Decides a.1.at name).0 a.4)

pub at_none : (rules : List Rule) (name : List (List ℕ)) → list_any (λ rule. same_name rule.at name) rules ≡ false → IsFree rules name
at_none rules name e rule (k, lt, is) at =
    let passes : same_name (get_or rules k rule).at name ≡ true = subst (λ (r : Rule). same_name r.at name ≡ true) (sym is) ((same_name-Decides rule.at name).1 at) in
    false≢true (sym e ∙ list_any_at (λ (r : Rule). same_name r.at name) rules k rule lt passes)

pub free-Decides : (rules : List Rule) (name : List (List ℕ)) → Decides (not (list_any (λ rule. same_name rule.at name) rules)) (IsFree rules name)
free-Decides rules name = (
  λ e. at_none rules name (not-true (list_any (λ rule. same_name rule.at name) rules) e),
  λ free. ⊎_elim
      (λ (yes' : list_any (λ rule. same_name rule.at name) rules ≡ true). let a = at_some rules name yes' in absurd (free a.0 a.1 a.2))
      (λ (no' : list_any (λ rule. same_name rule.at name) rules ≡ false). ap not no')
      (cases_Bool (list_any (λ rule. same_name rule.at name) rules)),
)

pub not_free : (rules : List Rule) (name : List (List ℕ)) → ¬ IsFree rules name → (rule : Rule) × Contains rules rule × (rule.at ≡ name)
not_free rules name taken =
    ⊎_elim
    (λ (yes' : list_any (λ rule. same_name rule.at name) rules ≡ true). at_some rules name yes')
    (λ (no' : list_any (λ rule. same_name rule.at name) rules ≡ false). absurd (taken (at_none rules name no')))
    (cases_Bool (list_any (λ rule. same_name rule.at name) rules))

-- there are more names of two letters than rules
pub too_many : (rules : List Rule) (top : List (List ℕ)) (n : ℕ) → length rules ≤ 2048 → n ≡ length rules + 1 → ((k : ℕ) → k < n → ¬ IsFree rules (pair_of k ∷ top)) → ⊥
too_many rules top n few is taken = omega (arith, at_least (λ (rule : Rule). first_number rule.at) rules n numbered)
  where
    numbered : (k : ℕ) → k < n → HasNumber (λ (rule : Rule). first_number rule.at) rules k
    numbered k lt =
        let found = not_free rules (pair_of k ∷ top) (taken k lt) in
        (found.0, found.1, ap first_number found.2 ∙ number_of-pair_of k (omega arith))

-- ---- within

pub within_longer : (a b : List (List ℕ)) → IsWithin a b → length b ≤ length a
within_longer a b (f, e) = omega (arith, ap (length {A = List ℕ}) e, length-append f b)

-- what is before a name, without the label that is next to it
pub last_label : (label : List ℕ) (front top : List (List ℕ)) → (x : List ℕ) × IsWithin ((label ∷ front) ++ top) (x ∷ top)
last_label label [] top = (label, ([], refl))
last_label label (next ∷ front) top =
    let l = last_label next front top in
    (l.0, (label ∷ l.1.0, ap (λ (n : List (List ℕ)). label ∷ n) l.1.1))

pub top_name : (front top : List (List ℕ)) → IsName (front ++ top) → IsName top
top_name [] top is = is
top_name (label ∷ front) top is = top_name front top (record { labels = is.labels.1; short = omega (arith, is.short) })

-- ---- the nearest rule

-- the nearest name at or above a name that a rule has, or the root
pub record IsNearest (rules : List Rule) (name top : List (List ℕ)) : Type 0 where
  pub within : IsWithin name top
  pub at : (top ≡ []) ⊎ ((rule : Rule) × Contains rules rule × (rule.at ≡ top))
  pub nearest : (rule : Rule) → Contains rules rule → IsWithin name rule.at → IsWithin top rule.at

pub nearest : (rules : List Rule) (name : List (List ℕ)) → (top : List (List ℕ)) × IsNearest rules name top
nearest rules [] = ([], record { within = within_self []; at = inl refl; nearest = λ rule in' w. w })
nearest rules (label ∷ name) =
    ⊎_elim
    (λ (yes' : list_any (λ rule. same_name rule.at (label ∷ name)) rules ≡ true). (label ∷ name, record { within = within_self (label ∷ name); at = inr (at_some rules (label ∷ name) yes'); nearest = λ rule in' w. w }))
    (λ (no' : list_any (λ rule. same_name rule.at (label ∷ name)) rules ≡ false).
    let free = at_none rules (label ∷ name) no' in
    let up = nearest rules name in (
      up.0,
      record {
        within = (label ∷ up.1.within.0, ap (λ (n : List (List ℕ)). label ∷ n) up.1.within.1);
        at = up.1.at;
        nearest = λ rule in' w. ⊎_elim (λ (here : rule.at ≡ label ∷ name). absurd (free rule in' here)) (λ (above : IsWithin name rule.at). up.1.nearest rule in' above) (within_cons label name rule.at w);
      },
    ))
    (cases_Bool (list_any (λ rule. same_name rule.at (label ∷ name)) rules))

-- ---- served

-- the name is one of the names, and so is a free one below it, if there is one
pub record IsServed (rules : List Rule) (top : List (List ℕ)) (names : List (List (List ℕ))) : Type 0 where
  pub itself : Contains names top
  pub below : ((child : List (List ℕ)) × Contains names child × IsFreeBelow rules top child) ⊎ ((label : List ℕ) → IsName (label ∷ top) → ¬ IsFree rules (label ∷ top))

pub covers_both : (scope : Scope) (at name other : List (List ℕ)) → (Covers scope at name → Covers scope at other) → (Covers scope at other → Covers scope at name) → covers scope at name ≡ covers scope at other
covers_both scope at name other there back =
    same_from_decides (covers scope at name) (covers scope at other) (covers-Decides scope at name) (Decides-like (covers scope at other) back there (covers-Decides scope at other))

-- names other than that of a rule, which are within the same names
alike_rule : (scope : Scope) (at name other : List (List ℕ)) → name ≢ at → other ≢ at → (IsWithin name at → IsWithin other at) → (IsWithin other at → IsWithin name at) → covers scope at name ≡ covers scope at other
alike_rule Name at name other n o there back = covers_both Name at name other (λ e. absurd (n e)) (λ e. absurd (o e))
alike_rule Subtree at name other n o there back = covers_both Subtree at name other there back
alike_rule Below at name other n o there back = covers_both Below at name other (λ c. (there c.0, o)) (λ c. (back c.0, n))

pub below_alike : (rules : List Rule) (label : List ℕ) (front top child : List (List ℕ)) → IsNearest rules ((label ∷ front) ++ top) top → IsFreeBelow rules top child → AreAlike rules ((label ∷ front) ++ top) child
below_alike rules label front top child near free rule in' =
    let name : List (List ℕ) = (label ∷ front) ++ top in
    let above : IsWithin child top = (free.label ∷ [], free.is) in
    alike_rule rule.scope rule.at name child
    (λ here.
    let w : IsWithin top name = subst (λ (n : List (List ℕ)). IsWithin top n) (sym here) (near.nearest rule in' (subst (λ (n : List (List ℕ)). IsWithin name n) here (within_self name))) in
    omega (arith, within_longer top name w, length-append (label ∷ front) top))
    (λ here. free.free rule in' (sym here))
    (λ w. within_trans child top rule.at above (near.nearest rule in' w))
    (λ w. ⊎_elim
    (λ (here : rule.at ≡ free.label ∷ top). absurd (free.free rule in' (here ∙ sym free.is)))
    (λ (up : IsWithin top rule.at). within_trans name top rule.at near.within up)
    (within_cons free.label top rule.at (subst (λ (n : List (List ℕ)). IsWithin n rule.at) free.is w)))

pub none_below : (rules : List Rule) (label : List ℕ) (front top : List (List ℕ)) → IsNearest rules ((label ∷ front) ++ top) top → IsName ((label ∷ front) ++ top) → ((x : List ℕ) → IsName (x ∷ top) → ¬ IsFree rules (x ∷ top)) → ⊥
none_below rules label front top near is none =
    let name : List (List ℕ) = (label ∷ front) ++ top in
    let l = last_label label front top in
    let x = l.0 in
    none x (top_name l.1.0 (x ∷ top) (subst IsName l.1.1 is))
    (λ rule in' at.
    let w : IsWithin name rule.at = subst (λ (n : List (List ℕ)). IsWithin name n) (sym at) l.1 in
    let up : IsWithin top (x ∷ top) = subst (λ (n : List (List ℕ)). IsWithin top n) at (near.nearest rule in' w) in
    omega (arith, within_longer top (x ∷ top) up))

pub represents : (rules : List Rule) (names : List (List (List ℕ))) → All IsName names → IsServed rules [] names → ((rule : Rule) → Contains rules rule → IsServed rules rule.at names) → Represent rules names
represents rules names are root each = record { valid = are; each = λ name is. like name is (nearest rules name) }
  where
    served : (top : List (List ℕ)) → (top ≡ []) ⊎ ((rule : Rule) × Contains rules rule × (rule.at ≡ top)) → IsServed rules top names
    served top (inl e) = subst (λ (t : List (List ℕ)). IsServed rules t names) (sym e) root
    served top (inr (rule, in', e)) = subst (λ (t : List (List ℕ)). IsServed rules t names) e (each rule in')

    below : (label : List ℕ) (front top : List (List ℕ)) → IsName ((label ∷ front) ++ top) → IsNearest rules ((label ∷ front) ++ top) top → ((child : List (List ℕ)) × Contains names child × IsFreeBelow rules top child) ⊎ ((x : List ℕ) → IsName (x ∷ top) → ¬ IsFree rules (x ∷ top)) → (other : List (List ℕ)) × Contains names other × AreAlike rules ((label ∷ front) ++ top) other
    below label front top is near (inl (child, in', free)) = (child, in', below_alike rules label front top child near free)
    below label front top is near (inr none) = absurd (none_below rules label front top near is none)

    at : (front top : List (List ℕ)) → IsName (front ++ top) → IsNearest rules (front ++ top) top → (other : List (List ℕ)) × Contains names other × AreAlike rules (front ++ top) other
    at [] top is near = (top, (served top near.at).itself, λ rule in'. refl)
    at (label ∷ front) top is near = below label front top is near (served top near.at).below

    like : (name : List (List ℕ)) → IsName name → (top : List (List ℕ)) × IsNearest rules name top → (other : List (List ℕ)) × Contains names other × AreAlike rules name other
    like name is (top, near) =
        let e = near.within.1 in
        let r = at near.within.0 top (subst IsName e is) (subst (λ (n : List (List ℕ)). IsNearest rules n top) e near) in
        (r.0, r.1, subst (λ (n : List (List ℕ)). AreAlike rules n r.0) (sym e) r.2)

-- ---- names that are added

pub served_added : (rules : List Rule) (top : List (List ℕ)) (old new : List (List (List ℕ))) → AddsServed rules top old new → IsServed rules top new
served_added rules top old new adds = subst (IsServed rules top) (sym adds.added) (by adds.child adds.free)
  where
    by : (child : Option (List (List ℕ))) → IsFreeChild rules top child → IsServed rules top ((old ++ top ∷ []) ++ option_to_list child)
    by None none = record { itself = Contains-append_left (old ++ top ∷ []) [] top (Contains-push old top); below = inr none }
    by (Some child) free = record {
      itself = Contains-append_left (old ++ top ∷ []) (child ∷ []) top (Contains-push old top);
      below = inl (child, Contains-push (old ++ top ∷ []) child, free);
    }

pub served_kept : (rules : List Rule) (top other : List (List ℕ)) (old new : List (List (List ℕ))) → AddsServed rules top old new → IsServed rules other old → IsServed rules other new
served_kept rules top other old new adds served = subst (IsServed rules other) (sym adds.added) (record {
  itself = keep other served.itself;
  below = ⊎_elim
      (λ (found : (child : List (List ℕ)) × Contains old child × IsFreeBelow rules other child). inl (found.0, keep found.0 found.1, found.2))
      (λ (none : (label : List ℕ) → IsName (label ∷ other) → ¬ IsFree rules (label ∷ other)). inr none)
      served.below;
})
  where
    keep : (name : List (List ℕ)) → Contains old name → Contains ((old ++ top ∷ []) ++ option_to_list adds.child) name
    keep name in' = Contains-append_left (old ++ top ∷ []) (option_to_list adds.child) name (Contains-append_left old (top ∷ []) name in')

pub names_added : (rules : List Rule) (top : List (List ℕ)) (old new : List (List (List ℕ))) → IsName top → AddsServed rules top old new → All IsName old → All IsName new
names_added rules top old new is adds are = subst (All IsName) (sym adds.added) (All-append IsName (old ++ top ∷ []) (option_to_list adds.child) (All-push IsName old top are is) (child adds.child adds.free))
  where
    child : (c : Option (List (List ℕ))) → IsFreeChild rules top c → All IsName (option_to_list c)
    child None none = All-nil IsName
    child (Some c) free = All-cons IsName c [] free.name (All-nil IsName)

-- ---- rule by rule

-- the root and the names of the first n rules are served
pub record AreServed (rules : List Rule) (n : ℕ) (names : List (List (List ℕ))) : Type 0 where
  pub valid : All IsName names
  pub root : IsServed rules [] names
  pub served : (k : ℕ) (d : Rule) → k < n → IsServed rules (get_or rules k d).at names

pub served_first : (rules : List Rule) (top : List (List ℕ)) (new : List (List (List ℕ))) → top ≡ [] → IsName top → AddsServed rules top [] new → AreServed rules 0 new
served_first rules top new e is adds = record {
  valid = names_added rules top [] new is adds (All-nil IsName);
  root = subst (λ (t : List (List ℕ)). IsServed rules t new) e (served_added rules top [] new adds);
  served = λ k d lt. absurd (omega arith);
}

served_upto : (rules : List Rule) (n : ℕ) (rule : Rule) (names : List (List (List ℕ))) → n < length rules → rule ≡ get_or rules n rule → ((k : ℕ) (d : Rule) → k < n → IsServed rules (get_or rules k d).at names) → IsServed rules rule.at names → (k : ℕ) (d : Rule) → k < n + 1 → IsServed rules (get_or rules k d).at names
served_upto rules n rule names lt is before here k d le =
    ⊎_elim
    (λ (below : k < n). before k d below)
    (λ (from : n ≤ k).
    let e : n ≡ k = omega (arith, le) in
    subst (λ (m : ℕ). IsServed rules (get_or rules m d).at names) e (subst (λ (r : Rule). IsServed rules r.at names) (get_or_read rules n rule lt is d) here))
    (cases_lt k n)

pub served_more : (rules : List Rule) (n : ℕ) (rule : Rule) (old new : List (List (List ℕ))) → n < length rules → rule ≡ get_or rules n rule → IsName rule.at → AddsServed rules rule.at old new → AreServed rules n old → AreServed rules (n + 1) new
served_more rules n rule old new lt is named adds are = record {
  valid = names_added rules rule.at old new named adds are.valid;
  root = served_kept rules rule.at [] old new adds are.root;
  served = served_upto rules n rule new lt is (λ k d below. served_kept rules rule.at (get_or rules k d).at old new adds (are.served k d below)) (served_added rules rule.at old new adds);
}

pub served_again : (rules : List Rule) (n : ℕ) (rule : Rule) (names : List (List (List ℕ))) → n < length rules → rule ≡ get_or rules n rule → ¬ IsFree (take n rules) rule.at → AreServed rules n names → AreServed rules (n + 1) names
served_again rules n rule names lt is seen are =
    let found = not_free (take n rules) rule.at seen in
    let k = found.1.0 in
    let near : k < n = omega (arith, found.1.1, length-take n rules) in
    let same : get_or rules k found.0 ≡ found.0 = sym (get_or-take n rules k found.0 near) ∙ found.1.2 in
    let here : IsServed rules rule.at names = subst (λ (t : List (List ℕ)). IsServed rules t names) (ap (λ (r : Rule). r.at) same ∙ found.2) (are.served k found.0 near) in
    record { valid = are.valid; root = are.root; served = served_upto rules n rule names lt is are.served here }

pub served_all : (rules : List Rule) (n : ℕ) (names : List (List (List ℕ))) → length rules ≤ n → AreServed rules n names → Represent rules names
served_all rules n names all are =
    represents rules names are.valid are.root (λ rule in'. subst (λ (r : Rule). IsServed rules r.at names) in'.2 (are.served in'.0 rule (omega (arith, in'.1))))
