-- Who may do what at a name, by the claims whose rules cover it.
use Rattle.std.proofs.Common.{◌≡◌, ◌↔◌, ◌⊎◌, inl, inr, ℕ, zero, suc, ◌+◌, ◌<◌, ◌≤◌, Bool, true, false, ◌&&◌, ◌||◌, not, cond, if◌then◌else◌, List, [], ◌∷◌, ◌++◌, length, map, filter, get_or, take, drop, Result, Ok, Err, IfOk, refl, sym, ap, ◌∙◌, subst, ⊎_elim, arith, drop-cons, append-nil}
use Rattle.std.specs.Prelude.{bytes_eq}
use Rattle.std.specs.List.{All, AllPairs, Contains, list_any}
use Rattle.std.proofs.lemmas.Bool.{cases_Bool, false≢true, false_from_ne_true, and_left, and_right, cond-false}
use Rattle.std.proofs.lemmas.List.{map_push, take_more, take_all, length-map, get_or-map, drop_all}
use Rattle.std.proofs.lemmas.List.Elements.{All-nil, All-push, All-weaker, All-contains, All-filter, filter_more, filter_passes, Contains-push, Contains-push_cases, Contains-append_left}
use Rattle.std.proofs.lemmas.List.Folds.{Any-from_list_any, list_any_at}
use Rattle.std.proofs.lemmas.List.Quantifiers.{all_pairs_push}
use Rattle.std.proofs.lemmas.Slice.Eq.{bytes_eq-Decides}
use Rattle.dns_data.specs.declared.record_type.RecordType.{RecordType}
use Rattle.grant_policy.specs.declared.action.Action.{Action}
use Rattle.grant_policy.specs.declared.callers.Callers.{Callers}
use Rattle.grant_policy.specs.declared.callers.Callers.TheVariants.{Every, One}
use Rattle.policy_tools.specs.declared.claims.Claim.{Claim}
use Rattle.grant_policy.specs.declared.effect.Effect.{Effect}
use Rattle.grant_policy.specs.declared.effect.Effect.TheVariants.{Grant, Deny}
use Rattle.policy_tools.specs.declared.name_rights.CallerRights.{CallerRights}
use Rattle.policy_tools.specs.declared.name_rights.NameRights.{NameRights}
use Rattle.grant_policy.specs.declared.rule.Rule.{Rule}
use Rattle.grant_policy.specs.Scopes.{covers}
use Rattle.grant_policy.specs.Rules.{is_of, matches}
use Rattle.grant_policy.specs.Decisions.{Verdict, decision, decided, effect_by, is_granted}
use Rattle.policy_tools.specs.Points.{has_point, names_point, Differ}
use Rattle.policy_tools.specs.Taking.{includes}
use Rattle.policy_tools.specs.Claims.{HasPairs, IsClaim, rules_of}
use Rattle.grant_policy.specs.Isolated.{question, IsGranted}
use Rattle.policy_tools.specs.NameRights.{rules_at, IsNamedIn, IsNamedBefore, listed_in, listed_of, AreRightsAt, claims_at, does_grant, grants_to, HasGrants, IsListed, NeedsNoRow, AddsRow, AreRows, AreListed}
use Rattle.policy_tools.proofs.CallerLemmas.{names, not_named}
use Rattle.grant_policy.proofs.DecisionLaws.{granted_by}
use Rattle.policy_tools.proofs.ClaimLemmas.{in_map, from_map}

-- ---- the claims that cover a name

abbrev does_cover : List (List ℕ) → Claim → Bool
does_cover name c = covers c.rule.now.scope c.rule.now.at name

module _ (claims : List Claim) (name : List (List ℕ)) (n : ℕ) (so_far : List Claim) (claim : Claim) (lt : n < length claims) (is : claim ≡ get_or claims n claim) where
  one_claim : (b : Bool) → does_cover name claim ≡ b → so_far ≡ claims_at (take n claims) name → so_far ++ cond b (claim ∷ []) [] ≡ claims_at (take (n + 1) claims) name
  one_claim b tells e =
      let here : does_cover name (get_or claims n claim) ≡ b = ap (does_cover name) (sym is) ∙ tells in
      ap (λ (l : List Claim). l ++ cond b (claim ∷ []) []) e
      ∙ ap (λ (c : Claim). claims_at (take n claims) name ++ cond b (c ∷ []) []) is
      ∙ sym (ap (λ (x : Bool). claims_at (take n claims) name ++ cond x (get_or claims n claim ∷ []) []) here)
      ∙ sym (filter_more (does_cover name) claims n claim lt)

  pub claims_yes : does_cover name claim ≡ true → so_far ≡ claims_at (take n claims) name → so_far ++ claim ∷ [] ≡ claims_at (take (n + 1) claims) name
  claims_yes yes' e = one_claim true yes' e

  pub claims_no : does_cover name claim ≡ false → so_far ≡ claims_at (take n claims) name → so_far ≡ claims_at (take (n + 1) claims) name
  claims_no no' e = sym (append-nil so_far) ∙ one_claim false no' e

pub claims_all : (claims : List Claim) (name : List (List ℕ)) (n : ℕ) (so_far : List Claim) → length claims ≤ n → so_far ≡ claims_at (take n claims) name → so_far ≡ claims_at claims name
claims_all claims name n so_far past e = e ∙ ap (λ (l : List Claim). claims_at l name) (take_all n claims past)

-- ---- what claims grant, one after the other

walk_yes : (p d e g r : Bool) → (g || (not d && cond p e r)) ≡ ((g || ((e && p) && not d)) || (not (d || p) && r))
walk_yes p d e true r = refl
walk_yes p true true false r = sym (ap (λ (b : Bool). b || false) (and_right p false refl))
walk_yes p true false false r = refl
walk_yes true false true false r = refl
walk_yes true false false false r = refl
walk_yes false false true false r = refl
walk_yes false false false false r = refl

-- the pairs that were granted, and those that the other claims grant and that were not decided
abbrev pub AreWalked : List Claim → Callers → ℕ → ℕ → ℕ → Type 0
AreWalked claims callers n granted decided =
    (t : RecordType) (a : Action) → grants_to claims callers t a ≡ (has_point granted t a || (not (has_point decided t a) && grants_to (drop n claims) callers t a))

pub drop_at : {X : Type 0} (xs : List X) (n : ℕ) (x : X) → n < length xs → x ≡ get_or xs n x → drop n xs ≡ x ∷ drop (n + 1) xs
drop_at {X} xs n x lt is =
    let e : suc n ≡ n + 1 = omega arith in
    drop-cons xs n x lt ∙ ap (λ (y : X). y ∷ drop (suc n) xs) (sym is) ∙ ap (λ (k : ℕ). x ∷ drop k xs) e

rest_is : (claims : List Claim) (callers : Callers) (n : ℕ) (c : Claim) (t : RecordType) (a : Action) → n < length claims → c ≡ get_or claims n c
    → grants_to (drop n claims) callers t a ≡ cond (includes c.rule.now.callers callers && has_point c.points.bits t a) (does_grant c.rule.now.effect) (grants_to (drop (n + 1) claims) callers t a)
rest_is claims callers n c t a lt is = ap (λ (l : List Claim). grants_to l callers t a) (drop_at claims n c lt is)

pub walked_first : (claims : List Claim) (callers : Callers) (granted decided : ℕ) → ((t : RecordType) (a : Action) → has_point granted t a ≡ false) → ((t : RecordType) (a : Action) → has_point decided t a ≡ false) → AreWalked claims callers 0 granted decided
walked_first claims callers granted decided none none' t a =
    let rest = grants_to claims callers t a in
    sym (ap (λ (b : Bool). b || (not (has_point decided t a) && rest)) (none t a) ∙ ap (λ (b : Bool). not b && rest) (none' t a))

pub walked_no : (claims : List Claim) (callers : Callers) (n granted decided : ℕ) (c : Claim) → n < length claims → c ≡ get_or claims n c → includes c.rule.now.callers callers ≡ false → AreWalked claims callers n granted decided → AreWalked claims callers (n + 1) granted decided
walked_no claims callers n granted decided c lt is none walked t a =
    let next = grants_to (drop (n + 1) claims) callers t a in
    walked t a
    ∙ ap (λ (b : Bool). has_point granted t a || (not (has_point decided t a) && b))
    (rest_is claims callers n c t a lt is ∙ ap (λ (b : Bool). cond (b && has_point c.points.bits t a) (does_grant c.rule.now.effect) next) none)

pub walked_yes : (claims : List Claim) (callers : Callers) (n granted decided : ℕ) (c : Claim) (own left granted' decided' : ℕ) → n < length claims → c ≡ get_or claims n c → includes c.rule.now.callers callers ≡ true
    → ((t : RecordType) (a : Action) → has_point own t a ≡ (does_grant c.rule.now.effect && has_point c.points.bits t a))
    → ((t : RecordType) (a : Action) → has_point left t a ≡ (has_point own t a && not (has_point decided t a)))
    → ((t : RecordType) (a : Action) → has_point granted' t a ≡ (has_point granted t a || has_point left t a))
    → ((t : RecordType) (a : Action) → has_point decided' t a ≡ (has_point decided t a || has_point c.points.bits t a))
    → AreWalked claims callers n granted decided → AreWalked claims callers (n + 1) granted' decided'
walked_yes claims callers n granted decided c own left granted' decided' lt is yes' owns leaves more more' walked t a =
    let next = grants_to (drop (n + 1) claims) callers t a in
    let g = has_point granted t a in
    let d = has_point decided t a in
    let p = has_point c.points.bits t a in
    let e = does_grant c.rule.now.effect in
    let gained : has_point granted' t a ≡ (g || ((e && p) && not d)) = more t a ∙ ap (λ (b : Bool). g || b) (leaves t a ∙ ap (λ (b : Bool). b && not d) (owns t a)) in
    walked t a
    ∙ ap (λ (b : Bool). g || (not d && b)) (rest_is claims callers n c t a lt is ∙ ap (λ (b : Bool). cond (b && p) e next) yes')
    ∙ walk_yes p d e g next
    ∙ ap (λ (b : Bool). b || (not (d || p) && next)) (sym gained)
    ∙ ap (λ (b : Bool). has_point granted' t a || (not b && next)) (sym (more' t a))

or_none : (b : Bool) → (b || false) ≡ b
or_none true = refl
or_none false = refl

pub walked_all : (claims : List Claim) (callers : Callers) (n granted decided : ℕ) → length claims ≤ n → AreWalked claims callers n granted decided → HasGrants claims callers granted
walked_all claims callers n granted decided all walked t a =
    let g = has_point granted t a in
    let d = has_point decided t a in
    sym
    (walked t a
    ∙ ap (λ (l : List Claim). g || (not d && grants_to l callers t a)) (drop_all n claims all)
    ∙ ap (λ (b : Bool). g || b) (and_right (not d) false refl)
    ∙ or_none g)

-- ---- decisions

later_in : {X : Type 0} (x y : X) (xs : List X) → Contains xs x → Contains (y ∷ xs) x
later_in x y xs (k, lt, is) = (suc k, omega (arith, lt), is)

does : (effect : Effect) (id : List ℕ) → is_granted (effect_by effect id) ≡ does_grant effect
does Grant id = refl
does Deny id = refl

-- rules that do not cover a name decide nothing there
covering_decide : (rules : List Rule) (caller : List ℕ) (name : List (List ℕ)) (t : RecordType) (a : Action) → decision (question caller name t a) rules ≡ decision (question caller name t a) (rules_at rules name)
covering_decide [] caller name t a = refl
covering_decide (rule ∷ rules) caller name t a = step (covers rule.scope rule.at name) refl (covering_decide rules caller name t a)
  where
    step : (b : Bool) → covers rule.scope rule.at name ≡ b → decision (question caller name t a) rules ≡ decision (question caller name t a) (rules_at rules name)
        → decision (question caller name t a) (rule ∷ rules) ≡ decision (question caller name t a) (cond b (rule ∷ rules_at rules name) (rules_at rules name))
    step true e same = ap (λ (v : Verdict). if matches (question caller name t a) rule then decided rule else v) same
    step false e same =
        cond-false (matches (question caller name t a) rule) (decided rule) (decision (question caller name t a) rules)
        (and_right (is_of rule.callers caller) (covers rule.scope rule.at name && names_point rule t a) (and_left (covers rule.scope rule.at name) (names_point rule t a) e))
        ∙ same

-- a claim that covers the name, and speaks of the caller where it speaks of these callers
record Agrees (caller : List ℕ) (name : List (List ℕ)) (callers : Callers) (c : Claim) : Type 0 where
  pairs : HasPairs c
  covered : covers c.rule.now.scope c.rule.now.at name ≡ true
  same : is_of c.rule.now.callers caller ≡ includes c.rule.now.callers callers

claims_decide : (claims : List Claim) (caller : List ℕ) (name : List (List ℕ)) (callers : Callers) (t : RecordType) (a : Action) → ((c : Claim) → Contains claims c → Agrees caller name callers c) → is_granted (decision (question caller name t a) (rules_of claims)) ≡ grants_to claims callers t a
claims_decide [] caller name callers t a all = refl
claims_decide (c ∷ cs) caller name callers t a all =
    ap (λ (b : Bool). is_granted (cond b (decided rule) later)) same
    ∙ both (includes rule.callers callers && has_point c.points.bits t a) (claims_decide cs caller name callers t a (λ x in'. all x (later_in x c cs in')))
  where
    rule : Rule
    rule = c.rule.now

    later : Verdict
    later = decision (question caller name t a) (rules_of cs)

    same : matches (question caller name t a) rule ≡ (includes rule.callers callers && has_point c.points.bits t a)
    same =
        let one = all c (0, omega arith, refl) in
        ap (λ (b : Bool). b && (covers rule.scope rule.at name && names_point rule t a)) one.same
        ∙ ap (λ (b : Bool). includes rule.callers callers && (b && names_point rule t a)) one.covered
        ∙ ap (λ (b : Bool). includes rule.callers callers && b) (sym (one.pairs t a))

    both : (b : Bool) → is_granted later ≡ grants_to cs callers t a → is_granted (cond b (decided rule) later) ≡ cond b (does_grant rule.effect) (grants_to cs callers t a)
    both true e = does rule.effect rule.id
    both false e = e

rules_there : (claims : List Claim) (name : List (List ℕ)) → rules_of (claims_at claims name) ≡ rules_at (rules_of claims) name
rules_there [] name = refl
rules_there (c ∷ cs) name = step (covers c.rule.now.scope c.rule.now.at name) (rules_there cs name)
  where
    step : (b : Bool) → rules_of (claims_at cs name) ≡ rules_at (rules_of cs) name → rules_of (cond b (c ∷ claims_at cs name) (claims_at cs name)) ≡ cond b (c.rule.now ∷ rules_at (rules_of cs) name) (rules_at (rules_of cs) name)
    step true e = ap (λ (l : List Rule). c.rule.now ∷ l) e
    step false e = e

-- ---- callers of rows

one_named : (callers : Callers) (caller : List ℕ) → names caller callers ≡ true → callers ≡ One caller
one_named Every caller e = absurd (false≢true e)
one_named (One identifier) caller e = ap One ((bytes_eq-Decides identifier caller).0 e)

module _ (rules : List Rule) (n : ℕ) (rule : Rule) (lt : n < length rules) (is : rule ≡ get_or rules n rule) where
  one_more : map (λ (r : Rule). r.callers) (take (n + 1) rules) ≡ map (λ (r : Rule). r.callers) (take n rules) ++ rule.callers ∷ []
  one_more =
      ap (map (λ (r : Rule). r.callers)) (take_more rules n rule lt ∙ ap (λ (r : Rule). take n rules ++ r ∷ []) (sym is))
      ∙ map_push (λ (r : Rule). r.callers) (take n rules) rule

  named_cases : (caller : List ℕ) → IsNamedIn (take (n + 1) rules) caller → IsNamedIn (take n rules) caller ⊎ (rule.callers ≡ One caller)
  named_cases caller in' = Contains-push_cases (map (λ (r : Rule). r.callers) (take n rules)) rule.callers (One caller) (subst (λ (l : List Callers). Contains l (One caller)) one_more in')

  named_more : (caller : List ℕ) → IsNamedIn (take n rules) caller → IsNamedIn (take (n + 1) rules) caller
  named_more caller in' = subst (λ (l : List Callers). Contains l (One caller)) (sym one_more) (Contains-append_left (map (λ (r : Rule). r.callers) (take n rules)) (rule.callers ∷ []) (One caller) in')

  named_here : (caller : List ℕ) → rule.callers ≡ One caller → IsNamedIn (take (n + 1) rules) caller
  named_here caller e =
      subst (λ (l : List Callers). Contains l (One caller)) (sym one_more)
      (subst (λ (c : Callers). Contains (map (λ (r : Rule). r.callers) (take n rules) ++ rule.callers ∷ []) c) e (Contains-push (map (λ (r : Rule). r.callers) (take n rules)) rule.callers))

-- ---- rows, one claim after the other

same_one : (a b : List ℕ) → One a ≡ One b → a ≡ b
same_one a b e = cc

listed_more : (rows : List CallerRights) (row : CallerRights) (caller : List ℕ) → IsListed rows caller → IsListed (rows ++ row ∷ []) caller
listed_more rows row caller in' =
    let f : CallerRights → List ℕ = λ (r : CallerRights). r.caller in
    subst (λ (l : List (List ℕ)). Contains l caller) (sym (map_push f rows row)) (Contains-append_left (map f rows) (row.caller ∷ []) caller in')

listed_here : (rows : List CallerRights) (row : CallerRights) → IsListed (rows ++ row ∷ []) row.caller
listed_here rows row =
    let f : CallerRights → List ℕ = λ (r : CallerRights). r.caller in
    subst (λ (l : List (List ℕ)). Contains l row.caller) (sym (map_push f rows row)) (Contains-push (map f rows) row.caller)

pub rows_first : (claims : List Claim) (others : ℕ) → AreRows claims others 0 []
rows_first claims others = record {
  rights = All-nil (λ (row : CallerRights). HasGrants claims (One row.caller) row.rights);
  apart = All-nil (λ (row : CallerRights). Differ row.rights others);
  named = All-nil (λ (row : CallerRights). IsNamedIn [] row.caller);
  seen = λ caller in'. absurd (omega (arith, in'.1));
  ordered = λ i j d less lt. absurd (omega arith);
}

pub rows_more : (claims : List Claim) (others n : ℕ) (rule : Rule) (old new : List CallerRights) → n < length (rules_of claims) → rule ≡ get_or (rules_of claims) n rule → AddsRow claims others rule.callers old new → AreRows claims others n old → AreRows claims others (n + 1) new
rows_more claims others n rule old new lt is (inl (same, none)) rows = subst (AreRows claims others (n + 1)) (sym same) (record {
  rights = rows.rights;
  apart = rows.apart;
  named = All-weaker (λ (row : CallerRights). IsNamedIn (take n (rules_of claims)) row.caller) (λ (row : CallerRights). IsNamedIn (take (n + 1) (rules_of claims)) row.caller) (λ row. named_more (rules_of claims) n rule lt is row.caller) old rows.named;
  seen = λ caller in'.
      ⊎_elim
      (λ (before : IsNamedIn (take n (rules_of claims)) caller). rows.seen caller before)
      (λ (here : rule.callers ≡ One caller). subst (NeedsNoRow claims others old) here none)
      (named_cases (rules_of claims) n rule lt is caller in');
  ordered = rows.ordered;
})
rows_more claims others n rule old new lt is (inr (row, added, new')) rows = subst (AreRows claims others (n + 1)) (sym added) (record {
  rights = All-push (λ (x : CallerRights). HasGrants claims (One x.caller) x.rights) old row rows.rights new'.rights;
  apart = All-push (λ (x : CallerRights). Differ x.rights others) old row rows.apart new'.apart;
  named = All-push (λ (x : CallerRights). IsNamedIn (take (n + 1) (rules_of claims)) x.caller) old row
      (All-weaker (λ (x : CallerRights). IsNamedIn (take n (rules_of claims)) x.caller) (λ (x : CallerRights). IsNamedIn (take (n + 1) (rules_of claims)) x.caller) (λ x. named_more (rules_of claims) n rule lt is x.caller) old rows.named)
      (named_here (rules_of claims) n rule lt is row.caller new'.caller);
  seen = λ caller in'.
      ⊎_elim
      (λ (before : IsNamedIn (take n (rules_of claims)) caller).
      ⊎_elim
      (λ (listed : IsListed old caller). inl (listed_more old row caller listed))
      (λ (same : HasGrants claims (One caller) others). inr same)
      (rows.seen caller before))
      (λ (here : rule.callers ≡ One caller).
      inl (subst (IsListed (old ++ row ∷ [])) (same_one row.caller caller (sym new'.caller ∙ here)) (listed_here old row)))
      (named_cases (rules_of claims) n rule lt is caller in');
  ordered = all_pairs_push (λ (x y : CallerRights). IsNamedBefore (rules_of claims) x.caller y.caller) old row rows.ordered
      (λ k d within. record { upto = n; named = rows.named k d within; unnamed = unnamed });
})
  where
    unnamed : ¬ IsNamedIn (take n (rules_of claims)) row.caller
    unnamed before =
        ⊎_elim
        (λ (listed : IsListed old row.caller). new'.fresh listed)
        (λ (same : HasGrants claims (One row.caller) others).
        let t = new'.apart.record_type in
        let a = new'.apart.action in
        new'.apart.differ (new'.rights t a ∙ sym (same t a)))
        (rows.seen row.caller before)

-- ---- what is listed

-- rows are looked at one by one
pub looked_on : (rows : List CallerRights) (others : ℕ) (caller : List ℕ) (n : ℕ) (row : CallerRights) → n < length rows → row ≡ get_or rows n row → bytes_eq row.caller caller ≡ false
    → listed_of rows others caller ≡ listed_of (drop n rows) others caller → listed_of rows others caller ≡ listed_of (drop (n + 1) rows) others caller
looked_on rows others caller n row lt is no' e =
    e ∙ ap (λ (l : List CallerRights). listed_of l others caller) (drop_at rows n row lt is)
    ∙ ap (λ (b : Bool). cond b row.rights (listed_of (drop (n + 1) rows) others caller)) no'

pub looked_at : (rows : List CallerRights) (others : ℕ) (caller : List ℕ) (n : ℕ) (row : CallerRights) → n < length rows → row ≡ get_or rows n row → bytes_eq row.caller caller ≡ true
    → listed_of rows others caller ≡ listed_of (drop n rows) others caller → row.rights ≡ listed_of rows others caller
looked_at rows others caller n row lt is yes' e =
    sym (e ∙ ap (λ (l : List CallerRights). listed_of l others caller) (drop_at rows n row lt is)
    ∙ ap (λ (b : Bool). cond b row.rights (listed_of (drop (n + 1) rows) others caller)) yes')

pub looked_past : (rows : List CallerRights) (others : ℕ) (caller : List ℕ) (n : ℕ) → length rows ≤ n
    → listed_of rows others caller ≡ listed_of (drop n rows) others caller → others ≡ listed_of rows others caller
looked_past rows others caller n all e = sym (e ∙ ap (λ (l : List CallerRights). listed_of l others caller) (drop_all n rows all))

-- a caller is looked up among rows: one of them is its own, or it has none
pub looked_up_in : {R V : Type 0} (caller_of : R → List ℕ) (value_of : R → V) (rows : List R) (others : V) (caller : List ℕ)
    → ((row : R) × Contains rows row × (caller_of row ≡ caller) × (listed_in caller_of value_of rows others caller ≡ value_of row)) ⊎ ((¬ Contains (map caller_of rows) caller) × (listed_in caller_of value_of rows others caller ≡ others))
looked_up_in caller_of value_of [] others caller = inr (λ in'. absurd (omega (arith, in'.1)), refl)
looked_up_in {R} {V} caller_of value_of (row ∷ rows) others caller = step (bytes_eq (caller_of row) caller) refl (looked_up_in caller_of value_of rows others caller)
  where
    later : (bytes_eq (caller_of row) caller ≡ false) → ¬ Contains (map caller_of rows) caller → ¬ Contains (map caller_of (row ∷ rows)) caller
    later no' none (zero, lt, is) = absurd (false≢true (sym no' ∙ (bytes_eq-Decides (caller_of row) caller).1 is))
    later no' none (suc k, lt, is) = none (k, omega (arith, lt), is)

    step : (b : Bool) → bytes_eq (caller_of row) caller ≡ b
        → ((r : R) × Contains rows r × (caller_of r ≡ caller) × (listed_in caller_of value_of rows others caller ≡ value_of r)) ⊎ ((¬ Contains (map caller_of rows) caller) × (listed_in caller_of value_of rows others caller ≡ others))
        → ((r : R) × Contains (row ∷ rows) r × (caller_of r ≡ caller) × (cond b (value_of row) (listed_in caller_of value_of rows others caller) ≡ value_of r))
        ⊎ ((¬ Contains (map caller_of (row ∷ rows)) caller) × (cond b (value_of row) (listed_in caller_of value_of rows others caller) ≡ others))
    step true e rest = inl (row, (0, omega arith, refl), (bytes_eq-Decides (caller_of row) caller).0 e, refl)
    step false e (inl (r, in', of, is)) = inl (r, later_in r row rows in', of, is)
    step false e (inr (none, is)) = inr (later e none, is)

pub looked_up : (rows : List CallerRights) (others : ℕ) (caller : List ℕ) → ((row : CallerRights) × Contains rows row × (row.caller ≡ caller) × (listed_of rows others caller ≡ row.rights)) ⊎ ((¬ IsListed rows caller) × (listed_of rows others caller ≡ others))
looked_up rows others caller = looked_up_in (λ (row : CallerRights). row.caller) (λ (row : CallerRights). row.rights) rows others caller

module _ (claims : List Claim) (name : List (List ℕ)) (all : (c : Claim) → Contains claims c → HasPairs c × (covers c.rule.now.scope c.rule.now.at name ≡ true)) (rights : NameRights) (are : AreListed claims rights) where
  decided_of : List ℕ → RecordType → Action → Bool
  decided_of caller t a = is_granted (decision (question caller name t a) (rules_of claims))

  -- a caller that some claim names
  named_is : (caller : List ℕ) (c : Claim) → Contains claims c → c.rule.now.callers ≡ One caller → IsNamedIn (take (length claims) (rules_of claims)) caller
  named_is caller c in' e =
      subst (λ (l : List Rule). IsNamedIn l caller) (sym (take_all (length claims) (rules_of claims) (omega (arith, length-map claims (λ (x : Claim). x.rule.now)))))
      (subst (Contains (map (λ (r : Rule). r.callers) (rules_of claims))) e (in_map (λ (r : Rule). r.callers) (rules_of claims) c.rule.now (in_map (λ (x : Claim). x.rule.now) claims c in')))

  by_others : (caller : List ℕ) (t : RecordType) (a : Action) → ¬ IsListed rights.named.items caller → has_point rights.others t a ≡ is_granted (decision (question caller name t a) (rules_of claims))
  by_others caller t a none =
      ⊎_elim
      (λ (yes' : list_any (λ (c : Claim). names caller c.rule.now.callers) claims ≡ true).
      let found = Any-from_list_any (λ (c : Claim). names caller c.rule.now.callers) claims yes' in
      let c = found.1 in
      ⊎_elim
      (λ (listed : IsListed rights.named.items caller). absurd (none listed))
      (λ (same : HasGrants claims (One caller) rights.others).
      same t a ∙ sym (claims_decide claims caller name (One caller) t a (λ x in'. record { pairs = (all x in').0; covered = (all x in').1; same = refl })))
      (are.rows.seen caller (named_is caller c (found.0, found.2, found.3) (one_named c.rule.now.callers caller found.4))))
      (λ (no' : list_any (λ (c : Claim). names caller c.rule.now.callers) claims ≡ false).
      are.others t a
      ∙ sym (claims_decide claims caller name Every t a (λ x in'. record { pairs = (all x in').0; covered = (all x in').1; same = not_named x.rule.now.callers caller (unnamed x in' no') })))
      (cases_Bool (list_any (λ (c : Claim). names caller c.rule.now.callers) claims))
    where
      unnamed : (x : Claim) → Contains claims x → list_any (λ (c : Claim). names caller c.rule.now.callers) claims ≡ false → names caller x.rule.now.callers ≡ false
      unnamed x (k, lt, is) no' =
          false_from_ne_true (names caller x.rule.now.callers)
          (λ yes'. false≢true (sym no' ∙ list_any_at (λ (c : Claim). names caller c.rule.now.callers) claims k x lt (subst (λ (c : Claim). names caller c.rule.now.callers ≡ true) (sym is) yes')))

  listed_is : (caller : List ℕ) (t : RecordType) (a : Action) → has_point (listed_of rights.named.items rights.others caller) t a ≡ is_granted (decision (question caller name t a) (rules_of claims))
  listed_is caller t a =
      ⊎_elim
      (λ (found : (row : CallerRights) × Contains rights.named.items row × (row.caller ≡ caller) × (listed_of rights.named.items rights.others caller ≡ row.rights)).
      let row = found.0 in
      ap (λ (n : ℕ). has_point n t a) found.3
      ∙ All-contains (λ (r : CallerRights). HasGrants claims (One r.caller) r.rights) rights.named.items row are.rows.rights found.1 t a
      ∙ ap (λ (who : List ℕ). grants_to claims (One who) t a) found.2
      ∙ sym (claims_decide claims caller name (One caller) t a (λ x in'. record { pairs = (all x in').0; covered = (all x in').1; same = refl })))
      (λ (none : (¬ IsListed rights.named.items caller) × (listed_of rights.named.items rights.others caller ≡ rights.others)).
      ap (λ (n : ℕ). has_point n t a) none.1 ∙ by_others caller t a none.0)
      (looked_up rights.named.items rights.others caller)

-- ---- at a name

granted_iff : (rules : List Rule) (caller : List ℕ) (name : List (List ℕ)) (t : RecordType) (a : Action) (b : Bool) → b ≡ is_granted (decision (question caller name t a) rules) → (b ≡ true) ↔ IsGranted rules caller name t a
granted_iff rules caller name t a b e = (λ yes'. granted_by (decision (question caller name t a) rules) (sym e ∙ yes'), λ g. e ∙ ap is_granted g.1)

pub rights_are : (claims covering : List Claim) (name : List (List ℕ)) (rights : NameRights) → All IsClaim claims → covering ≡ claims_at claims name → AreListed covering rights → AreRightsAt (rules_of claims) name rights
rights_are claims covering name rights all is are = record {
  granted = λ caller t a. granted_iff (rules_of claims) caller name t a (has_point (listed_of rights.named.items rights.others caller) t a)
      (listed_is covering name there rights are caller t a
      ∙ ap (λ (l : List Rule). is_granted (decision (question caller name t a) l)) same
      ∙ sym (ap is_granted (covering_decide (rules_of claims) caller name t a)));
  apart = are.rows.apart;
  named = All-weaker (λ (row : CallerRights). IsNamedIn (take (length covering) (rules_of covering)) row.caller) (λ (row : CallerRights). IsNamedIn (rules_at (rules_of claims) name) row.caller)
      (λ row. subst (λ (l : List Rule). IsNamedIn l row.caller) (take_all (length covering) (rules_of covering) (omega (arith, length-map covering (λ (x : Claim). x.rule.now))) ∙ same))
      rights.named.items are.rows.named;
  ordered = subst (λ (l : List Rule). AllPairs (λ (x y : CallerRights). IsNamedBefore l x.caller y.caller) rights.named.items) same are.rows.ordered;
}
  where
    same : rules_of covering ≡ rules_at (rules_of claims) name
    same = ap rules_of is ∙ rules_there claims name

    there : (c : Claim) → Contains covering c → HasPairs c × (covers c.rule.now.scope c.rule.now.at name ≡ true)
    there c in' =
        let p : Claim → Bool = λ (x : Claim). covers x.rule.now.scope x.rule.now.at name in
        let in2 : Contains (filter p claims) c = subst (λ (l : List Claim). Contains l c) is in' in (
          (All-contains IsClaim (filter p claims) c (All-filter p IsClaim claims all) in2).0,
          All-contains (λ (x : Claim). p x ≡ true) (filter p claims) c (filter_passes p claims) in2,
        )

pub rights_ok : {E : Type 0} (claims covering covering' : List Claim) (name : List (List ℕ)) (r : Result NameRights E) → All IsClaim claims → covering ≡ claims_at claims name → covering' ≡ covering → IfOk r (λ rights. AreListed covering' rights) → IfOk r (λ rights. AreRightsAt (rules_of claims) name rights)
rights_ok claims covering covering' name (Ok rights) all is same are = rights_are claims covering' name rights all (same ∙ is) are
rights_ok claims covering covering' name (Err e) all is same are = tt

-- ---- steps

pub listed_from : (rows : List CallerRights) (caller : List ℕ) → list_any (λ row. bytes_eq row.caller caller) rows ≡ true → IsListed rows caller
listed_from rows caller yes' =
    let found = Any-from_list_any (λ (row : CallerRights). bytes_eq row.caller caller) rows yes' in
    subst (IsListed rows) ((bytes_eq-Decides found.1.caller caller).0 found.4) (in_map (λ (row : CallerRights). row.caller) rows found.1 (found.0, found.2, found.3))

pub not_listed : (rows : List CallerRights) (caller : List ℕ) → list_any (λ row. bytes_eq row.caller caller) rows ≡ false → ¬ IsListed rows caller
not_listed rows caller no' in' =
    let found = from_map (λ (row : CallerRights). row.caller) rows caller in' in
    let c = found.1 in
    false≢true
    (sym no' ∙ list_any_at (λ (row : CallerRights). bytes_eq row.caller caller) rows c.0 found.0 c.1
    (subst (λ (row : CallerRights). bytes_eq row.caller caller ≡ true) (sym c.2) ((bytes_eq-Decides found.0.caller caller).1 found.2)))

pub kept_listed : (claims : List Claim) (others : ℕ) (rows : List CallerRights) (callers : Callers) (caller : List ℕ) → callers ≡ One caller → IsListed rows caller → AddsRow claims others callers rows rows
kept_listed claims others rows callers caller is listed = inl (refl, subst (NeedsNoRow claims others rows) (sym is) (inl listed))

pub kept_same : (claims : List Claim) (others own : ℕ) (rows : List CallerRights) (callers : Callers) (caller : List ℕ) → callers ≡ One caller → HasGrants claims callers own → ((t : RecordType) (a : Action) → has_point own t a ≡ has_point others t a) → AddsRow claims others callers rows rows
kept_same claims others own rows callers caller is grants same =
    inl (refl, subst (NeedsNoRow claims others rows) (sym is) (inr (λ t a. sym (same t a) ∙ grants t a ∙ ap (λ (c : Callers). grants_to claims c t a) is)))

pub row_added : (claims : List Claim) (others own : ℕ) (old new : List CallerRights) (row : CallerRights) (callers : Callers) (caller : List ℕ) → callers ≡ One caller → row.caller ≡ caller → row.rights ≡ own → new ≡ old ++ row ∷ [] → HasGrants claims callers own → Differ own others → ¬ IsListed old caller → AddsRow claims others callers old new
row_added claims others own old new row callers caller is of has added grants apart fresh =
    inr (
      row,
      added,
      record {
        caller = is ∙ ap One (sym of);
        rights = λ t a. ap (λ (n : ℕ). has_point n t a) has ∙ grants t a ∙ ap (λ (c : Callers). grants_to claims c t a) (is ∙ ap One (sym of));
        apart = subst (λ (n : ℕ). Differ n others) (sym has) apart;
        fresh = λ listed. fresh (subst (IsListed old) of listed);
      },
    )

pub rule_here : (claims : List Claim) (n : ℕ) (c : Claim) → n < length claims → c ≡ get_or claims n c → (n < length (rules_of claims)) × (c.rule.now ≡ get_or (rules_of claims) n c.rule.now)
rule_here claims n c lt is =
    let f : Claim → Rule = λ (x : Claim). x.rule.now in
    (omega (arith, lt, length-map claims f), ap f is ∙ sym (get_or-map f claims n c c.rule.now lt))
