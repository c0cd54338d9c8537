-- Which rules make a policy, and which documents are one.
use Rattle.std.proofs.Common.{◌≡◌, ◌≢◌, ◌↔◌, ℕ, ◌+◌, ◌<◌, ◌≤◌, Bool, true, false, ◌||◌, cond, List, [], ◌∷◌, ◌++◌, length, map, Option, Some, None, Result, Ok, Err, refl, sym, ap, ◌∙◌, subst, ⊎_elim, codes, ltb}
use Rattle.std.specs.Prelude.{bytes_eq}
use Rattle.std.specs.List.{AllByRecursion, IsDistinct}
use Rattle.std.specs.Result.{IfOk}
use Rattle.std.proofs.lemmas.Bool.{cases_Bool, cases_lt, lt-ltb, le-ltb, false≢true}
use Rattle.std.proofs.lemmas.Bool.Decides.{not_from_Decides}
use Rattle.std.proofs.lemmas.Slice.Eq.{bytes_eq-Decides}
use Rattle.grant_policy.specs.declared.policy_fault.PolicyFault.{PolicyFault}
use Rattle.grant_policy.specs.declared.policy_fault.PolicyFault.TheVariants.{BadValue, IdRepeated, IdReserved, TooManyRules}
use Rattle.grant_policy.specs.declared.rule.Rule.{Rule}
use Rattle.grant_policy.specs.Documents.{AreRules, SpellsItems, SpellsSelection}
use Rattle.grant_policy.specs.Faults.{Reads, ◌>>=◌}
use Rattle.grant_policy.specs.Reading.{is_among, free_id, free_rules, few, built, text_in, word_in, words_of, selection_in}
use Rattle.grant_policy.proofs.IdLemmas.{among_push}
use Rattle.std.specs.Option.{ok_or}
use Rattle.toml.specs.Data.{Data, string, integer, float, boolean, datetime, array, table, Items, no_items, item, as_str}
use Rattle.grant_policy.specs.declared.policy_fault.PolicyPlace.{PolicyPlace}

-- what is true of each value that a definition reads is true of what a call answers
pub found_of : {X : Type 0} (P : X → Type 0) (r read : Result X PolicyFault) → Reads (λ x. x) r read → ((x : X) → read ≡ Ok x → P x) → IfOk r P
found_of P (Ok x) read h on = on x h
found_of P (Err e) read h on = tt

abbrev pub ok : {X : Type 0} → X → Result X PolicyFault
ok x = Ok x

pub same_Ok : {X : Type 0} (a b : X) → ok a ≡ Ok b → a ≡ b
same_Ok a b e = cc

pub not_Err : {X : Type 0} (e : PolicyFault) (b : X) → Err e ≡ Ok b → ⊥
not_Err e b h = cc

-- a reading that goes on after another
pub bind_ok : {A B : Type 0} (r : Result A PolicyFault) (f : A → Result B PolicyFault) (b : B) → (r >>= f) ≡ Ok b → (a : A) × (r ≡ Ok a) × (f a ≡ Ok b)
bind_ok (Ok a) f b e = (a, refl, e)
bind_ok (Err e) f b h = absurd (not_Err e b h)

-- ---- ids

pub cond_ok : {X : Type 0} (test : Bool) (fault : PolicyFault) (r : Result X PolicyFault) (x : X) → cond test (Err fault) r ≡ Ok x → (test ≡ false) × (r ≡ Ok x)
cond_ok true fault r x e = absurd (not_Err fault x e)
cond_ok false fault r x e = (refl, e)

free_id_ok : (number : ℕ) (ids : List (List ℕ)) (id got : List ℕ) → free_id number ids id ≡ Ok got → (bytes_eq id (codes "closing") ≡ false) × (is_among id ids ≡ false) × (id ≡ got)
free_id_ok number ids id got e =
    let one = cond_ok (bytes_eq id (codes "closing")) (IdReserved number) (cond (is_among id ids) (Err (IdRepeated number)) (Ok id)) got e in
    let two = cond_ok (is_among id ids) (IdRepeated number) (Ok id) got one.1 in
    (one.0, two.0, same_Ok id got two.1)

pub free_id_same : (number : ℕ) (ids : List (List ℕ)) (id got : List ℕ) → free_id number ids id ≡ Ok got → id ≡ got
free_id_same number ids id got e = (free_id_ok number ids id got e).2

abbrev pub Fresh : List (List ℕ) → List Rule → Type 0
Fresh ids rules = AllByRecursion (λ rule. is_among rule.id ids ≡ false) rules

or_left : (a b : Bool) → (a || b) ≡ false → a ≡ false
or_left true b e = absurd (false≢true (sym e))
or_left false b e = refl

or_right : (a b : Bool) → (a || b) ≡ false → b ≡ false
or_right true b e = absurd (false≢true (sym e))
or_right false b e = e

turned : (a b : List ℕ) → bytes_eq a b ≡ false → bytes_eq b a ≡ false
turned a b e =
    ⊎_elim
    (λ (yes' : bytes_eq b a ≡ true). absurd (false≢true (sym e ∙ (bytes_eq-Decides a b).1 (sym ((bytes_eq-Decides b a).0 yes')))))
    (λ (no' : bytes_eq b a ≡ false). no')
    (cases_Bool (bytes_eq b a))

fresh_before : (ids : List (List ℕ)) (id : List ℕ) (rules : List Rule) → Fresh (ids ++ id ∷ []) rules → Fresh ids rules
fresh_before ids id [] f = tt
fresh_before ids id (rule ∷ rules) f = (or_left (is_among rule.id ids) (bytes_eq rule.id id) (sym (among_push rule.id ids id) ∙ f.0), fresh_before ids id rules f.1)

fresh_other : (ids : List (List ℕ)) (id : List ℕ) (rules : List Rule) → Fresh (ids ++ id ∷ []) rules → AllByRecursion (λ other. bytes_eq id other ≡ false) (map (λ rule. rule.id) rules)
fresh_other ids id [] f = tt
fresh_other ids id (rule ∷ rules) f = (turned rule.id id (or_right (is_among rule.id ids) (bytes_eq rule.id id) (sym (among_push rule.id ids id) ∙ f.0)), fresh_other ids id rules f.1)

fresh_more : (ids : List (List ℕ)) (id : List ℕ) (rules : List Rule) → Fresh ids rules → AllByRecursion (λ other. bytes_eq id other ≡ false) (map (λ rule. rule.id) rules) → Fresh (ids ++ id ∷ []) rules
fresh_more ids id [] f others = tt
fresh_more ids id (rule ∷ rules) f others =
    (among_push rule.id ids id ∙ ap (λ (b : Bool). b || bytes_eq rule.id id) f.0 ∙ turned id rule.id others.0, fresh_more ids id rules f.1 others.1)

abbrev pub AreOpen : List Rule → Type 0
AreOpen rules = AllByRecursion (λ rule. rule.id ≢ codes "closing") rules

not_closing : (id : List ℕ) → bytes_eq id (codes "closing") ≡ false → id ≢ codes "closing"
not_closing id e = not_from_Decides _ (bytes_eq-Decides id (codes "closing")) e

is_open : (id : List ℕ) → id ≢ codes "closing" → bytes_eq id (codes "closing") ≡ false
is_open id other =
    ⊎_elim
    (λ (yes' : bytes_eq id (codes "closing") ≡ true). absurd (other ((bytes_eq-Decides id (codes "closing")).0 yes')))
    (λ (no' : bytes_eq id (codes "closing") ≡ false). no')
    (cases_Bool (bytes_eq id (codes "closing")))

pub record AreFree (ids : List (List ℕ)) (rules : List Rule) : Type 0 where
  pub open' : AreOpen rules
  pub fresh : Fresh ids rules
  pub distinct : IsDistinct bytes_eq (map (λ rule. rule.id) rules)

pub free_found : (ids : List (List ℕ)) (rules got : List Rule) → free_rules ids rules ≡ Ok got → (got ≡ rules) × AreFree ids rules
unfolding IsDistinct
free_found ids [] got e = (sym (same_Ok [] got e), record { open' = tt; fresh = tt; distinct = tt })
free_found ids (rule ∷ rules) got e =
    let first = bind_ok (free_id (length ids + 1) ids rule.id) (λ first. free_rules (ids ++ rule.id ∷ []) rules >>= λ others. Ok (rule ∷ others)) got e in
    let rest = bind_ok (free_rules (ids ++ rule.id ∷ []) rules) (λ others. Ok (rule ∷ others)) got first.2 in
    let here = free_id_ok (length ids + 1) ids rule.id first.0 first.1 in
    let others = free_found (ids ++ rule.id ∷ []) rules rest.0 rest.1 in (
      sym (same_Ok (rule ∷ rest.0) got rest.2) ∙ ap (λ (l : List Rule). rule ∷ l) others.0,
      record {
        open' = (not_closing rule.id here.0, others.1.open');
        fresh = (here.1, fresh_before ids rule.id rules others.1.fresh);
        distinct = (fresh_other ids rule.id rules others.1.fresh, others.1.distinct);
      },
    )

pub free_only : (ids : List (List ℕ)) (rules : List Rule) → AreFree ids rules → free_rules ids rules ≡ Ok rules
unfolding IsDistinct
free_only ids [] are = refl
free_only ids (rule ∷ rules) are =
    let others = free_only (ids ++ rule.id ∷ []) rules (record { open' = are.open'.1; fresh = fresh_more ids rule.id rules are.fresh.1 are.distinct.0; distinct = are.distinct.1 }) in
    let here : free_id (length ids + 1) ids rule.id ≡ Ok rule.id = rw (is_open rule.id are.open'.0, are.fresh.0) refl in
    ap (λ (r : Result (List ℕ) PolicyFault). r >>= λ first. free_rules (ids ++ rule.id ∷ []) rules >>= λ others. Ok (rule ∷ others)) here
    ∙ ap (λ (r : Result (List Rule) PolicyFault). r >>= λ others. Ok (rule ∷ others)) others

-- ---- how many

pub few_ok : {X : Type 0} (xs got : List X) → few xs ≡ Ok got → (length xs ≤ 1024) × (xs ≡ got)
few_ok xs got e =
    let one = cond_ok (ltb 1024 (length xs)) TooManyRules (Ok xs) got e in
    (⊎_elim (λ (more : 1024 < length xs). absurd (false≢true (sym one.0 ∙ lt-ltb 1024 (length xs) more))) (λ (upto : length xs ≤ 1024). upto) (cases_lt 1024 (length xs)), same_Ok xs got one.1)

pub few_only : {X : Type 0} (xs : List X) → length xs ≤ 1024 → few xs ≡ Ok xs
few_only xs le = rw (le-ltb 1024 (length xs) le) refl

pub none_before : (rules : List Rule) → Fresh [] rules
none_before [] = tt
none_before (rule ∷ rules) = (refl, none_before rules)

pub free_are : (rules : List Rule) → length rules ≤ 1024 → free_rules [] rules ≡ Ok rules → AreRules rules
free_are rules short e = let free = (free_found [] rules rules e).1 in record { few = short; distinct = free.distinct; free = free.open' }

pub built_found : (rules got : List Rule) → built rules ≡ Ok got → (got ≡ rules) × AreRules rules
built_found rules got e =
    let all = bind_ok (few rules) (λ l. free_rules [] l) got e in
    let short = few_ok rules all.0 all.1 in
    let free = free_found [] rules got (ap (free_rules []) short.1 ∙ all.2) in
    (free.0, record { few = short.0; distinct = free.1.distinct; free = free.1.open' })

pub built_only : (rules : List Rule) → AreRules rules → built rules ≡ Ok rules
built_only rules are =
    ap (λ (r : Result (List Rule) PolicyFault). r >>= λ l. free_rules [] l) (few_only rules are.few) ∙ free_only [] rules (record { open' = are.free; fresh = none_before rules; distinct = are.distinct })

-- ---- words

pub ok_or_ok : {X : Type 0} (o : Option X) (fault : PolicyFault) (x : X) → ok_or o fault ≡ Ok x → o ≡ Some x
ok_or_ok None fault x e = absurd (not_Err fault x e)
ok_or_ok (Some y) fault x e = ap Some (same_Ok y x e)

text_ok : (d : Data) (text : List ℕ) → as_str d ≡ Some text → d ≡ string text
text_ok (string s) text e = let same : s ≡ text = cc in ap string same
text_ok (integer z) text e = absurd cc
text_ok (float x) text e = absurd cc
text_ok (boolean b) text e = absurd cc
text_ok (datetime t) text e = absurd cc
text_ok (array ds) text e = absurd cc
text_ok (table ms) text e = absurd cc

pub word_ok : {X : Type 0} (word : List ℕ → Option X) (at : PolicyPlace) (d : Data) (x : X) → word_in word at d ≡ Ok x → (text : List ℕ) × (d ≡ string text) × (word text ≡ Some x)
word_ok word at d x e =
    let text = bind_ok (text_in at d) (λ text. ok_or (word text) (BadValue at)) x e in
    (text.0, text_ok d text.0 (ok_or_ok (as_str d) (BadValue at) text.0 text.1), ok_or_ok (word text.0) (BadValue at) x text.2)

pub word_only : {X : Type 0} (word : List ℕ → Option X) (at : PolicyPlace) (text : List ℕ) (x : X) → word text ≡ Some x → word_in word at (string text) ≡ Ok x
word_only word at text x e = ap (λ (o : Option _). ok_or o (BadValue at)) e

-- a word and what it is spelled by
abbrev pub Spelled : {X : Type 0} → (List ℕ → Option X) → (X → List ℕ → Type 0) → Type 0
Spelled {X} word Spells = (text : List ℕ) (x : X) → (word text ≡ Some x) ↔ Spells x text

module _ {X : Type 0} (word : List ℕ → Option X) (Spells : X → List ℕ → Type 0) (is : Spelled word Spells) (at : PolicyPlace) where
  words_found : (items : Items) (xs : List X) → words_of word at items ≡ Ok xs → SpellsItems Spells xs items
  words_found no_items [] e = refl
  words_found no_items (x ∷ xs) e = absurd (let f : [] ≡ x ∷ xs = same_Ok [] (x ∷ xs) e in cc)
  words_found (item d ds) xs e =
      let first = bind_ok (word_in word at d) (λ first. words_of word at ds >>= λ others. Ok (first ∷ others)) xs e in
      let rest = bind_ok (words_of word at ds) (λ others. Ok (first.0 ∷ others)) xs first.2 in
      let w = word_ok word at d first.0 first.1 in
      let whole : first.0 ∷ rest.0 ≡ xs = same_Ok (first.0 ∷ rest.0) xs rest.2 in
      subst (λ (l : List X). SpellsItems Spells l (item d ds)) whole (w.0, ds, ap (λ (v : Data). item v ds) w.1, (is w.0 first.0).0 w.2, words_found ds rest.0 rest.1)

  words_only : (xs : List X) (items : Items) → SpellsItems Spells xs items → words_of word at items ≡ Ok xs
  words_only [] items e = ap (words_of word at) e
  words_only (x ∷ xs) items s =
      let here = word_only word at s.0 x ((is s.0 x).1 s.3) in
      ap (words_of word at) s.2
      ∙ ap (λ (r : Result X PolicyFault). r >>= λ first. words_of word at s.1 >>= λ others. Ok (first ∷ others)) here
      ∙ ap (λ (r : Result (List X) PolicyFault). r >>= λ others. Ok (x ∷ others)) (words_only xs s.1 s.4)

  star_ok : (text : List ℕ) (o : Option (List X)) → cond (bytes_eq text (codes "*")) (Ok None) (Err (BadValue at)) ≡ Ok o → (text ≡ codes "*") × (o ≡ None)
  star_ok text o e =
      ⊎_elim
      (λ (yes' : bytes_eq text (codes "*") ≡ true). ((bytes_eq-Decides text (codes "*")).0 yes', sym (same_Ok None o (sym (ap (λ b. cond b (Ok None) (Err (BadValue at))) yes') ∙ e))))
      (λ (no' : bytes_eq text (codes "*") ≡ false). absurd (not_Err (BadValue at) o (sym (ap (λ b. cond b (Ok None) (Err (BadValue at))) no') ∙ e)))
      (cases_Bool (bytes_eq text (codes "*")))

  not_none : (xs : List X) (d : Data) (ds : Items) → SpellsItems Spells xs (item d ds) → xs ≢ []
  not_none [] d ds e f = cc
  not_none (x ∷ xs) d ds s f = cc

  pub selection_found : (d : Data) (o : Option (List X)) → selection_in word at d ≡ Ok o → SpellsSelection Spells o d
  selection_found (string text) o e =
      let star = star_ok text o e in
      subst (λ (p : Option (List X)). SpellsSelection Spells p (string text)) (sym star.1) (ap string star.0)
  selection_found (integer z) o e = absurd (not_Err (BadValue at) o e)
  selection_found (float x) o e = absurd (not_Err (BadValue at) o e)
  selection_found (boolean b) o e = absurd (not_Err (BadValue at) o e)
  selection_found (datetime t) o e = absurd (not_Err (BadValue at) o e)
  selection_found (array no_items) o e = absurd (not_Err (BadValue at) o e)
  selection_found (array (item d ds)) o e =
      let words = bind_ok (words_of word at (item d ds)) (λ words. Ok (Some words)) o e in
      let spelled = words_found (item d ds) words.0 words.1 in
      subst (λ (p : Option (List X)). SpellsSelection Spells p (array (item d ds))) (same_Ok (Some words.0) o words.2) (item d ds, refl, not_none words.0 d ds spelled, spelled)
  selection_found (table ms) o e = absurd (not_Err (BadValue at) o e)

  pub selection_only : (o : Option (List X)) (d : Data) → SpellsSelection Spells o d → selection_in word at d ≡ Ok o
  selection_only None d e = ap (selection_in word at) e
  selection_only (Some xs) d (no_items, is', some, spelled) = absurd (nothing xs some spelled)
    where
      nothing : (xs : List X) → xs ≢ [] → SpellsItems Spells xs no_items → ⊥
      nothing [] some spelled = some refl
      nothing (x ∷ xs) some spelled = let f : no_items ≡ item (string spelled.0) spelled.1 = spelled.2 in cc
  selection_only (Some xs) d (item v ds, is', some, spelled) =
      ap (selection_in word at) is' ∙ ap (λ (r : Result (List X) PolicyFault). r >>= λ words. Ok (Some words)) (words_only xs (item v ds) spelled)
