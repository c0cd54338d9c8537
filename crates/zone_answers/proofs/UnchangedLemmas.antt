-- Where nothing has changed there are no rows.
use Rattle.std.proofs.Common.{◌≡◌, ℕ, suc, ◌+◌, List, [], ◌∷◌, ◌++◌, length, map, ◌==◌, ◌&&◌, ◌||◌, Bool, true, false, not, cond, Option, Some, None, refl, sym, ap, subst, ◌∙◌, arith}
use Rattle.std.specs.List.{filter, flat_map}
use Rattle.std.specs.Cmp.Lexicographic.{pointwise}
use Rattle.std.proofs.lemmas.Bool.{and_parts}
use Rattle.std.proofs.lemmas.Bool.Decides.{Decides-eqb}
use Rattle.std.proofs.lemmas.List.{nil_from_length}
use Rattle.std.proofs.lemmas.Slice.Eq.{slice_eq-Decides}
use Rattle.dns_names.specs.Labels.{IsWithin, is_within}
use Rattle.dns_names.proofs.NameLemmas.{is_within-Decides}
use Rattle.dns_data.specs.declared.record.Record.{Record}
use Rattle.dns_data.specs.declared.record_type.RecordType.TheVariants as types
use Rattle.zone_core.specs.Sets.{key_of, rank_of, at_name}
use Rattle.zone_core.specs.Zones.{first_of}
use Rattle.zone_core.proofs.BelowLemmas.{no_test}
use Rattle.zone_answers.specs.declared.query_type.QueryType.{QueryType}
use Rattle.zone_answers.specs.declared.query_type.QueryType.TheVariants.{Kept, Any, Other}
use Rattle.zone_answers.specs.declared.changes.QuestionGroup.{QuestionGroup}
use Rattle.zone_answers.specs.declared.changes.QuestionGroup.TheVariants.{At, Others}
use Rattle.zone_answers.specs.Answers.{Name, asterisk, asked_at, asks_alias, negative_soa, Found, Outside, Missing, Listed, AnswerOf, answer_with}
use Rattle.zone_answers.specs.AnswerTests.{is_there, wildcard_over, if_there, cut_over, unless_parent, referral, followed_at, found_by, found_from, found_below, found_at, alias_in, by_alias, follow, answer_to}
use Rattle.zone_answers.specs.AnswerChanges.{but_serial, AreSame, query_types}
use Rattle.zone_answers.specs.ChangeTests.{found_below_cut, found_under, answer_under, answer_for, same_but_serial, same_whole, same_at, same_sources, unless_cut, is_own, same_soa, is_unchanged, differs, if_types, row_for, rows_at}
use Rattle.zone_answers.proofs.SamenessLemmas.{record_decides, whole_decides, mapped_decides, answers_decide}
use Rattle.zone_answers.proofs.RenamedLemmas.{first_step}
use Rattle.zone_answers.proofs.ChangeLemmas.{outside_same, outside_are_same}

-- ---- records at a name

filter_both : {X : Type 0} (p q : X → Bool) (xs : List X) → filter (λ x. p x && q x) xs ≡ filter q (filter p xs)
filter_both p q [] = refl
filter_both {X} p q (x ∷ xs) = by_test (p x) (filter_both p q xs)
  where
    by_test : (b : Bool) → filter (λ y. p y && q y) xs ≡ filter q (filter p xs)
        → cond (b && q x) (x ∷ filter (λ y. p y && q y) xs) (filter (λ y. p y && q y) xs) ≡ filter q (cond b (x ∷ filter p xs) (filter p xs))
    by_test true rest = ap (λ l. cond (q x) (x ∷ l) l) rest
    by_test false rest = rest

filter_none : {X : Type 0} (p : X → Bool) (xs : List X) → ((x : X) → p x ≡ false) → filter p xs ≡ []
filter_none p [] never = refl
filter_none p (x ∷ xs) never = ap (λ b. cond b (x ∷ filter p xs) (filter p xs)) (never x) ∙ filter_none p xs never

none_first : (xs : List Record) → (length xs == 0) ≡ true → xs ≡ []
none_first xs e = let none : length xs ≡ 0 = (Decides-eqb (length xs) 0).0 e in nil_from_length xs (omega (arith, none))

all_kept : (old new : List Record) (name : Name) → asked_at old name Any ≡ asked_at new name Any → (asked : QueryType) → asked_at old name asked ≡ asked_at new name asked
all_kept old new name e (Kept t) =
    filter_both (λ r. at_name name (key_of r)) (λ r. (key_of r).1 == rank_of t) old ∙ ap (filter (λ r. (key_of r).1 == rank_of t)) e
    ∙ sym (filter_both (λ r. at_name name (key_of r)) (λ r. (key_of r).1 == rank_of t) new)
all_kept old new name e Any = e
all_kept old new name e Other = refl

none_followed : (rs : List Record) (name : Name) (asked : QueryType) → asked_at rs name (Kept types.Cname) ≡ [] → followed_at rs name asked ≡ None
none_followed rs name asked none = by_test (asks_alias asked)
  where
    by_test : (b : Bool) → cond b None (first_of (asked_at rs name (Kept types.Cname))) ≡ None
    by_test true = refl
    by_test false = ap first_of none

-- the same records are at a name, and no alias
record IsSameAt (old new : List Record) (name : Name) : Type 0 where
  none : asked_at old name (Kept types.Cname) ≡ []
  same : (asked : QueryType) → asked_at old name asked ≡ asked_at new name asked

same_at_is : (old new : List Record) (name : Name) → same_at old new name ≡ true → IsSameAt old new name
same_at_is old new name e =
    let parts = and_parts (length (asked_at old name (Kept types.Cname)) == 0) (pointwise same_whole (asked_at old name Any) (asked_at new name Any)) e in
    record {
      none = none_first (asked_at old name (Kept types.Cname)) parts.0;
      same = all_kept old new name ((slice_eq-Decides whole_decides (asked_at old name Any) (asked_at new name Any) _ refl).0 parts.1);
    }

-- ---- what is found at a name that exists

module _ (origin : Name) (rs : List Record) (name : Name) where
  own_is : is_own origin rs name ≡ true → (cut_over origin rs name ≡ None) × (is_there rs name ≡ true)
  own_is e = by_cut (cut_over origin rs name) refl e
    where
      by_cut : (o : Option Name) → cut_over origin rs name ≡ o → unless_cut rs name o ≡ true → (cut_over origin rs name ≡ None) × (is_there rs name ≡ true)
      by_cut None f t = (f, t)
      by_cut (Some cut) f t = absurd cc

  module _ (asked : QueryType) (own : is_own origin rs name ≡ true) where
    at_listed : is_within name origin ≡ true → asked_at rs name (Kept types.Cname) ≡ [] → answer_to origin rs name asked ≡ answer_with origin rs [] name (Listed (asked_at rs name asked))
    at_listed inside none =
        let more : 2 + length rs ≡ suc (1 + length rs) = omega arith in
        let found : found_at origin rs name asked ≡ Listed (asked_at rs name asked) =
        ap (λ b. cond b (found_below rs name asked (referral origin rs name asked)) Outside) inside
        ∙ ap (λ o. found_below rs name asked (unless_parent name asked o)) (own_is own).0
        ∙ ap (λ b. found_from rs asked (cond b (Some name) (if_there rs (wildcard_over rs name)))) (own_is own).1
        ∙ ap (found_by rs name asked) (none_followed rs name asked none) in
        ap (λ (n : ℕ). follow origin rs asked n [] name) more ∙ first_step origin rs asked (1 + length rs) name
        ∙ ap (λ (f : Found). by_alias origin rs [] name (follow origin rs asked (1 + length rs)) f (alias_in f)) found

    -- below it, by the wildcard
    under_is : (o : Option Name) → if_there rs (Some (asterisk ∷ name)) ≡ o
        → answer_under origin rs name asked ≡ by_alias origin rs [] [] (follow origin rs asked (1 + length rs)) (found_from rs asked o) (alias_in (found_from rs asked o))
    under_is o e =
        let found : found_under origin rs name asked ≡ found_from rs asked o =
        ap (found_below_cut rs name asked) (own_is own).0
        ∙ ap (λ b. found_from rs asked (if_there rs (cond b (Some (asterisk ∷ name)) (wildcard_over rs name)))) (own_is own).1 ∙ ap (found_from rs asked) e in
        ap (λ (f : Found). by_alias origin rs [] [] (follow origin rs asked (1 + length rs)) f (alias_in f)) found

    under_listed : (source : Name) → if_there rs (Some (asterisk ∷ name)) ≡ Some source → asked_at rs source (Kept types.Cname) ≡ []
        → answer_under origin rs name asked ≡ answer_with origin rs [] [] (Listed (asked_at rs source asked))
    under_listed source e none =
        under_is (Some source) e
        ∙ ap (λ (o : Option Record). by_alias origin rs [] [] (follow origin rs asked (1 + length rs)) (found_by rs source asked o) (alias_in (found_by rs source asked o)))
        (none_followed rs source asked none)

named : (rs : List Record) (name source : Name) → if_there rs (Some name) ≡ Some source → source ≡ name
named rs name source e = by_test (is_there rs name) e
  where
    by_test : (b : Bool) → cond b (Some name) None ≡ Some source → source ≡ name
    by_test true f = (let same : name ≡ source = cc in sym same)
    by_test false f = absurd cc

-- ---- answers that stay

module _ (origin : Name) (old new : List Record) (soa : map but_serial (negative_soa origin old) ≡ map but_serial (negative_soa origin new)) where
  listed_same : (name : Name) (found : List Record) → AreSame (answer_with origin old [] name (Listed found)) (answer_with origin new [] name (Listed found))
  listed_same name [] = record { code = refl; authoritative = refl; answer = refl; authority = soa; additional = refl }
  listed_same name (r ∷ found) = record { code = refl; authoritative = refl; answer = refl; authority = refl; additional = refl }

  missing_same : (name : Name) → AreSame (answer_with origin old [] name Missing) (answer_with origin new [] name Missing)
  missing_same name = record { code = refl; authoritative = refl; answer = refl; authority = soa; additional = refl }

  both_same : (a b : AnswerOf) (name : Name) (found other : List Record) → a ≡ answer_with origin old [] name (Listed found) → b ≡ answer_with origin new [] name (Listed other) → found ≡ other
      → AreSame a b
  both_same a b name found other p q e =
      subst (λ (x : AnswerOf). AreSame x b) (sym p)
      (subst (λ (y : AnswerOf). AreSame (answer_with origin old [] name (Listed found)) y) (sym (q ∙ ap (λ (l : List Record). answer_with origin new [] name (Listed l)) (sym e)))
      (listed_same name found))

  module _ (name : Name) (asked : QueryType) (own_old : is_own origin old name ≡ true) (own_new : is_own origin new name ≡ true) where
    at_same : IsSameAt old new name → AreSame (answer_to origin old name asked) (answer_to origin new name asked)
    at_same same = by_test (is_within name origin) refl
      where
        by_test : (b : Bool) → is_within name origin ≡ b → AreSame (answer_to origin old name asked) (answer_to origin new name asked)
        by_test true e =
            both_same (answer_to origin old name asked) (answer_to origin new name asked) name (asked_at old name asked) (asked_at new name asked)
            (at_listed origin old name asked own_old e same.none) (at_listed origin new name asked own_new e (sym (same.same (Kept types.Cname)) ∙ same.none)) (same.same asked)
        by_test false e =
            let out : ¬ IsWithin name origin = λ w. no_test (is_within name origin) ((is_within-Decides name origin).1 w) e in
            subst (λ (x : AnswerOf). AreSame x (answer_to origin new name asked)) (sym (outside_same origin old name asked out))
            (subst (λ (y : AnswerOf). AreSame (answer_with origin old [] name Outside) y) (sym (outside_same origin new name asked out)) (outside_are_same origin old new name))

    under_same : (o p : Option Name) → if_there old (Some (asterisk ∷ name)) ≡ o → if_there new (Some (asterisk ∷ name)) ≡ p → same_sources old new o p ≡ true
        → AreSame (answer_under origin old name asked) (answer_under origin new name asked)
    under_same None None e f t =
        subst (λ (x : AnswerOf). AreSame x (answer_under origin new name asked)) (sym (under_is origin old name asked own_old None e))
        (subst (λ (y : AnswerOf). AreSame (answer_with origin old [] [] Missing) y) (sym (under_is origin new name asked own_new None f)) (missing_same []))
    under_same None (Some b) e f t = absurd cc
    under_same (Some a) None e f t = absurd cc
    under_same (Some a) (Some b) e f t =
        let same = same_at_is old new a t in
        let one : b ≡ a = named new (asterisk ∷ name) b f ∙ sym (named old (asterisk ∷ name) a e) in
        both_same (answer_under origin old name asked) (answer_under origin new name asked) [] (asked_at old a asked) (asked_at new b asked)
        (under_listed origin old name asked own_old a e same.none)
        (under_listed origin new name asked own_new b f (ap (λ (n : Name). asked_at new n (Kept types.Cname)) one ∙ sym (same.same (Kept types.Cname)) ∙ same.none))
        (same.same asked ∙ ap (λ (n : Name). asked_at new n asked) (sym one))

-- ---- rows

module _ (origin : Name) (old new : List Record) where
  no_row : (group : QuestionGroup) → ((asked : QueryType) → AreSame (answer_for origin old group asked) (answer_for origin new group asked)) → row_for origin old new group ≡ []
  no_row group same =
      ap (if_types origin old new group)
      (filter_none (differs origin old new group) query_types (λ asked. ap not ((answers_decide (answer_for origin old group asked) (answer_for origin new group asked)).1 (same asked))))

  no_rows : (name : Name) → row_for origin old new (At name) ≡ [] → row_for origin old new (Others name) ≡ [] → rows_at origin old new name ≡ []
  no_rows name own others = by_test (is_there old name || is_there new name)
    where
      by_test : (b : Bool) → row_for origin old new (At name) ++ flat_map (row_for origin old new) (cond b (Others name ∷ []) []) ≡ []
      by_test true = (λ i. own i ++ (others i ++ []))
      by_test false = (λ i. own i ++ [])

  pub unchanged_rows : (name : Name) → is_unchanged origin old new name ≡ true → rows_at origin old new name ≡ []
  unchanged_rows name e =
      let own = is_own origin old name in
      let also = is_own origin new name in
      let here = same_at old new name in
      let below = same_sources old new (if_there old (Some (asterisk ∷ name))) (if_there new (Some (asterisk ∷ name))) in
      let five = and_parts (own && also && here && below) (same_soa origin old new) e in
      let four = and_parts (own && also && here) below five.0 in
      let three = and_parts (own && also) here four.0 in
      let two = and_parts own also three.0 in
      let soa : map but_serial (negative_soa origin old) ≡ map but_serial (negative_soa origin new) =
      (mapped_decides same_but_serial but_serial record_decides (negative_soa origin old) (negative_soa origin new)).0 five.1 in
      no_rows name (no_row (At name) (λ asked. at_same origin old new soa name asked two.0 two.1 (same_at_is old new name three.1)))
      (no_row (Others name) (λ asked. under_same origin old new soa name asked two.0 two.1 (if_there old (Some (asterisk ∷ name))) (if_there new (Some (asterisk ∷ name))) refl refl four.1))
