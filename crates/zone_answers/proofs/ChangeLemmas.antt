-- The rows are exact: a question is answered otherwise exactly if a row has it.
use Rattle.std.proofs.Common.{◌≡◌, ◌≢◌, ◌↔◌, ◌⊎◌, ℕ, suc, ◌+◌, List, [], ◌∷◌, ◌++◌, length, map, Bool, true, false, not, ◌||◌, cond, Result, IfOk, refl, sym, ap, subst, ◌∙◌, arith, append_assoc, inl, inr}
use Rattle.std.specs.List.{Contains, filter, flat_map, list_any}
use Rattle.std.specs.List.Sorted.{IsStrictlySortedBy}
use Rattle.std.proofs.lemmas.Bool.{false_from_ne_true}
use Rattle.dns_names.specs.Labels.{IsWithin, is_within}
use Rattle.dns_names.specs.Order.{same_name}
use Rattle.dns_names.proofs.NameLemmas.{is_within-Decides}
use Rattle.dns_data.specs.declared.record.Record.{Record}
use Rattle.dns_data.specs.declared.record_type.RecordType.{RecordType}
use Rattle.dns_data.specs.Types.{kept_types}
use Rattle.dns_data.proofs.KeptLaws.{each_kept}
use Rattle.dns_data.specs.declared.rdata.Data.TheVariants as variants
use Rattle.zone_core.specs.Sets.{set_of, listing, InOrder}
use Rattle.zone_core.specs.Zones.{ZoneOf, IsZone}
use Rattle.zone_core.specs.Delegations.{AreNamesOf}
use Rattle.zone_core.proofs.SetLemmas.{name_is, name_self}
use Rattle.zone_core.proofs.MetLemmas.{Among, among_of, of_among, among_append, any_is, is_any}
use Rattle.zone_core.proofs.BelowLemmas.{no_test, within_within}
use Rattle.zone_answers.specs.declared.query_type.QueryType.{QueryType}
use Rattle.zone_answers.specs.declared.query_type.QueryType.TheVariants.{Kept, Any, Other}
use Rattle.zone_answers.specs.declared.changes.QuestionGroup.{QuestionGroup}
use Rattle.zone_answers.specs.declared.changes.QuestionGroup.TheVariants.{At, Others}
use Rattle.zone_answers.specs.declared.changes.ChangedAnswers.{ChangedAnswers}
use Rattle.zone_answers.specs.Answers.{Name, Exists, Found, Outside, AnswerOf, answer_with}
use Rattle.zone_answers.specs.AnswerTests.{is_there, referral, found_below, found_at, alias_in, by_alias, follow, answer_to}
use Rattle.zone_answers.specs.AnswerChanges.{AreSame, Differs, IsKnown, IsEncloserOf, IsIn, IsGroup, IsListed, query_types, AreTypes, group_cmp}
use Rattle.zone_answers.specs.ChangeTests.{answer_under, answer_for, same_answers, known_by, RowOf, row_of, differs, types_in, if_types, row_for, groups_at, rows_at, rows_for}
use Rattle.zone_answers.proofs.SourceLemmas.{there-Decides}
use Rattle.zone_answers.proofs.CutLemmas.{within_root, within_or_is}
use Rattle.zone_answers.proofs.FindingLemmas.{HasOneAlias}
use Rattle.zone_answers.proofs.LeadLemmas.{answer_one, answer_is}
use Rattle.zone_answers.proofs.LawLemmas.{among_map, among_flat, if_ok}
use Rattle.zone_answers.proofs.ZoneLemmas.{origin_below, alias_alone, origin_there}
use Rattle.zone_answers.proofs.SamenessLemmas.{answers_decide}
use Rattle.zone_answers.proofs.RenamedLemmas.{renamed, same_renamed, first_step, to_under, from_under}
use Rattle.zone_answers.proofs.KnownLemmas.{known_is, is_known, flat_among}
use Rattle.zone_answers.proofs.RowOrderLemmas.{rows_sorted}

-- ---- lists

map_among : {X Y : Type 0} (f : X → Y) (xs : List X) (x : X) → Among x xs → Among (f x) (map f xs)
map_among f [] x a = absurd a
map_among f (y ∷ xs) x a = (elim a [ inl same ↦ inl (ap f same) | inr later ↦ inr (map_among f xs x later) ])

kept_is : {X : Type 0} (p : X → Bool) (xs : List X) (x : X) → Among x (filter p xs) → p x ≡ true
kept_is p [] x a = absurd a
kept_is {X} p (y ∷ xs) x a = by_test (p y) refl a (kept_is p xs x)
  where
    by_test : (b : Bool) → p y ≡ b → Among x (cond b (y ∷ filter p xs) (filter p xs)) → (Among x (filter p xs) → p x ≡ true) → p x ≡ true
    by_test true e m later = (elim m [ inl same ↦ ap p same ∙ e | inr rest ↦ later rest ])
    by_test false e m later = later m

is_kept : {X : Type 0} (p : X → Bool) (xs : List X) (x : X) → Among x xs → p x ≡ true → Among x (filter p xs)
is_kept p [] x a e = absurd a
is_kept {X} p (y ∷ xs) x a e = by_test (p y) refl (is_kept p xs x)
  where
    by_test : (b : Bool) → p y ≡ b → (Among x xs → p x ≡ true → Among x (filter p xs)) → Among x (cond b (y ∷ filter p xs) (filter p xs))
    by_test true f later = (elim a [ inl same ↦ inl same | inr rest ↦ inr (later rest e) ])
    by_test false f later = (elim a [ inl same ↦ no_test (p y) (sym (ap p same) ∙ e) f | inr rest ↦ later rest e ])

-- ---- types

among_mapped : {A B : Type 0} (f : A → B) (xs : List A) (x : A) → Among x xs → Among (f x) (map f xs)
among_mapped f [] x a = absurd a
among_mapped f (y ∷ ys) x a = (elim a [ inl same ↦ inl (ap f same) | inr later ↦ inr (among_mapped f ys x later) ])

kept_listed : (t : RecordType) → Among (Kept t) query_types
kept_listed t =
    (among_append (map Kept kept_types) (Any ∷ Other ∷ []) (Kept t)).1 (inl (among_mapped Kept kept_types t (among_of kept_types t (each_kept t))))

listed_type : (asked : QueryType) → Among asked query_types
listed_type (Kept t) = kept_listed t
listed_type Any = (among_append (map Kept kept_types) (Any ∷ Other ∷ []) Any).1 (inr (inl refl))
listed_type Other = (among_append (map Kept kept_types) (Any ∷ Other ∷ []) Other).1 (inr (inr (inl refl)))

-- ---- both zones

there_first : (old new : List Record) (n : Name) → Exists old n → Exists (old ++ new) n
there_first old new n has = (has.0, of_among (old ++ new) has.0 ((among_append old new has.0).1 (inl (among_of old has.0 has.1))), has.2)

there_second : (old new : List Record) (n : Name) → Exists new n → Exists (old ++ new) n
there_second old new n has = (has.0, of_among (old ++ new) has.0 ((among_append old new has.0).1 (inr (among_of new has.0 has.1))), has.2)

there_either : (old new : List Record) (n : Name) → Exists (old ++ new) n → Exists old n ⊎ Exists new n
there_either old new n has = (elim ((among_append old new has.0).0 (among_of (old ++ new) has.0 has.1)) [
  | inl first ↦ inl (has.0, of_among old has.0 first, has.2)
  | inr second ↦ inr (has.0, of_among new has.0 second, has.2)
])

-- a name that does not exist, below one that does, has a closest encloser
enclosed : (rs : List Record) (name top : Name) → ¬ Exists rs name → IsWithin name top → Exists rs top → (e : Name) × IsEncloserOf rs name e × IsWithin e top
enclosed rs name top none below has = by_name name none below
  where
    by_name : (name : Name) → ¬ Exists rs name → IsWithin name top → (e : Name) × IsEncloserOf rs name e × IsWithin e top
    by_name [] none below = absurd (none (subst (Exists rs) (within_root top below) has))
    by_name (label ∷ labels) none below = by_test (is_there rs labels) refl (by_name labels)
      where
        above : IsWithin labels top
        above = (elim (within_or_is label labels top below) [ inl same ↦ absurd (none (subst (Exists rs) same has)) | inr w ↦ w ])

        by_test : (b : Bool) → is_there rs labels ≡ b → (¬ Exists rs labels → IsWithin labels top → (e : Name) × IsEncloserOf rs labels e × IsWithin e top)
            → (e : Name) × IsEncloserOf rs (label ∷ labels) e × IsWithin e top
        by_test true e later = (labels, ([], label, refl, (there-Decides rs labels).0 e, none), above)
        by_test false e later =
            let found = later (λ t. no_test (is_there rs labels) ((there-Decides rs labels).1 t) e) above in
            (found.0, (label ∷ found.1.0, found.1.1, ap (λ (n : Name). label ∷ n) found.1.2, found.1.3, found.1.4), found.2)

-- ---- names outside

pub outside_same : (origin : Name) (rs : List Record) (name : Name) (asked : QueryType) → ¬ IsWithin name origin
    → answer_to origin rs name asked ≡ answer_with origin rs [] name Outside
outside_same origin rs name asked out =
    let more : 2 + length rs ≡ suc (1 + length rs) = omega arith in
    let gone : is_within name origin ≡ false = false_from_ne_true (is_within name origin) (λ t. out ((is_within-Decides name origin).0 t)) in
    let found : found_at origin rs name asked ≡ Outside = ap (λ b. cond b (found_below rs name asked (referral origin rs name asked)) Outside) gone in
    ap (λ (n : ℕ). follow origin rs asked n [] name) more ∙ first_step origin rs asked (1 + length rs) name
    ∙ ap (λ (f : Found). by_alias origin rs [] name (follow origin rs asked (1 + length rs)) f (alias_in f)) found

pub outside_are_same : (origin : Name) (old new : List Record) (name : Name) → AreSame (answer_with origin old [] name Outside) (answer_with origin new [] name Outside)
outside_are_same origin old new name = record { code = refl; authoritative = refl; answer = refl; authority = refl; additional = refl }

not_is : (b : Bool) → not b ≡ true → b ≡ false
not_is true e = absurd cc
not_is false e = refl

module _ (origin : Name) (old new : List Record) (top : origin ≢ []) (one_old : HasOneAlias old) (one_new : HasOneAlias new) (here : Exists old origin) where
  -- ---- what is computed

  computed : (group : QuestionGroup) (asked : QueryType) → differs origin old new group asked ≡ true → ¬ AreSame (answer_for origin old group asked) (answer_for origin new group asked)
  computed group asked e s =
      no_test (same_answers (answer_for origin old group asked) (answer_for origin new group asked))
      ((answers_decide (answer_for origin old group asked) (answer_for origin new group asked)).1 s)
      (not_is (same_answers (answer_for origin old group asked) (answer_for origin new group asked)) e)

  is_computed : (group : QuestionGroup) (asked : QueryType) → ¬ AreSame (answer_for origin old group asked) (answer_for origin new group asked) → differs origin old new group asked ≡ true
  is_computed group asked other =
      ap not (false_from_ne_true (same_answers (answer_for origin old group asked) (answer_for origin new group asked))
      (λ t. other ((answers_decide (answer_for origin old group asked) (answer_for origin new group asked)).0 t)))

  differs_is : (name : Name) (asked : QueryType) → Differs origin old new name asked → ¬ AreSame (answer_to origin old name asked) (answer_to origin new name asked)
  differs_is name asked d s =
      d.4 (subst (λ (a : AnswerOf). AreSame a d.1) (sym (answer_one origin old asked one_old name d.0 d.2))
      (subst (λ (b : AnswerOf). AreSame (answer_to origin old name asked) b) (sym (answer_one origin new asked one_new name d.1 d.3)) s))

  is_differs : (name : Name) (asked : QueryType) → ¬ AreSame (answer_to origin old name asked) (answer_to origin new name asked) → Differs origin old new name asked
  is_differs name asked other =
      (answer_to origin old name asked, answer_to origin new name asked, answer_is origin old asked one_old name, answer_is origin new asked one_new name, other)

  -- ---- names that are not known

  module _ (e name : Name) (asked : QueryType) (never : ¬ IsKnown (old ++ new) name) (inside : IsWithin name origin) (of : IsEncloserOf (old ++ new) name e) where
    within : IsWithin (of.0 ++ of.1 ∷ e) origin
    within = subst (λ (n : Name). IsWithin n origin) of.2 inside

    gone_old : ¬ Exists old (of.1 ∷ e)
    gone_old has = of.4 (there_first old new (of.1 ∷ e) has)

    gone_new : ¬ Exists new (of.1 ∷ e)
    gone_new has = of.4 (there_second old new (of.1 ∷ e) has)

    no_old : (r : Record) → Contains old r → ¬ (r.rdata ≡ variants.Cname (of.0 ++ of.1 ∷ e))
    no_old r c f = never (inr (r, of_among (old ++ new) r ((among_append old new r).1 (inl (among_of old r c))), f ∙ ap variants.Cname (sym of.2)))

    no_new : (r : Record) → Contains new r → ¬ (r.rdata ≡ variants.Cname (of.0 ++ of.1 ∷ e))
    no_new r c f = never (inr (r, of_among (old ++ new) r ((among_append old new r).1 (inr (among_of new r c))), f ∙ ap variants.Cname (sym of.2)))

    alike_down : AreSame (answer_to origin old name asked) (answer_to origin new name asked) → AreSame (answer_under origin old e asked) (answer_under origin new e asked)
    alike_down s =
        let n = of.0 ++ of.1 ∷ e in
        let t : AreSame (answer_to origin old n asked) (answer_to origin new n asked) = subst (λ (m : Name). AreSame (answer_to origin old m asked) (answer_to origin new m asked)) of.2 s in
        subst (λ (a : AnswerOf). AreSame a (answer_under origin new e asked)) (sym (from_under origin old asked top one_old of.0 of.1 e gone_old within no_old))
        (subst (λ (b : AnswerOf). AreSame (renamed n [] (answer_to origin old n asked)) b) (sym (from_under origin new asked top one_new of.0 of.1 e gone_new within no_new))
        (same_renamed n [] (answer_to origin old n asked) (answer_to origin new n asked) t))

    alike_up : AreSame (answer_under origin old e asked) (answer_under origin new e asked) → AreSame (answer_to origin old name asked) (answer_to origin new name asked)
    alike_up s =
        let n = of.0 ++ of.1 ∷ e in
        let t : AreSame (answer_to origin old n asked) (answer_to origin new n asked) =
        subst (λ (a : AnswerOf). AreSame a (answer_to origin new n asked)) (sym (to_under origin old asked top one_old of.0 of.1 e gone_old within no_old))
        (subst (λ (b : AnswerOf). AreSame (renamed [] n (answer_under origin old e asked)) b) (sym (to_under origin new asked top one_new of.0 of.1 e gone_new within no_new))
        (same_renamed [] n (answer_under origin old e asked) (answer_under origin new e asked) s)) in
        subst (λ (m : Name). AreSame (answer_to origin old m asked) (answer_to origin new m asked)) (sym of.2) t

  -- ---- groups

  groups_is : (n : Name) (g : QuestionGroup) → Among g (groups_at origin old new n) → (g ≡ At n) ⊎ ((g ≡ Others n) × Exists (old ++ new) n)
  groups_is n g a = (elim a [ inl same ↦ inl same | inr rest ↦ by_test (is_there old n) (is_there new n) refl refl rest ])
    where
      by_test : (b c : Bool) → is_there old n ≡ b → is_there new n ≡ c → Among g (cond (b || c) (Others n ∷ []) []) → (g ≡ At n) ⊎ ((g ≡ Others n) × Exists (old ++ new) n)
      by_test true c e f m = (elim m [ inl same ↦ inr (same, there_first old new n ((there-Decides old n).0 e)) | inr none ↦ absurd none ])
      by_test false true e f m = (elim m [ inl same ↦ inr (same, there_second old new n ((there-Decides new n).0 f)) | inr none ↦ absurd none ])
      by_test false false e f m = absurd m

  others_in : (n : Name) → Exists (old ++ new) n → Among (Others n) (groups_at origin old new n)
  others_in n has = inr (by_test (is_there old n) (is_there new n) refl refl)
    where
      by_test : (b c : Bool) → is_there old n ≡ b → is_there new n ≡ c → Among (Others n) (cond (b || c) (Others n ∷ []) [])
      by_test true c e f = inl refl
      by_test false true e f = inl refl
      by_test false false e f = (elim (there_either old new n has) [
        | inl first ↦ no_test (is_there old n) ((there-Decides old n).1 first) e
        | inr second ↦ no_test (is_there new n) ((there-Decides new n).1 second) f
      ])

  -- ---- rows

  row_is : (g : QuestionGroup) (ts : List QueryType) (row : RowOf) → Among row (if_types origin old new g ts) → (row.group ≡ g) × (row.types ≡ ts) × (ts ≢ [])
  row_is g [] row a = absurd a
  row_is g (t ∷ ts) row a = (elim a [
    | inl same ↦ (ap (λ (x : RowOf). x.group) same, ap (λ (x : RowOf). x.types) same, λ e. absurd cc)
    | inr none ↦ absurd none
  ])

  is_row : (g : QuestionGroup) (ts : List QueryType) (asked : QueryType) → Among asked ts → (row : RowOf) × Among row (if_types origin old new g ts) × (row.group ≡ g) × (row.types ≡ ts)
  is_row g [] asked a = absurd a
  is_row g (t ∷ ts) asked a = (record { group = g; types = t ∷ ts }, inl refl, refl, refl)

  module _ (names : List Name) (known : AreNamesOf names (flat_map (known_by origin) (old ++ new))) (rows : List ChangedAnswers)
      (are : map row_of rows ≡ rows_for origin old new names) where
    name_known : (n : Name) → Among n names → IsWithin n origin × IsKnown (old ++ new) n
    name_known n a = known_is origin (old ++ new) n (among_of (flat_map (known_by origin) (old ++ new)) n ((known.members n).0 (of_among names n a)))

    known_name : (n : Name) → IsWithin n origin → IsKnown (old ++ new) n → Among n names
    known_name n inside is = among_of names n ((known.members n).1 (of_among (flat_map (known_by origin) (old ++ new)) n (is_known origin (old ++ new) n inside is)))

    -- a row is that of a group at or below a known name
    row_of_group : (row : ChangedAnswers) → Contains rows row
        → (n : Name) × (g : QuestionGroup) × Among n names × Among g (groups_at origin old new n) × (row.group ≡ g) × (row.types.items ≡ types_in origin old new g) × (types_in origin old new g ≢ [])
    row_of_group row c =
        let a : Among (row_of row) (rows_for origin old new names) = subst (λ (l : List RowOf). Among (row_of row) l) are (map_among row_of rows row (among_of rows row c)) in
        let spot = among_flat (rows_at origin old new) names (row_of row) a in
        let group = among_flat (row_for origin old new) (groups_at origin old new spot.0) (row_of row) spot.2 in
        let is = row_is group.0 (types_in origin old new group.0) (row_of row) group.2 in
        (spot.0, group.0, spot.1, group.1, is.0, is.1, is.2)

    group_has_row : (n : Name) (g : QuestionGroup) (asked : QueryType) → Among n names → Among g (groups_at origin old new n) → differs origin old new g asked ≡ true
        → (row : ChangedAnswers) × Contains rows row × (row.group ≡ g) × Contains row.types.items asked
    group_has_row n g asked a b e =
        let t : Among asked (types_in origin old new g) = is_kept (differs origin old new g) query_types asked (listed_type asked) e in
        let row = is_row g (types_in origin old new g) asked t in
        let spot : Among row.0 (rows_at origin old new n) = flat_among (row_for origin old new) (groups_at origin old new n) g row.0 b row.1 in
        let all : Among row.0 (map row_of rows) = subst (λ (l : List RowOf). Among row.0 l) (sym are) (flat_among (rows_at origin old new) names n row.0 a spot) in
        let found = among_map row_of rows row.0 all in
        let types : found.0.types.items ≡ types_in origin old new g = sym (ap (λ (x : RowOf). x.types) found.2) ∙ row.3 in (
          found.0,
          of_among rows found.0 found.1,
          sym (ap (λ (x : RowOf). x.group) found.2) ∙ row.2,
          of_among found.0.types.items asked (subst (λ (l : List QueryType). Among asked l) (sym types) t),
        )

    -- ---- the theorem

    inside_of : (name : Name) (asked : QueryType) → Differs origin old new name asked → IsWithin name origin
    inside_of name asked d = by_test (is_within name origin) refl
      where
        by_test : (b : Bool) → is_within name origin ≡ b → IsWithin name origin
        by_test true e = (is_within-Decides name origin).0 e
        by_test false e =
            let out : ¬ IsWithin name origin = λ w. no_test (is_within name origin) ((is_within-Decides name origin).1 w) e in
            absurd (differs_is name asked d
            (subst (λ (a : AnswerOf). AreSame a (answer_to origin new name asked)) (sym (outside_same origin old name asked out))
            (subst (λ (b : AnswerOf). AreSame (answer_with origin old [] name Outside) b) (sym (outside_same origin new name asked out)) (outside_are_same origin old new name))))

    listed : (name : Name) (asked : QueryType) → Differs origin old new name asked → IsListed (old ++ new) rows name asked
    listed name asked d = by_test (list_any (same_name name) names) refl
      where
        inside : IsWithin name origin
        inside = inside_of name asked d

        by_known : Among name names → IsListed (old ++ new) rows name asked
        by_known a =
            let row = group_has_row name (At name) asked a (inl refl) (is_computed (At name) asked (differs_is name asked d)) in
            (row.0, row.1, subst (λ (g : QuestionGroup). IsIn (old ++ new) g name) (sym row.2) refl, row.3)

        by_other : ¬ IsKnown (old ++ new) name → IsListed (old ++ new) rows name asked
        by_other never =
            let found = enclosed (old ++ new) name origin (λ has. never (inl has)) inside (there_first old new origin here) in
            let e = found.0 in
            let row =
            group_has_row e (Others e) asked (known_name e found.2 (inl found.1.3)) (others_in e found.1.3)
            (is_computed (Others e) asked (λ s. differs_is name asked d (alike_up e name asked never inside found.1 s))) in
            (row.0, row.1, subst (λ (g : QuestionGroup). IsIn (old ++ new) g name) (sym row.2) (never, found.1), row.3)

        by_test : (b : Bool) → list_any (same_name name) names ≡ b → IsListed (old ++ new) rows name asked
        by_test true t =
            let found = any_is (same_name name) names t in
            by_known (subst (λ (n : Name). Among n names) (sym (name_is name found.0 found.2)) found.1)
        by_test false t =
            by_other (λ is. no_test (list_any (same_name name) names) (is_any (same_name name) names name (known_name name inside is) (name_self name)) t)

    differing : (name : Name) (asked : QueryType) → IsListed (old ++ new) rows name asked → Differs origin old new name asked
    differing name asked is =
        let row = is.0 in
        let of = row_of_group row is.1 in
        let n = of.0 in
        let g = of.1 in
        let inside = (name_known n of.2).0 in
        let e : differs origin old new g asked ≡ true =
        kept_is (differs origin old new g) query_types asked (subst (λ (l : List QueryType). Among asked l) of.5 (among_of row.types.items asked is.3)) in
        let in_group : IsIn (old ++ new) g name = subst (λ (h : QuestionGroup). IsIn (old ++ new) h name) of.4 is.2 in
        by_group n g inside e in_group (groups_is n g of.3)
      where
        by_group : (n : Name) (g : QuestionGroup) → IsWithin n origin → differs origin old new g asked ≡ true → IsIn (old ++ new) g name → (g ≡ At n) ⊎ ((g ≡ Others n) × Exists (old ++ new) n)
            → Differs origin old new name asked
        by_group n g inside e in_group which = (elim which [
          | inl own ↦
              (let same : name ≡ n = subst (λ (h : QuestionGroup). IsIn (old ++ new) h name) own in_group in
              let f : differs origin old new (At n) asked ≡ true = ap (λ (h : QuestionGroup). differs origin old new h asked) (sym own) ∙ e in
              is_differs name asked (λ s. computed (At n) asked f (subst (λ (m : Name). AreSame (answer_to origin old m asked) (answer_to origin new m asked)) same s)))
          | inr others ↦
              (let of : IsIn (old ++ new) (Others n) name = subst (λ (h : QuestionGroup). IsIn (old ++ new) h name) others.0 in_group in
              let f : differs origin old new (Others n) asked ≡ true = ap (λ (h : QuestionGroup). differs origin old new h asked) (sym others.0) ∙ e in
              let below : IsWithin name n = (of.1.0 ++ of.1.1 ∷ [], of.1.2 ∙ sym (append_assoc of.1.0 (of.1.1 ∷ []) n)) in
              is_differs name asked (λ s. computed (Others n) asked f (alike_down n name asked of.0 (within_within name n origin below inside) of.1 s)))
        ])

    pub rows_exact : (name : Name) (asked : QueryType) → Differs origin old new name asked ↔ IsListed (old ++ new) rows name asked
    rows_exact name asked = (listed name asked, differing name asked)

    pub rows_grouped : (row : ChangedAnswers) → Contains rows row → IsGroup origin (old ++ new) row.group
    rows_grouped row c =
        let of = row_of_group row c in
        let is = name_known of.0 of.2 in
        subst (IsGroup origin (old ++ new)) (sym of.4) (elim (groups_is of.0 of.1 of.3) [
          | inl own ↦ subst (IsGroup origin (old ++ new)) (sym own) is
          | inr others ↦ subst (IsGroup origin (old ++ new)) (sym others.0) (is.0, others.1)
        ])

    pub rows_typed : (row : ChangedAnswers) → Contains rows row → AreTypes row.types.items
    rows_typed row c =
        let of = row_of_group row c in
        record { any = λ e. of.6 (sym of.5 ∙ e); order = (differs origin old new of.1, of.5) }

-- ---- the result of the call

module _ (a b : ZoneOf) (is_a : IsZone a) (is_b : IsZone b) (xs ys : List Record) (order_a : InOrder xs) (order_b : InOrder ys) (set_a : set_of xs ≡ a.records)
    (set_b : set_of ys ≡ b.records) (listed_a : xs ≡ listing a.records) (listed_b : ys ≡ listing b.records) (names : List Name)
    (known : AreNamesOf names (flat_map (known_by a.origin) (listing a.records ++ listing b.records))) {X E : Type 0} (items : X → List ChangedAnswers) (r : Result X E)
    (are : IfOk r (λ rows. map row_of (items rows) ≡ rows_for a.origin (listing a.records) (listing b.records) names)) where
  top_is : a.origin ≢ []
  top_is = origin_below a is_a xs order_a set_a listed_a

  one_a : HasOneAlias (listing a.records)
  one_a = alias_alone a is_a xs order_a set_a listed_a

  one_b : HasOneAlias (listing b.records)
  one_b = alias_alone b is_b ys order_b set_b listed_b

  here_is : Exists (listing a.records) a.origin
  here_is = origin_there a is_a xs order_a set_a listed_a

  pub result_exact : IfOk r (λ rows. (name : Name) (asked : QueryType) → Differs a.origin (listing a.records) (listing b.records) name asked ↔ IsListed (listing a.records ++ listing b.records) (items rows) name asked)
  result_exact = if_ok r (λ rows e. rows_exact a.origin (listing a.records) (listing b.records) top_is one_a one_b here_is names known (items rows) e) are

  pub result_order : IfOk r (λ rows. IsStrictlySortedBy group_cmp (map (λ (row : ChangedAnswers). row.group) (items rows)))
  result_order = if_ok r (λ rows e. rows_sorted a.origin (listing a.records) (listing b.records) names known.order (items rows) e) are

  pub result_groups : IfOk r (λ rows. (row : ChangedAnswers) → Contains (items rows) row → IsGroup a.origin (listing a.records ++ listing b.records) row.group)
  result_groups = if_ok r (λ rows e. rows_grouped a.origin (listing a.records) (listing b.records) top_is one_a one_b here_is names known (items rows) e) are

  pub result_types : IfOk r (λ rows. (row : ChangedAnswers) → Contains (items rows) row → AreTypes row.types.items)
  result_types = if_ok r (λ rows e. rows_typed a.origin (listing a.records) (listing b.records) top_is one_a one_b here_is names known (items rows) e) are
