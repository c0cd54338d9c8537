-- Each question that the caller reaches is in a row.
use Rattle.std.proofs.Common.{◌≡◌, ◌⊎◌, ℕ, ◌≤◌, List, [], ◌∷◌, ◌++◌, map, Bool, true, false, cond, not, nat_lt, Option, Some, None, refl, sym, ap, subst, ◌∙◌, inl, inr, append-nil, append_assoc, arith}
use Rattle.std.specs.List.{Contains, filter}
use Rattle.std.proofs.lemmas.Bool.{false_from_ne_true, true_from_ne_false}
use Rattle.std.proofs.lemmas.Bool.Decides.{nat_tests}
use Rattle.dns_names.specs.Labels.{IsWithin, is_within, wire_len}
use Rattle.dns_names.proofs.NameLemmas.{is_within-Decides}
use Rattle.dns_data.specs.declared.record.Record.{Record}
use Rattle.dns_data.specs.declared.record_type.RecordType.TheVariants as types
use Rattle.dns_data.specs.declared.rdata.Data.{Data}
use Rattle.dns_data.specs.declared.rdata.Data.TheVariants as variants
use Rattle.grant_policy.specs.declared.rule.Rule.{Rule}
use Rattle.zone_core.specs.Sets.{key_of, listing}
use Rattle.zone_core.specs.Zones.{ZoneOf, IsZone, first_of}
use Rattle.zone_core.specs.Views.{AreOfZone}
use Rattle.zone_core.specs.Delegations.{AreNamesOf}
use Rattle.zone_core.proofs.ZoneLemmas.{both_true}
use Rattle.zone_core.proofs.MetLemmas.{Among, among_of, of_among, is_any, among_append}
use Rattle.zone_core.proofs.BelowLemmas.{no_test, within_within, within_itself}
use Rattle.zone_answers.specs.declared.query_type.QueryType.{QueryType}
use Rattle.zone_answers.specs.declared.query_type.QueryType.TheVariants.{Kept, Any, Other}
use Rattle.zone_answers.specs.Answers.{Name, Exists, asterisk, asks_alias, asked_at, answered_as, answer_in, Found, Outside, Delegated, Missing, Alias, Listed, Again, Finds, WasAsked, Lead, Ends, AnswerOf}
use Rattle.zone_answers.specs.AnswerTests.{is_there, wildcard_over, if_there, cut_over, followed_at, found_by, found_from, found_at, answer_to}
use Rattle.zone_answers.specs.AnswerChanges.{Differs, query_types}
use Rattle.zone_answers.specs.ChangeTests.{wildcard_under, found_below_cut, found_under}
use Rattle.zone_answers.proofs.CutLemmas.{one_more}
use Rattle.zone_answers.proofs.FindingLemmas.{HasOneAlias, finds_one}
use Rattle.zone_answers.proofs.LeadLemmas.{answer_is}
use Rattle.zone_answers.proofs.UnderLemmas.{found_same}
use Rattle.zone_answers.proofs.KnownLemmas.{flat_among}
use Rattle.zone_answers.proofs.LawLemmas.{one_alias, row_in}
use Rattle.answer_reach.specs.declared.reach_map.ReachMap.{ReachMap}
use Rattle.answer_reach.specs.declared.reached.ReachedNames.{ReachedNames}
use Rattle.answer_reach.specs.declared.reached.ReachedNames.TheVariants.{At, Others}
use Rattle.answer_reach.specs.declared.reached.ReachedAnswers.{ReachedAnswers}
use Rattle.answer_reach.specs.Turns.{CanMake}
use Rattle.answer_reach.specs.Reach.{MayChange, IsReached}
use Rattle.answer_reach.specs.ReachedGroups.{IsIn, IsListed}
use Rattle.answer_reach.specs.ReachTests.{has_name, within_any, is_long, named, IsMap, may_change_at, may_change_under, target_list, targets, asked_in_turn, target_in, alias_by, alias_under, may_change_inside, reaches, reaches_target, reaches_by, reaches_under, reaches_in, types_in, RowOf, row_of, if_types, row_for, rows_at, rows_for, AreRowsOf}
use Rattle.answer_reach.proofs.PossibleLemmas.{first, second, itself, owner_asked}
use Rattle.answer_reach.proofs.NamedLemmas.{has_is, is_has, is_known, known_is, known_above, cover, is_within_any}
use Rattle.answer_reach.proofs.AnswerLemmas.{unreached}
use Rattle.answer_reach.proofs.MadeLemmas.{all_possible, zone_rows}
use Rattle.answer_reach.proofs.ComputedLemmas.{at_known, under_known, home, not_cut_off, cut_is_stays}

-- ---- what comes after aliases

module _ (origin : Name) (rs : List Record) (asked : QueryType) (one : HasOneAlias rs) where
  -- what is found is one thing
  no_other : (name : Name) (r : Record) (found : Found) → Finds origin rs name asked (Alias r) → Finds origin rs name asked found → Alias r ≡ found
  no_other name r found is other = finds_one origin rs name asked one (Alias r) is ∙ sym (finds_one origin rs name asked one found other)

  -- an alias of the zone leads to the name
  abbrev LeadsTo : Name → List Record → Type 0
  LeadsTo last aliases = (asks_alias asked ≡ false) × ((a : Record) × Among a aliases × (a.rdata ≡ variants.Cname last)) × ((r : Record) × Contains rs r × (r.rdata ≡ variants.Cname last))

  -- of two ways on from a name, one that has ended is the longer
  prefix : (some all earlier : List Record) (name last end : Name) (found : Found) → Lead origin rs asked earlier name some last → Lead origin rs asked earlier name all end → Ends origin rs asked (earlier ++ all) end found
      → (last ≡ name) ⊎ LeadsTo last all
  prefix [] all earlier name last end found lead on ends = inl lead
  prefix (x ∷ some) [] earlier name last end found lead on ends = absurd (by_found found (subst (λ (e : Name). Ends origin rs asked (earlier ++ []) e found) on ends))
    where
      by_found : (found : Found) → Ends origin rs asked (earlier ++ []) name found → ⊥
      by_found Again was = lead.0 (subst (λ (l : List Record). WasAsked l name) (append-nil earlier) was)
      by_found (Alias r) is = is
      by_found Outside is = (let e = no_other name lead.1.0 Outside lead.1.1 is.1 in absurd cc)
      by_found (Delegated cut) is = (let e = no_other name lead.1.0 (Delegated cut) lead.1.1 is.1 in absurd cc)
      by_found Missing is = (let e = no_other name lead.1.0 Missing lead.1.1 is.1 in absurd cc)
      by_found (Listed l) is = (let e = no_other name lead.1.0 (Listed l) lead.1.1 is.1 in absurd cc)
  prefix (x ∷ some) (y ∷ all) earlier name last end found lead on ends =
      let r = lead.1.0 in
      let target = lead.1.3.0 in
      let both : Alias r ≡ Alias on.1.0 = no_other name r (Alias on.1.0) lead.1.1 on.1.1 in
      let same : r ≡ on.1.0 = cc in
      let alike : x ≡ y = lead.1.2 ∙ ap (answered_as name) same ∙ sym on.1.2 in
      let data_is : variants.Cname target ≡ variants.Cname on.1.3.0 = sym lead.1.3.1 ∙ ap (λ (a : Record). a.rdata) alike ∙ on.1.3.1 in
      let one_target : target ≡ on.1.3.0 = cc in
      let rest : Lead origin rs asked (earlier ++ y ∷ []) target all end = subst (λ (n : Name). Lead origin rs asked (earlier ++ y ∷ []) n all end) (sym one_target) on.1.3.2 in
      let first_rest : Lead origin rs asked (earlier ++ y ∷ []) target some last = subst (λ (a : Record). Lead origin rs asked (earlier ++ a ∷ []) target some last) alike lead.1.3.2 in
      let later = prefix some all (earlier ++ y ∷ []) target last end found first_rest rest (subst (λ (l : List Record). Ends origin rs asked l end found) (sym (append_assoc earlier (y ∷ []) all)) ends) in
      (elim later [
        | inl here ↦ inr (
          lead.1.1.1.2.0,
          (y, inl refl, sym (ap (λ (a : Record). a.rdata) alike) ∙ lead.1.3.1 ∙ ap variants.Cname (sym here)),
          (r, lead.1.1.1.2.1, ap (λ (a : Record). a.rdata) (sym lead.1.2) ∙ lead.1.3.1 ∙ ap variants.Cname (sym here)),
        )
        | inr further ↦ inr (further.0, (further.1.0, inr further.1.1, further.1.2), further.2)
      ])

  -- names that were asked for earlier may be forgotten
  fewer : (aliases earlier few : List Record) (name last : Name) → ((n : Name) → WasAsked few n → WasAsked earlier n) → Lead origin rs asked earlier name aliases last → Lead origin rs asked few name aliases last
  fewer [] earlier few name last less lead = lead
  fewer (a ∷ aliases) earlier few name last less lead = (
    (λ was. lead.0 (less name was)),
    (lead.1.0, lead.1.1, lead.1.2, (lead.1.3.0, lead.1.3.1, fewer aliases (earlier ++ a ∷ []) (few ++ a ∷ []) lead.1.3.0 last more lead.1.3.2)),
  )
    where
      more : (n : Name) → WasAsked (few ++ a ∷ []) n → WasAsked (earlier ++ a ∷ []) n
      more n was = (elim ((among_append few (a ∷ []) was.0).0 (among_of (few ++ a ∷ []) was.0 was.1)) [
        | inl old ↦ (let w = less n (was.0, of_among few was.0 old, was.2) in (w.0, of_among (earlier ++ a ∷ []) w.0 ((among_append earlier (a ∷ []) w.0).1 (inl (among_of earlier w.0 w.1))), w.2))
        | inr new ↦ (was.0, of_among (earlier ++ a ∷ []) was.0 ((among_append earlier (a ∷ []) was.0).1 (inr new)), was.2)
      ])

-- ---- the alias of a wildcard

module _ (rs : List Record) (asked : QueryType) (fits : (r : Record) → Contains rs r → wire_len r.owner ≤ 255) where
  long_not : (above : Name) (r : Record) → first_of (asked_at rs (asterisk ∷ above) (Kept types.Cname)) ≡ Some r → is_long above ≡ false
  long_not above r e =
      let own = owner_asked rs (asterisk ∷ above) types.Cname r (first_among (asked_at rs (asterisk ∷ above) (Kept types.Cname)) e) in
      not_long (asterisk ∷ above) (subst (λ (n : Name). wire_len n ≤ 255) own.1 (fits r (of_among rs r own.0)))
    where
      first_among : (xs : List Record) → first_of xs ≡ Some r → Among r xs
      first_among [] f = absurd cc
      first_among (x ∷ xs) f = let same : x ≡ r = cc in inl (sym same)

      not_long : (n : Name) → wire_len n ≤ 255 → nat_lt 255 (wire_len n) ≡ false
      not_long n le = grind (arith, nat_tests)

  alias_at : (above : Name) (r : Record) → found_from rs asked (if_there rs (Some (asterisk ∷ above))) ≡ Alias r → alias_by rs above ≡ Some r
  alias_at above r e = by_test (is_there rs (asterisk ∷ above)) e
    where
      by_alias : (o : Option Record) → followed_at rs (asterisk ∷ above) asked ≡ o → found_by rs (asterisk ∷ above) asked o ≡ Alias r → alias_by rs above ≡ Some r
      by_alias None is f = absurd cc
      by_alias (Some s) is f =
          let same : s ≡ r = cc in
          by_asks (asks_alias asked) (is ∙ ap Some same)
        where
          by_asks : (b : Bool) → cond b None (first_of (asked_at rs (asterisk ∷ above) (Kept types.Cname))) ≡ Some r → alias_by rs above ≡ Some r
          by_asks true g = absurd cc
          by_asks false g = ap (λ b. cond b None (first_of (asked_at rs (asterisk ∷ above) (Kept types.Cname)))) (long_not above r g) ∙ g

      by_test : (b : Bool) → found_from rs asked (cond b (Some (asterisk ∷ above)) None) ≡ Alias r → alias_by rs above ≡ Some r
      by_test true f = by_alias (followed_at rs (asterisk ∷ above) asked) refl f
      by_test false f = absurd cc

  pub alias_is : (above : Name) (r : Record) → found_from rs asked (if_there rs (wildcard_under rs above)) ≡ Alias r → alias_under rs above ≡ Some r
  alias_is [] r e = by_test (is_there rs []) e
    where
      by_test : (b : Bool) → found_from rs asked (if_there rs (cond b (Some (asterisk ∷ [])) None)) ≡ Alias r → cond b (alias_by rs []) None ≡ Some r
      by_test true f = alias_at [] r f
      by_test false f = absurd cc
  alias_is (label ∷ labels) r e = by_test (is_there rs (label ∷ labels)) e (alias_is labels r)
    where
      by_test : (b : Bool) → found_from rs asked (if_there rs (cond b (Some (asterisk ∷ label ∷ labels)) (wildcard_over rs (label ∷ labels)))) ≡ Alias r
          → (found_from rs asked (if_there rs (wildcard_under rs labels)) ≡ Alias r → alias_under rs labels ≡ Some r) → cond b (alias_by rs (label ∷ labels)) (alias_under rs labels) ≡ Some r
      by_test true f higher = alias_at (label ∷ labels) r f
      by_test false f higher = higher f

-- ---- questions

module _ (rules : List Rule) (caller : List ℕ) (origin : Name) (rs : List Record) (zone : AreOfZone origin rs) (names : List Name) (known : AreNamesOf names (named origin rules rs))
    (m : ReachMap) (is : IsMap rules caller origin rs names m) where
  alone : HasOneAlias rs
  alone = one_alias origin rs zone

  short : (r : Record) → Contains rs r → wire_len r.owner ≤ 255
  short r c = (zone.zone.kept (key_of r) r (row_in rs zone.order r (among_of rs r c))).1.owner.short

  inside_known : (name : Name) (r : Record) → IsWithin name origin → Contains rs r → r.rdata ≡ variants.Cname name → Among name names
  inside_known name r inside c e = is_known origin rules rs names known name inside (inr (inl (r, name, c, e, within_itself name)))

  target_among : (d : Data) (last : Name) → d ≡ variants.Cname last → Among last (target_list d)
  target_among d last e = subst (λ (x : Data). Among last (target_list x)) (sym e) (inl refl)

  at_is : (name : Name) → Among name names → (asked : QueryType) → IsReached rules caller origin rs name asked → reaches rules caller origin rs m name asked ≡ true
  at_is name among asked reached =
      let aliases = reached.0 in
      let last = reached.1 in
      let whole = answer_is origin rs asked alone name in
      let inside : IsWithin last origin = reached.3.0 in
      (elim (prefix origin rs asked alone aliases whole.0 [] name last whole.1 whole.2 reached.2 whole.3 whole.4) [
        | inl same ↦ found_in last (inl same) (changes last (subst (λ (n : Name). Among n names) (sym same) among) reached.3)
        | inr leads ↦ (elim (by_answer leads) [ inl none ↦ absurd none | inr found ↦ found ])
      ])
    where
      changes : (last : Name) → Among last names → MayChange rules caller origin rs last asked → may_change_inside rules caller origin rs m asked last ≡ true
      changes last here may =
          both_true (is_within last origin) (may_change_at rules caller origin rs m last asked) ((is_within-Decides last origin).1 may.0)
          (at_known rules caller origin rs zone names known m is last here asked may)

      found_in : (last : Name) → Among last (asked_in_turn name asked (answer_to origin rs name asked)) → may_change_inside rules caller origin rs m asked last ≡ true → reaches rules caller origin rs m name asked ≡ true
      found_in last here e = is_any (may_change_inside rules caller origin rs m asked) (asked_in_turn name asked (answer_to origin rs name asked)) last here e

      by_answer : LeadsTo origin rs asked alone reached.1 (answer_is origin rs asked alone name).0 → ⊥ ⊎ (reaches rules caller origin rs m name asked ≡ true)
      by_answer leads =
          let whole = answer_is origin rs asked alone name in
          let last = reached.1 in
          let here = inside_known last leads.2.0 reached.3.0 leads.2.1 leads.2.2 in
          let a = leads.1.0 in
          let in_answer : Among a (answer_to origin rs name asked).answer = subst (λ (x : AnswerOf). Among a x.answer) (sym whole.5) ((among_append whole.0 (answer_in whole.1 whole.2) a).1 (inl leads.1.1)) in
          let target : Among last (targets (answer_to origin rs name asked).answer) = flat_among (λ (r : Record). target_list r.rdata) (answer_to origin rs name asked).answer a last in_answer (target_among a.rdata last leads.1.2) in
          let listed : Among last (asked_in_turn name asked (answer_to origin rs name asked)) = inr (subst (λ (l : List Name). Among last l) (sym (ap (λ b. cond b [] (targets (answer_to origin rs name asked).answer)) leads.0)) target) in
          inr (found_in last listed (changes last here reached.3))

  -- a question that is reached is about a name within the origin
  reached_inside : (name : Name) (asked : QueryType) → IsReached rules caller origin rs name asked → IsWithin name origin
  reached_inside name asked reached = by_aliases reached.0 reached.1 reached.2 reached.3
    where
      by_aliases : (aliases : List Record) (last : Name) → Lead origin rs asked [] name aliases last → MayChange rules caller origin rs last asked → IsWithin name origin
      by_aliases [] last lead may = subst (λ (n : Name). IsWithin n origin) lead may.0
      by_aliases (a ∷ aliases) last lead may = lead.1.1.0.0

  under_is : (label : List ℕ) (above : Name) → Among above names → ¬ Among (label ∷ above) names → (name : Name) → IsWithin name (label ∷ above) → (asked : QueryType) → IsReached rules caller origin rs name asked → reaches_under rules caller origin rs m above asked ≡ true
  under_is label above a free name below asked reached = by_aliases reached.0 reached.1 reached.2 reached.3
    where
      inside : IsWithin (label ∷ above) origin
      inside = one_more label above origin (known_is origin rules rs names known above a).0

      gone : ¬ Exists rs (label ∷ above)
      gone there = free (is_known origin rules rs names known (label ∷ above) inside (inl there))

      by_aliases : (aliases : List Record) (last : Name) → Lead origin rs asked [] name aliases last → MayChange rules caller origin rs last asked → reaches_under rules caller origin rs m above asked ≡ true
      by_aliases [] last lead may =
          first (may_change_under rules caller origin rs m above asked) _
          (under_known rules caller origin rs zone names known m is label above a free name below asked (subst (λ (n : Name). MayChange rules caller origin rs n asked) lead may))
      by_aliases (x ∷ aliases) last lead may =
          second (may_change_under rules caller origin rs m above asked) _
          (both_true (not (within_any m.cuts.items above)) _ clear (both_true (not (asks_alias asked)) _ (ap not follows) (ap (reaches_by rules caller origin rs m asked) alias ∙ by_target r.rdata data_is)))
        where
          r : Record
          r = lead.1.0

          target : Name
          target = lead.1.3.0

          finds : Finds origin rs name asked (Alias r)
          finds = lead.1.1

          follows : asks_alias asked ≡ false
          follows = finds.1.2.0

          data_is : r.rdata ≡ variants.Cname target
          data_is = ap (λ (a : Record). a.rdata) (sym lead.1.2) ∙ lead.1.3.1

          clear : not (within_any m.cuts.items above) ≡ true
          clear = ap not (false_from_ne_true (within_any m.cuts.items above) (λ e.
              let found = is_within_any m.cuts.items above e in
              let up : IsWithin name found.0 = within_within name (label ∷ above) found.0 below (one_more label above found.0 found.2) in
              not_cut_off rules caller origin rs zone names known m is name asked finds.0 found.0 found.1 up (λ same.
              free (known_above origin rules rs names known found.0 (label ∷ above) (cut_is_stays rules caller origin rs zone names known m is found.0 found.1).0 (subst (λ (n : Name). IsWithin n (label ∷ above)) same.0 below) inside))))

          under : found_under origin rs above asked ≡ Alias r
          under =
              let whole : name ≡ below.0 ++ label ∷ above = below.1 in
              let same : found_at origin rs (below.0 ++ label ∷ above) asked ≡ found_under origin rs above asked = found_same rs label above gone origin asked below.0 (subst (λ (n : Name). IsWithin n origin) whole finds.0.0) in
              sym same ∙ ap (λ (n : Name). found_at origin rs n asked) (sym whole) ∙ sym (finds_one origin rs name asked alone (Alias r) finds)

          alias : alias_under rs above ≡ Some r
          alias = by_cut (cut_over origin rs above) under
            where
              by_cut : (o : Option Name) → found_below_cut rs above asked o ≡ Alias r → alias_under rs above ≡ Some r
              by_cut None e = alias_is rs asked short above r e
              by_cut (Some cut) e = absurd cc

          rest : IsReached rules caller origin rs target asked
          rest = (aliases, last, fewer origin rs asked alone aliases (x ∷ []) [] target last (λ n was. absurd (among_of [] was.0 was.1)) lead.1.3.2, may)

          by_target : (d : Data) → d ≡ variants.Cname target → reaches_target rules caller origin rs m asked (target_in d) ≡ true
          by_target d e =
              ap (λ (x : Data). reaches_target rules caller origin rs m asked (target_in x)) e
              ∙ at_is target (inside_known target r (reached_inside target asked rest) finds.1.2.1 data_is) asked rest

  -- ---- rows

  all_types : (asked : QueryType) → Among asked query_types
  all_types (Kept types.A) = inl refl
  all_types (Kept types.Ns) = inr (inl refl)
  all_types (Kept types.Cname) = inr (inr (inl refl))
  all_types (Kept types.Soa) = inr (inr (inr (inl refl)))
  all_types (Kept types.Ptr) = inr (inr (inr (inr (inl refl))))
  all_types (Kept types.Mx) = inr (inr (inr (inr (inr (inl refl)))))
  all_types (Kept types.Txt) = inr (inr (inr (inr (inr (inr (inl refl))))))
  all_types (Kept types.Aaaa) = inr (inr (inr (inr (inr (inr (inr (inl refl)))))))
  all_types (Kept types.Srv) = inr (inr (inr (inr (inr (inr (inr (inr (inl refl))))))))
  all_types (Kept types.Ds) = inr (inr (inr (inr (inr (inr (inr (inr (inr (inl refl)))))))))
  all_types Any = inr (inr (inr (inr (inr (inr (inr (inr (inr (inr (inl refl))))))))))
  all_types Other = inr (inr (inr (inr (inr (inr (inr (inr (inr (inr (inr (inl refl)))))))))))

  passes : (p : QueryType → Bool) (xs : List QueryType) (x : QueryType) → Among x xs → p x ≡ true → Among x (filter p xs)
  passes p [] x a e = absurd a
  passes p (y ∷ ys) x a e = by_test (p y) refl (elim a [ inl same ↦ inl same | inr later ↦ inr (passes p ys x later e) ])
    where
      by_test : (b : Bool) → p y ≡ b → (x ≡ y) ⊎ Among x (filter p ys) → Among x (cond b (y ∷ filter p ys) (filter p ys))
      by_test true t here = here
      by_test false t here = (elim here [ inl same ↦ absurd (no_test (p y) (ap p (sym same) ∙ e) t) | inr later ↦ later ])

  -- the row of a group has each type that is reached
  in_row : (group : ReachedNames) (types : List QueryType) (asked : QueryType) → Among asked types → (row : RowOf) × Among row (if_types group types) × (row.names ≡ group) × Among asked row.types
  in_row group [] asked a = absurd a
  in_row group (t ∷ types) asked a = (record { names = group; types = t ∷ types }, inl refl, refl, a)

  row_back : (rows : List ReachedAnswers) (row : RowOf) → Among row (map row_of rows) → (r : ReachedAnswers) × Among r rows × (row_of r ≡ row)
  row_back [] row a = absurd a
  row_back (r ∷ rows) row a = (elim a [ inl same ↦ (r, inl refl, sym same) | inr later ↦ (let found = row_back rows row later in (found.0, inr found.1, found.2)) ])

  listed : (rows : List ReachedAnswers) → map row_of rows ≡ rows_for rules caller origin rs m names → (group : ReachedNames) (k : Name) → Among k names → ((row : RowOf) → Among row (row_for rules caller origin rs m group) → Among row (rows_at rules caller origin rs m k))
      → (asked : QueryType) → reaches_in rules caller origin rs m group asked ≡ true → (name : Name) → IsIn rules rs group name → IsListed rules rs rows name asked
  listed rows are group k here there asked e name is_in =
      let found = in_row group (types_in rules caller origin rs m group) asked (passes (reaches_in rules caller origin rs m group) query_types asked (all_types asked) e) in
      let among : Among found.0 (rows_for rules caller origin rs m names) = flat_among (rows_at rules caller origin rs m) names k found.0 here (there found.0 found.1) in
      let back = row_back rows found.0 (subst (λ (l : List RowOf). Among found.0 l) (sym are) among) in
      let named_so : back.0.names ≡ group = ap (λ (row : RowOf). row.names) back.2 ∙ found.2 in
      let typed : Among asked back.0.types.items = subst (λ (l : List QueryType). Among asked l) (sym (ap (λ (row : RowOf). row.types) back.2)) found.3 in
      (back.0, of_among rows back.0 back.1, subst (λ (g : ReachedNames). IsIn rules rs g name) (sym named_so) is_in, of_among back.0.types.items asked typed)

  -- a question that is not in a row is not reached
  row_of_question : (rows : List ReachedAnswers) → map row_of rows ≡ rows_for rules caller origin rs m names → (name : Name) (asked : QueryType) → ¬ (¬ IsReached rules caller origin rs name asked) → IsListed rules rs rows name asked
  row_of_question rows are name asked reached = by_inside (is_within name origin) refl
    where
      by_known : IsWithin name origin → (b : Bool) → has_name names name ≡ b → IsListed rules rs rows name asked
      by_known inside true k =
          let here = has_is names name k in
          listed rows are (At name) name here (λ row a. (among_append (row_for rules caller origin rs m (At name)) (row_for rules caller origin rs m (Others name)) row).1 (inl a)) asked
          (true_from_ne_false (reaches rules caller origin rs m name asked) (λ f. reached (λ is_so. no_test (reaches rules caller origin rs m name asked) (at_is name here asked is_so) f))) name refl
      by_known inside false k =
          let found = cover origin rules rs names known (home rules caller origin rs zone names known m is) name inside (λ here. no_test (has_name names name) (is_has names name here) k) in
          let label = found.1 in
          let above = found.2 in
          let free : ¬ Among (label ∷ above) names = found.5 in
          let inner : IsWithin (label ∷ above) origin = one_more label above origin (known_is origin rules rs names known above found.4).0 in
          listed rows are (Others above) above found.4 (λ row a. (among_append (row_for rules caller origin rs m (At above)) (row_for rules caller origin rs m (Others above)) row).1 (inr a)) asked
          (true_from_ne_false (reaches_under rules caller origin rs m above asked) (λ f. reached (λ is_so.
          no_test (reaches_under rules caller origin rs m above asked) (under_is label above found.4 free name (found.0, found.3) asked is_so) f)))
          name (found.0, label, found.3, (λ named_at. free (is_known origin rules rs names known (label ∷ above) inner named_at)))

      by_inside : (b : Bool) → is_within name origin ≡ b → IsListed rules rs rows name asked
      by_inside true t = by_known ((is_within-Decides name origin).0 t) (has_name names name) refl
      by_inside false t = absurd (reached (λ is_so. no_test (is_within name origin) ((is_within-Decides name origin).1 (reached_inside name asked is_so)) t))

-- ---- whatever the caller makes of the zone

pub all_listed : (rules : List Rule) (caller : List ℕ) (before : ZoneOf) → IsZone before → (rows : List ReachedAnswers) → AreRowsOf rules caller before.origin (listing before.records) rows
    → (after : ZoneOf) → CanMake rules caller before after → (name : Name) (asked : QueryType) → Differs before.origin (listing before.records) (listing after.records) name asked → IsListed rules (listing before.records) rows name asked
all_listed rules caller before whole rows are after can name asked differs =
    let zone = zone_rows rules caller before whole before whole in
    let made = all_possible rules caller before whole after can in
    row_of_question rules caller before.origin (listing before.records) zone are.names are.known are.lists are.are rows are.each name asked (λ never.
    unreached rules caller before.origin (listing before.records) (listing after.records) zone made.1.0 (itself rules caller before.origin (listing before.records) zone.order) made.1.1 asked name never differs)
