-- Names that are looked up, and those that are known.
use Rattle.std.proofs.Common.{◌≡◌, ◌≢◌, ◌⊎◌, ℕ, List, [], ◌∷◌, ◌++◌, length, Bool, true, false, cond, ◌||◌, refl, sym, ap, subst, inl, inr, arith}
use Rattle.std.specs.List.{list_any, flat_map}
use Rattle.dns_names.specs.Labels.{IsWithin, IsBelow, is_within}
use Rattle.dns_names.specs.Order.{same_name}
use Rattle.dns_names.proofs.NameLemmas.{is_within-Decides}
use Rattle.dns_data.specs.declared.record.Record.{Record}
use Rattle.dns_data.specs.declared.record_type.RecordType.{RecordType}
use Rattle.dns_data.specs.declared.record_type.RecordType.TheVariants as types
use Rattle.dns_data.specs.declared.rdata.Data.{Data}
use Rattle.dns_data.specs.declared.rdata.Data.TheVariants as variants
use Rattle.dns_data.specs.Types.{kept_types}
use Rattle.grant_policy.specs.declared.rule.Rule.{Rule}
use Rattle.zone_core.specs.Delegations.{AreNamesOf}
use Rattle.zone_core.proofs.SetLemmas.{name_is, name_self, by_cases}
use Rattle.zone_core.proofs.MetLemmas.{Among, among_of, of_among, any_is, is_any, among_append}
use Rattle.zone_core.proofs.BelowLemmas.{no_test, within_itself, within_within}
use Rattle.zone_answers.specs.declared.query_type.QueryType.{QueryType}
use Rattle.zone_answers.specs.declared.query_type.QueryType.TheVariants.{Kept}
use Rattle.zone_answers.specs.Answers.{Name}
use Rattle.zone_answers.specs.AnswerTests.{is_ds}
use Rattle.zone_answers.specs.ChangeTests.{up_to}
use Rattle.zone_answers.proofs.CutLemmas.{within_both, within_root, within_or_is, one_more}
use Rattle.zone_answers.proofs.KnownLemmas.{flat_among}
use Rattle.zone_answers.proofs.LawLemmas.{among_flat}
use Rattle.answer_reach.specs.ReachedGroups.{IsNamed}
use Rattle.answer_reach.specs.ReachTests.{has_name, within_any, below_any, is_cut_off, target_names, named_by, named_by_rule, named}
use Rattle.answer_reach.proofs.PossibleLemmas.{first, second}

-- ---- types

pub all_kept : (t : RecordType) → Among t kept_types
all_kept types.A = inl refl
all_kept types.Ns = inr (inl refl)
all_kept types.Cname = inr (inr (inl refl))
all_kept types.Soa = inr (inr (inr (inl refl)))
all_kept types.Ptr = inr (inr (inr (inr (inl refl))))
all_kept types.Mx = inr (inr (inr (inr (inr (inl refl)))))
all_kept types.Txt = inr (inr (inr (inr (inr (inr (inl refl))))))
all_kept types.Aaaa = inr (inr (inr (inr (inr (inr (inr (inl refl)))))))
all_kept types.Srv = inr (inr (inr (inr (inr (inr (inr (inr (inl refl))))))))
all_kept types.Ds = inr (inr (inr (inr (inr (inr (inr (inr (inr (inl refl)))))))))

pub some_kept : (p : RecordType → Bool) (t : RecordType) → p t ≡ true → list_any p kept_types ≡ true
some_kept p t e = is_any p kept_types t (all_kept t) e

-- ---- names that are looked up

pub has_is : (names : List Name) (name : Name) → has_name names name ≡ true → Among name names
has_is names name e =
    let found = any_is (same_name name) names e in
    subst (λ (n : Name). Among n names) (sym (name_is name found.0 found.2)) found.1

pub is_has : (names : List Name) (name : Name) → Among name names → has_name names name ≡ true
is_has names name a = is_any (same_name name) names name a (name_self name)

pub or_is : (a b : Bool) → (a || b) ≡ true → (a ≡ true) ⊎ (b ≡ true)
or_is true b e = inl refl
or_is false b e = inr e

pub within_is : (names : List Name) (name a : Name) → Among a names → IsWithin name a → within_any names name ≡ true
within_is names [] a among within = is_has names [] (subst (λ (n : Name). Among n names) (within_root a within) among)
within_is names (label ∷ labels) a among within = (elim (within_or_is label labels a within) [
  | inl same ↦ first (has_name names (label ∷ labels)) (within_any names labels) (is_has names (label ∷ labels) (subst (λ (n : Name). Among n names) same among))
  | inr above ↦ second (has_name names (label ∷ labels)) (within_any names labels) (within_is names labels a among above)
])

pub is_within_any : (names : List Name) (name : Name) → within_any names name ≡ true → (a : Name) × Among a names × IsWithin name a
is_within_any names [] e = ([], has_is names [] e, within_itself [])
is_within_any names (label ∷ labels) e = (elim (or_is (has_name names (label ∷ labels)) (within_any names labels) e) [
  | inl here ↦ (label ∷ labels, has_is names (label ∷ labels) here, within_itself (label ∷ labels))
  | inr above ↦ (let found = is_within_any names labels above in (found.0, found.1, one_more label labels found.0 found.2))
])

pub longer : (label : List ℕ) (labels a : Name) → IsWithin labels a → label ∷ labels ≢ a
longer label labels a within e =
    let back : IsWithin labels (label ∷ labels) = subst (IsWithin labels) (sym e) within in
    let same : labels ≡ label ∷ labels = within_both labels (label ∷ labels) back (one_more label labels labels (within_itself labels)) in
    absurd (omega (arith, ap (length {A = List ℕ}) same))

pub below_is : (names : List Name) (name a : Name) → Among a names → IsBelow name a → below_any names name ≡ true
below_is names [] a among below = absurd (below.1 (sym (within_root a below.0)))
below_is names (label ∷ labels) a among below = (elim (within_or_is label labels a below.0) [ inl same ↦ absurd (below.1 (sym same)) | inr above ↦ within_is names labels a among above ])

pub is_below_any : (names : List Name) (name : Name) → below_any names name ≡ true → (a : Name) × Among a names × IsBelow name a
is_below_any names [] e = absurd cc
is_below_any names (label ∷ labels) e =
    let found = is_within_any names labels e in
    (found.0, found.1, (one_more label labels found.0 found.2, longer label labels found.0 found.2))

ds_is : (asked : QueryType) → is_ds asked ≡ true → asked ≡ Kept types.Ds
ds_is (Kept types.Ds) e = refl
ds_is asked e = absurd cc

is_not_ds : (asked : QueryType) → asked ≡ Kept types.Ds → is_ds asked ≡ false → ⊥
is_not_ds asked e f = no_test (is_ds asked) (ap is_ds e) f

pub cut_off_is : (names : List Name) (name : Name) (asked : QueryType) (a : Name) → Among a names → IsWithin name a → ¬ ((name ≡ a) × (asked ≡ Kept types.Ds)) → is_cut_off names name asked ≡ true
cut_off_is names name asked a among within other = by_test (is_ds asked) refl
  where
    by_test : (b : Bool) → is_ds asked ≡ b → cond b (below_any names name) (within_any names name) ≡ true
    by_test true e = below_is names name a among (within, λ same. other (same, ds_is asked e))
    by_test false e = within_is names name a among within

pub is_cut_off_any : (names : List Name) (name : Name) (asked : QueryType) → is_cut_off names name asked ≡ true → (a : Name) × Among a names × IsWithin name a × ¬ ((name ≡ a) × (asked ≡ Kept types.Ds))
is_cut_off_any names name asked e = by_test (is_ds asked) refl e
  where
    by_test : (b : Bool) → is_ds asked ≡ b → cond b (below_any names name) (within_any names name) ≡ true → (a : Name) × Among a names × IsWithin name a × ¬ ((name ≡ a) × (asked ≡ Kept types.Ds))
    by_test true d f = let found = is_below_any names name f in (found.0, found.1, found.2.0, λ both. found.2.1 both.0)
    by_test false d f = let found = is_within_any names name f in (found.0, found.1, found.2, λ both. is_not_ds asked both.1 d)

-- ---- a name and those above it

pub up_to_is : (origin name n : Name) → Among n (up_to origin name) → IsWithin name n × IsWithin n origin
up_to_is origin [] n a = by_test (is_within [] origin) refl a
  where
    by_test : (b : Bool) → is_within [] origin ≡ b → Among n (cond b ([] ∷ []) []) → IsWithin [] n × IsWithin n origin
    by_test false e m = absurd m
    by_test true e m = (elim m [
      | inl same ↦ (subst (IsWithin []) (sym same) (within_itself []), subst (λ (x : Name). IsWithin x origin) (sym same) ((is_within-Decides [] origin).0 e))
      | inr none ↦ absurd none
    ])
up_to_is origin (label ∷ labels) n a = by_test (is_within (label ∷ labels) origin) refl a (up_to_is origin labels n)
  where
    by_test : (b : Bool) → is_within (label ∷ labels) origin ≡ b → Among n (cond b ((label ∷ labels) ∷ up_to origin labels) [])
        → (Among n (up_to origin labels) → IsWithin labels n × IsWithin n origin) → IsWithin (label ∷ labels) n × IsWithin n origin
    by_test false e m later = absurd m
    by_test true e m later = (elim m [
      | inl same ↦ (
        subst (IsWithin (label ∷ labels)) (sym same) (within_itself (label ∷ labels)),
        subst (λ (x : Name). IsWithin x origin) (sym same) ((is_within-Decides (label ∷ labels) origin).0 e),
      )
      | inr rest ↦ (let found = later rest in (one_more label labels n found.0, found.1))
    ])

pub is_up_to : (origin name n : Name) → IsWithin name n → IsWithin n origin → Among n (up_to origin name)
is_up_to origin name n below inside = by_name name below ((is_within-Decides name origin).1 (within_within name n origin below inside))
  where
    by_name : (name : Name) → IsWithin name n → is_within name origin ≡ true → Among n (up_to origin name)
    by_name [] below e =
        let is : n ≡ [] = within_root n below in
        subst (λ (l : List Name). Among n l) (sym (ap (λ b. cond b ([] ∷ []) []) e)) (inl is)
    by_name (label ∷ labels) below e =
        subst (λ (l : List Name). Among n l) (sym (ap (λ b. cond b ((label ∷ labels) ∷ up_to origin labels) []) e))
        (elim (within_or_is label labels n below) [
          | inl same ↦ inl same
          | inr above ↦ inr (by_name labels above ((is_within-Decides labels origin).1 (within_within labels n origin above inside)))
        ])

-- ---- names that are known

target_is : (origin : Name) (d : Data) (n : Name) → Among n (target_names origin d) → (target : Name) × (d ≡ variants.Cname target) × IsWithin target n × IsWithin n origin
target_is origin (variants.Cname target) n a = let found = up_to_is origin target n a in (target, refl, found.0, found.1)
target_is origin d n a = absurd a

module _ (origin : Name) (rules : List Rule) (rs : List Record) (names : List Name) (known : AreNamesOf names (named origin rules rs)) where
  pub is_known : (n : Name) → IsWithin n origin → IsNamed rules rs n → Among n names
  is_known n inside named_at = among_of names n ((known.members n).1 (of_among (named origin rules rs) n ((among_append (flat_map (named_by origin) rs) (flat_map (named_by_rule origin) rules) n).1 (elim named_at [
    | inl there ↦ inl (flat_among (named_by origin) rs there.0 n (among_of rs there.0 there.1)
        ((among_append (up_to origin there.0.owner) (target_names origin there.0.rdata) n).1 (inl (is_up_to origin there.0.owner n there.2 inside))))
    | inr other ↦ (elim other [
      | inl leads ↦ inl (flat_among (named_by origin) rs leads.0 n (among_of rs leads.0 leads.2)
          ((among_append (up_to origin leads.0.owner) (target_names origin leads.0.rdata) n).1
          (inr (subst (λ (d : Data). Among n (target_names origin d)) (sym leads.3) (is_up_to origin leads.1 n leads.4 inside)))))
      | inr rule ↦ inr (flat_among (named_by_rule origin) rules rule.0 n (among_of rules rule.0 rule.1) (is_up_to origin rule.0.at n rule.2 inside))
    ])
  ]))))

  pub known_is : (n : Name) → Among n names → IsWithin n origin × IsNamed rules rs n
  known_is n a = (elim ((among_append (flat_map (named_by origin) rs) (flat_map (named_by_rule origin) rules) n).0 (among_of (named origin rules rs) n ((known.members n).0 (of_among names n a)))) [
    | inl record_by ↦
        (let by = among_flat (named_by origin) rs n record_by in
        let here = of_among rs by.0 by.1 in
        (elim ((among_append (up_to origin by.0.owner) (target_names origin by.0.rdata) n).0 by.2) [
          | inl up ↦ (let found = up_to_is origin by.0.owner n up in (found.1, inl (by.0, here, found.0)))
          | inr target ↦ (let found = target_is origin by.0.rdata n target in (found.3, inr (inl (by.0, found.0, here, found.1, found.2))))
        ]))
    | inr rule_by ↦
        (let by = among_flat (named_by_rule origin) rules n rule_by in
        let found = up_to_is origin by.0.at n by.2 in
        (found.1, inr (inr (by.0, of_among rules by.0 by.1, found.0))))
  ])

  named_above : (n a : Name) → IsWithin n a → IsNamed rules rs n → IsNamed rules rs a
  named_above n a up is = (elim is [
    | inl there ↦ inl (there.0, there.1, within_within there.0.owner n a there.2 up)
    | inr other ↦ (elim other [
      | inl leads ↦ inr (inl (leads.0, leads.1, leads.2, leads.3, within_within leads.1 n a leads.4 up))
      | inr rule ↦ inr (inr (rule.0, rule.1, within_within rule.0.at n a rule.2 up))
    ])
  ])

  -- above a known name all are known, within the origin
  pub known_above : (n a : Name) → Among n names → IsWithin n a → IsWithin a origin → Among a names
  known_above n a among up inside = is_known a inside (named_above n a up (known_is n among).1)

  -- a name that is not known has a nearest one above it that is
  pub cover : (home : Among origin names) (b : Name) → IsWithin b origin → ¬ Among b names → (front : Name) × (label : List ℕ) × (above : Name) × (b ≡ front ++ label ∷ above) × Among above names × ¬ Among (label ∷ above) names
  cover home [] inside other = absurd (other (subst (λ (n : Name). Among n names) (within_root origin inside) home))
  cover home (label ∷ labels) inside other = (elim (within_or_is label labels origin inside) [
    | inl same ↦ absurd (other (subst (λ (n : Name). Among n names) same home))
    | inr up ↦ by_cases (has_name names labels) ((front : Name) × (l : List ℕ) × (above : Name) × (label ∷ labels ≡ front ++ l ∷ above) × Among above names × ¬ Among (l ∷ above) names)
        (λ e. ([], label, labels, refl, has_is names labels e, other))
        (λ e. let found = cover home labels up (λ a. no_test (has_name names labels) (is_has names labels a) e) in
        (label ∷ found.0, found.1, found.2, ap (λ (n : Name). label ∷ n) found.3, found.4, found.5))
  ])
