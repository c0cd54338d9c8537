-- The findings in a zone are those of its records that are at fault, in order.
use Rattle.std.proofs.Common.{◌≡◌, ◌↔◌, ◌⊎◌, ℕ, zero, suc, ◌+◌, ◌<◌, List, [], ◌∷◌, ◌++◌, length, Bool, true, false, cond, Some, refl, sym, ap, subst, ◌∙◌, inl, inr, arith, append_assoc, append-nil, add-zero, ltb, ◌&&◌}
use borrow.Author.Tests.{ltb-true}
use Rattle.std.specs.Prelude.{slice_get}
use Rattle.std.specs.declared.cmp.Ordering.TheVariants.{Less, Equal}
use Rattle.std.specs.Ordering.{nat_cmp, ordering_then}
use Rattle.std.specs.List.{AllByRecursion, Contains, list_all}
use Rattle.std.proofs.lemmas.Bool.{and_parts}
use Rattle.std.specs.List.Sorted.{IsStrictlySortedBy}
use Rattle.dns_names.proofs.KeyLaws.{less, tied}
use Rattle.std.proofs.lemmas.Option.{slice_get-get_or}
use Rattle.dns_names.specs.Labels.{IsBelow}
use Rattle.dns_data.specs.declared.record.Record.{Record}
use Rattle.dns_data.specs.declared.record_type.RecordType.TheVariants as types
use Rattle.dns_data.specs.declared.rdata.Data.{Data}
use Rattle.dns_data.specs.declared.rdata.Data.TheVariants as variants
use Rattle.dns_data.specs.Rdata.{type_of}
use Rattle.zone_core.specs.Delegations.{HasAddress}
use Rattle.zone_core.proofs.MetLemmas.{Among, among_of, of_among, among_append}
use Rattle.zone_core.proofs.BelowLemmas.{Name, no_test}
use Rattle.zone_tools.specs.declared.zone_rule.ZoneRule.{ZoneRule}
use Rattle.zone_tools.specs.declared.zone_rule.ZoneRule.TheVariants.{HostName, AliasTarget, MissingAddress, MissingGlue, BelowCut, DsWithoutNs, WildcardNs, DigestLength, WeakDigest, AddressName, UnreadOctet, DanglingAlias}
use Rattle.zone_tools.specs.declared.zone_finding.Finding.{Finding}
use Rattle.zone_tools.specs.ZoneRules.{all_rules, rule_place, IsOccluded, IsAtFault}
use Rattle.zone_tools.specs.ZoneTests.{is_address, records_at, some_type, is_at_fault}
use Rattle.zone_tools.specs.ZoneFindings.{finding_order, CleanZonesHaveGlue, AreFindings, finding_by, findings_by, findings_at, findings_from}
use Rattle.zone_tools.proofs.AtFaultLemmas.{has_address-Decides, fault-Decides}

-- ---- lists in order

all_append : (P : Finding → Type 0) (xs ys : List Finding) → AllByRecursion P xs → AllByRecursion P ys → AllByRecursion P (xs ++ ys)
all_append P [] ys p q = q
all_append P (x ∷ xs) ys p q = (p.0, all_append P xs ys p.1 q)

all_from : (P : Finding → Type 0) (xs : List Finding) → ((x : Finding) → Among x xs → P x) → AllByRecursion P xs
all_from P [] f = tt
all_from P (x ∷ xs) f = (f x (inl refl), all_from P xs (λ y a. f y (inr a)))

in_order : (xs ys : List Finding) → IsStrictlySortedBy finding_order xs → IsStrictlySortedBy finding_order ys
    → ((x y : Finding) → Among x xs → Among y ys → finding_order x y ≡ Less) → IsStrictlySortedBy finding_order (xs ++ ys)
unfolding IsStrictlySortedBy
in_order [] ys p q f = q
in_order (x ∷ xs) ys p q f =
    (all_append (λ y. finding_order x y ≡ Less) xs ys p.0 (all_from (λ y. finding_order x y ≡ Less) ys (λ y a. f x y (inl refl) a)), in_order xs ys p.1 q (λ v y a b. f v y (inr a) b))

none_in_order : IsStrictlySortedBy finding_order []
unfolding IsStrictlySortedBy
none_in_order = tt

-- ---- the rules

every_rule : (rule : ZoneRule) → Among rule all_rules
every_rule HostName = inl refl
every_rule AliasTarget = inr (inl refl)
every_rule MissingAddress = inr (inr (inl refl))
every_rule MissingGlue = inr (inr (inr (inl refl)))
every_rule BelowCut = inr (inr (inr (inr (inl refl))))
every_rule DsWithoutNs = inr (inr (inr (inr (inr (inl refl)))))
every_rule WildcardNs = inr (inr (inr (inr (inr (inr (inl refl))))))
every_rule DigestLength = inr (inr (inr (inr (inr (inr (inr (inl refl)))))))
every_rule WeakDigest = inr (inr (inr (inr (inr (inr (inr (inr (inl refl))))))))
every_rule AddressName = inr (inr (inr (inr (inr (inr (inr (inr (inr (inl refl)))))))))
every_rule UnreadOctet = inr (inr (inr (inr (inr (inr (inr (inr (inr (inr (inl refl))))))))))
every_rule DanglingAlias = inr (inr (inr (inr (inr (inr (inr (inr (inr (inr (inr (inl refl)))))))))))

-- rules in the order of the table
abbrev Rising : List ZoneRule → Type 0
Rising [] = Unit {0}
Rising (rule ∷ rules) = AllByRecursion (λ s. rule_place rule < rule_place s) rules × Rising rules

-- the same as a test
abbrev are_rising : List ZoneRule → Bool
are_rising [] = true
are_rising (rule ∷ rules) = list_all (λ s. ltb (rule_place rule) (rule_place s)) rules && are_rising rules

all_higher : (rule : ZoneRule) (rules : List ZoneRule) → list_all (λ s. ltb (rule_place rule) (rule_place s)) rules ≡ true → AllByRecursion (λ s. rule_place rule < rule_place s) rules
all_higher rule [] e = tt
all_higher rule (s ∷ rules) e =
    let parts = and_parts (ltb (rule_place rule) (rule_place s)) (list_all (λ s. ltb (rule_place rule) (rule_place s)) rules) e in
    (ltb-true (rule_place rule) (rule_place s) parts.0, all_higher rule rules parts.1)

rising : (rules : List ZoneRule) → are_rising rules ≡ true → Rising rules
rising [] e = tt
rising (rule ∷ rules) e =
    let parts = and_parts (list_all (λ s. ltb (rule_place rule) (rule_place s)) rules) (are_rising rules) e in
    (all_higher rule rules parts.0, rising rules parts.1)

all_rising : Rising all_rules
all_rising = rising all_rules refl

among_all : (P : ZoneRule → Type 0) (rules : List ZoneRule) (rule : ZoneRule) → AllByRecursion P rules → Among rule rules → P rule
among_all P [] rule all a = absurd a
among_all P (s ∷ rules) rule all a = (elim a [ inl e ↦ subst P (sym e) all.0 | inr later ↦ among_all P rules rule all.1 later ])

module _ (origin : Name) (rs : List Record) where
  -- ---- the findings of one record

  module _ (place : ℕ) (r : Record) where
    one_is : (rule : ZoneRule) (f : Finding) → Among f (finding_by origin rs r (record { place = place; rule = rule })) ↔ ((f ≡ record { place = place; rule = rule }) × (is_at_fault rule origin rs r ≡ true))
    one_is rule f = by_test (is_at_fault rule origin rs r) refl
      where
        by_test : (b : Bool) → is_at_fault rule origin rs r ≡ b → Among f (cond b ((record { place = place; rule = rule }) ∷ []) []) ↔ ((f ≡ record { place = place; rule = rule }) × (is_at_fault rule origin rs r ≡ true))
        by_test true e = (λ a. (elim a [ inl same ↦ (same, e) | inr none ↦ absurd none ]), λ both. inl both.0)
        by_test false e = (λ a. absurd a, λ both. absurd (let c : true ≡ false = sym both.1 ∙ e in cc))

    by_is : (rules : List ZoneRule) (f : Finding) → Among f (findings_by origin rs place r rules) ↔ ((f.place ≡ place) × Among f.rule rules × (is_at_fault f.rule origin rs r ≡ true))
    by_is [] f = (λ a. absurd a, λ all. absurd all.1)
    by_is (rule ∷ rules) f =
        let parts = among_append (finding_by origin rs r (record { place = place; rule = rule })) (findings_by origin rs place r rules) f in
        let one = one_is rule f in
        let rest = by_is rules f in (
          λ a. (elim (parts.0 a) [
            | inl here ↦ (let both = one.0 here in let named = ap (λ (x : Finding). x.rule) both.0 in (ap (λ (x : Finding). x.place) both.0, inl named, ap (λ (x : ZoneRule). is_at_fault x origin rs r) named ∙ both.1))
            | inr later ↦ (let all = rest.0 later in (all.0, inr all.1, all.2))
          ]),
          λ all. (elim (all.1) [
            | inl same ↦ parts.1 (inl (one.1 (λ i. record { place = all.0 i; rule = same i }, ap (λ (x : ZoneRule). is_at_fault x origin rs r) (sym same) ∙ all.2)))
            | inr later ↦ parts.1 (inr (rest.1 (all.0, later, all.2)))
          ]),
        )

    at_is : (f : Finding) → Among f (findings_at origin rs place r) ↔ ((f.place ≡ place) × (is_at_fault f.rule origin rs r ≡ true))
    at_is f =
        let all = by_is all_rules f in
        (λ a. let found = all.0 a in (found.0, found.2), λ both. all.1 (both.0, every_rule f.rule, both.1))

    one_in_order : (rule : ZoneRule) → IsStrictlySortedBy finding_order (finding_by origin rs r (record { place = place; rule = rule }))
    unfolding IsStrictlySortedBy
    one_in_order rule = by_test (is_at_fault rule origin rs r)
      where
        by_test : (b : Bool) → IsStrictlySortedBy finding_order (cond b ((record { place = place; rule = rule }) ∷ []) [])
        by_test true = (tt, tt)
        by_test false = tt

    by_in_order : (rules : List ZoneRule) → Rising rules → IsStrictlySortedBy finding_order (findings_by origin rs place r rules)
    by_in_order [] up = none_in_order
    by_in_order (rule ∷ rules) up =
        in_order (finding_by origin rs r (record { place = place; rule = rule })) (findings_by origin rs place r rules) (one_in_order rule) (by_in_order rules up.1)
        (λ x y a b.
        let here = ((one_is rule x).0 a).0 in
        let later = (by_is rules y).0 b in
        let first : nat_cmp x.place y.place ≡ Equal = (λ i. nat_cmp (here i).place (later.0 i)) ∙ tied place in
        let second : nat_cmp (rule_place x.rule) (rule_place y.rule) ≡ Less = ap (λ (f : Finding). nat_cmp (rule_place f.rule) (rule_place y.rule)) here ∙ less (rule_place rule) (rule_place y.rule) (among_all (λ s. rule_place rule < rule_place s) rules y.rule up.0 later.1) in
        (λ i. ordering_then (first i) (second i)))

  -- ---- the findings of records

  pub from_append : (n : ℕ) (xs : List Record) (x : Record) → findings_from origin rs n (xs ++ x ∷ []) ≡ findings_from origin rs n xs ++ findings_at origin rs (n + length xs) x
  from_append n [] x = append-nil (findings_at origin rs n x) ∙ ap (λ k. findings_at origin rs k x) (sym (add-zero n))
  from_append n (y ∷ xs) x =
      ap (λ (zs : List Finding). findings_at origin rs n y ++ zs) (from_append (n + 1) xs x)
      ∙ sym (append_assoc (findings_at origin rs n y) (findings_from origin rs (n + 1) xs) (findings_at origin rs (n + 1 + length xs) x))
      ∙ (let e : n + 1 + length xs ≡ n + suc (length xs) = omega arith in ap (λ k. (findings_at origin rs n y ++ findings_from origin rs (n + 1) xs) ++ findings_at origin rs k x) e)

  -- the records from a place on have no findings before it
  from_is : (n : ℕ) (xs : List Record) (f : Finding) → Among f (findings_from origin rs n xs) ↔ ((k : ℕ) × (r : Record) × (f.place ≡ n + k) × (slice_get xs k ≡ Some r) × (is_at_fault f.rule origin rs r ≡ true))
  from_is n [] f = (λ a. absurd a, λ found. absurd (let e = found.3 in cc))
  from_is n (x ∷ xs) f =
      let parts = among_append (findings_at origin rs n x) (findings_from origin rs (n + 1) xs) f in
      let here = at_is n x f in
      let rest = from_is (n + 1) xs f in (
        λ a. (elim (parts.0 a) [
          | inl now ↦ (let both = here.0 now in (0, x, omega (arith, both.0), refl, both.1))
          | inr later ↦ (let found = rest.0 later in (suc found.0, found.1, omega (arith, found.2), found.3, found.4))
        ]),
        λ found. by_place found.0 found.1 found.2 found.3 found.4 (λ k r p q t. parts.1 (inr (rest.1 (k, r, p, q, t)))) (λ p t. parts.1 (inl (here.1 (p, t)))),
      )
    where
      by_place : {Q : Type 0} (k : ℕ) (r : Record) → f.place ≡ n + k → slice_get (x ∷ xs) k ≡ Some r → is_at_fault f.rule origin rs r ≡ true
          → ((k : ℕ) (r : Record) → f.place ≡ n + 1 + k → slice_get xs k ≡ Some r → is_at_fault f.rule origin rs r ≡ true → Q) → (f.place ≡ n → is_at_fault f.rule origin rs x ≡ true → Q) → Q
      by_place zero r p q t later now = now (omega (arith, p)) (let same : x ≡ r = (let e : Some x ≡ Some r = q in cc) in ap (λ (y : Record). is_at_fault f.rule origin rs y) same ∙ t)
      by_place (suc k) r p q t later now = later k r (omega (arith, p)) q t

  from_in_order : (n : ℕ) (xs : List Record) → IsStrictlySortedBy finding_order (findings_from origin rs n xs)
  from_in_order n [] = none_in_order
  from_in_order n (x ∷ xs) =
      in_order (findings_at origin rs n x) (findings_from origin rs (n + 1) xs) (by_in_order n x all_rules all_rising) (from_in_order (n + 1) xs)
      (λ a b p q.
      let first = ((at_is n x a).0 p).0 in
      let later = (from_is (n + 1) xs b).0 q in
      let before : nat_cmp a.place b.place ≡ Less = less a.place b.place (omega (arith, first, later.2)) in
      ap (λ o. ordering_then o (nat_cmp (rule_place a.rule) (rule_place b.rule))) before)

  -- they are what is to be found
  pub findings_are : (xs : List Finding) → xs ≡ findings_from origin rs 0 rs → AreFindings origin rs xs
  findings_are xs e =
      subst (AreFindings origin rs) (sym e)
      (record {
        each = λ f. (
          λ c.
              let found = (from_is 0 rs f).0 (among_of (findings_from origin rs 0 rs) f c) in
              let place : f.place ≡ found.0 = omega (arith, found.2) in
              (found.1, ap (slice_get rs) place ∙ found.3, (fault-Decides origin rs found.1 f.rule).0 found.4),
          λ has. of_among (findings_from origin rs 0 rs) f ((from_is 0 rs f).1 (f.place, has.0, omega arith, has.1, (fault-Decides origin rs has.0 f.rule).1 has.2)),
        );
        order = from_in_order 0 rs;
      })

-- ---- what follows

ns_no_address : (d : Data) (server : Name) → d ≡ variants.Ns server → ((type_of d ≡ types.A) ⊎ (type_of d ≡ types.Aaaa)) → ⊥
ns_no_address d server e address =
    let t : type_of d ≡ types.Ns = ap (λ (x : Data). type_of x) e in
    (elim address [ inl a ↦ (let c : types.Ns ≡ types.A = sym t ∙ a in cc) | inr a ↦ (let c : types.Ns ≡ types.Aaaa = sym t ∙ a in cc) ])

pub glue_there : CleanZonesHaveGlue
glue_there origin rs clean child server cut has inside = by_test (some_type is_address (records_at rs server)) refl
  where
    clear : (rule : ZoneRule) (r : Record) → Contains rs r → IsAtFault rule origin rs r → ⊥
    clear rule r c fault =
        let there : slice_get rs c.0 ≡ Some r = slice_get-get_or rs c.0 r c.1 ∙ ap Some c.2 in
        let none = (clean.each (record { place = c.0; rule = rule })).1 (r, there, fault) in
        omega (arith, none.1)

    by_test : (b : Bool) → some_type is_address (records_at rs server) ≡ b → HasAddress rs server
    by_test true e = (has_address-Decides rs server).0 e
    by_test false e =
        let r = has.0 in
        let visible : ¬ IsOccluded origin rs r = λ hidden. clear BelowCut r has.1 (hidden, λ glue. ns_no_address r.rdata server has.3 glue.0) in
        absurd (clear MissingGlue r has.1 (
          server,
          record {
            named = has.3;
            visible = visible;
            cut = subst (λ (n : Name). IsBelow n origin) (sym has.2) cut.0;
            delegated = (child, cut, inside);
          },
          λ address. no_test (some_type is_address (records_at rs server)) ((has_address-Decides rs server).1 address) e,
        ))
