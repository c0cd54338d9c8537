-- What a caller may list of a zone is what it may list within the name to which its grants reach.
use Rattle.std.proofs.Common.{◌≡◌, ℕ, List, [], ◌∷◌, Bool, true, false, cond, Option, Some, None, option_map, Result, Ok, Err, IfOk, inl, inr, ⊎_elim, refl, sym, ap, subst, ◌∙◌}
use Rattle.std.specs.List.{filter}
use Rattle.std.specs.List.Sorted.{IsStrictlySortedBy}
use Rattle.std.proofs.lemmas.Bool.{cases_Bool, false≢true}
use Rattle.dns_names.proofs.NameLemmas.{is_within-Decides}
use Rattle.dns_data.specs.declared.record.Record.{Record}
use Rattle.dns_data.specs.Rdata.{type_of}
use Rattle.grant_policy.specs.declared.action.Action.TheVariants as action
use Rattle.grant_policy.specs.declared.rule.Rule.{Rule}
use Rattle.grant_policy.specs.declared.action.Action.{Action}
use Rattle.grant_policy.specs.Grants.{GrantsOf}
use Rattle.grant_policy.specs.Reach.{GrantsNowhere, GrantsWithin, GrantsWithinSome}
use Rattle.zone_core.specs.Outermost.{AreApart}
use Rattle.zone_core.specs.Sets.{InOrder, key_of, listing, part, within}
use Rattle.zone_core.specs.Zones.{IsZone}
use Rattle.zone_core.proofs.RowLemmas.{InOrder-filter, listed_part}
use Rattle.zone_core.proofs.ChangedLemmas as changed
use Rattle.office_model.specs.States.{AreZones, Held, State, zone_held, subtree_at}
use Rattle.office_model.specs.Tables.{included}
use Rattle.office_core.specs.Machine.{may_list, listed, listed_at}
use Rattle.office_core.specs.Subtrees.{subtrees, subtrees_at}
use Rattle.office_core.proofs.SubtreesLemmas.{in_some, subtrees_are}
use Rattle.office_core.proofs.FootprintLaws.{In}
use Rattle.office_core.proofs.ListLemmas.{in_listing}

-- ---- lists

-- a test after another that it implies
twice : {X : Type 0} (p q : X → Bool) (xs : List X) → ((x : X) → In x xs → p x ≡ true → q x ≡ true) → filter p (filter q xs) ≡ filter p xs
twice p q [] through = refl
twice {X} p q (x ∷ xs) through = by_test (twice p q xs (λ y i. through y (inr i)))
  where
    fails : q x ≡ false → p x ≡ false
    fails no' = ⊎_elim (λ (yes' : p x ≡ true). absurd (false≢true (sym no' ∙ through x (inl refl) yes'))) (λ (not' : p x ≡ false). not') (cases_Bool (p x))

    by_test : filter p (filter q xs) ≡ filter p xs → filter p (filter q (x ∷ xs)) ≡ filter p (x ∷ xs)
    by_test rest =
        ⊎_elim
        (λ (yes' : q x ≡ true). ap (λ (b : Bool). filter p (cond b (x ∷ filter q xs) (filter q xs))) yes' ∙ ap (λ (l : List X). cond (p x) (x ∷ l) l) rest)
        (λ (no' : q x ≡ false).
        ap (λ (b : Bool). filter p (cond b (x ∷ filter q xs) (filter q xs))) no'
        ∙ rest
        ∙ sym (ap (λ (b : Bool). cond b (x ∷ filter p xs) (filter p xs)) (fails no')))
        (cases_Bool (q x))

-- a test that none passes
none : {X : Type 0} (p : X → Bool) (xs : List X) → ((x : X) → In x xs → p x ≡ false) → filter p xs ≡ []
none p [] fails = refl
none p (x ∷ xs) fails = ap (λ (b : Bool). cond b (x ∷ filter p xs) (filter p xs)) (fails x (inl refl)) ∙ none p xs (λ y i. fails y (inr i))

-- ---- what is listed

-- those that grants to list include are those that the caller may list
pub listed_by : (g : GrantsOf) (rs : List Record) → g.action ≡ action.List → included g rs ≡ listed g.rules g.caller rs
listed_by g rs is = ap (λ (a : Action). included (record g { action = a }) rs) is

module _ (rules : List Rule) (caller : List ℕ) (origin : List (List ℕ)) where
  listed_within : (top : List (List ℕ)) (held : Held) → IsZone (zone_held origin held) → GrantsWithin rules caller action.List origin top
      → listed rules caller (listing (part held.records (within top))) ≡ listed rules caller (listing held.records)
  listed_within top held zone reaches =
      let set = held.records in
      let rows = changed.listed set zone.kept in
      ap (λ (rs : List Record). listed rules caller rs) (sym (listed_part (within top) (listing set) (listing set) set refl rows.set rows.order))
      ∙ twice (may_list rules caller) (λ r. within top (key_of r)) (listing set)
      (λ r i may. (is_within-Decides r.owner top).1 (reaches r.owner (type_of r.rdata) (zone.owners r ((in_listing set zone.kept r).0 i)) may))

  listed_nowhere : (held : Held) → IsZone (zone_held origin held) → GrantsNowhere rules caller action.List origin → [] ≡ listed rules caller (listing held.records)
  listed_nowhere held zone nowhere =
      let set = held.records in
      sym (none (may_list rules caller) (listing set) (λ r i. nowhere r.owner (type_of r.rdata) (zone.owners r ((in_listing set zone.kept r).0 i))))

  -- nothing
  pub by_none : (s : State) → AreZones s → GrantsNowhere rules caller action.List origin → option_map (λ held. []) (s.zones origin) ≡ listed_at rules caller s origin
  by_none s zones nowhere = of_held (s.zones origin) (zones origin)
    where
      of_held : (h : Option Held) → ((held : Held) → h ≡ Some held → IsZone (zone_held origin held)) → option_map (λ held. []) h ≡ option_map (λ held. listed rules caller (listing held.records)) h
      of_held None each = refl
      of_held (Some held) each = ap (λ (rs : List Record). Some rs) (listed_nowhere held (each held refl) nowhere)

  -- by those within a name
  pub by_subtree : (s : State) (top : List (List ℕ)) → AreZones s → GrantsWithin rules caller action.List origin top
      → option_map (λ rs. listed rules caller rs) (subtree_at s origin top) ≡ listed_at rules caller s origin
  by_subtree s top zones reaches = of_held (s.zones origin) (zones origin)
    where
      of_held : (h : Option Held) → ((held : Held) → h ≡ Some held → IsZone (zone_held origin held))
          → option_map (λ rs. listed rules caller rs) (option_map (λ zone. listing (part zone.records (within top))) (option_map (zone_held origin) h)) ≡ option_map (λ held. listed rules caller (listing held.records)) h
      of_held None each = refl
      of_held (Some held) each = ap (λ (rs : List Record). Some rs) (listed_within top held (each held refl) reaches)

  listed_within_some : (tops : List (List (List ℕ))) → AreApart tops → (held : Held) → IsZone (zone_held origin held) → GrantsWithinSome rules caller action.List origin tops
      → listed rules caller (subtrees held.records tops) ≡ listed rules caller (listing held.records)
  listed_within_some tops apart held zone reaches =
      let set = held.records in
      ap (λ (rs : List Record). listed rules caller rs) (subtrees_are set zone.kept tops apart)
      ∙ twice (may_list rules caller) (in_some tops) (listing set) (λ r i may. reaches r.owner (type_of r.rdata) (zone.owners r ((in_listing set zone.kept r).0 i)) may)

  -- by those within several
  pub by_subtrees : (s : State) (tops : List (List (List ℕ))) → AreZones s → AreApart tops → GrantsWithinSome rules caller action.List origin tops
      → option_map (λ rs. listed rules caller rs) (subtrees_at s origin tops) ≡ listed_at rules caller s origin
  by_subtrees s tops zones apart reaches = of_held (s.zones origin) (zones origin)
    where
      of_held : (h : Option Held) → ((held : Held) → h ≡ Some held → IsZone (zone_held origin held))
          → option_map (λ rs. listed rules caller rs) (option_map (λ zone. subtrees zone.records tops) (option_map (zone_held origin) h)) ≡ option_map (λ held. listed rules caller (listing held.records)) h
      of_held None each = refl
      of_held (Some held) each = ap (λ (rs : List Record). Some rs) (listed_within_some tops apart held (each held refl) reaches)

-- ---- what is read

pub on_ok : {X E : Type 0} {P Q : X → Type 0} (r : Result X E) → ((x : X) → P x → Q x) → IfOk r P → IfOk r Q
on_ok (Ok x) then p = then x p
on_ok (Err e) then p = tt

-- a function after another
pub fused : {X Y Z : Type 0} (f : X → Y) (g : Y → Z) (o : Option X) → option_map (λ x. g (f x)) o ≡ option_map g (option_map f o)
fused f g None = refl
fused f g (Some x) = refl

-- in order
pub none_in_order : (rs : List Record) → rs ≡ [] → InOrder rs
unfolding IsStrictlySortedBy
none_in_order rs e = subst InOrder (sym e) tt

pub listed_in_order : (rules : List Rule) (caller : List ℕ) (rs found : List Record) → InOrder rs → found ≡ listed rules caller rs → InOrder found
listed_in_order rules caller rs found order e = subst InOrder (sym e) (InOrder-filter (may_list rules caller) rs order)
