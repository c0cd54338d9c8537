-- What permitted updates make of a zone is what the caller may make of it.
use Rattle.std.proofs.Common.{◌≡◌, ◌≢◌, ◌⊎◌, ◌↔◌, ℕ, List, [], ◌∷◌, map, length, Bool, true, false, cond, not, ◌&&◌, ◌||◌, ◌==◌, Option, Some, None, refl, sym, ap, subst, ◌∙◌, inl, inr, arith}
use Rattle.std.specs.List.{AllByRecursion}
use Rattle.std.specs.FinMap.{get, find, entries, get-entries}
use Rattle.std.proofs.lemmas.Bool.{and_parts, eqb-true, false_from_ne_true, true_from_ne_false}
use Rattle.std.proofs.lemmas.Bool.Decides.{Decides-eqb}
use Rattle.dns_names.specs.Labels.{IsWithin, is_within}
use Rattle.dns_names.specs.Order.{same_name}
use Rattle.dns_names.proofs.NameLemmas.{is_within-Decides}
use Rattle.dns_data.specs.declared.record.Record.{Record}
use Rattle.dns_data.specs.declared.record_type.RecordType.{RecordType}
use Rattle.dns_data.specs.declared.record_type.RecordType.TheVariants as types
use Rattle.dns_data.specs.declared.rdata.Data.{Data}
use Rattle.dns_data.specs.declared.rdata.Data.TheVariants as variants
use Rattle.dns_data.specs.Rdata.{type_of}
use Rattle.dns_data.specs.contracts.rdata.DataPartialEq.TheImpl as of_data
use Rattle.dns_data.proofs.RecordOrderLemmas.{one_rank}
use Rattle.dns_data.proofs.SameLemmas.{data_decides}
use Rattle.grant_policy.specs.declared.action.Action.TheVariants as action
use Rattle.grant_policy.specs.declared.rule.Rule.{Rule}
use Rattle.zone_core.specs.declared.update.Operation.{Operation}
use Rattle.zone_core.specs.declared.update.Operation.TheVariants.{Add, DeleteRrset, DeleteName, DeleteRecord}
use Rattle.zone_core.specs.Sets.{Key, Records, key_cmp, key_of, rank_of, listing, IsIn, part, has, at, at_name}
use Rattle.zone_core.specs.Zones.{ZoneOf, IsZone, AreKept, first_of, soa_at}
use Rattle.zone_core.specs.Views.{AreOfZone}
use Rattle.zone_core.specs.Updates.{UpdateOf, acted_name}
use Rattle.zone_core.specs.Effects.{is_guarded, next_data, next_version, zone_after}
use Rattle.zone_core.specs.Accounts.{Stands, IsIgnoredAs, IsIgnored, IsKept, Takes, Puts, Makes, AllMake, IsNextOf, IsAdvancedTo}
use Rattle.zone_core.proofs.SetLemmas.{name_is, name_self, key_self, by_cases, some_found, none_there, found_of_part, same_sets}
use Rattle.zone_core.proofs.ZoneLemmas.{at_is, at_has, both_true, no}
use Rattle.zone_core.proofs.ChangedLemmas.{listed}
use Rattle.zone_core.proofs.VersionLemmas.{updates_keep}
use Rattle.zone_core.proofs.MakeLemmas.{updates_make}
use Rattle.zone_core.proofs.MetLemmas.{Among, any_is}
use Rattle.zone_core.proofs.BelowLemmas.{no_test}
use Rattle.zone_answers.specs.declared.query_type.QueryType.TheVariants.{Kept, Any}
use Rattle.zone_answers.specs.Answers.{Name, asked_at}
use Rattle.zone_answers.specs.AnswerChanges.{data_but_serial, but_serial}
use Rattle.zone_answers.specs.ChangeTests.{same_whole}
use Rattle.zone_answers.proofs.SamenessLemmas.{whole_decides}
use Rattle.zone_answers.proofs.SourceLemmas.{among_filter}
use Rattle.zone_answers.proofs.LawLemmas.{row_in, of_zone}
use Rattle.answer_reach.specs.Turns.{may, IsDeletedWith, IsPermittedOperation, IsPermitted, ComesBy, CanMake}
use Rattle.answer_reach.specs.Reach.{is_type, are_apart, remains, are_kept_out, has_place, may_come, may_change, MayUpdate}
use Rattle.answer_reach.proofs.PossibleLemmas.{found_among, asked_owner, first, second, Possible, IsPossible, IsSerial}

-- ---- what is in a set

-- a record is in a set, or it is not
in_or_not : {A : Type 0} (set : Records) (r : Record) → (IsIn r set → A) → (¬ IsIn r set → A) → A
in_or_not {A} set r there other = by_found (get set (key_of r)) refl
  where
    by_found : (o : Option Record) → get set (key_of r) ≡ o → A
    by_found None e = other (λ here. (let f : None ≡ Some r = sym e ∙ here in absurd cc))
    by_found (Some s) e =
        by_cases (same_whole s r) A (λ t. there (e ∙ ap Some ((whole_decides s r).0 t)))
        (λ t. other (λ here. no_test (same_whole s r) ((whole_decides s r).1 (let f : Some s ≡ Some r = sym e ∙ here in cc)) t))

-- the first of what is listed is in the set
first_listed : (m : Records) (x : Record) → first_of (listing m) ≡ Some x → (k : Key) × (get m k ≡ Some x)
first_listed m x e = by_entries (entries m) refl e
  where
    by_entries : (es : List (Key × Record)) → entries m ≡ es → first_of (map (λ (e : Key × Record). e.1) es) ≡ Some x → (k : Key) × (get m k ≡ Some x)
    by_entries [] is f = absurd cc
    by_entries (y ∷ es) is f = (y.0, get-entries m y.0 ∙ ap (find key_cmp y.0) is ∙ ap (λ b. cond b (Some y.1) (find key_cmp y.0 es)) (key_self y.0) ∙ f)

soa_found : (origin : Name) (set : Records) → AreKept set → (x : Record) → soa_at origin set ≡ Some x → IsIn x set × (type_of x.rdata ≡ types.Soa)
soa_found origin set kept x e =
    let one = first_listed (part set (at origin types.Soa)) x e in
    let found = found_of_part set (at origin types.Soa) one.0 x one.1 in
    let key : key_of x ≡ one.0 = (kept one.0 x found.1).0 in
    (ap (get set) key ∙ found.1, one_rank (type_of x.rdata) types.Soa (ap (λ (k : Key). k.1) key ∙ (at_is origin types.Soa one.0 found.0).1))

next_but_serial : (r : Record) → but_serial (next_version r) ≡ but_serial r
next_but_serial r = λ i. record { owner = r.owner; ttl = r.ttl; rdata = same_data r.rdata i }
  where
    same_data : (d : Data) → data_but_serial (next_data d) ≡ data_but_serial d
    same_data (variants.Soa soa) = refl
    same_data d = refl

-- ---- types

guards : (t : RecordType) → is_guarded (rank_of t) ≡ true → IsKept t
guards t e = by_test (rank_of t == rank_of types.Soa) refl e
  where
    by_test : (b : Bool) → (rank_of t == rank_of types.Soa) ≡ b → (b || (rank_of t == rank_of types.Ns)) ≡ true → IsKept t
    by_test true f g = inl (one_rank t types.Soa (eqb-true (rank_of t) (rank_of types.Soa) f))
    by_test false f g = inr (one_rank t types.Ns (eqb-true (rank_of t) (rank_of types.Ns) g))

pub is_one : (t u : RecordType) → is_type t u ≡ true → t ≡ u
is_one t u e = one_rank t u (eqb-true (rank_of t) (rank_of u) e)

pub not_one : (t u : RecordType) → not (is_type t u) ≡ true → t ≢ u
not_one t u e same = absurd (no (is_type t u) (ap (λ (x : RecordType). is_type x u) same ∙ (Decides-eqb (rank_of u) (rank_of u)).1 refl) (opened (is_type t u) e))
  where
    opened : (b : Bool) → not b ≡ true → b ≡ false
    opened true f = absurd cc
    opened false f = refl

-- a CNAME and another type
apart_is : (t u : RecordType) → are_apart t u ≡ true → ((t ≡ types.Cname) × (u ≢ types.Cname)) ⊎ ((u ≡ types.Cname) × (t ≢ types.Cname))
apart_is t u e = by_test (is_type t types.Cname && not (is_type u types.Cname)) refl e
  where
    by_test : (b : Bool) → (is_type t types.Cname && not (is_type u types.Cname)) ≡ b → (b || (is_type u types.Cname && not (is_type t types.Cname))) ≡ true
        → ((t ≡ types.Cname) × (u ≢ types.Cname)) ⊎ ((u ≡ types.Cname) × (t ≢ types.Cname))
    by_test true f g = let both = and_parts (is_type t types.Cname) (not (is_type u types.Cname)) f in inl (is_one t types.Cname both.0, not_one u types.Cname both.1)
    by_test false f g = let both = and_parts (is_type u types.Cname) (not (is_type t types.Cname)) g in inr (is_one u types.Cname both.0, not_one t types.Cname both.1)

either_of : (a b : Bool) → (a || b) ≡ true → a ≡ false → b ≡ true
either_of true b e f = absurd cc
either_of false b e f = e

negated : (b : Bool) → b ≡ true → not b ≡ false
negated true e = refl
negated false e = absurd cc

module _ (rules : List Rule) (caller : List ℕ) (origin : Name) (rs : List Record) (zone : AreOfZone origin rs) where
  -- ---- records of the zone before

  soa_home : (r : Record) → Among r rs → type_of r.rdata ≡ types.Soa → r.owner ≡ origin
  soa_home r a t =
      let one = zone.zone.soa in
      ap (λ (x : Record). x.owner) (one.1.alone r (row_in rs zone.order r a) t) ∙ one.1.origin

  ds_below : (r : Record) → Among r rs → type_of r.rdata ≡ types.Ds → r.owner ≢ origin
  ds_below r a t = (zone.zone.signers r (row_in rs zone.order r a) t).1

  no_cname_home : (r : Record) → Among r rs → type_of r.rdata ≡ types.Cname → r.owner ≢ origin
  no_cname_home r a t home =
      let one = zone.zone.soa in
      let same : one.0 ≡ r = zone.zone.cnames r one.0 (row_in rs zone.order r a) one.1.here t (one.1.origin ∙ sym home) in
      let e : types.Soa ≡ types.Cname = sym one.1.type ∙ ap (λ (x : Record). type_of x.rdata) same ∙ t in
      absurd cc

  -- what remains may not be deleted, or is guarded at the origin
  is_guarded_home : (r : Record) → remains rules caller origin r ≡ true → may rules caller origin action.Delete r.owner (type_of r.rdata) ≡ true → (r.owner ≡ origin) × IsKept (type_of r.rdata)
  is_guarded_home r e granted =
      let rest = either_of (not (may rules caller origin action.Delete r.owner (type_of r.rdata))) (same_name r.owner origin && is_guarded (rank_of (type_of r.rdata))) e (negated _ granted) in
      let both = and_parts (same_name r.owner origin) (is_guarded (rank_of (type_of r.rdata))) rest in
      (name_is r.owner origin both.0, guards (type_of r.rdata) both.1)

  -- ---- one operation

  module _ (before : Records) (is : Possible rules caller origin rs (λ r. IsIn r before)) where
    -- an SOA is at the origin in each of the zones
    soa_place : (r : Record) → IsIn r before → type_of r.rdata ≡ types.Soa → r.owner ≡ origin
    soa_place r here t = (elim (is.comes r here) [
      | inl old ↦ soa_home r old t
      | inr new ↦ (elim new [
        | inl come ↦
            (let parts = and_parts (is_within r.owner origin) (may rules caller origin action.Add r.owner (type_of r.rdata) && (has_place origin r.owner (type_of r.rdata) && not (are_kept_out rules caller origin rs r.owner (type_of r.rdata)))) come in
            let more = and_parts (may rules caller origin action.Add r.owner (type_of r.rdata)) _ parts.1 in
            let place = (and_parts (has_place origin r.owner (type_of r.rdata)) _ more.1).0 in
            name_is r.owner origin (sym (ap (has_place origin r.owner) t) ∙ place))
        | inr serial ↦ serial.0
      ])
    ])

    module _ (x : Record) (inside : IsWithin x.owner origin) (granted : may rules caller origin action.Add x.owner (type_of x.rdata) ≡ true) where
      -- an addition that is not ignored has a place
      placed : (t : RecordType) → type_of x.rdata ≡ t → ¬ IsIgnoredAs t origin before x → has_place origin x.owner t ≡ true
      placed types.Soa e taken =
          true_from_ne_false (same_name x.owner origin) (λ f.
          taken (λ old stands less. no (same_name x.owner origin) (ap (λ (n : Name). same_name n origin) (sym stands.1 ∙ soa_place old stands.0 stands.2) ∙ name_self origin) f))
      placed types.Ds e taken = ap not (false_from_ne_true (same_name x.owner origin) (λ f. taken (inr (refl, name_is x.owner origin f))))
      placed t e taken = refl

      -- and is not kept out
      welcome : (t : RecordType) → type_of x.rdata ≡ t → ¬ IsIgnoredAs t origin before x → (r : Record) → Among r rs → r.owner ≡ x.owner
          → (s : Record) → IsIn s before → s.owner ≡ x.owner → type_of s.rdata ≡ type_of r.rdata
          → ((type_of r.rdata ≡ types.Cname) × (t ≢ types.Cname)) ⊎ ((t ≡ types.Cname) × (type_of r.rdata ≢ types.Cname)) → ⊥
      welcome types.Cname e taken r a own s here owner same (inl c) = c.1 refl
      welcome types.Cname e taken r a own s here owner same (inr c) = taken (s, here, owner, λ k. c.1 (sym same ∙ k))
      welcome types.Soa e taken r a own s here owner same (inl c) =
          no_cname_home r a c.0 (own ∙ name_is x.owner origin (placed types.Soa e taken))
      welcome types.Soa e taken r a own s here owner same (inr c) = (let f : types.Soa ≡ types.Cname = c.0 in absurd cc)
      welcome t e taken r a own s here owner same (inl c) = taken (inl (s, (here, owner, same ∙ c.0)))
      welcome t e taken r a own s here owner same (inr c) = (let f = c.0 in absurd cc)

      pub come : ¬ IsIgnored origin before x → may_come rules caller origin rs x.owner (type_of x.rdata) ≡ true
      come taken =
          both_true _ _ ((is_within-Decides x.owner origin).1 inside) (both_true _ _ granted (both_true _ _ (placed (type_of x.rdata) refl taken) (ap not (false_from_ne_true (are_kept_out rules caller origin rs x.owner (type_of x.rdata)) kept))))
        where
          kept : are_kept_out rules caller origin rs x.owner (type_of x.rdata) ≡ true → ⊥
          kept e =
              let found = any_is (λ r. remains rules caller origin r && are_apart (type_of r.rdata) (type_of x.rdata)) (asked_at rs x.owner Any) e in
              let r = found.0 in
              let at = (among_filter (λ r. at_name x.owner (key_of r)) rs r).0 found.1 in
              let both = and_parts (remains rules caller origin r) (are_apart (type_of r.rdata) (type_of x.rdata)) found.2 in
              let owner : r.owner ≡ x.owner = name_is r.owner x.owner at.1 in
              let s = is.stays r at.0 both.0 in
              welcome (type_of x.rdata) refl taken r at.0 owner s.0 s.1 (s.2 ∙ owner) s.3 (apart_is (type_of r.rdata) (type_of x.rdata) both.1)

    -- what an operation puts there may come
    puts_come : (op : Operation) → IsWithin (acted_name op) origin → IsPermittedOperation rules caller origin op → (r : Record) → Puts origin before op r
        → may_come rules caller origin rs r.owner (type_of r.rdata) ≡ true
    puts_come (Add x) inside granted r puts = (elim (puts.1) [
      | inl same ↦ (λ i. may_come rules caller origin rs (same i).owner (type_of (same i).rdata)) ∙ come x inside granted puts.0
      | inr ttl ↦
          (let s = ttl.2.0 in
          let stands = ttl.2.1 in
          let owner : r.owner ≡ x.owner = ap (λ (y : Record). y.owner) ttl.2.3 ∙ stands.1 in
          let type : type_of r.rdata ≡ type_of x.rdata = ap (λ (y : Record). type_of y.rdata) ttl.2.3 ∙ stands.2 in
          (λ i. may_come rules caller origin rs (owner i) (type i)) ∙ come x inside granted puts.0)
    ])
    puts_come (DeleteRrset name t) inside granted r puts = absurd puts
    puts_come (DeleteName name) inside granted r puts = absurd puts
    puts_come (DeleteRecord name rdata) inside granted r puts = absurd puts

    -- deletions of a set are granted where an operation takes records of it away
    deleted_with : (name : Name) (r : Record) → Among r rs → r.owner ≡ name → ¬ ((name ≡ origin) × IsKept (type_of r.rdata)) → IsDeletedWith origin name (type_of r.rdata)
    deleted_with name r a owner free =
        record {
          not_soa = λ t. free (sym owner ∙ soa_home r a t, inl t);
          not_at_origin = λ home. ((λ t. free (home, inr t)), (λ t. ds_below r a t (owner ∙ home)));
        }

    goes_change : (r : Record) → Among r rs → may rules caller origin action.Delete r.owner (type_of r.rdata) ≡ true → may_change rules caller origin rs r.owner (type_of r.rdata) ≡ true
    goes_change r a granted =
        second (may_come rules caller origin rs r.owner (type_of r.rdata)) _
        (both_true _ _ granted (some (asked_at rs r.owner (Kept (type_of r.rdata))) (asked_owner rs r.owner (type_of r.rdata) r a refl refl)))
      where
        some : (xs : List Record) → Among r xs → not (length xs == 0) ≡ true
        some [] none = absurd none
        some (y ∷ ys) here = ap not (false_from_ne_true (length (y ∷ ys) == 0) (λ e. absurd (omega (arith, eqb-true (length (y ∷ ys)) 0 e))))

    -- what an operation takes away of the zone before may change
    takes_change : (op : Operation) → IsWithin (acted_name op) origin → IsPermittedOperation rules caller origin op → (r : Record) → Among r rs → Takes origin before op r
        → may_change rules caller origin rs r.owner (type_of r.rdata) ≡ true
    takes_change (Add x) inside granted r a takes =
        (λ i. may_change rules caller origin rs (takes.1 i) (takes.2 i)) ∙ first (may_come rules caller origin rs x.owner (type_of x.rdata)) _ (come x inside granted takes.0)
    takes_change (DeleteRrset name t) inside granted r a takes =
        goes_change r a ((λ i. may rules caller origin action.Delete (takes.0 i) (takes.1 i)) ∙ granted)
    takes_change (DeleteName name) inside granted r a takes =
        goes_change r a ((λ i. may rules caller origin action.Delete (takes.0 i) (type_of r.rdata)) ∙ granted (type_of r.rdata) (deleted_with name r a takes.0 takes.1))
    takes_change (DeleteRecord name rdata) inside granted r a takes =
        goes_change r a ((λ i. may rules caller origin action.Delete (takes.0 i) (type_of (takes.1 i))) ∙ granted)

    module _ (op : Operation) (inside : IsWithin (acted_name op) origin) (granted : IsPermittedOperation rules caller origin op) (after : Records) (kept : AreKept after) (makes : Makes origin before op after) where
      step_comes : (r : Record) → IsIn r after → Among r rs ⊎ ((may_come rules caller origin rs r.owner (type_of r.rdata) ≡ true) ⊎ IsSerial rules caller origin rs r.owner (type_of r.rdata))
      step_comes r here = (elim ((makes r).0 here) [ inl puts ↦ inr (inl (puts_come op inside granted r puts)) | inr was ↦ is.comes r was.0 ])

      step_goes : (r : Record) → Among r rs → IsIn r after ⊎ ((may_change rules caller origin rs r.owner (type_of r.rdata) ≡ true) ⊎ IsSerial rules caller origin rs r.owner (type_of r.rdata))
      step_goes r a = (elim (is.goes r a) [
        | inl here ↦
            in_or_not after r (λ there. inl there)
            (λ gone. inr (inl (true_from_ne_false (may_change rules caller origin rs r.owner (type_of r.rdata)) (λ off.
            gone ((makes r).1 (inr (here, λ takes. no_test (may_change rules caller origin rs r.owner (type_of r.rdata)) (takes_change op inside granted r a takes) off)))))))
        | inr other ↦ inr other
      ])

      -- a record that is gone was taken away
      taken : (s : Record) → IsIn s before → ¬ IsIn s after → ¬ ¬ Takes origin before op s
      taken s here gone left = gone ((makes s).1 (inr (here, left)))

      module _ (r : Record) (a : Among r rs) (e : remains rules caller origin r ≡ true) (none : has after (at r.owner (type_of r.rdata)) ≡ false) where
        gone : (s : Record) → s.owner ≡ r.owner → type_of s.rdata ≡ type_of r.rdata → ¬ IsIn s after
        gone s owner type here =
            let f : None ≡ Some s = sym (none_there after (at r.owner (type_of r.rdata)) (key_of s) none (at_has r.owner (type_of r.rdata) (key_of s) owner (ap rank_of type))) ∙ here in
            absurd cc

        -- deletions are not granted, or it is kept at the origin
        home : may rules caller origin action.Delete r.owner (type_of r.rdata) ≡ true → (r.owner ≡ origin) × IsKept (type_of r.rdata)
        home = is_guarded_home r e

        no_takes : (o : Operation) → o ≡ op → (s : Record) → IsIn s before → s.owner ≡ r.owner → type_of s.rdata ≡ type_of r.rdata → Takes origin before o s → ⊥
        no_takes (Add x) is_op s here owner type takes =
            let puts : Puts origin before op x = subst (λ (o : Operation). Puts origin before o x) is_op (takes.0, inl refl) in
            gone x (sym takes.1 ∙ owner) (sym takes.2 ∙ type) ((makes x).1 (inl puts))
        no_takes (DeleteRrset name t) is_op s here owner type takes =
            let own : may rules caller origin action.Delete name t ≡ true = subst (IsPermittedOperation rules caller origin) (sym is_op) granted in
            let found = home ((λ i. may rules caller origin action.Delete ((sym owner ∙ takes.0) i) ((sym type ∙ takes.1) i)) ∙ own) in
            takes.2 (sym takes.0 ∙ owner ∙ found.0, subst IsKept (sym type ∙ takes.1) found.1)
        no_takes (DeleteName name) is_op s here owner type takes =
            let own : (t : RecordType) → IsDeletedWith origin name t → may rules caller origin action.Delete name t ≡ true = subst (IsPermittedOperation rules caller origin) (sym is_op) granted in
            let named : r.owner ≡ name = sym owner ∙ takes.0 in
            let free : ¬ ((name ≡ origin) × IsKept (type_of r.rdata)) = λ k. takes.1 (k.0, subst IsKept (sym type) k.1) in
            let found = home ((λ i. may rules caller origin action.Delete (named i) (type_of r.rdata)) ∙ own (type_of r.rdata) (deleted_with name r a named free)) in
            free (sym named ∙ found.0, found.1)
        no_takes (DeleteRecord name rdata) is_op s here owner type takes =
            let own : may rules caller origin action.Delete name (type_of rdata) ≡ true = subst (IsPermittedOperation rules caller origin) (sym is_op) granted in
            let named : r.owner ≡ name = sym owner ∙ takes.0 in
            let typed : type_of r.rdata ≡ type_of rdata = sym type ∙ ap type_of takes.1 in
            let found = home ((λ i. may rules caller origin action.Delete (named i) (typed i)) ∙ own) in
            (elim (found.1) [
              | inl soa ↦ takes.2 (sym named ∙ found.0, inl (sym typed ∙ soa))
              | inr ns ↦ takes.2 (sym named ∙ found.0, inr (sym typed ∙ ns, λ other stands. all_same named (sym ns ∙ typed) other stands))
            ])
          where
            -- every other NS was taken away with it
            all_same : r.owner ≡ name → types.Ns ≡ type_of rdata → (other : Record) → Stands before name types.Ns other → other.rdata ≡ rdata
            all_same named typed other stands =
                by_cases (of_data.ghosts.eq other.rdata rdata) (other.rdata ≡ rdata) (λ t. (data_decides other.rdata rdata).0 t)
                (λ f. absurd (taken other stands.0 (gone other (stands.1 ∙ sym named) (stands.2 ∙ typed ∙ sym (sym type ∙ ap type_of takes.1))) (λ t.
                let mine : Takes origin before (DeleteRecord name rdata) other = subst (λ (o : Operation). Takes origin before o other) (sym is_op) t in
                no_test (of_data.ghosts.eq other.rdata rdata) ((data_decides other.rdata rdata).1 mine.1) f)))

        never : ⊥
        never =
            let s = is.stays r a e in
            taken s.0 s.1 (gone s.0 s.2 s.3) (λ takes. no_takes op refl s.0 s.1 s.2 s.3 takes)

      step_stays : (r : Record) → Among r rs → remains rules caller origin r ≡ true → (s : Record) × IsIn s after × (s.owner ≡ r.owner) × (type_of s.rdata ≡ type_of r.rdata)
      step_stays r a e =
          by_cases (has after (at r.owner (type_of r.rdata))) ((s : Record) × IsIn s after × (s.owner ≡ r.owner) × (type_of s.rdata ≡ type_of r.rdata)) some (λ none. absurd (never r a e none))
        where
          some : has after (at r.owner (type_of r.rdata)) ≡ true → (s : Record) × IsIn s after × (s.owner ≡ r.owner) × (type_of s.rdata ≡ type_of r.rdata)
          some t =
              let found = some_found after (at r.owner (type_of r.rdata)) t in
              let place = at_is r.owner (type_of r.rdata) found.0 found.2 in
              let key = (kept found.0 found.1 found.3).0 in (
                found.1,
                ap (get after) key ∙ found.3,
                ap (λ (k : Key). k.0) key ∙ place.0,
                one_rank (type_of found.1.rdata) (type_of r.rdata) (ap (λ (k : Key). k.1) key ∙ place.1),
              )

      step_soa : (r : Record) → IsIn r after → type_of r.rdata ≡ types.Soa → (may_come rules caller origin rs origin types.Soa ≡ true) ⊎ ((s : Record) × Among s rs × (type_of s.rdata ≡ types.Soa) × (but_serial r ≡ but_serial s))
      step_soa r here t = (elim ((makes r).0 here) [
        | inl puts ↦
            (let came = puts_come op inside granted r puts in
            let parts = and_parts (is_within r.owner origin) (may rules caller origin action.Add r.owner (type_of r.rdata) && (has_place origin r.owner (type_of r.rdata) && not (are_kept_out rules caller origin rs r.owner (type_of r.rdata)))) came in
            let more = and_parts (may rules caller origin action.Add r.owner (type_of r.rdata)) _ parts.1 in
            let place = (and_parts (has_place origin r.owner (type_of r.rdata)) _ more.1).0 in
            let owner : r.owner ≡ origin = name_is r.owner origin (sym (ap (has_place origin r.owner) t) ∙ place) in
            inl ((λ i. may_come rules caller origin rs (sym owner i) (sym t i)) ∙ came))
        | inr was ↦ is.soa r was.0 t
      ])

      pub step : Possible rules caller origin rs (λ r. IsIn r after)
      step = record { comes = step_comes; goes = step_goes; stays = step_stays; soa = step_soa }

  -- ---- operations in turn

  same_possible : (before after : Records) → ((r : Record) → IsIn r after ↔ IsIn r before) → Possible rules caller origin rs (λ r. IsIn r before) → Possible rules caller origin rs (λ r. IsIn r after)
  same_possible before after same is =
      record {
        comes = λ r here. is.comes r ((same r).0 here);
        goes = λ r a. (elim (is.goes r a) [ inl here ↦ inl ((same r).1 here) | inr other ↦ inr other ]);
        stays = λ r a e. (let s = is.stays r a e in (s.0, (same s.0).1 s.1, s.2, s.3));
        soa = λ r here. is.soa r ((same r).0 here);
      }

  all_steps : (before : Records) → Possible rules caller origin rs (λ r. IsIn r before) → (ops : List Operation) → AllByRecursion (λ op. IsWithin (acted_name op) origin) ops → AllByRecursion (IsPermittedOperation rules caller origin) ops
      → (after : Records) → AllMake origin before ops after → Possible rules caller origin rs (λ r. IsIn r after)
  all_steps before is [] inside granted after makes = same_possible before after makes is
  all_steps before is (op ∷ ops) inside granted after makes =
      let between = makes.0 in
      all_steps between (step before is op inside.0 granted.0 between makes.1 makes.2) ops inside.1 granted.1 after makes.3

  -- ---- the serial

  -- an operation that is permitted is a change that is granted
  update_by : (op : Operation) → IsWithin (acted_name op) origin → IsPermittedOperation rules caller origin op → MayUpdate rules caller origin
  update_by (Add r) inside granted = record { name = r.owner; record_type = type_of r.rdata; change = action.Add; kind = inl refl; inside = (is_within-Decides r.owner origin).1 inside; granted = granted }
  update_by (DeleteRrset name t) inside granted = record { name = name; record_type = t; change = action.Delete; kind = inr refl; inside = (is_within-Decides name origin).1 inside; granted = granted }
  update_by (DeleteName name) inside granted =
      record {
        name = name;
        record_type = types.A;
        change = action.Delete;
        kind = inr refl;
        inside = (is_within-Decides name origin).1 inside;
        granted = granted types.A (record { not_soa = λ e. absurd cc; not_at_origin = λ home. ((λ e. absurd cc), (λ e. absurd cc)) });
      }
  update_by (DeleteRecord name rdata) inside granted = record { name = name; record_type = type_of rdata; change = action.Delete; kind = inr refl; inside = (is_within-Decides name origin).1 inside; granted = granted }

  -- where no update is granted there are no operations
  no_operations : (before made : Records) → AreKept before → AreKept made → (ops : List Operation) → AllByRecursion (λ op. IsWithin (acted_name op) origin) ops → AllByRecursion (IsPermittedOperation rules caller origin) ops
      → AllMake origin before ops made → made ≢ before → MayUpdate rules caller origin
  no_operations before made kept also [] inside granted makes other = absurd (other (same_sets made before same))
    where
      same : (k : Key) → get made k ≡ get before k
      same k = by_found (get made k) (get before k) refl refl
        where
          by_found : (o p : Option Record) → get made k ≡ o → get before k ≡ p → o ≡ p
          by_found None None e f = refl
          by_found (Some r) p e f =
              let key = (also k r e).0 in
              let here : get before (key_of r) ≡ Some r = (makes r).0 (ap (get made) key ∙ e) in
              sym here ∙ ap (get before) key ∙ f
          by_found None (Some r) e f =
              let key = (kept k r f).0 in
              let here : get made (key_of r) ≡ Some r = (makes r).1 (ap (get before) key ∙ f) in
              sym e ∙ sym (ap (get made) key) ∙ here
  no_operations before made kept also (op ∷ ops) inside granted makes other = update_by op inside.0 granted.0

  module _ (made after : Records) (kept : AreKept made) (is : Possible rules caller origin rs (λ r. IsIn r made)) (may_update : MayUpdate rules caller origin)
      (whole : IsZone (record { origin = origin; records = after })) (next : IsNextOf origin made after) where
    by_type : {A : Type 0} (t : RecordType) → (t ≡ types.Soa → A) → (t ≢ types.Soa → A) → A
    by_type {A} t soa other = by_cases (is_type t types.Soa) A (λ e. soa (is_one t types.Soa e)) (λ e. other (not_one t types.Soa (ap not e)))

    soa_there : (r : Record) → IsIn r after → type_of r.rdata ≡ types.Soa → r ≡ next_version next.0.0
    soa_there r here t =
        let found = soa_found origin after whole.kept (next_version next.0.0) next.0.2 in
        let one = whole.soa.1.alone in
        one r here t ∙ sym (one (next_version next.0.0) found.0 found.1)

    advanced : Possible rules caller origin rs (λ r. IsIn r after)
    advanced =
        record {
          comes = λ r here. by_type (type_of r.rdata)
              (λ t. let home = ap (λ (x : Record). x.owner) (whole.soa.1.alone r here t) ∙ whole.soa.1.origin in inr (inr (home, t, may_update)))
              (λ t. is.comes r ((next.1 r t).0 here));
          goes = λ r a. (elim (is.goes r a) [
            | inl here ↦ by_type (type_of r.rdata) (λ t. inr (inr (soa_home r a t, t, may_update))) (λ t. inl ((next.1 r t).1 here))
            | inr other ↦ inr other
          ]);
          stays = λ r a e.
              (let s = is.stays r a e in
              by_type (type_of s.0.rdata)
              (λ t. (whole.soa.0, whole.soa.1.here, whole.soa.1.origin ∙ sym (soa_home r a (sym s.3 ∙ t)), whole.soa.1.type ∙ sym (sym s.3 ∙ t)))
              (λ t. (s.0, (next.1 s.0 t).1 s.1, s.2, s.3)));
          soa = λ r here t.
              (let old = soa_found origin made kept next.0.0 next.0.1 in
              (elim (is.soa next.0.0 old.0 old.1) [
                | inl come ↦ inl come
                | inr was ↦ inr (was.0, was.1, was.2, ap but_serial (soa_there r here t) ∙ next_but_serial next.0.0 ∙ was.3)
              ]));
        }

  -- ---- updates in turn

  one_update : (before : ZoneOf) → before.origin ≡ origin → IsZone before → Possible rules caller origin rs (λ r. IsIn r before.records) → (update : UpdateOf) → IsPermitted rules caller before.origin update
      → IsZone (zone_after before update) × Possible rules caller origin rs (λ r. IsIn r (zone_after before update).records)
  one_update before home whole is update permitted =
      let still = updates_keep before update whole permitted.is permitted.within in
      let made = updates_make before update whole permitted.is permitted.within in
      let inside : AllByRecursion (λ op. IsWithin (acted_name op) origin) update.operations = subst (λ (o : Name). AllByRecursion (λ op. IsWithin (acted_name op) o) update.operations) home permitted.within.operations in
      let granted : AllByRecursion (IsPermittedOperation rules caller origin) update.operations = subst (λ (o : Name). AllByRecursion (IsPermittedOperation rules caller o) update.operations) home permitted.operations in
      let steps : AllMake origin before.records update.operations made.0 = subst (λ (o : Name). AllMake o before.records update.operations made.0) home made.2 in
      let possible = all_steps before.records is update.operations inside granted made.0 steps in
      let advances : IsAdvancedTo origin before.records made.0 (zone_after before update).records = subst (λ (o : Name). IsAdvancedTo o before.records made.0 (zone_after before update).records) home made.3 in (
        still,
        (elim (advances) [
          | inl same ↦ subst (λ (s : Records). Possible rules caller origin rs (λ r. IsIn r s)) (sym same.1) possible
          | inr next ↦ advanced made.0 (zone_after before update).records made.1 possible
              (no_operations before.records made.0 whole.kept made.1 update.operations inside granted steps next.0)
              (subst (λ (o : Name). IsZone (record { origin = o; records = (zone_after before update).records })) home still) next.2
        ]),
      )

  all_updates : (updates : List UpdateOf) (before after : ZoneOf) → before.origin ≡ origin → IsZone before → Possible rules caller origin rs (λ r. IsIn r before.records) → ComesBy rules caller updates before after
      → (after.origin ≡ origin) × (IsZone after × Possible rules caller origin rs (λ r. IsIn r after.records))
  all_updates [] before after home whole is same = (
    ap (λ (z : ZoneOf). z.origin) same ∙ home,
    (subst IsZone (sym same) whole, subst (λ (z : ZoneOf). Possible rules caller origin rs (λ r. IsIn r z.records)) (sym same) is),
  )
  all_updates (update ∷ updates) before after home whole is comes =
      let one = one_update before home whole is update comes.0 in
      all_updates updates (zone_after before update) after home one.0 one.1 comes.1

-- ---- zones

module _ (rules : List Rule) (caller : List ℕ) (before : ZoneOf) (whole : IsZone before) where
  pub zone_rows : (z : ZoneOf) → IsZone z → AreOfZone z.origin (listing z.records)
  zone_rows z is = let rows = listed z.records is.kept in of_zone z is (listing z.records) rows.order rows.set

  pub among_rows : (z : ZoneOf) → IsZone z → (r : Record) → Among r (listing z.records) ↔ IsIn r z.records
  among_rows z is r =
      let rows = listed z.records is.kept in (
        λ a. subst (IsIn r) rows.set (row_in (listing z.records) rows.order r a),
        λ here. (found_among (listing z.records) (key_of r) r (subst (IsIn r) (sym rows.set) here)).0,
      )

  first_possible : Possible rules caller before.origin (listing before.records) (λ r. IsIn r before.records)
  first_possible =
      record {
        comes = λ r here. inl ((among_rows before whole r).1 here);
        goes = λ r a. inl ((among_rows before whole r).0 a);
        stays = λ r a e. (r, (among_rows before whole r).0 a, refl, refl);
        soa = λ r here t. inr (r, (among_rows before whole r).1 here, t, refl);
      }

  -- each zone that the caller can make is one that it may make
  pub all_possible : (after : ZoneOf) → CanMake rules caller before after
      → (after.origin ≡ before.origin) × (AreOfZone before.origin (listing after.records) × IsPossible rules caller before.origin (listing before.records) (listing after.records))
  all_possible after can =
      let made = all_updates rules caller before.origin (listing before.records) (zone_rows before whole) can.0 before after refl whole first_possible can.1 in
      let is = made.1.0 in
      let rows = listed after.records is.kept in (
        made.0,
        (
          subst (λ (o : Name). AreOfZone o (listing after.records)) made.0 (zone_rows after is),
          record {
            order = rows.order;
            is =
                record {
                  comes = λ r a. made.1.1.comes r ((among_rows after is r).0 a);
                  goes = λ r a. (elim (made.1.1.goes r a) [ inl here ↦ inl ((among_rows after is r).1 here) | inr other ↦ inr other ]);
                  stays = λ r a e. (let s = made.1.1.stays r a e in (s.0, (among_rows after is s.0).1 s.1, s.2, s.3));
                  soa = λ r a. made.1.1.soa r ((among_rows after is r).0 a);
                };
          },
        ),
      )
