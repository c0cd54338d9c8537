-- The operations from one zone to another give the target, and there are no more of them.
use Rattle.std.proofs.Common.{◌≡◌, ◌↔◌, ◌⊎◌, ◌<◌, ◌^◌, ℕ, List, [], ◌∷◌, ◌++◌, length, map, Bool, true, false, cond, not, ◌&&◌, ◌||◌, ◌==◌, if◌then◌else◌, Option, Some, None, inl, inr, refl, sym, ap, subst, ◌∙◌, arith, append-nil}
use Rattle.std.specs.List.{AllByRecursion, filter}
use Rattle.std.specs.FinMap.{get}
use Rattle.std.proofs.lemmas.Bool.{and_parts, eqb-true, not-true}
use Rattle.dns_names.specs.Labels.{IsWithin}
use Rattle.dns_data.specs.declared.record.Record.{Record}
use Rattle.dns_data.specs.declared.record_type.RecordType.TheVariants as types
use Rattle.zone_core.specs.declared.update.Operation.{Operation}
use Rattle.zone_core.specs.declared.update.Operation.TheVariants.{Add, DeleteRrset, DeleteName, DeleteRecord}
use Rattle.zone_core.specs.Serials.{serial_sum, is_less}
use Rattle.zone_core.specs.Sets.{Records, Key, key_of, rank_of, same_key, IsIn, cut, at, is_same}
use Rattle.zone_core.specs.Zones.{is_soa, serial_in, serial_at, soa_at}
use Rattle.zone_core.specs.Updates.{IsOperation, acted_name, adds_soa}
use Rattle.zone_core.specs.Effects.{next_version, add, effects, serial_advanced}
use Rattle.zone_core.proofs.SetLemmas.{by_cases, key_is, key_self, get-cut, same_sets, some_is, found_by_put}
use Rattle.zone_core.proofs.ZoneLemmas.{Keys, at_has, soa_is, no}
use Rattle.zone_core.proofs.VersionLemmas.{is_less-Decides}
use Rattle.zone_core.proofs.ChangedLemmas.{same_sets_are_one}
use Rattle.zone_core.specs.Changes.{ChangeOf, change_between}
use Rattle.zone_tools.specs.Differences.{is_gone, at_serial, with_soa, with_soa_at, with_serial, target, is_server, is_other, addition, deletion, servers, gone, others, edits, is_equal, next_soa, needs_soa, soa_additions, with_soa_addition, operations}
use Rattle.zone_tools.specs.DifferencePromises.{Lead, HaveNoNews, deletes, IsNeeded, AddsSoaLast, AreWithin}
use Rattle.zone_tools.proofs.DiffListLemmas.{effects-append, some_one}
use Rattle.zone_tools.proofs.DiffLeadLemmas.{IsServer, IsOther, IsGone, are_servers, are_others, are_gone, server_off, edited_other, edited_soa}
use Rattle.zone_tools.proofs.DiffSoaLemmas.{next_is_at, at_twice, at_own, data_type, serial_is, at_fits, serial_fits, sum_fits, less_next, not_less, equal_is, is_equal_self, IsSoaHere, other_with, soa_here, own_soa, is_with, own_with, keys_with, with_at, with_twice, added_soa, serial_own, stays_taken, goes_further, stays_same}

-- ---- lists

all_append : (P : Operation → Type 0) (xs ys : List Operation) → AllByRecursion P xs → AllByRecursion P ys → AllByRecursion P (xs ++ ys)
all_append P [] ys all also = also
all_append P (x ∷ xs) ys all also = (all.0, all_append P xs ys all.1 also)

all_mapped : (P : Operation → Type 0) (Q : Record → Type 0) (f : Record → Operation) → ((r : Record) → Q r → P (f r)) → (rs : List Record) → AllByRecursion Q rs → AllByRecursion P (map f rs)
all_mapped P Q f g [] all = tt
all_mapped P Q f g (r ∷ rs) all = (g r all.0, all_mapped P Q f g rs all.1)

none_is : (ops : List Operation) → (length ops == 0) ≡ true → ops ≡ []
none_is [] e = refl
none_is (op ∷ ops) e = absurd (let f : length (op ∷ ops) ≡ 0 = eqb-true (length (op ∷ ops)) 0 e in omega (arith, f))

not_both : (a b : Bool) → (not a || b) ≡ false → (a ≡ true) × (b ≡ false)
not_both true b e = (refl, e)
not_both false b e = absurd cc

either_true : (a b : Bool) → (not a || b) ≡ true → (a ≡ false) ⊎ (b ≡ true)
either_true true b e = inr e
either_true false b e = inl refl

-- no operation is needed where the target is the old set
none_needed : (old : Records) (ops : List Operation) → AllByRecursion (IsNeeded old old) ops → ops ≡ []
none_needed old [] all = refl
none_needed old (op ∷ ops) all = absurd (idle op all.0)
  where
    taken : (op : Operation) → ((r : Record) × IsIn r old × (deletes op (key_of r) ≡ true)) × ((r : Record) → IsIn r old → deletes op (key_of r) ≡ false) → ⊥
    taken op needed = no (deletes op (key_of needed.0.0)) needed.0.2 (needed.1 needed.0.0 needed.0.1)

    idle : (op : Operation) → IsNeeded old old op → ⊥
    idle (Add r) needed = needed.1 needed.0
    idle (DeleteRrset name t) needed = taken (DeleteRrset name t) needed
    idle (DeleteName name) needed = taken (DeleteName name) needed
    idle (DeleteRecord name rdata) needed = taken (DeleteRecord name rdata) needed

module _ (origin : List (List ℕ)) (old new : Records) (z : Keys origin old) (n : Keys origin new) where
  abbrev E : List Operation
  E = edits origin old new

  abbrev bare : Bool
  bare = length E == 0

  abbrev s : Record
  s = z.soa_there.0

  abbrev m : Record
  m = n.soa_there.0

  s_here : IsSoaHere origin s
  s_here = soa_here origin old z

  m_here : IsSoaHere origin m
  m_here = soa_here origin new n

  at_here : (q : ℕ) (r : Record) → IsSoaHere origin r → q ≡ serial_sum (serial_in s) 1 → IsSoaHere origin (at_serial q r)
  at_here q r here e = record { is = at_fits q r (subst (λ p. p < 2 ^ 32) (sym e) (sum_fits (serial_in s))) here.is; type = data_type q r.rdata ∙ here.type; home = here.home }

  next_here : IsSoaHere origin (next_version s)
  next_here = subst (IsSoaHere origin) (sym (next_is_at s)) (at_here (serial_sum (serial_in s) 1) s s_here refl)

  -- ---- the SOA to which they lead

  abbrev a : Record
  a = next_soa s m

  abbrev less : Bool
  less = is_less (serial_in s) (serial_in m)

  abbrev further : Record
  further = at_serial (serial_sum (serial_in s) 1) m

  a_new : less ≡ true → a ≡ m
  a_new e = ap (λ b. if b then m else further) e

  a_further : less ≡ false → a ≡ further
  a_further e = ap (λ b. if b then m else further) e

  a_here : IsSoaHere origin a
  a_here =
      by_cases less (IsSoaHere origin a)
      (λ e. subst (IsSoaHere origin) (sym (a_new e)) m_here)
      (λ e. subst (IsSoaHere origin) (sym (a_further e)) (at_here (serial_sum (serial_in s) 1) m m_here refl))

  a_less : is_less (serial_in s) (serial_in a) ≡ true
  a_less =
      by_cases less (is_less (serial_in s) (serial_in a) ≡ true)
      (λ e. ap (λ (r : Record). is_less (serial_in s) (serial_in r)) (a_new e) ∙ e)
      (λ e.
      ap (λ (r : Record). is_less (serial_in s) (serial_in r)) (a_further e)
      ∙ ap (is_less (serial_in s)) (serial_is (serial_sum (serial_in s) 1) m m_here.type) ∙ less_next (serial_in s) (serial_fits s s_here.is))

  a_not_old : IsIn a old → ⊥
  a_not_old here =
      let key = z.soa_alone (key_of a) (a, here) (ap rank_of a_here.type) in
      let is = some_one a s (sym here ∙ ap (get old) key ∙ z.soa_there.1) in
      not_less (serial_in s) (ap (λ (r : Record). is_less (serial_in s) (serial_in r)) (sym is) ∙ a_less)

  -- ---- the edits

  abbrev edited : Records
  edited = effects origin old E

  edited_with : edited ≡ with_soa new s
  edited_with =
      is_with origin new n s s_here edited (edited_other origin old new z n)
      (λ k e. edited_soa origin old new z n k e ∙ own_soa origin old z k e)

  unchanged : edited ≡ old → E ≡ []
  unchanged same =
      by_lists (servers origin old new) (gone old new) (others origin old new) (are_servers origin old new z n) (are_gone origin old new z n) (are_others origin old new z n)
    where
      new_is : (k : Key) → is_soa k ≡ false → get new k ≡ get old k
      new_is k off = sym (edited_other origin old new z n k off) ∙ ap (λ (x : Records). get x k) same

      by_lists : (first rest last : List Record) → AllByRecursion (IsServer origin old new z n) first → AllByRecursion (IsGone origin old new z n) rest → AllByRecursion (IsOther origin old new z n) last
          → (map addition first ++ map deletion rest) ++ map addition last ≡ []
      by_lists [] [] [] one two three = refl
      by_lists [] [] (r ∷ last) one two three =
          absurd (three.0.apart (sym (new_is (key_of r) (not-true (is_soa (key_of r)) (and_parts (not (is_soa (key_of r))) (not (is_server origin (key_of r))) three.0.other).0)) ∙ three.0.here))
      by_lists [] (d ∷ rest) last one two three =
          absurd (some_is old (key_of d) d two.0.here (sym (new_is (key_of d) two.0.other) ∙ two.0.none))
      by_lists (r ∷ first) rest last one two three =
          absurd (one.0.apart (sym (new_is (key_of r) (server_off origin old new z n (key_of r) one.0.server)) ∙ one.0.here))

  -- ---- what they make

  -- with the addition of the SOA
  made_added : serial_advanced origin old (effects origin old (E ++ Add a ∷ [])) ≡ with_soa new a
  made_added =
      let keys = keys_with origin new n s s_here in
      let before : is_less (serial_in keys.0.soa_there.0) (serial_in a) ≡ true = ap (λ (r : Record). is_less (serial_in r) (serial_in a)) keys.1 ∙ a_less in
      let made : effects origin old (E ++ Add a ∷ []) ≡ with_soa new a =
      effects-append origin old E (Add a ∷ []) ∙ ap (λ (x : Records). add origin x a) edited_with
      ∙ added_soa origin (with_soa new s) keys.0 a a_here before ∙ with_twice origin new n s a s_here a_here in
      let after = keys_with origin new n a a_here in
      ap (serial_advanced origin old) made ∙ stays_taken origin old (with_soa new a) z after.0 (ap (λ (r : Record). is_less (serial_in s) (serial_in r)) after.1 ∙ a_less)

  differ : bare ≡ false → is_same old (with_soa new s) ≡ false
  differ some =
      by_cases (is_same old (with_soa new s)) (is_same old (with_soa new s) ≡ false)
      (λ t.
      let same : old ≡ with_soa new s = (same_sets_are_one old (with_soa new s) z.rows.kept (keys_with origin new n s s_here).0.rows.kept).0 t in
      absurd (no bare (ap (λ (ops : List Operation). length ops == 0) (unchanged (edited_with ∙ sym same))) some))
      (λ t. t)

  -- without it
  made_further : bare ≡ false → serial_advanced origin old edited ≡ with_soa new (next_version s)
  made_further some =
      let keys = keys_with origin new n s s_here in
      ap (serial_advanced origin old) edited_with ∙ goes_further origin old (with_soa new s) z keys.0 (differ some) keys.1
      ∙ with_twice origin new n s (next_version s) s_here next_here

  -- ---- the target

  abbrev by_rest : Bool → Records
  by_rest same = if same then old else with_soa new further

  abbrev by_serial : Bool → Records
  by_serial greater = if greater then new else by_rest (is_same old (with_soa new (at_serial (serial_in s) m)))

  abbrev aim : Records
  aim = by_serial less

  target_is : target origin old new ≡ aim
  target_is =
      let here = serial_own origin old z in
      let there = serial_own origin new n in
      let found = soa_is origin new n in
      λ i. if is_less (here i) (there i) then new else (if is_same old (with_soa_at (here i) new (found i)) then old else with_soa_at (serial_sum (here i) 1) new (found i))

  abbrev same_next : Bool
  same_next = is_equal a (next_version s)

  a_next : same_next ≡ true → a ≡ next_version s
  a_next t = equal_is a (next_version s) a_here.is next_here.is t

  -- an SOA that is not the next version has other fields
  old_fields : less ≡ false → at_serial (serial_in s) m ≡ s → same_next ≡ true
  old_fields e same =
      let next : further ≡ next_version s = sym (at_twice (serial_sum (serial_in s) 1) (serial_in s) m) ∙ ap (at_serial (serial_sum (serial_in s) 1)) same ∙ sym (next_is_at s) in
      ap (λ (r : Record). is_equal r (next_version s)) (a_further e ∙ next) ∙ is_equal_self (next_version s)

  same_fields : less ≡ false → same_next ≡ true → at_serial (serial_in s) m ≡ s
  same_fields e t =
      let p = serial_in s in
      let q = serial_sum p 1 in
      sym (at_twice p q m) ∙ ap (at_serial p) (sym (a_further e) ∙ a_next t ∙ next_is_at s) ∙ at_twice p q s ∙ at_own s

  low_here : IsSoaHere origin (at_serial (serial_in s) m)
  low_here = record { is = at_fits (serial_in s) m (serial_fits s s_here.is) m_here.is; type = data_type (serial_in s) m.rdata ∙ m_here.type; home = m_here.home }

  not_old : less ≡ false → (same_next ≡ false) ⊎ (bare ≡ false) → is_same old (with_soa new (at_serial (serial_in s) m)) ≡ false
  not_old e one =
      by_cases same_next (is_same old (with_soa new (at_serial (serial_in s) m)) ≡ false)
      (λ t. (elim one [
        | inl f ↦ absurd (no same_next t f)
        | inr some ↦ ap (λ (r : Record). is_same old (with_soa new r)) (same_fields e t) ∙ differ some
      ]))
      (λ f. by_cases (is_same old (with_soa new (at_serial (serial_in s) m))) (is_same old (with_soa new (at_serial (serial_in s) m)) ≡ false)
      (λ t.
      let low = keys_with origin new n (at_serial (serial_in s) m) low_here in
      let same : old ≡ with_soa new (at_serial (serial_in s) m) = (same_sets_are_one old (with_soa new (at_serial (serial_in s) m)) z.rows.kept low.0.rows.kept).0 t in
      let both = some_one (at_serial (serial_in s) m) s (sym (with_at origin new n (at_serial (serial_in s) m) low_here) ∙ ap (soa_at origin) (sym same) ∙ soa_is origin old z) in
      absurd (no same_next (old_fields e both) f))
      (λ t. t))

  aim_with : (same_next ≡ false) ⊎ ((bare ≡ false) ⊎ (less ≡ true)) → aim ≡ with_soa new a
  aim_with one =
      by_cases less (aim ≡ with_soa new a)
      (λ e. ap by_serial e ∙ own_with origin new n ∙ ap (with_soa new) (sym (a_new e)))
      (λ e.
      ap by_serial e
      ∙ ap by_rest (not_old e (elim one [ inl f ↦ inl f | inr more ↦ (elim more [ inl some ↦ inr some | inr t ↦ absurd (no less t e) ]) ]))
      ∙ ap (with_soa new) (sym (a_further e)))

  aim_old : same_next ≡ true → bare ≡ true → less ≡ false → aim ≡ old
  aim_old t none e =
      let stays : with_soa new (at_serial (serial_in s) m) ≡ old = ap (with_soa new) (same_fields e t) ∙ sym edited_with ∙ ap (effects origin old) (none_is E none) in
      ap by_serial e
      ∙ ap by_rest (ap (is_same old) stays ∙ (same_sets_are_one old old z.rows.kept z.rows.kept).1 refl)

  -- ---- which of the three

  -- the SOA is added; or the serial goes one further; or nothing is done
  pub record IsAdded (ops : List Operation) : Type 0 where
    pub is : ops ≡ E ++ Add a ∷ []
    pub aims : aim ≡ with_soa new a
    pub why : (same_next ≡ false) ⊎ (bare ≡ true)

  pub record IsFurther (ops : List Operation) : Type 0 where
    pub is : ops ≡ E
    pub aims : aim ≡ with_soa new a
    pub some : bare ≡ false
    pub next : a ≡ next_version s

  pub record IsIdle (ops : List Operation) : Type 0 where
    pub is : ops ≡ []
    pub aims : aim ≡ old

  abbrev ops : List Operation
  ops = E ++ soa_additions bare s m

  which : IsAdded ops ⊎ (IsFurther ops ⊎ IsIdle ops)
  which = by_needs (needs_soa bare s m) refl
    where
      by_needs : (b : Bool) → needs_soa bare s m ≡ b → IsAdded ops ⊎ (IsFurther ops ⊎ IsIdle ops)
      by_needs true t =
          inl (record {
            is = ap (λ b. E ++ (if b then Add a ∷ [] else [])) t;
            aims = aim_with (elim (either_true same_next (bare && less) t) [ inl f ↦ inl f | inr both ↦ inr (inr (and_parts bare less both).1) ]);
            why = (elim (either_true same_next (bare && less) t) [ inl f ↦ inl f | inr both ↦ inr (and_parts bare less both).0 ]);
          })
      by_needs false t =
          let both = not_both same_next (bare && less) t in
          let is : ops ≡ E = ap (λ b. E ++ (if b then Add a ∷ [] else [])) t ∙ append-nil E in
          by_cases bare (IsAdded ops ⊎ (IsFurther ops ⊎ IsIdle ops))
          (λ none. inr (inr (record { is = is ∙ none_is E none; aims = aim_old both.0 none (sym (ap (λ b. b && less) none) ∙ both.1) })))
          (λ some. inr (inl (record { is = is; aims = aim_with (inr (inl some)); some = some; next = a_next both.0 })))

  ops_are : operations origin old new ≡ ops
  ops_are = λ i. with_soa_addition E (soa_is origin old z i) (soa_is origin new n i)

  -- ---- the promises

  lead : serial_advanced origin old (effects origin old ops) ≡ aim
  lead =
      (elim which [
        | inl added ↦ ap (λ (x : List Operation). serial_advanced origin old (effects origin old x)) added.is ∙ made_added ∙ sym added.aims
        | inr other ↦ elim other [
          | inl further ↦ ap (λ (x : List Operation). serial_advanced origin old (effects origin old x)) further.is ∙ made_further further.some ∙ ap (with_soa new) (sym further.next) ∙ sym further.aims
          | inr idle ↦ ap (λ (x : List Operation). serial_advanced origin old (effects origin old x)) idle.is ∙ stays_same origin old z ∙ sym idle.aims
        ]
      ])

  pub operations_lead : Lead origin old new (operations origin old new)
  operations_lead = ap (λ (x : List Operation). serial_advanced origin old (effects origin old x)) ops_are ∙ lead ∙ sym target_is

  -- the edits, for a target that has the new records but for the SOA
  edits_have : (P : Operation → Type 0) → ((r : Record) → IsIn r new → (IsIn r old → ⊥) → is_soa (key_of r) ≡ false → P (Add r)) → ((d : Record) → IsGone origin old new z n d → P (deletion d)) → AllByRecursion P E
  edits_have P add_it delete_it =
      all_append P (map addition (servers origin old new) ++ map deletion (gone old new)) (map addition (others origin old new))
      (all_append P (map addition (servers origin old new)) (map deletion (gone old new))
      (all_mapped P (IsServer origin old new z n) addition (λ r is. add_it r is.here is.apart (server_off origin old new z n (key_of r) is.server)) (servers origin old new) (are_servers origin old new z n))
      (all_mapped P (IsGone origin old new z n) deletion delete_it (gone old new) (are_gone origin old new z n)))
      (all_mapped P (IsOther origin old new z n) addition
      (λ r is. add_it r is.here is.apart (not-true (is_soa (key_of r)) (and_parts (not (is_soa (key_of r))) (not (is_server origin (key_of r))) is.other).0)) (others origin old new) (are_others origin old new z n))

  edits_needed : AllByRecursion (IsNeeded old (with_soa new a)) E
  edits_needed =
      edits_have (IsNeeded old (with_soa new a))
      (λ r here apart off. (other_with origin new a a_here (key_of r) off ∙ here, apart))
      (λ d is. (
        (d, is.here, key_self (key_of d)),
        λ r there. by_cases (same_key (key_of d) (key_of r)) (same_key (key_of d) (key_of r) ≡ false)
            (λ t. absurd (some_is (with_soa new a) (key_of d) r (ap (get (with_soa new a)) (key_is (key_of d) (key_of r) t) ∙ there) (other_with origin new a a_here (key_of d) is.other ∙ is.none)))
            (λ t. t),
      ))

  all_needed : AllByRecursion (IsNeeded old aim) ops
  all_needed =
      (elim which [
        | inl added ↦ subst (λ (x : Records). AllByRecursion (IsNeeded old x) ops) (sym added.aims) (subst (AllByRecursion (IsNeeded old (with_soa new a))) (sym added.is)
            (all_append (IsNeeded old (with_soa new a)) E (Add a ∷ []) edits_needed ((found_by_put (cut new (at a.owner types.Soa)) a, a_not_old), tt)))
        | inr other ↦ elim other [
          | inl further ↦ subst (λ (x : Records). AllByRecursion (IsNeeded old x) ops) (sym further.aims) (subst (AllByRecursion (IsNeeded old (with_soa new a))) (sym further.is) edits_needed)
          | inr idle ↦ subst (AllByRecursion (IsNeeded old aim)) (sym idle.is) tt
        ]
      ])

  pub operations_needed : AllByRecursion (IsNeeded old (target origin old new)) (operations origin old new)
  operations_needed =
      subst (λ (x : Records). AllByRecursion (IsNeeded old x) (operations origin old new)) (sym target_is) (subst (AllByRecursion (IsNeeded old aim)) (sym ops_are) all_needed)

  with_serial_is : with_serial origin (serial_at origin old) new ≡ with_soa new (at_serial (serial_in s) m)
  with_serial_is = λ i. with_soa_at (serial_own origin old z i) new (soa_is origin new n i)

  -- where the target is the old set, nothing is new
  no_news : aim ≡ old → HaveNoNews origin old new
  no_news same =
      by_cases less (HaveNoNews origin old new)
      (λ e.
      let both = ap by_serial (sym e) ∙ same in
      let soas = some_one m s (sym (soa_is origin new n) ∙ ap (soa_at origin) both ∙ soa_is origin old z) in
      absurd (not_less (serial_in s) (ap (λ (r : Record). is_less (serial_in s) (serial_in r)) (sym soas) ∙ e)))
      (λ e. (
        λ l. no less (ap (λ p. is_less p (serial_in m)) (sym (serial_own origin old z)) ∙ ap (is_less (serial_at origin old)) (sym (serial_own origin new n)) ∙ (is_less-Decides (serial_at origin old) (serial_at origin new)).1 l) e,
        with_serial_is ∙ by_cases (is_same old (with_soa new (at_serial (serial_in s) m))) (with_soa new (at_serial (serial_in s) m) ≡ old)
            (λ t. sym ((same_sets_are_one old (with_soa new (at_serial (serial_in s) m)) z.rows.kept (keys_with origin new n (at_serial (serial_in s) m) low_here).0.rows.kept).0 t))
            (λ f. absurd (moved (ap by_rest (sym f) ∙ ap by_serial (sym e) ∙ same))),
      ))
    where
      -- an SOA with a greater serial is not the old one
      moved : with_soa new further ≡ old → ⊥
      moved is =
          let here = at_here (serial_sum (serial_in s) 1) m m_here refl in
          let soas = some_one further s (sym (with_at origin new n further here) ∙ ap (soa_at origin) is ∙ soa_is origin old z) in
          let serials : serial_sum (serial_in s) 1 ≡ serial_in s = sym (serial_is (serial_sum (serial_in s) 1) m m_here.type) ∙ ap serial_in soas in
          not_less (serial_in s) (ap (is_less (serial_in s)) (sym serials) ∙ less_next (serial_in s) (serial_fits s s_here.is))

  idle_aim : HaveNoNews origin old new → aim ≡ old
  idle_aim none =
      let e : less ≡ false =
      by_cases less (less ≡ false)
      (λ t. absurd (none.0 ((is_less-Decides (serial_at origin old) (serial_at origin new)).0 (ap (λ p. is_less p (serial_at origin new)) (serial_own origin old z) ∙ ap (is_less (serial_in s)) (serial_own origin new n) ∙ t))))
      (λ f. f) in
      ap by_serial e
      ∙ ap by_rest (ap (is_same old) (sym with_serial_is ∙ none.1) ∙ (same_sets_are_one old old z.rows.kept z.rows.kept).1 refl)

  pub operations_none : (operations origin old new ≡ []) ↔ HaveNoNews origin old new
  operations_none = (
    λ e. no_news (sym target_is ∙ sym operations_lead ∙ ap (λ (x : List Operation). serial_advanced origin old (effects origin old x)) e ∙ stays_same origin old z),
    λ none.
        none_needed old (operations origin old new)
        (subst (λ (x : Records). AllByRecursion (IsNeeded old x) (operations origin old new)) (target_is ∙ idle_aim none) operations_needed),
  )

  edits_plain : AllByRecursion (λ op. adds_soa op ≡ false) E
  edits_plain = edits_have (λ op. adds_soa op ≡ false) (λ r here apart off. off) (λ d is. refl)

  -- where there are no edits, the target has the old records, but for the SOA
  rest_same : bare ≡ true → cut (with_soa new a) (at origin types.Soa) ≡ cut old (at origin types.Soa)
  rest_same none =
      same_sets (cut (with_soa new a) p) (cut old p) (λ k.
      get-cut (with_soa new a) p k ∙ by_cases (p k) (cond (p k) None (get (with_soa new a) k) ≡ cond (p k) None (get old k))
      (λ t. ap (λ b. cond b None (get (with_soa new a) k)) t ∙ sym (ap (λ b. cond b None (get old k)) t))
      (λ f. ap (cond (p k) None) (by_cases (is_soa k) (get (with_soa new a) k ≡ get old k) (soas k f) (λ off. other_with origin new a a_here k off ∙ sym (edited_other origin old new z n k off) ∙ ap (λ (x : List Operation). get (effects origin old x) k) (none_is E none))))
      ∙ sym (get-cut old p k))
    where
      p : Key → Bool
      p = at origin types.Soa

      bare_soa : (set : Records) (keys : Keys origin set) (k : Key) → p k ≡ false → is_soa k ≡ true → (o : Option Record) → get set k ≡ o → o ≡ None
      bare_soa set keys k f e None is = refl
      bare_soa set keys k f e (Some x) is =
          let type = eqb-true k.1 (rank_of types.Soa) e in
          let one = keys.soa_alone k (x, is) type in
          absurd (no (p k) (at_has origin types.Soa k (ap (λ (q : Key). q.0) one ∙ keys.soa_origin) type) f)

      soas : (k : Key) → p k ≡ false → is_soa k ≡ true → get (with_soa new a) k ≡ get old k
      soas k f e = bare_soa (with_soa new a) (keys_with origin new n a a_here).0 k f e (get (with_soa new a) k) refl ∙ sym (bare_soa old z k f e (get old k) refl)

  soa_last : AddsSoaLast origin old aim ops
  soa_last =
      (elim which [
        | inl added ↦ (
          E,
          edits_plain,
          inr (
            a,
            added.is,
            ap (soa_at origin) added.aims ∙ with_at origin new n a a_here,
            (elim (added.why) [
              | inl f ↦ inl (s, soa_is origin old z, λ same. no same_next (ap (λ (r : Record). is_equal r (next_version s)) same ∙ is_equal_self (next_version s)) f)
              | inr none ↦ inr (ap (λ (x : Records). cut x (at origin types.Soa)) added.aims ∙ rest_same none)
            ]),
          ),
        )
        | inr other ↦ elim other [
          | inl further ↦ (E, edits_plain, inl further.is)
          | inr idle ↦ ([], tt, inl idle.is)
        ]
      ])

  pub operations_soa : AddsSoaLast origin old (target origin old new) (operations origin old new)
  operations_soa =
      subst (λ (x : Records). AddsSoaLast origin old x (operations origin old new)) (sym target_is) (subst (AddsSoaLast origin old aim) (sym ops_are) soa_last)

  edits_within : AreWithin origin E
  edits_within =
      edits_have (λ op. IsOperation op × IsWithin (acted_name op) origin)
      (λ r here apart off. ((n.rows.kept (key_of r) r here).1, n.rows.owners (key_of r) (r, here)))
      (λ d is. let record_is = (z.rows.kept (key_of d) d is.here).1 in ((record_is.owner, record_is.rdata), z.rows.owners (key_of d) (d, is.here)))

  all_within : AreWithin origin ops
  all_within =
      (elim which [
        | inl added ↦ subst (AreWithin origin) (sym added.is) (all_append (λ op. IsOperation op × IsWithin (acted_name op) origin) E (Add a ∷ []) edits_within
            ((a_here.is, subst (λ o. IsWithin o origin) (n.soa_origin ∙ sym a_here.home) (n.rows.owners n.soa n.soa_there)), tt))
        | inr other ↦ elim other [
          | inl further ↦ subst (AreWithin origin) (sym further.is) edits_within
          | inr idle ↦ subst (AreWithin origin) (sym idle.is) tt
        ]
      ])

  pub operations_within : AreWithin origin (operations origin old new)
  operations_within = subst (AreWithin origin) (sym ops_are) all_within

-- ---- the code

-- operations that were made of what two sets differ in, and then of their SOA records
pub exact_is : (origin one other : List (List ℕ)) (old new before after again : Records) (change : ChangeOf) (made all : List Operation) (first second : Record)
    → one ≡ origin → other ≡ origin → before ≡ old → after ≡ new → again ≡ new → change ≡ change_between before after
    → made ≡ (map addition (filter (λ r. is_server one (key_of r)) change.added) ++ map deletion (filter (λ r. is_gone again (key_of r)) change.removed)) ++ map addition (filter (λ r. is_other one (key_of r)) change.added)
    → soa_at origin old ≡ Some first → soa_at other new ≡ Some second → all ≡ made ++ soa_additions (length made == 0) first second → all ≡ operations origin old new
exact_is origin one other old new before after again change made all first second one_is other_is before_is after_is again_is change_is made_is first_is second_is all_is =
    let whole : change ≡ change_between old new = change_is ∙ (λ i. change_between (before_is i) (after_is i)) in
    let edits_are : made ≡ edits origin old new =
    made_is ∙ (λ i. (map addition (filter (λ r. is_server (one_is i) (key_of r)) (whole i).added) ++ map deletion (filter (λ r. is_gone (again_is i) (key_of r)) (whole i).removed)) ++ map addition (filter (λ r. is_other (one_is i) (key_of r)) (whole i).added)) in
    let found : soa_at origin new ≡ Some second = ap (λ o. soa_at o new) (sym other_is) ∙ second_is in
    all_is ∙ ap (λ (x : List Operation). x ++ soa_additions (length x == 0) first second) edits_are ∙ sym (λ i. with_soa_addition (edits origin old new) (first_is i) (found i))
