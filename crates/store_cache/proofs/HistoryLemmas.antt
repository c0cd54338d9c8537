-- What is remembered of the changes of a zone.
use Rattle.std.proofs.Common.{◌≡◌, ◌⊎◌, inl, inr, ℕ, zero, suc, ◌+◌, ◌<◌, ◌≤◌, List, [], ◌∷◌, ◌++◌, length, length-append, get_or, map, take, drop, Bool, true, false, not, ◌&&◌, nat_le, cond, Option, Some, None, option_map, Result, Ok, Err, OnErr, IsTrue, refl, sym, ap, subst, ◌∙◌, arith}
use Rattle.std.proofs.Math.Bool.{and_assoc}
use Rattle.std.proofs.lemmas.Bool.{and_parts, and_from}
use Rattle.std.specs.List.{filter, list_all}
use Rattle.std.specs.Result.{is_err, is_ok}
use Rattle.std.proofs.lemmas.List.Folds.{list_all_more}
use Rattle.dns_names.specs.Order.{same_name}
use Rattle.dns_names.proofs.NameLemmas.{same_name-Decides}
use Rattle.dns_data.specs.declared.record.Record.{Record}
use Rattle.dns_data.specs.Rdata.{type_of}
use Rattle.dns_data.specs.declared.record_type.RecordType.TheVariants.{Soa}
use Rattle.grant_policy.specs.Grants.{GrantsOf, includes}
use Rattle.zone_core.specs.declared.change.Change.{Change}
use Rattle.zone_core.specs.Changes.{ChangeOf, change_in}
use Rattle.zone_core.proofs.SetLemmas.{by_cases}
use Rattle.office_model.specs.States.{Held, State, keep}
use Rattle.office_model.specs.declared.passed.Passed.{Passed}
use Rattle.office_model.specs.Tables.{AdditionOf, ArePassed, committed, held_with, shown, with_change_of}
use Rattle.store_cache.specs.declared.history.Touched.{Touched}
use Rattle.store_cache.specs.declared.history.ZoneHistory.{ZoneHistory}
use Rattle.store_cache.specs.History.{AreTouched, Covers, Remembers, are_hidden, hides, hides_each, includes_none}

abbrev Labels : Type 0
Labels = List (List ℕ)

-- ---- what changes touch

module _ (o : Labels) where
  pub touched_length : (ts : List Touched) (cs : List ChangeOf) → AreTouched o ts cs → length ts ≤ length cs
  touched_length [] cs are = omega arith
  touched_length (t ∷ ts) [] are = absurd are
  touched_length (t ∷ ts) (c ∷ cs) are = omega (arith, touched_length ts cs are.1)

  pub touched_drop : (n : ℕ) (ts : List Touched) (cs : List ChangeOf) → AreTouched o ts cs → AreTouched o (drop n ts) (drop n cs)
  touched_drop zero ts cs are = are
  touched_drop (suc n) [] cs are = tt
  touched_drop (suc n) (t ∷ ts) [] are = absurd are
  touched_drop (suc n) (t ∷ ts) (c ∷ cs) are = touched_drop n ts cs are.1

  pub touched_more : (ts : List Touched) (cs more : List ChangeOf) → AreTouched o ts cs → AreTouched o ts (cs ++ more)
  touched_more [] cs more are = tt
  touched_more (t ∷ ts) [] more are = absurd are
  touched_more (t ∷ ts) (c ∷ cs) more are = (are.0, touched_more ts cs more are.1)

  pub touched_push : (ts : List Touched) (cs : List ChangeOf) (t : Touched) (c : ChangeOf) (rest : List ChangeOf) → AreTouched o ts cs → drop (length ts) cs ≡ c ∷ rest → Covers o t c → AreTouched o (ts ++ t ∷ []) cs
  touched_push [] [] t c rest are next covers = absurd (let none : [] ≡ c ∷ rest = next in cc)
  touched_push [] (d ∷ cs) t c rest are next covers = let same : c ≡ d = (let both : d ∷ cs ≡ c ∷ rest = next in cc) in (subst (Covers o t) same covers, tt)
  touched_push (u ∷ ts) [] t c rest are next covers = absurd are
  touched_push (u ∷ ts) (d ∷ cs) t c rest are next covers = (are.0, touched_push ts cs t c rest are.1 next covers)

  -- of those that grants leave out, they include no record
  pub touched_hidden : (g : GrantsOf) (sees : Bool) (n : ℕ) (ts : List Touched) (cs : List ChangeOf) → sees ≡ includes g o Soa → AreTouched o ts cs → n ≤ length ts
      → IsTrue (list_all (λ t. not (t.soa && sees) && includes_none g t.points.items) (take n ts)) → IsTrue (are_hidden g cs n)
  touched_hidden g sees n ts cs soa are few none = and_from (nat_le n (length cs)) (list_all (hides g) (take n cs)) (le_test n (length cs) (omega (arith, few, touched_length ts cs are))) (each n ts cs are few none)
    where
      test : Touched → Bool
      test t = not (t.soa && sees) && includes_none g t.points.items

      le_test : (a b : ℕ) → a ≤ b → nat_le a b ≡ true
      le_test a b h = grind (arith, h)

      each : (n : ℕ) (ts : List Touched) (cs : List ChangeOf) → AreTouched o ts cs → n ≤ length ts → IsTrue (list_all test (take n ts)) → IsTrue (list_all (hides g) (take n cs))
      each zero ts cs are few none = refl
      each (suc n) [] cs are few none = absurd (omega arith)
      each (suc n) (t ∷ ts) [] are few none = absurd are
      each (suc n) (t ∷ ts) (c ∷ cs) are few none =
          let both = and_parts (test t) (list_all test (take n ts)) none in
          and_from (hides g c) (list_all (hides g) (take n cs)) (are.0 g ∙ ap (λ b. not (t.soa && b) && includes_none g t.points.items) (sym soa) ∙ both.0) (each n ts cs are.1 (omega arith) both.1)

  -- as many of them are seen as are not left out
  pub touched_shown : (g : GrantsOf) (sees : Bool) (n : ℕ) (ts : List Touched) (cs : List ChangeOf) → sees ≡ includes g o Soa → AreTouched o ts cs
      → length (filter (λ t. not (not (t.soa && sees) && includes_none g t.points.items)) (take n ts)) ≡ length (shown g (take n cs)) ⊎ (length ts < n)
  touched_shown g sees zero ts cs soa are = inl refl
  touched_shown g sees (suc n) [] cs soa are = inr (omega arith)
  touched_shown g sees (suc n) (t ∷ ts) [] soa are = absurd are
  touched_shown g sees (suc n) (t ∷ ts) (c ∷ cs) soa are = go (touched_shown g sees n ts cs soa are.1)
    where
      test : Touched → Bool
      test t = not (t.soa && sees) && includes_none g t.points.items

      same : hides g c ≡ test t
      same = are.0 g ∙ ap (λ b. not (t.soa && b) && includes_none g t.points.items) (sym soa)

      one : (b : Bool) → length (filter (λ u. not (test u)) (take n ts)) ≡ length (shown g (take n cs)) → length (cond (not b) (t ∷ filter (λ u. not (test u)) (take n ts)) (filter (λ u. not (test u)) (take n ts))) ≡ length (cond (not b) (c ∷ shown g (take n cs)) (shown g (take n cs)))
      one true e = e
      one false e = ap suc e

      go : length (filter (λ u. not (test u)) (take n ts)) ≡ length (shown g (take n cs)) ⊎ (length ts < n) → length (filter (λ u. not (test u)) (take (suc n) (t ∷ ts))) ≡ length (shown g (take (suc n) (c ∷ cs))) ⊎ (length (t ∷ ts) < suc n)
      go (inl e) = inl (one (test t) e ∙ sym (ap (λ b. length (cond (not b) (c ∷ shown g (take n cs)) (shown g (take n cs)))) same))
      go (inr less) = inr (omega (arith, less))

  -- of what is remembered of changes, what is passed over
  pub touched_passed : (g : GrantsOf) (sees : Bool) (most : ℕ) (passed : Passed) (ts : List Touched) (cs : List ChangeOf) → sees ≡ includes g o Soa → AreTouched o ts cs → passed.read ≤ length ts
      → passed.seen ≡ length (filter (λ t. not (not (t.soa && sees) && includes_none g t.points.items)) (take passed.read ts)) → passed.seen ≤ most → ArePassed g cs most passed
  touched_passed g sees most passed ts cs soa are there seen few =
      record { there = omega (arith, there, touched_length ts cs are); seen = seen ∙ counted (touched_shown g sees passed.read ts cs soa are); few = few }
    where
      test : Touched → Bool
      test t = not (t.soa && sees) && includes_none g t.points.items

      counted : length (filter (λ u. not (test u)) (take passed.read ts)) ≡ length (shown g (take passed.read cs)) ⊎ (length ts < passed.read) → length (filter (λ u. not (test u)) (take passed.read ts)) ≡ length (shown g (take passed.read cs))
      counted (inl e) = e
      counted (inr less) = absurd (omega (arith, there, less))

  -- one more change, of which nothing is to be remembered yet
  pub touched_empty : (ts : List Touched) (cs : List ChangeOf) (t : Touched) (c : ChangeOf) → AreTouched o ts cs → length ts ≡ length cs → Covers o t c → AreTouched o (ts ++ t ∷ []) (cs ++ c ∷ [])
  touched_empty [] [] t c are same covers = (covers, tt)
  touched_empty [] (d ∷ cs) t c are same covers = absurd (omega (arith, same))
  touched_empty (u ∷ ts) [] t c are same covers = absurd are
  touched_empty (u ∷ ts) (d ∷ cs) t c are same covers = (are.0, touched_empty ts cs t c are.1 (omega (arith, same)) covers)

  -- the last of some changes, and what of it is remembered, in the place of another
  pub touched_last : (ts : List Touched) (cs : List ChangeOf) (t u : Touched) (c d : ChangeOf) → AreTouched o (ts ++ t ∷ []) (cs ++ c ∷ []) → length (ts ++ t ∷ []) ≡ length (cs ++ c ∷ []) → (Covers o t c → Covers o u d)
      → AreTouched o (ts ++ u ∷ []) (cs ++ d ∷ [])
  touched_last [] [] t u c d are same covers = (covers are.0, tt)
  touched_last [] (x ∷ cs) t u c d are same covers = absurd (omega (arith, same, length-append cs (c ∷ [])))
  touched_last (x ∷ ts) [] t u c d are same covers = absurd (omega (arith, same, length-append ts (t ∷ [])))
  touched_last (x ∷ ts) (y ∷ cs) t u c d are same covers = (are.0, touched_last ts cs t u c d are.1 (omega (arith, same)) covers)

  -- the last of some changes goes, with what of it is remembered
  touched_front : (ts : List Touched) (t : Touched) (cs : List ChangeOf) → AreTouched o (ts ++ t ∷ []) cs → length (ts ++ t ∷ []) ≡ length cs
      → (front : List ChangeOf) × (last : ChangeOf) × (cs ≡ front ++ last ∷ []) × (AreTouched o ts front × (length ts ≡ length front))
  touched_front [] t [] are same = absurd are
  touched_front [] t (c ∷ []) are same = ([], c, refl, (tt, refl))
  touched_front [] t (c ∷ d ∷ cs) are same = absurd (omega (arith, same))
  touched_front (u ∷ ts) t [] are same = absurd are
  touched_front (u ∷ ts) t (c ∷ cs) are same =
      let it = touched_front ts t cs are.1 (omega (arith, same)) in
      (c ∷ it.0, it.1, ap (λ (l : List ChangeOf). c ∷ l) it.2, ((are.0, it.3.0), ap suc it.3.1))

  -- the same of what a history knows
  pub knows_front : (known ts : List Touched) (t : Touched) (cs : List ChangeOf) → known ≡ ts ++ t ∷ [] → AreTouched o known cs → length known ≡ length cs
      → (front : List ChangeOf) × (last : ChangeOf) × (cs ≡ front ++ last ∷ []) × (AreTouched o ts front × (length ts ≡ length front))
  knows_front known ts t cs is are same = touched_front ts t cs (subst (λ l. AreTouched o l cs) is are) (ap (λ (l : List Touched). length l) (sym is) ∙ same)

pub on_err : {X E : Type 0} (r : Result X E) (A : Type 0) → A → OnErr r A
on_err (Ok x) A a = tt
on_err (Err e) A a = a

-- the SOA is touched, whether it was before or not
pub soa_noted : (s inc none : Bool) → (not (true && inc) && none) ≡ ((not (s && inc) && none) && not inc)
soa_noted true true true = refl
soa_noted true true false = refl
soa_noted true false true = refl
soa_noted true false false = refl
soa_noted false true true = refl
soa_noted false true false = refl
soa_noted false false true = refl
soa_noted false false false = refl

-- one more record
pub noted_more : (g : GrantsOf) (a b d : Bool) (rs : List Record) (i : ℕ) (r : Record) → i < length rs → r ≡ get_or rs i r → b ≡ (a && hides_each g (take i rs)) → d ≡ (b && not (includes g r.owner (type_of r.rdata)))
    → d ≡ (a && hides_each g (take (i + 1) rs))
noted_more g a b d rs i r lt is before step =
    let test = λ (x : Record). not (includes g x.owner (type_of x.rdata)) in
    step
    ∙ ap (λ x. x && test r) before
    ∙ and_assoc a (list_all test (take i rs)) (test r)
    ∙ ap (λ x. a && (list_all test (take i rs) && test x)) is
    ∙ ap (λ x. a && x) (sym (list_all_more test rs i r lt))

-- no record yet
pub noted_none : (a : Bool) → a ≡ (a && true)
noted_none true = refl
noted_none false = refl

-- the changes that are read, one by one
pub next_read : (xs : List Change) (ys : List ChangeOf) (i : ℕ) (x : Change) → map change_in xs ≡ take (length xs) ys → i < length xs → x ≡ get_or xs i x → drop i ys ≡ change_in x ∷ drop (suc i) ys
next_read [] ys i x are lt is = absurd (omega arith)
next_read (y ∷ xs) [] i x are lt is = absurd cc
next_read (y ∷ xs) (c ∷ ys) zero x are lt is =
    let first : change_in y ≡ c = cc in
    ap (λ (d : ChangeOf). d ∷ ys) (sym first ∙ ap change_in (sym is))
next_read (y ∷ xs) (c ∷ ys) (suc i) x are lt is = next_read xs ys i x (let more : map change_in xs ≡ take (length xs) ys = cc in more) (omega (arith, lt)) is

-- ---- after an addition

-- a change comes after those that are remembered
pub remembers_committed : (a : AdditionOf) (s : State) (history : Option ZoneHistory) → Remembers s history → Remembers (committed a s) history
remembers_committed a s None are = tt
remembers_committed a s (Some zone) are = go a.change
  where
    o : Labels
    o = zone.origin

    behind : (c : ChangeOf) (found : Option Held) → s.zones o ≡ found → (held : Held) → option_map (held_with c) found ≡ Some held → AreTouched o zone.changes.items held.changes
    behind c None is held e = absurd cc
    behind c (Some before) is held e =
        let same : held_with c before ≡ held = cc in
        subst (λ (h : Held). AreTouched o zone.changes.items h.changes) same (touched_more o zone.changes.items before.changes (c ∷ []) (are before is))

    go : (change : Option ChangeOf) → (held : Held) → (keep (with_change_of s a.receipt.origin change) a.caller a.id a.receipt).zones o ≡ Some held → AreTouched o zone.changes.items held.changes
    go None held e = are held e
    go (Some c) held e =
        by_cases (same_name o a.receipt.origin) (AreTouched o zone.changes.items held.changes)
        (λ t.
        let named : o ≡ a.receipt.origin = (same_name-Decides o a.receipt.origin).0 t in
        let at : option_map (held_with c) (s.zones a.receipt.origin) ≡ Some held = sym (ap (λ (b : Bool). cond b (option_map (held_with c) (s.zones a.receipt.origin)) (s.zones o)) t) ∙ e in
        behind c (s.zones o) refl held (ap (λ (n : Labels). option_map (held_with c) (s.zones n)) named ∙ at))
        (λ f. are held (sym (ap (λ (b : Bool). cond b (option_map (held_with c) (s.zones a.receipt.origin)) (s.zones o)) f) ∙ e))

-- a result that is no refusal
pub no_refusal : {X E : Type 0} (r : Result X E) → is_err r ≡ false → is_ok r ≡ true
no_refusal (Ok x) e = refl
no_refusal (Err x) e = absurd cc
