-- The readings by which the age of a connection was told.
use Rattle.std.proofs.Common.{◌≡◌, ◌⊎◌, ◌<◌, ◌≤◌, ◌+◌, ◌-◌, ◌==◌, ◌||◌, inl, inr, ◌∙◌, ℕ, zero, suc, Bool, true, false, not, List, [], ◌∷◌, ◌++◌, length, drop, Option, Some, None, Result, Ok, Err, refl, sym, ap, subst, append_assoc, length-append, arith}
use Rattle.std.proofs.lemmas.Bool.{eqb-true}
use Rattle.std.proofs.Math.Dec.{eqb-suc-zero}
use Rattle.std.specs.Prelude.{⊤, MatchOption, IsSomeAnd}
use Rattle.std.specs.List.{AllByRecursion}
use Rattle.office_wire.specs.declared.ending.Ending.{Ending}
use Rattle.office_wire.specs.declared.ending.Ending.TheVariants.{Answered, Overdue}
use Rattle.office_wire.specs.declared.serve_fault.ServeFault.{ServeFault}
use Rattle.office_wire.specs.Exchange.{Turn}
use Rattle.office_wire.specs.Deadlines.{CountsAsked, CountsPassed}
use Rattle.office_wire.specs.Order.{Follows}
use Rattle.wire_tcp.specs.Waits.{between, less}
use Rattle.wire_tcp.specs.Ages.{IsYoung, IsOld, TellAges, AreAges, is_spent, overdue_from, overdue, AreTold}

some_left : (n : ℕ) → (n == 0) ≡ false → 0 < n
some_left zero e = absurd cc
some_left (suc n) e = omega arith

none_left : (n : ℕ) → (n == 0) ≡ true → n ≡ 0
none_left n e = eqb-true n 0 e

young : (longest age : Option ℕ) → is_spent (less longest age) ≡ false → MatchOption longest ⊤ (λ most. IsSomeAnd age (λ a. a < most))
young None age e = tt
young (Some most) None e = absurd cc
young (Some most) (Some a) e = let more = some_left (most - a) e in omega (arith, more)

old : (longest age : Option ℕ) → is_spent (less longest age) ≡ true → IsSomeAnd longest (λ most. MatchOption age ⊤ (λ a. most ≤ a))
old None age e = absurd cc
old (Some most) None e = tt
old (Some most) (Some a) e = let none = none_left (most - a) e in omega (arith, none)

-- ---- one reading more

module _ (longest begun : Option ℕ) where
  abbrev Spent : Option ℕ → Bool
  Spent now = is_spent (less longest (between begun now))

  abbrev IsOver : List (Option ℕ) → Option ℕ → Type 0
  IsOver readings now = (0 < overdue longest begun readings) ⊎ (Spent now ≡ true)

  over_from : (b : Bool) (readings : List (Option ℕ)) (now : Option ℕ) → (0 < overdue_from b readings (overdue longest begun readings)) ⊎ (Spent now ≡ true)
      → (IsOver readings now → overdue longest begun (readings ++ now ∷ []) ≡ overdue longest begun readings + 1)
      → overdue_from b (readings ++ now ∷ []) (overdue longest begun (readings ++ now ∷ [])) ≡ overdue_from b readings (overdue longest begun readings) + 1
  over_from true readings now over rest = let n = length-append readings (now ∷ []) in omega (arith, n)
  over_from false readings now over rest = rest over

  over_more : (readings : List (Option ℕ)) (now : Option ℕ) → IsOver readings now → overdue longest begun (readings ++ now ∷ []) ≡ overdue longest begun readings + 1
  over_more [] now (inl some) = absurd (omega (arith, some))
  over_more [] now (inr spent) = rw spent refl
  over_more (x ∷ readings) now over = over_from (Spent x) readings now over (λ o. over_more readings now o)

  young_from : (b : Bool) (readings : List (Option ℕ)) (now : Option ℕ) → overdue_from b readings (overdue longest begun readings) ≡ 0
      → (overdue longest begun readings ≡ 0 → overdue longest begun (readings ++ now ∷ []) ≡ 0)
      → overdue_from b (readings ++ now ∷ []) (overdue longest begun (readings ++ now ∷ [])) ≡ 0
  young_from true readings now none rest = absurd (omega (arith, none))
  young_from false readings now none rest = rest none

  young_more : (readings : List (Option ℕ)) (now : Option ℕ) → overdue longest begun readings ≡ 0 → Spent now ≡ false → overdue longest begun (readings ++ now ∷ []) ≡ 0
  young_more [] now none left = rw left refl
  young_more (x ∷ readings) now none left = young_from (Spent x) readings now none (λ n. young_more readings now n left)

  -- ---- what is told

  dropped : (known rest : List (Option ℕ)) → drop (length known) (known ++ rest) ≡ rest
  dropped [] rest = refl
  dropped (x ∷ known) rest = dropped known rest

  told_of : (known rest : List (Option ℕ)) (asked passed : ℕ) → length rest ≡ asked → overdue longest begun rest ≡ passed
      → AreTold longest begun (Some known) (Some (known ++ rest)) asked passed
  told_of known rest asked passed many late =
      let d = dropped known rest in
      (ap (λ (l : List (Option ℕ)). known ++ l) (sym d), ap (λ (l : List (Option ℕ)). length l) d ∙ many, ap (overdue longest begun) d ∙ late)

  told_next : (known all : List (Option ℕ)) (now : Option ℕ) (asked passed then : ℕ) → AreTold longest begun (Some known) (Some all) asked passed
      → ((rest : List (Option ℕ)) → overdue longest begun rest ≡ passed → overdue longest begun (rest ++ now ∷ []) ≡ then)
      → AreTold longest begun (Some known) (Some (all ++ now ∷ [])) (asked + 1) then
  told_next known all now asked passed then told more =
      let rest = drop (length known) all in
      let n = length-append rest (now ∷ []) in
      let many = told.1 in
      subst (λ (l : List (Option ℕ)). AreTold longest begun (Some known) (Some l) (asked + 1) then)
      (sym (append_assoc known rest (now ∷ [])) ∙ ap (λ (l : List (Option ℕ)). l ++ now ∷ []) (sym told.0))
      (told_of known (rest ++ now ∷ []) (asked + 1) then (omega (arith, n, many)) (more rest told.2))

  told_by : (before a b : Option (List (Option ℕ))) (now : Option ℕ) (asked passed then : ℕ) → AreTold longest begun before a asked passed → Follows a b (now ∷ [])
      → ((rest : List (Option ℕ)) → overdue longest begun rest ≡ passed → overdue longest begun (rest ++ now ∷ []) ≡ then)
      → AreTold longest begun before b (asked + 1) then
  told_by None a b now asked passed then told next more = tt
  told_by (Some known) None b now asked passed then told next more = absurd told
  told_by (Some known) (Some all) b now asked passed then told next more =
      subst (λ (o : Option (List (Option ℕ))). AreTold longest begun (Some known) o (asked + 1) then) (sym next) (told_next known all now asked passed then told more)

  over_by : (b : Bool) (n : ℕ) (spent : Bool) → b ≡ not (n == 0) → true ≡ b || spent → (0 < n) ⊎ (spent ≡ true)
  over_by b zero spent is over = inr (rw is at (sym over))
  over_by b (suc n) spent is over = inl (omega arith)

  pub told_over : (before a b : Option (List (Option ℕ))) (now : Option ℕ) (asked passed asks passes : ℕ) (was over : Bool) → AreTold longest begun before a asked passed → Follows a b (now ∷ [])
      → was ≡ not (passed == 0) → over ≡ was || Spent now → over ≡ true → asks ≡ asked + 1 → passes ≡ passed + 1 → AreTold longest begun before b asks passes
  told_over before a b now asked passed asks passes was over told next is so late more later = rw (more, later)
      (told_by before a b now asked passed (passed + 1) told next (λ rest many. over_more rest now (rw many (over_by was passed (Spent now) is (sym late ∙ so))) ∙ ap (λ (n : ℕ). n + 1) many))

  young_by : (b : Bool) (n : ℕ) (spent : Bool) → b ≡ not (n == 0) → false ≡ b || spent → (n ≡ 0) × (spent ≡ false)
  young_by b zero spent is over = (refl, rw is at (sym over))
  young_by b (suc n) spent is over = let late = over ∙ ap (λ x. x || spent) (is ∙ ap not (eqb-suc-zero n)) in absurd cc

  pub told_young : (before a b : Option (List (Option ℕ))) (now : Option ℕ) (asked passed asks : ℕ) (was over : Bool) → AreTold longest begun before a asked passed → Follows a b (now ∷ [])
      → was ≡ not (passed == 0) → over ≡ was || Spent now → over ≡ false → asks ≡ asked + 1 → AreTold longest begun before b asks passed
  told_young before a b now asked passed asks was over told next is so not_yet more =
      let both = young_by was passed (Spent now) is (sym not_yet ∙ so) in
      rw more (told_by before a b now asked passed passed told next (λ rest late. young_more rest now (late ∙ both.0) both.1 ∙ sym both.0))

  -- ---- at the end

  all_from : (b : Bool) (now : Option ℕ) (readings : List (Option ℕ)) → Spent now ≡ b → overdue_from b readings (overdue longest begun readings) ≡ 0
      → (overdue longest begun readings ≡ 0 → AllByRecursion (IsYoung longest begun) readings) → AllByRecursion (IsYoung longest begun) (now ∷ readings)
  all_from true now readings is none rest = absurd (omega (arith, none))
  all_from false now readings is none rest = (young longest (between begun now) is, rest none)

  all_young : (readings : List (Option ℕ)) → overdue longest begun readings ≡ 0 → AllByRecursion (IsYoung longest begun) readings
  all_young [] none = tt
  all_young (now ∷ readings) none = all_from (Spent now) now readings refl none (all_young readings)

  abbrev EndsOld : List (Option ℕ) → Type 0
  EndsOld readings = (earlier : List (Option ℕ)) × (last : Option ℕ) × (readings ≡ earlier ++ last ∷ []) × AllByRecursion (IsYoung longest begun) earlier × IsOld longest begun last

  only_one : (readings : List (Option ℕ)) → suc (length readings) ≡ 1 → readings ≡ []
  only_one [] one = refl
  only_one (x ∷ readings) one = absurd (omega (arith, one))

  last_from : (b : Bool) (now : Option ℕ) (readings : List (Option ℕ)) → Spent now ≡ b → overdue_from b readings (overdue longest begun readings) ≡ 1
      → (overdue longest begun readings ≡ 1 → EndsOld readings) → EndsOld (now ∷ readings)
  last_from true now readings is one rest = ([], now, ap (λ (l : List (Option ℕ)). now ∷ l) (only_one readings one), tt, old longest (between begun now) is)
  last_from false now readings is one rest =
      let all = rest one in
      (now ∷ all.0, all.1, ap (λ (l : List (Option ℕ)). now ∷ l) all.2, (young longest (between begun now) is, all.3), all.4)

  last_old : (readings : List (Option ℕ)) → overdue longest begun readings ≡ 1 → EndsOld readings
  last_old [] one = absurd (omega (arith, one))
  last_old (now ∷ readings) one = last_from (Spent now) now readings refl one (last_old readings)

  tell_ages : (readings : List (Option ℕ)) (ended : Result Ending ServeFault) (passed : ℕ) → overdue longest begun readings ≡ passed → CountsPassed ended 0 passed → TellAges longest begun readings ended
  tell_ages readings (Ok Answered) passed late counts = all_young readings (late ∙ counts)
  tell_ages readings (Ok Overdue) passed late counts = last_old readings (late ∙ counts)
  tell_ages readings (Err fault) passed late counts = all_young readings (late ∙ counts)

  ages_known : (turns : List Turn) (ended : Result Ending ServeFault) (known : List (Option ℕ)) (now : Option (List (Option ℕ))) (asked passed : ℕ)
      → AreTold longest begun (Some (known ++ begun ∷ [])) now asked passed → CountsAsked turns ended 0 asked → CountsPassed ended 0 passed → AreAges longest turns ended (Some known) now
  ages_known turns ended known None asked passed told asks passes = absurd told
  ages_known turns ended known (Some all) asked passed told asks passes =
      let rest = drop (length (known ++ begun ∷ [])) all in (
        begun,
        rest,
        ap (λ (l : List (Option ℕ)). let o : Option (List (Option ℕ)) = Some l in o) (told.0 ∙ append_assoc known (begun ∷ []) rest),
        subst (λ (n : ℕ). CountsAsked turns ended 0 n) (sym told.1) asks,
        tell_ages rest ended passed told.2 passes,
      )

  -- from the reading when it began
  pub are_ages : (turns : List Turn) (ended : Result Ending ServeFault) (start before now : Option (List (Option ℕ))) (asked passed : ℕ) → Follows start before (begun ∷ [])
      → AreTold longest begun before now asked passed → CountsAsked turns ended 0 asked → CountsPassed ended 0 passed → AreAges longest turns ended start now
  are_ages turns ended None before now asked passed first told asks passes = tt
  are_ages turns ended (Some known) before now asked passed first told asks passes =
      ages_known turns ended known now asked passed (subst (λ (o : Option (List (Option ℕ))). AreTold longest begun o now asked passed) first told) asks passes
