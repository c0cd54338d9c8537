-- How old a connection is, by the readings of a clock, and that it ends once it is too old.
use Rattle.std.specs.Prelude.{◌≡◌, ℕ, ◌<◌, ◌≤◌, ◌==◌, Bool, true, false, List, [], ◌∷◌, ◌++◌, length, drop, suc, Option, Some, None, MatchOption, IsSomeAnd, Result, Ok, ⊤}
use Rattle.std.specs.List.{AllByRecursion}
use Rattle.office_wire.specs.declared.ending.Ending.{Ending}
use Rattle.office_wire.specs.declared.ending.Ending.TheVariants.{Overdue}
use Rattle.office_wire.specs.declared.serve_fault.ServeFault.{ServeFault}
use Rattle.office_wire.specs.Exchange.{Turn}
use Rattle.office_wire.specs.Deadlines.{CountsAsked}
use Rattle.wire_tcp.specs.Waits.{between, less}

-- The time between two readings is below a limit, where there is one. Where the clock could not be read, it is not.
abbrev pub IsYoung : Option ℕ → Option ℕ → Option ℕ → Type 0
IsYoung longest begun now = MatchOption longest ⊤ (λ most. IsSomeAnd (between begun now) (λ age. age < most))

-- There is a limit, and the time is not below it.
abbrev pub IsOld : Option ℕ → Option ℕ → Option ℕ → Type 0
IsOld longest begun now = IsSomeAnd longest (λ most. MatchOption (between begun now) ⊤ (λ age. most ≤ age))

-- The readings when it was asked whether a connection is too old, from the one when it began, and how it ended: it was young at each; or at
-- each but the last, and then it ended there.
abbrev pub TellAges : Option ℕ → Option ℕ → List (Option ℕ) → Result Ending ServeFault → Type 0
TellAges longest begun readings (Ok Overdue) =
    (earlier : List (Option ℕ)) × (last : Option ℕ) × (readings ≡ earlier ++ last ∷ []) × AllByRecursion (IsYoung longest begun) earlier × IsOld longest begun last
TellAges longest begun readings ended = AllByRecursion (IsYoung longest begun) readings

-- The clock was read when a connection began, and after each response that was not the last, where these readings are known: only while
-- the connection was young did it go on, and only where it was not did it end there.
abbrev pub AreAges : Option ℕ → List Turn → Result Ending ServeFault → Option (List (Option ℕ)) → Option (List (Option ℕ)) → Type 0
AreAges longest turns ended before now = MatchOption before ⊤ (λ known. (begun : Option ℕ) × (readings : List (Option ℕ))
    × (now ≡ Some (known ++ begun ∷ readings)) × CountsAsked turns ended 0 (length readings) × TellAges longest begun readings ended)

-- ---- on the way

-- whether nothing is left of a time
abbrev pub is_spent : Option ℕ → Bool
is_spent None = false
is_spent (Some left) = left == 0

-- a reading at which it was too old or not, those after it, and how many of these are overdue
abbrev pub overdue_from : Bool → List (Option ℕ) → ℕ → ℕ
overdue_from true later n = suc (length later)
overdue_from false later n = n

-- how many of the readings are overdue: the first at which it was too old, and all after it
abbrev pub overdue : Option ℕ → Option ℕ → List (Option ℕ) → ℕ
overdue longest begun [] = 0
overdue longest begun (now ∷ readings) = overdue_from (is_spent (less longest (between begun now))) readings (overdue longest begun readings)

-- the readings since a moment, where they are known, are so many, and so many of them are overdue
abbrev pub AreTold : Option ℕ → Option ℕ → Option (List (Option ℕ)) → Option (List (Option ℕ)) → ℕ → ℕ → Type 0
AreTold longest begun before now asked passed = MatchOption before ⊤ (λ known. IsSomeAnd now (λ all. (all ≡ known ++ drop (length known) all)
    × (length (drop (length known) all) ≡ asked) × (overdue longest begun (drop (length known) all) ≡ passed)))
