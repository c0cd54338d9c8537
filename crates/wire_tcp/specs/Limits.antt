-- For how long a peer is waited for, and how old a connection gets.
use Rattle.std.specs.Prelude.{ℕ, ◌≤◌, zero, suc, min, Option, Some, None, option_map, MatchOption, IsSomeAnd, ⊤}
use Rattle.std.specs.Duration.{as_nanos}
use Rattle.std.specs.declared.time.Duration.{Duration}

-- A number of seconds, and the usual one where none is given: no limit for 0, and at most 1,000,000,000.
abbrev pub seconds_in : ℕ → Option ℕ → Option ℕ
seconds_in usual None = Some usual
seconds_in usual (Some zero) = None
seconds_in usual (Some (suc n)) = Some (min (suc n) 1000000000)

-- for how long a peer is waited for
abbrev pub patience_in : Option ℕ → Option ℕ
patience_in given = seconds_in 30 given

-- how old a connection gets
abbrev pub longest_in : Option ℕ → Option ℕ
longest_in given = seconds_in 60 given

-- for how long a peer is waited for, and at what age a connection ends, each where there is a limit
pub record Limits : Type 0 where
  pub patience : Option ℕ
  pub longest : Option ℕ

abbrev pub limits_in : Option Duration → Option Duration → Limits
limits_in patience longest = record { patience = option_map as_nanos patience; longest = option_map as_nanos longest }

-- a limit of a read or a write is at most a time, where there is one
abbrev pub IsWithin : Option ℕ → Option ℕ → Type 0
IsWithin most limit = MatchOption most ⊤ (λ longest. IsSomeAnd limit (λ time. time ≤ longest))
