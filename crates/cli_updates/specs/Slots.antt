-- Where prerequisites go when an update is cut into parts: to the first operation at their name.
use Rattle.std.specs.Prelude.{ℕ, List, Vec, map, Bool, true, false, ◌==◌, if◌then◌else◌, Option, Some, None, is_none}
use Rattle.std.specs.Borrow.{Bor}
use Rattle.std.specs.List.{filter, position_from, range_with_len}
use Rattle.dns_names.specs.Order.{same_name}
use Rattle.dns_data.specs.declared.rdata.Data.{Data}
use Rattle.dns_data.specs.declared.rdata.Data.TheVariants.{Soa}
use Rattle.zone_core.specs.declared.update.Prerequisite.{Prerequisite}
use Rattle.zone_core.specs.declared.update.Prerequisite.TheVariants.{RrsetEquals}
use Rattle.zone_core.specs.declared.update.Operation.{Operation}
use Rattle.zone_core.specs.Updates.{tested_name, acted_name}

-- ---- names

-- the place of the first name that is this one
abbrev pub first_at : List (List (List ℕ)) → List (List ℕ) → Option ℕ
first_at names name = position_from (λ n. same_name n name) 0 names

-- the names that prerequisites test
abbrev pub tested_names : List Prerequisite → List (List (List ℕ))
tested_names tests = map tested_name tests

-- the names at which operations act
abbrev pub acted_names : List Operation → List (List (List ℕ))
acted_names operations = map acted_name operations

-- ---- places

abbrev pub is_soa_data : Data → Bool
is_soa_data (Soa soa) = true
is_soa_data rdata = false

-- whether a prerequisite tests the data of an SOA, which any update makes others of (RFC 2136 section 3.6)
abbrev pub tests_soa : Prerequisite → Bool
tests_soa (RrsetEquals name rdata) = is_soa_data rdata
tests_soa p = false

-- the first operation at the name of a prerequisite, unless this tests the data of an SOA
abbrev pub acted_place : List Operation → Prerequisite → Option ℕ
acted_place operations p = if tests_soa p then None else first_at (acted_names operations) (tested_name p)

-- the prerequisites that go before all operations, in order
abbrev pub unplaced : List Operation → List Prerequisite → List Prerequisite
unplaced operations tests = filter (λ p. is_none (acted_place operations p)) tests

-- the first prerequisite at the name of one
abbrev pub tested_place : List Prerequisite → Prerequisite → Option ℕ
tested_place tests p = first_at (tested_names tests) (tested_name p)

abbrev pub is_place : ℕ → Option ℕ → Bool
is_place k None = false
is_place k (Some i) = i == k

-- the prerequisites of a place, in order
abbrev pub placed_at : (Prerequisite → Option ℕ) → List Prerequisite → ℕ → List Prerequisite
placed_at place tests k = filter (λ p. is_place k (place p)) tests

-- the prerequisites of each of so many places
abbrev pub in_places : (Prerequisite → Option ℕ) → List Prerequisite → ℕ → List (List Prerequisite)
in_places place tests n = map (placed_at place tests) (range_with_len 0 n)

-- ---- how they are kept

-- prerequisites that are lent
abbrev pub lent : List (Bor Prerequisite) → List Prerequisite
lent tests = map (λ p. p.now) tests

-- those of each place
abbrev pub slots_view : {A : Type 0} → List (Vec (Bor Prerequisite) A) → List (List Prerequisite)
slots_view slots = map (λ v. lent v.items) slots
