-- The state without a zone, and its rows.
use Rattle.std.specs.Prelude.{◌≡◌, ◌≢◌, ℕ, ℤ, List, None}
use Rattle.dns_names.specs.Labels.{IsName}
use Rattle.dns_names.specs.Spelling.{name_text}
use Rattle.office_model.specs.States.{State, hold}
use Rattle.store_sql.specs.Rows.{RowsOf, without_origin}
use Rattle.store_rows.specs.Contents.{AreOfState}

-- the state without the zone of an origin: its records and its changes go, and all receipts stay, also those of its updates
abbrev pub without_zone : State → List (List ℕ) → State
without_zone s origin = hold s origin None

-- A state is another one without the zone of an origin: nothing is held of the origin; of each other one, what was; and the receipts are
-- those that were.
pub record IsWithout (s : State) (origin : List (List ℕ)) (t : State) : Type 0 where
  pub gone : t.zones origin ≡ None
  pub others : (o : List (List ℕ)) → o ≢ origin → t.zones o ≡ s.zones o
  pub receipts : t.receipts ≡ s.receipts

-- and there is one such state; it is the same one where there was no such zone
pub record ZonesGo : Type 0 where
  pub found : (s : State) (origin : List (List ℕ)) → IsWithout s origin (without_zone s origin)
  pub only : (s t : State) (origin : List (List ℕ)) → IsWithout s origin t → t ≡ without_zone s origin
  pub same : (s : State) (origin : List (List ℕ)) → s.zones origin ≡ None → without_zone s origin ≡ s

-- rows without those of an origin are the state without its zone
abbrev pub GoneRowsAreGoneZones : Type 0
GoneRowsAreGoneZones =
    (version : ℤ) (rows : RowsOf) (s : State) (origin : List (List ℕ)) → AreOfState version rows s → IsName origin
    → AreOfState version (without_origin (name_text origin) rows) (without_zone s origin)
