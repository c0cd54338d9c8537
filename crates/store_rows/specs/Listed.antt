-- The zones and the receipts of a state, listed.
use Rattle.std.specs.Prelude.{◌≡◌, ◌≢◌, ◌↔◌, ℕ, List, true, ◌&&◌, Option, Some, option_map, is_some, bytes_eq}
use Rattle.std.specs.List.{AllPairs, Contains, find, list_any}
use Rattle.std.specs.declared.cmp.Ordering.{Ordering}
use Rattle.std.specs.Cmp.{IsTotalOrder, on_total, then_total}
use Rattle.std.specs.Cmp.Lexicographic.{slice_cmp, nat_list_cmp_total}
use Rattle.std.specs.Ordering.{nat_cmp, on, then_cmp}
use Rattle.dns_names.specs.Order.{canonical_cmp, same_name}
use Rattle.office_model.specs.declared.receipt.Receipt.{Receipt}
use Rattle.office_model.specs.States.{Held, State}
use Rattle.store_rows.specs.declared.ordered.KeptReceipt.{KeptReceipt}
use Rattle.store_rows.specs.Orders.{rises}

-- ---- origins

-- Names are the origins of the zones of a state, in canonical order (RFC 4034 section 6.1): each stands before the next one, and a name
-- is among them exactly where a zone is held of it.
pub record AreOriginsOf (s : State) (names : List (List (List ℕ))) : Type 0 where
  pub order : rises canonical_cmp names ≡ true
  pub among : (origin : List (List ℕ)) → list_any (λ name. same_name name origin) names ≡ is_some (s.zones origin)

-- none comes twice, and they are those of which a zone is held
abbrev pub OriginsAreOfZones : Type 0
OriginsAreOfZones =
    (s : State) (names : List (List (List ℕ))) → AreOriginsOf s names
    → AllPairs (λ a b. a ≢ b) names × ((origin : List (List ℕ)) → Contains names origin ↔ ((held : Held) × (s.zones origin ≡ Some held)))

-- ---- receipts

-- by caller, and then by identifier, in the order of octets
abbrev pub kept_order : KeptReceipt → KeptReceipt → Ordering
kept_order = then_cmp (on (λ k. k.caller) (slice_cmp nat_cmp)) (on (λ k. k.id) (slice_cmp nat_cmp))

-- which is a total order
pub kept_total : IsTotalOrder kept_order
kept_total = then_total (on_total (λ k. k.caller) nat_list_cmp_total) (on_total (λ k. k.id) nat_list_cmp_total)

-- what is kept of a caller under an identifier, if something is
abbrev pub kept_among : List KeptReceipt → List ℕ → List ℕ → Option KeptReceipt
kept_among kept caller id = find (λ k. bytes_eq k.caller caller && bytes_eq k.id id) kept

-- They are the receipts of a state, by caller and then by identifier: each stands before the next one, and what is found of a caller
-- under an identifier is what the state has there.
pub record AreReceiptsOf (s : State) (kept : List KeptReceipt) : Type 0 where
  pub order : rises kept_order kept ≡ true
  pub among : (caller id : List ℕ) → s.receipts caller id ≡ option_map (λ k. k.receipt) (kept_among kept caller id)

-- no two of a caller have one identifier, and they are those that the state has
abbrev pub ReceiptsAreThose : Type 0
ReceiptsAreThose =
    (s : State) (kept : List KeptReceipt) → AreReceiptsOf s kept
    → AllPairs (λ a b. ¬ ((a.caller ≡ b.caller) × (a.id ≡ b.id))) kept
    × ((caller id : List ℕ) (receipt : Receipt) → Contains kept (record { caller = caller; id = id; receipt = receipt }) ↔ (s.receipts caller id ≡ Some receipt))
