-- What `zones` prints of a store: its zones, and how many receipts there are of updates of each.
use Rattle.std.specs.Prelude.{◌≡◌, ◌≢◌, ℕ, ◌+◌, ◌==◌, List, [], ◌∷◌, ◌++◌, Bool, not, if◌then◌else◌, length, sum_by, codes, decimal}
use Rattle.std.specs.List.{AllPairs, filter, flat_map, list_any}
use Rattle.dns_names.specs.Order.{same_name}
use Rattle.dns_names.specs.Spelling.{name_text}
use Rattle.store_rows.specs.declared.ordered.KeptReceipt.{KeptReceipt}
use Rattle.cli_store.specs.declared.zone_list.ZoneSummary.{ZoneSummary}

-- whether an origin is that of one of the zones
abbrev pub is_listed : List ZoneSummary → List (List ℕ) → Bool
is_listed zones origin = list_any (λ z. same_name z.origin origin) zones

-- how many receipts there are of updates of an origin
abbrev pub receipts_of : List KeptReceipt → List (List ℕ) → ℕ
receipts_of kept origin = length (filter (λ k. same_name k.receipt.origin origin) kept)

-- the receipts of updates of origins that are those of no zone
abbrev pub elsewhere : List ZoneSummary → List KeptReceipt → List KeptReceipt
elsewhere zones kept = filter (λ k. not (is_listed zones k.receipt.origin)) kept

-- a zone, with how many receipts there are of it
abbrev pub zone_line : ZoneSummary → ℕ → List ℕ
zone_line z receipts =
    name_text z.origin
    ++ (codes " serial "
    ++ (decimal z.serial
    ++ (codes " records " ++ (decimal z.records ++ (codes " changes " ++ (decimal z.changes ++ (codes " receipts " ++ (decimal receipts ++ 10 ∷ []))))))))

-- how many receipts are of no zone, if there are some
abbrev pub elsewhere_line : ℕ → List ℕ
elsewhere_line receipts = if receipts == 0 then [] else codes "elsewhere receipts " ++ (decimal receipts ++ 10 ∷ [])

-- the zones, and the receipts of no zone
abbrev pub zones_text : List ZoneSummary → List KeptReceipt → List ℕ
zones_text zones kept = flat_map (λ z. zone_line z (receipts_of kept z.origin)) zones ++ elsewhere_line (length (elsewhere zones kept))

-- where no two zones have one origin, each receipt is counted once
abbrev pub EachReceiptCountsOnce : Type 0
EachReceiptCountsOnce =
    (zones : List ZoneSummary) (kept : List KeptReceipt) → AllPairs (λ a b. a.origin ≢ b.origin) zones
    → sum_by (λ z. receipts_of kept z.origin) zones + length (elsewhere zones kept) ≡ length kept
