-- The first records of large sets.
use Rattle.std.proofs.Common.{◌≡◌, ℕ, List, sym, subst}
use Rattle.std.specs.List.{filter}
use Rattle.std.proofs.lemmas.Bool.{and_parts, and_from}
use Rattle.std.proofs.lemmas.List.Kept.{IsStrictlySortedBy-filter}
use Rattle.dns_data.specs.declared.record.Record.{Record}
use Rattle.zone_core.specs.Sets.{record_order, InOrder}
use Rattle.zone_tools.specs.LargeSets.{set_beside, is_large, is_first, begins_large, AreLargeSets}
use Rattle.zone_tools.proofs.SharedLemmas.{filter_parts, in_filter}

pub large_are : (most : ℕ) (rs found : List Record) → InOrder rs → found ≡ filter (begins_large most rs) rs → AreLargeSets most rs found
large_are most rs found order e =
    subst (AreLargeSets most rs) (sym e)
    (record {
      each = λ r. (
        λ c.
            let both = filter_parts (begins_large most rs) rs r c in
            let parts = and_parts (is_first r (set_beside rs r)) (is_large most (set_beside rs r)) both.1 in
            (both.0, parts.0, parts.1),
        λ all. in_filter (begins_large most rs) rs r all.0 (and_from (is_first r (set_beside rs r)) (is_large most (set_beside rs r)) all.1 all.2),
      );
      order = IsStrictlySortedBy-filter record_order (begins_large most rs) rs order;
    })
