-- The records of a zone within several names.
use Rattle.std.specs.Prelude.{ℕ, List, Option, option_map}
use Rattle.std.specs.List.{flat_map}
use Rattle.dns_data.specs.declared.record.Record.{Record}
use Rattle.zone_core.specs.Sets.{Records, listing, part, within}
use Rattle.office_model.specs.States.{State, zone_at}

-- those within each name, in record order, one name after the other
abbrev pub subtrees : Records → List (List (List ℕ)) → List Record
subtrees set tops = flat_map (λ top. listing (part set (within top))) tops

-- where there is the zone
abbrev pub subtrees_at : State → List (List ℕ) → List (List (List ℕ)) → Option (List Record)
subtrees_at s origin tops = option_map (λ zone. subtrees zone.records tops) (zone_at s origin)
