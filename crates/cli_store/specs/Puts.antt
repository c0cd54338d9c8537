-- A zone that is put into a table.
use Rattle.std.specs.Prelude.{Result}
use Rattle.zone_core.specs.Zones.{ZoneOf}
use Rattle.office_model.specs.States.{State}
use Rattle.store_faults.specs.declared.store_fault.StoreFault.{StoreFault}
use Rattle.office_store.specs.Zones.{if_free, if_later, with_imported, with_replaced}
use Rattle.cli_core.specs.declared.job.Existing.{Existing}
use Rattle.cli_core.specs.declared.job.Existing.TheVariants.{Kept, Replaced}

-- what a table answers to a zone that is put beside the others, or in the place of the one of its origin: this zone, or its refusal
abbrev pub put_into : Existing → State → ZoneOf → Result ZoneOf StoreFault
put_into Kept s zone = if_free (s.zones zone.origin) zone
put_into Replaced s zone = if_later (s.zones zone.origin) zone

-- and the state after that
abbrev pub with_put : Existing → State → ZoneOf → State
with_put Kept s zone = with_imported s (put_into Kept s zone)
with_put Replaced s zone = with_replaced s (put_into Replaced s zone)
