use Rattle.store_rows.proofs.GoneZoneLemmas.{zones_go, gone_rows_are_gone_zones}
use Rattle.store_rows.proofs.laws.zones_go.Goals as goal

pub returns : goal.returns
returns c = record { states = zones_go; rows = gone_rows_are_gone_zones }
