use Rattle.std.proofs.Common.{None, map, option_map, string_bytes, ap}
use Rattle.zone_core.specs.Changes.{change_in}
use Rattle.office_model.specs.Tables.{addition_in}
use Rattle.store_rows.proofs.BatchLaws.{receipt_leads}
use Rattle.store_rows.proofs.batches.receipt_batch.Goals as goal

pub returns-clause-exact : goal.returns-clause-exact
returns-clause-exact c =
    λ i. record { version = None; zones = map string_bytes (c.new.ensures.items i); removed = c.new-2.ensures.items i; added = c.new-3.ensures.items i; changes = c.new-4.ensures.items i; receipts = c.in_ok-receipts.ensures.rows i }

pub returns-clause-leads : goal.returns-clause-leads
returns-clause-leads c none = receipt_leads (addition_in c.args.addition.now) _ (ap (option_map change_in) none) c.receipt_rows.ensures.receipt (returns-clause-exact c)
