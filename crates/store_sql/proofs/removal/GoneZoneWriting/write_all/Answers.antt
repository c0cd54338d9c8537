use Rattle.store_sql.proofs.TransactionParts.{part_then, on_part, stays_then}
use Rattle.store_sql.proofs.removal.GoneZoneWriting.write_all.Goals as goal

pub returns-clause-part : goal.returns-clause-part
returns-clause-part g c =
    on_part c.delete_zone.result _ _
    (λ last. part_then _ _ _ _ _ (part_then _ _ _ _ _ c.in_ok-delete_records_of.ensures.part c.in_ok-delete_changes_of.ensures.part) last)
    c.delete_zone.ensures.part

pub returns-in_err-delete_changes_of-clause-stays : goal.returns-in_err-delete_changes_of-clause-stays
returns-in_err-delete_changes_of-clause-stays g c = stays_then _ _ _ c.delete_records_of.ensures.stays c.delete_changes_of.ensures.stays

pub returns-clause-stays : goal.returns-clause-stays
returns-clause-stays g c = stays_then _ _ _ (stays_then _ _ _ c.delete_records_of.ensures.stays c.delete_changes_of.ensures.stays) c.delete_zone.ensures.stays
