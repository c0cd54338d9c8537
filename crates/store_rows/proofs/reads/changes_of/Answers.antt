use Rattle.std.proofs.Common.{map, sym, ap}
use Rattle.std.proofs.lemmas.List.Sorted.{IsPermutation-trans}
use Rattle.dns_names.specs.Spelling.{name_text}
use Rattle.zone_core.specs.Changes.{change_in}
use Rattle.office_model.specs.States.{Held}
use Rattle.store_sql.specs.Lookups.{changes_of}
use Rattle.store_rows.specs.Contents.{zone_changes}
use Rattle.store_rows.proofs.RowSteps.{done, reads_same}
use Rattle.store_rows.proofs.ContentLemmas.{held_zone, is_held}
use Rattle.store_rows.proofs.reads.changes_of.Goals as goal

pub returns-clause-held : goal.returns-clause-held
returns-clause-held c = λ version all s o held st e same.
    let found = held_zone version all s st o held e in
    let z = found.0 in
    let h = is_held version all s st o z found.1 in
    let rows = IsPermutation-trans (zone_changes z) (changes_of (name_text o) all.changes) c.args.rows.items h.changes same in
    reads_same (λ changes. map change_in changes.items) c.stored_changes.result _ (done held.changes) (ap (λ (x : Held). done x.changes) (sym found.2))
    (c.stored_changes.ensures.only z.origin z.changes h.is.origin h.is.changes rows)
