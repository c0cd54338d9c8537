use Rattle.std.proofs.Common.{pos, length, subst, ◌∙◌}
use Rattle.std.proofs.lemmas.Result.{IfOk-weaker}
use Rattle.store_sql.specs.Lookups.{changes_of, IsLast}
use Rattle.store_rows.proofs.StateLaws.{last_numbers_count}
use Rattle.office_store.proofs.batch.next_number.Goals as goal

pub returns-clause-next : goal.returns-clause-next
returns-clause-next g c =
    λ clean. IfOk-weaker c.number_behind.result _ _
    (λ number next s h held is.
    let text = c.deref.ensures ∙ c.in_ok-text.ensures.canonical in
    let last = subst (λ t. IsLast (changes_of t h.rows.changes) c.in_ok-last.last) text (c.in_ok-last.ensures.answer clean h.rows h.held) in
    next (length held.changes) (last_numbers_count (pos 2) h.rows s c.args.origin.now held c.in_ok-last.last h.are is last))
    c.number_behind.ensures.next
