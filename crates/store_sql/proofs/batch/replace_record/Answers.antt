use Rattle.store_sql.specs.Statements.{with_record, without_record}
use Rattle.store_sql.proofs.TransactionParts.{part_then, on_part}
use Rattle.store_sql.proofs.batch.replace_record.Goals as goal

pub returns-then-branch-clause-part : goal.returns-then-branch-clause-part
returns-then-branch-clause-part g c = rw c.if-branch.true at c.in_ok-update_record.ensures.part

pub returns-clause-part : goal.returns-clause-part
returns-clause-part g c =
    on_part c.insert.result _ _ (λ last. part_then _ _ _ (without_record c.args.gone.now) (with_record c.args.new.now) (rw c.if-branch.false at c.in_ok-update_record.ensures.part) last) c.insert.ensures.part
