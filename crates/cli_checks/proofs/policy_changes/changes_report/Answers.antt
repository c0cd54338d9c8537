use Rattle.cli_checks.proofs.policy_changes.changes_report.Goals as goal

pub returns : goal.returns
returns c = (
  c.in_ok-rows.rows.items,
  c.in_ok-rows.ensures,
  rw c.deref.ensures.value at c.in_ok-text.ensures,
  rw c.deref-2.ensures.value at c.changes_found-findings.ensures,
)
