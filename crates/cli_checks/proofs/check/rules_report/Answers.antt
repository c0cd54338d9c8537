use Rattle.cli_checks.proofs.check.rules_report.Goals as goal

pub returns : goal.returns
returns c =
    let found = c.in_ok-idle.ensures in (
      c.in_ok-idle.idle.items,
      record { each = found.idle; takers = found.takers; ordered = found.ordered },
      rw (c.rules.ensures.rules, c.deref.ensures.value) at c.in_ok-text.ensures,
      rw c.deref-2.ensures.value at c.findings_of-findings.ensures,
    )
