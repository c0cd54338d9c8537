use Rattle.std.proofs.Common.{ap}
use Rattle.cli_checks.proofs.reach_examples.examples_report.Goals as goal

pub returns : goal.returns
returns c =
    let found = c.in_ok-rows.ensures in
    let texts = rw (c.in_ok-search.ensures, c.deref.ensures.value) at c.in_ok-rows_text.ensures in (
      c.in_ok-rows.rows.items,
      record { sound = found.sound; order = found.order; groups = found.groups; types = found.types },
      rw (ap (λ v. v.items) c.into_bytes-text.ensures.value) texts,
      rw c.deref-2.ensures.value at c.told-findings.ensures,
    )
