use Rattle.std.proofs.Common.{rules, ◌∙◌, sym}
use Rattle.dns_data.proofs.GroupOrderLemmas.{same_runs, evens_decide, cuts_decide}
use Rattle.dns_data.proofs.order.cmp_ipv6.Goals as goal

pub returns-then-len-lt2 : goal.returns-then-len-lt2
returns-then-len-lt2 c =
    let run = c.longest_zero_run-start.result in
    let same = same_runs run c.longest_zero_run.result (sym c.if-ne.false ∙ c.ne.ensures) in
    rw (c.cmp_groups.ensures, ← c.segments-ours.ensures, ← c.segments-theirs.ensures)
    (evens_decide c.segments-ours.result c.segments-theirs.result run (sym c.longest_zero_run-start.ensures.value) (sym c.longest_zero_run.ensures.value ∙ same) c.if-len-lt2.true)

pub returns : goal.returns
returns c =
    let run = c.longest_zero_run-start.result in
    let same = same_runs run c.longest_zero_run.result (sym c.if-ne.false ∙ c.ne.ensures) in
    rw (c.then.ensures, c.cmp_groups-2.ensures, c.around.ensures.behind, c.around-2.ensures.behind, ← c.segments-ours.ensures, ← c.segments-theirs.ensures)
    (cuts_decide c.segments-ours.result c.segments-theirs.result run (sym c.longest_zero_run-start.ensures.value) (sym c.longest_zero_run.ensures.value ∙ same) c.cmp_ended_groups.result (search rules) c.if-len-lt2.false
    (rw (← c.around.ensures.before, ← c.around-2.ensures.before) c.cmp_ended_groups.ensures))
