use Rattle.std.proofs.Common.{sym, ◌∙◌}
use Rattle.dns_data.proofs.NumberLaws.{duration_found, duration_only}
use Rattle.dns_data.proofs.number.Ttl.read.Goals as goal

pub returns-in_err-seconds-clause-only : goal.returns-in_err-seconds-clause-only
returns-in_err-seconds-clause-only c seconds is fits =
    absurd (let read = sym c.in_err-seconds.was ∙ c.read_duration.ensures ∙ duration_only 2147483647 c.args.text.now seconds is fits in cc)

pub returns-clause-found : goal.returns-clause-found
returns-clause-found c = duration_found 2147483647 c.args.text.now c.in_ok-seconds.seconds (sym (sym c.in_ok-seconds.was ∙ c.read_duration.ensures))

pub returns-clause-only : goal.returns-clause-only
returns-clause-only c seconds is fits = sym c.in_ok-seconds.was ∙ c.read_duration.ensures ∙ duration_only 2147483647 c.args.text.now seconds is fits
