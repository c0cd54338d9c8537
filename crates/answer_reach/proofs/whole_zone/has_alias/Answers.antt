use Rattle.std.proofs.Common.{sym, ap, ◌∙◌, ◌==◌, length, List}
use Rattle.dns_data.specs.declared.record.Record.{Record}
use Rattle.zone_core.specs.Sets.{listing}
use Rattle.answer_reach.proofs.SkippedLemmas.{no_alias_there}
use Rattle.answer_reach.proofs.whole_zone.has_alias.Goals as goal

pub returns-then-not-wildcards : goal.returns-then-not-wildcards
returns-then-not-wildcards c =
    no_alias_there (listing c.args.zone.now.records) c.args.name.now (sym c.requires ∙ c.if-not-wildcards.true)
    (sym (c.is_empty.ensures ∙ ap (λ (l : List Record). length l == 0) c.asked_at.ensures) ∙ c.if-not-is_empty.false)
