use Rattle.std.proofs.Common.{◌∙◌, sym, ap, map, is_some, true≢false}
use Rattle.std.specs.Prelude.{unwrap_or}
use Rattle.clap.specs.Words.{is_simple, subcommand_of, takes}
use Rattle.clap.specs.Faults.{fault_of, is_simple_and_free}
use Rattle.cli_core.specs.Jobs.{asks}
use Rattle.cli_core.specs.Words.{job_met}
use Rattle.cli_core.proofs.CommandLemmas.{office_free, office_simple}
use Rattle.cli_core.proofs.PlainLemmas.{plain_read}
use Rattle.cli_core.proofs.MisuseLemmas.{nothing_wrong, told_of}
use Rattle.cli_core.proofs.words.job_by.Goals as goal

pub returns-in-Err-clause-passes : goal.returns-in-Err-clause-passes
returns-in-Err-clause-passes c =
    λ t _. c.reported.ensures.memory (c.in-Err.ensures.passes (ap (λ a. takes a (map (λ s. s.now) c.args.words.now)) c.requires ∙ t))

pub returns-in-Some-clause-job : goal.returns-in-Some-clause-job
returns-in-Some-clause-job c =
    let words = map (λ s. s.now) c.args.words.now in
    let rows = (c.in-Ok.ensures.ok.2 (ap is_simple c.requires ∙ office_simple)).1 ∙ ap (λ a. subcommand_of a words) c.requires in
    sym (c.in-Some.ensures ∙ ap (job_met words) rows)

pub returns-in-Some-clause-faultless : goal.returns-in-Some-clause-faultless
returns-in-Some-clause-faultless c =
    ap (λ a. fault_of a (map (λ s. s.now) c.args.words.now)) (sym c.requires)
    ∙ c.in-Ok.ensures.kinds (ap is_simple_and_free c.requires ∙ office_free)

pub returns-in-Some-clause-plain : goal.returns-in-Some-clause-plain
returns-in-Some-clause-plain c =
    let words = map (λ s. s.now) c.args.words.now in
    let rows = (c.in-Ok.ensures.ok.2 (ap is_simple c.requires ∙ office_simple)).1 ∙ ap (λ a. subcommand_of a words) c.requires in
    λ x is. ap (λ o. unwrap_or o (asks c.in-Some.job)) ((c.in-Some.ensures ∙ ap (job_met words) rows) ∙ plain_read words x is)

pub returns-in-Err-clause-reported : goal.returns-in-Err-clause-reported
returns-in-Err-clause-reported c =
    told_of (map (λ s. s.now) c.args.words.now) _ c.in-Err.error _ c.requires c.reported.ensures.kind c.reported.ensures.memory
    (c.in-Err.ensures.kinds (ap is_simple_and_free c.requires ∙ office_free))

pub returns-clause-reported : goal.returns-clause-reported
returns-clause-reported c =
    let words = map (λ s. s.now) c.args.words.now in
    let rows = (c.in-Ok.ensures.ok.2 (ap is_simple c.requires ∙ office_simple)).1 ∙ ap (λ a. subcommand_of a words) c.requires in
    let faultless = ap (λ a. fault_of a words) (sym c.requires)
    ∙ c.in-Ok.ensures.kinds (ap is_simple_and_free c.requires ∙ office_free) in
    nothing_wrong words _ faultless (sym (c.in-None.ensures ∙ ap (job_met words) rows)) c.mistake.ensures

pub returns-clause-passes : goal.returns-clause-passes
returns-clause-passes c =
    let words = map (λ s. s.now) c.args.words.now in
    let rows = (c.in-Ok.ensures.ok.2 (ap is_simple c.requires ∙ office_simple)).1 ∙ ap (λ a. subcommand_of a words) c.requires in
    λ t some. absurd (true≢false (sym some ∙ ap is_some (sym (c.in-None.ensures ∙ ap (job_met words) rows))))
