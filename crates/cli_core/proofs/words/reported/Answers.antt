use Rattle.std.proofs.Common.{◌≡◌, ◌∙◌, sym, subst, map}
use Rattle.clap.specs.Words.{kind_of}
use Rattle.clap.specs.declared.error.ErrorKind.TheVariants as kind
use Rattle.cli_core.specs.Misuse.{IsReportedAs}
use Rattle.cli_core.proofs.MisuseLemmas.{is_wrong}
use Rattle.cli_core.proofs.words.reported.Goals as goal

pub returns-in-DisplayVersion-clause-kind : goal.returns-in-DisplayVersion-clause-kind
returns-in-DisplayVersion-clause-kind c =
    let words = map (λ s. s.now) c.args.words.now in
    let same : kind.DisplayVersion ≡ kind_of c.args.error = sym c.in-DisplayVersion.is ∙ c.kind.ensures in
    subst (λ k. IsReportedAs words k c.versioned.result) same (c.versioned.ensures words)

pub returns-in_default : goal.returns-in_default
returns-in_default c =
    let other = c.in_default in
    record {
      kind = c.misused.ensures (map (λ s. s.now) c.args.words.now) (kind_of c.args.error)
          (is_wrong (kind_of c.args.error) (λ e. other.not-DisplayHelp (c.kind.ensures ∙ e)) (λ e. other.not-DisplayVersion (c.kind.ensures ∙ e)));
      memory = λ e. absurd (other.not-OutOfMemory (c.kind.ensures ∙ e));
    }
