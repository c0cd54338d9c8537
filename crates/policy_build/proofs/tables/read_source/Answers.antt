use Rattle.std.proofs.Common.{Result, subst, ap, ◌∙◌}
use Rattle.policy_build.specs.declared.build_fault.BuildFault.{BuildFault}
use Rattle.policy_build.specs.Faults.{Reads}
use Rattle.policy_build.specs.Reading.{source_of}
use Rattle.policy_build.specs.Sources.{SourceOf}
use Rattle.policy_build.proofs.DocumentLaws.{source_only}
use Rattle.policy_build.proofs.tables.read_source.Goals as goal

pub returns-clause-only : goal.returns-clause-only
returns-clause-only c = λ top source document is.
    subst (λ (read : Result SourceOf BuildFault). Reads (λ source. source) c.text_source.result read) (ap source_of document ∙ source_only top source is) c.text_source.ensures.exact
