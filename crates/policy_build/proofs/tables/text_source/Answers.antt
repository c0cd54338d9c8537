use Rattle.toml.specs.View.{table_view}
use Rattle.policy_build.specs.Reading.{source_in}
use Rattle.policy_build.proofs.DocumentLaws.{found_of, source_found}
use Rattle.policy_build.proofs.SeenLemmas.{members_seen}
use Rattle.policy_build.proofs.tables.text_source.Goals as goal

pub returns-clause-found : goal.returns-clause-found
returns-clause-found c =
    let top = table_view c.in_ok-top.top in
    found_of _ c.source.result (source_in top) c.source.ensures (λ source read. (top, c.in_ok-top.ensures, source_found top source (members_seen c.in_ok-top.top.entries) read))
