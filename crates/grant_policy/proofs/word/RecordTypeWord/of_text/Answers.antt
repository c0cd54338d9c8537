use Rattle.std.proofs.Common.{◌∙◌}
use Rattle.grant_policy.proofs.WordLemmas.{type_read}
use Rattle.grant_policy.proofs.word.RecordTypeWord.of_text.Goals as goal

pub returns : goal.returns
returns c =
    c.ok.ensures.value ∙ (rw c.as_bytes.ensures.value at (type_read c.as_bytes.result.now c.read.result c.read.ensures.found))
