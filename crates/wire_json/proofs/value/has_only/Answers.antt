use Rattle.std.proofs.Common.{◌∙◌}
use Rattle.wire_json.proofs.ValueLemmas.{only_tells}
use Rattle.wire_json.proofs.value.has_only.Goals as goal

pub returns : goal.returns
returns c = c.are_known.ensures ∙ only_tells c.args.fields.now c.args.members.now.entries
