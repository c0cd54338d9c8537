use Rattle.std.proofs.Common.{ap}
use Rattle.serde_json.specs.View.{view}
use Rattle.wire_json.specs.Reading.{or_no_json}
use Rattle.wire_json.proofs.ValueLemmas.{json_some, json_none}
use Rattle.wire_json.proofs.value.json_of.Goals as goal

pub returns-in-Ok : goal.returns-in-Ok
returns-in-Ok c = ap or_no_json (json_some c.args.body.now (view c.in-Ok.value) c.in-Ok.ensures.ok.0 c.in-Ok.ensures.ok.1)

pub returns-in-Err-2 : goal.returns-in-Err-2
returns-in-Err-2 c = ap or_no_json (json_none c.args.body.now (c.in-Err.ensures.err (λ memory. let told = c.is_memory.ensures.1 memory in cc)))
