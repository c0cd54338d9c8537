use Rattle.std.proofs.Common.{sym, subst, ◌≡◌}
use Rattle.wire_json.specs.Json.{escaped}
use Rattle.wire_json.proofs.ShortLemmas.{plain_list}
use Rattle.wire_json.proofs.short.push_refused.Goals as goal

pub push_refusal_of-requires-clause-plain : goal.push_refusal_of-requires-clause-plain
push_refusal_of-requires-clause-plain c = subst (λ t. escaped t ≡ t) (sym c.text.ensures.text) (plain_list c.args.list)
