use Rattle.std.proofs.Common.{◌∙◌, sym}
use Rattle.policy_build.proofs.ReadingLemmas.{keys_known, keys_unknown}
use Rattle.policy_build.proofs.from_toml.check_keys.Goals as goal

pub returns-then-not-are_keys : goal.returns-then-not-are_keys
returns-then-not-are_keys c = keys_unknown c.args.known.now c.args.place c.args.table.now.entries (sym c.are_keys.ensures ∙ c.if-not-are_keys.true)

pub returns : goal.returns
returns c = keys_known c.args.known.now c.args.place c.args.table.now.entries (sym c.are_keys.ensures ∙ c.if-not-are_keys.false)
