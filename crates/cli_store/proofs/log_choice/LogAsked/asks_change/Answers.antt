use Rattle.std.proofs.Common.{◌∙◌, nat_le}
use Rattle.cli_store.specs.Log.{passes, some_within, change_names, numbered_as}
use Rattle.zone_core.specs.Changes.{change_in}
use Rattle.cli_store.proofs.LogLemmas.{by_both, records_within}
use Rattle.cli_store.proofs.log_choice.LogAsked.asks_change.Goals as goal

pub returns-then-asks_number : goal.returns-then-asks_number
returns-then-asks_number c =
    let change = c.args.change.now in
    by_both (passes (λ first. nat_le first c.args.number) c.args.self.now.from) (passes (some_within (change_names (numbered_as c.args.number (change_in change)))) c.args.self.now.name)
    c.asks_number.result c.asks_records.result c.asks_number.ensures c.if-asks_number.true (c.asks_records.ensures ∙ records_within change.removed.items change.added.items c.args.self.now.name)
