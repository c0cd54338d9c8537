use Rattle.cli_updates.proofs.SlotLemmas.{put_at}
use Rattle.cli_updates.proofs.slots.put.Goals as goal

pub returns-clause-put : goal.returns-clause-put
returns-clause-put c = λ k. put_at c.args.slots.now c.args.place k c.index-slots-place.result c.push.new.self c.args.test c.requires c.in_ok-push.ensures.items
