use Rattle.std.proofs.Common.{rules}
use Rattle.zone_core.proofs.RetainLemmas.{retain_is}
use Rattle.store_rows.specs.declared.ordered.KeptReceipt.{KeptReceipt}
use Rattle.cli_store.specs.BlameReceipts.{is_made_of}
use Rattle.cli_store.proofs.zone_makers.made_of.Goals as goal

pub returns : goal.returns
returns c =
    retain_is _ (λ (k : KeptReceipt). is_made_of c.args.origin.now k) _ (λ x b g k. search rules) c.args.kept.items c.retain.new.self.items c.retain.ensures.filtered
