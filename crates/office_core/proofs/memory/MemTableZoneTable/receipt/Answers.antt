use Rattle.std.proofs.Common.{Some, None, ap, ◌∙◌}
use Rattle.office_core.proofs.MemoryLemmas.{receipt_told}
use Rattle.office_core.proofs.memory.MemTableZoneTable.receipt.Goals as goal

pub returns-in_default-clause-answer : goal.returns-in_default-clause-answer
returns-in_default-clause-answer c = λ u s h.
    receipt_told c.args.self.now c.self.inside.zones.items c.self.inside.receipts s c.args.caller.now c.args.id.now None c.self.view_is h c.in_default.ensures

pub returns-clause-answer : goal.returns-clause-answer
returns-clause-answer c = λ u s h.
    ap Some c.in_ok-try_copy.ensures
    ∙ receipt_told c.args.self.now c.self.inside.zones.items c.self.inside.receipts s c.args.caller.now c.args.id.now (Some c.in-Some.receipt.now) c.self.view_is h c.in-Some.ensures
