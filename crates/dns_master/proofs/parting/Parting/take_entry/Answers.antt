use Rattle.std.proofs.Common.{sym, ◌∙◌, map}
use Rattle.dns_data.specs.Items.{item_of}
use Rattle.dns_master.specs.FileViews.{force_of}
use Rattle.dns_master.proofs.PartingLemmas.{any_kept, any_other, any_refused}
use Rattle.dns_master.proofs.parting.Parting.take_entry.Goals as goal

pub returns-in-Ok : goal.returns-in-Ok
returns-in-Ok c =
    any_kept c.args.self.now c.take_kept.new.self c.args.entry.white (map item_of c.args.entry.items.now) c.take_kept.result c.in-Ok.statement c.in-Ok.ensures c.take_kept.ensures

pub returns-then-is_not_kept : goal.returns-then-is_not_kept
returns-then-is_not_kept c =
    any_other c.args.self.now c.take_other.new.self c.args.entry.white (map item_of c.args.entry.items.now) c.take_other.result c.in-Err.fault (sym c.is_not_kept.ensures ∙ c.if-is_not_kept.true)
    c.in-Err.ensures c.take_other.ensures

pub returns-else-is_not_kept : goal.returns-else-is_not_kept
returns-else-is_not_kept c =
    any_refused (force_of c.args.self.now.file) c.args.entry.white (map item_of c.args.entry.items.now) c.in-Err.fault (sym c.is_not_kept.ensures ∙ c.if-is_not_kept.false) c.in-Err.ensures
