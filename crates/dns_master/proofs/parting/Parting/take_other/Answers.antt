use Rattle.std.proofs.Common.{map}
use Rattle.std.proofs.lemmas.Result.{err_from_is_err_and}
use Rattle.dns_data.specs.Items.{item_of}
use Rattle.dns_master.specs.FileViews.{force_of}
use Rattle.dns_master.proofs.PartingLemmas.{owner_refuses, owner_taken}
use Rattle.dns_master.proofs.parting.Parting.take_other.Goals as goal

pub returns-in_err-owner : goal.returns-in_err-owner
returns-in_err-owner c =
    let p = err_from_is_err_and c.from_residual.result c.from_residual.ensures.1 in
    rw (p.1, p.2) (owner_refuses (force_of c.args.self.now.file) c.args.entry.white (map item_of c.args.entry.items.now) c.in_err-owner.field-0.0 c.in_err-owner.ensures)

pub returns : goal.returns
returns c =
    owner_taken c.args.self.now c.take_behind.new.self c.args.entry.white (map item_of c.args.entry.items.now) c.take_behind.result c.in_ok-owner.owner
    c.in_ok-owner.ensures (rw c.behind_owner.ensures at c.take_behind.ensures)
