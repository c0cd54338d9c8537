use Rattle.zone_core.proofs.MergeLemmas.{row_done}
use Rattle.zone_core.proofs.merge.Left.put.Goals as goal

pub returns : goal.returns
returns c =
    row_done c.args.row c.args.rows.now.items c.push_before.new.rows.items c.push_unless_gone.new.rows.items c.args.self.gone.now c.in_ok-gone.gone.now c.args.self.come.now c.in_ok-come.come.now
    c.in_ok-come.ensures.rows c.in_ok-come.ensures.left c.in_ok-gone.ensures.rows c.in_ok-gone.ensures.left
