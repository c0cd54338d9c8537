use Rattle.std.proofs.Common.{◌∙◌, sym}
use Rattle.dns_master.proofs.GrammarLaws.{pieces_once}
use Rattle.dns_master.proofs.laws.pieces_are_one_list.Goals as goal

pub returns : goal.returns
returns c = λ ps qs a b text h k.
    let x = pieces_once ps a text h in
    let y = pieces_once qs b text k in
    (sym x.pieces ∙ y.pieces, sym x.at_end ∙ y.at_end)
