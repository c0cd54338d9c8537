use Rattle.std.proofs.Common.{[], ◌∷◌}
use Rattle.policy_tools.proofs.FreeNameLemmas.{octet_spells, same_read}
use Rattle.policy_tools.proofs.free_names.octet_child.Goals as goal

pub returns-in-Ok : goal.returns-in-Ok
returns-in-Ok c =
    let o = c.args.octet in
    let top = c.args.top.now in
    let folded = c.requires.labels.0.octets.0 in
    same_read ((o ∷ []) ∷ top) c.in-Ok.name (c.in-Ok.ensures.only ((o ∷ []) ∷ top) c.requires (octet_spells top o folded.below folded.folded))
