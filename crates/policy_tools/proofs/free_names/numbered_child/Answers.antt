use Rattle.std.proofs.Common.{◌≡◌, [], ◌∷◌, subst}
use Rattle.dns_names.specs.Spelling.{SpellsRelative}
use Rattle.policy_tools.specs.FreeNames.{pair_of}
use Rattle.policy_tools.proofs.FreeNameLemmas.{pair_name, pair_spells, same_read}
use Rattle.policy_tools.proofs.free_names.numbered_child.Goals as goal

pub returns-in-Ok : goal.returns-in-Ok
returns-in-Ok c =
    let n = c.args.number in
    let top = c.args.top.now in
    let e : pair_of n ≡ c.letter.result ∷ c.letter-2.result ∷ [] = cc (c.letter.ensures, c.letter-2.ensures) in
    let spelled = subst (SpellsRelative top (pair_of n ∷ top)) e (pair_spells top n c.requires.number) in
    same_read (pair_of n ∷ top) c.in-Ok.name (c.in-Ok.ensures.only (pair_of n ∷ top) (pair_name top n c.requires.name c.requires.room c.requires.number) spelled)
