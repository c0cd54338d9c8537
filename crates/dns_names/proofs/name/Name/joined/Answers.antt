use Rattle.std.proofs.Common.{sym, ◌∙◌}
use Rattle.std.proofs.lemmas.Slice.Eq.{bytes_eq-Decides}
use Rattle.dns_names.proofs.RowLemmas.{plain_joined}
use Rattle.dns_names.proofs.name.Name.joined.Goals as goal

pub joined_plain-requires-clause-plain : goal.joined_plain-requires-clause-plain
joined_plain-requires-clause-plain c =
    let same = (bytes_eq-Decides c.tail.inside.row.now c.tail.inside.key.now).0 (sym c.eq.ensures ∙ c.if-eq.true) in
    plain_joined c.args.lengths.now c.args.octets.now _ _ _ c.of_rows-front.result c.args.tail.now c.requires.whole (sym c.of_rows-front.ensures) c.tail.invariant c.tail.view_is same (sym c.stand_in_keys.ensures ∙ c.if-stand_in_keys.true)
