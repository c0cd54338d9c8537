use Rattle.cli_text.proofs.LineObjectLemmas.{each_there}
use Rattle.cli_text.proofs.line_objects.push_member_if.Goals as goal

pub returns : goal.returns
returns c =
    let there = each_there c.args.words.now c.args.wanted.now c.place-place.result c.in_ok-value.value.items c.place-place.ensures c.if-place-words.false c.in_ok-value.ensures in
    rw there (rw c.deref.ensures.value at c.push_member.ensures)
