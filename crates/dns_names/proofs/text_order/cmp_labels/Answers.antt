use Rattle.std.proofs.lemmas.List.{nil_from_length}
use Rattle.dns_names.specs.Spelling.{octet_text}
use Rattle.dns_names.proofs.TextOrderLemmas.{octets_part, dot_parts, first_ended, second_ended, differ_here, same_here}
use Rattle.dns_names.proofs.text_order.cmp_labels.Goals as goal

pub returns-in-None-Some : goal.returns-in-None-Some
returns-in-None-Some c =
    let l = c.loop-their in
    let some = c.in-None-Some in
    rw (c.cmp.ensures, c.as_slice.ensures, c.as_slice-in-None-Some.ensures.value, c.spelling.ensures.text)
    (first_ended octet_text 46 octets_part dot_parts c.args.first.now c.args.second.now l.ours.now l.theirs.now l.invariant some.their.now some.field-0-1-1.now (nil_from_length l.ours.now some.ensures.cases) some.ensures'.cases.0 c.spelling.ensures.octet)

pub returns-in-Some-None : goal.returns-in-Some-None
returns-in-Some-None c =
    let l = c.loop-their in
    let some = c.in-Some-None in
    rw (c.cmp-in-Some-None.ensures, c.as_slice-in-Some-None.ensures.value, c.as_slice-in-Some-None-2.ensures, c.spelling-in-Some-None.ensures.text)
    (second_ended octet_text 46 octets_part dot_parts c.args.first.now c.args.second.now l.ours.now l.theirs.now l.invariant some.our.now some.field-0-1-0.now some.ensures.cases.0 (nil_from_length l.theirs.now some.ensures'.cases) c.spelling-in-Some-None.ensures.octet)

pub returns-in-Some-Some : goal.returns-in-Some-Some
returns-in-Some-Some c =
    let l = c.loop-their in
    let some = c.in-Some-Some in
    rw (c.cmp-in-Some-Some.ensures, c.as_slice-in-Some-Some.ensures.value, c.as_slice-in-Some-Some-2.ensures.value, c.spelling-in-Some-Some.ensures.text, c.spelling-in-Some-Some-2.ensures.text)
    (differ_here octet_text 46 octets_part dot_parts c.args.first.now c.args.second.now l.ours.now l.theirs.now l.invariant some.our.now some.their.now some.field-0-1-0.now some.field-0-1-1.now some.ensures.cases.0 some.ensures'.cases.0 c.spelling-in-Some-Some.ensures.octet c.spelling-in-Some-Some-2.ensures.octet c.if-our-their.true)

pub loop-their-preserved : goal.loop-their-preserved
loop-their-preserved c =
    let l = c.loop-their in
    let some = c.in-Some-Some in
    same_here octet_text 46 octets_part dot_parts c.args.first.now c.args.second.now l.ours.now l.theirs.now l.invariant some.our.now some.their.now some.field-0-1-0.now some.field-0-1-1.now some.ensures.cases.0 some.ensures'.cases.0 c.if-our-their.false
