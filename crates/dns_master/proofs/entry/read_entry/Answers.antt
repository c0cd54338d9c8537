use Rattle.std.proofs.Common.{◌≡◌, ◌<◌, ◌∙◌, length, arith}
use Rattle.dns_master.proofs.ReadLemmas.{begun_more}
use Rattle.dns_master.proofs.entry.read_entry.Goals as goal
use Rattle.dns_master.proofs.entry.read_entry.Goals.{then-is_empty, else-is_empty}

pub loop-item-preserved : goal.loop-item-preserved
loop-item-preserved c =
    let l = c.loop-item in
    let item = c.in-Some.item in
    let after = c.next_item.new.self in
    let next = rw c.in-Some.is at c.in_ok-item.ensures.exact in
    let shrunk = rw c.in-Some.is at c.in_ok-item.ensures.shrinks in
    rw c.in_ok-push.ensures.items (record {
      room = omega (arith, shrunk.room, l.invariant.room);
      no_longer = omega (arith, shrunk.no_longer, l.invariant.no_longer);
      begun = elim c.if-is_empty.branch [
        | then-is_empty w ↦
            let none : length l.items.items ≡ 0 = grind (arith, c.is_empty.ensures, w.if-is_empty.true) in
            begun_more c.args.text.now l.items.items l.left l.place item after c.if-is_empty.left (λ h. w.left-is ∙ w.left_from-left.ensures) (λ h. absurd (omega (arith, none, h))) l.invariant.begun next
        | else-is_empty w ↦
            let some : 0 < length l.items.items = grind (arith, c.is_empty.ensures, w.if-is_empty.false) in
            begun_more c.args.text.now l.items.items l.left l.place item after c.if-is_empty.left (λ h. absurd (omega (arith, some, h))) (λ h. w.left-is) l.invariant.begun next
      ];
    })
