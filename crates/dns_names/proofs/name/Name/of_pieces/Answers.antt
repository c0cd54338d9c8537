use Rattle.std.proofs.Common.{◌++◌, List, ℕ, Ok, sym, ap, ◌∙◌, arith}
use Rattle.dns_names.proofs.RowLemmas.{wire_len-name, length-held}
use Rattle.dns_names.proofs.KeptLemmas.{wire_len-kept, ended_fits, kept_whole, kept_labels}
use Rattle.dns_names.proofs.PieceLaws.{fitting_again}
use Rattle.dns_names.proofs.PlacedLemmas.{too_long}
use Rattle.dns_names.proofs.name.Name.of_pieces.Goals as goal

pub overflow_sub-room-2 : goal.overflow_sub-room-2
overflow_sub-room-2 c = omega (arith, wire_len-name c.args.tail.now, length-held _ _ _ c.args.tail.now c.tail.invariant c.tail.view_is, c.requires.tail.short)

pub returns-then-pieces-room : goal.returns-then-pieces-room
returns-then-pieces-room c = λ given kept ends.
    let tail = c.args.tail.now in
    too_long (given.ended ++ tail) (omega (arith, wire_len-kept c.args.pieces.now given kept ends tail, wire_len-name tail, length-held _ _ _ tail c.tail.invariant c.tail.view_is, c.requires.tail.short, c.if-pieces-room.true))

pub shared_ref_as_front-lengths : goal.shared_ref_as_front-lengths
shared_ref_as_front-lengths c =
    let p = c.requires.name in
    omega (arith, ended_fits c.args.pieces.now p.0 p.1 p.2 (omega (arith, c.if-pieces-room.false)))

pub joined-requires-clause-whole : goal.joined-requires-clause-whole
joined-requires-clause-whole c =
    let p = c.requires.name in
    kept_whole c.args.pieces.now p.0 p.1 p.2 (omega (arith, c.if-pieces-room.false))

pub joined-requires-clause-name : goal.joined-requires-clause-name
joined-requires-clause-name c =
    let p = c.requires.name in
    let tail = c.args.tail.now in
    let labels = kept_labels c.args.pieces.now p.0 p.1 p.2 (omega (arith, c.if-pieces-room.false)) in
    rw labels
    (p.3 (omega (arith, wire_len-kept c.args.pieces.now p.0 p.1 p.2 tail, wire_len-name tail, length-held _ _ _ tail c.tail.invariant c.tail.view_is, c.requires.tail.short, c.if-pieces-room.false)))

pub returns : goal.returns
returns c = λ given kept ends.
    let tail = c.args.tail.now in
    let labels = kept_labels c.args.pieces.now given kept ends (omega (arith, c.if-pieces-room.false)) in
    let fits = fitting_again (given.ended ++ tail) (omega (arith, wire_len-kept c.args.pieces.now given kept ends tail, wire_len-name tail, length-held _ _ _ tail c.tail.invariant c.tail.view_is, c.requires.tail.short, c.if-pieces-room.false)) in
    fits ∙ ap (λ (n : List (List ℕ)). Ok n) (sym (c.in_ok-joined.ensures ∙ ap (λ (ls : List (List ℕ)). ls ++ tail) labels))
