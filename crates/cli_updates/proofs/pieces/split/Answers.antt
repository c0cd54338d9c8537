use Rattle.std.proofs.Common.{◌∙◌, ap, length}
use Rattle.cli_updates.specs.Slots.{acted_place}
use Rattle.cli_updates.proofs.PieceLemmas.{places_count}
use Rattle.cli_updates.proofs.pieces.split.Goals as goal

pub push_operations-requires : goal.push_operations-requires
push_operations-requires c =
    let ops = c.args.operations.now in
    ap length c.deref-3.ensures.value ∙ places_count (acted_place ops) c.args.tests.now (length ops) c.in_ok-before.field-0.beside.items c.in_ok-before.ensures.beside
