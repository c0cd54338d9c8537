use Rattle.std.proofs.Common.{arith, refl, rules, ◌∙◌}
use Rattle.std.proofs.KnownBytes.{Consumes-nil}
use Rattle.cli_core.proofs.DeviceLemmas.{refilled, read_more, all_read, more_left}
use Rattle.cli_core.proofs.StepLemmas.{limited_all, limited_more, limited_reached}
use Rattle.cli_core.proofs.device.read_device.Goals as goal

pub loop-reader-init : goal.loop-reader-init
loop-reader-init g c = record { read = rw c.new-input.ensures.items (Consumes-nil _); fine = refl; room = omega (arith, c.in_ok-piece.ensures.len) }

pub loop-reader-preserved : goal.loop-reader-preserved
loop-reader-preserved g c =
    let l = c.loop-reader in
    let e = c.in-Ok.ensures in
    let now = refilled c.read_some.new.buffer l.piece.items _ _ c.deref.ensures.value (c.read_some.auto.buffer ∙ c.deref_mut.ensures.len) in
    record {
      read = read_more _ _ _ l.input.items _ c.read_some.new.buffer _ c.in-Ok.count l.invariant.read e.bytes.0 c.in_ok-extend_from_slice.ensures.items now;
      fine = e.fine ∙ l.invariant.fine;
      room = l.invariant.room;
    }

pub returns-then-count-eq0 : goal.returns-then-count-eq0
returns-then-count-eq0 g c =
    let l = c.loop-reader in
    let e = c.in-Ok.ensures in
    let none = c.if-count-eq0.true in
    let end = e.bytes.1 none (omega (arith, c.read_some.auto.buffer, c.deref_mut.ensures.len, l.invariant.room)) in
    (limited_all _ l.input.items (all_read _ _ _ l.input.items c.read_some.new.buffer c.in-Ok.count l.invariant.read none e.bytes.0 end) (omega (arith, c.len.ensures)), e.fine ∙ l.invariant.fine)

pub returns : goal.returns
returns g c =
    let l = c.loop-reader in
    (limited_more _ (more_left _ _ l.input.items 4194304 l.invariant.read (omega (arith, c.len.ensures))), l.invariant.fine)

pub returns-in_default : goal.returns-in_default
returns-in_default g c = (search (rules, arith), limited_reached)
