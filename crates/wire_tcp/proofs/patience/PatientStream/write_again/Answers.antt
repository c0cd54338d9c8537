use Rattle.std.proofs.Common.{◌∙◌, refl, arith}
use Rattle.wire_tcp.specs.Deadlines.{paced_join}
use Rattle.wire_tcp.proofs.TryLemmas.{cut_again, cut_is, was_cut, tried_now}
use Rattle.wire_tcp.proofs.PatienceLemmas.{idle_then_write, idle_again_write}
use Rattle.wire_tcp.proofs.patience.PatientStream.write_again.Goals as goal

pub returns-then-not-is_interrupted-clause-written : goal.returns-then-not-is_interrupted-clause-written
returns-then-not-is_interrupted-clause-written g c = idle_then_write _ _ _ _ _ c.cut.invariant.idle c.write_once-written.ensures.written

pub cut-preserved : goal.cut-preserved
cut-preserved g c =
    let e = c.write_once-written.ensures in
    let i = c.cut.invariant in
    let failed = (rw c.if-not-is_interrupted.false at c.is_interrupted.ensures).0 refl in
    record {
      idle = idle_again_write _ _ _ _ _ _ failed i.idle e.written;
      paced = paced_join _ _ _ _ _ _ _ i.paced (rw i.pace at e.paced);
      cuts = cut_again _ _ _ _ _ _ i.cuts e.once (cut_is _ failed);
      ages = e.ages ∙ i.ages;
      pace = e.pace ∙ i.pace;
      reads = e.reads ∙ i.reads;
      writes = e.writes ∙ i.writes;
    }

pub returns-clause-written : goal.returns-clause-written
returns-clause-written g c = idle_then_write _ _ _ _ _ c.cut.invariant.idle c.write_once.ensures.written

pub returns-then-not-is_interrupted-clause-paced : goal.returns-then-not-is_interrupted-clause-paced
returns-then-not-is_interrupted-clause-paced g c = paced_join _ _ _ _ _ _ _ c.cut.invariant.paced (rw c.cut.invariant.pace at c.write_once-written.ensures.paced)

pub returns-clause-paced : goal.returns-clause-paced
returns-clause-paced g c = paced_join _ _ _ _ _ _ _ c.cut.invariant.paced (rw c.cut.invariant.pace at c.write_once.ensures.paced)

pub returns-then-not-is_interrupted-clause-tried : goal.returns-then-not-is_interrupted-clause-tried
returns-then-not-is_interrupted-clause-tried g c = tried_now _ _ _ _ _ _ c.cut.invariant.cuts c.write_once-written.ensures.once
    (λ is. let late = (rw c.if-not-is_interrupted.true at c.is_interrupted.ensures).1 (was_cut _ is) in absurd cc)

pub returns-clause-tried : goal.returns-clause-tried
returns-clause-tried g c = tried_now _ _ _ _ _ _ c.cut.invariant.cuts c.write_once.ensures.once
    (λ is. let past = c.cut-test.false in let ended = c.cut.auto.counter-end in omega arith)
