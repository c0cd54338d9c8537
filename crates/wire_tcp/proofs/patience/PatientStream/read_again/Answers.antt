use Rattle.std.proofs.Common.{rules, arith, ◌∙◌, refl}
use Rattle.wire_tcp.specs.Deadlines.{paced_join}
use Rattle.wire_tcp.proofs.TryLemmas.{cut_again, cut_is, was_cut, tried_now}
use Rattle.wire_tcp.proofs.PatienceLemmas.{idle_then_read, idle_again_read}
use Rattle.wire_tcp.proofs.patience.PatientStream.read_again.Goals as goal

pub returns-then-not-is_interrupted-clause-read : goal.returns-then-not-is_interrupted-clause-read
returns-then-not-is_interrupted-clause-read g c = idle_then_read _ _ _ _ _ c.cut.invariant.idle c.read_once-read.ensures.read

pub cut-preserved : goal.cut-preserved
cut-preserved g c =
    let e = c.read_once-read.ensures in
    let i = c.cut.invariant in
    let failed = (rw c.if-not-is_interrupted.false at c.is_interrupted.ensures).0 refl in
    record {
      idle = idle_again_read _ _ _ _ _ _ failed i.idle e.read;
      paced = paced_join _ _ _ _ _ _ _ i.paced (rw i.pace at e.paced);
      cuts = cut_again _ _ _ _ _ _ i.cuts e.once (cut_is _ failed);
      ages = e.ages ∙ i.ages;
      room = search rules;
      pace = e.pace ∙ i.pace;
      reads = e.reads ∙ i.reads;
      writes = e.writes ∙ i.writes;
    }

pub returns-clause-read : goal.returns-clause-read
returns-clause-read g c = idle_then_read _ _ _ _ _ c.cut.invariant.idle c.read_once.ensures.read

pub returns-then-not-is_interrupted-clause-paced : goal.returns-then-not-is_interrupted-clause-paced
returns-then-not-is_interrupted-clause-paced g c = paced_join _ _ _ _ _ _ _ c.cut.invariant.paced (rw c.cut.invariant.pace at c.read_once-read.ensures.paced)

pub returns-clause-paced : goal.returns-clause-paced
returns-clause-paced g c = paced_join _ _ _ _ _ _ _ c.cut.invariant.paced (rw c.cut.invariant.pace at c.read_once.ensures.paced)

pub returns-then-not-is_interrupted-clause-tried : goal.returns-then-not-is_interrupted-clause-tried
returns-then-not-is_interrupted-clause-tried g c = tried_now _ _ _ _ _ _ c.cut.invariant.cuts c.read_once-read.ensures.once
    (λ is. let late = (rw c.if-not-is_interrupted.true at c.is_interrupted.ensures).1 (was_cut _ is) in absurd cc)

pub returns-clause-tried : goal.returns-clause-tried
returns-clause-tried g c = tried_now _ _ _ _ _ _ c.cut.invariant.cuts c.read_once.ensures.once
    (λ is. let past = c.cut-test.false in let ended = c.cut.auto.counter-end in omega arith)
