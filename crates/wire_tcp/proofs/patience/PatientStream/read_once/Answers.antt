use Rattle.std.proofs.Common.{◌∙◌, option_map, refl, sym}
use Rattle.std.specs.Duration.{as_nanos}
use Rattle.wire_tcp.specs.Waits.{Wait, outcome, reading}
use Rattle.wire_tcp.proofs.WaitLemmas.{paced_once}
use Rattle.wire_tcp.proofs.TryLemmas.{once_of, done_is}
use Rattle.wire_tcp.proofs.patience.PatientStream.read_once.Goals as goal

pub returns-clause-paced : goal.returns-clause-paced
returns-clause-paced g c = paced_once c.args.self.now.pace c.args.self.now.running c.while_reading-running.result c.after-self.result
    (record { call = reading; begun = option_map as_nanos c.now-begun.result; limit = option_map as_nanos c.limit-limit.result; outcome = outcome c.read_within-read.result; ended = option_map as_nanos c.now-ended.result })
    _ _ _ _ c.while_reading-running.ensures c.limit-limit.ensures.left c.limit-limit.ensures.young (rw (c.between.ensures, c.is_ok.ensures.value ∙ sym (done_is c.read_within-read.result)) at c.after-self.ensures) c.now-begun.ensures.noted
    c.read_within-read.ensures.limited c.now-ended.ensures.noted

pub returns-clause-once : goal.returns-clause-once
returns-clause-once g c =
    let w : Wait = record { call = reading; begun = option_map as_nanos c.now-begun.result; limit = option_map as_nanos c.limit-limit.result; outcome = outcome c.read_within-read.result; ended = option_map as_nanos c.now-ended.result } in
    (w, once_of w _ _ _ _ c.now-begun.ensures.noted c.read_within-read.ensures.limited c.now-ended.ensures.noted, refl, refl)
