use Rattle.wire_tcp.proofs.WaitLemmas as the
use Rattle.wire_tcp.proofs.laws.waits_end_in_time.Goals as goal

pub returns : goal.returns
returns c = the.waits_end_in_time
