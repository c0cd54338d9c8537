use Rattle.std.proofs.Common.{ℕ, List, Option, Result, Ok, Err, arith}
use Rattle.dns_master.specs.declared.device.DeviceFailed.{DeviceFailed}
use Rattle.dns_master.specs.Written.{IsWritten}
use Rattle.dns_master.proofs.DeviceLemmas.{part_front}
use Rattle.cli_core.specs.Replies.{IsSent}
use Rattle.cli_core.proofs.device.write_text.Goals as goal

sent : (old new : Option (List ℕ)) (text : List ℕ) (r : Result (Unit {0}) DeviceFailed) (before after : ℕ) → IsWritten old new text r before after → IsSent old new text r before after
sent old new text (Ok done) before after went = went
sent old new text (Err failed) before after went = (part_front old new text went.0, omega (arith, went.1))

pub returns : goal.returns
returns g c = sent _ _ _ c.write_all.result _ _ c.write_all.ensures
