use Rattle.std.proofs.Common.{◌≤◌, length, sym, arith}
use Rattle.std.proofs.lemmas.List.{take_all}
use Rattle.office_wire.proofs.framing.window_of.Goals as goal

pub returns-then-bytes-lt-HEAD_MAX : goal.returns-then-bytes-lt-HEAD_MAX
returns-then-bytes-lt-HEAD_MAX c = let short : length c.args.bytes.now ≤ 16384 = omega arith in sym (take_all 16384 _ short)
