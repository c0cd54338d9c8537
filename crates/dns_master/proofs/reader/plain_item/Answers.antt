use Rattle.std.proofs.Common.{arith, false}
use Rattle.dns_master.specs.Pieces.{ends_item}
use Rattle.dns_master.proofs.ScanLemmas.{scan_within}
use Rattle.dns_master.proofs.reader.plain_item.Goals as goal

pub split_at-requires : goal.split_at-requires
split_at-requires c = omega (arith, c.run_len.ensures, scan_within ends_item false c.args.text.now)
