use Rattle.std.proofs.Common.{arith, false}
use Rattle.dns_master.specs.Pieces.{is_quote}
use Rattle.dns_master.proofs.ScanLemmas.{scan_within}
use Rattle.dns_master.proofs.reader.quoted_item.Goals as goal

pub split_at-requires : goal.split_at-requires
split_at-requires c = omega (arith, c.body_len.ensures, scan_within is_quote false c.args.text.now)
