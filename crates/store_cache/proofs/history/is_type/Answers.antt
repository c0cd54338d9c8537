use Rattle.std.proofs.Common.{◌≡◌, arith}
use Rattle.dns_data.specs.Types.{type_number}
use Rattle.dns_data.proofs.KeptLaws.{one_number}
use Rattle.store_cache.proofs.history.is_type.Goals as goal

pub returns : goal.returns
returns c = λ is. one_number c.args.first c.args.second (let same : type_number c.args.first ≡ type_number c.args.second = grind (arith, is, c.number.ensures, c.number-2.ensures) in same)
