use Rattle.std.proofs.Common.{Result, ap}
use Rattle.std.specs.declared.net.ip_addr.IpAddr.TheVariants.{V6}
use Rattle.std.specs.declared.net.ipv6_addr.Ipv6Addr.{Ipv6Addr}
use Rattle.dns_data.specs.declared.data_fault.DataFault.{DataFault}
use Rattle.dns_data.proofs.FieldLaws.{ipv6_only}
use Rattle.dns_data.proofs.AddressLemmas.{ipv6_not}
use Rattle.std.proofs.Common.{Ok}
use Rattle.wire_json.specs.Faults.{◌>>=◌, of_datas}
use Rattle.wire_json.proofs.server.read_ipv6.Goals as goal

pub returns-in-Ok : goal.returns-in-Ok
returns-in-Ok c = ap (λ (r : Result Ipv6Addr DataFault). of_datas r >>= λ a. Ok (V6 a)) (ipv6_only c.args.text.now c.in-Ok.address c.in-Ok.ensures)

pub returns-in-Err : goal.returns-in-Err
returns-in-Err c = ap (λ (r : Result Ipv6Addr DataFault). of_datas r >>= λ a. Ok (V6 a)) (ipv6_not c.args.text.now c.in-Err.ensures)
