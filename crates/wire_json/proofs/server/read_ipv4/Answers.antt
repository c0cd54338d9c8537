use Rattle.std.proofs.Common.{Result, ap}
use Rattle.std.specs.declared.net.ip_addr.IpAddr.TheVariants.{V4}
use Rattle.std.specs.declared.net.ipv4_addr.Ipv4Addr.{Ipv4Addr}
use Rattle.dns_data.specs.declared.data_fault.DataFault.{DataFault}
use Rattle.dns_data.proofs.FieldLaws.{ipv4_only}
use Rattle.dns_data.proofs.AddressLemmas.{ipv4_not}
use Rattle.std.proofs.Common.{Ok}
use Rattle.wire_json.specs.Faults.{◌>>=◌, of_datas}
use Rattle.wire_json.proofs.server.read_ipv4.Goals as goal

pub returns-in-Ok : goal.returns-in-Ok
returns-in-Ok c = ap (λ (r : Result Ipv4Addr DataFault). of_datas r >>= λ a. Ok (V4 a)) (ipv4_only c.args.text.now c.in-Ok.address c.in-Ok.ensures)

pub returns-in-Err : goal.returns-in-Err
returns-in-Err c = ap (λ (r : Result Ipv4Addr DataFault). of_datas r >>= λ a. Ok (V4 a)) (ipv4_not c.args.text.now c.in-Err.ensures)
