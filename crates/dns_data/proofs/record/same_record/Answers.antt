use Rattle.std.proofs.Common.{◌≡◌}
use Rattle.std.specs.Bool.{Decides}
use Rattle.dns_names.proofs.NameLemmas.{same_name-Decides}
use Rattle.dns_data.proofs.SameLemmas.{data_decides, same_then, same_else}
use Rattle.dns_data.proofs.record.same_record.Goals as goal

pub returns-then-eq : goal.returns-then-eq
returns-then-eq c =
    let a = c.args.a.now in
    let b = c.args.b.now in
    let owners : Decides c.eq.result (a.owner ≡ b.owner) = rw c.eq.ensures (same_name-Decides a.owner b.owner) in
    let rdata : Decides c.eq-then-eq.result (a.rdata ≡ b.rdata) = rw c.eq-then-eq.ensures (data_decides a.rdata b.rdata) in
    same_then a b c.eq.result c.eq-then-eq.result c.if-eq.true owners rdata

pub returns-else-eq : goal.returns-else-eq
returns-else-eq c =
    let a = c.args.a.now in
    let b = c.args.b.now in
    let owners : Decides c.eq.result (a.owner ≡ b.owner) = rw c.eq.ensures (same_name-Decides a.owner b.owner) in
    same_else a b c.eq.result c.if-eq.false owners
