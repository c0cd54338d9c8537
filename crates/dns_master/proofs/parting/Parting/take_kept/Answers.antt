use Rattle.std.proofs.Common.{◌≡◌, length, arith}
use Rattle.std.proofs.lemmas.Result.{err_from_is_err_and}
use Rattle.dns_master.specs.FileViews.{force_of}
use Rattle.dns_master.specs.Files.{records_of}
use Rattle.dns_master.proofs.RecordLemmas.{refused_on}
use Rattle.dns_master.proofs.PartingLemmas.{kept_put, some_taken}
use Rattle.dns_master.proofs.parting.Parting.take_kept.Goals as goal

pub put_kept-requires : goal.put_kept-requires
put_kept-requires c =
    let size : c.len-before.result ≡ length c.args.self.now.file.records.items = omega (arith, c.len-before.ensures, c.args.self.now.file.records.ok) in
    some_taken c.args.self.now.file c.take.new.self c.args.statement c.len-before.result size c.in_ok-take.ensures

pub returns-in_err-take : goal.returns-in_err-take
returns-in_err-take c =
    let p = err_from_is_err_and c.from_residual.result c.from_residual.ensures.1 in
    rw (p.1, p.2) (refused_on c.in_err-take.field-0.0 (records_of c.args.statement (force_of c.args.self.now.file)) _ c.in_err-take.ensures)

pub returns : goal.returns
returns c =
    let size : c.len-before.result ≡ length c.args.self.now.file.records.items = omega (arith, c.len-before.ensures, c.args.self.now.file.records.ok) in
    let put = c.in_ok-put_kept.ensures in
    kept_put c.args.self.now c.put_kept.new.self c.take.new.self c.args.statement c.len-before.result size c.in_ok-take.ensures put.file put.part put.origin put.text
