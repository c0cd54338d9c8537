use Rattle.std.proofs.lemmas.Result.{err_from_is_err_and}
use Rattle.std.proofs.Common.{map}
use Rattle.dns_data.specs.Items.{item_of}
use Rattle.dns_master.specs.FileViews.{force_of}
use Rattle.dns_master.proofs.PartingLemmas.{other_unmade, other_put}
use Rattle.dns_master.proofs.parting.Parting.take_stated.Goals as goal

pub returns-in_err-take : goal.returns-in_err-take
returns-in_err-take c =
    let p = err_from_is_err_and c.from_residual.result c.from_residual.ensures.1 in
    rw (p.1, p.2) (other_unmade (force_of c.args.self.now.file) c.args.owner c.args.ttl c.args.written.kind.now (map item_of c.args.written.fields.now) _ c.in_err-take.field-0.0 c.in_err-take.ensures)

pub returns : goal.returns
returns c =
    let put = c.in_ok-put_other.ensures in
    other_put c.args.self.now c.put_other.new.self c.take.new.self c.args.owner c.args.ttl c.args.written.kind.now (map item_of c.args.written.fields.now) _ c.in_ok-take.ensures put.file put.part put.text put.origin
