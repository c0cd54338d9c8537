use Rattle.std.proofs.Common.{refl}
use Rattle.std.proofs.lemmas.Result.{err_from_is_err_and}
use Rattle.dns_master.proofs.TakenLemmas.{record_taken, record_refused}
use Rattle.dns_master.proofs.file.FileRead.take_record.Goals as goal

pub returns-in_err-record : goal.returns-in_err-record
returns-in_err-record c =
    let p = err_from_is_err_and c.from_residual.result c.from_residual.ensures.1 in
    rw (p.1, p.2) (record_refused c.args.self.now c.or-self.result c.args.stated c.in_err-record.field-0.0 (rw c.minimum_in.ensures at c.or-self.ensures) c.in_err-record.ensures)

pub returns : goal.returns
returns c =
    record_taken c.args.self.now _ c.args.stated c.in_ok-record.record refl refl c.or-self-2.ensures (rw c.minimum_in.ensures at c.or-self.ensures) c.in_ok-push.ensures.items c.in_ok-record.ensures
