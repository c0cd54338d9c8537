use Rattle.std.proofs.lemmas.Result.{err_from_is_err_and}
use Rattle.std.specs.Option.{option_copied}
use Rattle.dns_data.proofs.PartLemmas.{names_refused, numbers_refused, soa_read}
use Rattle.dns_data.proofs.fields.FieldReader.soa_fields.Goals as goal

pub returns-in_err-mname : goal.returns-in_err-mname
returns-in_err-mname c =
    let p = err_from_is_err_and c.from_residual.result c.from_residual.ensures.1 in
    rw (p.1, p.2) (names_refused (option_copied c.args.origin) c.args.self.now c.in_err-mname.field-0.0 c.in_err-mname.ensures)

pub returns-in_err-serial : goal.returns-in_err-serial
returns-in_err-serial c =
    let p = err_from_is_err_and c.from_residual-in_err-serial.result c.from_residual-in_err-serial.ensures.1 in
    rw (p.1, p.2) (numbers_refused (option_copied c.args.origin) c.args.self.now _ c.names.new.self c.in_ok-mname.ensures c.in_err-serial.field-0.0 c.in_err-serial.ensures)

pub returns : goal.returns
returns c = soa_read (option_copied c.args.origin) c.args.self.now _ c.names.new.self c.in_ok-mname.ensures _ c.soa_numbers.new.self c.in_ok-serial.ensures
