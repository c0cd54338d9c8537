use Rattle.std.proofs.Common.{None}
use Rattle.std.proofs.lemmas.Result.{err_from_is_err_and}
use Rattle.dns_data.specs.Fields.{Number, U32, Seconds, ◌▸◌, End}
use Rattle.dns_data.proofs.PartLemmas.{behind_first, refused_behind}
use Rattle.dns_data.proofs.fields.FieldReader.soa_numbers.Goals as goal

pub returns-in_err-durations : goal.returns-in_err-durations
returns-in_err-durations c =
    let p = err_from_is_err_and c.from_residual-in_err-durations.result c.from_residual-in_err-durations.ensures.1 in
    rw (p.1, p.2) (refused_behind None (Number U32) (Seconds ▸ Seconds ▸ Seconds ▸ Seconds ▸ End) c.args.self.now c.in_ok-serial.field-0.0 c.serial.new.self c.in_ok-serial.ensures c.in_err-durations.field-0.0 c.in_err-durations.ensures)

pub returns : goal.returns
returns c =
    behind_first None (Number U32) (Seconds ▸ Seconds ▸ Seconds ▸ Seconds ▸ End) c.args.self.now c.in_ok-serial.field-0.0 c.serial.new.self c.in_ok-serial.ensures _ c.durations.new.self c.in_ok-durations.ensures
