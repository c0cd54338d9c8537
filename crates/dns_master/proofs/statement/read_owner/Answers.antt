use Rattle.std.proofs.lemmas.Result.{err_from_is_err_and}
use Rattle.std.specs.Option.{option_copied}
use Rattle.dns_master.proofs.RecordLemmas.{owner_read, owner_refused}
use Rattle.dns_master.proofs.statement.read_owner.Goals as goal

pub returns-in_err-read_name-in-len1-up : goal.returns-in_err-read_name-in-len1-up
returns-in_err-read_name-in-len1-up c =
    let p = err_from_is_err_and c.from_residual.result c.from_residual.ensures.1 in
    rw (p.1, p.2) (owner_refused c.args.origin.now (option_copied c.args.owner) c.args.entry.white c.args.entry.items.now _ c.in_err-read_name-in-len1-up.field-0.0 c.if-entry.false c.in-len1-up.len_at_least c.in_err-read_name-in-len1-up.ensures)

pub returns-in_ok-read_name-in-len1-up : goal.returns-in_ok-read_name-in-len1-up
returns-in_ok-read_name-in-len1-up c =
    owner_read c.args.origin.now (option_copied c.args.owner) c.args.entry.white c.args.entry.items.now _ c.in_ok-read_name-in-len1-up.field-0 c.if-entry.false c.in-len1-up.len_at_least c.in_ok-read_name-in-len1-up.ensures
