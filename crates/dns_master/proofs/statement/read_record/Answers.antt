use Rattle.std.proofs.Common.{map}
use Rattle.std.proofs.lemmas.Result.{err_from_is_err_and}
use Rattle.std.specs.Option.{option_copied}
use Rattle.dns_data.specs.Items.{item_of}
use Rattle.dns_master.specs.Statements.{owner_of}
use Rattle.dns_master.proofs.RecordLemmas.{refused_on, record_read, record_refused}
use Rattle.dns_master.proofs.statement.read_record.Goals as goal

pub returns-in_err-owner : goal.returns-in_err-owner
returns-in_err-owner c =
    let p = err_from_is_err_and c.from_residual.result c.from_residual.ensures.1 in
    rw (p.1, p.2) (refused_on c.in_err-owner.field-0.0 (owner_of c.args.origin.now (option_copied c.args.owner) c.args.entry.white (map item_of c.args.entry.items.now)) _ c.in_err-owner.ensures)

pub returns-in_err-ttl : goal.returns-in_err-ttl
returns-in_err-ttl c =
    let p = err_from_is_err_and c.from_residual-in_err-ttl.result c.from_residual-in_err-ttl.ensures.1 in
    rw (p.1, p.2) (record_refused c.args.origin.now (option_copied c.args.owner) c.args.entry.white (map item_of c.args.entry.items.now) c.in_ok-owner.owner c.in_ok-owner.ensures
    c.in_err-ttl.field-0.0 (rw c.behind_owner.ensures at c.in_err-ttl.ensures))

pub returns : goal.returns
returns c =
    record_read c.args.origin.now (option_copied c.args.owner) c.args.entry.white (map item_of c.args.entry.items.now) c.in_ok-owner.owner c.in_ok-owner.ensures
    (c.in_ok-ttl.ttl, c.in_ok-ttl.rdata) (rw c.behind_owner.ensures at c.in_ok-ttl.ensures)
