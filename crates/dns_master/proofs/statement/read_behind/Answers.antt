use Rattle.std.proofs.Common.{map, None, false}
use Rattle.std.proofs.lemmas.Result.{err_from_is_err_and}
use Rattle.dns_data.specs.Items.{item_of}
use Rattle.dns_master.specs.Fields.{lead_of}
use Rattle.dns_master.proofs.RecordLemmas.{refused_on, behind_read, behind_refused}
use Rattle.dns_master.proofs.statement.read_behind.Goals as goal

pub returns-in_err-lead : goal.returns-in_err-lead
returns-in_err-lead c =
    let p = err_from_is_err_and c.from_residual.result c.from_residual.ensures.1 in
    rw (p.1, p.2) (refused_on c.in_err-lead.field-0.0 (lead_of (record { ttl = None; has_class = false }) (map item_of c.args.items.now)) _ c.in_err-lead.ensures.exact)

pub returns-in_err-rdata : goal.returns-in_err-rdata
returns-in_err-rdata c =
    let p = err_from_is_err_and c.from_residual-in_err-rdata.result c.from_residual-in_err-rdata.ensures.1 in
    rw (p.1, p.2) (behind_refused c.args.origin.now c.args.items.now c.split_at.result.1.now c.in_ok-lead.lead c.in_ok-lead.ensures.exact c.split_at.ensures.back c.in_err-rdata.field-0.0 c.in_err-rdata.ensures.exact)

pub returns : goal.returns
returns c = behind_read c.args.origin.now c.args.items.now c.split_at.result.1.now c.in_ok-lead.lead c.in_ok-lead.ensures.exact c.split_at.ensures.back c.in_ok-rdata.rdata c.in_ok-rdata.ensures.exact
