use Rattle.std.proofs.Common.{◌∙◌, map, sym}
use Rattle.std.proofs.lemmas.Result.{err_from_is_err_and}
use Rattle.dns_data.specs.Items.{item_of}
use Rattle.dns_master.specs.declared.statement.Statement.TheVariants.{Origin}
use Rattle.dns_master.specs.Fields.{name_at}
use Rattle.dns_master.proofs.RecordLemmas.{item_refused, more_refused, directive_read, origin_is}
use Rattle.dns_master.proofs.statement.read_origin.Goals as goal

pub returns-in_err-name : goal.returns-in_err-name
returns-in_err-name c =
    let p = err_from_is_err_and c.from_residual.result c.from_residual.ensures.1 in
    rw (p.1, p.2, ← origin_is c.args.origin.now (map item_of c.args.items.now)) (item_refused (name_at c.args.origin.now) Origin c.args.items.now _ c.in_err-name.field-0.0 c.in-len1-up.len_at_least c.in_err-name.ensures)

pub returns-in_err-no_more : goal.returns-in_err-no_more
returns-in_err-no_more c =
    let p = err_from_is_err_and c.from_residual-in_err-no_more.result c.from_residual-in_err-no_more.ensures.1 in
    rw (p.1, p.2, ← origin_is c.args.origin.now (map item_of c.args.items.now)) (more_refused (name_at c.args.origin.now) Origin c.args.items.now _ c.in_ok-name.name c.in_err-no_more.field-0.0 c.in-len1-up.len_at_least c.in_ok-name.ensures c.in_err-no_more.ensures)

pub returns : goal.returns
returns c =
    sym (origin_is c.args.origin.now (map item_of c.args.items.now)) ∙ directive_read (name_at c.args.origin.now) Origin c.args.items.now _ c.in_ok-name.name c.in-len1-up.len_at_least c.in_ok-name.ensures c.in_ok-no_more.ensures
