use Rattle.std.proofs.Common.{◌∙◌, map, sym}
use Rattle.std.proofs.lemmas.Result.{err_from_is_err_and}
use Rattle.dns_data.specs.Items.{item_of}
use Rattle.dns_master.specs.declared.statement.Statement.TheVariants.{DefaultTtl}
use Rattle.dns_master.specs.Statements.{ttl_at}
use Rattle.dns_master.proofs.RecordLemmas.{item_refused, more_refused, directive_read, default_is}
use Rattle.dns_master.proofs.statement.read_default_ttl.Goals as goal

pub returns-in_err-ttl : goal.returns-in_err-ttl
returns-in_err-ttl c =
    let p = err_from_is_err_and c.from_residual.result c.from_residual.ensures.1 in
    rw (p.1, p.2, ← default_is (map item_of c.args.items.now)) (item_refused ttl_at DefaultTtl c.args.items.now _ c.in_err-ttl.field-0.0 c.in-len1-up.len_at_least c.in_err-ttl.ensures)

pub returns-in_err-no_more : goal.returns-in_err-no_more
returns-in_err-no_more c =
    let p = err_from_is_err_and c.from_residual-in_err-no_more.result c.from_residual-in_err-no_more.ensures.1 in
    rw (p.1, p.2, ← default_is (map item_of c.args.items.now)) (more_refused ttl_at DefaultTtl c.args.items.now _ c.in_ok-ttl.ttl c.in_err-no_more.field-0.0 c.in-len1-up.len_at_least c.in_ok-ttl.ensures c.in_err-no_more.ensures)

pub returns : goal.returns
returns c =
    sym (default_is (map item_of c.args.items.now)) ∙ directive_read ttl_at DefaultTtl c.args.items.now _ c.in_ok-ttl.ttl c.in-len1-up.len_at_least c.in_ok-ttl.ensures c.in_ok-no_more.ensures
