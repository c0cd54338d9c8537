use Rattle.std.proofs.Common.{◌<◌, arith}
use Rattle.std.proofs.lemmas.Result.{err_from_is_err_and}
use Rattle.dns_names.proofs.CutLemmas.{AllByRecursion-push}
use Rattle.dns_data.proofs.StringLemmas.{octets_in, after_symbol, refuses_on, ends}
use Rattle.dns_data.proofs.strings.octets_of.Goals as goal

pub returns-in_err-symbol-clause-exact : goal.returns-in_err-symbol-clause-exact
returns-in_err-symbol-clause-exact c =
    let p = err_from_is_err_and c.from_residual-in_err-symbol.result c.from_residual-in_err-symbol.ensures.1 in
    let l = c.loop-rest in
    rw (p.1, p.2) (refuses_on l.octets.items l.rest.now c.in_err-symbol.field-0.0 (octets_in c.args.raw.now) (grind (arith, c.is_empty.ensures, c.loop-rest-test.true)) c.in_err-symbol.ensures l.invariant.so_far)

pub loop-rest-preserved : goal.loop-rest-preserved
loop-rest-preserved c =
    let l = c.loop-rest in
    rw (c.in_ok-push.ensures.items) record { bytes = AllByRecursion-push (λ o. o < 256) l.octets.items c.octet_of.result l.invariant.bytes (omega (arith, c.octet_of.type_inv)); so_far = rw c.octet_of.ensures (after_symbol l.octets.items l.rest.now c.in_ok-symbol.symbol c.in_ok-symbol.after.now (octets_in c.args.raw.now) c.in_ok-symbol.ensures l.invariant.so_far) }

pub returns-clause-exact : goal.returns-clause-exact
returns-clause-exact c =
    let l = c.loop-rest in
    ends l.octets.items l.rest.now (octets_in c.args.raw.now) (grind (arith, c.is_empty.ensures, c.loop-rest-test.false)) l.invariant.so_far
