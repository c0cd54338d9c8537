use Rattle.std.proofs.Common.{◌≡◌, Ok, subst, arith}
use Rattle.std.proofs.lemmas.Result.{err_from_is_err_and}
use Rattle.dns_names.specs.declared.symbol.Symbol.{Symbol}
use Rattle.dns_names.specs.Reading.{cut, symbol_at}
use Rattle.dns_names.specs.Rows.{with_octet, with_dot}
use Rattle.dns_names.proofs.CutLemmas.{after_octet, after_dot, stops, ends, refuses_on, text_shortens}
use Rattle.dns_names.proofs.KeptLemmas.{counts_octet, counts_dot}
use Rattle.dns_names.proofs.pieces.PieceRows.cut.Goals as goal

pub returns-in_err-symbol-clause-exact : goal.returns-in_err-symbol-clause-exact
returns-in_err-symbol-clause-exact c =
    let p = err_from_is_err_and c.from_residual.result c.from_residual.ensures.1 in
    let l = c.loop-rest in
    let given = l.invariant.0 in
    rw (p.1, p.2) (refuses_on c.in_err-symbol.field-0.0 (symbol_at l.rest.now) (cut c.args.text.now) c.in_err-symbol.ensures (λ f e. stops given.ended given.last l.rest.now f (cut c.args.text.now) (grind (arith, c.is_empty.ensures, c.loop-rest-test.true)) e l.invariant.2))

pub loop-rest-smaller : goal.loop-rest-smaller
loop-rest-smaller c = text_shortens c.loop-rest.rest.now c.in_ok-symbol.symbol c.in_ok-symbol.after.now c.in_ok-symbol.ensures

pub loop-rest-preserved-in-Octet : goal.loop-rest-preserved-in-Octet
loop-rest-preserved-in-Octet c =
    let l = c.loop-rest in
    let given = l.invariant.0 in
    let e = subst (λ (s : Symbol). symbol_at l.rest.now ≡ Ok (s, c.in_ok-symbol.after.now)) c.in-Octet.is c.in_ok-symbol.ensures in
    let kept = c.push.ensures given l.invariant.1 in
    let so_far = after_octet given.ended given.last l.rest.now c.in-Octet.octet c.in_ok-symbol.after.now (cut c.args.text.now) e l.invariant.2 in (
      with_octet given c.to_ascii_lowercase.result,
      kept,
      rw c.to_ascii_lowercase.ensures.value so_far,
      omega (arith, counts_octet l.self c.push.new.self given c.to_ascii_lowercase.result l.invariant.1 kept, l.invariant.3, text_shortens l.rest.now c.in_ok-symbol.symbol c.in_ok-symbol.after.now c.in_ok-symbol.ensures),
    )

pub loop-rest-preserved : goal.loop-rest-preserved
loop-rest-preserved c =
    let l = c.loop-rest in
    let given = l.invariant.0 in
    let e = subst (λ (s : Symbol). symbol_at l.rest.now ≡ Ok (s, c.in_ok-symbol.after.now)) c.in-Dot.is c.in_ok-symbol.ensures in
    let kept = c.end_label.ensures given l.invariant.1 in (
      with_dot given,
      kept,
      after_dot given.ended given.last l.rest.now c.in_ok-symbol.after.now (cut c.args.text.now) e l.invariant.2,
      omega (arith, counts_dot l.self c.end_label.new.self given l.invariant.1 kept, l.invariant.3, text_shortens l.rest.now c.in_ok-symbol.symbol c.in_ok-symbol.after.now c.in_ok-symbol.ensures),
    )

pub returns-clause-exact : goal.returns-clause-exact
returns-clause-exact c =
    let l = c.loop-rest in
    let given = l.invariant.0 in
    (given, ends given.ended given.last l.rest.now (cut c.args.text.now) (grind (arith, c.is_empty.ensures, c.loop-rest-test.false)) l.invariant.2, l.invariant.1)
