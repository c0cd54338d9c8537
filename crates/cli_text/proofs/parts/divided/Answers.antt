use Rattle.std.proofs.Common.{◌∙◌, ◌+◌, ap, sym, arith}
use Rattle.cli_text.proofs.LineLemmas.{line_len-within, line_len-some_octet}
use Rattle.cli_text.proofs.PartLemmas.{divided-found, divided-further}
use Rattle.cli_text.proofs.parts.divided.Goals as goal

pub split_at-requires-in-loop-at : goal.split_at-requires-in-loop-at
split_at-requires-in-loop-at c = omega (arith, c.line_len.ensures, line_len-within c.split_at.result.1.now)

pub returns-then-is_divider-clause-exact : goal.returns-then-is_divider-clause-exact
returns-then-is_divider-clause-exact c =
    let l = c.loop-at in
    let cut = c.split_at-in-loop-at.ensures in
    sym (divided-found c.args.input.now c.split_at.result.1.now l.at c.line_len.result c.loop-at-test.true c.split_at.ensures.back c.line_len.ensures l.invariant.so_far
    _ _ _ c.split_at.ensures.front cut.front cut.back (sym c.is_divider.ensures ∙ c.if-is_divider.true))

pub loop-at-smaller : goal.loop-at-smaller
loop-at-smaller c =
    let some = line_len-some_octet c.split_at.result.1.now (omega (arith, c.split_at.ensures.back_len, c.loop-at-test.true)) in
    omega (arith, some, c.line_len.ensures, c.split_at-in-loop-at.ensures.front_len, c.loop-at-test.true)

pub loop-at-preserved : goal.loop-at-preserved
loop-at-preserved c =
    let l = c.loop-at in
    let cut = c.split_at-in-loop-at.ensures in
    record {
      within = omega (arith, cut.front_len, cut.back_len, c.split_at.ensures.back_len);
      so_far = divided-further c.args.input.now c.split_at.result.1.now l.at c.line_len.result c.loop-at-test.true c.split_at.ensures.back c.line_len.ensures l.invariant.so_far
          _ _ cut.front (ap (λ k. l.at + k) cut.front_len) (sym c.is_divider.ensures ∙ c.if-is_divider.false);
    }
