use Rattle.std.proofs.Common.{◌∙◌, ◌||◌, ap₂, sym, Bool, arith, rules}
use Rattle.std.proofs.lemmas.List.Sums.{fold_more}
use Rattle.clap.specs.Words.{new_app, with_rule}
use Rattle.cli_core.specs.Commands.{command_word, with_argument}
use Rattle.cli_core.proofs.parser.command_parser.Goals as goal

pub loop-argument-preserved : goal.loop-argument-preserved
loop-argument-preserved c =
    let at = c.loop-argument in
    let ok = c.in_ok-parser.ensures in
    let or = λ (a : Bool) (b : Bool). a || b in
    let more = fold_more with_argument (new_app (command_word c.args.command)) c.arguments-argument-items.result.now at.argument-index _ (search (rules, arith)) in
    (ok.shape c.rule.ensures.local ∙ (ap₂ with_rule at.invariant.0 c.rule.ensures.rule ∙ sym more), ok.globals ∙ ap₂ or at.invariant.1 c.rule.ensures.local)
