use Rattle.std.proofs.Common.{◌∙◌, ap, sym}
use Rattle.std.specs.Prelude.{bytes_eq}
use Rattle.std.proofs.lemmas.Map.Text.{is_eq-slice_cmp}
use Rattle.cli_store.specs.Log.{passes}
use Rattle.cli_store.proofs.log_choice.LogAsked.asks_caller.Goals as goal

pub returns-in-Some : goal.returns-in-Some
returns-in-Some c =
    c.eq.ensures ∙ is_eq-slice_cmp c.args.caller.now c.in-Some.asked ∙ ap (passes (λ asked. bytes_eq c.args.caller.now asked)) (sym c.in-Some.is)
