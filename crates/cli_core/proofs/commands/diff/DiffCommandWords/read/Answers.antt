use Rattle.std.proofs.Common.{◌≡◌, ◌∙◌, ap, sym, false}
use Rattle.std.specs.Prelude.{◌&&◌, codes}
use Rattle.std.specs.Str.{bytes_eq}
use Rattle.clap.specs.Words.{first_of, found_of, rows_of}
use Rattle.cli_core.specs.Commands.{argument_name}
use Rattle.cli_core.specs.declared.argument.Argument.TheVariants as argument
use Rattle.cli_core.specs.Jobs.{is_json}
use Rattle.cli_core.proofs.DiffWordLemmas.{both_there, diff_job}
use Rattle.cli_core.proofs.commands.diff.DiffCommandWords.read.Goals as goal
use Rattle.cli_core.proofs.commands.diff.DiffCommandWords.read.Goals.{else-eq-via-then-eq+else-eq-2, else-eq-via-else-eq}

pub returns : goal.returns
returns c =
    let rows = rows_of (found_of c.args.matches.now) in
    let old = c.in_ok-old.old.now in
    let new = c.in_ok-old.new.now in
    let both = both_there (first_of (argument_name argument.Old) rows) (first_of (argument_name argument.New) rows) old new c.in_ok-old.ensures in
    let one : (bytes_eq old (codes "-") && bytes_eq new (codes "-")) ≡ false = elim c.else-eq.branch [
      | else-eq-via-then-eq+else-eq-2 w ↦ λ i. (sym c.eq.ensures ∙ w.if-eq.true) i && (sym w.eq-then-eq.ensures ∙ w.if-eq-2.false) i
      | else-eq-via-else-eq w ↦ ap (λ b. b && bytes_eq new (codes "-")) (sym c.eq.ensures ∙ w.if-eq.false)
    ] in
    diff_job rows c.in_ok-origin.origin.now old new c.in_ok-content.content (is_json c.text_form_at-text.result) c.in_ok-origin.ensures both.0 both.1 c.in_ok-content.ensures c.text_form_at-text.ensures one
