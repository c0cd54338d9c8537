-- What is printed of a report.
use Rattle.std.specs.Prelude.{◌≡◌, ℕ, List}
use Rattle.cli_core.specs.declared.job.TextForm.{TextForm}
use Rattle.cli_text.specs.declared.line_objects.LineKind.{LineKind}
use Rattle.cli_text.specs.LineObjects.{IsPrintedAs, in_form}
use Rattle.cli_text.proofs.LineObjectLemmas.{printed_as}

pub printed_so : (form : TextForm) (kind : LineKind) (Says : List ℕ → Type 0) (lines text : List ℕ) → Says lines → text ≡ in_form form kind lines
    → IsPrintedAs form kind Says text
printed_so form kind Says lines text says e = printed_as form kind Says lines text says e
