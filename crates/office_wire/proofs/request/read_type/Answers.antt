use Rattle.std.proofs.Common.{◌∙◌, ap, sym}
use Rattle.std.specs.Result.{result_ok}
use Rattle.office_wire.specs.declared.refusal.Refusal.TheVariants.{BadPart}
use Rattle.office_wire.specs.Requests.{type_in, or_refused}
use Rattle.office_wire.proofs.request.read_type.Goals as goal

pub returns-in-Ok : goal.returns-in-Ok
returns-in-Ok c =
    ap type_in (sym (c.deref.ensures.value ∙ c.in_ok-text.ensures)) ∙ ap (or_refused BadPart) (sym c.read.ensures.exact ∙ ap result_ok c.in-Ok.is)

pub returns : goal.returns
returns c =
    ap type_in (sym (c.deref.ensures.value ∙ c.in_ok-text.ensures)) ∙ ap (or_refused BadPart) (sym c.read.ensures.exact ∙ ap result_ok c.in-Err.is)
