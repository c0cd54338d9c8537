use Rattle.std.proofs.Common.{◌∙◌, sym}
use Rattle.office_wire.proofs.ServingLemmas.{finish_so}
use Rattle.office_wire.proofs.serving.finish.Goals as goal

pub returns-clause-finishes : goal.returns-clause-finishes
returns-clause-finishes g c =
    let at = c.as_slice-rest.ensures.value in
    let loud = rw at at c.is_quiet.ensures in
    finish_so _ _ _ _ _ _ (sym loud ∙ c.if-is_quiet.false) (rw at at c.method_at-method.ensures) (c.as_slice.ensures ∙ c.put_short.ensures) c.write_all.ensures.written
