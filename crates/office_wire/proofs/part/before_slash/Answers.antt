use Rattle.std.proofs.Common.{◌∙◌, sym}
use Rattle.office_wire.proofs.PartLemmas.{cut_some, cut_none}
use Rattle.office_wire.proofs.part.before_slash.Goals as goal

pub returns-in-Some : goal.returns-in-Some
returns-in-Some c = sym (cut_some c.args.text.now c.in-Some.at (sym c.slash_in.ensures ∙ c.in-Some.is)).0

pub returns-in-None : goal.returns-in-None
returns-in-None c = sym (cut_none c.args.text.now (sym c.slash_in.ensures ∙ c.in-None.is)).0
