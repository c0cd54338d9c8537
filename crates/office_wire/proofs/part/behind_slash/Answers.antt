use Rattle.std.proofs.Common.{◌∙◌, sym, ◌+◌}
use Rattle.std.proofs.lemmas.List.{take_rest}
use Rattle.office_wire.proofs.PartLemmas.{cut_some, cut_none}
use Rattle.office_wire.proofs.part.behind_slash.Goals as goal

pub returns-in-Some : goal.returns-in-Some
returns-in-Some c = take_rest c.args.text.now (c.in-Some.at + 1) ∙ sym (cut_some c.args.text.now c.in-Some.at (sym c.slash_in.ensures ∙ c.in-Some.is)).1

pub returns-in-None : goal.returns-in-None
returns-in-None c = sym (cut_none c.args.text.now (sym c.slash_in.ensures ∙ c.in-None.is)).1
