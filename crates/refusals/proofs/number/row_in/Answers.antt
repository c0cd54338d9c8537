use Rattle.std.proofs.Common.{◌∙◌, ap, option_map}
use Rattle.refusals.specs.Tables.{row_of}
use Rattle.refusals.proofs.NumberLemmas.{found_row}
use Rattle.refusals.proofs.number.row_in.Goals as goal

pub returns : goal.returns
returns c = ap (option_map row_of) c.first_in.ensures ∙ found_row c.args.all.now c.args.place c.args.part.now
