use Rattle.std.proofs.Common.{◌∙◌, ◌++◌, ap, List, option_map}
use Rattle.refusals.specs.Tables.{RowOf, row_of, input_rows, name_rows, data_rows, file_rows, zone_rows, policy_rows}
use Rattle.refusals.specs.Numbers.{row_numbered}
use Rattle.refusals.proofs.NumberLemmas.{numbered_or}
use Rattle.refusals.proofs.number.input_row.Goals as goal

pub returns : goal.returns
unfolding input_rows
returns c =
    let number = c.args.number.now in
    let among = λ (l : List RowOf). row_numbered l number in
    let one = c.row_among.ensures ∙ ap among c.names.ensures in
    let two = c.row_among-2.ensures ∙ ap among c.data.ensures in
    let three = c.row_among-3.ensures ∙ ap among c.files.ensures in
    let four = c.row_among-4.ensures ∙ ap among c.zones.ensures in
    let last = c.row_among-5.ensures ∙ ap among c.policies.ensures in
    let to_two = ap (option_map row_of) c.or.ensures ∙ numbered_or c.row_among.result c.row_among-2.result name_rows data_rows number one two in
    let to_three = ap (option_map row_of) c.or-2.ensures ∙ numbered_or c.or.result c.row_among-3.result (name_rows ++ data_rows) file_rows number to_two three in
    let to_four = ap (option_map row_of) c.or-3.ensures ∙ numbered_or c.or-2.result c.row_among-4.result (name_rows ++ data_rows ++ file_rows) zone_rows number to_three four in
    ap (option_map row_of) c.or-4.ensures ∙ numbered_or c.or-3.result c.row_among-5.result (name_rows ++ data_rows ++ file_rows ++ zone_rows) policy_rows number to_four last
