use Rattle.std.proofs.Common.{◌∙◌, ◌++◌, ap, List, option_map}
use Rattle.refusals.specs.Tables.{RowOf, row_of, rows, input_rows, store_rows, request_rows, command_rows, code_rows}
use Rattle.refusals.specs.Numbers.{row_numbered}
use Rattle.refusals.proofs.NumberLemmas.{numbered_or}
use Rattle.refusals.proofs.number.row_numbered.Goals as goal

pub returns : goal.returns
unfolding rows
returns c =
    let number = c.args.number.now in
    let among = λ (l : List RowOf). row_numbered l number in
    let one = c.input_row.ensures in
    let two = c.row_among.ensures ∙ ap among c.stores.ensures in
    let three = c.row_among-2.ensures ∙ ap among c.requests.ensures in
    let four = c.row_among-3.ensures ∙ ap among c.commands.ensures in
    let last = c.row_among-4.ensures ∙ ap among c.codes.ensures in
    let to_two = ap (option_map row_of) c.or.ensures ∙ numbered_or c.input_row.result c.row_among.result input_rows store_rows number one two in
    let to_three = ap (option_map row_of) c.or-2.ensures ∙ numbered_or c.or.result c.row_among-2.result (input_rows ++ store_rows) request_rows number to_two three in
    let to_four = ap (option_map row_of) c.or-3.ensures ∙ numbered_or c.or-2.result c.row_among-3.result (input_rows ++ store_rows ++ request_rows) command_rows number to_three four in
    ap (option_map row_of) c.or-4.ensures ∙ numbered_or c.or-3.result c.row_among-4.result (input_rows ++ store_rows ++ request_rows ++ command_rows) code_rows number to_four last
