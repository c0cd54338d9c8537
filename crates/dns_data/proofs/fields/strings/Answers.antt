use Rattle.std.proofs.Common.{◌≡◌, ◌<◌, length, map, arith}
use Rattle.std.proofs.lemmas.Result.{err_from_is_err_and}
use Rattle.std.proofs.lemmas.List.{length-map}
use Rattle.dns_data.specs.Items.{item_of}
use Rattle.dns_data.proofs.EachLemmas.{strings_missing, strings_refused, some_strings, strings_made}
use Rattle.dns_data.proofs.fields.strings.Goals as goal

pub returns-then-is_empty : goal.returns-then-is_empty
returns-then-is_empty c =
    let items = c.args.items.now in
    let none : length items ≡ 0 = grind (arith, c.is_empty.ensures, c.if-is_empty.true) in
    strings_missing (map item_of items) (omega (arith, length-map items item_of))

pub returns-in_err-each_string : goal.returns-in_err-each_string
returns-in_err-each_string c =
    let p = err_from_is_err_and c.from_residual.result c.from_residual.ensures.1 in
    let items = c.args.items.now in
    let some : 0 < length items = grind (arith, c.is_empty.ensures, c.if-is_empty.false) in
    rw (p.1, p.2) (strings_refused (map item_of items) c.in_err-each_string.field-0.0 (omega (arith, length-map items item_of)) c.in_err-each_string.ensures.exact)

pub new-requires-clause-some : goal.new-requires-clause-some
new-requires-clause-some c =
    let items = c.args.items.now in
    let some : 0 < length items = grind (arith, c.is_empty.ensures, c.if-is_empty.false) in
    some_strings (map item_of items) c.in_ok-each_string.field-0.items (omega (arith, length-map items item_of)) c.in_ok-each_string.ensures.exact

pub returns : goal.returns
returns c =
    let items = c.args.items.now in
    let some : 0 < length items = grind (arith, c.is_empty.ensures, c.if-is_empty.false) in
    rw c.ok_or.ensures.value (strings_made (map item_of items) c.in_ok-each_string.field-0.items c.new.result (omega (arith, length-map items item_of)) c.in_ok-each_string.ensures.exact c.new.ensures.fits c.new.ensures.value)
