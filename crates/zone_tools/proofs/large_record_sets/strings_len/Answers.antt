use Rattle.std.proofs.Common.{◌≡◌, ◌+◌, ℕ, List, length, get_or, ap, ◌∙◌, arith}
use Rattle.std.proofs.lemmas.List.{take_all}
use Rattle.std.proofs.lemmas.List.Sums.{sum_by_more, sum_by_more_le}
use Rattle.dns_data.specs.Strings.{strings_len}
use Rattle.zone_tools.proofs.large_record_sets.strings_len.Goals as goal

pub overflow_add-len-in-loop-string : goal.overflow_add-len-in-loop-string
overflow_add-len-in-loop-string c =
    let xs = c.as_slice-string-items.result.now in
    let i = c.loop-string.string-index in
    let s = c.string-item.result in
    let whole : strings_len xs ≡ strings_len c.args.strings.now = ap strings_len c.as_slice-string-items.ensures.strings in
    let item : length c.octets.result.now ≡ length s = ap (λ (x : List ℕ). length x) c.octets.ensures.octets in
    let here : length s ≡ length (get_or xs i s) = ap (λ (x : List ℕ). length x) c.string-item.is in
    omega (arith, sum_by_more_le (λ (x : List ℕ). length x + 1) xs i s c.loop-string-test.true, c.as_slice-string-items.ensures.each.fit, whole, c.loop-string.invariant, item, here)

pub loop-string-preserved : goal.loop-string-preserved
loop-string-preserved c =
    let xs = c.as_slice-string-items.result.now in
    let i = c.loop-string.string-index in
    let s = c.string-item.result in
    let item : length c.octets.result.now ≡ length s = ap (λ (x : List ℕ). length x) c.octets.ensures.octets in
    let here : length s ≡ length (get_or xs i s) = ap (λ (x : List ℕ). length x) c.string-item.is in
    omega (arith, sum_by_more (λ (x : List ℕ). length x + 1) xs i s c.loop-string-test.true, c.loop-string.invariant, item, here)

pub returns-clause-value : goal.returns-clause-value
returns-clause-value c =
    let xs = c.as_slice-string-items.result.now in
    c.loop-string.invariant ∙ ap strings_len (take_all c.loop-string.string-index xs c.loop-string-test.false ∙ c.as_slice-string-items.ensures.strings)

pub returns-clause-fits : goal.returns-clause-fits
returns-clause-fits c = omega (arith, returns-clause-value c, c.as_slice-string-items.ensures.each.fit)
