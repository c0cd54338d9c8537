use Rattle.std.proofs.Common.{◌<◌, List, length, Ok, Some, Result, sym, ap, ◌∙◌, arith, vec_len}
use Rattle.toml.specs.View.{view, items_view}
use Rattle.grant_policy.specs.declared.policy_fault.PolicyFault.{PolicyFault}
use Rattle.grant_policy.specs.Faults.{◌>>=◌}
use Rattle.grant_policy.proofs.ReadLemmas.{selection_array, selection_some, not_zero}
use Rattle.grant_policy.proofs.document.selection.Goals as goal

pub returns-in_ok-array_words-in-Some-as_array : goal.returns-in_ok-array_words-in-Some-as_array
returns-in_ok-array_words-in-Some-as_array g c =
    let word = g.T.Word.word_of in
    let items = c.in-Some-as_array.items.now.items in
    let d = selection_array word c.args.place (view c.args.value.now) (items_view items) (sym c.in-Some-as_array.ensures) in
    let some : 0 < length items = (let more = not_zero (vec_len c.in-Some-as_array.items.now) (sym c.is_empty.ensures ∙ c.if-not-is_empty.true) in omega (arith, more)) in
    let read = rw c.deref.ensures.value at c.in_ok-array_words-in-Some-as_array.ensures in
    rw d (selection_some word c.args.place items some ∙ ap (λ (r : Result (List _) PolicyFault). r >>= λ words. Ok (Some words)) read)
