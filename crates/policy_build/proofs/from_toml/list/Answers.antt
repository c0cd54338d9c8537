use Rattle.std.proofs.Common.{◌<◌, ◌∙◌, length, sym, arith, vec_len}
use Rattle.toml.specs.View.{view}
use Rattle.grant_policy.proofs.ReadLemmas.{not_zero}
use Rattle.policy_build.proofs.ReadingLemmas.{list_some}
use Rattle.policy_build.proofs.from_toml.list.Goals as goal

pub returns-in-Some-2 : goal.returns-in-Some-2
returns-in-Some-2 g c =
    let values = c.in-Some.values.now.items in
    let some : 0 < length values = (let more = not_zero (vec_len c.in-Some.values.now) (sym c.is_empty.ensures ∙ c.if-is_empty.false) in omega (arith, more)) in
    let read = rw c.deref.ensures.value at c.items.ensures in
    rw (list_some g.T.FromToml.read_of c.args.place (view c.args.value.now) values (sym c.in-Some.ensures) some) read
