use Rattle.std.proofs.lemmas.Result.{on_ok_weaker}
use Rattle.zone_core.specs.Changes.{without}
use Rattle.zone_tools.proofs.past.undo.Goals as goal

pub returns : goal.returns
returns c =
    let taken = rw c.deref.ensures.value at c.take_all.ensures in
    let put = rw c.deref-2.ensures.value at c.put_all.ensures in
    on_ok_weaker c.put_all.result (λ f set is. f (without set c.args.change.now.added.items) (taken set is)) put
