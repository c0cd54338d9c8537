use Rattle.std.proofs.Common.{rules, arith, ◌<◌, ◌∙◌, Option, Some, length, ap, sym, refl}
use Rattle.std.proofs.lemmas.Option.{slice_get-get_or}
use Rattle.refuse_cli_store.specs.declared.caller.Caller.{Caller}
use Rattle.refuse_cli_store.proofs.callers.CallersListener.accept.Goals as goal

pub returns-clause-given : goal.returns-clause-given
returns-clause-given g c =
    let within : c.args.self.now.next < length c.args.self.now.callers.items = search (rules, arith) in
    let is = c.replace-peer.ensures.value ∙ c.index_mut.ensures.value in
    (slice_get-get_or _ _ _ within ∙ ap (λ (x : Caller). let o : Option Caller = Some x in o) (sym is), refl, _, refl)
