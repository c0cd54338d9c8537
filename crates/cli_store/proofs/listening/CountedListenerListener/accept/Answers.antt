use Rattle.std.specs.Coded.{le_prop}
use Rattle.std.proofs.lemmas.Result.{err_from_is_err_and}
use Rattle.cli_store.proofs.listening.CountedListenerListener.accept.Goals as goal

pub returns-in_err-peer-clause-none : goal.returns-in_err-peer-clause-none
returns-in_err-peer-clause-none g c =
    rw (err_from_is_err_and c.from_residual.result c.from_residual.ensures.1).1
    (λ i. record c.args.self.now { socket = c.in_err-peer.ensures.none i; counts = le_prop c.in_err-peer.self-1-own.given.0 c.args.self.now.counts i })
