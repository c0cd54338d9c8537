-- One tactic for what the function ensures, so that a wrong body is refused soon.
use Rattle.std.proofs.Common.{rules}
use Rattle.refuse_cli_store.proofs.listeners.serve_any.Goals as goal

pub returns : goal.returns
returns g c = search rules
