-- How an import of a list ends.
use Rattle.std.proofs.Common.{Option, Result, inl, inr, refl}
use Rattle.cli_core.specs.declared.commands.import.ImportList.{ImportList}
use Rattle.cli_core.specs.declared.line_fault.JobFault.{JobFault}
use Rattle.wire_tcp.specs.Connections.{Writing}
use Rattle.cli_store.specs.Around.{Around}
use Rattle.cli_store.specs.ImportList.{ListImported}
use Rattle.cli_store.specs.Program.{Reading, Ends, OfInput, status_of}
use Rattle.cli_store.specs.Stores.{StoresOf}

-- what is so of an outcome gives its status
pub list_ended : {C H : Type 0} (a : Around H) (i : Reading) (s : StoresOf C) (w : ImportList) (left : Option C) (o : Writing) (outcome : Result (Unit {0}) JobFault)
    → OfInput a i w.list.now (λ list. ListImported a s w list left o outcome) → OfInput a i w.list.now (λ list. Ends (λ r. ListImported a s w list left o r) (status_of outcome))
list_ended a i s w left o outcome (inl (apart, unread, is)) = inl (apart, unread, (outcome, is, refl))
list_ended a i s w left o outcome (inr (same, is)) = inr (same, (outcome, is, refl))
