-- What the calls that read answer.
use Rattle.std.proofs.Common.{◌≡◌, ℕ, ◌<◌, List, get_or, Result, Ok, Err}
use Rattle.std.specs.Result.{IfOk}
use Rattle.std.proofs.lemmas.List.Elements.{recursion_from_All, All-from_get_or}
use Rattle.dns_names.specs.declared.name_fault.NameFault.{NameFault}
use Rattle.dns_names.specs.Faults.{Reads}
use Rattle.dns_names.proofs.SymbolLaws.{IsBytes}

-- the octets of a slice
pub bytes_from_fits : (text : List ℕ) → ((i : ℕ) → get_or text i 0 < 256) → IsBytes text
bytes_from_fits text fits = recursion_from_All (λ o. o < 256) text (All-from_get_or (λ o. o < 256) text 0 (λ i _. fits i))

-- what is true of each value that a definition reads is true of what a call answers
pub found_of : {X : Type 0} (P : X → Type 0) (r read : Result X NameFault) → Reads (λ x. x) r read → ((x : X) → read ≡ Ok x → P x) → IfOk r P
found_of P (Ok x) read h on = on x h
found_of P (Err e) read h on = tt
