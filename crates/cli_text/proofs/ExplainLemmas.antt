-- A task that reads nothing.
use Rattle.std.proofs.Common.{◌≡◌, ℕ, List, [], Option, Some, None, Result, Ok, Err, refl}
use Rattle.cli_core.specs.declared.refusal.Refusal.{Refusal}
use Rattle.cli_core.specs.declared.line_fault.LineFault.{LineFault}
use Rattle.cli_core.specs.declared.line_fault.LineFault.TheVariants.{Refused, ReadFailed, NoMemory}
use Rattle.cli_core.specs.LineFaults.{Makes, Gives, GivesOf}

-- what is made of no input is made of any
unread : {Y : Type 0} (left : Option (List ℕ)) (made found : Result Y Refusal) → made ≡ found → Makes left (λ input. made) found
unread None made found e = ([], tt, e)
unread (Some rest) made found e = (rest, refl, e)

-- what is given of no input is given of any
pub unread_given : {X Y : Type 0} (view : X → Y) (left : Option (List ℕ)) (made : Result Y Refusal) (found : Result X LineFault) (fine failed : Type 0) → fine
    → Gives view found made → GivesOf view left (λ input. made) found fine failed
unread_given view left made (Ok x) fine failed well given = (unread left made (Ok (view x)) given, well)
unread_given view left made (Err (Refused refusal)) fine failed well given = (unread left made (Err refusal) given, well)
unread_given view left made (Err ReadFailed) fine failed well given = absurd given
unread_given view left made (Err NoMemory) fine failed well given = well
