-- What a deadline is asked, and answers, while a stream is served.
use Rattle.std.specs.Prelude.{◌≡◌, ℕ, ◌+◌, ◌≤◌, List, length, filter, not, Result, Ok, Err}
use Rattle.office_wire.specs.declared.ending.Ending.{Ending}
use Rattle.office_wire.specs.declared.ending.Ending.TheVariants.{Overdue}
use Rattle.office_wire.specs.declared.serve_fault.ServeFault.{ServeFault}
use Rattle.office_wire.specs.declared.serve_fault.ServeFault.TheVariants.{WriteFailed}
use Rattle.office_wire.specs.Exchange.{Turn, is_last}

-- How often it answered that it had passed, by how serving ended: once where it is overdue, and else never.
abbrev pub CountsPassed : Result Ending ServeFault → ℕ → ℕ → Type 0
CountsPassed (Ok Overdue) passed passed_now = passed_now ≡ passed + 1
CountsPassed ended passed passed_now = passed_now ≡ passed

-- those of the turns whose responses are not the last
abbrev pub open_turns : List Turn → List Turn
open_turns turns = filter (λ t. not (is_last t)) turns

-- How often it was asked: once for each response that is not the last, after that had gone out whole. So it is asked before each request
-- but the first. Where a write failed, the response that was cut may be such a one.
abbrev pub CountsAsked : List Turn → Result Ending ServeFault → ℕ → ℕ → Type 0
CountsAsked all (Err WriteFailed) asked asked_now = (asked_now ≤ asked + length (open_turns all)) × (asked + length (open_turns all) ≤ asked_now + 1)
CountsAsked all ended asked asked_now = asked_now ≡ asked + length (open_turns all)
