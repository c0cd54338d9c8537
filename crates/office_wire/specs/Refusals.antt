-- The refusals of requests, by their published numbers; and those of the service itself.
use Rattle.std.specs.Prelude.{ℕ}
use Rattle.office_wire.specs.declared.refusal.Refusal.{Refusal}
use Rattle.office_wire.specs.declared.refusal.Refusal.TheVariants.{BadHead, NoCaller, NoLength, BodyTooLarge, BadPart, NoRoute, CutShort}
use Rattle.office_wire.specs.declared.serve_fault.ServeFault.{ServeFault}
use Rattle.office_wire.specs.declared.serve_fault.ServeFault.TheVariants.{ReadFailed, WriteFailed, StreamTooLong, NoMemory}

-- the published number of a refusal
abbrev pub refusal_number : Refusal → ℕ
refusal_number BadHead = 81
refusal_number NoCaller = 82
refusal_number NoLength = 83
refusal_number BodyTooLarge = 84
refusal_number BadPart = 88
refusal_number NoRoute = 90
refusal_number CutShort = 91

-- the published number of a fault
abbrev pub fault_number : ServeFault → ℕ
fault_number ReadFailed = 93
fault_number WriteFailed = 94
fault_number StreamTooLong = 95
fault_number NoMemory = 99
