-- The refusals of master files, by their published numbers and their lines.
use Rattle.std.specs.Prelude.{◌≡◌, ℕ, ◌-◌, List, length, Option, Some, None, Result, Ok, Err}
use Rattle.dns_master.specs.declared.master_fault.MasterFault.{MasterFault}
use Rattle.dns_master.specs.declared.master_fault.MasterFault.TheVariants.{ParenOpen, ParenClose, QuoteOpen, NoOwner, NoTtl, ClassNotIn, DirectiveNotKept, BadTtl, Data, TooLarge, EntryShort, WriteFailed, NoMemory}
use Rattle.dns_master.specs.declared.shape.ShapeFault.{ShapeFault}
use Rattle.dns_master.specs.declared.shape.ShapeFault.TheVariants as shapes
use Rattle.dns_master.specs.Lines.{line_at}

-- the published number of a refusal
abbrev pub fault_number : MasterFault → ℕ
fault_number (ParenOpen line) = 21
fault_number (ParenClose line) = 22
fault_number (QuoteOpen line) = 23
fault_number (NoOwner line) = 24
fault_number (NoTtl line) = 25
fault_number (ClassNotIn line) = 26
fault_number (DirectiveNotKept line) = 27
fault_number (BadTtl line) = 28
fault_number (Data line fault) = 29
fault_number TooLarge = 30
fault_number (EntryShort line) = 31
fault_number WriteFailed = 32
fault_number NoMemory = 99

-- the line of a refusal that is at one
abbrev pub fault_line : MasterFault → Option ℕ
fault_line (ParenOpen line) = Some line
fault_line (ParenClose line) = Some line
fault_line (QuoteOpen line) = Some line
fault_line (NoOwner line) = Some line
fault_line (NoTtl line) = Some line
fault_line (ClassNotIn line) = Some line
fault_line (DirectiveNotKept line) = Some line
fault_line (BadTtl line) = Some line
fault_line (Data line fault) = Some line
fault_line TooLarge = None
fault_line (EntryShort line) = Some line
fault_line WriteFailed = None
fault_line NoMemory = None

-- what a call refused with is the refusal of the definition; out of memory says nothing of the definition
abbrev pub Refuses : {Y : Type 0} → MasterFault → Result Y MasterFault → Type 0
Refuses NoMemory read = Unit {0}
Refuses fault read = read ≡ Err fault

-- what a call answered, seen by view, is what the definition gives, unless memory ran out
abbrev pub Gives : {X Y : Type 0} → (X → Y) → Result X MasterFault → Result Y MasterFault → Type 0
Gives view (Ok x) read = read ≡ Ok (view x)
Gives view (Err e) read = Refuses e read

-- ---- lines

-- a fault of parentheses or quotes, with its line in place of the octets that are left of the text
abbrev pub on_line : List ℕ → ShapeFault → MasterFault
on_line text (shapes.ParenOpen left) = ParenOpen (line_at text (length text - left))
on_line text (shapes.ParenClose left) = ParenClose (line_at text (length text - left))
on_line text (shapes.QuoteOpen left) = QuoteOpen (line_at text (length text - left))
on_line text shapes.NoMemory = NoMemory

-- what is read, or the fault with its line
abbrev pub on_lines : {A : Type 0} → List ℕ → Result A ShapeFault → Result A MasterFault
on_lines text (Ok x) = Ok x
on_lines text (Err fault) = Err (on_line text fault)
