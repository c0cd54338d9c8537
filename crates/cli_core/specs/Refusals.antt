-- The refusals of the program: the published number of each, and the line that it is in.
use Rattle.std.specs.Prelude.{ℕ, List, [], ◌∷◌, ◌++◌, map, codes, decimal, Option, Some, None}
use Rattle.std.specs.List.{join_with_byte}
use Rattle.dns_names.specs.Faults.{fault_number as name_number}
use Rattle.dns_data.specs.declared.data_fault.DataFault.{DataFault}
use Rattle.dns_data.specs.declared.data_fault.DataFault.TheVariants as of_data
use Rattle.dns_data.specs.Faults.{fault_number as data_number}
use Rattle.dns_master.specs.declared.master_fault.MasterFault.{MasterFault}
use Rattle.dns_master.specs.declared.master_fault.MasterFault.TheVariants as of_master
use Rattle.dns_master.specs.Faults.{fault_number as master_number, fault_line}
use Rattle.zone_core.specs.Faults.{zone_fault_number}
use Rattle.zone_core.specs.Rcodes.{rcode_number, rcode_text}
use Rattle.update_lines.specs.ItemFaults.{fault_number as items_number, fault_line as items_line}
use Rattle.store_faults.specs.StoreFaults.{store_fault_number}
use Rattle.grant_policy.specs.declared.policy_fault.PolicyFault.{PolicyFault}
use Rattle.grant_policy.specs.declared.policy_fault.PolicyFault.TheVariants as of_policy
use Rattle.grant_policy.specs.Faults.{fault_number as policy_number}
use Rattle.policy_build.specs.declared.build_fault.BuildFault.{BuildFault}
use Rattle.policy_build.specs.declared.build_fault.BuildFault.TheVariants as of_groups
use Rattle.policy_build.specs.Faults.{fault_number as groups_number}
use Rattle.cli_core.specs.declared.word_fault.WordFault.{WordFault}
use Rattle.cli_core.specs.declared.word_fault.WordFault.TheVariants as of_word
use Rattle.cli_core.specs.declared.refusal.Refusal.{Refusal}
use Rattle.cli_core.specs.declared.refusal.Refusal.TheVariants.{Name, TypeNotKept, NoCaller, NoAction, NoRule, NoServer, TooLarge, NoDivider, Master, Zone, Policy, Groups, Items, Unmet, Line, UnknownNumber, NoIdentifier, BodyTooLarge, NoChange, Store}

-- ---- numbers: that of a refusal, and after it that of the refusal within it

abbrev pub data_numbers : DataFault → List ℕ
data_numbers (of_data.Name fault) = 19 ∷ name_number fault ∷ []
data_numbers fault = data_number fault ∷ []

abbrev pub master_numbers : MasterFault → List ℕ
master_numbers (of_master.Data line fault) = 29 ∷ data_numbers fault
master_numbers fault = master_number fault ∷ []

abbrev pub policy_numbers : PolicyFault → List ℕ
policy_numbers (of_policy.Name rule fault) = 58 ∷ name_number fault ∷ []
policy_numbers fault = policy_number fault ∷ []

abbrev pub group_numbers : BuildFault → List ℕ
group_numbers (of_groups.Name place fault) = 58 ∷ name_number fault ∷ []
group_numbers fault = groups_number fault ∷ []

abbrev pub word_number : WordFault → ℕ
word_number (of_word.Name fault) = name_number fault
word_number of_word.Type = 17
word_number of_word.Caller = 54
word_number of_word.Action = 54
word_number of_word.Rule = 54
word_number of_word.Question = 54
word_number of_word.Expectation = 54
word_number of_word.ZoneFile = 54

abbrev pub refusal_number : Refusal → ℕ
refusal_number (Name fault) = name_number fault
refusal_number TypeNotKept = 17
refusal_number NoCaller = 54
refusal_number NoAction = 54
refusal_number NoRule = 54
refusal_number NoServer = 54
refusal_number TooLarge = 30
refusal_number NoDivider = 96
refusal_number UnknownNumber = 98
refusal_number NoIdentifier = 88
refusal_number BodyTooLarge = 84
refusal_number NoChange = 77
refusal_number (Master fault) = master_number fault
refusal_number (Zone fault) = zone_fault_number fault
refusal_number (Policy fault) = policy_number fault
refusal_number (Groups fault) = groups_number fault
refusal_number (Items fault) = items_number fault
refusal_number (Unmet code item) = rcode_number code
refusal_number (Line line fault) = word_number fault
refusal_number (Store fault) = store_fault_number fault

abbrev pub refusal_numbers : Refusal → List ℕ
refusal_numbers (Master fault) = master_numbers fault
refusal_numbers (Policy fault) = policy_numbers fault
refusal_numbers (Groups fault) = group_numbers fault
refusal_numbers refusal = refusal_number refusal ∷ []

-- numbers with a dot between them
abbrev pub dotted : List ℕ → List ℕ
dotted numbers = join_with_byte 46 (map decimal numbers)

-- ---- lines

-- the line of the input that a refusal is in: 0 where it is of the input as a whole
abbrev pub refusal_place : Refusal → Option ℕ
refusal_place TooLarge = Some 0
refusal_place (Master fault) = fault_line fault
refusal_place (Items fault) = items_line fault
refusal_place (Line line fault) = Some line
refusal_place refusal = None

abbrev pub place_text : Option ℕ → List ℕ
place_text None = []
place_text (Some line) = codes " line " ++ decimal line

-- what is told of a refusal: its numbers, and the line that it is in; of an update that a zone does not take, the code of RFC 2136
-- section 2.2 and the number of the item, from 0
abbrev pub refusal_text : Refusal → List ℕ
refusal_text (Unmet code item) = rcode_text code ++ codes " item " ++ decimal item
refusal_text refusal = dotted (refusal_numbers refusal) ++ place_text (refusal_place refusal)

-- the line that tells a refusal
abbrev pub refused_line : Refusal → List ℕ
refused_line refusal = codes "refused " ++ refusal_text refusal ++ 10 ∷ []
