-- What `--json` prints of the lines of a report: an object of JSON a line (RFC 8259), whose members have words of the line.
use Rattle.std.specs.Prelude.{◌≡◌, ℕ, ◌==◌, nat_lt, List, [], ◌∷◌, ◌++◌, bytes_eq, codes, length, map, drop, if◌then◌else◌}
use Rattle.std.specs.List.{flat_map, join_with_byte, slice_split}
use Rattle.wire_json.specs.Json.{quoted, array, member, object}
use Rattle.policy_tools.specs.ExpectationLines.{lines_of}
use Rattle.cli_core.specs.declared.job.TextForm.{TextForm}
use Rattle.cli_core.specs.declared.job.TextForm.TheVariants.{Plain, Json}
use Rattle.cli_text.specs.declared.line_objects.LineKind.{LineKind}
use Rattle.cli_text.specs.declared.line_objects.LineKind.TheVariants as kind
use Rattle.cli_text.specs.declared.line_objects.Member.{Member}
use Rattle.cli_text.specs.declared.line_objects.Part.{Part}
use Rattle.cli_text.specs.declared.line_objects.Part.TheVariants.{Word, Number, Granted, Rest, Words}

-- ---- the members of the objects of lines, by keys in byte order

pub record MemberOf : Type 0 where
  pub key : List ℕ
  pub part : Part

abbrev pub has : List ℕ → Part → MemberOf
has key part = record { key = key; part = part }

-- `idle NUMBER ID TAKER ..`
abbrev pub idle_members : List MemberOf
idle_members = has (codes "found") (Word 0) ∷ has (codes "number") (Number 1) ∷ has (codes "rule") (Word 2) ∷ has (codes "takers") (Words 3) ∷ []

-- `SCOPE NAME CALLER gives ACTION TYPE ..`, with `takes`, and `SCOPE NAME CALLER same`
abbrev pub change_members : List MemberOf
change_members =
    has (codes "action") (Word 4) ∷ has (codes "caller") (Word 2) ∷ has (codes "change") (Word 3) ∷ has (codes "name") (Word 1) ∷ has (codes "scope") (Word 0)
    ∷ has (codes "types") (Words 5) ∷ []

-- `stray ID`
abbrev pub stray_members : List MemberOf
stray_members = has (codes "found") (Word 0) ∷ has (codes "rule") (Word 1) ∷ []

-- `unspoken ORIGIN`, `hidden ORIGIN NAME TYPE`
abbrev pub zone_members : List MemberOf
zone_members = has (codes "found") (Word 0) ∷ has (codes "name") (Word 2) ∷ has (codes "origin") (Word 1) ∷ has (codes "type") (Word 3) ∷ []

-- `differs LINE granted RULE`, with `denied`
abbrev pub differing_members : List MemberOf
differing_members = has (codes "found") (Word 0) ∷ has (codes "granted") (Granted 2) ∷ has (codes "line") (Number 1) ∷ has (codes "rule") (Word 3) ∷ []

-- `exceeds LINE CALLER NAME TYPE ACTION RULE`
abbrev pub excess_members : List MemberOf
excess_members =
    has (codes "action") (Word 5) ∷ has (codes "caller") (Word 2) ∷ has (codes "found") (Word 0) ∷ has (codes "line") (Number 1) ∷ has (codes "name") (Word 3)
    ∷ has (codes "rule") (Word 6) ∷ has (codes "type") (Word 4) ∷ []

-- `isolated`, `soa NAME TYPE ACTION RULE`, `shared NAME TYPE ACTION RULE OTHER TYPE ACTION RULE`
abbrev pub isolation_members : List MemberOf
isolation_members =
    has (codes "action") (Word 3) ∷ has (codes "found") (Word 0) ∷ has (codes "name") (Word 1) ∷ has (codes "other") (Word 5) ∷ has (codes "other_action") (Word 7)
    ∷ has (codes "other_rule") (Word 8) ∷ has (codes "other_type") (Word 6) ∷ has (codes "rule") (Word 4) ∷ has (codes "type") (Word 2) ∷ []

-- `SCOPE NAME CALLER ACTION TYPE ..`, `SCOPE NAME CALLER nothing`
abbrev pub right_members : List MemberOf
right_members =
    has (codes "action") (Word 3) ∷ has (codes "caller") (Word 2) ∷ has (codes "name") (Word 1) ∷ has (codes "scope") (Word 0) ∷ has (codes "types") (Words 4) ∷ []

-- `at NAME TYPE ..`, `below NAME TYPE ..`
abbrev pub question_members : List MemberOf
question_members = has (codes "name") (Word 1) ∷ has (codes "scope") (Word 0) ∷ has (codes "types") (Words 2) ∷ []

-- `RULE RECORDLINE`
abbrev pub finding_members : List MemberOf
finding_members = has (codes "record") (Rest 1) ∷ has (codes "rule") (Word 0) ∷ []

-- `add NAME TTL TYPE DATA`
abbrev pub addition_members : List MemberOf
addition_members =
    has (codes "data") (Rest 4) ∷ has (codes "name") (Word 1) ∷ has (codes "op") (Word 0) ∷ has (codes "ttl") (Number 2) ∷ has (codes "type") (Word 3) ∷ []

-- `delete-record NAME TYPE DATA`
abbrev pub deletion_members : List MemberOf
deletion_members = has (codes "data") (Rest 3) ∷ has (codes "name") (Word 1) ∷ has (codes "op") (Word 0) ∷ has (codes "type") (Word 2) ∷ []

-- `rrset-equals NAME TYPE DATA`, `rrset-absent NAME TYPE`, `name-unused NAME`
abbrev pub test_members : List MemberOf
test_members = has (codes "data") (Rest 3) ∷ has (codes "name") (Word 1) ∷ has (codes "test") (Word 0) ∷ has (codes "type") (Word 2) ∷ []

-- any line
abbrev pub line_members : List MemberOf
line_members = has (codes "line") (Rest 0) ∷ []

abbrev pub item_members : List ℕ → List MemberOf
item_members word =
    if bytes_eq word (codes "add") then addition_members else (if bytes_eq word (codes "delete-record") then deletion_members else test_members)

-- those of a line of a report, by its first word
abbrev pub members_of : LineKind → List ℕ → List MemberOf
members_of kind.IdleRules word = idle_members
members_of kind.Changes word = change_members
members_of kind.Zones word = if bytes_eq word (codes "stray") then stray_members else zone_members
members_of kind.Expectations word = if bytes_eq word (codes "differs") then differing_members else excess_members
members_of kind.Isolation word = isolation_members
members_of kind.Rights word = right_members
members_of kind.Questions word = question_members
members_of kind.Findings word = finding_members
members_of kind.Items word = item_members word
members_of kind.Others word = line_members

-- ---- the object of a line

-- the words of a line, with a space between each two
abbrev pub words_of : List ℕ → List (List ℕ)
words_of line = slice_split (λ o. o == 32) line

-- the literal name of whether a word is `granted` (RFC 8259 section 3)
abbrev pub is_granted : List ℕ → List ℕ
is_granted word = if bytes_eq word (codes "granted") then codes "true" else codes "false"

abbrev pub first_of : List (List ℕ) → List ℕ
first_of [] = []
first_of (word ∷ words) = word

-- the place of the first word of a part
abbrev pub place_of : Part → ℕ
place_of (Word place) = place
place_of (Number place) = place
place_of (Granted place) = place
place_of (Rest place) = place
place_of (Words place) = place

-- the value of a part of the words of a line, of which these are those from its place on: a word as a string, as a number, or by whether it
-- is `granted`; all of them as one string, or as an array of strings
abbrev pub value_at : Part → List (List ℕ) → List ℕ
value_at (Word place) rest = quoted (first_of rest)
value_at (Number place) rest = first_of rest
value_at (Granted place) rest = is_granted (first_of rest)
value_at (Rest place) rest = quoted (join_with_byte 32 rest)
value_at (Words place) rest = array (map quoted rest)

-- a member, if there are words from its place on
abbrev pub member_if : List (List ℕ) → MemberOf → List (List ℕ)
member_if words m = if nat_lt (place_of m.part) (length words) then member m.key (value_at m.part (drop (place_of m.part) words)) ∷ [] else []

-- the object of words by members
abbrev pub object_by : List MemberOf → List (List ℕ) → List ℕ
object_by members words = object (flat_map (member_if words) members)

-- the object of a line, and a line end
abbrev pub object_line : LineKind → List ℕ → List ℕ
object_line kind line = object_by (members_of kind (first_of (words_of line))) (words_of line) ++ 10 ∷ []

-- nothing for an empty line
abbrev pub line_object : LineKind → List ℕ → List ℕ
line_object kind [] = []
line_object kind (o ∷ line) = object_line kind (o ∷ line)

-- the objects of the lines of a text
abbrev pub objects_text : LineKind → List ℕ → List ℕ
objects_text kind text = flat_map (line_object kind) (lines_of text)

-- the object of a line as a value; an empty line has none
abbrev pub line_value : LineKind → List ℕ → List (List ℕ)
line_value kind [] = []
line_value kind (o ∷ line) = object_by (members_of kind (first_of (words_of (o ∷ line)))) (words_of (o ∷ line)) ∷ []

-- the objects of the lines of a text as an array (RFC 8259 section 5)
abbrev pub objects_array : LineKind → List ℕ → List ℕ
objects_array kind text = array (flat_map (line_value kind) (lines_of text))

-- a text, as what it is printed
abbrev pub in_form : TextForm → LineKind → List ℕ → List ℕ
in_form Plain kind text = text
in_form Json kind text = objects_text kind text

-- a text that says something, or the objects of its lines
abbrev pub IsPrintedAs : TextForm → LineKind → (List ℕ → Type 0) → List ℕ → Type 0
IsPrintedAs Plain kind Says text = Says text
IsPrintedAs Json kind Says text = (lines : List ℕ) × Says lines × (text ≡ objects_text kind lines)

-- ---- piece by piece

abbrev pub member_in : Member → MemberOf
member_in m = record { key = m.key.now; part = m.part }

-- texts, each after an octet
abbrev pub each_after : ℕ → List (List ℕ) → List ℕ
each_after o texts = flat_map (λ text. o ∷ text) texts
