-- What `check policy --against` prints: what a policy changes against another, by groups of names. And which inputs it reads.
use Rattle.std.specs.Prelude.{◌≡◌, ℕ, List, [], ◌∷◌, ◌++◌, codes, Result}
use Rattle.std.specs.List.{flat_map}
use Rattle.grant_policy.specs.declared.rule.Rule.{Rule}
use Rattle.grant_policy.specs.Documents.{document_of}
use Rattle.grant_policy.specs.Reading.{policy_of}
use Rattle.policy_tools.specs.declared.changes.GroupChanges.{GroupChanges}
use Rattle.policy_tools.specs.declared.name_changes.CallerChange.{CallerChange}
use Rattle.policy_tools.specs.declared.name_changes.Change.{Change}
use Rattle.policy_tools.specs.declared.name_changes.NameChanges.{NameChanges}
use Rattle.policy_tools.specs.Changes.{AreGroupChanges}
use Rattle.cli_checks.specs.declared.check.Findings.{Findings}
use Rattle.cli_checks.specs.declared.check.Findings.TheVariants.{Absent, Present}
use Rattle.cli_checks.specs.RightsCheck.{caller_lines, scope_text}
use Rattle.cli_core.specs.LineFaults.{◌>>=◌, limited, of_policies}
use Rattle.cli_core.specs.declared.refusal.Refusal.{Refusal}

-- what changes for a caller: what is given, and then what is taken
abbrev pub change_lines : List ℕ → Change → List ℕ
change_lines head change = caller_lines (head ++ codes " gives") change.gives ++ caller_lines (head ++ codes " takes") change.takes

-- and one line for a caller for which nothing changes
abbrev pub or_same : List ℕ → List ℕ → List ℕ
or_same head [] = head ++ (codes " same" ++ 10 ∷ [])
or_same head (o ∷ os) = o ∷ os

abbrev pub change_row_text : List ℕ → CallerChange → List ℕ
change_row_text scope row = or_same (scope ++ 32 ∷ row.caller) (change_lines (scope ++ 32 ∷ row.caller) row.change)

-- each caller for which something else changes there than for all others, and all others, as `*`
abbrev pub changes_text : List ℕ → NameChanges → List ℕ
changes_text scope changes = flat_map (change_row_text scope) changes.named.items ++ change_lines (scope ++ codes " *") changes.others

abbrev pub group_changes_text : GroupChanges → List ℕ
group_changes_text row = changes_text (scope_text row.group) row.changes

abbrev pub changes_found : List GroupChanges → Findings
changes_found [] = Absent
changes_found (row ∷ rows) = Present

-- what changes from the rules of one policy to those of another, and whether something does
abbrev pub IsChangesReport : List Rule → List Rule → Findings → List ℕ → Type 0
IsChangesReport old new findings text =
    (rows : List GroupChanges) × AreGroupChanges old new rows × (text ≡ flat_map group_changes_text rows) × (findings ≡ changes_found rows)

-- the policy that is an input
abbrev pub policy_read : List ℕ → Result (List Rule) Refusal
policy_read input = limited input >>= λ text. of_policies (policy_of (document_of text))
