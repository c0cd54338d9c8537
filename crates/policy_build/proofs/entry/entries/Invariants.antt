use Rattle.std.proofs.Common.{◌≡◌, ◌≤◌, [], drop, length, map}
use Rattle.policy_build.specs.Entries.{entry_of, entries_from}
use Rattle.policy_build.proofs.entry.entries.Given as goal

-- the entries so far, before those of the other statements
abbrev pub invariant-loop-statement : goal.invariant-loop-statement
invariant-loop-statement l = record {
  read : entries_from l.templates [] l.statements ≡ entries_from l.templates (map entry_of l.entries.items) (drop l.statement-index l.statements);
  few : length l.entries.items ≤ 1024;
}
