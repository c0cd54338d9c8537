use Rattle.std.proofs.Common.{◌≡◌, [], drop, take}
use Rattle.policy_build.specs.Entries.{fresh_templates}
use Rattle.policy_build.proofs.entry.check_templates.Given as goal

-- the templates so far are fresh
abbrev pub invariant-loop-i : goal.invariant-loop-i
invariant-loop-i l = fresh_templates [] l.templates ≡ fresh_templates (take l.i l.templates) (drop l.i l.templates)
