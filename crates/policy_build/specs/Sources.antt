-- What a file of groups says.
use Rattle.std.specs.Prelude.{List}
use Rattle.grant_policy.specs.declared.callers.Callers.{Callers}
use Rattle.policy_build.specs.declared.names.Names.{Names}
use Rattle.policy_build.specs.declared.statement.Statement.{Statement}
use Rattle.policy_build.specs.Groups.{GroupOf}
use Rattle.policy_build.specs.Templates.{TemplateOf}

-- a file: groups, templates, and in order the rules for groups and the uses of templates
pub record SourceOf : Type 0 where
  pub callers : List (GroupOf Callers)
  pub names : List (GroupOf Names)
  pub templates : List TemplateOf
  pub statements : List Statement
