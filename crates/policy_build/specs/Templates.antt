-- Templates and their uses.
use Rattle.std.specs.Prelude.{ℕ, List}
use Rattle.grant_policy.specs.declared.callers.Callers.{Callers}
use Rattle.policy_build.specs.declared.group_rule.GroupRule.{GroupRule}
use Rattle.policy_build.specs.declared.member.Member.{Member}
use Rattle.policy_build.specs.declared.names.Names.{Names}
use Rattle.policy_build.specs.declared.place.Place.{Place}

-- a template, with its rules in order
pub record TemplateOf : Type 0 where
  pub place : Place
  pub id : List ℕ
  pub rules : List GroupRule

-- the rules of a template, for callers and names
pub record TemplateUseOf : Type 0 where
  pub place : Place
  pub id : List ℕ
  pub template : List ℕ
  pub callers : List (Member Callers)
  pub names : List (Member Names)
