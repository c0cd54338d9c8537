-- The rules of a policy select a type and an action.
use Rattle.std.proofs.Common.{◌≡◌, ℕ, List, [], ◌∷◌, Option, None, Some, refl, subst, sym, ⊎_elim, arith}
use Rattle.std.specs.List.{All, AllByRecursion}
use Rattle.std.proofs.lemmas.List.Elements.{All-from_recursion}
use Rattle.toml.specs.Data.{Data, Items, Members}
use Rattle.dns_data.specs.Types.{IsCalled}
use Rattle.grant_policy.specs.declared.rule.Rule.{Rule}
use Rattle.grant_policy.specs.Documents.{IsPolicy, SpellsRules, SpellsSelection}
use Rattle.grant_policy.specs.Words.{action_text}
use Rattle.policy_build.specs.Selections.{IsSelection, SelectsSome}

spelled_some : {X : Type 0} (Spells : X → List ℕ → Type 0) (o : Option (List X)) (d : Data) → SpellsSelection Spells o d → IsSelection o
spelled_some Spells None d spelled = tt
spelled_some Spells (Some []) d (items, is, some, spelled) = absurd (some refl)
spelled_some Spells (Some (x ∷ xs)) d spelled = omega arith

rules_select : (rules : List Rule) (items : Items) → SpellsRules rules items → AllByRecursion SelectsSome rules
rules_select [] items spelled = tt
rules_select (rule ∷ rules) items (ms, rest, is, here, more) = (
  record {
    types = spelled_some IsCalled rule.types here.types.0 here.types.2;
    actions = spelled_some (λ a text. action_text a ≡ text) rule.actions here.actions.0 here.actions.2;
  },
  rules_select rules rest more,
)

pub policy_selects : (top : Members) (rules : List Rule) → IsPolicy top rules → All SelectsSome rules
policy_selects top rules is =
    All-from_recursion SelectsSome rules
    (⊎_elim
    (λ none. subst (AllByRecursion SelectsSome) (sym none.1) tt)
    (λ some. rules_select rules some.0 some.2)
    is.tables)
