use Rattle.std.specs.Prelude.{◌≡◌, true}
use Rattle.zone_core.proofs.VisibilityLemmas.{changes_are_indistinguishable, invisible_changes_show_nothing}
use Rattle.zone_core.proofs.laws.changes_are_indistinguishable.Goals as goal

pub returns-clause-alike : goal.returns-clause-alike
returns-clause-alike c = λ seen. changes_are_indistinguishable (λ name. seen name ≡ true)

pub returns-clause-invisible : goal.returns-clause-invisible
returns-clause-invisible c = λ seen. invisible_changes_show_nothing (λ name. seen name ≡ true)
