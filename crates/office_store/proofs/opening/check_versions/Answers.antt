use Rattle.std.proofs.Common.{◌≡◌, true, false, sym, ◌∙◌}
use Rattle.office_store.proofs.opening.check_versions.Goals as goal

pub returns-then-is_alone : goal.returns-then-is_alone
returns-then-is_alone c = c.is_alone.ensures.0 c.if-is_alone.true

pub returns : goal.returns
returns c = λ is.
    let bad : true ≡ false = sym (c.is_alone.ensures.1 is) ∙ c.if-is_alone.false in
    cc
