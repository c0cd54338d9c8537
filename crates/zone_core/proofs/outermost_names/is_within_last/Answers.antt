use Rattle.std.proofs.Common.{◌≡◌, ◌<◌, ◌==◌, ℕ, zero, suc, length, false, ◌∙◌, arith}
use Rattle.zone_core.proofs.CoverLemmas.{by_last}
use Rattle.zone_core.proofs.outermost_names.is_within_last.Goals as goal

some : (n : ℕ) → false ≡ (n == 0) → 0 < n
some zero e = absurd cc
some (suc n) e = omega arith

pub returns : goal.returns
returns c =
    c.is_within.ensures.value
    ∙ by_last c.args.tops.now c.requires.apart c.args.name.now c.index-tops-tops.result c.requires.before (some (length c.args.tops.now) c.if-is_empty.ensures) c.index-tops-tops.is
