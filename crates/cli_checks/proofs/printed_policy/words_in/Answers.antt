use Rattle.std.proofs.Common.{List, ℕ, length, eqb, not, rules, tests}
use Rattle.std.proofs.lemmas.Iterator.Consumers.{map_from_collect, YieldsList-at, YieldsList-from_filter}
use Rattle.std.proofs.lemmas.Iterator.Splits.{YieldsList-from_slice_split}
use Rattle.cli_checks.proofs.printed_policy.words_in.Goals as goal

pub returns : goal.returns
returns c =
    map_from_collect _ c.collect.ensures.ran
    (YieldsList-from_filter _ (λ (part : List ℕ). not (eqb (length part) 0))
    (YieldsList-at c.filter.ensures.source (YieldsList-from_slice_split _ _ c.args.text.now c.split.ensures.rest c.split.ensures.done c.split.ensures.closure (λ x r q k. search (rules, tests))))
    c.filter.ensures.closure (λ x b q k. search (rules, tests)))
