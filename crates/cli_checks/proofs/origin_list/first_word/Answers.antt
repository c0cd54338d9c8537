use Rattle.std.proofs.Common.{List, ℕ, length, eqb, not, rules, tests}
use Rattle.std.proofs.lemmas.Iterator.Search.{find_from_yields_List}
use Rattle.std.proofs.lemmas.Iterator.Splits.{YieldsList-from_slice_split}
use Rattle.cli_checks.proofs.origin_list.first_word.Goals as goal

pub returns : goal.returns
returns c =
    find_from_yields_List (λ (part : List ℕ). not (eqb (length part) 0)) _ _ _ c.find.ensures.ran
    (YieldsList-from_slice_split _ _ c.args.line.now c.split.ensures.rest c.split.ensures.done c.split.ensures.closure (λ x r q k. search (rules, tests)))
    (λ x b q k. search (rules, tests))
