use Rattle.std.proofs.Common.{not, ◌∙◌, rules, tests}
use Rattle.std.proofs.lemmas.Iterator.{YieldsList-from_slice}
use Rattle.std.proofs.lemmas.Iterator.Search.{position_from_yields_List}
use Rattle.dns_names.specs.Spelling.{is_plain}
use Rattle.dns_names.proofs.TextLemmas.{place_or_end}
use Rattle.dns_names.proofs.text.plain_len.Goals as goal

pub returns : goal.returns
returns c =
    c.unwrap_or.ensures
    ∙ place_or_end c.args.label.now c.position-place.result (position_from_yields_List (λ o. not (is_plain o)) _ _ _ c.position-place.ensures.ran (YieldsList-from_slice c.args.label.now cc) (λ x b q k. search (rules, tests)))
