use Rattle.std.proofs.Common.{◌≡◌, ◌++◌, ◌∙◌, length}
use Rattle.std.specs.List.{filter}
use Rattle.std.specs.BTreeMap.{get}
use Rattle.dns_names.specs.Order.{canonical_cmp}
use Rattle.cli_store.specs.ZoneList.{elsewhere, elsewhere_line}
use Rattle.cli_store.proofs.ZoneListLemmas.{lines_counted, listed_counted, none_listed}
use Rattle.cli_store.proofs.zone_list.zones_text.Goals as goal

pub returns : goal.returns
returns c =
    let zones = c.args.zones.now in
    let kept = c.args.kept.now in
    let before = get canonical_cmp c.in_ok-counts.counts in
    let none_yet = c.in_ok-counts.ensures in
    let lines =
    lines_counted (get canonical_cmp c.count-others.new.counts) kept zones
    (λ origin listed. listed_counted zones kept origin (before origin) (get canonical_cmp c.count-others.new.counts origin) (none_yet origin) (c.count-others.ensures.counts origin) listed) in
    let others : c.count-others.result ≡ length (elsewhere zones kept) =
    c.count-others.ensures.others ∙ (λ i. length (filter (λ k. none_listed zones k.receipt.origin (before k.receipt.origin) (none_yet k.receipt.origin) i) kept)) in
    let head = c.in_ok-push_zones.ensures ∙ (λ i. c.new-text.ensures.bytes i ++ lines i) in
    c.in_ok-push_elsewhere.ensures ∙ (λ i. head i ++ elsewhere_line (others i))
