use Rattle.std.proofs.Common.{◌≡◌, true, false, map, sym, ap, ◌∙◌}
use Rattle.std.proofs.lemmas.List.Sorted.{IsPermutation-map, IsPermutation-sym}
use Rattle.dns_names.specs.Order.{canonical_cmp}
use Rattle.dns_names.specs.Spelling.{name_text}
use Rattle.store_rows.specs.Orders.{rises}
use Rattle.store_rows.proofs.TableLaws.{origins_apart}
use Rattle.store_rows.proofs.zones.checked_origins.Goals as goal

pub returns-then-not-are_apart-clause-bad : goal.returns-then-not-are_apart-clause-bad
returns-then-not-are_apart-clause-bad c = λ bad origins are.
    let texts = map name_text c.args.origins.items in
    let os = c.in_ok-origins.origins.items in
    let found = c.in_ok-origins.ensures.found in
    let same = IsPermutation-sym texts (map name_text os) (IsPermutation-map name_text c.args.origins.items os found.0) in
    let rise = origins_apart origins texts are os same found.1 found.2 in
    let told : c.are_apart.result ≡ true = c.are_apart.ensures ∙ ap (rises canonical_cmp) c.deref.ensures.value ∙ rise in
    let no : true ≡ false = sym told ∙ c.if-not-are_apart.true in
    cc

pub returns-clause-found : goal.returns-clause-found
returns-clause-found c =
    let texts = map name_text c.args.origins.items in
    let os = c.in_ok-origins.origins.items in
    let found = c.in_ok-origins.ensures.found in
    record {
      are = record { each = found.1; order = sym (c.are_apart.ensures ∙ ap (rises canonical_cmp) c.deref.ensures.value) ∙ c.if-not-are_apart.false };
      same = IsPermutation-sym texts (map name_text os) (IsPermutation-map name_text c.args.origins.items os found.0);
    }
