use Rattle.std.proofs.Common.{rules, map}
use Rattle.std.proofs.lemmas.List.Sorted.{ranks_by, answers_always, IsPermutation-map, IsPermutation-sym}
use Rattle.std.specs.Ordering.{is_lt}
use Rattle.dns_names.specs.Labels.{IsName}
use Rattle.dns_names.specs.Order.{canonical_cmp, canonical_total}
use Rattle.dns_names.specs.Spelling.{name_text}
use Rattle.store_rows.proofs.ListLemmas.{all_permutation}
use Rattle.store_rows.proofs.ListedLemmas.{origins_listed}
use Rattle.store_rows.proofs.ordered.sorted_origins.Goals as goal

pub returns-clause-found : goal.returns-clause-found
returns-clause-found c =
    let old = c.args.origins.items in
    let new = c.sort_by.new.self.items in
    let same = c.sort_by.ensures.permutation in (
      same,
      all_permutation IsName old new same c.requires,
      c.in_ok-sort_by.ensures.sorted (λ a b. is_lt (canonical_cmp a b)) (ranks_by canonical_total (λ x. x)) (answers_always _ _ _ (λ f a r g called. search rules)),
    )

pub returns-clause-held : goal.returns-clause-held
returns-clause-held c = λ version all s st moved.
    let old = c.args.origins.items in
    let new = c.sort_by.new.self.items in
    let same = c.sort_by.ensures.permutation in
    let texts = map name_text old in
    let turned = IsPermutation-map name_text old new same in
    origins_listed version all s st texts moved new (IsPermutation-sym texts (map name_text new) turned) (all_permutation IsName old new same c.requires)
    (c.in_ok-sort_by.ensures.sorted (λ a b. is_lt (canonical_cmp a b)) (ranks_by canonical_total (λ x. x)) (answers_always _ _ _ (λ f a r g called. search rules)))
