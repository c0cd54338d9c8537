-- Each receipt is counted once.
use Rattle.std.proofs.Common.{◌≡◌, ◌≢◌, suc, ◌+◌, Bool, true, false, cond, not, ◌||◌, List, [], ◌∷◌, length, refl, sym, ap, ◌∙◌, arith}
use Rattle.std.specs.List.{AllPairs, filter}
use Rattle.std.specs.Cmp.{both_ways}
use Rattle.std.proofs.lemmas.Bool.{false_from_ne_true}
use Rattle.std.proofs.lemmas.List.Sums.{sum_by-cons}
use Rattle.dns_names.proofs.NameLemmas.{same_name-Decides}
use Rattle.dns_names.specs.Order.{same_name}
use Rattle.zone_core.proofs.SetLemmas.{name_is}
use Rattle.zone_core.proofs.MetLemmas.{any_is, of_among}
use Rattle.store_rows.specs.declared.ordered.KeptReceipt.{KeptReceipt}
use Rattle.cli_store.specs.declared.zone_list.ZoneSummary.{ZoneSummary}
use Rattle.cli_store.specs.ZoneList.{is_listed, receipts_of, EachReceiptCountsOnce}
use Rattle.cli_store.proofs.LogLaws.{all_kept}
use Rattle.cli_store.proofs.ZoneListLemmas.{Labels}

by_tests : {X : Type 0} (x : X) (one neither other : List X) (a b : Bool) → (a ≡ true → b ≡ false) → length one + length neither ≡ length other
    → length (cond a (x ∷ one) one) + length (cond (not (a || b)) (x ∷ neither) neither) ≡ length (cond (not b) (x ∷ other) other)
by_tests x one neither other true true apart rest = absurd (let bad : true ≡ false = apart refl in cc)
by_tests x one neither other true false apart rest = omega (arith, rest)
by_tests x one neither other false true apart rest = rest
by_tests x one neither other false false apart rest = omega (arith, rest)

-- what passes the one test and what passes neither are what does not pass the other, where nothing passes both
one_of_both : {X : Type 0} (p q : X → Bool) (xs : List X) → ((x : X) → p x ≡ true → q x ≡ false)
    → length (filter p xs) + length (filter (λ x. not (p x || q x)) xs) ≡ length (filter (λ x. not (q x)) xs)
one_of_both p q [] apart = refl
one_of_both p q (x ∷ xs) apart =
    by_tests x (filter p xs) (filter (λ y. not (p y || q y)) xs) (filter (λ y. not (q y)) xs) (p x) (q x) (apart x) (one_of_both p q xs apart)

name_same : (a b : Labels) → same_name a b ≡ same_name b a
name_same a b =
    both_ways (same_name a b) (same_name b a) (λ t. (same_name-Decides b a).1 (sym ((same_name-Decides a b).0 t))) (λ t. (same_name-Decides a b).1 (sym ((same_name-Decides b a).0 t)))

-- an origin that is that of a zone is that of none of those after it
not_behind : (z : ZoneSummary) (zones : List ZoneSummary) → AllPairs (λ a b. a.origin ≢ b.origin) (z ∷ zones) → (origin : Labels) → same_name z.origin origin ≡ true → is_listed zones origin ≡ false
not_behind z zones apart origin same =
    false_from_ne_true (is_listed zones origin) (λ listed.
    let found = any_is (λ (y : ZoneSummary). same_name y.origin origin) zones listed in
    let at = of_among zones found.0 found.1 in
    apart 0 (suc at.0) found.0 (omega arith) (omega (arith, at.1)) (name_is z.origin origin same ∙ sym (name_is found.0.origin origin found.2) ∙ ap (λ (y : ZoneSummary). y.origin) (sym at.2)))

pub each_receipt_counts_once : EachReceiptCountsOnce
each_receipt_counts_once [] kept apart = omega (arith, ap length (all_kept kept))
each_receipt_counts_once (z ∷ zones) kept apart =
    let rest = each_receipt_counts_once zones kept (λ i j d before within. apart (suc i) (suc j) d (omega (arith, before)) (omega (arith, within))) in
    let here = one_of_both (λ (k : KeptReceipt). same_name z.origin k.receipt.origin) (λ k. is_listed zones k.receipt.origin) kept (λ k. not_behind z zones apart k.receipt.origin) in
    let own : receipts_of kept z.origin ≡ length (filter (λ (k : KeptReceipt). same_name z.origin k.receipt.origin) kept) =
    λ i. length (filter (λ (k : KeptReceipt). name_same k.receipt.origin z.origin i) kept) in
    omega (arith, sum_by-cons (λ y. receipts_of kept y.origin) z zones, rest, here, own)
