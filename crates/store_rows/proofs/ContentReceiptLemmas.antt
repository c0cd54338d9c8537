-- Receipts of a content, and one more.
use Rattle.std.proofs.Common.{◌≡◌, ℕ, Bool, true, false, cond, ◌&&◌, List, ◌∷◌, Option, Some, None, option_map, AllPairs, bytes_eq, refl, sym, ◌∙◌}
use Rattle.std.specs.Cmp.{both_ways}
use Rattle.std.proofs.lemmas.Bool.{and_from}
use Rattle.std.proofs.lemmas.Bool as bools
use Rattle.std.proofs.lemmas.Slice.Eq.{bytes_eq-Decides}
use Rattle.sqlite_trees.proofs.ListLemmas.{all_weaker}
use Rattle.office_model.specs.States.{State, keep}
use Rattle.store_rows.specs.Contents.{ReceiptAt, receipt_among}
use Rattle.store_rows.proofs.ListLemmas.{ascending_from_pairs, pairs_from_ascending, none_passes}
use Rattle.store_rows.proofs.ReceiptReadLemmas.{Differ, is_under}

bytes_turned : (a b : List ℕ) → bytes_eq a b ≡ bytes_eq b a
bytes_turned a b =
    both_ways (bytes_eq a b) (bytes_eq b a) (λ t. (bytes_eq-Decides b a).1 (sym ((bytes_eq-Decides a b).0 t))) (λ t. (bytes_eq-Decides a b).1 (sym ((bytes_eq-Decides b a).0 t)))

none_kept : (receipts : List ReceiptAt) (caller id : List ℕ) → None ≡ option_map (λ r. r.receipt) (receipt_among receipts caller id) → receipt_among receipts caller id ≡ None
none_kept receipts caller id e = by_found (receipt_among receipts caller id) e
  where
    by_found : (q : Option ReceiptAt) → None ≡ option_map (λ r. r.receipt) q → q ≡ None
    by_found None f = refl
    by_found (Some r) f = absurd cc

-- one that was not kept before is apart from the others
pub pairs_more : (receipts : List ReceiptAt) (r : ReceiptAt) → None ≡ option_map (λ x. x.receipt) (receipt_among receipts r.caller r.id) → AllPairs Differ receipts → AllPairs Differ (r ∷ receipts)
pairs_more receipts r fresh apart =
    pairs_from_ascending Differ (r ∷ receipts) (
      all_weaker (λ x. is_under r.caller r.id x ≡ false) (Differ r)
          (λ x f same. bools.both_ways (is_under r.caller r.id x) f (and_from (bytes_eq x.caller r.caller) (bytes_eq x.id r.id) ((bytes_eq-Decides x.caller r.caller).1 (sym same.0)) ((bytes_eq-Decides x.id r.id).1 (sym same.1))))
          receipts (none_passes (is_under r.caller r.id) receipts (none_kept receipts r.caller r.id fresh)),
      ascending_from_pairs Differ receipts apart,
    )

-- it is what is kept there
pub means_more : (s : State) (receipts : List ReceiptAt) (r : ReceiptAt) → ((caller id : List ℕ) → s.receipts caller id ≡ option_map (λ x. x.receipt) (receipt_among receipts caller id))
    → (caller id : List ℕ) → (keep s r.caller r.id r.receipt).receipts caller id ≡ option_map (λ x. x.receipt) (receipt_among (r ∷ receipts) caller id)
means_more s receipts r means caller id =
    (λ i. cond (bytes_turned caller r.caller i && bytes_turned id r.id i) (Some r.receipt) (means caller id i))
    ∙ by_test (is_under caller id r)
  where
    by_test : (b : Bool) → cond b (Some r.receipt) (option_map (λ x. x.receipt) (receipt_among receipts caller id)) ≡ option_map (λ (x : ReceiptAt). x.receipt) (cond b (Some r) (receipt_among receipts caller id))
    by_test true = refl
    by_test false = refl
