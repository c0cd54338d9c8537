-- Lists of what two sets of records differ in.
use Rattle.std.proofs.Common.{◌≡◌, ℕ, List, [], ◌∷◌, ◌++◌, Bool, true, false, cond, not, ◌==◌, Option, Some, None, is_some, refl, sym, ap, ◌∙◌, arith}
use Rattle.std.specs.List.{AllByRecursion, filter}
use Rattle.std.specs.FinMap.{get, find}
use Rattle.std.proofs.lemmas.Bool.{eqb-true}
use Rattle.std.proofs.lemmas.Bool.Decides.{nat_tests}
use Rattle.dns_data.specs.declared.record.Record.{Record}
use Rattle.dns_data.specs.Rdata.{type_of, IsRecord}
use Rattle.dns_data.proofs.ApartLaws.{one_text}
use Rattle.dns_data.proofs.RecordOrderLemmas.{one_rank}
use Rattle.zone_core.specs.declared.update.Operation.{Operation}
use Rattle.zone_core.specs.Sets.{Records, Key, key_of, key_cmp, keyed, set_of, listing, minus, same_ttl, IsIn}
use Rattle.zone_core.specs.Zones.{AreKept, is_soa}
use Rattle.zone_core.specs.Effects.{effect, effects}
use Rattle.zone_core.proofs.SetLemmas.{get-part, by_cases, some_is, found_of_part}
use Rattle.zone_core.proofs.RowLemmas.{get-set_of, set_of-filter, each_in}
use Rattle.zone_core.proofs.ChangedLemmas.{listed, kept_in_part}
use Rattle.zone_core.proofs.ZoneLemmas.{both_true, no}
use Rattle.zone_tools.specs.Differences.{is_server, is_other, is_gone, servers, gone, others}

-- ---- operations in turn

pub effects-append : (origin : List (List ℕ)) (set : Records) (xs ys : List Operation) → effects origin set (xs ++ ys) ≡ effects origin (effects origin set xs) ys
effects-append origin set [] ys = refl
effects-append origin set (op ∷ xs) ys = effects-append origin (effect origin set op) xs ys

-- ---- records that are the same

-- records with one key differ in their TTLs at most
pub retimed : (x y : Record) → IsRecord x → IsRecord y → key_of x ≡ key_of y → record x { ttl = y.ttl } ≡ y
retimed x y is also e =
    let rdata : x.rdata ≡ y.rdata = one_text x.rdata y.rdata is.rdata also.rdata (one_rank (type_of x.rdata) (type_of y.rdata) (ap (λ (q : Key). q.1) e)) (ap (λ (q : Key). q.2) e) in
    let owner : x.owner ≡ y.owner = ap (λ (q : Key). q.0) e in
    λ i. record y { owner = owner i; rdata = rdata i }

pub some_one : (x y : Record) → Some x ≡ Some y → x ≡ y
some_one x y e = cc

-- ---- lists of what passes a test

all_filtered : (P Q : Record → Type 0) (p : Key → Bool) → ((r : Record) → P r → p (key_of r) ≡ true → Q r) → (rs : List Record) → AllByRecursion P rs → AllByRecursion Q (filter (λ r. p (key_of r)) rs)
all_filtered P Q p f [] all = tt
all_filtered P Q p f (r ∷ rs) all = by_test (p (key_of r)) refl (all_filtered P Q p f rs all.1)
  where
    by_test : (b : Bool) → p (key_of r) ≡ b → AllByRecursion Q (filter (λ x. p (key_of x)) rs) → AllByRecursion Q (cond b (r ∷ filter (λ x. p (key_of x)) rs) (filter (λ x. p (key_of x)) rs))
    by_test true e rest = (f r all.0 e, rest)
    by_test false e rest = rest

-- each record that is listed of a set is in it and passes the test
pub each_listed : (Q : Record → Type 0) (p : Key → Bool) (set : Records) → AreKept set → ((r : Record) → IsIn r set → p (key_of r) ≡ true → Q r) → AllByRecursion Q (filter (λ r. p (key_of r)) (listing set))
each_listed Q p set kept f =
    let rows = listed set kept in
    all_filtered (λ r. find key_cmp (key_of r) (keyed (listing set)) ≡ Some r) Q p
    (λ r e t. f r (ap (λ (s : Records). get s (key_of r)) (sym rows.set) ∙ get-set_of (listing set) (key_of r) ∙ e) t)
    (listing set) (each_in (listing set) rows.order)

-- what is found in such a list is what is found in the set
pub find_listed : (p : Key → Bool) (set : Records) → AreKept set → (k : Key) → find key_cmp k (keyed (filter (λ r. p (key_of r)) (listing set))) ≡ cond (p k) (get set k) None
find_listed p set kept k =
    sym (get-set_of (filter (λ r. p (key_of r)) (listing set)) k) ∙ ap (λ (s : Records). get s k) (set_of-filter p (listing set))
    ∙ get-part (set_of (listing set)) p k ∙ ap (λ (s : Records). cond (p k) (get s k) None) (listed set kept).set

-- ---- differences

pub get-minus : (a b : Records) (k : Key) → get (minus a b) k ≡ cond (not (same_ttl (get a k) (get b k))) (get a k) None
get-minus a b k = get-part a (λ j. not (same_ttl (get a j) (get b j))) k

pub kept_in_minus : (a b : Records) → AreKept a → AreKept (minus a b)
kept_in_minus a b kept = kept_in_part a (λ k. not (same_ttl (get a k) (get b k))) kept

module _ (a b : Records) (kept : AreKept a) (also : AreKept b) where
  -- a record that is no difference is in both
  pub in_both : (k : Key) (y : Record) → get b k ≡ Some y → get (minus b a) k ≡ None → get a k ≡ Some y
  in_both k y is bare = by_option (get a k) refl
    where
      differ : (o : Option Record) → get a k ≡ o → get (minus b a) k ≡ cond (not (same_ttl (Some y) o)) (Some y) None
      differ o e = get-minus b a k ∙ (λ i. cond (not (same_ttl (is i) (e i))) (is i) None)

      by_ttl : (x : Record) → get a k ≡ Some x → (t : Bool) → (y.ttl == x.ttl) ≡ t → Some x ≡ Some y
      by_ttl x e true t =
          let ttl : y.ttl ≡ x.ttl = eqb-true y.ttl x.ttl t in
          let key : key_of x ≡ key_of y = (kept k x e).0 ∙ sym (also k y is).0 in
          ap (λ m. Some (record x { ttl = m })) (sym ttl) ∙ ap (λ (v : Record). Some v) (retimed x y (kept k x e).1 (also k y is).1 key)
      by_ttl x e false t = absurd (some_is (minus b a) k y (differ (Some x) e ∙ ap (λ t. cond (not t) (Some y) None) t) bare)

      by_option : (o : Option Record) → get a k ≡ o → o ≡ Some y
      by_option None e = absurd (some_is (minus b a) k y (differ None e) bare)
      by_option (Some x) e = by_ttl x e (y.ttl == x.ttl) refl

  self : (n : ℕ) → (n == n) ≡ true
  self n = grind (arith, nat_tests)

  -- a difference is in the one, and not in the other
  pub differs : (r : Record) → IsIn r (minus b a) → IsIn r b × (IsIn r a → ⊥)
  differs r here =
      let p : Key → Bool = λ k. not (same_ttl (get b k) (get a k)) in
      let both = found_of_part b p (key_of r) r here in
      (both.1, λ there. no (p (key_of r)) both.0 (ap not ((λ i. same_ttl (both.1 i) (there i)) ∙ self r.ttl)))

-- ---- the three lists

module _ (origin : List (List ℕ)) (old new : Records) (kept : AreKept old) (also : AreKept new) where
  -- a record of the new set that no list has is in the old one
  pub left_in : (k : Key) (y : Record) → is_soa k ≡ false → get new k ≡ Some y
      → find key_cmp k (keyed (servers origin old new)) ≡ None → find key_cmp k (keyed (others origin old new)) ≡ None → get old k ≡ Some y
  left_in k y off is no_server no_other =
      in_both old new kept also k y is (by_cases (is_server origin k) (get (minus new old) k ≡ None)
      (λ t. ap (λ b. cond b (get (minus new old) k) None) (sym t) ∙ sym (find_listed (is_server origin) (minus new old) (kept_in_minus new old also) k) ∙ no_server)
      (λ t. ap (λ b. cond b (get (minus new old) k) None) (sym (both_true (not (is_soa k)) (not (is_server origin k)) (ap not off) (ap not t)))
      ∙ sym (find_listed (is_other origin) (minus new old) (kept_in_minus new old also) k) ∙ no_other))

  -- a record of the old set that is not among those that go has a record in its place in the new one
  pub there_in : (k : Key) (x : Record) → is_soa k ≡ false → get old k ≡ Some x → find key_cmp k (keyed (gone old new)) ≡ None → (y : Record) × (get new k ≡ Some y)
  there_in k x off here none = by_option (get new k) refl
    where
      by_option : (o : Option Record) → get new k ≡ o → (y : Record) × (get new k ≡ Some y)
      by_option (Some y) e = (y, e)
      by_option None e =
          let passes : is_gone new k ≡ true = both_true (not (is_soa k)) (not (is_some (get new k))) (ap not off) (ap (λ (o : Option Record). not (is_some o)) e) in
          let found : get (minus old new) k ≡ Some x = get-minus old new k ∙ (λ i. cond (not (same_ttl (here i) (e i))) (here i) None) in
          absurd (some_is (minus old new) k x found
          (ap (λ b. cond b (get (minus old new) k) None) (sym passes) ∙ sym (find_listed (is_gone new) (minus old new) (kept_in_minus old new kept) k) ∙ none))
