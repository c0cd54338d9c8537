-- What is found in a set that was made from another, and what a test finds in two sets.
use Rattle.std.proofs.Common.{◌≡◌, ℕ, suc, List, [], ◌∷◌, length, Bool, true, false, cond, not, ◌&&◌, ◌==◌, nat_lt, arith, Option, Some, None, refl, sym, ap, ◌∙◌, subst}
use Rattle.std.specs.declared.cmp.Ordering.{Ordering}
use Rattle.std.specs.declared.cmp.Ordering.TheVariants.{Less, Equal, Greater}
use Rattle.std.specs.Ordering.{nat_cmp, ordering_then, is_eq, is_lt}
use Rattle.std.specs.FinMap.Entries.{below_all}
use lib.Dec.{T}
use Rattle.std.specs.Cmp.{tied_itself}
use Rattle.std.specs.Cmp.Lexicographic.{slice_cmp}
use Rattle.std.specs.FinMap.{entries, entries_sorted, is_sorted, get-entries, find, len, len-entries, IsAntisymmetric, nat_cmp-IsAntisymmetric, slice_cmp-IsAntisymmetric, get, empty, remove, get-empty, get-insert, get-remove, get-retain_keys, same_map, empty_of_len, len-empty}
use Rattle.std.proofs.lemmas.Bool.{both_ways, true_from_ne_false, false_from_ne_true, eqb-true, not-false}
use Rattle.std.proofs.lemmas.Bool.Decides.{nat_tests}
use Rattle.dns_names.specs.Order.{canonical_cmp, canonical_total, same_name}
use Rattle.dns_names.proofs.NameLemmas.{same_name-Decides}
use Rattle.dns_data.specs.declared.record.Record.{Record}
use Rattle.dns_data.specs.RecordOrder.{key_total}
use Rattle.zone_core.specs.Sets.{Records, Key, key_of, key_cmp, same_key, part, cut, count, has, put}

-- ---- tests

pub by_cases : (b : Bool) (A : Type 0) → (b ≡ true → A) → (b ≡ false → A) → A
by_cases true A when_true when_false = when_true refl
by_cases false A when_true when_false = when_false refl

-- ---- names and keys that tie are one

both_equal : (a b : Ordering) → ordering_then a b ≡ Equal → (a ≡ Equal) × (b ≡ Equal)
both_equal Less b e = absurd cc
both_equal Equal b e = (refl, e)
both_equal Greater b e = absurd cc

pub is_tied : (r : Ordering) → is_eq r ≡ true → r ≡ Equal
is_tied Less e = absurd cc
is_tied Equal e = refl
is_tied Greater e = absurd cc

pub name_is : (a b : List (List ℕ)) → same_name a b ≡ true → a ≡ b
name_is a b e = (same_name-Decides a b).0 e

pub name_self : (a : List (List ℕ)) → same_name a a ≡ true
name_self a = ap is_eq (tied_itself canonical_total a)

pub name_other : (a b : List (List ℕ)) → (a ≡ b → ⊥) → same_name a b ≡ false
name_other a b differ = false_from_ne_true (same_name a b) (λ e. differ (name_is a b e))

pub one_key : IsAntisymmetric key_cmp
one_key x y e =
    let last = both_equal (ordering_then (canonical_cmp x.0 y.0) (nat_cmp x.1 y.1)) (slice_cmp nat_cmp x.2 y.2) e in
    let front = both_equal (canonical_cmp x.0 y.0) (nat_cmp x.1 y.1) last.0 in
    let owner = name_is x.0 y.0 (ap is_eq front.0) in
    let rank = nat_cmp-IsAntisymmetric x.1 y.1 front.1 in
    let text = slice_cmp-IsAntisymmetric nat_cmp-IsAntisymmetric x.2 y.2 last.1 in
    λ i. (owner i, rank i, text i)

pub key_is : (a b : Key) → same_key a b ≡ true → a ≡ b
key_is a b e = one_key a b (is_tied (key_cmp a b) e)

pub key_self : (a : Key) → same_key a a ≡ true
key_self a = ap is_eq (tied_itself key_total a)

pub key_other : (a b : Key) → (a ≡ b → ⊥) → same_key a b ≡ false
key_other a b differ = false_from_ne_true (same_key a b) (λ e. differ (key_is a b e))

-- ---- what is found

pub get-part : (a : Records) (p : Key → Bool) (k : Key) → get (part a p) k ≡ cond (p k) (get a k) None
get-part a p k = get-retain_keys a p k (λ x t. ap p (sym (one_key k x t)))

turned : {A : Type 0} (b : Bool) (x y : A) → cond (not b) x y ≡ cond b y x
turned true x y = refl
turned false x y = refl

pub get-cut : (a : Records) (p : Key → Bool) (k : Key) → get (cut a p) k ≡ cond (p k) None (get a k)
get-cut a p k = get-part a (λ x. not (p x)) k ∙ turned (p k) (get a k) None

pub get-put : (a : Records) (r : Record) (k : Key) → get (put a r) k ≡ cond (same_key k (key_of r)) (Some r) (get a k)
get-put a r k = get-insert key_total a (key_of r) r k

pub get-gone : (a : Records) (q k : Key) → get (remove a q) k ≡ cond (same_key k q) None (get a k)
get-gone a q k = get-remove key_total a q k

-- where a test fails, and where it holds
pub kept_by_cut : (a : Records) (p : Key → Bool) (k : Key) → p k ≡ false → get (cut a p) k ≡ get a k
kept_by_cut a p k e = get-cut a p k ∙ ap (λ b. cond b None (get a k)) e

pub gone_by_cut : (a : Records) (p : Key → Bool) (k : Key) → p k ≡ true → get (cut a p) k ≡ None
gone_by_cut a p k e = get-cut a p k ∙ ap (λ b. cond b None (get a k)) e

pub kept_by_put : (a : Records) (r : Record) (k : Key) → (k ≡ key_of r → ⊥) → get (put a r) k ≡ get a k
kept_by_put a r k differ = get-put a r k ∙ ap (λ b. cond b (Some r) (get a k)) (key_other k (key_of r) differ)

pub found_by_put : (a : Records) (r : Record) → get (put a r) (key_of r) ≡ Some r
found_by_put a r = get-put a r (key_of r) ∙ ap (λ b. cond b (Some r) (get a (key_of r))) (key_self (key_of r))

pub kept_by_remove : (a : Records) (q k : Key) → (k ≡ q → ⊥) → get (remove a q) k ≡ get a k
kept_by_remove a q k differ = get-gone a q k ∙ ap (λ b. cond b None (get a k)) (key_other k q differ)

pub gone_by_remove : (a : Records) (q : Key) → get (remove a q) q ≡ None
gone_by_remove a q = get-gone a q q ∙ ap (λ b. cond b None (get a q)) (key_self q)

pub found_in_part : (a : Records) (p : Key → Bool) (k : Key) → p k ≡ true → get (part a p) k ≡ get a k
found_in_part a p k e = get-part a p k ∙ ap (λ b. cond b (get a k) None) e

-- ---- two sets in which the same is found

pub same_sets : (a b : Records) → ((k : Key) → get a k ≡ get b k) → a ≡ b
same_sets a b is = same_map key_total one_key a b is

under : (b : Bool) (x y : Option Record) → (b ≡ true → x ≡ y) → cond b x None ≡ cond b y None
under true x y e = e refl
under false x y e = refl

pub same_parts : (a b : Records) (p : Key → Bool) → ((k : Key) → p k ≡ true → get a k ≡ get b k) → part a p ≡ part b p
same_parts a b p is = same_sets (part a p) (part b p) (λ k. get-part a p k ∙ under (p k) (get a k) (get b k) (is k) ∙ sym (get-part b p k))

pub same_has : (a b : Records) (p : Key → Bool) → ((k : Key) → p k ≡ true → get a k ≡ get b k) → has a p ≡ has b p
same_has a b p is = ap (λ (s : Records). not (len s == 0)) (same_parts a b p is)

-- ---- a set in which nothing is found

abbrev pub is_empty : Records → Bool
is_empty set = len set == 0

pub empty_is : (a : Records) → is_empty a ≡ true → a ≡ empty
empty_is a e = empty_of_len a (eqb-true _ _ e)

pub empty_has : is_empty empty ≡ true
empty_has = ap (λ n. n == 0) (len-empty key_cmp Record)

pub none_in_empty : (a : Records) (k : Key) → is_empty a ≡ true → get a k ≡ None
none_in_empty a k e = ap (λ (s : Records). get s k) (empty_is a e) ∙ get-empty key_cmp k

pub none_there : (a : Records) (p : Key → Bool) (k : Key) → has a p ≡ false → p k ≡ true → get a k ≡ None
none_there a p k e holds = sym (found_in_part a p k holds) ∙ none_in_empty (part a p) k (not-false (is_empty (part a p)) e)

nothing : (b : Bool) (x : Option Record) → (b ≡ true → x ≡ None) → cond b x None ≡ None
nothing true x e = e refl
nothing false x e = refl

pub has_nothing : (a : Records) (p : Key → Bool) → ((k : Key) → p k ≡ true → get a k ≡ None) → has a p ≡ false
has_nothing a p none =
    let bare : part a p ≡ empty = same_sets (part a p) empty (λ k. get-part a p k ∙ nothing (p k) (get a k) (none k) ∙ sym (get-empty key_cmp k)) in
    ap (λ (s : Records). not (is_empty s)) bare ∙ ap not empty_has

-- what a test finds, a wider test finds
pub has_wider : (a : Records) (p q : Key → Bool) → ((k : Key) → p k ≡ true → q k ≡ true) → has a p ≡ true → has a q ≡ true
has_wider a p q wider found =
    true_from_ne_false (has a q) (λ none. both_ways (has a p) (has_nothing a p (λ k e. none_there a q k none (wider k e))) found)

pub some_is : (a : Records) (k : Key) (x : Record) → get a k ≡ Some x → get a k ≡ None → ⊥
some_is a k x e n = let c : Some x ≡ None = sym e ∙ n in absurd cc

pub has_found : (a : Records) (p : Key → Bool) (k : Key) (x : Record) → p k ≡ true → get a k ≡ Some x → has a p ≡ true
has_found a p k x e found = true_from_ne_false (has a p) (λ none. some_is a k x found (none_there a p k none e))

-- ---- a set in which a test finds something

head_found : (es : List (Key × Record)) → not (length es == 0) ≡ true → (k : Key) × (r : Record) × (find key_cmp k es ≡ Some r)
head_found [] e = absurd cc
head_found (x ∷ es) e = (x.0, x.1, ap (λ b. cond b (Some x.1) (find key_cmp x.0 es)) (key_self x.0))

chosen : (b : Bool) (o : Option Record) (r : Record) → cond b o None ≡ Some r → (b ≡ true) × (o ≡ Some r)
chosen true o r e = (refl, e)
chosen false o r e = absurd cc

-- what is found in a part passes its test, and is found in the set
pub found_of_part : (a : Records) (p : Key → Bool) (k : Key) (r : Record) → get (part a p) k ≡ Some r → (p k ≡ true) × (get a k ≡ Some r)
found_of_part a p k r e = chosen (p k) (get a k) r (sym (get-part a p k) ∙ e)

pub some_found : (a : Records) (p : Key → Bool) → has a p ≡ true → (k : Key) × (r : Record) × (p k ≡ true) × (get a k ≡ Some r)
some_found a p e =
    let head = head_found (entries (part a p)) (ap (λ n. not (n == 0)) (sym (len-entries (part a p))) ∙ e) in
    let both = found_of_part a p head.0 head.1 (get-entries (part a p) head.0 ∙ head.2) in
    (head.0, head.1, both.0, both.1)

one_entry : (es : List (Key × Record)) (j k : Key) (r s : Record) → nat_lt 1 (length es) ≡ false → find key_cmp j es ≡ Some r → find key_cmp k es ≡ Some s → j ≡ k
one_entry [] j k r s few e f = absurd cc
one_entry (x ∷ []) j k r s few e f = only j r e ∙ sym (only k s f)
  where
    only : (q : Key) (v : Record) → cond (same_key q x.0) (Some x.1) None ≡ Some v → q ≡ x.0
    only q v e = key_is q x.0 ((chosen (same_key q x.0) (Some x.1) v e).0)
one_entry (x ∷ y ∷ es) j k r s few e f = absurd (let c = sym (two (length es)) ∙ few in cc)
  where
    two : (n : ℕ) → nat_lt 1 (suc (suc n)) ≡ true
    two n = grind (arith, nat_tests)

-- where a test finds no two records, those that it finds are one
pub one_found : (a : Records) (p : Key → Bool) (j k : Key) (r s : Record) → nat_lt 1 (count a p) ≡ false → p j ≡ true → p k ≡ true → get a j ≡ Some r → get a k ≡ Some s → j ≡ k
one_found a p j k r s few here there e f =
    one_entry (entries (part a p)) j k r s (ap (nat_lt 1) (sym (len-entries (part a p))) ∙ few)
    (sym (get-entries (part a p) j) ∙ found_in_part a p j here ∙ e) (sym (get-entries (part a p) k) ∙ found_in_part a p k there ∙ f)

-- where a test finds two, they stand under different keys
pub record Two (a : Records) (p : Key → Bool) : Type 0 where
  pub first : Key
  pub second : Key
  pub one : Record
  pub other : Record
  pub one_found : get a first ≡ Some one
  pub other_found : get a second ≡ Some other
  pub one_passes : p first ≡ true
  pub other_passes : p second ≡ true
  pub apart : first ≡ second → ⊥

below_second : (x y : Key × Record) (es : List (Key × Record)) → T (is_sorted key_cmp (x ∷ y ∷ es)) → key_cmp x.0 y.0 ≡ Less
below_second x y es sorted = is_less (key_cmp x.0 y.0) (first_true (is_lt (key_cmp x.0 y.0)) (below_all key_cmp x.0 es) (first_true (below_all key_cmp x.0 (y ∷ es)) (is_sorted key_cmp (y ∷ es)) sorted))
  where
    first_true : (a b : Bool) → T (a && b) → T a
    first_true true b t = tt
    first_true false b t = t

    is_less : (o : Ordering) → T (is_lt o) → o ≡ Less
    is_less Less t = refl
    is_less Equal t = absurd t
    is_less Greater t = absurd t

two_entries : (a : Records) (p : Key → Bool) (es : List (Key × Record)) → entries (part a p) ≡ es → nat_lt 1 (length es) ≡ true → Two a p
two_entries a p [] is many = absurd cc
two_entries a p (x ∷ []) is many = absurd cc
two_entries a p (x ∷ y ∷ es) is many =
    let less = below_second x y es (subst (λ xs. T (is_sorted key_cmp xs)) is (entries_sorted (part a p))) in
    let differ : x.0 ≡ y.0 → ⊥ = λ e. let tie : key_cmp x.0 y.0 ≡ Equal = ap (key_cmp x.0) (sym e) ∙ tied_itself key_total x.0 in let c : Less ≡ Equal = sym less ∙ tie in absurd cc in
    let here = get-entries (part a p) x.0 ∙ ap (find key_cmp x.0) is ∙ ap (λ b. cond b (Some x.1) (find key_cmp x.0 (y ∷ es))) (key_self x.0) in
    let there =
    get-entries (part a p) y.0 ∙ ap (find key_cmp y.0) is
    ∙ ap (λ b. cond b (Some x.1) (find key_cmp y.0 (y ∷ es))) (key_other y.0 x.0 (λ e. differ (sym e)))
    ∙ ap (λ b. cond b (Some y.1) (find key_cmp y.0 es)) (key_self y.0) in
    let one = found_of_part a p x.0 x.1 here in
    let two = found_of_part a p y.0 y.1 there in
    record { first = x.0; second = y.0; one = x.1; other = y.1; one_found = one.1; other_found = two.1; one_passes = one.0; other_passes = two.0; apart = differ }

pub two_found : (a : Records) (p : Key → Bool) → nat_lt 1 (count a p) ≡ true → Two a p
two_found a p many = two_entries a p (entries (part a p)) refl (ap (nat_lt 1) (sym (len-entries (part a p))) ∙ many)
