-- Lists: pairs of elements, tests, elements of images, what is found, and lists in any order.
use Rattle.std.proofs.Common.{◌≡◌, ℕ, zero, suc, ◌<◌, Bool, true, false, cond, List, [], ◌∷◌, ◌++◌, length, get_or, map, filter, Option, Some, None, IsPermutation, refl, sym, ap, ap₂, subst, ◌∙◌, ◌&&◌, ◌||◌, arith, inl, inr, ◌+◌, ◌≤◌, take, not, nat_lt, append_assoc}
use Rattle.std.proofs.lemmas.List.Elements.{All-from_recursion, recursion_from_All}
use Rattle.std.proofs.lemmas.List.Sorted.{All-permutation, Contains-permutation, IsPermutation-refl, IsPermutation-cons, IsPermutation-trans, IsPermutation-middle, length_permutation, IsPermutation-sym, IsPermutation-append_left, IsPermutation-append_right, IsPermutation-append_comm}
use Rattle.std.proofs.lemmas.Bool.Decides.{nat_tests}
use Rattle.std.proofs.lemmas.List.Sums.{prefix_len-le-length}
use Rattle.std.specs.Option.{unwrap_or}
use Rattle.std.specs.List.{AllByRecursion, AllPairs, find, list_any, position, position_or_len}
use Rattle.sqlite_trees.specs.Tree.{IsAscending}
use Rattle.sqlite_trees.proofs.ListLemmas.{along_permutation, pull_back}
use Rattle.sqlite_rules.specs.Lists.{Has}
use Rattle.sqlite_rules.proofs.ListLemmas.{has_contained, contains_had}
use Rattle.zone_core.proofs.SetLemmas.{by_cases}

-- ---- pairs of elements

module _ {X : Type 0} (R : X → X → Type 0) where
  head_pairs : (x : X) (xs : List X) → AllPairs R (x ∷ xs) → AllByRecursion (R x) xs
  head_pairs x xs pairs = recursion_from_All (R x) xs (λ k d h. pairs 0 (suc k) d (omega arith) (omega arith))

  tail_pairs : (x : X) (xs : List X) → AllPairs R (x ∷ xs) → AllPairs R xs
  tail_pairs x xs pairs = λ i j d h l. pairs (suc i) (suc j) d (omega arith) (omega arith)

  pub ascending_from_pairs : (xs : List X) → AllPairs R xs → IsAscending R xs
  ascending_from_pairs [] pairs = tt
  ascending_from_pairs (x ∷ xs) pairs = (head_pairs x xs pairs, ascending_from_pairs xs (tail_pairs x xs pairs))

  pub pairs_from_ascending : (xs : List X) → IsAscending R xs → AllPairs R xs
  pairs_from_ascending [] up i j d h l = absurd (omega arith)
  pairs_from_ascending (x ∷ xs) up zero zero d h l = absurd (omega arith)
  pairs_from_ascending (x ∷ xs) up zero (suc j) d h l = All-from_recursion (R x) xs up.0 j d (omega arith)
  pairs_from_ascending (x ∷ xs) up (suc i) zero d h l = absurd (omega arith)
  pairs_from_ascending (x ∷ xs) up (suc i) (suc j) d h l = pairs_from_ascending xs up.1 i j d (omega arith) (omega arith)

-- ---- tests

pub filter-and : {X : Type 0} (p q : X → Bool) (xs : List X) → filter (λ x. p x && q x) xs ≡ filter q (filter p xs)
filter-and p q [] = refl
filter-and p q (x ∷ xs) =
    by_cases (p x) (filter (λ y. p y && q y) (x ∷ xs) ≡ filter q (filter p (x ∷ xs)))
    (λ t. rw t (ap (λ l. cond (q x) (x ∷ l) l) (filter-and p q xs)))
    (λ f. rw f (filter-and p q xs))

pub list_any-map : {X Y : Type 0} (p : Y → Bool) (f : X → Y) (xs : List X) → list_any p (map f xs) ≡ list_any (λ x. p (f x)) xs
list_any-map p f [] = refl
list_any-map p f (x ∷ xs) = ap (λ b. p (f x) || b) (list_any-map p f xs)

pub list_any_same : {X : Type 0} (p q : X → Bool) (xs : List X) → AllByRecursion (λ x. p x ≡ q x) xs → list_any p xs ≡ list_any q xs
list_any_same p q [] same = refl
list_any_same p q (x ∷ xs) same = ap (λ b. b || list_any p xs) same.0 ∙ ap (λ b. q x || b) (list_any_same p q xs same.1)

-- ---- elements

pub has_map : {X Y : Type 0} (f : X → Y) (xs : List X) (x : X) → Has xs x → Has (map f xs) (f x)
has_map f [] x h = absurd h
has_map f (y ∷ xs) x (inl same) = inl (ap f same)
has_map f (y ∷ xs) x (inr later) = inr (has_map f xs x later)

pub has_image : {X Y : Type 0} (f : X → Y) (xs : List X) (y : Y) → Has (map f xs) y → (x : X) × Has xs x × (y ≡ f x)
has_image f [] y h = absurd h
has_image f (x ∷ xs) y (inl same) = (x, inl refl, same)
has_image f (x ∷ xs) y (inr later) = let found = has_image f xs y later in (found.0, inr found.1, found.2)

pub has_permutation : {X : Type 0} (xs ys : List X) (x : X) → IsPermutation xs ys → Has xs x → Has ys x
has_permutation xs ys x same h = has_contained ys x (Contains-permutation xs ys x same (contains_had xs x h))

pub all_permutation : {X : Type 0} (P : X → Type 0) (xs ys : List X) → IsPermutation xs ys → AllByRecursion P xs → AllByRecursion P ys
all_permutation P xs ys same all = recursion_from_All P ys (All-permutation P xs ys same (All-from_recursion P xs all))

-- a list of images
pub chosen : {X Y : Type 0} (P : X → Type 0) (f : X → Y) (ys : List Y) → AllByRecursion (λ y. (x : X) × P x × (y ≡ f x)) ys → (xs : List X) × (ys ≡ map f xs) × AllByRecursion P xs
chosen P f [] all = ([], refl, tt)
chosen P f (y ∷ ys) all =
    let later = chosen P f ys all.1 in
    let x = all.0.0 in
    (x ∷ later.0, ap (λ z. z ∷ ys) all.0.2 ∙ ap (λ l. f x ∷ l) later.1, (all.0.1, later.2))

-- ---- lists of at most one element

pub none_moved : {X : Type 0} (ys : List X) → IsPermutation [] ys → ys ≡ []
none_moved [] same = refl
none_moved (y ∷ ys) same = absurd (omega (arith, length_permutation [] (y ∷ ys) same))

pub one_moved : {X : Type 0} (x : X) (ys : List X) → IsPermutation (x ∷ []) ys → ys ≡ x ∷ []
one_moved x [] same = absurd (omega (arith, length_permutation (x ∷ []) [] same))
one_moved x (y ∷ []) same = ap (λ z. z ∷ []) (all_permutation (λ z. z ≡ x) (x ∷ []) (y ∷ []) same (refl, tt)).0
one_moved x (y ∷ z ∷ ys) same = absurd (omega (arith, length_permutation (x ∷ []) (y ∷ z ∷ ys) same))

-- what is found, as a list
abbrev pub found_list : {X : Type 0} → Option X → List X
found_list None = []
found_list (Some x) = x ∷ []

-- where no two pass, the first that passes is all that do
pub filter_one : {X : Type 0} (p : X → Bool) (xs : List X) → IsAscending (λ a b. p a ≡ true → p b ≡ false) xs → filter p xs ≡ found_list (find p xs)
filter_one p [] up = refl
filter_one {X} p (x ∷ xs) up =
    by_cases (p x) (filter p (x ∷ xs) ≡ found_list (find p (x ∷ xs)))
    (λ t. rw t (ap (λ l. x ∷ l) (none_pass xs (all_now xs t up.0))))
    (λ f. rw f (filter_one p xs up.1))
  where
    all_now : (ys : List X) → p x ≡ true → AllByRecursion (λ b. p x ≡ true → p b ≡ false) ys → AllByRecursion (λ b. p b ≡ false) ys
    all_now [] t all = tt
    all_now (y ∷ ys) t all = (all.0 t, all_now ys t all.1)

    none_pass : (ys : List X) → AllByRecursion (λ b. p b ≡ false) ys → filter p ys ≡ []
    none_pass [] all = refl
    none_pass (y ∷ ys) all = rw all.0 (none_pass ys all.1)

-- ---- fronts

-- one element more
pub front_more : {X : Type 0} (xs : List X) (i : ℕ) (x : X) → i < length xs → x ≡ get_or xs i x → take (i + 1) xs ≡ take i xs ++ x ∷ []
front_more [] i x below is = absurd (omega arith)
front_more (y ∷ xs) zero x below is = ap (λ z. z ∷ []) (sym is)
front_more (y ∷ xs) (suc i) x below is =
    let n : suc i + 1 ≡ suc (i + 1) = omega arith in
    ap (λ k. take k (y ∷ xs)) n ∙ ap (λ l. y ∷ l) (front_more xs i x (omega arith) is)

-- ---- images

-- an element of a list of images
pub image_at : {X Y : Type 0} (P : X → Type 0) (f : X → Y) (xs : List X) (i : ℕ) (y : Y) → AllByRecursion P xs → i < length (map f xs) → y ≡ get_or (map f xs) i y
    → (x : X) × P x × (y ≡ f x) × (take (i + 1) xs ≡ take i xs ++ x ∷ [])
image_at P f [] i y all below is = absurd (omega arith)
image_at P f (x ∷ xs) zero y all below is = (x, all.0, is, refl)
image_at P f (x ∷ xs) (suc i) y all below is =
    let later = image_at P f xs i y all.1 (omega arith) is in
    let n : suc i + 1 ≡ suc (i + 1) = omega arith in
    (later.0, later.1, later.2, ap (λ k. take k (x ∷ xs)) n ∙ ap (λ l. x ∷ l) later.3)

-- images that are equal are of equal lists
images_one : {X Y : Type 0} (P : X → Type 0) (f : X → Y) → ((x y : X) → P x → P y → f x ≡ f y → x ≡ y) → (xs ys : List X) → AllByRecursion P xs → AllByRecursion P ys → map f xs ≡ map f ys → xs ≡ ys
images_one P f one [] [] all also e = refl
images_one P f one [] (y ∷ ys) all also e = absurd cc
images_one P f one (x ∷ xs) [] all also e = absurd cc
images_one P f one (x ∷ xs) (y ∷ ys) all also e =
    let first : f x ≡ f y = cc in
    let later : map f xs ≡ map f ys = cc in
    ap₂ ◌∷◌ (one x y all.0 also.0 first) (images_one P f one xs ys all.1 also.1 later)

-- and so in any order
pub moved_back : {X Y : Type 0} (P : X → Type 0) (f : X → Y) → ((x y : X) → P x → P y → f x ≡ f y → x ≡ y) → (xs ys : List X) → AllByRecursion P xs → AllByRecursion P ys → IsPermutation (map f xs) (map f ys) → IsPermutation xs ys
moved_back P f one xs ys all also same =
    let to = pull_back f (map f xs) (map f ys) same xs refl in
    let is = images_one P f one ys to.0 also (all_permutation P xs to.0 to.1 all) to.2 in
    subst (IsPermutation xs) (sym is) to.1

-- ---- pairs in another order

module _ {X : Type 0} (R : X → X → Type 0) (back : (a b : X) → R a b → R b a) where
  -- one list is another in some order, and if each pair of the one holds, so does each of the other
  abbrev Moves : List X → List X → Type 0
  Moves xs ys = IsPermutation xs ys × (IsAscending R xs → IsAscending R ys)

  moves_under : (x : X) (xs ys : List X) → Moves xs ys → Moves (x ∷ xs) (x ∷ ys)
  moves_under x xs ys m = (IsPermutation-cons x xs ys m.0, λ up. (all_permutation (R x) xs ys m.0 up.0, m.1 up.1))

  moves_heads : (x y : X) (xs : List X) → Moves (x ∷ y ∷ xs) (y ∷ x ∷ xs)
  moves_heads x y xs = (IsPermutation-middle (x ∷ []) y xs, λ up. ((back x y up.0.0, up.1.0), (up.0.1, up.1.1)))

  pub apart_moved : (xs ys : List X) → IsPermutation xs ys → IsAscending R xs → IsAscending R ys
  apart_moved xs ys same =
      (along_permutation Moves (λ l. (IsPermutation-refl l, λ up. up)) moves_under moves_heads (λ us vs ws m n. (IsPermutation-trans us vs ws m.0 n.0, λ up. n.1 (m.1 up))) xs ys same).1

-- ---- places

-- a place, or the length for no place
pub count_is : {X : Type 0} (p : X → Bool) (xs : List X) (place : Option ℕ) → place ≡ position p xs → unwrap_or place (length xs) ≡ position_or_len p xs
count_is p xs place e = ap (λ o. unwrap_or o (length xs)) e ∙ by_test (nat_lt (position_or_len p xs) (length xs)) refl
  where
    at_end : (n l : ℕ) → n ≤ l → nat_lt n l ≡ false → l ≡ n
    at_end n l h e = grind (arith, nat_tests)

    by_test : (b : Bool) → nat_lt (position_or_len p xs) (length xs) ≡ b → unwrap_or (cond b (Some (position_or_len p xs)) None) (length xs) ≡ position_or_len p xs
    by_test true e = refl
    by_test false e = at_end (position_or_len p xs) (length xs) (prefix_len-le-length (λ x. not (p x)) xs) e

-- ---- in another order

module _ {X : Type 0} where
  -- the first two change places
  pub turned_first : (x y : X) (xs : List X) → IsPermutation (x ∷ y ∷ xs) (y ∷ x ∷ xs)
  turned_first x y xs = IsPermutation-middle (x ∷ []) y xs

  -- the last of three goes between the other two
  pub turned_last : (xs ys zs : List X) → IsPermutation ((xs ++ ys) ++ zs) ((xs ++ zs) ++ ys)
  turned_last xs ys zs =
      rw (append_assoc xs ys zs, append_assoc xs zs ys) (IsPermutation-append_right xs (ys ++ zs) (zs ++ ys) (IsPermutation-append_comm ys zs))

  -- what a part of a whole becomes, with something more, the whole becomes with it
  pub part_more : (part more rest whole now : List X) → IsPermutation whole (part ++ rest) → IsPermutation now (part ++ more) → IsPermutation (now ++ rest) (whole ++ more)
  part_more part more rest whole now is becomes =
      IsPermutation-trans (now ++ rest) ((part ++ more) ++ rest) (whole ++ more) (IsPermutation-append_left rest now (part ++ more) becomes)
      (IsPermutation-trans ((part ++ more) ++ rest) ((part ++ rest) ++ more) (whole ++ more) (turned_last part more rest)
      (IsPermutation-append_left more (part ++ rest) whole (IsPermutation-sym whole (part ++ rest) is)))

-- ---- what is found

module _ {X : Type 0} (p : X → Bool) where
  pub found_passes : (xs : List X) (x : X) → find p xs ≡ Some x → p x ≡ true
  found_passes [] x e = absurd cc
  found_passes (y ∷ xs) x e = by_test (p y) refl e (found_passes xs x)
    where
      by_test : (b : Bool) → p y ≡ b → cond b (Some y) (find p xs) ≡ Some x → (find p xs ≡ Some x → p x ≡ true) → p x ≡ true
      by_test true t f later = let same : y ≡ x = cc in ap p (sym same) ∙ t
      by_test false t f later = later f

  pub found_has : (P : X → Type 0) (xs : List X) (x : X) → AllByRecursion P xs → find p xs ≡ Some x → P x
  found_has P [] x all e = absurd cc
  found_has P (y ∷ xs) x all e = by_test (p y) e (found_has P xs x all.1)
    where
      by_test : (b : Bool) → cond b (Some y) (find p xs) ≡ Some x → (find p xs ≡ Some x → P x) → P x
      by_test true f later = let same : y ≡ x = cc in subst P same all.0
      by_test false f later = later f

  pub none_passes : (xs : List X) → find p xs ≡ None → AllByRecursion (λ x. p x ≡ false) xs
  none_passes [] e = tt
  none_passes (y ∷ xs) e = by_test (p y) refl e (none_passes xs)
    where
      by_test : (b : Bool) → p y ≡ b → cond b (Some y) (find p xs) ≡ None → (find p xs ≡ None → AllByRecursion (λ x. p x ≡ false) xs) → AllByRecursion (λ x. p x ≡ false) (y ∷ xs)
      by_test true t f later = absurd cc
      by_test false t f later = (t, later f)

  -- a filter has nothing that fails
  pub all_pass : (xs : List X) → AllByRecursion (λ x. p x ≡ true) (filter p xs)
  all_pass [] = tt
  all_pass (y ∷ xs) = by_test (p y) refl (all_pass xs)
    where
      by_test : (b : Bool) → p y ≡ b → AllByRecursion (λ x. p x ≡ true) (filter p xs) → AllByRecursion (λ x. p x ≡ true) (cond b (y ∷ filter p xs) (filter p xs))
      by_test true t later = (t, later)
      by_test false t later = later
