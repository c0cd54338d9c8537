-- Rows that are gathered name by name.
use Rattle.std.proofs.Common.{◌≡◌, ◌≢◌, ◌==◌, ◌⊎◌, inl, inr, ℕ, zero, suc, ◌+◌, ◌<◌, Bool, true, false, ◌&&◌, ◌||◌, cond, List, [], ◌∷◌, ◌++◌, length, filter, IsPermutation, refl, sym, ap, ◌∙◌, bytes_eq, map, take, get_or, subst, arith}
use Rattle.std.specs.List.{AllByRecursion, Contains, list_any}
use Rattle.std.proofs.Math.Dec.{eqb-suc-zero}
use Rattle.std.proofs.lemmas.List.{map-append, take_more}
use Rattle.std.proofs.lemmas.List.Folds.{list_any-append}
use Rattle.std.proofs.lemmas.List.Elements.{Contains-append_left, Contains-append_right}
use Rattle.std.proofs.lemmas.List.Sorted.{Contains-permutation, IsPermutation-sym}
use Rattle.dns_names.specs.Keys.{key_of}
use Rattle.store_sql.specs.Rows.{RecordRowOf}
use Rattle.store_sql.specs.Lookups.{records_at}
use Rattle.store_rows.specs.PartRows.{rows_at, AreRowsAt}
use Rattle.store_rows.proofs.ListLemmas.{none_moved}

-- ---- what is contained

later : {X : Type 0} (y : X) (ys : List X) (x : X) → Contains ys x → Contains (y ∷ ys) x
later y ys x c = (suc c.0, omega (arith, c.1), c.2)

of_step : {X : Type 0} (p : X → Bool) (y : X) (ys : List X) (x : X) (b : Bool) → p y ≡ b → (Contains (filter p ys) x → Contains ys x × (p x ≡ true))
    → Contains (cond b (y ∷ filter p ys) (filter p ys)) x → Contains (y ∷ ys) x × (p x ≡ true)
of_step p y ys x true e rest (zero, lt, is) = ((zero, omega arith, is), ap p (sym is) ∙ e)
of_step p y ys x true e rest (suc k, lt, is) = let r = rest (k, omega (arith, lt), is) in (later y ys x r.0, r.1)
of_step p y ys x false e rest c = let r = rest c in (later y ys x r.0, r.1)

-- what is left by a test is there and passes it
of_filter : {X : Type 0} (p : X → Bool) (xs : List X) (x : X) → Contains (filter p xs) x → Contains xs x × (p x ≡ true)
of_filter p [] x c = absurd (omega (arith, c.1))
of_filter p (y ∷ ys) x c = of_step p y ys x (p y) refl (of_filter p ys x) c

in_step : {X : Type 0} (p : X → Bool) (y : X) (ys : List X) (x : X) (b : Bool) → p y ≡ b → p x ≡ true → (Contains ys x → Contains (filter p ys) x)
    → Contains (y ∷ ys) x → Contains (cond b (y ∷ filter p ys) (filter p ys)) x
in_step p y ys x true e passes rest (zero, lt, is) = (zero, omega arith, is)
in_step p y ys x true e passes rest (suc k, lt, is) = later y (filter p ys) x (rest (k, omega (arith, lt), is))
in_step p y ys x false e passes rest (zero, lt, is) = absurd (let both : true ≡ false = sym passes ∙ ap p (sym is) ∙ e in cc)
in_step p y ys x false e passes rest (suc k, lt, is) = rest (k, omega (arith, lt), is)

-- and what is there and passes it is left
in_filter : {X : Type 0} (p : X → Bool) (xs : List X) (x : X) → p x ≡ true → Contains xs x → Contains (filter p xs) x
in_filter p [] x passes c = absurd (omega (arith, c.1))
in_filter p (y ∷ ys) x passes c = in_step p y ys x (p y) refl passes (in_filter p ys x passes) c

-- ---- what is so of all

all_contained : {X : Type 0} (P : X → Type 0) (xs : List X) → ((x : X) → Contains xs x → P x) → AllByRecursion P xs
all_contained P [] each = tt
all_contained P (x ∷ xs) each = (each x (zero, omega arith, refl), all_contained P xs (λ y c. each y (later x xs y c)))

contained : {X : Type 0} (P : X → Type 0) (xs : List X) (x : X) → AllByRecursion P xs → Contains xs x → P x
contained P [] x all c = absurd (omega (arith, c.1))
contained P (y ∷ ys) x all (zero, lt, is) = subst P is all.0
contained P (y ∷ ys) x all (suc k, lt, is) = contained P ys x all.1 (k, omega (arith, lt), is)

all_append : {X : Type 0} (P : X → Type 0) (xs ys : List X) → AllByRecursion P xs → AllByRecursion P ys → AllByRecursion P (xs ++ ys)
all_append P [] ys all more = more
all_append P (x ∷ xs) ys all more = (all.0, all_append P xs ys all.1 more)

-- ---- a test of the origin and of keys, with one key more

with_more : (o any one : Bool) → (o && (any || (one || false))) ≡ true → ((o && any) ≡ true) ⊎ ((o && one) ≡ true)
with_more true true one e = inl refl
with_more true false true e = inr refl
with_more true false false e = absurd cc
with_more false any one e = absurd cc

of_others : (o any one : Bool) → (o && any) ≡ true → (o && (any || (one || false))) ≡ true
of_others true true one e = refl
of_others true false one e = absurd cc
of_others false any one e = absurd cc

of_last : (o any one : Bool) → (o && one) ≡ true → (o && (any || (one || false))) ≡ true
of_last true true true e = refl
of_last true false true e = refl
of_last true any false e = absurd cc
of_last false any one e = absurd cc

-- ---- rows at one key more

-- the rows at some keys, and at one more
pub rows_more : (origin k : List ℕ) (keys : List (List ℕ)) (all rows more : List RecordRowOf) → AreRowsAt origin keys all rows → IsPermutation (records_at origin k all) more
    → AreRowsAt origin (keys ++ k ∷ []) all (rows ++ more)
rows_more origin k keys all rows more at same =
    let by_keys : RecordRowOf → Bool = λ r. bytes_eq r.origin origin && list_any (bytes_eq r.owner_key) keys in
    let by_key : RecordRowOf → Bool = λ r. bytes_eq r.origin origin && bytes_eq r.owner_key k in
    let by_more : RecordRowOf → Bool = λ r. bytes_eq r.origin origin && list_any (bytes_eq r.owner_key) (keys ++ k ∷ []) in
    let splits : (r : RecordRowOf) → by_more r ≡ (bytes_eq r.origin origin && (list_any (bytes_eq r.owner_key) keys || (bytes_eq r.owner_key k || false))) =
    λ r. ap (λ b. bytes_eq r.origin origin && b) (list_any-append (bytes_eq r.owner_key) keys (k ∷ [])) in
    record {
      inside = all_append (λ r. Contains (filter by_more all) r) rows more
          (all_contained _ rows (λ r c. let f = of_filter by_keys all r (contained _ rows r at.inside c) in in_filter by_more all r (splits r ∙ of_others _ _ _ f.1) f.0))
          (all_contained _ more (λ r c. let f = of_filter by_key all r (Contains-permutation more (filter by_key all) r (IsPermutation-sym (filter by_key all) more same) c) in in_filter by_more all r (splits r ∙ of_last _ _ _ f.1) f.0));
      whole = all_contained (λ r. Contains (rows ++ more) r) (filter by_more all) (λ r c.
          let f = of_filter by_more all r c in
          elim (with_more (bytes_eq r.origin origin) (list_any (bytes_eq r.owner_key) keys) (bytes_eq r.owner_key k) (sym (splits r) ∙ f.1)) [
            | inl e ↦ Contains-append_left rows more r (contained _ (filter by_keys all) r at.whole (in_filter by_keys all r e f.0))
            | inr e ↦ Contains-append_right rows more r (Contains-permutation (filter by_key all) more r same (in_filter by_key all r e f.0))
          ]);
    }

-- no key has one
rows_none : (origin : List ℕ) (all : List RecordRowOf) → AreRowsAt origin [] all []
rows_none origin all = record {
  inside = tt;
  whole = all_contained _ (rows_at origin [] all) (λ r c. absurd (never (bytes_eq r.origin origin) (of_filter (λ q. bytes_eq q.origin origin && false) all r c).1));
}
  where
    never : (o : Bool) → (o && false) ≡ true → ⊥
    never true e = cc
    never false e = cc

-- the rows at one key
pub rows_first : (origin k : List ℕ) (all rows : List RecordRowOf) → IsPermutation (records_at origin k all) rows → AreRowsAt origin (k ∷ []) all rows
rows_first origin k all rows same = rows_more origin k [] all [] rows (rows_none origin all) same

-- whether there are no rows, by the same rows in another order
pub none_stand : (there rows : List RecordRowOf) → IsPermutation there rows → (length rows == 0) ≡ true → there ≡ []
none_stand there [] same empty = none_moved there (IsPermutation-sym there [] same)
none_stand there (r ∷ rows) same empty = absurd (let bad : true ≡ false = sym empty ∙ eqb-suc-zero (length rows) in cc)

pub some_stand : (there rows : List RecordRowOf) → IsPermutation there rows → (length rows == 0) ≡ false → there ≢ []
some_stand there [] same some none = cc
some_stand [] (r ∷ rows) same some none = let e = none_moved (r ∷ rows) same in cc
some_stand (t ∷ there) (r ∷ rows) same some none = cc

-- the rows at a name and at the first of some others, and at the next
pub rows_next : (text : List ℕ) (origin name : List (List ℕ)) (names : List (List (List ℕ))) (i : ℕ) (all rows more now : List RecordRowOf) → i < length names → name ≡ get_or names i name
    → AreRowsAt text (map key_of (origin ∷ take i names)) all rows → IsPermutation (records_at text (key_of name) all) more → now ≡ rows ++ more → AreRowsAt text (map key_of (origin ∷ take (i + 1) names)) all now
rows_next text origin name names i all rows more now low is at same both =
    let next : take (i + 1) names ≡ take i names ++ name ∷ [] = take_more names i name low ∙ ap (λ n. take i names ++ n ∷ []) (sym is) in
    let keys : map key_of (origin ∷ take (i + 1) names) ≡ map key_of (origin ∷ take i names) ++ key_of name ∷ [] =
    ap (λ ns. map key_of (origin ∷ ns)) next ∙ map-append key_of (origin ∷ take i names) (name ∷ []) in
    subst (AreRowsAt text (map key_of (origin ∷ take (i + 1) names)) all) (sym both)
    (subst (λ ks. AreRowsAt text ks all (rows ++ more)) (sym keys) (rows_more text (key_of name) (map key_of (origin ∷ take i names)) all rows more at same))
