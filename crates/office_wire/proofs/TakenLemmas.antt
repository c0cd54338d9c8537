-- The rows of the routes that a router of them has, and the one that a path is taken by.
use Rattle.std.proofs.Common.{Decides, ◌≡◌, ◌⊎◌, inl, inr, ℕ, zero, suc, ◌+◌, ◌<◌, Bool, true, false, cond, not, ◌&&◌, ◌||◌, List, [], ◌∷◌, length, Option, Some, None, Result, Ok, Err, refl, sym, ap, subst, ◌∙◌, arith, ◌==◌, ltb}
use Rattle.std.specs.Prelude.{MatchBool, bytes_eq, option_and_then}
use Rattle.std.specs.List.{AllZip, Contains, list_all, list_any}
use Rattle.std.specs.Cmp.Lexicographic.{bytes_decides}
use Rattle.std.proofs.lemmas.Bool.Decides.{nat_tests, Decides-eqb}
use Rattle.std.proofs.lemmas.List.Elements.{All-contains}
use Rattle.std.proofs.lemmas.List.Sums.{AllPass-from_list_all}
use Rattle.grant_policy.proofs.RuleLemmas.{list_any-Decides}
use Rattle.matchit.specs.Rows.{RowsOf, comes_before}
use Rattle.matchit.specs.Order.{placed}
use Rattle.matchit.specs.Route.{Scan, parse_route}
use Rattle.matchit.specs.Router.{RouteOf, route_from}
use Rattle.matchit.specs.Seek.{first}
use Rattle.matchit.specs.declared.error.InsertError.{InsertError}
use Rattle.matchit.proofs.OnLiterals.{matchit_on_literals}
use Rattle.office_wire.specs.declared.method.Method.{Method}
use Rattle.office_wire.specs.declared.method.Method.TheVariants.{Get, Post, Head, Other}
use Rattle.office_wire.specs.declared.route.Route.{Route}
use Rattle.office_wire.specs.Routes.{RouteRow, routes, Table, is_method, with_scan, with_rows, router_by, router_of, row_at, row_in, row_by}
use Rattle.office_wire.specs.Paths.{segments, is_name, MeetsSegment, IsPath, HasNoQuery, RoutesAreTheirPaths, TargetsHaveOneRow}
use Rattle.office_wire.proofs.WalkLemmas.{EndsPart, IsGood, Meets, Has, AreGood, good_of, sound, complete}
use Rattle.office_wire.proofs.PatternLemmas.{tokens, are_plain, both, tokens_met}

-- ---- lists

contains_cases : {A : Type 0} (x : A) (xs : List A) (y : A) → Contains (x ∷ xs) y → (x ≡ y) ⊎ Contains xs y
contains_cases x xs y (zero, less, e) = inl e
contains_cases x xs y (suc k, less, e) = inr (k, omega arith, e)

contains_first : {A : Type 0} (x : A) (xs : List A) → Contains (x ∷ xs) x
contains_first x xs = (0, omega arith, refl)

contains_next : {A : Type 0} (x : A) (xs : List A) (y : A) → Contains xs y → Contains (x ∷ xs) y
contains_next x xs y h = (suc h.0, omega (arith, h.1), h.2)

contains_none : {A : Type 0} (y : A) → Contains [] y → ⊥
contains_none y h = omega (arith, h.1)

pub all_at : {A : Type 0} (test : A → Bool) (xs : List A) (x : A) → list_all test xs ≡ true → Contains xs x → test x ≡ true
all_at test xs x e h = All-contains (λ y. test y ≡ true) xs x (AllPass-from_list_all test xs e) h

-- a text has a question mark
asks : (text : List ℕ) → Decides (list_any (λ o. o == 63) text) (Contains text 63)
asks text = list_any-Decides (λ a b. a == b) Decides-eqb 63 text

same_method : (a b : Method) → is_method a b ≡ true → a ≡ b
same_method Post Post e = refl
same_method Get Get e = refl
same_method Head Head e = refl
same_method Other Other e = refl
same_method a b e = absurd cc

is_itself : (a : Method) → is_method a a ≡ true
is_itself Post = refl
is_itself Get = refl
is_itself Head = refl
is_itself Other = refl

-- ---- what each row passes

abbrev ends_part : List ℕ → Bool
ends_part [] = true
ends_part (x ∷ t) = x == 47

abbrev is_good : List ℕ → Bool
is_good [] = true
is_good (x ∷ t) = (ltb x 257 && (not (x == 256) || ends_part t)) && is_good t

abbrev is_read : List ℕ → Result Scan InsertError → Bool
is_read t (Ok scan) = bytes_eq scan.pattern t
is_read t (Err e) = false

abbrev is_asked : Method → Bool
is_asked Post = true
is_asked Get = true
is_asked Head = false
is_asked Other = false

-- the router reads the tokens of a row as those of its segments, and there are requests by its method
abbrev fits : RouteRow → Bool
fits row = (is_read (tokens (segments row.path)) (parse_route row.path) && is_good (tokens (segments row.path))) && (are_plain (segments row.path) && is_asked row.method)

-- two rows of one method differ in the number of segments, or in one that is not a name
abbrev segments_differ : List ℕ → List ℕ → Bool
segments_differ s t = not (is_name s || is_name t) && not (bytes_eq s t)

abbrev are_apart : List (List ℕ) → List (List ℕ) → Bool
are_apart [] [] = false
are_apart [] (t ∷ ts) = true
are_apart (s ∷ ss) [] = true
are_apart (s ∷ ss) (t ∷ ts) = segments_differ s t || are_apart ss ts

abbrev rows_apart : RouteRow → RouteRow → Bool
rows_apart row other = not (is_method row.method other.method) || are_apart (segments row.path) (segments other.path)

abbrev all_apart : List RouteRow → Bool
all_apart [] = true
all_apart (row ∷ rows) = list_all (rows_apart row) rows && all_apart rows

routes_fit : list_all fits routes ≡ true
unfolding matchit_on_literals
routes_fit = refl

routes_apart : all_apart routes ≡ true
routes_apart = refl

ends_is : (t : List ℕ) → ends_part t ≡ true → EndsPart t
ends_is [] e = tt
ends_is (x ∷ t) e = grind (arith, nat_tests)

good_is : (t : List ℕ) → is_good t ≡ true → IsGood t
good_is [] e = tt
good_is (x ∷ t) e =
    let h = both (ltb x 257 && (not (x == 256) || ends_part t)) (is_good t) e in
    let k = both (ltb x 257) (not (x == 256) || ends_part t) h.0 in
    let less : x < 257 = grind (arith, nat_tests, k.0) in
    (less, (λ is. let f : (x == 256) ≡ true = grind (arith, nat_tests) in ends_is t (rw f at k.1)), good_is t h.1)

record IsFit (row : RouteRow) : Type 0 where
  read : is_read (tokens (segments row.path)) (parse_route row.path) ≡ true
  good : IsGood (tokens (segments row.path))
  plain : are_plain (segments row.path) ≡ true
  asked : is_asked row.method ≡ true

fit : (row : RouteRow) → fits row ≡ true → IsFit row
fit row e =
    let h = both (is_read (tokens (segments row.path)) (parse_route row.path) && is_good (tokens (segments row.path))) (are_plain (segments row.path) && is_asked row.method) e in
    let k = both (is_read (tokens (segments row.path)) (parse_route row.path)) (is_good (tokens (segments row.path))) h.0 in
    let l = both (are_plain (segments row.path)) (is_asked row.method) h.1 in
    record { read = k.0; good = good_is (tokens (segments row.path)) k.1; plain = l.0; asked = l.1 }

-- ---- a router's rows

module _ {K : Type 0} where
  placed_from : (r : List ℕ × K) (rows : RowsOf K) (t : List ℕ) (k : K) → Has t k (placed r rows) → ((r.0 ≡ t) × (r.1 ≡ k)) ⊎ Has t k rows
  placed_from r [] t k has = has
  placed_from r ((u, l) ∷ rows) t k has = by (comes_before r.0 u) has (placed_from r rows t k)
    where
      by : (b : Bool) → Has t k (cond b (r ∷ (u, l) ∷ rows) ((u, l) ∷ placed r rows)) → (Has t k (placed r rows) → ((r.0 ≡ t) × (r.1 ≡ k)) ⊎ Has t k rows)
          → ((r.0 ≡ t) × (r.1 ≡ k)) ⊎ Has t k ((u, l) ∷ rows)
      by true h rest = h
      by false (inl same) rest = inr (inl same)
      by false (inr h) rest = elim (rest h) [ inl same ↦ inl same | inr there ↦ inr (inr there) ]

  placed_row : (r : List ℕ × K) (rows : RowsOf K) → Has r.0 r.1 (placed r rows)
  placed_row r [] = inl (refl, refl)
  placed_row r ((u, l) ∷ rows) = by (comes_before r.0 u) (placed_row r rows)
    where
      by : (b : Bool) → Has r.0 r.1 (placed r rows) → Has r.0 r.1 (cond b (r ∷ (u, l) ∷ rows) ((u, l) ∷ placed r rows))
      by true rest = inl (refl, refl)
      by false rest = inr rest

  placed_kept : (r : List ℕ × K) (rows : RowsOf K) (t : List ℕ) (k : K) → Has t k rows → Has t k (placed r rows)
  placed_kept r [] t k has = absurd has
  placed_kept r ((u, l) ∷ rows) t k has = by (comes_before r.0 u) has (placed_kept r rows t k)
    where
      by : (b : Bool) → ((u ≡ t) × (l ≡ k)) ⊎ Has t k rows → (Has t k rows → Has t k (placed r rows)) → Has t k (cond b (r ∷ (u, l) ∷ rows) ((u, l) ∷ placed r rows))
      by true h rest = inr h
      by false (inl same) rest = inl same
      by false (inr h) rest = inr (rest h)

-- a row of the routes that a router has under its number
record IsRow (method : Method) (rows : List RouteRow) (n : ℕ) (t : List ℕ) (value : ℕ) : Type 0 where
  row : RouteRow
  there : Contains rows row
  of : row.method ≡ method
  pattern : t ≡ tokens (segments row.path)
  place : ℕ
  number : value ≡ n + place
  at : row_at rows place ≡ Some (row.route, row.path)

scan_from : (row : RouteRow) (n : ℕ) (table : Table) (t : List ℕ) (k : RouteOf ℕ) → IsFit row → Has t k (with_scan (parse_route row.path) n table)
    → ((t ≡ tokens (segments row.path)) × (k.value ≡ n)) ⊎ Has t k table
scan_from row n table t k fit has = by (parse_route row.path) fit.read has
  where
    by : (r : Result Scan InsertError) → is_read (tokens (segments row.path)) r ≡ true → Has t k (with_scan r n table) → ((t ≡ tokens (segments row.path)) × (k.value ≡ n)) ⊎ Has t k table
    by (Err e) read has = inr has
    by (Ok scan) read has =
        elim (placed_from (scan.pattern, route_from scan n) table t k has) [
          | inl same ↦ inl (sym same.0 ∙ (bytes_decides scan.pattern (tokens (segments row.path))).0 read, sym (ap (λ (r : RouteOf ℕ). r.value) same.1))
          | inr h ↦ inr h
        ]

scan_kept : (r : Result Scan InsertError) (n : ℕ) (table : Table) (t : List ℕ) (k : RouteOf ℕ) → Has t k table → Has t k (with_scan r n table)
scan_kept (Ok scan) n table t k has = placed_kept (scan.pattern, route_from scan n) table t k has
scan_kept (Err e) n table t k has = has

scan_row : (row : RouteRow) (n : ℕ) (table : Table) → IsFit row → (k : RouteOf ℕ) × Has (tokens (segments row.path)) k (with_scan (parse_route row.path) n table)
scan_row row n table fit = by (parse_route row.path) fit.read
  where
    by : (r : Result Scan InsertError) → is_read (tokens (segments row.path)) r ≡ true → (k : RouteOf ℕ) × Has (tokens (segments row.path)) k (with_scan r n table)
    by (Err e) read = absurd cc
    by (Ok scan) read =
        let is = (bytes_decides scan.pattern (tokens (segments row.path))).0 read in
        (route_from scan n, subst (λ (t : List ℕ). Has t (route_from scan n) (placed (scan.pattern, route_from scan n) table)) is (placed_row (scan.pattern, route_from scan n) table))

abbrev after : Method → ℕ → RouteRow → Table → Table
after method n row table = cond (is_method row.method method) (with_scan (parse_route row.path) n table) table

rows_from : (method : Method) (n : ℕ) (rows : List RouteRow) (table : Table) (t : List ℕ) (k : RouteOf ℕ) → list_all fits rows ≡ true → Has t k (with_rows method n rows table)
    → IsRow method rows n t k.value ⊎ Has t k table
rows_from method n [] table t k e has = inr has
rows_from method n (row ∷ rows) table t k e has =
    let h = both (fits row) (list_all fits rows) e in
    by (rows_from method (suc n) rows (after method n row table) t k h.1 has) (fit row h.0)
  where
    own : (b : Bool) → is_method row.method method ≡ b → IsFit row → Has t k (cond b (with_scan (parse_route row.path) n table) table) → IsRow method (row ∷ rows) n t k.value ⊎ Has t k table
    own true e fit has =
        elim (scan_from row n table t k fit has) [
          | inl same ↦ inl (record {
            row = row;
            there = contains_first row rows;
            of = same_method row.method method e;
            pattern = same.0;
            place = 0;
            number = omega (arith, same.1);
            at = refl;
          })
          | inr h ↦ inr h
        ]
    own false e fit has = inr has

    by : IsRow method rows (suc n) t k.value ⊎ Has t k (after method n row table) → IsFit row → IsRow method (row ∷ rows) n t k.value ⊎ Has t k table
    by (inl r) fit = inl (record {
      row = r.row;
      there = contains_next row rows r.row r.there;
      of = r.of;
      pattern = r.pattern;
      place = suc r.place;
      number = omega (arith, r.number);
      at = r.at;
    })
    by (inr h) fit = own (is_method row.method method) refl fit h

rows_kept : (method : Method) (n : ℕ) (rows : List RouteRow) (table : Table) (t : List ℕ) (k : RouteOf ℕ) → Has t k table → Has t k (with_rows method n rows table)
rows_kept method n [] table t k has = has
rows_kept method n (row ∷ rows) table t k has = rows_kept method (suc n) rows (after method n row table) t k (by (is_method row.method method))
  where
    by : (b : Bool) → Has t k (cond b (with_scan (parse_route row.path) n table) table)
    by true = scan_kept (parse_route row.path) n table t k has
    by false = has

rows_have : (method : Method) (n : ℕ) (rows : List RouteRow) (table : Table) (row : RouteRow) → list_all fits rows ≡ true → Contains rows row → row.method ≡ method
    → (k : RouteOf ℕ) × Has (tokens (segments row.path)) k (with_rows method n rows table)
rows_have method n [] table row e there of = absurd (contains_none row there)
rows_have method n (head ∷ rows) table row e there of =
    let h = both (fits head) (list_all fits rows) e in
    by (contains_cases head rows row there) (fit head h.0) (λ h2. rows_have method (suc n) rows (after method n head table) row h.1 h2 of)
  where
    own : head ≡ row → IsFit head → (k : RouteOf ℕ) × Has (tokens (segments row.path)) k (after method n head table)
    own same fit =
        let e : is_method head.method method ≡ true = ap (λ (r : RouteRow). is_method r.method method) same ∙ ap (λ (m : Method). is_method m method) of ∙ is_itself method in
        subst (λ (r : RouteRow). (k : RouteOf ℕ) × Has (tokens (segments r.path)) k (after method n head table)) same (rw e (scan_row head n table fit))

    by : (head ≡ row) ⊎ Contains rows row → IsFit head → (Contains rows row → (k : RouteOf ℕ) × Has (tokens (segments row.path)) k (with_rows method (suc n) rows (after method n head table)))
        → (k : RouteOf ℕ) × Has (tokens (segments row.path)) k (with_rows method (suc n) rows (after method n head table))
    by (inl same) fit rest = let has = own same fit in (has.0, rows_kept method (suc n) rows (after method n head table) (tokens (segments row.path)) has.0 has.1)
    by (inr there) fit rest = rest there

-- ---- one row

apart_to : (ss ts path : List (List ℕ)) → are_apart ss ts ≡ true → AllZip MeetsSegment ss path → AllZip MeetsSegment ts path → ⊥
apart_to [] [] path e m o = absurd cc
apart_to [] (t ∷ ts) [] e m o = o
apart_to [] (t ∷ ts) (p ∷ path) e m o = m
apart_to (s ∷ ss) [] [] e m o = m
apart_to (s ∷ ss) [] (p ∷ path) e m o = o
apart_to (s ∷ ss) (t ∷ ts) [] e m o = m
apart_to (s ∷ ss) (t ∷ ts) (p ∷ path) e m o = by (is_name s) (is_name t) (bytes_eq s t) refl e m.0 o.0 (λ f. apart_to ss ts path f m.1 o.1)
  where
    by : (a b c : Bool) → bytes_eq s t ≡ c → ((not (a || b) && not c) || are_apart ss ts) ≡ true
        → MatchBool a (0 < length p) (p ≡ s) → MatchBool b (0 < length p) (p ≡ t) → (are_apart ss ts ≡ true → ⊥) → ⊥
    by true b c f e m o rest = rest e
    by false true c f e m o rest = rest e
    by false false true f e m o rest = rest e
    by false false false f e m o rest =
        let g : bytes_eq s t ≡ true = (bytes_decides s t).1 (sym m ∙ o) in
        absurd cc

rows_differ : (a b : RouteRow) (path : List ℕ) → rows_apart a b ≡ true → a.method ≡ b.method → IsPath a.path path → IsPath b.path path → ⊥
rows_differ a b path e same m o =
    let f : is_method a.method b.method ≡ true = ap (is_method a.method) (sym same) ∙ is_itself a.method in
    apart_to (segments a.path) (segments b.path) (segments path) (rw f at e) m o

one_of : (rows : List RouteRow) (a b : RouteRow) (path : List ℕ) → all_apart rows ≡ true → Contains rows a → Contains rows b → a.method ≡ b.method → IsPath a.path path → IsPath b.path path → a ≡ b
one_of [] a b path e x y same m o = absurd (contains_none a x)
one_of (row ∷ rows) a b path e x y same m o =
    let h = both (list_all (rows_apart row) rows) (all_apart rows) e in
    by (contains_cases row rows a x) (contains_cases row rows b y) h.0 (λ x2 y2. one_of rows a b path h.1 x2 y2 same m o)
  where
    by : (row ≡ a) ⊎ Contains rows a → (row ≡ b) ⊎ Contains rows b → list_all (rows_apart row) rows ≡ true → (Contains rows a → Contains rows b → a ≡ b) → a ≡ b
    by (inl p) (inl q) f rest = sym p ∙ q
    by (inl p) (inr q) f rest = absurd (rows_differ a b path (ap (λ (r : RouteRow). rows_apart r b) (sym p) ∙ all_at (rows_apart row) rows b f q) same m o)
    by (inr p) (inl q) f rest = absurd (rows_differ b a path (ap (λ (r : RouteRow). rows_apart r a) (sym q) ∙ all_at (rows_apart row) rows a f p) (sym same) o m)
    by (inr p) (inr q) f rest = rest p q

pub one_row : TargetsHaveOneRow
one_row target a b x y same m o = one_of routes a b target routes_apart x y same m o

-- ---- the row of a path

record IsTaken (method : Method) (path : List ℕ) (found : Route × List ℕ) : Type 0 where
  row : RouteRow
  there : Contains routes row
  of : row.method ≡ method
  met : IsPath row.path path
  is : (row.route, row.path) ≡ found

is_row : (method : Method) (t : List ℕ) (k : RouteOf ℕ) → Has t k (router_by method routes) → IsRow method routes 0 t k.value
is_row method t k has = elim (rows_from method 0 routes [] t k routes_fit has) [ inl r ↦ r | inr none ↦ absurd none ]

fit_at : (row : RouteRow) → Contains routes row → IsFit row
fit_at row there = fit row (all_at fits routes row routes_fit there)

router_good : (method : Method) → AreGood (router_by method routes)
router_good method = good_of (router_by method routes) (λ t k has. let r = is_row method t k has in subst IsGood (sym r.pattern) (fit_at r.row r.there).good)

some_is : (x y : Route × List ℕ) → (let o : Option (Route × List ℕ) = Some x in o ≡ Some y) → x ≡ y
some_is x y e = cc

row_of_key : (method : Method) (path : List ℕ) (k : RouteOf ℕ) → first (router_by method routes) path ≡ Some k → (found : Route × List ℕ) × (row_at routes k.value ≡ Some found) × IsTaken method path found
row_of_key method path k e =
    let met = sound 0 (router_by method routes) path k (router_good method) e in
    let r = is_row method met.0 k met.1 in
    let is : k.value ≡ r.place = omega (arith, r.number) in (
      (r.row.route, r.row.path),
      ap (row_at routes) is ∙ r.at,
      record {
        row = r.row;
        there = r.there;
        of = r.of;
        met = (tokens_met r.row.path path (fit_at r.row r.there).plain).0 (subst (λ (t : List ℕ). Meets t path) r.pattern met.2);
        is = refl;
      },
    )

taken_from : (method : Method) (path : List ℕ) (found : Route × List ℕ) → row_in (router_by method routes) path ≡ Some found → IsTaken method path found
taken_from method path found e = by (first (router_by method routes) path) refl e
  where
    by : (x : Option (RouteOf ℕ)) → first (router_by method routes) path ≡ x → option_and_then (λ r. row_at routes r.value) x ≡ Some found → IsTaken method path found
    by None f e = absurd cc
    by (Some k) f e =
        let r = row_of_key method path k f in
        subst (λ (x : Route × List ℕ). IsTaken method path x) (some_is r.0 found (sym r.1 ∙ e)) r.2

taken_to : (method : Method) (path : List ℕ) (row : RouteRow) → Contains routes row → row.method ≡ method → IsPath row.path path → row_in (router_by method routes) path ≡ Some (row.route, row.path)
taken_to method path row there of is =
    let has = rows_have method 0 routes [] row routes_fit there of in
    let met = (tokens_met row.path path (fit_at row there).plain).1 is in
    let answer = complete 0 (router_by method routes) path (tokens (segments row.path)) has.0 (router_good method) has.1 met in
    let r = row_of_key method path answer.0 answer.1 in
    let same : r.2.row ≡ row = one_row path r.2.row row r.2.there there (r.2.of ∙ sym of) r.2.met is in
    ap (λ (x : Option (RouteOf ℕ)). option_and_then (λ k. row_at routes k.value) x) answer.1 ∙ r.1 ∙ ap (λ (x : Route × List ℕ). let o : Option (Route × List ℕ) = Some x in o) (sym r.2.is)
    ∙ ap (λ (x : RouteRow). let o : Option (Route × List ℕ) = Some (x.route, x.path) in o) same

abbrev row_of : Method → Route → List ℕ → RouteRow
row_of method route path = record { method = method; path = path; route = route }

asked_from : (method : Method) (target : List ℕ) (route : Route) (path : List ℕ) → row_in (router_by method routes) target ≡ Some (route, path) → Contains routes (row_of method route path) × IsPath path target
asked_from method target route path e =
    let r = taken_from method target (route, path) e in
    let of : r.row.path ≡ path = ap (λ (x : Route × List ℕ). x.1) r.is in
    let same : r.row ≡ row_of method route path = λ i. record { method = r.of i; path = of i; route = (r.is i).0 } in
    (subst (λ (x : RouteRow). Contains routes x) same r.there, subst (λ (p : List ℕ). IsPath p target) of r.met)

by_from : (method : Method) (target : List ℕ) (route : Route) (path : List ℕ) → row_by method target ≡ Some (route, path) → Contains routes (row_of method route path) × IsPath path target
unfolding router_of
by_from Post target route path e = asked_from Post target route path e
by_from Get target route path e = asked_from Get target route path e
by_from Head target route path e = absurd cc
by_from Other target route path e = absurd cc

by_to : (method : Method) (target : List ℕ) (route : Route) (path : List ℕ) → Contains routes (row_of method route path) → IsPath path target → row_by method target ≡ Some (route, path)
unfolding router_of
by_to Post target route path there is = taken_to Post target (row_of Post route path) there refl is
by_to Get target route path there is = taken_to Get target (row_of Get route path) there refl is
by_to Head target route path there is = absurd (let e : false ≡ true = (fit_at (row_of Head route path) there).asked in cc)
by_to Other target route path there is = absurd (let e : false ≡ true = (fit_at (row_of Other route path) there).asked in cc)

abbrev unless : Bool → Option (Route × List ℕ) → Option (Route × List ℕ)
unless b found = cond b None found

pub their_paths : RoutesAreTheirPaths
their_paths method target route path = (by_any (list_any (λ o. o == 63) target) refl, λ h. back (list_any (λ o. o == 63) target) refl h.0 h.1 h.2)
  where
    by_any : (b : Bool) → list_any (λ o. o == 63) target ≡ b → unless b (row_by method target) ≡ Some (route, path) → Contains routes (row_of method route path) × HasNoQuery target × IsPath path target
    by_any true f e = absurd cc
    by_any false f e =
        let h = by_from method target route path e in
        (h.0, (λ has. absurd (let g = (asks target).1 has in cc)), h.1)

    back : (b : Bool) → list_any (λ o. o == 63) target ≡ b → Contains routes (row_of method route path) → HasNoQuery target → IsPath path target → unless b (row_by method target) ≡ Some (route, path)
    back true f there none is = absurd (none ((asks target).0 f))
    back false f there none is = by_to method target route path there is
