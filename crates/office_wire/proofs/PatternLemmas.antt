-- The tokens of a pattern's segments, and the paths that meet them.
use Rattle.std.proofs.Common.{◌≡◌, ◌↔◌, ℕ, ◌<◌, Bool, true, false, cond, not, ◌&&◌, ◌||◌, List, [], ◌∷◌, ◌++◌, length, refl, sym, ap, subst, ◌∙◌, arith, ◌==◌, ltb}
use Rattle.std.specs.Prelude.{MatchBool}
use Rattle.std.specs.List.{AllZip}
use Rattle.std.proofs.lemmas.Bool.Decides.{nat_tests}
use Rattle.office_wire.specs.Parts.{before_slash}
use Rattle.office_wire.specs.Paths.{widen, segments, is_name, MeetsSegment, IsPath}
use Rattle.office_wire.proofs.SlashLemmas.{nil, from_slash}
use Rattle.office_wire.proofs.WalkLemmas.{Meets, BeginsWith}

-- the tokens of a segment, those of segments after others, and those of a path
abbrev pub token_of : List ℕ → List ℕ
token_of s = cond (is_name s) (256 ∷ []) s

abbrev pub more : List (List ℕ) → List ℕ
more [] = []
more (s ∷ ss) = 47 ∷ (token_of s ++ more ss)

abbrev pub tokens : List (List ℕ) → List ℕ
tokens [] = []
tokens (s ∷ ss) = token_of s ++ more ss

-- a segment that is not a name is octets, and none of them a slash
abbrev pub is_plain : List ℕ → Bool
is_plain [] = true
is_plain (x ∷ s) = (ltb x 256 && not (x == 47)) && is_plain s

abbrev pub are_plain : List (List ℕ) → Bool
are_plain [] = true
are_plain (s ∷ ss) = (is_name s || is_plain s) && are_plain ss

-- the segments from a slash on
abbrev pub behind : List ℕ → List (List ℕ)
behind [] = []
behind (x ∷ path) = segments path

pub segments_cut : (path : List ℕ) → segments path ≡ before_slash path ∷ behind (from_slash path)
segments_cut [] = refl
segments_cut (o ∷ path) = by (o == 47) (segments_cut path)
  where
    by : (b : Bool) → segments path ≡ before_slash path ∷ behind (from_slash path)
        → cond b (nil ∷ segments path) (widen o (segments path)) ≡ (cond b nil (o ∷ before_slash path)) ∷ behind (cond b (o ∷ path) (from_slash path))
    by true e = refl
    by false e = ap (widen o) e

-- a text that is empty or begins with a slash
abbrev Opens : List ℕ → Type 0
Opens [] = Unit {0}
Opens (x ∷ path) = x ≡ 47

opens_from : (path : List ℕ) → Opens (from_slash path)
opens_from [] = tt
opens_from (o ∷ path) = by (o == 47) refl (opens_from path)
  where
    by : (b : Bool) → (o == 47) ≡ b → Opens (from_slash path) → Opens (cond b (o ∷ path) (from_slash path))
    by true e rest = grind (arith, nat_tests)
    by false e rest = rest

opened : (path : List ℕ) → Opens path → (before_slash path ≡ []) × (from_slash path ≡ path)
opened [] o = (refl, refl)
opened (x ∷ path) o = let e : (x == 47) ≡ true = grind (arith, nat_tests) in rw e (refl, refl)

unopened : (path : List ℕ) → before_slash path ≡ [] → from_slash path ≡ path
unopened [] e = refl
unopened (x ∷ path) e = by (x == 47) e
  where
    by : (b : Bool) → cond b nil (x ∷ before_slash path) ≡ nil → cond b (x ∷ path) (from_slash path) ≡ x ∷ path
    by true e = refl
    by false e = absurd cc

more_opens : (ss : List (List ℕ)) (path : List ℕ) → Meets (more ss) path → Opens path
more_opens [] path m = subst Opens (sym m) tt
more_opens (s ∷ ss) [] m = absurd m
more_opens (s ∷ ss) (x ∷ path) m = m.0

-- ---- one segment

abbrev Cut : List ℕ → List (List ℕ) → List ℕ → Type 0
Cut s ss path = (before_slash path ≡ s) × Meets (more ss) (from_slash path)

octet_to : (x c : ℕ) (s : List ℕ) (ss : List (List ℕ)) (path : List ℕ) → (x == 47) ≡ false → (c ≡ x) × Cut s ss path → Cut (x ∷ s) ss (c ∷ path)
octet_to x c s ss path e m =
    let is : c ≡ x = m.0 in
    let f : (c == 47) ≡ false = ap (λ (y : ℕ). y == 47) is ∙ e in
    rw f (ap (λ (l : List ℕ). c ∷ l) m.1.0 ∙ ap (λ (y : ℕ). y ∷ s) is, m.1.1)

octet_from : (x c : ℕ) (s : List ℕ) (ss : List (List ℕ)) (path : List ℕ) → Cut (x ∷ s) ss (c ∷ path) → (c ≡ x) × Cut s ss path
octet_from x c s ss path m = by (c == 47) m
  where
    by : (b : Bool) → (cond b nil (c ∷ before_slash path) ≡ x ∷ s) × Meets (more ss) (cond b (c ∷ path) (from_slash path)) → (c ≡ x) × Cut s ss path
    by true m = absurd (let e : nil ≡ x ∷ s = m.0 in cc)
    by false m =
        let e : c ∷ before_slash path ≡ x ∷ s = m.0 in
        let head : c ≡ x = cc in
        let rest : before_slash path ≡ s = cc in
        (head, (rest, m.1))

-- a literal octet of a pattern
begins : (x : ℕ) (t path : List ℕ) → (x == 256) ≡ false → Meets (x ∷ t) path ↔ BeginsWith x (Meets t) path
begins x t path e = rw e ((λ m. m), (λ m. m))

plain_head : (x : ℕ) (s : List ℕ) → is_plain (x ∷ s) ≡ true → ((x == 256) ≡ false) × ((x == 47) ≡ false) × (is_plain s ≡ true)
plain_head x s p = (grind (arith, nat_tests), grind (arith, nat_tests), grind (arith, nat_tests))

plain_to : (s : List ℕ) (ss : List (List ℕ)) (path : List ℕ) → is_plain s ≡ true → Meets (s ++ more ss) path → Cut s ss path
plain_to [] ss path p m =
    let cut = opened path (more_opens ss path m) in
    (cut.0, subst (Meets (more ss)) (sym cut.1) m)
plain_to (x ∷ s) ss path p m =
    let head = plain_head x s p in
    by path head.1 ((begins x (s ++ more ss) path head.0).0 m) (λ r w. plain_to s ss r head.2 w)
  where
    by : (q : List ℕ) → (x == 47) ≡ false → BeginsWith x (Meets (s ++ more ss)) q → ((r : List ℕ) → Meets (s ++ more ss) r → Cut s ss r) → Cut (x ∷ s) ss q
    by [] e m go = absurd m
    by (c ∷ q) e m go = octet_to x c s ss q e (m.0, go q m.1)

plain_from : (s : List ℕ) (ss : List (List ℕ)) (path : List ℕ) → is_plain s ≡ true → Cut s ss path → Meets (s ++ more ss) path
plain_from [] ss path p m = subst (Meets (more ss)) (unopened path m.0) m.1
plain_from (x ∷ s) ss [] p m = absurd (let e : nil ≡ x ∷ s = m.0 in cc)
plain_from (x ∷ s) ss (c ∷ path) p m =
    let head = plain_head x s p in
    let was = octet_from x c s ss path m in
    (begins x (s ++ more ss) (c ∷ path) head.0).1 (was.0, plain_from s ss path head.2 was.1)

-- a path that begins with a segment of a pattern, and goes on so
abbrev Begun : List ℕ → List (List ℕ) → List ℕ → Type 0
Begun s ss path = MeetsSegment s (before_slash path) × Meets (more ss) (from_slash path)

segment_met : (s : List ℕ) (ss : List (List ℕ)) (path : List ℕ) → (is_name s || is_plain s) ≡ true → Meets (token_of s ++ more ss) path ↔ Begun s ss path
segment_met s ss path p = by (is_name s) refl p
  where
    by : (b : Bool) → is_name s ≡ b → (b || is_plain s) ≡ true
        → Meets (cond b (256 ∷ []) s ++ more ss) path ↔ (MatchBool b (0 < length (before_slash path)) (before_slash path ≡ s) × Meets (more ss) (from_slash path))
    by true e p = ((λ m. m), (λ m. m))
    by false e p = (plain_to s ss path p, plain_from s ss path p)

-- ---- all of them

pub both : (a b : Bool) → (a && b) ≡ true → (a ≡ true) × (b ≡ true)
both true b e = (refl, e)
both false b e = absurd cc

rest_to : (ss : List (List ℕ)) (path : List ℕ) → are_plain ss ≡ true → Meets (more ss) path → AllZip MeetsSegment ss (behind path)
rest_to [] path p m = subst (λ (l : List ℕ). AllZip MeetsSegment [] (behind l)) (sym m) tt
rest_to (s ∷ ss) [] p m = absurd m
rest_to (s ∷ ss) (x ∷ path) p m =
    let plain = both (is_name s || is_plain s) (are_plain ss) p in
    let begun = (segment_met s ss path plain.0).0 m.1 in
    subst (λ (l : List (List ℕ)). AllZip MeetsSegment (s ∷ ss) l) (sym (segments_cut path)) (begun.0, rest_to ss (from_slash path) plain.1 begun.1)

rest_from : (ss : List (List ℕ)) (path : List ℕ) → are_plain ss ≡ true → Opens path → AllZip MeetsSegment ss (behind path) → Meets (more ss) path
rest_from [] [] p o m = refl
rest_from [] (x ∷ path) p o m = absurd (subst (λ (l : List (List ℕ)). AllZip MeetsSegment [] l) (segments_cut path) m)
rest_from (s ∷ ss) [] p o m = absurd m
rest_from (s ∷ ss) (x ∷ path) p o m =
    let plain = both (is_name s || is_plain s) (are_plain ss) p in
    let cut = subst (λ (l : List (List ℕ)). AllZip MeetsSegment (s ∷ ss) l) (segments_cut path) m in
    (o, (segment_met s ss path plain.0).1 (cut.0, rest_from ss (from_slash path) plain.1 (opens_from path) cut.1))

-- the paths that meet the tokens of a pattern are those whose segments meet its segments
pub tokens_met : (pattern path : List ℕ) → are_plain (segments pattern) ≡ true → Meets (tokens (segments pattern)) path ↔ IsPath pattern path
tokens_met pattern path p =
    subst (λ (l : List (List ℕ)). are_plain l ≡ true → Meets (tokens l) path ↔ AllZip MeetsSegment l (segments path)) (sym (segments_cut pattern))
    (λ q. by (before_slash pattern) (behind (from_slash pattern)) q) p
  where
    by : (s : List ℕ) (ss : List (List ℕ)) → are_plain (s ∷ ss) ≡ true → Meets (tokens (s ∷ ss)) path ↔ AllZip MeetsSegment (s ∷ ss) (segments path)
    by s ss q =
        let plain = both (is_name s || is_plain s) (are_plain ss) q in
        let of = segment_met s ss path plain.0 in (
          (λ m. subst (λ (l : List (List ℕ)). AllZip MeetsSegment (s ∷ ss) l) (sym (segments_cut path)) ((of.0 m).0, rest_to ss (from_slash path) plain.1 (of.0 m).1)),
          (λ m. let cut = subst (λ (l : List (List ℕ)). AllZip MeetsSegment (s ∷ ss) l) (segments_cut path) m in of.1 (cut.0, rest_from ss (from_slash path) plain.1 (opens_from path) cut.1)),
        )
