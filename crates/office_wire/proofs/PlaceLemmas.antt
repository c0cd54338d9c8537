-- The parts of a path by the segments of its row's.
use Rattle.std.proofs.Common.{◌≡◌, ℕ, zero, suc, ◌<◌, Bool, true, false, cond, not, ◌&&◌, ◌||◌, List, [], ◌∷◌, length, get_or, refl, sym, ap, ◌∙◌, arith, ◌==◌}
use Rattle.std.specs.Prelude.{bytes_eq}
use Rattle.std.specs.List.{AllZip, list_all}
use Rattle.std.specs.Cmp.Lexicographic.{bytes_decides}
use Rattle.std.proofs.lemmas.List.Elements.{Contains-get_or}
use Rattle.percent_encoding.specs.Percent.{percent_decode}
use Rattle.office_wire.specs.Routes.{routes}
use Rattle.office_wire.specs.Parts.{before_slash, behind_slash, part}
use Rattle.office_wire.specs.Paths.{widen, segments, is_name, MeetsSegment, PartsAreSegments}
use Rattle.office_wire.proofs.SlashLemmas.{nil, from_slash}
use Rattle.office_wire.proofs.PatternLemmas.{behind, both, segments_cut}
use Rattle.office_wire.proofs.TakenLemmas.{all_at}

-- the segment of a path at the place of the first of these that is a name
abbrev at_name : List (List ℕ) → List (List ℕ) → List ℕ → List ℕ
at_name [] ps name = []
at_name (s ∷ ss) [] name = []
at_name (s ∷ ss) (p ∷ ps) name = cond (bytes_eq s name) p (at_name ss ps name)

abbrev tail : List (List ℕ) → List (List ℕ)
tail [] = []
tail (s ∷ ss) = ss

part_none : (pattern name : List ℕ) → part pattern [] name ≡ []
part_none [] name = refl
part_none (o ∷ pattern) name = by (o == 47) (bytes_eq (before_slash pattern) name) (part_none pattern name)
  where
    by : (a b : Bool) → part pattern [] name ≡ [] → cond a (cond b nil (part pattern [] name)) (part pattern [] name) ≡ nil
    by true true e = refl
    by true false e = e
    by false b e = e

none_named : (ss : List (List ℕ)) (name : List ℕ) → at_name ss [] name ≡ []
none_named [] name = refl
none_named (s ∷ ss) name = refl

tail_widen : (o : ℕ) (ss : List (List ℕ)) → tail (widen o ss) ≡ tail ss
tail_widen o [] = refl
tail_widen o (s ∷ ss) = refl

-- what a path has after its first slash
behind_first : (path : List ℕ) → behind (from_slash path) ≡ tail (segments path)
behind_first path = ap tail (sym (segments_cut path))

part_named : (pattern path name : List ℕ) → part pattern path name ≡ at_name (tail (segments pattern)) (tail (segments path)) name
part_named [] path name = refl
part_named (o ∷ pattern) path name = by (o == 47) (part_named pattern)
  where
    slash : (p : List ℕ) → ((q n : List ℕ) → part pattern q n ≡ at_name (tail (segments pattern)) (tail (segments q)) n)
        → cond (bytes_eq (before_slash pattern) name) (before_slash (behind_slash p)) (part pattern (behind_slash p) name) ≡ at_name (segments pattern) (tail (segments p)) name
    slash [] rest = by_name (bytes_eq (before_slash pattern) name)
      where
        by_name : (b : Bool) → cond b nil (part pattern [] name) ≡ at_name (segments pattern) [] name
        by_name true = sym (none_named (segments pattern) name)
        by_name false = part_none pattern name ∙ sym (none_named (segments pattern) name)
    slash (x ∷ p) rest = by_slash (x == 47) (slash p rest)
      where
        here : cond (bytes_eq (before_slash pattern) name) (before_slash p) (part pattern p name) ≡ at_name (segments pattern) (segments p) name
        here =
            let own : at_name (segments pattern) (segments p) name ≡ cond (bytes_eq (before_slash pattern) name) (before_slash p) (at_name (behind (from_slash pattern)) (behind (from_slash p)) name)
            = λ i. at_name (segments_cut pattern i) (segments_cut p i) name in
            let next : part pattern p name ≡ at_name (behind (from_slash pattern)) (behind (from_slash p)) name
            = rest p name ∙ (λ i. at_name (sym (behind_first pattern) i) (sym (behind_first p) i) name) in
            ap (λ (y : List ℕ). cond (bytes_eq (before_slash pattern) name) (before_slash p) y) next ∙ sym own

        by_slash : (b : Bool) → cond (bytes_eq (before_slash pattern) name) (before_slash (behind_slash p)) (part pattern (behind_slash p) name) ≡ at_name (segments pattern) (tail (segments p)) name
            → cond (bytes_eq (before_slash pattern) name) (before_slash (cond b p (behind_slash p))) (part pattern (cond b p (behind_slash p)) name)
            ≡ at_name (segments pattern) (tail (cond b (nil ∷ segments p) (widen x (segments p)))) name
        by_slash true e = here
        by_slash false e = e ∙ ap (λ (l : List (List ℕ)). at_name (segments pattern) l name) (sym (tail_widen x (segments p)))

    by : (b : Bool) → ((q n : List ℕ) → part pattern q n ≡ at_name (tail (segments pattern)) (tail (segments q)) n)
        → cond b (cond (bytes_eq (before_slash pattern) name) (before_slash (behind_slash path)) (part pattern (behind_slash path) name)) (part pattern path name)
        ≡ at_name (tail (cond b (nil ∷ segments pattern) (widen o (segments pattern)))) (tail (segments path)) name
    by true rest = slash path rest
    by false rest = rest path name ∙ ap (λ (l : List (List ℕ)). at_name l (tail (segments path)) name) (sym (tail_widen o (segments pattern)))

-- ---- the names of a row differ, and its first segment is not a name

abbrev are_named : List (List ℕ) → Bool
are_named [] = true
are_named (s ∷ ss) = (not (is_name s) || list_all (λ t. not (bytes_eq t s)) ss) && are_named ss

abbrev begins_plain : List (List ℕ) → Bool
begins_plain [] = true
begins_plain (s ∷ ss) = not (is_name s)

routes_named : list_all (λ row. are_named (segments row.path) && begins_plain (segments row.path)) routes ≡ true
routes_named = refl

same_bytes : (s t : List ℕ) → s ≡ t → bytes_eq s t ≡ true
same_bytes s t e = (bytes_decides s t).1 e

-- a name further on is another
not_here : (s : List ℕ) (ss : List (List ℕ)) (i : ℕ) → i < length ss → is_name (get_or ss i []) ≡ true → (is_name s ≡ true → list_all (λ t. not (bytes_eq t s)) ss ≡ true) → bytes_eq s (get_or ss i []) ≡ false
not_here s ss i less name other = by (bytes_eq s (get_or ss i [])) refl
  where
    by : (b : Bool) → bytes_eq s (get_or ss i []) ≡ b → b ≡ false
    by false e = refl
    by true e =
        let same : s ≡ get_or ss i [] = (bytes_decides s (get_or ss i [])).0 e in
        let all = other (ap is_name same ∙ name) in
        let here : not (bytes_eq (get_or ss i []) s) ≡ true = all_at (λ t. not (bytes_eq t s)) ss (get_or ss i []) all (Contains-get_or ss i [] less) in
        let equal : bytes_eq (get_or ss i []) s ≡ true = same_bytes (get_or ss i []) s (sym same) in
        absurd (let f : false ≡ true = ap not (sym equal) ∙ here in cc)

either : (a b : Bool) → (not a || b) ≡ true → a ≡ true → b ≡ true
either true b e f = e
either false b e f = absurd cc

at_place : (ss ps : List (List ℕ)) (i : ℕ) → are_named ss ≡ true → AllZip MeetsSegment ss ps → i < length ss → is_name (get_or ss i []) ≡ true → at_name ss ps (get_or ss i []) ≡ get_or ps i []
at_place [] ps i e m less name = absurd (omega arith)
at_place (s ∷ ss) [] i e m less name = absurd m
at_place (s ∷ ss) (p ∷ ps) zero e m less name = rw (same_bytes s s refl) refl
at_place (s ∷ ss) (p ∷ ps) (suc i) e m less name =
    let h = both (not (is_name s) || list_all (λ t. not (bytes_eq t s)) ss) (are_named ss) e in
    let in_tail : i < length ss = omega arith in
    rw (not_here s ss i in_tail name (either (is_name s) (list_all (λ t. not (bytes_eq t s)) ss) h.0)) (at_place ss ps i h.1 m.1 in_tail name)

behind_place : (ss ps : List (List ℕ)) (i : ℕ) → are_named ss ≡ true → begins_plain ss ≡ true → AllZip MeetsSegment ss ps → i < length ss → is_name (get_or ss i []) ≡ true
    → at_name (tail ss) (tail ps) (get_or ss i []) ≡ get_or ps i []
behind_place [] ps i e f m less name = absurd (omega arith)
behind_place (s ∷ ss) [] i e f m less name = absurd m
behind_place (s ∷ ss) (p ∷ ps) zero e f m less name = absurd (let g : false ≡ true = ap not (sym name) ∙ f in cc)
behind_place (s ∷ ss) (p ∷ ps) (suc i) e f m less name =
    at_place ss ps i (both (not (is_name s) || list_all (λ t. not (bytes_eq t s)) ss) (are_named ss) e).1 m.1 (omega arith) name

pub parts_are_segments : PartsAreSegments
parts_are_segments row target i there is less name =
    let h = both (are_named (segments row.path)) (begins_plain (segments row.path)) (all_at (λ r. are_named (segments r.path) && begins_plain (segments r.path)) routes row routes_named there) in
    ap percent_decode (part_named row.path target (get_or (segments row.path) i []) ∙ behind_place (segments row.path) (segments target) i h.0 h.1 is less name)
