-- The order of the texts of IPv6 addresses: where the same run of zeros is left out of both, the first groups that differ decide.
use Rattle.std.proofs.Common.{◌≡◌, ◌≢◌, ℕ, ◌+◌, ◌/◌, ◌%◌, ◌^◌, ◌<◌, ◌≤◌, inl, inr, le-leb, le-ltb, lt-ltb, Bool, true, false, not, ◌&&◌, eqb, eqb-true, List, [], ◌∷◌, ◌++◌, length, length-take, get_or, take, min, drop, flat_map, All, refl, sym, ap, ◌∙◌, append_assoc, append-nil, arith}
use Rattle.std.specs.List.{AllByRecursion}
use Rattle.std.specs.Char.{digit_char, digit_value}
use Rattle.std.specs.Net.Text.{hex, groups_text, leading_zero_digits, longest_zero_run, hex_groups_text}
use Rattle.std.specs.Str.Parse.{digits_value}
use Rattle.std.specs.declared.cmp.Ordering.{Ordering}
use Rattle.std.specs.declared.cmp.Ordering.TheVariants.{Equal}
use Rattle.std.specs.Ordering.{ordering_then}
use Rattle.std.proofs.lemmas.Bool.{cases_lt, lt-leb, and_parts}
use Rattle.std.proofs.lemmas.Bool.Decides.{nat_tests}
use Rattle.std.proofs.lemmas.List.Elements.{All-from_recursion, All-drop, recursion_from_All}
use Rattle.dns_names.proofs.KeyLaws.{octets_exact}
use Rattle.dns_names.proofs.TextOrderLemmas.{parted, tied_front}
use Rattle.dns_data.proofs.OrderLemmas.{by_octets, decided}

-- ---- one group

abbrev IsNoColon : ℕ → Type 0
IsNoColon o = o ≢ 58

digit_no_colon : (d : ℕ) → d < 16 → IsNoColon (digit_char d)
digit_no_colon d fits = grind (arith, nat_tests)

no_colons : (n : ℕ) → n < 2 ^ 16 → AllByRecursion IsNoColon (hex n)
unfolding hex
no_colons n fits =
    let digits = digit_char (n / 0x1000) ∷ digit_char (n / 0x100 % 16) ∷ digit_char (n / 0x10 % 16) ∷ digit_char (n % 16) ∷ [] in
    let all : All IsNoColon digits = All-from_recursion IsNoColon digits (digit_no_colon (n / 0x1000) (omega arith), (digit_no_colon (n / 0x100 % 16) (omega arith), (digit_no_colon (n / 0x10 % 16) (omega arith), (digit_no_colon (n % 16) (omega arith), tt)))) in
    recursion_from_All IsNoColon (drop (leading_zero_digits n) digits) (All-drop IsNoColon (leading_zero_digits n) digits all)

digit_again : (d : ℕ) → d < 16 → digit_value (digit_char d) ≡ d
digit_again d fits = grind (arith, nat_tests)

-- the digits that are left out are zeros
hex_again : (n : ℕ) → n < 2 ^ 16 → digits_value 16 (hex n) ≡ n
unfolding hex
hex_again n fits =
    let a = digit_again (n / 0x1000) (omega arith) in
    let b = digit_again (n / 0x100 % 16) (omega arith) in
    let c = digit_again (n / 0x10 % 16) (omega arith) in
    let d = digit_again (n % 16) (omega arith) in
    elim (cases_lt n 0x1000) [
      | inr four ↦ rw (le-leb _ n four) (omega arith)
      | inl h₃ ↦ elim (cases_lt n 0x100) [
        | inr three ↦ rw (lt-leb _ n h₃, le-leb _ n three) (omega arith)
        | inl h₂ ↦ elim (cases_lt n 0x10) [
          | inr two ↦ rw (lt-leb _ n h₃, lt-leb _ n h₂, le-leb _ n two) (omega arith)
          | inl h₁ ↦ rw (lt-leb _ n h₃, lt-leb _ n h₂, lt-leb _ n h₁) (omega arith)
        ]
      ]
    ]

-- what stands before the first colon
before_colon : (x y s t : List ℕ) → AllByRecursion IsNoColon x → AllByRecursion IsNoColon y → x ++ 58 ∷ s ≡ y ++ 58 ∷ t → x ≡ y
before_colon [] [] s t none also e = refl
before_colon [] (b ∷ y) s t none also e = absurd (also.0 (sym (ap (λ l. get_or l 0 0) e)))
before_colon (a ∷ x) [] s t none also e = absurd (none.0 (ap (λ l. get_or l 0 0) e))
before_colon (a ∷ x) (b ∷ y) s t none also e =
    ap (λ (o : ℕ). o ∷ x) (ap (λ l. get_or l 0 0) e) ∙ ap (λ (l : List ℕ). b ∷ l) (before_colon x y s t none.1 also.1 (ap (λ l. drop 1 l) e))

-- a group with a colon after it
abbrev ended : ℕ → List ℕ
ended n = hex n ++ 58 ∷ []

module _ (a b : ℕ) (fits : a < 2 ^ 16) (also : b < 2 ^ 16) (differ : a ≢ b) where
  groups_part : (s t : List ℕ) → ended a ++ s ≡ ended b ++ t → ⊥
  groups_part s t e =
      let apart : hex a ++ 58 ∷ s ≡ hex b ++ 58 ∷ t = sym (append_assoc (hex a) (58 ∷ []) s) ∙ e ∙ append_assoc (hex b) (58 ∷ []) t in
      let same : hex a ≡ hex b = before_colon (hex a) (hex b) s t (no_colons a fits) (no_colons b also) apart in
      differ (sym (hex_again a fits) ∙ ap (digits_value 16) same ∙ hex_again b also)

  -- groups that differ decide, whatever stands after their colons
  pub group_decides : (u v : List ℕ) → by_octets (ended a) (ended b) ≡ by_octets (hex a ++ 58 ∷ u) (hex b ++ 58 ∷ v)
  group_decides u v =
      sym (parted (ended a) (ended b) u v groups_part) ∙ ap (λ l. by_octets l (ended b ++ v)) (append_assoc (hex a) (58 ∷ []) u) ∙ ap (λ l. by_octets (hex a ++ 58 ∷ u) l) (append_assoc (hex b) (58 ∷ []) v)

  pub groups_differ : by_octets (ended a) (ended b) ≢ Equal
  groups_differ even = groups_part [] [] (ap (λ (l : List ℕ). l ++ []) (octets_exact (ended a) (ended b) even))

-- ---- groups with a colon after each

abbrev pub all_ended : List ℕ → List ℕ
all_ended groups = flat_map ended groups

front_ended : (x : ℕ) (xs u : List ℕ) → all_ended (x ∷ xs) ++ u ≡ hex x ++ 58 ∷ (all_ended xs ++ u)
front_ended x xs u = simp append_assoc

-- a group that is the same in both is passed
pub group_passes : (x : ℕ) (xs ys u v : List ℕ) → by_octets (all_ended xs ++ u) (all_ended ys ++ v) ≡ by_octets (all_ended (x ∷ xs) ++ u) (all_ended (x ∷ ys) ++ v)
group_passes x xs ys u v =
    rw (front_ended x xs u, front_ended x ys v, tied_front (hex x) (58 ∷ (all_ended xs ++ u)) (58 ∷ (all_ended ys ++ v))) refl

-- and where they differ, they decide
pub first_group_decides : (order : Ordering) (a b : ℕ) (xs ys : List ℕ) → ((u v : List ℕ) → order ≡ by_octets (hex a ++ 58 ∷ u) (hex b ++ 58 ∷ v)) → order ≢ Equal → (u v : List ℕ) → ordering_then order (by_octets u v) ≡ by_octets (all_ended (a ∷ xs) ++ u) (all_ended (b ∷ ys) ++ v)
first_group_decides order a b xs ys decides differs u v =
    sym (decided order (by_octets u v) differs) ∙ decides (all_ended xs ++ u) (all_ended ys ++ v) ∙ ap (λ l. by_octets l (hex b ++ 58 ∷ (all_ended ys ++ v))) (sym (front_ended a xs u)) ∙ ap (by_octets (all_ended (a ∷ xs) ++ u)) (sym (front_ended b ys v))

-- ---- groups with colons between them

-- after the first
more_groups : (xs : List ℕ) (l : ℕ) → flat_map (λ t. 58 ∷ hex t) (xs ++ l ∷ []) ≡ 58 ∷ (all_ended xs ++ hex l)
more_groups [] l = ap (λ (t : List ℕ). 58 ∷ t) (append-nil (hex l))
more_groups (x ∷ xs) l = rw (more_groups xs l, front_ended x xs (hex l)) refl

-- all but the last have a colon after them
pub groups_ended : (xs : List ℕ) (l : ℕ) → groups_text (xs ++ l ∷ []) ≡ all_ended xs ++ hex l
groups_ended [] l = append-nil (hex l)
groups_ended (x ∷ xs) l = rw (more_groups xs l, front_ended x xs (hex l)) refl

-- and so has the last, where a colon comes after it
behind_groups : (xs w : List ℕ) → flat_map (λ t. 58 ∷ hex t) xs ++ 58 ∷ w ≡ 58 ∷ (all_ended xs ++ w)
behind_groups [] w = refl
behind_groups (x ∷ xs) w = rw (append_assoc (hex x) (flat_map (λ t. 58 ∷ hex t) xs) (58 ∷ w), behind_groups xs w, front_ended x xs w) refl

groups_before : (x : ℕ) (xs w : List ℕ) → groups_text (x ∷ xs) ++ 58 ∷ w ≡ all_ended (x ∷ xs) ++ w
groups_before x xs w = rw (append_assoc (hex x) (flat_map (λ t. 58 ∷ hex t) xs) (58 ∷ w), behind_groups xs w, front_ended x xs w) refl

-- groups before two colons are in order as those with a colon after each
pub fronts_decide : (order : Ordering) (xs ys : List ℕ) → length xs ≡ length ys → ((u v : List ℕ) → ordering_then order (by_octets u v) ≡ by_octets (all_ended xs ++ u) (all_ended ys ++ v)) → (u v : List ℕ) → ordering_then order (by_octets u v) ≡ by_octets (groups_text xs ++ 58 ∷ 58 ∷ u) (groups_text ys ++ 58 ∷ 58 ∷ v)
fronts_decide order [] [] count decides u v = decides u v
fronts_decide order [] (y ∷ ys) count decides u v = absurd (omega arith)
fronts_decide order (x ∷ xs) [] count decides u v = absurd (omega arith)
fronts_decide order (x ∷ xs) (y ∷ ys) count decides u v =
    rw (groups_before x xs (58 ∷ u), groups_before y ys (58 ∷ v)) (decides (58 ∷ u) (58 ∷ v))

-- ---- what the code that compares groups answers

module _ (ours theirs : List ℕ) (a b : ℕ) (xs ys : List ℕ) (some : ours ≡ a ∷ xs) (also : theirs ≡ b ∷ ys) where
  pub one_less : length ours ≡ length theirs → length xs ≡ length ys
  one_less count = omega (arith, count, ap (λ (l : List ℕ). length l) some, ap (λ (l : List ℕ). length l) also)

  pub passes : a ≡ b → (u v : List ℕ) → by_octets (all_ended xs ++ u) (all_ended ys ++ v) ≡ by_octets (all_ended ours ++ u) (all_ended theirs ++ v)
  passes same u v =
      group_passes a xs ys u v ∙ ap (λ (o : ℕ). by_octets (all_ended (a ∷ xs) ++ u) (all_ended (o ∷ ys) ++ v)) same ∙ ap (λ l. by_octets (all_ended l ++ u) (all_ended (b ∷ ys) ++ v)) (sym some) ∙ ap (λ l. by_octets (all_ended ours ++ u) (all_ended l ++ v)) (sym also)

  pub decides : (order : Ordering) → ((u v : List ℕ) → order ≡ by_octets (hex a ++ 58 ∷ u) (hex b ++ 58 ∷ v)) → order ≢ Equal → (u v : List ℕ) → ordering_then order (by_octets u v) ≡ by_octets (all_ended ours ++ u) (all_ended theirs ++ v)
  decides order is differs u v =
      first_group_decides order a b xs ys is differs u v ∙ ap (λ l. by_octets (all_ended l ++ u) (all_ended (b ∷ ys) ++ v)) (sym some) ∙ ap (λ l. by_octets (all_ended ours ++ u) (all_ended l ++ v)) (sym also)

-- all groups but the last, and then the last
pub lasts_decide : (order : Ordering) (firsts seconds xs ys : List ℕ) (a b : ℕ) → firsts ≡ xs ++ a ∷ [] → seconds ≡ ys ++ b ∷ [] → ((u v : List ℕ) → ordering_then order (by_octets u v) ≡ by_octets (all_ended xs ++ u) (all_ended ys ++ v)) → ordering_then order (by_octets (hex a) (hex b)) ≡ by_octets (groups_text firsts) (groups_text seconds)
lasts_decide order firsts seconds xs ys a b some also is =
    rw (some, also, groups_ended xs a, groups_ended ys b) (is (hex a) (hex b))

-- ---- addresses

-- two runs that a test finds equal
pub same_runs : (run other : ℕ × ℕ) → false ≡ not (eqb other.0 run.0 && eqb other.1 run.1) → other ≡ run
same_runs run other even =
    let both = and_parts (eqb other.0 run.0) (eqb other.1 run.1) (not_false (eqb other.0 run.0 && eqb other.1 run.1) even) in
    ap (λ (n : ℕ). (n, other.1)) (eqb-true other.0 run.0 both.0) ∙ ap (λ (n : ℕ). (run.0, n)) (eqb-true other.1 run.1 both.1)
  where
    not_false : (b : Bool) → false ≡ not b → b ≡ true
    not_false true e = refl
    not_false false e = absurd cc

-- no zeros are left out
even_text : (xs : List ℕ) (run : ℕ × ℕ) → longest_zero_run xs ≡ run → run.1 < 2 → groups_text xs ≡ hex_groups_text xs
unfolding hex_groups_text
even_text xs run is short = rw (is, le-ltb 1 run.1 (omega arith)) refl

-- a run of zeros is left out
cut_text : (xs : List ℕ) (run : ℕ × ℕ) → longest_zero_run xs ≡ run → 2 ≤ run.1 → groups_text (take run.0 xs) ++ 58 ∷ 58 ∷ groups_text (drop (run.0 + run.1) xs) ≡ hex_groups_text xs
unfolding hex_groups_text
cut_text xs run is long = rw (is, lt-ltb 1 run.1 (omega arith)) (sym (append_assoc (groups_text (take run.0 xs)) (58 ∷ 58 ∷ []) (groups_text (drop (run.0 + run.1) xs))))

module _ (xs ys : List ℕ) (run : ℕ × ℕ) (one : longest_zero_run xs ≡ run) (other : longest_zero_run ys ≡ run) where
  -- addresses of which no zeros are left out
  pub evens_decide : run.1 < 2 → by_octets (groups_text xs) (groups_text ys) ≡ by_octets (hex_groups_text xs) (hex_groups_text ys)
  evens_decide short =
      ap (λ l. by_octets l (groups_text ys)) (even_text xs run one short) ∙ ap (by_octets (hex_groups_text xs)) (even_text ys run other short)

  -- addresses of which the same run of zeros is left out: the groups before it decide, and then those after it
  pub cuts_decide : (order : Ordering) → length xs ≡ length ys → 2 ≤ run.1 → ((u v : List ℕ) → ordering_then order (by_octets u v) ≡ by_octets (all_ended (take run.0 xs) ++ u) (all_ended (take run.0 ys) ++ v)) → ordering_then order (by_octets (groups_text (drop (run.0 + run.1) xs)) (groups_text (drop (run.0 + run.1) ys))) ≡ by_octets (hex_groups_text xs) (hex_groups_text ys)
  cuts_decide order count long is =
      let end = run.0 + run.1 in
      let same : length (take run.0 xs) ≡ length (take run.0 ys) = length-take run.0 xs ∙ ap (λ n. min run.0 n) count ∙ sym (length-take run.0 ys) in
      fronts_decide order (take run.0 xs) (take run.0 ys) same is (groups_text (drop end xs)) (groups_text (drop end ys))
      ∙ ap (λ l. by_octets l (groups_text (take run.0 ys) ++ 58 ∷ 58 ∷ groups_text (drop end ys))) (cut_text xs run one long)
      ∙ ap (by_octets (hex_groups_text xs)) (cut_text ys run other long)
