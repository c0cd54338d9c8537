-- The parts of a text: those that are found are the ones that stand in the relation, and no others.
use Rattle.std.proofs.Common.{◌≡◌, ℕ, ◌+◌, ◌<◌, ◌≤◌, List, [], ◌∷◌, ◌++◌, length, take, drop, true, false, Bool, codes, if◌then◌else◌, Option, Some, None, ◌||◌, inl, inr, ◌⊎◌, refl, sym, ap, ap₂, subst, ◌∙◌, arith, append_assoc, append-nil, length-append}
use Rattle.std.specs.List.{concat}
use Rattle.std.specs.Option.{option_map}
use Rattle.std.specs.Str.{bytes_eq}
use Rattle.std.proofs.lemmas.List.{drop-drop, length-drop}
use Rattle.std.proofs.lemmas.List.Folds.{concat-append}
use Rattle.std.proofs.Math.Seq.{take-add}
use Rattle.std.proofs.lemmas.Slice.Eq.{bytes_eq-Decides}
use Rattle.cli_text.specs.Parts.{Parts, EndsLine, IsDivider, IsDivided, lines_of, is_divider, with_line, parts_of, divided}
use Rattle.cli_text.specs.PartViews.{line_len}
use Rattle.cli_text.proofs.LineLemmas.{lines-joined, lines-first, lines-append, lines-ended, IsEnded, AreEnded, ended-at, ended-text}

-- ---- how they are found

-- parts with texts before them
pub with_none : (parts : Option Parts) → option_map (with_line []) parts ≡ parts
with_none None = refl
with_none (Some p) = refl

pub with_both : (a b : List ℕ) (parts : Option Parts) → option_map (with_line a) (option_map (with_line b) parts) ≡ option_map (with_line (a ++ b)) parts
with_both a b None = refl
with_both a b (Some p) = ap (λ (file : List ℕ). Some (record p { file = file })) (sym (append_assoc a b p.file))

parts_of-here : (line : List ℕ) (ls : List (List ℕ)) → is_divider line ≡ true → parts_of (line ∷ ls) ≡ Some (record { file = []; divider = line; items = concat ls })
parts_of-here line ls is = ap (λ b. if b then Some (record { file = []; divider = line; items = concat ls }) else option_map (with_line line) (parts_of ls)) is

parts_of-later : (line : List ℕ) (ls : List (List ℕ)) → is_divider line ≡ false → parts_of (line ∷ ls) ≡ option_map (with_line line) (parts_of ls)
parts_of-later line ls is = ap (λ b. if b then Some (record { file = []; divider = line; items = concat ls }) else option_map (with_line line) (parts_of ls)) is

-- the first line is the divider
pub divided-here : (text : List ℕ) (n : ℕ) → 0 < length text → n ≡ line_len text → is_divider (take n text) ≡ true → divided text ≡ Some (record { file = []; divider = take n text; items = drop n text })
divided-here [] n some len is = absurd (omega (arith, some))
divided-here (o ∷ rest) n some len is =
    let text = o ∷ rest in
    ap parts_of (lines-first o rest ∙ ap (λ k. take k text ∷ lines_of (drop k text)) (sym len)) ∙ parts_of-here (take n text) (lines_of (drop n text)) is
    ∙ ap (λ (items : List ℕ). Some (record { file = []; divider = take n text; items = items })) (lines-joined (drop n text))

-- it is not
pub divided-later : (text : List ℕ) (n : ℕ) → 0 < length text → n ≡ line_len text → is_divider (take n text) ≡ false → divided text ≡ option_map (with_line (take n text)) (divided (drop n text))
divided-later [] n some len is = absurd (omega (arith, some))
divided-later (o ∷ rest) n some len is =
    let text = o ∷ rest in
    ap parts_of (lines-first o rest ∙ ap (λ k. take k text ∷ lines_of (drop k text)) (sym len)) ∙ parts_of-later (take n text) (lines_of (drop n text)) is

-- how far lines were looked at
module _ (input rest : List ℕ) (at n : ℕ) (short : at < length input) (rest_is : rest ≡ drop at input) (len : n ≡ line_len rest) (so_far : divided input ≡ option_map (with_line (take at input)) (divided (drop at input))) where
  some_left : 0 < length rest
  some_left = omega (arith, ap length rest_is, length-drop at input, short)

  pub divided-found : (file line items : List ℕ) → file ≡ take at input → line ≡ take n rest → items ≡ drop n rest → is_divider line ≡ true → divided input ≡ Some (record { file = file; divider = line; items = items })
  divided-found file line items file_is line_is items_is is =
      let here = divided-here rest n some_left len (sym (ap is_divider line_is) ∙ is) in
      so_far ∙ ap (λ (t : List ℕ). option_map (with_line (take at input)) (divided t)) (sym rest_is) ∙ ap (option_map (with_line (take at input))) here
      ∙ ap (λ (t : List ℕ). Some (record { file = t; divider = take n rest; items = drop n rest })) (append-nil (take at input) ∙ sym file_is)
      ∙ ap₂ (λ (d : List ℕ) (t : List ℕ). Some (record { file = file; divider = d; items = t })) (sym line_is) (sym items_is)

  pub divided-further : (line : List ℕ) (next : ℕ) → line ≡ take n rest → next ≡ at + n → is_divider line ≡ false → divided input ≡ option_map (with_line (take next input)) (divided (drop next input))
  divided-further line next line_is next_is is =
      let later = divided-later rest n some_left len (sym (ap is_divider line_is) ∙ is) in
      so_far ∙ ap (λ (t : List ℕ). option_map (with_line (take at input)) (divided t)) (sym rest_is) ∙ ap (option_map (with_line (take at input))) later
      ∙ with_both (take at input) (take n rest) (divided (drop n rest))
      ∙ ap (λ (r : List ℕ). option_map (with_line (take at input ++ take n r)) (divided (drop n r))) rest_is
      ∙ ap₂ (λ (front : List ℕ) (back : List ℕ). option_map (with_line front) (divided back)) (sym (take-add at n input)) (drop-drop n at input)
      ∙ ap (λ k. option_map (with_line (take k input)) (divided (drop k input))) (sym next_is)

-- ---- dividers

-- a line that is a divider is one line of a text that begins with it
divider-line : (line behind : List ℕ) → IsDivider line behind → lines_of (line ++ behind) ≡ line ∷ lines_of behind
divider-line line behind (mark, inl plain, inl end) = rw (end, plain) refl
divider-line line behind (mark, inr return, inl end) = rw (end, return) refl
divider-line line behind (mark, inl plain, inr last) = rw (last.0, last.1, plain) refl
divider-line line behind (mark, inr return, inr last) = rw (last.0, last.1, return) refl

divider-test : (line behind : List ℕ) → IsDivider line behind → is_divider line ≡ true
divider-test line behind (mark, inl plain, inl end) = rw (end, plain) refl
divider-test line behind (mark, inr return, inl end) = rw (end, return) refl
divider-test line behind (mark, inl plain, inr last) = rw (last.0, plain) refl
divider-test line behind (mark, inr return, inr last) = rw (last.0, return) refl

-- a divider has octets
divider-some : (line behind : List ℕ) → IsDivider line behind → 0 < length line
divider-some line behind (mark, inl plain, inl end) = rw (end, plain) (omega arith)
divider-some line behind (mark, inr return, inl end) = rw (end, return) (omega arith)
divider-some line behind (mark, inl plain, inr last) = rw (last.0, plain) (omega arith)
divider-some line behind (mark, inr return, inr last) = rw (last.0, return) (omega arith)

-- ---- a line that passes the test

-- the last octet, and 0 of none
last_octet : List ℕ → ℕ
last_octet [] = 0
last_octet (o ∷ []) = o
last_octet (o ∷ p ∷ rest) = last_octet (p ∷ rest)

last_octet-ended : (front : List ℕ) → last_octet (front ++ 10 ∷ []) ≡ 10
unfolding last_octet
last_octet-ended [] = refl
last_octet-ended (o ∷ []) = refl
last_octet-ended (o ∷ p ∷ front) = last_octet-ended (p ∷ front)

-- `--` and a carriage return are no line ends
plain_open : (line : List ℕ) → line ≡ codes "--" → IsEnded line → ⊥
unfolding last_octet
plain_open line is end =
    let other : 45 ≡ 10 = ap last_octet (sym is ∙ end.1) ∙ last_octet-ended end.0 in
    omega (arith, other)

return_open : (line : List ℕ) → line ≡ codes "--" ++ 13 ∷ [] → IsEnded line → ⊥
unfolding last_octet
return_open line is end =
    let other : 13 ≡ 10 = ap last_octet (sym is ∙ end.1) ∙ last_octet-ended end.0 in
    omega (arith, other)

either : (a b : Bool) → (a || b) ≡ true → (a ≡ true) ⊎ (b ≡ true)
either true b is = inl refl
either false b is = inr is

same_octets : (a b : List ℕ) → bytes_eq a b ≡ true → a ≡ b
same_octets a b is = (bytes_eq-Decides a b).0 is

-- is a divider, where it has its end or nothing is after it
divider-is : (line behind : List ℕ) → is_divider line ≡ true → IsEnded line ⊎ (behind ≡ []) → IsDivider line behind
divider-is line behind is end =
    elim (either _ _ is) [
      | inl ended ↦ elim (either _ _ ended) [
        | inl short ↦ elim (either _ _ short) [
          | inl plain ↦ (codes "--", inl refl, inl (same_octets _ _ plain))
          | inr return ↦ (codes "--" ++ 13 ∷ [], inr refl, inl (same_octets _ _ return))
        ]
        | inr plain ↦ elim end [
          | inl ended ↦ absurd (plain_open line (same_octets _ _ plain) ended)
          | inr last ↦ (codes "--", inl refl, inr (same_octets _ _ plain, last))
        ]
      ]
      | inr return ↦ elim end [
        | inl ended ↦ absurd (return_open line (same_octets _ _ return) ended)
        | inr last ↦ (codes "--" ++ 13 ∷ [], inr refl, inr (same_octets _ _ return, last))
      ]
    ]

-- ---- parts of lines

-- what was found: lines, a divider, and lines
record AreFound (ls : List (List ℕ)) (p : Parts) : Type 0 where
  before : List (List ℕ)
  behind : List (List ℕ)
  lines : ls ≡ before ++ p.divider ∷ behind
  divider : is_divider p.divider ≡ true
  file : p.file ≡ concat before
  items : p.items ≡ concat behind

map_some : (f : Parts → Parts) (found : Option Parts) (p : Parts) → option_map f found ≡ Some p → (q : Parts) × (found ≡ Some q) × (p ≡ f q)
map_some f None p e = absurd (cc e)
map_some f (Some q) p e = (q, refl, cc e)

map_none : (f : Parts → Parts) (found : Option Parts) → option_map f found ≡ None → found ≡ None
map_none f None e = refl
map_none f (Some q) e = absurd (cc e)

found_later : (l : List ℕ) (ls : List (List ℕ)) (p : Parts) → (q : Parts) × AreFound ls q × (p ≡ with_line l q) → AreFound (l ∷ ls) p
found_later l ls p (q, found, same) =
    subst (AreFound (l ∷ ls)) (sym same) (record {
      before = l ∷ found.before;
      behind = found.behind;
      lines = ap (λ (xs : List (List ℕ)). l ∷ xs) found.lines;
      divider = found.divider;
      file = ap (λ (t : List ℕ). l ++ t) found.file;
      items = found.items;
    })

parts_of-found : (ls : List (List ℕ)) (p : Parts) → parts_of ls ≡ Some p → AreFound ls p
parts_of-found [] p e = absurd (cc e)
parts_of-found (l ∷ ls) p e =
    let step : (b : Bool) → is_divider l ≡ b → (if b then Some (record { file = []; divider = l; items = concat ls }) else option_map (with_line l) (parts_of ls)) ≡ Some p → AreFound (l ∷ ls) p =
    λ b. elim b as (λ b. is_divider l ≡ b → (if b then Some (record { file = []; divider = l; items = concat ls }) else option_map (with_line l) (parts_of ls)) ≡ Some p → AreFound (l ∷ ls) p) [
      | true ↦ λ is here.
          let same : record { file = []; divider = l; items = concat ls } ≡ p = cc here in
          subst (AreFound (l ∷ ls)) same (record { before = []; behind = ls; lines = refl; divider = is; file = refl; items = refl })
      | false ↦ λ is later.
          let found = map_some (with_line l) (parts_of ls) p later in
          found_later l ls p (found.0, parts_of-found ls found.0 found.1, found.2)
    ] in
    step (is_divider l) refl e

-- a divider is found no later than where one stands
parts_of-early : (ls : List (List ℕ)) (l : List ℕ) (more : List (List ℕ)) (p : Parts) → is_divider l ≡ true → parts_of (ls ++ l ∷ more) ≡ Some p → length p.file ≤ length (concat ls)
parts_of-early [] l more p is e =
    let here : record { file = []; divider = l; items = concat more } ≡ p = cc (sym (parts_of-here l more is) ∙ e) in
    omega (arith, ap (λ (q : Parts). length q.file) here)
parts_of-early (x ∷ ls) l more p is e =
    let step : (b : Bool) → (if b then Some (record { file = []; divider = x; items = concat (ls ++ l ∷ more) }) else option_map (with_line x) (parts_of (ls ++ l ∷ more))) ≡ Some p → length p.file ≤ length (x ++ concat ls) =
    λ b. elim b as (λ b. (if b then Some (record { file = []; divider = x; items = concat (ls ++ l ∷ more) }) else option_map (with_line x) (parts_of (ls ++ l ∷ more))) ≡ Some p → length p.file ≤ length (x ++ concat ls)) [
      | true ↦ λ here.
          let same : record { file = []; divider = x; items = concat (ls ++ l ∷ more) } ≡ p = cc here in
          omega (arith, ap (λ (q : Parts). length q.file) same)
      | false ↦ λ later.
          let found = map_some (with_line x) (parts_of (ls ++ l ∷ more)) p later in
          let less = parts_of-early ls l more found.0 is found.1 in
          omega (arith, less, ap (λ (q : Parts). length q.file) found.2, length-append x found.0.file, length-append x (concat ls))
    ] in
    step (is_divider x) e

-- where none is found before, the next that stands there is
parts_of-next : (ls : List (List ℕ)) (l : List ℕ) (more : List (List ℕ)) → is_divider l ≡ true → parts_of ls ≡ None → parts_of (ls ++ l ∷ more) ≡ Some (record { file = concat ls; divider = l; items = concat more })
parts_of-next [] l more is none = parts_of-here l more is
parts_of-next (x ∷ ls) l more is none =
    let step : (b : Bool) → (if b then Some (record { file = []; divider = x; items = concat ls }) else option_map (with_line x) (parts_of ls)) ≡ None
    → (if b then Some (record { file = []; divider = x; items = concat (ls ++ l ∷ more) }) else option_map (with_line x) (parts_of (ls ++ l ∷ more))) ≡ Some (record { file = x ++ concat ls; divider = l; items = concat more }) =
    λ b. elim b as (λ b. (if b then Some (record { file = []; divider = x; items = concat ls }) else option_map (with_line x) (parts_of ls)) ≡ None
    → (if b then Some (record { file = []; divider = x; items = concat (ls ++ l ∷ more) }) else option_map (with_line x) (parts_of (ls ++ l ∷ more))) ≡ Some (record { file = x ++ concat ls; divider = l; items = concat more })) [
      | true ↦ λ here. absurd (cc here)
      | false ↦ λ later. ap (option_map (with_line x)) (parts_of-next ls l more is (map_none (with_line x) (parts_of ls) later))
    ] in
    step (is_divider x) none

-- ---- the relation

-- nothing stands after the last line
behind_last : (front : List (List ℕ)) (l : List ℕ) (ls : List (List ℕ)) → AreEnded (front ++ l ∷ ls) → IsEnded l ⊎ (concat ls ≡ [])
behind_last front l [] ended = inr refl
behind_last front l (m ∷ ls) ended = inl (ended-at front l m ls ended)

-- what was found is parted so, but for what stands before
module _ (text : List ℕ) (p : Parts) (found : AreFound (lines_of text) p) where
  ended : AreEnded (found.before ++ p.divider ∷ found.behind)
  ended = subst AreEnded found.lines (lines-ended text)

  found_whole : text ≡ p.file ++ (p.divider ++ p.items)
  found_whole =
      sym (lines-joined text) ∙ ap concat found.lines ∙ concat-append found.before (p.divider ∷ found.behind)
      ∙ ap (λ (t : List ℕ). t ++ (p.divider ++ concat found.behind)) (sym found.file)
      ∙ ap (λ (t : List ℕ). p.file ++ (p.divider ++ t)) (sym found.items)

  found_lines : EndsLine p.file
  found_lines = subst EndsLine (sym found.file) (ended-text found.before p.divider found.behind ended)

  found_divider : IsDivider p.divider p.items
  found_divider = subst (IsDivider p.divider) (sym found.items) (divider-is p.divider (concat found.behind) found.divider (behind_last found.before p.divider found.behind ended))

-- ---- a divider within lines

last_octet-behind : (front : List ℕ) (o : ℕ) (rest : List ℕ) → last_octet (front ++ o ∷ rest) ≡ last_octet (o ∷ rest)
unfolding last_octet
last_octet-behind [] o rest = refl
last_octet-behind (x ∷ []) o rest = refl
last_octet-behind (x ∷ y ∷ front) o rest = last_octet-behind (y ∷ front) o rest

last_octet-lines : (text : List ℕ) → EndsLine text → (last_octet text ≡ 0) ⊎ (last_octet text ≡ 10)
unfolding last_octet
last_octet-lines text (inl none) = inl (ap last_octet none)
last_octet-lines text (inr end) = inr (ap last_octet end.1 ∙ last_octet-ended end.0)

no_lines : (text : List ℕ) (n : ℕ) → EndsLine text → last_octet text ≡ n → ¬ (n ≡ 0) → ¬ (n ≡ 10) → ⊥
no_lines text n ends is zero ten = elim (last_octet-lines text ends) [ inl none ↦ zero (sym is ∙ none) | inr end ↦ ten (sym is ∙ end) ]

-- it has its end
inner_divider : (front line behind : List ℕ) → EndsLine (front ++ (line ++ behind)) → IsDivider line behind → (more : List ℕ) → IsDivider line (behind ++ more)
unfolding last_octet
inner_divider front line behind ends (mark, is, inl end) more = (mark, is, inl end)
inner_divider front line behind ends (mark, inl plain, inr last) more =
    let same : front ++ (line ++ behind) ≡ front ++ codes "--" = rw (last.0, last.1, plain) refl in
    absurd (no_lines (front ++ codes "--") 45 (subst EndsLine same ends) (last_octet-behind front 45 (45 ∷ [])) (omega arith) (omega arith))
inner_divider front line behind ends (mark, inr return, inr last) more =
    let same : front ++ (line ++ behind) ≡ front ++ (codes "--" ++ 13 ∷ []) = rw (last.0, last.1, return) refl in
    absurd (no_lines (front ++ (codes "--" ++ 13 ∷ [])) 13 (subst EndsLine same ends) (last_octet-behind front 45 (45 ∷ 13 ∷ [])) (omega arith) (omega arith))

-- the lines around a divider
lines-around : (front line behind : List ℕ) → EndsLine front → IsDivider line behind → lines_of (front ++ (line ++ behind)) ≡ lines_of front ++ line ∷ lines_of behind
lines-around front line behind ends is = lines-append front (line ++ behind) ends ∙ ap (λ (ls : List (List ℕ)). lines_of front ++ ls) (divider-line line behind is)

-- ---- both directions

is_first : (text : List ℕ) (p : Parts) → divided text ≡ Some p → (front line behind : List ℕ) → p.file ≡ front ++ (line ++ behind) → EndsLine front → IsDivider line behind → ⊥
is_first text p e front line behind within ends is =
    let found = parts_of-found (lines_of text) p e in
    let after = p.divider ++ p.items in
    let inner = inner_divider front line behind (subst EndsLine within (found_lines text p found)) is after in
    let whole : text ≡ front ++ (line ++ (behind ++ after)) =
    found_whole text p found ∙ ap (λ (t : List ℕ). t ++ after) within ∙ append_assoc front (line ++ behind) after ∙ ap (λ (t : List ℕ). front ++ t) (append_assoc line behind after) in
    let lines = ap lines_of whole ∙ lines-around front line (behind ++ after) ends inner in
    let early = parts_of-early (lines_of front) line (lines_of (behind ++ after)) p (divider-test line behind is) (sym (ap parts_of lines) ∙ e) in
    omega (arith, early, ap length (lines-joined front), ap length within, length-append front (line ++ behind), length-append line behind, divider-some line behind is)

pub is_divided : (text : List ℕ) (p : Parts) → divided text ≡ Some p → IsDivided text p
is_divided text p e =
    let found = parts_of-found (lines_of text) p e in
    record { whole = found_whole text p found; lines = found_lines text p found; divider = found_divider text p found; first = is_first text p e }

-- no line of what stands before is a divider
none_before : (text : List ℕ) (p : Parts) → IsDivided text p → parts_of (lines_of p.file) ≡ None
none_before text p is =
    let step : (found : Option Parts) → parts_of (lines_of p.file) ≡ found → found ≡ None = λ found. elim found as (λ found. parts_of (lines_of p.file) ≡ found → found ≡ None) [
      | None ↦ λ e. refl
      | Some q ↦ λ e.
          let at = parts_of-found (lines_of p.file) q e in
          absurd (is.first q.file q.divider q.items (found_whole p.file q at) (found_lines p.file q at) (found_divider p.file q at))
    ] in
    step (parts_of (lines_of p.file)) refl

pub divided_is : (text : List ℕ) (p : Parts) → IsDivided text p → divided text ≡ Some p
divided_is text p is =
    ap parts_of (ap lines_of is.whole ∙ lines-around p.file p.divider p.items is.lines is.divider)
    ∙ parts_of-next (lines_of p.file) p.divider (lines_of p.items) (divider-test p.divider p.items is.divider) (none_before text p is)
    ∙ ap₂ (λ (file : List ℕ) (items : List ℕ). Some (record { file = file; divider = p.divider; items = items })) (lines-joined p.file) (lines-joined p.items)
