-- A text before its first slash and from it on, and what the router takes for the segment at its start.
use Rattle.std.proofs.Common.{◌≡◌, ℕ, zero, suc, ◌-◌, ◌<◌, Bool, true, false, cond, List, [], ◌∷◌, ◌++◌, length, drop, refl, ap, ◌∙◌, arith, nat_eq, ◌==◌, length-append}
use Rattle.std.specs.List.{ends_with}
use Rattle.std.specs.Cmp.Lexicographic.{bytes_decides}
use Rattle.std.proofs.lemmas.Bool.Decides.{nat_tests}
use Rattle.std.proofs.Math.Seq.{drop-append_seam}
use Rattle.matchit.specs.Seek.{segment, has_slash, cuts}
use Rattle.office_wire.specs.Parts.{before_slash}

-- no octets
abbrev pub nil : List ℕ
nil = []

-- a text from its first slash on
abbrev pub from_slash : List ℕ → List ℕ
from_slash [] = []
from_slash (o ∷ text) = cond (o == 47) (o ∷ text) (from_slash text)

-- a text without a slash
pub record IsWhole (text : List ℕ) : Type 0 where
  pub before : before_slash text ≡ text
  pub from : from_slash text ≡ []
  pub segment : segment text ≡ text

pub no_slash : (text : List ℕ) → has_slash text ≡ false → IsWhole text
no_slash [] h = record { before = refl; from = refl; segment = refl }
no_slash (o ∷ text) h = by (o == 47) refl h (no_slash text)
  where
    by : (b : Bool) → (o == 47) ≡ b → cond b true (has_slash text) ≡ false → (has_slash text ≡ false → IsWhole text) → IsWhole (o ∷ text)
    by true e h rest = absurd cc
    by false e h rest = record {
      before = rw e (ap (λ (l : List ℕ). o ∷ l) (rest h).before);
      from = rw e (rest h).from;
      segment = rw e (ap (λ (l : List ℕ). o ∷ l) (rest h).segment);
    }

-- a text with a slash
pub record IsCut (text : List ℕ) : Type 0 where
  pub behind : List ℕ
  pub from : from_slash text ≡ 47 ∷ behind
  pub segment : segment text ≡ before_slash text ++ 47 ∷ []

pub a_slash : (text : List ℕ) → has_slash text ≡ true → IsCut text
a_slash [] h = absurd cc
a_slash (o ∷ text) h = by (o == 47) refl h (a_slash text)
  where
    by : (b : Bool) → (o == 47) ≡ b → cond b true (has_slash text) ≡ true → (has_slash text ≡ true → IsCut text) → IsCut (o ∷ text)
    by true e h rest =
        let is : o ≡ 47 = grind (arith, nat_tests) in
        record {
          behind = text;
          from = rw e (ap (λ (x : ℕ). x ∷ text) is);
          segment = rw e (ap (λ (x : ℕ). x ∷ []) is);
        }
    by false e h rest = record {
      behind = (rest h).behind;
      from = rw e (rest h).from;
      segment = rw e (ap (λ (l : List ℕ). o ∷ l) (rest h).segment);
    }

-- a text without what is before its first slash
pub drop_before : (text : List ℕ) → drop (length (before_slash text)) text ≡ from_slash text
drop_before [] = refl
drop_before (o ∷ text) = by (o == 47) refl (drop_before text)
  where
    by : (b : Bool) → (o == 47) ≡ b → drop (length (before_slash text)) text ≡ from_slash text → drop (length (before_slash (o ∷ text))) (o ∷ text) ≡ from_slash (o ∷ text)
    by true e rest = rw e refl
    by false e rest = rw e rest

dropped : (n : ℕ) (text : List ℕ) → has_slash text ≡ false → has_slash (drop n text) ≡ false
dropped zero text h = h
dropped (suc n) [] h = refl
dropped (suc n) (o ∷ text) h = by (o == 47) h (dropped n text)
  where
    by : (b : Bool) → cond b true (has_slash text) ≡ false → (has_slash text ≡ false → has_slash (drop n text) ≡ false) → has_slash (drop n text) ≡ false
    by true h rest = absurd cc
    by false h rest = rest h

-- a text without a slash does not end with one
uncut : (text : List ℕ) → has_slash text ≡ false → cuts text (47 ∷ []) ≡ false
uncut text h = by (ends_with nat_eq text (47 ∷ [])) refl
  where
    by : (b : Bool) → ends_with nat_eq text (47 ∷ []) ≡ b → cuts text (47 ∷ []) ≡ false
    by true e =
        let last : 47 ∷ [] ≡ drop (length text - 1) text = (bytes_decides (47 ∷ []) (drop (length text - 1) text)).0 e in
        let none : true ≡ false = ap has_slash last ∙ dropped (length text - 1) text h in
        absurd cc
    by false e = rw e (grind (arith, nat_tests))

ends_cut : (text : List ℕ) → ends_with nat_eq (text ++ 47 ∷ []) (47 ∷ []) ≡ true
ends_cut text =
    let n : length (text ++ 47 ∷ []) - 1 ≡ length text = omega (arith, length-append {A = ℕ}) in
    rw (n, drop-append_seam text (47 ∷ [])) refl

-- what the router may take for a part at the start of a text
pub data Start (text : List ℕ) : Type 0 where
  whole : has_slash text ≡ false → cuts (segment text) (47 ∷ []) ≡ false → IsWhole text → Start text
  empty : has_slash text ≡ true → cuts (segment text) (47 ∷ []) ≡ false → length (before_slash text) ≡ 0 → Start text
  part : has_slash text ≡ true → cuts (segment text) (47 ∷ []) ≡ true → 0 < length (before_slash text) → IsCut text → Start text

pub start : (text : List ℕ) → Start text
start text = by (has_slash text) refl
  where
    cut : (n : ℕ) → length (before_slash text) ≡ n → has_slash text ≡ true → IsCut text → Start text
    cut zero e h is =
        let none : cuts (segment text) (47 ∷ []) ≡ false = rw is.segment (grind (arith, nat_tests, length-append (before_slash text) (47 ∷ []))) in
        empty h none e
    cut (suc n) e h is =
        let some : cuts (segment text) (47 ∷ []) ≡ true = rw (is.segment, ends_cut (before_slash text)) (grind (arith, nat_tests, length-append (before_slash text) (47 ∷ []))) in
        part h some (omega arith) is

    by : (b : Bool) → has_slash text ≡ b → Start text
    by true e = cut (length (before_slash text)) refl e (a_slash text e)
    by false e =
        let is = no_slash text e in
        let none : cuts (segment text) (47 ∷ []) ≡ false = rw is.segment (uncut text e) in
        whole e none is
