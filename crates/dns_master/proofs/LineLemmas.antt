-- Lines of a text.
use Rattle.std.proofs.Common.{◌≡◌, ℕ, zero, suc, ◌+◌, ◌-◌, ◌≤◌, Bool, true, false, cond, eqb, List, [], ◌∷◌, length, take, drop, Some, Result, Ok, Err, refl, ap, ◌∙◌, arith}
use Rattle.std.proofs.lemmas.List.{length-take}
use Rattle.dns_master.specs.declared.master_fault.MasterFault.{MasterFault}
use Rattle.dns_master.specs.declared.shape.ShapeFault.{ShapeFault}
use Rattle.dns_master.specs.declared.shape.ShapeFault.TheVariants as shapes
use Rattle.dns_master.specs.Lines.{line_ends, line_at}
use Rattle.dns_master.specs.Faults.{on_line, on_lines, fault_line}

on_test : (b : Bool) (x y z : ℕ) → x ≡ y + z → cond b (suc x) x ≡ cond b (suc y) y + z
on_test true x y z e = omega arith
on_test false x y z e = e

-- the line ends before a place, counted on from one before it
pub line_split : (at start : ℕ) (text : List ℕ) → at ≤ start → line_ends (take start text) ≡ line_ends (take at text) + line_ends (drop at (take start text))
line_split zero start text h = omega arith
line_split (suc at) zero text h = absurd (omega arith)
line_split (suc at) (suc start) [] h = refl
line_split (suc at) (suc start) (o ∷ rest) h = on_test (eqb o 10) _ _ _ (line_split at start rest (omega arith))

on_bound : (b : Bool) (x n : ℕ) → x ≤ n → cond b (suc x) x ≤ suc n
on_bound true x n h = omega arith
on_bound false x n h = omega arith

pub line_ends_within : (text : List ℕ) → line_ends text ≤ length text
line_ends_within [] = omega arith
line_ends_within (o ∷ rest) = on_bound (eqb o 10) _ _ (line_ends_within rest)

-- a line counted on from a mark
pub counted_on : (text between : List ℕ) (at start line count : ℕ) → at ≤ start → line ≡ line_at text at → between ≡ drop at (take start text) → count ≡ line_ends between → line + count ≡ line_at text start
counted_on text between at start line count h marked is n =
    let ends : count ≡ line_ends (drop at (take start text)) = n ∙ ap line_ends is in
    omega (arith, ends, marked, line_split at start text h)

pub line_at_within : (text : List ℕ) (start : ℕ) → line_at text start ≤ suc (length text)
line_at_within text start = omega (arith, line_ends_within (take start text), length-take start text)

-- the line of a fault of parentheses or quotes is one of the text
told_within : (text : List ℕ) (fault : ShapeFault) (line : ℕ) → fault_line (on_line text fault) ≡ Some line → line ≤ suc (length text)
told_within text (shapes.ParenOpen left) line e = let same : line_at text (length text - left) ≡ line = cc e in omega (arith, same, line_at_within text (length text - left))
told_within text (shapes.ParenClose left) line e = let same : line_at text (length text - left) ≡ line = cc e in omega (arith, same, line_at_within text (length text - left))
told_within text (shapes.QuoteOpen left) line e = let same : line_at text (length text - left) ≡ line = cc e in omega (arith, same, line_at_within text (length text - left))
told_within text shapes.NoMemory line e = absurd (cc e)

pub fault_line_within : {A : Type 0} (text : List ℕ) (read : Result A ShapeFault) (fault : MasterFault) (line : ℕ) → on_lines text read ≡ Err fault → fault_line fault ≡ Some line → line ≤ suc (length text)
fault_line_within text (Ok x) fault line e is = absurd (cc e)
fault_line_within text (Err shape) fault line e is = let same : on_line text shape ≡ fault = cc e in told_within text shape line (ap fault_line same ∙ is)
