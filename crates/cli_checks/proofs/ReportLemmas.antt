-- Texts that are reported one after the other.
use Rattle.std.proofs.Common.{◌≡◌, ◌∙◌, ◌+◌, ◌<◌, ℕ, List, [], ◌∷◌, ◌++◌, length, take, get_or, ap, refl, sym, subst, append_assoc, append-nil}
use Rattle.std.proofs.lemmas.List.{take_more}
use Rattle.cli_checks.specs.ReportLines.{AreTexts}

-- the text of one more is after that of the others
pub one_more : {X : Type 0} (IsText : X → List ℕ → Type 0) (xs : List X) (x : X) (text here : List ℕ) → AreTexts IsText xs text → IsText x here
    → AreTexts IsText (xs ++ x ∷ []) (text ++ here)
one_more IsText [] x text here none is = (here, [], ap (λ t. t ++ here) none ∙ sym (append-nil here), is, refl)
one_more IsText (first ∷ xs) x text here all is =
    let rest = all.1 in
    (all.0, rest ++ here, ap (λ t. t ++ here) all.2 ∙ append_assoc all.0 rest here, all.3, one_more IsText xs x rest here all.4 is)

pub texts_more : {X : Type 0} (IsText : X → List ℕ → Type 0) (xs : List X) (i : ℕ) (d x : X) (text here next : List ℕ) → i < length xs → x ≡ get_or xs i d
    → AreTexts IsText (take i xs) text → IsText x here → next ≡ text ++ here → AreTexts IsText (take (i + 1) xs) next
texts_more {X} IsText xs i d x text here next below at so_far is e =
    let all = one_more IsText (take i xs) x text here so_far is in
    subst (λ (ys : List X). AreTexts IsText ys next) (sym (take_more xs i d below ∙ ap (λ (y : X). take i xs ++ y ∷ []) (sym at)))
    (subst (AreTexts IsText (take i xs ++ x ∷ [])) (sym e) all)
