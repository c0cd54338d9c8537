use Rattle.std.proofs.Common.{◌≡◌, codes, ℕ, false, List, refl, sym}
use Rattle.std.specs.Str.{bytes_eq}
use Rattle.std.proofs.lemmas.Bool.{false_from_ne_true}
use Rattle.std.proofs.lemmas.Slice.Eq.{bytes_eq-Decides}
use Rattle.cli_core.proofs.commands.check.subject_in.Goals as goal

-- another word is not equal
other : (a b : List ℕ) → ¬ (b ≡ a) → bytes_eq a b ≡ false
other a b apart = false_from_ne_true (bytes_eq a b) (λ e. apart (sym ((bytes_eq-Decides a b).0 e)))

pub returns-in_default : goal.returns-in_default
returns-in_default c =
    let t = c.args.word.now in
    rw (other (codes "policy") t c.in_default.not-policy) (rw (other (codes "isolation") t c.in_default.not-isolation)
    (rw (other (codes "rights") t c.in_default.not-rights) (rw (other (codes "expect") t c.in_default.not-expect)
    (rw (other (codes "reach") t c.in_default.not-reach) (rw (other (codes "zone") t c.in_default.not-zone) refl)))))
