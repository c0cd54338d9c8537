-- A stream begins with one whole request at most.
use Rattle.std.proofs.Common.{◌≡◌, ℕ, List, [], ◌∷◌, ◌++◌, ◌∙◌, sym, ap, refl, append_assoc, length, arith}
use Rattle.httparse.specs.Grammar.{ReadsRequest, print_request}
use Rattle.httparse.proofs.GrammarLemmas.{request_unique}
use Rattle.office_wire.specs.declared.length.Ask.{Ask}
use Rattle.office_wire.specs.declared.length.Ask.TheVariants.{Body}
use Rattle.office_wire.specs.Lengths.{ask_of}
use Rattle.office_wire.specs.Exchange.{octets_of, FramingIsUnique}

-- two lists of one length at the front of one list are equal
fronts_equal : (a b x y : List ℕ) → length a ≡ length b → a ++ x ≡ b ++ y → (a ≡ b) × (x ≡ y)
fronts_equal [] [] x y n e = (refl, e)
fronts_equal [] (q ∷ b) x y n e = absurd (omega arith)
fronts_equal (p ∷ a) [] x y n e = absurd (omega arith)
fronts_equal (p ∷ a) (q ∷ b) x y n e =
    let len : length a ≡ length b = omega arith in
    let tails : a ++ x ≡ b ++ y = cc in
    let head : p ≡ q = cc in
    let same = fronts_equal a b x y len tails in
    (cc, same.1)

body_of_ask : (m n : ℕ) → (let a : Ask = Body m in let b : Ask = Body n in a ≡ b) → m ≡ n
body_of_ask m n e = cc

pub framing_unique : FramingIsUnique
unfolding octets_of
framing_unique t u x y p q e =
    let stream = octets_of t ++ x in
    let left : ReadsRequest stream t.head (t.body ++ x) = (p.head.valid, append_assoc (print_request t.head) t.body x) in
    let right : ReadsRequest stream u.head (u.body ++ y) = (q.head.valid, e ∙ append_assoc (print_request u.head) u.body y) in
    let same = request_unique stream t.head u.head (t.body ++ x) (u.body ++ y) left right in
    let asks : ask_of t.head ≡ ask_of u.head = ap ask_of same.0 in
    let len : length t.body ≡ length u.body = body_of_ask _ _ (sym p.body ∙ asks ∙ q.body) in
    let parts = fronts_equal t.body u.body x y len same.1 in
    (same.0, parts.0, parts.1)
