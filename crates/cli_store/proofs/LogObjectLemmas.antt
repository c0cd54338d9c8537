-- The objects of a log, piece by piece.
use Rattle.std.proofs.Common.{◌≡◌, ℕ, List, [], ◌∷◌, ◌++◌, ap, ◌∙◌, append_assoc, codes}
use Rattle.wire_json.specs.Json.{member, object}

joined : (old a x b y c z e : List ℕ) → (((old ++ (a ++ x)) ++ (b ++ y)) ++ (c ++ z)) ++ e ≡ old ++ (a ++ (x ++ (b ++ (y ++ (c ++ (z ++ e))))))
joined old a x b y c z e = simp append_assoc

split_end : (x b y c z : List ℕ) → x ++ (b ++ (y ++ (c ++ (z ++ codes "}\n")))) ≡ ((x ++ (b ++ (y ++ (c ++ z)))) ++ 125 ∷ []) ++ 10 ∷ []
split_end x b y c z = simp append_assoc

-- a receipt is its caller, the reply and the request
pub receipt_joined : (old caller reply request first second third fourth : List ℕ) → first ≡ old ++ (codes "{\"caller\":" ++ caller) → second ≡ first ++ (codes ",\"reply\":" ++ reply)
    → third ≡ second ++ (codes ",\"request\":" ++ request) → fourth ≡ third ++ codes "}\n"
    → fourth ≡ old ++ (object (member (codes "caller") caller ∷ member (codes "reply") reply ∷ member (codes "request") request ∷ []) ++ 10 ∷ [])
receipt_joined old caller reply request first second third fourth p q r s =
    s
    ∙ ap (λ (l : List ℕ). l ++ codes "}\n") (r ∙ ap (λ (l : List ℕ). l ++ (codes ",\"request\":" ++ request)) (q ∙ ap (λ (l : List ℕ). l ++ (codes ",\"reply\":" ++ reply)) p))
    ∙ joined old (codes "{\"caller\":") caller (codes ",\"reply\":") reply (codes ",\"request\":") request (codes "}\n")
    ∙ ap (λ (l : List ℕ). old ++ (codes "{\"caller\":" ++ l)) (split_end caller (codes ",\"reply\":") reply (codes ",\"request\":") request)
