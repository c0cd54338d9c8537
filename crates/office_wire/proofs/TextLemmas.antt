-- The texts of responses by their parts.
use Rattle.std.proofs.Common.{◌≡◌, ℕ, ◌-◌, Bool, List, [], ◌++◌, length, drop, ap, ◌∙◌, subst, codes, append-nil, arith, length-append}
use Rattle.std.proofs.Math.Seq.{drop-append_seam}
use Rattle.office_wire.specs.declared.method.Method.{Method}
use Rattle.office_wire.specs.declared.response.Response.{Response}
use Rattle.office_wire.specs.Texts.{head_parts, head_text, sent_body, status_of, type_of, response_body, text_of}

pub parts_text : (code phrase media digits end : List ℕ)
    → codes "HTTP/1.1 " ++ (code ++ (codes " " ++ (phrase ++ (codes "\r\nContent-Type: " ++ (media ++ (codes "\r\nContent-Length: " ++ (digits ++ (end ++ []))))))))
    ≡ head_parts code phrase media digits end
parts_text code phrase media digits end =
    ap (λ (l : List ℕ). codes "HTTP/1.1 " ++ (code ++ (codes " " ++ (phrase ++ (codes "\r\nContent-Type: " ++ (media ++ (codes "\r\nContent-Length: " ++ (digits ++ l)))))))) (append-nil end)

-- the head stands right before the body
pub placed_text : (method : Method) (response : Response) (closing : Bool) (shown head sent text front : List ℕ) (len count : ℕ) → shown ≡ head ++ sent → sent ≡ sent_body method (drop 256 text)
    → text ≡ front ++ response_body response → length front ≡ 256 → len ≡ length text → count ≡ len - 256 → head ≡ head_text (status_of response) (type_of response) count closing
    → shown ≡ text_of method response closing
unfolding text_of
placed_text method response closing shown head sent text front len count e out is room whole rest h =
    let body = response_body response in
    let back : drop 256 text ≡ body = ap (λ (l : List ℕ). drop 256 l) is ∙ subst (λ (k : ℕ). drop k (front ++ body) ≡ body) room (drop-append_seam front body) in
    let n : count ≡ length body = let all = ap (λ (l : List ℕ). length l) is ∙ length-append front body in omega (arith, rest, whole, all, room) in
    e ∙ (λ i. (h ∙ ap (λ (k : ℕ). head_text (status_of response) (type_of response) k closing) n) i ++ (out ∙ ap (sent_body method) back) i)
