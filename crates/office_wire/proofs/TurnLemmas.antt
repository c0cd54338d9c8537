-- A request at the front of octets, and its turn.
use Rattle.std.proofs.Common.{◌≡◌, ◌||◌, Bool, ◌<◌, ◌≤◌, ◌-◌, ◌+◌, ℕ, drop, take, length, List, [], ◌∷◌, ◌++◌, ◌∙◌, sym, ap, refl, arith, length-append, length-drop, append_assoc}
use Rattle.std.specs.List.{slice_range}
use Rattle.std.proofs.lemmas.List.{take-append-drop, length-take-le, drop-drop}
use Rattle.httparse.specs.Grammar.{RequestHead, print_request}
use Rattle.grant_policy.specs.declared.rule.Rule.{Rule}
use Rattle.office_wire.specs.declared.length.Ask.{Ask}
use Rattle.office_wire.specs.declared.length.Ask.TheVariants.{Body}
use Rattle.office_wire.specs.declared.head.Heading.{Heading}
use Rattle.office_wire.specs.declared.response.Response.{Response}
use Rattle.office_wire.specs.Framing.{IsHeading}
use Rattle.office_wire.specs.Lengths.{ask_of}
use Rattle.office_wire.specs.Requests.{call_of}
use Rattle.office_wire.specs.Texts.{text_of}
use Rattle.office_wire.specs.Exchange.{Turn, is_last, names_nobody, octets_of, turn_text, IsTurn, IsHead, Standing, Answers, Run}

slice_len : (pending : List ℕ) (len n : ℕ) → len + n ≤ length pending → length (slice_range pending len (len + n)) ≡ n
slice_len pending len n within =
    let k : (len + n) - len ≡ n = omega arith in
    let enough : (len + n) - len ≤ length (drop len pending) = simp length-drop (omega arith) in
    length-take-le ((len + n) - len) (drop len pending) enough ∙ k

slice_split : (pending : List ℕ) (len n : ℕ) → drop len pending ≡ slice_range pending len (len + n) ++ drop (len + n) pending
slice_split pending len n =
    let k : (len + n) - len ≡ n = omega arith in
    sym (take-append-drop n (drop len pending)) ∙ ap (λ (l : List ℕ). take n (drop len pending) ++ l) (drop-drop n len pending)
    ∙ ap (λ (j : ℕ). take j (drop len pending) ++ drop (len + n) pending) (sym k)

-- what is known of a request that was answered so
pub record IsReady (rules : List Rule) (c : Standing) (pending out : List ℕ) (g : Heading) (n : ℕ) (response : Response) (last : Bool) (d : Standing) : Type 0 where
  pub turn : Turn
  pub said : turn.response ≡ response
  pub is : IsTurn turn
  pub run : Run rules c (turn ∷ []) d
  pub closing : is_last turn ≡ last
  pub octets : pending ≡ octets_of turn ++ drop (g.len + n) pending
  pub text : out ≡ turn_text turn

pub ready : (rules : List Rule) (c d : Standing) (pending out : List ℕ) (h : RequestHead) (g : Heading) (n : ℕ) (response : Response) (last : Bool)
    → IsHeading g h → IsHead h → ask_of h ≡ Body n → pending ≡ print_request h ++ drop g.len pending → g.len + n ≤ length pending
    → Answers rules c (call_of h (slice_range pending g.len (g.len + n))) response d → last ≡ g.closes || names_nobody response → out ≡ text_of g.method response last
    → IsReady rules c pending out g n response last d
unfolding octets_of turn_text
ready rules c d pending out h g n response last is head asks front within answers last_is text =
    let body = slice_range pending g.len (g.len + n) in
    let shut = last_is ∙ ap (λ (b : Bool). b || names_nobody response) is.closes in
    record {
      turn = record { head = h; body = body; response = response };
      said = refl;
      is = record { head = head; body = asks ∙ ap (λ (k : ℕ). let a : Ask = Body k in a) (sym (slice_len pending g.len n within)) };
      run = (d, answers, refl);
      closing = sym shut;
      octets = front ∙ ap (λ (l : List ℕ). print_request h ++ l) (slice_split pending g.len n) ∙ sym (append_assoc (print_request h) body (drop (g.len + n) pending));
      text = text ∙ (λ i. text_of (is.asked.method i) response (shut i));
    }

pub head_some : (h : RequestHead) → 0 < length (print_request h)
unfolding print_request
head_some h = simp length-append (omega arith)
