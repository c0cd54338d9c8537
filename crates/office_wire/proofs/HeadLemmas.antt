-- Heads at the front of octets.
use Rattle.std.proofs.Common.{◌≡◌, ◌<◌, ◌≤◌, ◌-◌, ◌+◌, ◌*◌, ℕ, drop, take, length, List, [], ◌∷◌, ◌++◌, ◌∙◌, sym, ap, subst, arith, length-append, length-drop, append_assoc, append-nil, map, inl, inr}
use Rattle.std.specs.List.{All, flat_map}
use Rattle.std.proofs.lemmas.List.{take-append-drop, take-append-le, length-map}
use Rattle.std.proofs.lemmas.Bool.{cases_lt}
use Rattle.std.proofs.lemmas.Grind.{common_steps}
use Rattle.std.proofs.lemmas.List.Elements.{All-head, All-tail}
use Rattle.std.proofs.Math.Seq.{take-append-add, drop-append_seam}
use Rattle.httparse.specs.Grammar.{Field, IsField, print_field, print_end, LineEnd, crlf, lf, RequestHead, IsRequestHead, ReadsRequest, print_request, HasNoRequest, MayBecomeRequest}
use Rattle.httparse.specs.Spans.{RequestOverflows, header_bytes, name_and_value}
use Rattle.httparse.specs.declared.spans.HeaderSpan.{HeaderSpan}
use Rattle.httparse.proofs.GrammarLemmas.{request_unique, ReadsRequest-append}
use Rattle.office_wire.specs.declared.length.Ask.{Ask}
use Rattle.office_wire.specs.declared.length.Ask.TheVariants.{Body}
use Rattle.office_wire.specs.Lengths.{ask_of}
use Rattle.office_wire.specs.Framing.{WaitsUpTo}
use Rattle.office_wire.specs.Exchange.{IsHead, IsUnderWay, nothing, in_head, in_body, Waits, NeverHead, AsksMore}

end_long : (e : LineEnd) → 1 ≤ length (print_end e)
end_long crlf = omega arith
end_long lf = omega arith

field_long : (f : Field) → IsField f → 3 ≤ length (print_field f)
field_long f is =
    let name = is.name.0 in
    let ending = end_long f.end in
    simp length-append (omega arith)

pub fields_long : (fields : List Field) → All IsField fields → 3 * length fields ≤ length (flat_map print_field fields)
fields_long [] all = omega arith
fields_long (f ∷ fields) all =
    let one = field_long f (All-head IsField f fields all) in
    let more = fields_long fields (All-tail IsField f fields all) in
    let whole : length (flat_map print_field (f ∷ fields)) ≡ length (print_field f) + length (flat_map print_field fields) = length-append (print_field f) (flat_map print_field fields) in
    let count : length (f ∷ fields) ≡ length fields + 1 = grind (arith, common_steps) in
    omega arith

pub head_long : (h : RequestHead) → IsRequestHead h → 3 * length h.fields ≤ length (print_request h)
unfolding print_request
head_long h is =
    let fields = fields_long h.fields is.fields in
    simp length-append (omega arith)

pub never_from_overflow : (window : List ℕ) → RequestOverflows 5462 window → NeverHead window
never_from_overflow window over = record {
  never = λ more h rest reads. let many = over more h rest reads in let long = head_long h reads.0 in omega arith;
}

pub never_more : (window more : List ℕ) → NeverHead window → NeverHead (window ++ more)
never_more window more is = record {
  never = λ later h rest reads. is.never (more ++ later) h rest (reads.0, sym (append_assoc window more later) ∙ reads.1);
}

pub never_from_window : (bytes : List ℕ) → NeverHead (take 16384 bytes) → NeverHead bytes
never_from_window bytes is = subst (λ (l : List ℕ). NeverHead l) (take-append-drop 16384 bytes) (never_more (take 16384 bytes) (drop 16384 bytes) is)

-- a front that is no longer than the window stands in the window
pub in_window : (k : ℕ) (bytes more front rest : List ℕ) → k ≤ length bytes → length front ≤ k → bytes ++ more ≡ front ++ rest
    → take k bytes ≡ front ++ take (k - length front) rest
in_window k bytes more front rest enough fits e =
    let split : length front + (k - length front) ≡ k = omega arith in
    sym (take-append-le k bytes more enough) ∙ ap (λ (l : List ℕ). take k l) e
    ∙ ap (λ (j : ℕ). take j (front ++ rest)) (sym split) ∙ take-append-add front rest (k - length front)

pub never_from_none : (bytes : List ℕ) → 16384 ≤ length bytes → HasNoRequest (take 16384 bytes) → NeverHead bytes
never_from_none bytes enough none = record {
  never = λ more h rest reads. elim (cases_lt 16384 (length (print_request h))) [
    | inl long ↦ long
    | inr short ↦ absurd (none h (take (16384 - length (print_request h)) rest) (reads.0, in_window 16384 bytes more (print_request h) rest enough short reads.1))
  ];
}

pub waits_from_none : (bytes : List ℕ) → HasNoRequest bytes → length bytes < 16384 → MayBecomeRequest bytes → Waits bytes
waits_from_none bytes none short may = record { more = λ h rest reads. absurd (none h rest reads); under_way = in_head short may }

-- what a window reads, all the octets do
pub reads_all : (bytes tail : List ℕ) (h : RequestHead) → ReadsRequest (take 16384 bytes) h tail → ReadsRequest bytes h (tail ++ drop 16384 bytes)
reads_all bytes tail h reads =
    subst (λ (l : List ℕ). ReadsRequest l h (tail ++ drop 16384 bytes)) (take-append-drop 16384 bytes)
    (ReadsRequest-append (take 16384 bytes) h tail (drop 16384 bytes) reads)

-- what follows a head is what is left after its length
pub rest_is : (bytes rest : List ℕ) (h : RequestHead) (n : ℕ) → ReadsRequest bytes h rest → n ≡ length (print_request h) → (rest ≡ drop n bytes)
rest_is bytes rest h n reads len =
    sym (drop-append_seam (print_request h) rest) ∙ ap (λ (l : List ℕ). drop (length (print_request h)) l) (sym reads.1) ∙ ap (λ (k : ℕ). drop k bytes) (sym len)

pub reads_whole : (bytes tail : List ℕ) (h : RequestHead) (n : ℕ) → ReadsRequest (take 16384 bytes) h tail → n ≡ length (print_request h)
    → ReadsRequest bytes h (drop n bytes)
reads_whole bytes tail h n reads len =
    let all = reads_all bytes tail h reads in
    subst (λ (l : List ℕ). ReadsRequest bytes h l) (rest_is bytes _ h n all len) all

pub waits_from_short : (bytes rest : List ℕ) (h : RequestHead) (n : ℕ) → IsHead h → ReadsRequest bytes h rest → ask_of h ≡ Body n → length rest < n → Waits bytes
waits_from_short bytes rest h n is reads asks short = record {
  under_way = in_body h rest n is reads asks short;
  more = λ k q other.
      let same = request_unique bytes h k rest q reads other in
      let ask : ask_of k ≡ Body n = ap ask_of (sym same.0) ∙ asks in
      let less : length q < n = subst (λ (l : List ℕ). length l < n) same.1 short in
      subst (λ (a : Ask). AsksMore a (length q)) (sym ask) less;
}

-- ---- until so many octets are there

pub waits_up_to_none : (bytes : List ℕ) → WaitsUpTo bytes 0
waits_up_to_none bytes more small = absurd (omega arith)

pub waits_up_to_body : (bytes : List ℕ) (h : RequestHead) (len n : ℕ) → IsHead h → ReadsRequest bytes h (drop len bytes) → len ≤ length bytes → ask_of h ≡ Body n
    → WaitsUpTo bytes (len + n)
waits_up_to_body bytes h len n is reads within asks more small =
    let whole = length-append bytes more in
    let left : length (drop len bytes ++ more) < n = simp (length-append, length-drop) (omega (arith, whole)) in
    waits_from_short (bytes ++ more) (drop len bytes ++ more) h n is (ReadsRequest-append bytes h (drop len bytes) more reads) asks left

pub waits_with_more : (old got now : List ℕ) (n : ℕ) → now ≡ old ++ got → WaitsUpTo old n → WaitsUpTo now n
waits_with_more old got now n is waits more small =
    let e : now ++ more ≡ old ++ (got ++ more) = ap (λ (l : List ℕ). l ++ more) is ∙ append_assoc old got more in
    rw e (waits (got ++ more) (rw e at small))

pub waits_now : (bytes : List ℕ) (n : ℕ) → WaitsUpTo bytes n → length bytes < n → Waits bytes
waits_now bytes n waits small =
    let e = append-nil bytes in
    rw e at (waits [] (rw e small))

pub same_number : (n m : ℕ) → (let a : Ask = Body n in a) ≡ Body m → n ≡ m
same_number n m e = cc

pub spans_count : (buf : List ℕ) (spans : List HeaderSpan) (fields : List Field) → map (header_bytes buf) spans ≡ map name_and_value fields → length spans ≡ length fields
spans_count buf spans fields e =
    sym (length-map spans (header_bytes buf)) ∙ ap (λ (l : List (List ℕ × List ℕ)). length l) e ∙ length-map fields name_and_value

-- where a request is under way, and what stands at the front is no head within the limit, no head stands there whole
shorter : (bytes rest : List ℕ) (h : RequestHead) → ReadsRequest bytes h rest → length (print_request h) ≤ length bytes
shorter bytes rest h reads =
    let whole = ap (λ (l : List ℕ). length l) reads.1 ∙ length-append (print_request h) rest in omega arith

never_now : (bytes rest : List ℕ) (h : RequestHead) → NeverHead bytes → ReadsRequest bytes h rest → 16384 < length (print_request h)
never_now bytes rest h never reads = never.never [] h rest (reads.0, append-nil bytes ∙ reads.1)

none_under_way : (bytes : List ℕ) → IsUnderWay bytes → NeverHead bytes → HasNoRequest bytes
none_under_way bytes (nothing none) never = λ h rest reads.
    let long = never_now bytes rest h never reads in let fits = shorter bytes rest h reads in omega arith
none_under_way bytes (in_head short may) never = λ h rest reads.
    let long = never_now bytes rest h never reads in let fits = shorter bytes rest h reads in omega arith
none_under_way bytes (in_body k q n is reads asks less) never = λ h rest other.
    let long = never_now bytes q k never reads in let fits = is.short in absurd (omega arith)

pub none_while_waiting : (bytes : List ℕ) → Waits bytes → NeverHead bytes → HasNoRequest bytes
none_while_waiting bytes waits never = none_under_way bytes waits.under_way never
