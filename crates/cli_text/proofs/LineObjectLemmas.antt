-- The object of a line is what its members come to, each after a comma.
use Rattle.std.proofs.Common.{◌≡◌, ◌∙◌, ap, sym, subst, refl, ℕ, ◌<◌, ◌-◌, nat_lt, Bool, true, if◌then◌else◌, List, [], ◌∷◌, ◌++◌, length, map, take, drop, Bor, arith, rules, tests, append-nil, append_assoc, length-drop}
use Rattle.std.specs.List.{flat_map, join_with_byte}
use Rattle.std.proofs.lemmas.Grind.{flat_map-append}
use Rattle.std.proofs.lemmas.List.{drop-map, length-map, map-id, take_all}
use Rattle.cli_core.specs.declared.job.TextForm.{TextForm}
use Rattle.cli_core.specs.declared.job.TextForm.TheVariants.{Plain, Json}
use Rattle.cli_text.specs.declared.line_objects.LineKind.{LineKind}
use Rattle.cli_text.specs.declared.line_objects.Member.{Member}
use Rattle.wire_json.specs.Json.{member}
use Rattle.cli_text.specs.LineObjects.{member_in, member_if, place_of, value_at, each_after, in_form, IsPrintedAs}

-- ---- texts with an octet between each two

module _ {X : Type 0} (o : ℕ) (f : X → List ℕ) where
  after_one : (x : X) (xs : List X) → f x ++ flat_map (λ y. o ∷ f y) xs ≡ join_with_byte o (map f (x ∷ xs))
  after_one x [] = append-nil (f x)
  after_one x (y ∷ ys) = ap (λ (l : List ℕ). f x ++ o ∷ l) (after_one y ys)

  -- those of which each stands after the octet, but for the first octet
  pub joined : (xs : List X) → drop 1 (flat_map (λ x. o ∷ f x) xs) ≡ join_with_byte o (map f xs)
  joined [] = refl
  joined (x ∷ xs) = after_one x xs

pub joined_texts : (o : ℕ) (texts : List (List ℕ)) → drop 1 (each_after o texts) ≡ join_with_byte o texts
joined_texts o texts = joined o (λ (text : List ℕ). text) texts ∙ ap (join_with_byte o) (map-id texts)

pub in_brackets : (first list second third : List ℕ) → first ≡ 91 ∷ [] → second ≡ first ++ list → third ≡ second ++ 93 ∷ [] → third ≡ 91 ∷ list ++ 93 ∷ []
in_brackets first list second third p q r = r ∙ ap (λ (l : List ℕ). l ++ 93 ∷ []) (q ∙ ap (λ (l : List ℕ). l ++ list) p)

pub in_braces : (old list first second third : List ℕ) → first ≡ old ++ 123 ∷ [] → second ≡ first ++ list → third ≡ second ++ 125 ∷ []
    → third ≡ old ++ (123 ∷ list ++ 125 ∷ [])
in_braces old list first second third p q r =
    r ∙ ap (λ (l : List ℕ). l ++ 125 ∷ []) (q ∙ ap (λ (l : List ℕ). l ++ list) p ∙ append_assoc old (123 ∷ []) list) ∙ append_assoc old (123 ∷ list) (125 ∷ [])

-- ---- members

abbrev texts_of : List (Bor (List ℕ)) → List (List ℕ)
texts_of words = map (λ w. w.now) words

member_there : (words : List (Bor (List ℕ))) (m : Member) (place : ℕ) (value : List ℕ) → place ≡ place_of m.part → place < length words
    → value ≡ value_at m.part (texts_of (take (length words - place) (drop place words)))
    → member_if (texts_of words) (member_in m) ≡ member m.key.now value ∷ []
member_there words m place value at inside is =
    let there : place_of m.part < length (texts_of words) = omega (arith, at, length-map words (λ (w : Bor (List ℕ)). w.now)) in
    let yes : nat_lt (place_of m.part) (length (texts_of words)) ≡ true = search (rules, tests) in
    let whole : take (length words - place) (drop place words) ≡ drop place words = take_all (length words - place) (drop place words) (omega (arith, length-drop place words)) in
    let rest : texts_of (take (length words - place) (drop place words)) ≡ drop (place_of m.part) (texts_of words) =
    ap texts_of whole ∙ (sym (drop-map (λ (w : Bor (List ℕ)). w.now) place words) ∙ ap (λ (n : ℕ). drop n (texts_of words)) at) in
    ap (λ (b : Bool). if b then member m.key.now (value_at m.part (drop (place_of m.part) (texts_of words))) ∷ [] else []) yes
    ∙ ap (λ (v : List ℕ). member m.key.now v ∷ []) (sym (is ∙ ap (value_at m.part) rest))

-- if there are words from its place on
pub each_there : (words : List (Bor (List ℕ))) (m : Member) (place : ℕ) (value : List ℕ) → place ≡ place_of m.part → place < length words
    → value ≡ value_at m.part (texts_of (take (length words - place) (drop place words)))
    → each_after 44 (member_if (texts_of words) (member_in m)) ≡ 44 ∷ member m.key.now value
each_there words m place value at inside is = ap (each_after 44) (member_there words m place value at inside is) ∙ append-nil (44 ∷ member m.key.now value)

pub each_values : {X : Type 0} (o : ℕ) (f : X → List (List ℕ)) (xs : List X) → flat_map (λ x. each_after o (f x)) xs ≡ each_after o (flat_map f xs)
each_values o f [] = refl
each_values o f (x ∷ xs) =
    ap (λ (l : List ℕ). each_after o (f x) ++ l) (each_values o f xs) ∙ sym (flat_map-append (λ (text : List ℕ). o ∷ text) (f x) (flat_map f xs))

each_of : (o : ℕ) (words : List (List ℕ)) (members : List Member)
    → flat_map (λ m. each_after o (member_if words (member_in m))) members ≡ each_after o (flat_map (member_if words) (map member_in members))
each_of o words [] = refl
each_of o words (m ∷ ms) =
    ap (λ (l : List ℕ). each_after o (member_if words (member_in m)) ++ l) (each_of o words ms)
    ∙ sym (flat_map-append (λ (text : List ℕ). o ∷ text) (member_if words (member_in m)) (flat_map (member_if words) (map member_in ms)))

pub members_joined : (words : List (List ℕ)) (members : List Member)
    → drop 1 (flat_map (λ m. each_after 44 (member_if words (member_in m))) members) ≡ join_with_byte 44 (flat_map (member_if words) (map member_in members))
members_joined words members = ap (drop 1) (each_of 44 words members) ∙ joined_texts 44 (flat_map (member_if words) (map member_in members))

-- ---- what is printed

pub printed_as : (form : TextForm) (kind : LineKind) (Says : List ℕ → Type 0) (lines text : List ℕ) → Says lines → text ≡ in_form form kind lines
    → IsPrintedAs form kind Says text
printed_as Plain kind Says lines text says e = subst Says (sym e) says
printed_as Json kind Says lines text says e = (lines, says, e)
