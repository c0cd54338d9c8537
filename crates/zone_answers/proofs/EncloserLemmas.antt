-- The keys of the names above a name.
use Rattle.std.proofs.Common.{Bool, ◌≡◌, ◌⊎◌, ◌≢◌, Option, Some, None, ℕ, ◌<◌, List, [], ◌∷◌, ◌++◌, length, true, false, cond, ◌==◌, ◌||◌, inl, inr, refl, sym, ap, subst, ◌∙◌, arith, append_assoc, append-nil, length-append, nat_eq}
use Rattle.std.specs.Option.{option_map}
use Rattle.std.specs.List.{AllByRecursion, list_any, starts_with}
use Rattle.std.proofs.lemmas.Bool.Decides.{eqb_tells, nat_tests, same_from_decides}
use Rattle.dns_names.specs.Labels.{is_within}
use Rattle.dns_names.specs.Keys.{key_octet, label_front, key_of}
use Rattle.dns_names.proofs.KeyLaws.{key_cons, key_begins}
use Rattle.dns_names.proofs.NameLemmas.{is_within-Decides, within_from_key}
use Rattle.dns_data.specs.declared.record.Record.{Record}
use Rattle.zone_answers.specs.Answers.{Name, asterisk, Missing}
use Rattle.zone_answers.specs.AnswerTests.{is_there, wildcard_over, if_there, found_from}
use Rattle.zone_answers.specs.Places.{encloser_over, AreNearest, have_asterisks}
use Rattle.zone_answers.specs.declared.query_type.QueryType.{QueryType}
use Rattle.zone_core.proofs.BelowLemmas.{no_test}
use Rattle.zone_core.proofs.MetLemmas.{among_of, is_any}
use Rattle.zone_answers.proofs.SourceLemmas.{there-Decides}
use Rattle.std.proofs.lemmas.Bool.{false_from_ne_true}
use Rattle.zone_answers.proofs.PlaceLemmas.{encloser_same, wildcard_below}

-- ---- lists by their ends

snoc_cases : (xs : List ℕ) → (xs ≡ []) ⊎ ((front : List ℕ) × (last : ℕ) × (xs ≡ front ++ last ∷ []))
snoc_cases [] = inl refl
snoc_cases (x ∷ xs) = (elim (snoc_cases xs) [
  | inl none ↦ inr ([], x, ap (λ (l : List ℕ). x ∷ l) none)
  | inr some ↦ inr (x ∷ some.0, some.1, ap (λ (l : List ℕ). x ∷ l) some.2)
])

snoc_same : (xs ys : List ℕ) (x y : ℕ) → xs ++ x ∷ [] ≡ ys ++ y ∷ [] → (xs ≡ ys) × (x ≡ y)
snoc_same [] [] x y e = (refl, cc)
snoc_same [] (b ∷ ys) x y e = absurd (omega (arith, ap (length {A = ℕ}) e, length-append ys (y ∷ [])))
snoc_same (a ∷ xs) [] x y e = absurd (omega (arith, ap (length {A = ℕ}) e, length-append xs (x ∷ [])))
snoc_same (a ∷ xs) (b ∷ ys) x y e =
    let first : a ≡ b = cc in
    let rest : xs ++ x ∷ [] ≡ ys ++ y ∷ [] = cc in
    let both = snoc_same xs ys x y rest in
    ((λ i. first i ∷ both.0 i), both.1)

-- ---- a label's octets in a key

abbrev NotZero : ℕ → Type 0
NotZero o = o ≢ 0

all_front : (xs ys : List ℕ) → AllByRecursion NotZero xs → AllByRecursion NotZero ys → AllByRecursion NotZero (xs ++ ys)
all_front [] ys p q = q
all_front (x ∷ xs) ys p q = (p.0, all_front xs ys p.1 q)

octet_not_zero : (o : ℕ) → AllByRecursion NotZero (key_octet o)
octet_not_zero o = (elim (eqb_tells o 0) [
  | inl t ↦ subst (λ (n : ℕ). AllByRecursion NotZero (key_octet n)) (sym t.1) ((λ e. absurd (omega arith)), ((λ e. absurd (omega arith)), tt))
  | inr f ↦ (elim (eqb_tells o 1) [
    | inl t ↦ subst (λ (n : ℕ). AllByRecursion NotZero (key_octet n)) (sym t.1) ((λ e. absurd (omega arith)), ((λ e. absurd (omega arith)), tt))
    | inr g ↦ (let stands : key_octet o ≡ o ∷ [] = rw (f.0, g.0) refl in subst (AllByRecursion NotZero) (sym stands) ((λ e. f.1 e), tt))
  ])
])

label_not_zero : (label : List ℕ) → AllByRecursion NotZero (label_front label)
label_not_zero [] = tt
label_not_zero (o ∷ label) = all_front (key_octet o) (label_front label) (octet_not_zero o) (label_not_zero label)

middle : (front more : List ℕ) (o : ℕ) → AllByRecursion NotZero ((front ++ o ∷ []) ++ more) → o ≢ 0
middle [] more o all = all.0
middle (x ∷ front) more o all = middle front more o all.1

-- ---- the key above

-- what is left of a key, of whose first label the octets are taken from the end
pub record IsLeft (label : List ℕ) (labels : Name) (rest : List ℕ) : Type 0 where
  pub part : List ℕ
  pub more : List ℕ
  pub is : rest ≡ key_of labels ++ part
  pub octets : label_front label ≡ part ++ more

pub left_first : (label : List ℕ) (labels : Name) (key rest : List ℕ) (last : ℕ) → key ≡ key_of (label ∷ labels) → key ≡ rest ++ last ∷ [] → IsLeft label labels rest
left_first label labels key rest last is e = record {
  part = label_front label;
  more = [];
  is = (snoc_same rest (key_of labels ++ label_front label) last 0 (sym e ∙ is ∙ key_cons label labels)).0;
  octets = sym (append-nil (label_front label));
}

-- the last octet of what is left is one of the label
label_octet : (label : List ℕ) (labels : Name) (rest front : List ℕ) (octet : ℕ) → (left : IsLeft label labels rest) → rest ≡ front ++ octet ∷ []
    → ((part : List ℕ) × (left.part ≡ part ++ octet ∷ []) × (front ≡ key_of labels ++ part)) ⊎ (left.part ≡ [])
label_octet label labels rest front octet left e = (elim (snoc_cases left.part) [
  | inl none ↦ inr none
  | inr some ↦ inl (
      let whole : front ++ octet ∷ [] ≡ (key_of labels ++ some.0) ++ some.1 ∷ [] =
      sym e ∙ left.is ∙ ap (λ (l : List ℕ). key_of labels ++ l) some.2 ∙ sym (append_assoc (key_of labels) some.0 (some.1 ∷ [])) in
      let both = snoc_same front (key_of labels ++ some.0) octet some.1 whole in
      (some.0, some.2 ∙ ap (λ (o : ℕ). some.0 ++ o ∷ []) (sym both.1), both.0))
])

-- a key without labels is empty, and any other ends with 0
key_ends : (labels : Name) (front : List ℕ) (octet : ℕ) → key_of labels ≡ front ++ octet ∷ [] → octet ≡ 0
key_ends [] front octet e = absurd (omega (arith, ap (length {A = ℕ}) e, length-append front (octet ∷ [])))
key_ends (label ∷ labels) front octet e = (snoc_same front (key_of labels ++ label_front label) octet 0 (sym e ∙ key_cons label labels)).1

bare : (label : List ℕ) (labels : Name) (rest : List ℕ) (left : IsLeft label labels rest) → left.part ≡ [] → rest ≡ key_of labels
bare label labels rest left none = left.is ∙ ap (λ (l : List ℕ). key_of labels ++ l) none ∙ append-nil (key_of labels)

pub left_on : (label : List ℕ) (labels : Name) (rest front : List ℕ) (octet : ℕ) → IsLeft label labels rest → rest ≡ front ++ octet ∷ [] → octet ≢ 0 → IsLeft label labels front
left_on label labels rest front octet left e some = (elim (label_octet label labels rest front octet left e) [
  | inl found ↦ record { part = found.0; more = octet ∷ left.more; is = found.2; octets = left.octets ∙ ap (λ (l : List ℕ). l ++ left.more) found.1 ∙ append_assoc found.0 (octet ∷ []) left.more }
  | inr none ↦ absurd (some (key_ends labels front octet (sym (bare label labels rest left none) ∙ e)))
])

pub left_zero : (label : List ℕ) (labels : Name) (rest front : List ℕ) (octet : ℕ) → IsLeft label labels rest → rest ≡ front ++ octet ∷ [] → octet ≡ 0 → rest ≡ key_of labels
left_zero label labels rest front octet left e zero = (elim (label_octet label labels rest front octet left e) [
  | inl found ↦ absurd (middle found.0 left.more octet (subst (AllByRecursion NotZero) (left.octets ∙ ap (λ (l : List ℕ). l ++ left.more) found.1) (label_not_zero label)) zero)
  | inr none ↦ bare label labels rest left none
])

pub left_none : (label : List ℕ) (labels : Name) (rest : List ℕ) → IsLeft label labels rest → length rest ≡ 0 → rest ≡ key_of labels
left_none label labels rest left none = (elim (snoc_cases left.part) [
  | inl empty ↦ bare label labels rest left empty
  | inr some ↦ absurd (omega (arith, none, ap (length {A = ℕ}) left.is, length-append (key_of labels) left.part, ap (length {A = ℕ}) some.2, length-append some.0 (some.1 ∷ [])))
])

-- the key of a name that is no root has octets
pub key_some : (label : List ℕ) (labels : Name) (key : List ℕ) → key ≡ key_of (label ∷ labels) → 0 < length key
key_some label labels key is = omega (arith, ap (length {A = ℕ}) (is ∙ key_cons label labels), length-append (key_of labels ++ label_front label) (0 ∷ []))

-- ---- records within a name

within_by_key : (owner name : Name) (key : List ℕ) → key ≡ key_of name → starts_with nat_eq (key_of owner) key ≡ is_within owner name
within_by_key owner name key is =
    same_from_decides (starts_with nat_eq (key_of owner) key) (is_within owner name) (within_from_key owner name (key_of owner) key (starts_with nat_eq (key_of owner) key) refl is refl) (is_within-Decides owner name)

pub any_by_key : (near : List Record) (name : Name) (key : List ℕ) → key ≡ key_of name → list_any (λ (r : Record). starts_with nat_eq (key_of r.owner) key) near ≡ is_there near name
any_by_key [] name key is = refl
any_by_key (r ∷ near) name key is = λ i. within_by_key r.owner name key is i || any_by_key near name key is i

-- ---- the closest encloser

pub no_encloser : (near : List Record) (name : Name) (key : List ℕ) → key ≡ key_of name → (length key == 0) ≡ true → None ≡ option_map key_of (encloser_over near name)
no_encloser near [] key is none = refl
no_encloser near (label ∷ labels) key is none = let some = key_some label labels key is in absurd (grind (arith, nat_tests))

module _ (near : List Record) (key above : List ℕ) (some : (length key == 0) ≡ false) (is_above : (label : List ℕ) (labels : Name) → key ≡ key_of (label ∷ labels) → above ≡ key_of labels) where
  bare_key : {P : Type 0} → key ≡ key_of [] → P
  bare_key is = let e : length key ≡ 0 = ap (length {A = ℕ}) is in absurd (grind (arith, nat_tests))

  pub encloser_here : (name : Name) → key ≡ key_of name → list_any (λ (r : Record). starts_with nat_eq (key_of r.owner) above) near ≡ true → Some above ≡ option_map key_of (encloser_over near name)
  encloser_here [] is there = bare_key is
  encloser_here (label ∷ labels) is there =
      let e = is_above label labels is in
      ap (λ (k : List ℕ). Some k) e ∙ ap (λ b. option_map key_of (cond b (Some labels) (encloser_over near labels))) (sym there ∙ any_by_key near labels above e)

  pub encloser_above : (name : Name) → key ≡ key_of name → list_any (λ (r : Record). starts_with nat_eq (key_of r.owner) above) near ≡ false
      → (o : Option (List ℕ)) → ((n : Name) → above ≡ key_of n → o ≡ option_map key_of (encloser_over near n)) → o ≡ option_map key_of (encloser_over near name)
  encloser_above [] is gone o further = bare_key is
  encloser_above (label ∷ labels) is gone o further =
      let e = is_above label labels is in
      further labels e ∙ ap (λ b. option_map key_of (cond b (Some labels) (encloser_over near labels))) (sym gone ∙ any_by_key near labels above e)

-- ---- the wildcard below it

module _ (rs near : List Record) (name : Name) (nearest : AreNearest rs near name) where
  over_is : (o : Option Name) → encloser_over near name ≡ o → wildcard_over rs name ≡ option_map (λ (e : Name). asterisk ∷ e) o
  over_is o e = wildcard_below rs name ∙ ap (option_map (λ (e : Name). asterisk ∷ e)) (sym (encloser_same rs near name nearest) ∙ e)

  pub wildcard_some : (key : List ℕ) → Some key ≡ option_map key_of (encloser_over near name) → (encloser : Name) × (key ≡ key_of encloser) × (wildcard_over rs name ≡ Some (asterisk ∷ encloser))
  wildcard_some key e = by_encloser (encloser_over near name) refl e
    where
      by_encloser : (o : Option Name) → encloser_over near name ≡ o → Some key ≡ option_map key_of o → (encloser : Name) × (key ≡ key_of encloser) × (wildcard_over rs name ≡ Some (asterisk ∷ encloser))
      by_encloser None f g = absurd cc
      by_encloser (Some n) f g = (n, cc, over_is (Some n) f)

  pub wildcard_none : None ≡ option_map key_of (encloser_over near name) → wildcard_over rs name ≡ None
  wildcard_none e = by_encloser (encloser_over near name) refl e
    where
      by_encloser : (o : Option Name) → encloser_over near name ≡ o → None ≡ option_map key_of o → wildcard_over rs name ≡ None
      by_encloser None f g = over_is None f
      by_encloser (Some n) f g = absurd cc

-- ---- zones without wildcards

any_front : (p : ℕ → Bool) (xs ys : List ℕ) → list_any p xs ≡ true → list_any p (xs ++ ys) ≡ true
any_front p [] ys e = absurd cc
any_front p (x ∷ xs) ys e = by_test (p x) e (any_front p xs ys)
  where
    by_test : (b : Bool) → (b || list_any p xs) ≡ true → (list_any p xs ≡ true → list_any p (xs ++ ys) ≡ true) → (b || list_any p (xs ++ ys)) ≡ true
    by_test true f later = refl
    by_test false f later = later f

any_last : (p : ℕ → Bool) (xs : List ℕ) (x : ℕ) → p x ≡ true → list_any p (xs ++ x ∷ []) ≡ true
any_last p [] x e = ap (λ b. b || false) e
any_last p (y ∷ xs) x e = by_test (p y) (any_last p xs x e)
  where
    by_test : (b : Bool) → list_any p (xs ++ x ∷ []) ≡ true → (b || list_any p (xs ++ x ∷ [])) ≡ true
    by_test true f = refl
    by_test false f = f

module _ (rs : List Record) (bare : have_asterisks rs ≡ false) where
  pub no_wildcard : (name : Name) → is_there rs (asterisk ∷ name) ≡ false
  no_wildcard name =
      false_from_ne_true (is_there rs (asterisk ∷ name)) (λ t.
      let has = (there-Decides rs (asterisk ∷ name)).0 t in
      let begins = (key_begins (asterisk ∷ name) has.0.owner).0 has.2 in
      let is = λ (o : ℕ). nat_eq o 42 in
      let front : list_any is (((key_of name ++ 42 ∷ []) ++ 0 ∷ []) ++ begins.0) ≡ true =
      any_front is ((key_of name ++ 42 ∷ []) ++ 0 ∷ []) begins.0 (any_front is (key_of name ++ 42 ∷ []) (0 ∷ []) (any_last is (key_of name) 42 refl)) in
      let whole : key_of has.0.owner ≡ ((key_of name ++ 42 ∷ []) ++ 0 ∷ []) ++ begins.0 = begins.1 ∙ ap (λ (k : List ℕ). k ++ begins.0) (key_cons asterisk name) in
      no_test (have_asterisks rs) (is_any (λ r. list_any is (key_of r.owner)) rs has.0 (among_of rs has.0 has.1) (ap (list_any is) whole ∙ front)) bare)

  pub none_found : (name : Name) (asked : QueryType) → Missing ≡ found_from rs asked (if_there rs (Some (asterisk ∷ name)))
  none_found name asked = sym (ap (λ b. found_from rs asked (cond b (Some (asterisk ∷ name)) None)) (no_wildcard name))
