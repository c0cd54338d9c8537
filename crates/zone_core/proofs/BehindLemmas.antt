-- What a loop makes of each item and puts after what there is.
use Rattle.std.proofs.Common.{◌≡◌, ℕ, ◌+◌, ◌<◌, ◌≤◌, Bool, true, false, List, [], ◌∷◌, ◌++◌, length, take, get_or, map, refl, sym, ap, ◌∙◌, append_assoc}
use Rattle.std.specs.List.{filter, flat_map}
use Rattle.std.proofs.lemmas.List.{take_all, take_more, append-nil, map_push}
use Rattle.std.proofs.lemmas.List.Elements.{filter-append}
use Rattle.std.proofs.lemmas.Grind.{flat_map-append}

-- one item more, of which `f` makes these
pub behind_more : {A B : Type 0} (f : List A → List B) (before : List B) (xs : List A) (i : ℕ) (x : A) (ys : List B) {now next : List B}
    → ((ps : List A) → f (ps ++ x ∷ []) ≡ f ps ++ ys)
    → i < length xs → x ≡ get_or xs i x → now ≡ before ++ f (take i xs) → next ≡ now ++ ys
    → next ≡ before ++ f (take (i + 1) xs)
behind_more {A} {B} f before xs i x ys more lt is so then =
    let e : take (i + 1) xs ≡ take i xs ++ x ∷ [] = take_more xs i x lt ∙ ap (λ (y : A). take i xs ++ y ∷ []) (sym is) in
    then ∙ ap (λ (l : List B). l ++ ys) so ∙ append_assoc before (f (take i xs)) ys ∙ ap (λ (l : List B). before ++ l) (sym (more (take i xs)) ∙ ap f (sym e))

-- one item more, of which `f` makes nothing
pub behind_same : {A B : Type 0} (f : List A → List B) (before : List B) (xs : List A) (i : ℕ) (x : A) {now : List B}
    → ((ps : List A) → f (ps ++ x ∷ []) ≡ f ps)
    → i < length xs → x ≡ get_or xs i x → now ≡ before ++ f (take i xs)
    → now ≡ before ++ f (take (i + 1) xs)
behind_same {A} {B} f before xs i x {now} same lt is so =
    behind_more f before xs i x [] (λ ps. same ps ∙ sym (append-nil (f ps))) lt is so (sym (append-nil now))

-- all items
pub behind_all : {A B : Type 0} (f : List A → List B) (before : List B) (xs : List A) (i : ℕ) {now : List B} → now ≡ before ++ f (take i xs) → length xs ≤ i → now ≡ before ++ f xs
behind_all f before xs i so all = so ∙ ap (λ l. before ++ f l) (take_all i xs all)

-- an item that passes a test stays
pub filter_push : {A : Type 0} (p : A → Bool) (x : A) → p x ≡ true → (xs : List A) → filter p (xs ++ x ∷ []) ≡ filter p xs ++ x ∷ []
filter_push p x passes xs = filter-append p xs (x ∷ []) ∙ rw passes refl

-- and another does not
pub filter_skip : {A : Type 0} (p : A → Bool) (x : A) → p x ≡ false → (xs : List A) → filter p (xs ++ x ∷ []) ≡ filter p xs
filter_skip p x fails xs = filter-append p xs (x ∷ []) ∙ rw fails (append-nil (filter p xs))

-- so it is where something is made of those that stay
pub map_filter_push : {A B : Type 0} (g : A → B) (p : A → Bool) (x : A) → p x ≡ true → (xs : List A) → map g (filter p (xs ++ x ∷ [])) ≡ map g (filter p xs) ++ g x ∷ []
map_filter_push g p x passes xs = ap (map g) (filter_push p x passes xs) ∙ map_push g (filter p xs) x

-- what is made of one item more
pub flat_map_push : {A B : Type 0} (f : A → List B) (x : A) (xs : List A) → flat_map f (xs ++ x ∷ []) ≡ flat_map f xs ++ f x
flat_map_push f x xs = flat_map-append f xs (x ∷ []) ∙ ap (λ l. flat_map f xs ++ l) (append-nil (f x))
