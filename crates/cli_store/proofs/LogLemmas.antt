-- What is asked for of a log, and its text, piece by piece.
use Rattle.std.proofs.Common.{◌≡◌, ℕ, suc, ◌+◌, ◌<◌, ◌≤◌, Bool, true, false, ◌&&◌, ◌||◌, List, [], ◌∷◌, ◌++◌, length, take, get_or, map, Option, Some, None, refl, sym, ap, ◌∙◌, append_assoc, add-zero, arith}
use Rattle.std.proofs.lemmas.Grind.{flat_map-append}
use Rattle.std.proofs.lemmas.List.{length-map, length-take-le, map-append, take_all, take_more}
use Rattle.std.proofs.lemmas.List.Elements.{filter-append}
use Rattle.std.proofs.lemmas.List.Folds.{list_any-append}
use Rattle.std.specs.List.{filter, flat_map, list_any}
use Rattle.dns_names.specs.Labels.{is_within}
use Rattle.dns_data.specs.declared.record.Record.{Record}
use Rattle.zone_core.specs.declared.change.Change.{Change}
use Rattle.zone_core.specs.Changes.{ChangeOf, change_in}
use Rattle.zone_core.specs.Updates.{UpdateOf, tested_name, acted_name}
use Rattle.office_model.specs.Replies.{NumberedOf}
use Rattle.office_core.specs.Machine.{numbered}
use Rattle.cli_store.specs.Log.{passes, some_within, numbered_as, update_names}

-- ---- what is asked for

pub any_map : {X Y : Type 0} (p : Y → Bool) (f : X → Y) (xs : List X) → list_any p (map f xs) ≡ list_any (λ x. p (f x)) xs
any_map p f [] = refl
any_map p f (x ∷ xs) = ap (λ b. p (f x) || b) (any_map p f xs)

-- whether one of two tests passes, where the first one does, and where it does not
pub by_first : (a b r : Bool) → r ≡ a → r ≡ true → r ≡ (a || b)
by_first true b r e t = e
by_first false b r e t = absurd (let bad : true ≡ false = sym t ∙ e in cc)

pub by_second : (a b r s : Bool) → r ≡ a → r ≡ false → s ≡ b → s ≡ (a || b)
by_second true b r s e f is = absurd (let bad : true ≡ false = sym e ∙ f in cc)
by_second false b r s e f is = is

-- and whether both pass, where the first one does
pub by_both : (a b r s : Bool) → r ≡ a → r ≡ true → s ≡ b → s ≡ (a && b)
by_both true b r s e t is = is
by_both false b r s e t is = absurd (let bad : true ≡ false = sym t ∙ e in cc)

pub items_within : (update : UpdateOf) (top : List (List ℕ))
    → (list_any (λ p. is_within (tested_name p) top) update.prerequisites || list_any (λ op. is_within (acted_name op) top) update.operations) ≡ some_within (update_names update) top
items_within update top =
    let within = λ (name : List (List ℕ)). is_within name top in
    sym
    (list_any-append within (map tested_name update.prerequisites) (map acted_name update.operations)
    ∙ (λ i. any_map within tested_name update.prerequisites i || any_map within acted_name update.operations i))

pub records_within : (removed added : List Record) (name : Option (List (List ℕ)))
    → passes (λ top. list_any (λ r. is_within r.owner top) removed || list_any (λ r. is_within r.owner top) added) name ≡ passes (some_within (map (λ r. r.owner) (removed ++ added))) name
records_within removed added None = refl
records_within removed added (Some top) =
    let within = λ (name : List (List ℕ)). is_within name top in
    sym (any_map within (λ r. r.owner) (removed ++ added) ∙ list_any-append (λ r. is_within r.owner top) removed added)

-- ---- piece by piece

-- after the last there is no more
pub all_taken : {X : Type 0} (all : List X → List ℕ) (first : List ℕ) (xs : List X) (i : ℕ) (text : List ℕ) → length xs ≤ i → text ≡ first ++ all (take i xs) → text ≡ first ++ all xs
all_taken {X} all first xs i text h so_far = so_far ∙ ap (λ (ys : List X). first ++ all ys) (take_all i xs h)

-- one more
pub one_taken : {X : Type 0} (all : List X → List ℕ) (first : List ℕ) (xs : List X) (i : ℕ) (x : X) (one text next : List ℕ) → i < length xs → x ≡ get_or xs i x
    → ((ys : List X) → length ys ≡ i → all (ys ++ x ∷ []) ≡ all ys ++ one) → text ≡ first ++ all (take i xs) → next ≡ text ++ one → next ≡ first ++ all (take (i + 1) xs)
one_taken {X} all first xs i x one text next below is step so_far more =
    let read : take (i + 1) xs ≡ take i xs ++ x ∷ [] = take_more xs i x below ∙ ap (λ (y : X). take i xs ++ y ∷ []) (sym is) in
    more ∙ ap (λ t. t ++ one) so_far ∙ append_assoc first (all (take i xs)) one
    ∙ ap (λ t. first ++ t) (sym (step (take i xs) (length-take-le i xs (omega (arith, below)))) ∙ ap all (sym read))

pub flat_kept : {X : Type 0} (text : X → List ℕ) (p : X → Bool) (xs ys : List X) → flat_map text (filter p (xs ++ ys)) ≡ flat_map text (filter p xs) ++ flat_map text (filter p ys)
flat_kept text p xs ys = ap (flat_map text) (filter-append p xs ys) ∙ flat_map-append text (filter p xs) (filter p ys)

-- the last change has the number of all that stand before it, and those
pub numbered_push : (n : ℕ) (cs : List ChangeOf) (c : ChangeOf) → numbered n (cs ++ c ∷ []) ≡ numbered n cs ++ numbered_as (n + length cs) c ∷ []
numbered_push n [] c = ap (λ (m : ℕ). numbered_as m c ∷ []) (sym (add-zero n))
numbered_push n (x ∷ xs) c =
    let counts : suc n + length xs ≡ n + suc (length xs) = omega arith in
    ap (λ (l : List NumberedOf). numbered_as n x ∷ l) (numbered_push (suc n) xs c ∙ ap (λ (m : ℕ). numbered (suc n) xs ++ numbered_as m c ∷ []) counts)

pub change_taken : (shown : NumberedOf → List ℕ) (p : NumberedOf → Bool) (cs : List Change) (i number : ℕ) (c : Change) → length cs ≡ i → number ≡ i + 1
    → flat_map shown (filter p (numbered 1 (map change_in (cs ++ c ∷ [])))) ≡ flat_map shown (filter p (numbered 1 (map change_in cs))) ++ flat_map shown (filter p (numbered_as number (change_in c) ∷ []))
change_taken shown p cs i number c long is =
    let counts : 1 + length (map change_in cs) ≡ number = omega (arith, length-map cs change_in, long, is) in
    ap (λ (l : List NumberedOf). flat_map shown (filter p l))
    (ap (numbered 1) (map-append change_in cs (c ∷ [])) ∙ numbered_push 1 (map change_in cs) (change_in c)
    ∙ ap (λ (m : ℕ). numbered 1 (map change_in cs) ++ numbered_as m (change_in c) ∷ []) counts)
    ∙ flat_kept shown p (numbered 1 (map change_in cs)) (numbered_as number (change_in c) ∷ [])
