-- How parts are filled.
use Rattle.std.proofs.Common.{◌≡◌, ◌∙◌, ℕ, zero, suc, ◌+◌, ◌<◌, ◌≤◌, List, [], ◌∷◌, ◌++◌, length, get_or, map, drop, true, false, arith, refl, sym, ap, append_assoc}
use Rattle.zone_core.specs.Updates.{UpdateOf}
use Rattle.update_lines.specs.Reading.{behind, no_items}
use Rattle.cli_updates.specs.Octets.{sum_up}
use Rattle.cli_updates.specs.Filling.{PieceOf, filled, takes}

-- what is left of items, from one on
pub drop_next : {X : Type 0} (xs : List X) (i : ℕ) (x : X) → i < length xs → x ≡ get_or xs i x → drop i xs ≡ x ∷ drop (i + 1) xs
drop_next [] i x lt is = absurd (omega arith)
drop_next (y ∷ ys) zero x lt is = ap (λ z. z ∷ ys) (sym is)
drop_next (y ∷ ys) (suc i) x lt is =
    let one : suc i + 1 ≡ suc (i + 1) = omega arith in
    drop_next ys i x (omega arith) is ∙ ap (λ n. x ∷ drop n (y ∷ ys)) (sym one)

pub drop_all : {X : Type 0} (xs : List X) (i : ℕ) → length xs ≤ i → drop i xs ≡ []
drop_all [] zero le = refl
drop_all [] (suc i) le = refl
drop_all (x ∷ xs) zero le = absurd (omega arith)
drop_all (x ∷ xs) (suc i) le = drop_all xs i (omega arith)

-- one piece more, where it is taken, and where it is not
pub filled_on : (frame n : ℕ) (u : UpdateOf) (p : PieceOf) (ps : List PieceOf) → takes n u p ≡ true
    → filled frame (sum_up n p.octets) (behind u p.items) ps ≡ filled frame n u (p ∷ ps)
filled_on frame n u p ps t = rw t refl

pub filled_anew : (parts : List UpdateOf) (frame n : ℕ) (u : UpdateOf) (p : PieceOf) (ps : List PieceOf) → takes n u p ≡ false
    → (parts ++ u ∷ []) ++ filled frame (sum_up frame p.octets) p.items ps ≡ parts ++ filled frame n u (p ∷ ps)
filled_anew parts frame n u p ps f = rw f (append_assoc parts (u ∷ []) (filled frame (sum_up frame p.octets) p.items ps))

-- one piece more of those that are left
pub filled_next : {X : Type 0} (view : X → PieceOf) (parts : List UpdateOf) (frame n : ℕ) (u : UpdateOf) (xs : List X) (i : ℕ) (x : X) → i < length xs → x ≡ get_or xs i x
    → parts ++ filled frame n u (view x ∷ map view (drop (i + 1) xs)) ≡ parts ++ filled frame n u (map view (drop i xs))
filled_next view parts frame n u xs i x lt is = sym (ap (λ ys. parts ++ filled frame n u (map view ys)) (drop_next xs i x lt is))

pub filled_last : {X : Type 0} (view : X → PieceOf) (parts : List UpdateOf) (frame n : ℕ) (u : UpdateOf) (xs : List X) (i : ℕ) → length xs ≤ i
    → parts ++ u ∷ [] ≡ parts ++ filled frame n u (map view (drop i xs))
filled_last view parts frame n u xs i le = sym (ap (λ ys. parts ++ filled frame n u (map view ys)) (drop_all xs i le))

-- the same of a part without items that is filled anew
pub filled_fresh : (parts all : List UpdateOf) (frame n m : ℕ) (u fresh : UpdateOf) (p : PieceOf) (ps : List PieceOf) → takes n u p ≡ false
    → all ≡ parts ++ u ∷ [] → fresh ≡ no_items → m ≡ frame
    → all ++ filled frame (sum_up m p.octets) (behind fresh p.items) ps ≡ parts ++ filled frame n u (p ∷ ps)
filled_fresh parts all frame n m u fresh p ps f is bare same = rw (is, bare, same) (filled_anew parts frame n u p ps f)
