-- The table of octets that do not stand for themselves, and a run of octets by it.
use Rattle.std.proofs.Common.{◌≡◌, ℕ, zero, suc, ◌+◌, ◌<◌, ◌≤◌, Bool, true, false, cond, not, eqb, ◌&&◌, ◌||◌, List, [], ◌∷◌, length, drop, get_or, refl, sym, ap, subst, ◌∙◌, arith, ne_eqb}
use Rattle.std.proofs.lemmas.Bool.{and_parts, or_parts, eq-eqb}
use Rattle.std.proofs.lemmas.List.{drop_more, drop_all}
use Rattle.dns_master.specs.declared.scan.TheConstants.{SPECIAL}
use Rattle.dns_master.specs.Pieces.{scan, ends_item, is_special, Stopped}
use Rattle.dns_master.proofs.ScanLemmas.{scan_go, scan_stop}

-- ---- the table

abbrev same : Bool → Bool → Bool
same c s = cond c s (not s)

same_is : (c s : Bool) → same c s ≡ true → c ≡ s
same_is true s e = sym e
same_is false true e = absurd cc
same_is false false e = refl

abbrev agrees : ℕ → List Bool → Bool
agrees k [] = true
agrees k (c ∷ cs) = same c (is_special k) && agrees (suc k) cs

agree_at : (k : ℕ) (cs : List Bool) (i : ℕ) → agrees k cs ≡ true → i < length cs → get_or cs i false ≡ is_special (k + i)
agree_at k [] i h n = absurd (omega arith)
agree_at k (c ∷ cs) zero h n = let p = and_parts (same c (is_special k)) (agrees (suc k) cs) h in let e : k ≡ k + 0 = omega arith in same_is c (is_special k) p.0 ∙ ap is_special e
agree_at k (c ∷ cs) (suc i) h n = let p = and_parts (same c (is_special k)) (agrees (suc k) cs) h in let e : suc k + i ≡ k + suc i = omega arith in agree_at (suc k) cs i p.1 (omega arith) ∙ ap is_special e

pub special_read : (o : ℕ) → o < 256 → get_or SPECIAL o false ≡ is_special o
special_read o h = let e : 0 + o ≡ o = omega arith in agree_at 0 SPECIAL o refl h ∙ ap is_special e

-- ---- a run

goes_on : (o : ℕ) → is_special o ≡ false → (ends_item o ≡ false) × (o ≡ 92 → ⊥)
goes_on o h =
    let parts = or_parts (ends_item o) (eqb o 92) h in
    (parts.0, λ e. let two : true ≡ false = sym (eq-eqb o 92 e) ∙ parts.1 in cc)

ends : (o : ℕ) → is_special o ≡ true → (o ≡ 92 → ⊥) → ends_item o ≡ true
ends o h k = by_end (ends_item o) (eqb o 92) h (ne_eqb o 92 k)
  where
    by_end : (b c : Bool) → (b || c) ≡ true → c ≡ false → b ≡ true
    by_end true c h e = refl
    by_end false c h e = absurd (let two : false ≡ true = sym e ∙ h in cc)

pub run_more : (text : List ℕ) (i : ℕ) → i < length text → is_special (get_or text i 0) ≡ false → i + scan ends_item false (drop i text) ≡ scan ends_item false text → i + 1 + scan ends_item false (drop (i + 1) text) ≡ scan ends_item false text
run_more text i h plain so_far =
    let p = goes_on (get_or text i 0) plain in
    let e : scan ends_item false (drop i text) ≡ suc (scan ends_item false (drop (i + 1) text)) = ap (scan ends_item false) (drop_more text i 0 h) ∙ scan_go ends_item (get_or text i 0) (drop (i + 1) text) p.0 p.1 in
    omega (arith, e, so_far)

pub stops_here : (text : List ℕ) (i : ℕ) → i < length text → is_special (get_or text i 0) ≡ true → Stopped (drop i text)
stops_here text i h k = rw (drop_more text i 0 h) k

pub stops_end : (text : List ℕ) (i : ℕ) → length text ≤ i → Stopped (drop i text)
stops_end text i h = rw (drop_all i text h) tt

-- where a run stops, and no backslash stands, the item ends
pub ends_here : (rest : List ℕ) (o : ℕ) (after : List ℕ) → rest ≡ o ∷ after → Stopped rest → (o ≡ 92 → ⊥) → scan ends_item false rest ≡ 0
ends_here rest o after e h k = let s : Stopped (o ∷ after) = subst Stopped e h in rw e (scan_stop ends_item o after (ends o s k))
