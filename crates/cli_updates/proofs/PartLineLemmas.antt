-- What the lines of parts are read as.
use Rattle.std.proofs.Common.{◌≡◌, ◌∙◌, ℕ, ◌+◌, ◌<◌, ◌≤◌, List, [], ◌∷◌, ◌++◌, length, get_or, map, take, nat_lt, Result, Ok, Err, String, Global, arith, refl, sym, ap, subst, append_assoc, append-nil, ltb-false}
use Rattle.std.specs.Prelude.{IfOk, string_bytes}
use Rattle.std.proofs.lemmas.List.{map_more}
use Rattle.zone_core.specs.Updates.{UpdateOf}
use Rattle.zone_core.proofs.SetLemmas.{by_cases}
use Rattle.wire_json.specs.Reading.{update_of_body}
use Rattle.cli_core.specs.declared.line_fault.LineFault.{LineFault}
use Rattle.cli_core.specs.declared.refusal.Refusal.TheVariants.{BodyTooLarge}
use Rattle.cli_core.specs.LineFaults.{Gives}
use Rattle.cli_updates.specs.Request.{body_line, identifier_in}
use Rattle.cli_updates.specs.Split.{numbered, part_update}
use Rattle.cli_updates.specs.PartLines.{ArePartLines, IsPartLine}
use Rattle.cli_updates.proofs.SlotLemmas.{length_taken}

-- a body that is not too long, and its line end
line_is : (body line : List ℕ) → body_line body ≡ Ok line → (line ≡ body ++ 10 ∷ []) × (length line ≤ 65536)
line_is body line e =
    by_cases (nat_lt 65536 (length (body ++ 10 ∷ []))) _
    (λ t. let refused : Err BodyTooLarge ≡ Ok line = rw t at e in absurd cc)
    (λ f. let whole : Ok (body ++ 10 ∷ []) ≡ Ok line = rw f at e in
    let same : line ≡ body ++ 10 ∷ [] = cc in
    (same, subst (λ (l : List ℕ). length l ≤ 65536) (sym same) (ltb-false 65536 (length (body ++ 10 ∷ [])) f)))

pub part_line : (word : List ℕ) (before : ℕ) (u : UpdateOf) (id : List ℕ) (update : UpdateOf) (body : List ℕ) (result : Result (String Global) LineFault)
    → identifier_in (numbered word (before + 1)) ≡ Ok id → part_update before u ≡ Ok update → update_of_body body ≡ Ok (record { id = id; update = update })
    → Gives string_bytes result (body_line body) → IfOk result (λ line. IsPartLine word before u (string_bytes line))
part_line word before u id update body (Ok line) named made read given =
    let is = line_is body (string_bytes line) given in
    record { id = id; update = update; body = body; named = named; made = made; ended = is.0; short = is.1; read = read }
part_line word before u id update body (Err e) named made read given = tt

-- one line more
pub lines_more : (word : List ℕ) (before n : ℕ) (us : List UpdateOf) (u : UpdateOf) (text line : List ℕ) → ArePartLines word before us text → before + length us ≡ n
    → IsPartLine word n u line → ArePartLines word before (us ++ u ∷ []) (text ++ line)
lines_more word before n [] u text line none count is =
    let same : n ≡ before = omega (arith, count) in
    (line, [], subst (λ m. IsPartLine word m u line) same is, refl, rw none (sym (append-nil line)))
lines_more word before n (v ∷ us) u text line more count is =
    let later : before + 1 + length us ≡ n = omega (arith, count) in
    (more.0, more.1 ++ line, more.2, lines_more word (before + 1) n us u more.1 line more.3 later is, ap (λ t. t ++ line) more.4 ∙ append_assoc more.0 more.1 line)

pub lines_next : {X : Type 0} (view : X → UpdateOf) (word : List ℕ) (xs : List X) (i : ℕ) (x : X) (text line : List ℕ) → i < length xs → x ≡ get_or xs i x
    → ArePartLines word 0 (map view (take i xs)) text → IsPartLine word i (view x) line → ArePartLines word 0 (map view (take (i + 1) xs)) (text ++ line)
lines_next view word xs i x text line lt is held here =
    let plain : 0 + length (map view (take i xs)) ≡ length (map view (take i xs)) = omega arith in
    let count : 0 + length (map view (take i xs)) ≡ i = plain ∙ length_taken view xs i (omega (arith, lt)) in
    subst (λ us. ArePartLines word 0 us (text ++ line)) (sym (map_more view xs i x lt ∙ ap (λ y. map view (take i xs) ++ view y ∷ []) (sym is)))
    (lines_more word 0 i (map view (take i xs)) (view x) text line held count here)
