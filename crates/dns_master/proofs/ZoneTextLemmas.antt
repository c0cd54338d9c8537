-- The lines of records after another text, line by line.
use Rattle.std.proofs.Common.{◌≡◌, ℕ, suc, ◌+◌, ◌<◌, ◌≤◌, List, [], ◌∷◌, ◌++◌, length, take, drop, get_or, Some, None, sym, ap, ◌∙◌, arith, append_assoc, append-nil, take-append-drop}
use Rattle.std.proofs.lemmas.List.{take_all}
use Rattle.std.proofs.lemmas.Grind.{flat_map-append}
use Rattle.std.proofs.Math.Seq.{take-suc}
use Rattle.std.specs.List.{flat_map, slice_get}
use Rattle.dns_data.specs.declared.record.Record.{Record}
use Rattle.dns_master.specs.declared.zone_text.RelativeForm.{RelativeForm}
use Rattle.dns_master.specs.ZoneText.{origin_line, zone_text, ttl_line, relative_line, relative_zone_text, line_in}

module _ (line : Record → List ℕ) where
  -- the text up to a record
  abbrev pub text_before : List ℕ → List Record → ℕ → List ℕ
  text_before front records i = front ++ flat_map line (take i records)

  lines_next : (xs : List Record) (i : ℕ) (x : Record) → i < length xs → x ≡ get_or xs i x → flat_map line (take (i + 1) xs) ≡ flat_map line (take i xs) ++ line x
  lines_next xs i x h e =
      let next : i + 1 ≡ suc i = omega arith in
      ap (λ (n : ℕ). flat_map line (take n xs)) next ∙ ap (flat_map line) (take-suc xs i x h) ∙ flat_map-append line (take i xs) (get_or xs i x ∷ [])
      ∙ ap (λ (l : List ℕ). flat_map line (take i xs) ++ l) (append-nil (line (get_or xs i x)) ∙ ap line (sym e))

  pub text_next : (front : List ℕ) (xs : List Record) (i : ℕ) (x : Record) → i < length xs → x ≡ get_or xs i x → text_before front xs (i + 1) ≡ text_before front xs i ++ line x
  text_next front xs i x h e =
      ap (λ (lines : List ℕ). front ++ lines) (lines_next xs i x h e) ∙ sym (append_assoc front (flat_map line (take i xs)) (line x))

  -- and what stands after it
  pub text_cut : (front : List ℕ) (xs : List Record) (i : ℕ) → front ++ flat_map line xs ≡ text_before front xs i ++ flat_map line (drop i xs)
  text_cut front xs i =
      ap (λ (ys : List Record). front ++ flat_map line ys) (sym (take-append-drop i xs))
      ∙ ap (λ (lines : List ℕ). front ++ lines) (flat_map-append line (take i xs) (drop i xs))
      ∙ sym (append_assoc front (flat_map line (take i xs)) (flat_map line (drop i xs)))

  -- after the last record nothing does
  pub text_all : (front : List ℕ) (xs : List Record) (i : ℕ) → length xs ≤ i → text_before front xs i ≡ front ++ flat_map line xs
  text_all front xs i h = ap (λ (ys : List Record). front ++ flat_map line ys) (take_all i xs h)

-- ---- relative to the origin

-- without records it is the text of a zone
pub relative_none : (origin : List (List ℕ)) (records : List Record) → None ≡ slice_get records 0 → zone_text origin records ≡ relative_zone_text origin records
relative_none origin [] e = append-nil (origin_line origin)
relative_none origin (r ∷ records) e = absurd cc

-- else the two lines, and the lines of the records after them
pub relative_some : (form : RelativeForm) (records : List Record) (first : Record) (head : List ℕ) → Some first ≡ slice_get records 0 → form.ttl ≡ first.ttl → head ≡ origin_line form.origin.now ++ ttl_line form.ttl
    → head ++ flat_map (line_in (Some form)) records ≡ relative_zone_text form.origin.now records
relative_some form [] first head e ttl is = absurd cc
relative_some form (r ∷ records) first head e ttl is =
    let same : form.ttl ≡ r.ttl = cc in
    ap (λ (t : List ℕ). t ++ flat_map (line_in (Some form)) (r ∷ records)) is
    ∙ append_assoc (origin_line form.origin.now) (ttl_line form.ttl) (flat_map (relative_line form.origin.now form.ttl) (r ∷ records))
    ∙ ap (λ (n : ℕ). origin_line form.origin.now ++ (ttl_line n ++ flat_map (relative_line form.origin.now n) (r ∷ records))) same
