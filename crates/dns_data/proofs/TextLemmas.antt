-- What the code that prints data writes.
use Rattle.std.proofs.Common.{◌≡◌, ℕ, ◌<◌, ◌≤◌, List, [], ◌∷◌, ◌++◌, length, take, drop, get_or, ◌+◌, ◌-◌, refl, sym, ap, ◌∙◌, arith}
use Rattle.std.specs.Prelude.{Result, Ok, Err, IsOk, OnOk}
use Rattle.std.proofs.Output.{writes_in_calls_nil}
use Rattle.std.specs.Fmt.{HasWritten, IsPlainFormatter}
use Rattle.std.specs.declared.fmt.Formatter.{Formatter}
use Rattle.std.specs.List.{flat_map}
use Rattle.std.specs.Fmt.{decimal}
use Rattle.std.proofs.lemmas.List.{append-nil, take-append-drop, take_all, take_more, flat_map_more}
use Rattle.std.specs.Prelude.{codes}
use Rattle.dns_names.specs.Spelling.{name_text}
use Rattle.dns_data.specs.declared.record.Record.{Record}
use Rattle.dns_data.specs.Items.{ItemText, plain, items_text}
use Rattle.dns_data.specs.Types.{type_text}
use Rattle.dns_data.specs.Rdata.{type_of}
use Rattle.dns_data.specs.Strings.{string_text}
use Rattle.dns_data.specs.Text.{strings_items, data_items, data_text, record_line}

-- ---- steps

-- what a call ensures if it did not fail
pub at_ok : {T E P : Type 0} (r : Result T E) → IsOk r → OnOk r P → P
at_ok (Ok x) ok h = h
at_ok (Err e) ok h = absurd cc

pub nothing_written : {W : Type 0} (took : W → List ℕ → W → Type 0) (f : Formatter W) → IsPlainFormatter f → HasWritten took f [] f
nothing_written took f plain = record { wrote = writes_in_calls_nil took f.writer; plain = plain }

pub split_parts : (rest part after : List ℕ) (n : ℕ) → part ≡ take n rest → after ≡ drop n rest → part ++ after ≡ rest
split_parts rest part after n e f = rw (e, f) (take-append-drop n rest)

-- ---- strings

-- a string in quotes
abbrev pub quoted : List ℕ → List ℕ
quoted string = 34 ∷ string_text string ++ 34 ∷ []

-- a string after another
abbrev pub behind : List ℕ → List ℕ
behind string = 32 ∷ quoted string

pub strings_text : (first : List ℕ) (others : List (List ℕ)) → quoted first ++ flat_map behind others ≡ items_text (strings_items (first ∷ others))
strings_text first [] = append-nil (quoted first)
strings_text first (next ∷ others) = ap (λ (l : List ℕ). quoted first ++ 32 ∷ l) (strings_text next others)

pub first_and_rest : (strings : List (List ℕ)) (first : List ℕ) → 1 ≤ length strings → first ≡ get_or strings 0 first → strings ≡ first ∷ take (length strings - 1) (drop 1 strings)
first_and_rest [] first some e = absurd (omega arith)
first_and_rest (string ∷ strings) first some e =
    let rest : take (length (string ∷ strings) - 1) strings ≡ strings = take_all (length (string ∷ strings) - 1) strings (omega arith) in
    rw (e, rest)

module _ (first : List ℕ) (others : List (List ℕ)) (i : ℕ) where
  pub one_more : (next : List ℕ) → i < length others → next ≡ get_or others i next → (quoted first ++ flat_map behind (take i others)) ++ behind next ≡ quoted first ++ flat_map behind (take (i + 1) others)
  one_more next lt e =
      let taken : take (i + 1) others ≡ take i others ++ next ∷ [] = take_more others i next lt ∙ ap (λ (s : List ℕ). take i others ++ s ∷ []) (sym e) in
      flat_map_more behind (quoted first) (take i others) next ∙ ap (λ (l : List (List ℕ)). quoted first ++ flat_map behind l) (sym taken)

  pub all_written : (strings : List (List ℕ)) → length others ≤ i → strings ≡ first ∷ others → quoted first ++ flat_map behind (take i others) ≡ items_text (strings_items strings)
  all_written strings le e =
      ap (λ (l : List (List ℕ)). quoted first ++ flat_map behind l) (take_all i others le) ∙ strings_text first others ∙ ap (λ (l : List (List ℕ)). items_text (strings_items l)) (sym e)

-- ---- records

pub behind_item : (name : List ℕ) (items : List ItemText) → 0 < length items → name ++ 32 ∷ items_text items ≡ items_text (plain name ∷ items)
behind_item name [] some = absurd (omega arith)
behind_item name (item ∷ items) some = refl

pub line_text : (r : Record) (ttl : ℕ) (name : List ℕ) → ttl ≡ r.ttl → name ≡ type_text (type_of r.rdata) → 0 < length (data_items r.rdata)
    → name_text r.owner ++ 32 ∷ (decimal ttl ++ 32 ∷ (codes "IN" ++ 32 ∷ (name ++ 32 ∷ data_text r.rdata))) ≡ record_line r
line_text r ttl name e f some =
    ap (λ (k : ℕ). name_text r.owner ++ 32 ∷ (decimal k ++ 32 ∷ (codes "IN" ++ 32 ∷ (name ++ 32 ∷ data_text r.rdata)))) e
    ∙ ap (λ (n : List ℕ). name_text r.owner ++ 32 ∷ (decimal r.ttl ++ 32 ∷ (codes "IN" ++ 32 ∷ (n ++ 32 ∷ data_text r.rdata)))) f
    ∙ ap (λ (l : List ℕ). name_text r.owner ++ 32 ∷ (decimal r.ttl ++ 32 ∷ (codes "IN" ++ 32 ∷ l))) (behind_item (type_text (type_of r.rdata)) (data_items r.rdata) some)
