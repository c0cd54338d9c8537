-- The name of a text, from its pieces.
use Rattle.std.proofs.Common.{◌≡◌, ℕ, ◌<◌, ◌≤◌, List, [], ◌∷◌, ◌++◌, length, false, Ok, Err, Result, refl, sym, ap, ◌∙◌, append_assoc, append-nil, arith, eq-eqb, ne_eqb}
use Rattle.std.specs.List.{AllByRecursion}
use Rattle.std.proofs.lemmas.Bool.{lt-ltb}
use Rattle.std.proofs.lemmas.List.{nil_from_length}
use Rattle.dns_names.specs.declared.name_fault.NameFault.{NameFault}
use Rattle.dns_names.specs.declared.name_fault.NameFault.TheVariants.{NameTooLong, NotAbsolute}
use Rattle.dns_names.specs.Labels.{IsLabel, IsName, wire_len}
use Rattle.dns_names.specs.Reading.{◌>>=◌, Pieces, is_empty, pieces_of, ended, ended_name, fitting, placed, placed_name}
use Rattle.dns_names.specs.Rows.{AreEnded, with_dot}
use Rattle.dns_names.proofs.SymbolLaws.{IsBytes, All-both}
use Rattle.dns_names.proofs.PieceLaws.{Found, pieces_found, label_is, none_empty, none_long}

module _ (text : List ℕ) (bytes : IsBytes text) (given : Pieces) (read : pieces_of text ≡ Ok given) where
  found : Found given text
  found = pieces_found text given bytes read

  -- ---- nothing after the last dot

  module _ (none : length given.last ≡ 0) where
    pub whole_ended : AreEnded given
    whole_ended = record { some = none_empty given.ended found.labels; short = none_long given.ended found.labels; none = nil_from_length given.last none }

    pub whole_name : (tail : List (List ℕ)) → IsName tail → wire_len (given.ended ++ tail) ≤ 255 → IsName (given.ended ++ tail)
    whole_name tail is fits = record { labels = All-both IsLabel given.ended tail found.labels is.labels; short = fits }

    pub ended_whole : ended_name text ≡ fitting (given.ended ++ [])
    ended_whole = ap (λ (r : Result Pieces NameFault). r >>= ended) read ∙ rw (eq-eqb (length given.last) 0 none) (ap fitting (sym (append-nil given.ended)))

    pub placed_whole : (origin : List (List ℕ)) → placed_name origin text ≡ fitting (given.ended ++ [])
    placed_whole origin = ap (λ (r : Result Pieces NameFault). r >>= λ p. fitting (placed origin p)) read ∙ rw (eq-eqb (length given.last) 0 none) (ap fitting (sym (append-nil given.ended)))

  -- ---- a label after it

  module _ (some : 0 < length given.last) where
    is_some : is_empty given.last ≡ false
    is_some = ne_eqb (length given.last) 0 (λ z. omega arith)

    dotted_labels : AllByRecursion IsLabel (given.ended ++ given.last ∷ [])
    dotted_labels = All-both IsLabel given.ended (given.last ∷ []) found.labels (label_is given.last found.spelled.back found.spelled.last is_some found.last_short, tt)

    pub dotted_ended : AreEnded (with_dot given)
    dotted_ended = record { some = none_empty (given.ended ++ given.last ∷ []) dotted_labels; short = none_long (given.ended ++ given.last ∷ []) dotted_labels; none = refl }

    pub dotted_name : (tail : List (List ℕ)) → IsName tail → wire_len ((given.ended ++ given.last ∷ []) ++ tail) ≤ 255 → IsName ((given.ended ++ given.last ∷ []) ++ tail)
    dotted_name tail is fits = record { labels = All-both IsLabel (given.ended ++ given.last ∷ []) tail dotted_labels is.labels; short = fits }

    pub ended_refuses : ended_name text ≡ Err NotAbsolute
    ended_refuses = ap (λ (r : Result Pieces NameFault). r >>= ended) read ∙ rw is_some refl

    pub placed_dotted : (origin : List (List ℕ)) → placed_name origin text ≡ fitting ((given.ended ++ given.last ∷ []) ++ origin)
    placed_dotted origin =
        ap (λ (r : Result Pieces NameFault). r >>= λ p. fitting (placed origin p)) read ∙ rw is_some (ap fitting (sym (append_assoc given.ended (given.last ∷ []) origin)))

pub root_is : IsName []
root_is = record { labels = tt; short = omega arith }

pub too_long : (name : List (List ℕ)) → 255 < wire_len name → fitting name ≡ Err NameTooLong
too_long name long = rw (lt-ltb 255 (wire_len name) long) refl
