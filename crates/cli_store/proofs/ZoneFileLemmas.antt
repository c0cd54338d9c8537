-- Reading the zones of a list line by line.
use Rattle.std.proofs.Common.{◌≡◌, inl, inr, ℕ, ◌+◌, ◌<◌, ◌≤◌, List, [], ◌∷◌, ◌++◌, length, map, drop, get_or, Option, Some, None, Result, Ok, Err, refl, sym, ap, ◌∙◌, append_assoc, append-nil, Bor, if◌then◌else◌}
use Rattle.std.specs.Option.{option_to_list}
use Rattle.std.specs.Str.{IsUtf8, is_utf8}
use Rattle.std.proofs.lemmas.Bool.{cases_Bool}
use Rattle.std.proofs.lemmas.List.{drop_more, drop_all, map-append}
use Rattle.std.proofs.lemmas.Str.{IsUtf8-from_is_utf8, is_utf8-from_IsUtf8}
use Rattle.cli_core.specs.declared.refusal.Refusal.{Refusal}
use Rattle.cli_core.specs.declared.refusal.Refusal.TheVariants.{Line}
use Rattle.cli_core.specs.declared.word_fault.WordFault.TheVariants as word
use Rattle.cli_core.specs.declared.line_fault.LineFault.{LineFault}
use Rattle.cli_core.specs.declared.line_fault.LineFault.TheVariants.{Refused, ReadFailed, NoMemory}
use Rattle.cli_core.specs.LineFaults.{◌>>=◌, limited, Gives, Makes, GivesOf}
use Rattle.cli_core.proofs.StepLemmas.{refused_before, given_before, reached_before}
use Rattle.cli_store.specs.declared.zone_files.ZoneFile.{ZoneFile}
use Rattle.cli_store.specs.ZoneFiles.{ZoneFileOf, zone_file_view, words_on, text_on, zone_on, zones_from, zone_files_of, zone_files_read}

-- ---- a word

pub text_is : (line : ℕ) (w : List ℕ) → IsUtf8 w → text_on line w ≡ Ok w
text_is line w is = rw (is_utf8-from_IsUtf8 w is) refl

pub text_none : (line : ℕ) (w : List ℕ) → ¬ IsUtf8 w → text_on line w ≡ Err (Line line word.ZoneFile)
text_none line w not = elim (cases_Bool (is_utf8 w)) [
  | inl good ↦ absurd (not (IsUtf8-from_is_utf8 w good))
  | inr bad ↦ rw bad refl
]

-- ---- lines

abbrev pub texts : List (Bor (List ℕ)) → List (List ℕ)
texts lines = map (λ line. line.now) lines

abbrev pub views : List ZoneFile → List ZoneFileOf
views zones = map zone_file_view zones

next : (lines : List (Bor (List ℕ))) (i : ℕ) (line : Bor (List ℕ)) → i < length lines → line ≡ get_or lines i line → texts (drop i lines) ≡ line.now ∷ texts (drop (i + 1) lines)
next lines i line lt is = ap texts (drop_more lines i line lt) ∙ ap (λ (l : Bor (List ℕ)). l.now ∷ texts (drop (i + 1) lines)) (sym is)

-- what is read after these
abbrev with_front : List ZoneFileOf → Result (List ZoneFileOf) Refusal → Result (List ZoneFileOf) Refusal
with_front done rest = rest >>= λ others. Ok (done ++ others)

-- the zones of all lines are those so far, and those of the others
abbrev pub ZonesFrom : List (Bor (List ℕ)) → ℕ → List ZoneFile → Type 0
ZonesFrom lines i zones = zones_from 1 (texts lines) ≡ with_front (views zones) (zones_from (i + 1) (texts (drop i lines)))

front_more : (done more : List ZoneFileOf) (rest : Result (List ZoneFileOf) Refusal) → with_front done (rest >>= λ others. Ok (more ++ others)) ≡ with_front (done ++ more) rest
front_more done more (Ok others) = ap (λ (l : List ZoneFileOf). let r : Result (List ZoneFileOf) Refusal = Ok l in r) (sym (append_assoc done more others))
front_more done more (Err refusal) = refl

pub zones_first : (lines : List (Bor (List ℕ))) → ZonesFrom lines 0 []
zones_first lines = by (zones_from 1 (texts lines))
  where
    by : (rest : Result (List ZoneFileOf) Refusal) → rest ≡ with_front [] rest
    by (Ok zones) = refl
    by (Err refusal) = refl

module _ (lines : List (Bor (List ℕ))) (i : ℕ) (zones : List ZoneFile) (line : Bor (List ℕ)) (lt : i < length lines) (is : line ≡ get_or lines i line) (so_far : ZonesFrom lines i zones) where
  abbrev others : Result (List ZoneFileOf) Refusal
  others = zones_from (i + 1 + 1) (texts (drop (i + 1) lines))

  abbrev here : Result (Option ZoneFileOf) Refusal
  here = zone_on (i + 1) (words_on line.now)

  this : zones_from 1 (texts lines) ≡ with_front (views zones) (here >>= λ z. others >>= λ zs. Ok (option_to_list z ++ zs))
  this = so_far ∙ ap (λ (l : List (List ℕ)). with_front (views zones) (zones_from (i + 1) l)) (next lines i line lt is)

  after : (zone : Option ZoneFileOf) → here ≡ Ok zone → zones_from 1 (texts lines) ≡ with_front (views zones ++ option_to_list zone) others
  after zone e =
      this
      ∙ ap (λ (r : Result (Option ZoneFileOf) Refusal). with_front (views zones) (r >>= λ z. others >>= λ zs. Ok (option_to_list z ++ zs))) e
      ∙ front_more (views zones) (option_to_list zone) others

  pub zones_more : (zone : ZoneFile) (all : List ZoneFile) → here ≡ Ok (Some (zone_file_view zone)) → all ≡ zones ++ zone ∷ [] → ZonesFrom lines (i + 1) all
  zones_more zone all e grown =
      after (Some (zone_file_view zone)) e
      ∙ ap (λ (l : List ZoneFileOf). with_front l others) (sym (ap views grown ∙ map-append zone_file_view zones (zone ∷ [])))

  pub zones_skip : here ≡ Ok None → ZonesFrom lines (i + 1) zones
  zones_skip e = after None e ∙ ap (λ (l : List ZoneFileOf). with_front l others) (append-nil (views zones))

  zones_refused : (refusal : Refusal) → here ≡ Err refusal → zones_from 1 (texts lines) ≡ Err refusal
  zones_refused refusal e = this ∙ ap (λ (r : Result (Option ZoneFileOf) Refusal). with_front (views zones) (r >>= λ z. others >>= λ zs. Ok (option_to_list z ++ zs))) e

  pub zones_stop : {X Y : Type 0} (seen : Y → Option ZoneFileOf) (view : X → List ZoneFileOf) (fault : LineFault) → Gives seen (Err fault) here → Gives view (Err fault) (zones_from 1 (texts lines))
  zones_stop seen view (Refused refusal) given = zones_refused refusal given
  zones_stop seen view NoMemory given = tt
  zones_stop seen view ReadFailed given = absurd given

pub zones_all : (lines : List (Bor (List ℕ))) (i : ℕ) (zones : List ZoneFile) → length lines ≤ i → ZonesFrom lines i zones → zones_from 1 (texts lines) ≡ Ok (views zones)
zones_all lines i zones all so_far =
    so_far ∙ ap (λ (l : List (Bor (List ℕ))). with_front (views zones) (zones_from (i + 1) (texts l))) (drop_all i lines all)
    ∙ ap (λ (l : List ZoneFileOf). let r : Result (List ZoneFileOf) Refusal = Ok l in r) (append-nil (views zones))

-- ---- an input

abbrev Zones : Type 0
Zones = List ZoneFileOf

-- a fault says the same whatever is seen
pub gives_same : {X Y Z : Type 0} (seen : X → Z) (view : Y → Z) (fault : LineFault) (made : Result Z Refusal) → Gives seen (Err fault) made → Gives view (Err fault) made
gives_same seen view (Refused refusal) made given = given
gives_same seen view NoMemory made given = given
gives_same seen view ReadFailed made given = given

module _ (left : Option (List ℕ)) (fine failed : Type 0) where
  -- it is refused, or not read
  pub list_unread : {X : Type 0} (seen : X → List ℕ) (fault : LineFault) → GivesOf seen left limited (Err fault) fine failed → GivesOf {X = Zones} (λ zones. zones) left zone_files_read (Err fault) fine failed
  list_unread seen (Refused refusal) given = ((given.0.0, given.0.1, refused_before (limited given.0.0) zone_files_of refusal given.0.2), given.1)
  list_unread seen ReadFailed given = (given.0, reached_before limited zone_files_of given.1)
  list_unread seen NoMemory given = given

  module _ (text : List ℕ) (read : Makes left limited (Ok text)) (well : fine) where
    list_makes : (made : Result Zones Refusal) → zone_files_of text ≡ made → Makes left zone_files_read made
    list_makes made e = (read.0, read.1, given_before (limited read.0) zone_files_of text read.2 ∙ e)

    -- a line of it is refused
    pub list_refused : (fault : LineFault) → Gives {X = Zones} (λ zones. zones) (Err fault) (zone_files_of text) → GivesOf {X = Zones} (λ zones. zones) left zone_files_read (Err fault) fine failed
    list_refused (Refused refusal) given = (list_makes (Err refusal) given, well)
    list_refused NoMemory given = well
    list_refused ReadFailed given = absurd given

    pub list_read : (zones : Zones) → zone_files_of text ≡ Ok zones → Makes left zone_files_read (Ok zones)
    list_read zones e = list_makes (Ok zones) e
