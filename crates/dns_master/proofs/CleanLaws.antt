-- The texts of printed items: in a master file each is one item.
use Rattle.std.proofs.Common.{◌≡◌, ℕ, ◌<◌, ◌^◌, Bool, true, false, eqb, ltb, not, ◌&&◌, List, [], ◌∷◌, ◌++◌, length, refl, sym, subst, arith, length-append}
use Rattle.std.proofs.lemmas.Bool.{and_parts, and_from, agree_below_at, ltb-true}
use Rattle.std.specs.Prelude.{decimal}
use Rattle.std.specs.List.{AllByRecursion, flat_map}
use Rattle.dns_names.specs.Labels.{IsFolded, IsLabel, IsName}
use Rattle.dns_names.specs.Spelling.{name_text, label_text}
use Rattle.dns_names.specs.Spelling as names
use Rattle.dns_data.specs.declared.rdata.Data.{Data}
use Rattle.dns_data.specs.declared.record_type.RecordType.{RecordType}
use Rattle.dns_data.specs.Items.{ItemText, plain, in_quotes}
use Rattle.dns_data.specs.Strings.{IsString, string_text, octet_text}
use Rattle.dns_data.specs.Types.{type_text}
use Rattle.dns_data.specs.Rdata.{IsRdata}
use Rattle.dns_data.specs.Text.{data_items}
use Rattle.dns_data.proofs.KeptLaws.{each_passes}
use Rattle.dns_data.proofs.OctetLaws.{IsPlainText, plain_passes, decimal_plain}
use Rattle.dns_data.proofs.DataLaws.{each_item}
use Rattle.dns_master.specs.Pieces.{is_quote, ends_item}
use Rattle.dns_master.specs.Grammar.{Runs, taken_behind}

-- ---- runs

-- whether no octet of a text stops, but one that a backslash takes, and none after the text is taken
abbrev pub runs : (ℕ → Bool) → Bool → List ℕ → Bool
runs stops taken [] = not taken
runs stops true (o ∷ rest) = runs stops false rest
runs stops false (o ∷ rest) = not (stops o) && runs stops (eqb o 92) rest

not_true : (b : Bool) → not b ≡ true → b ≡ false
not_true false e = refl
not_true true e = absurd cc

pub runs_are : (stops : ℕ → Bool) (taken : Bool) (text : List ℕ) → runs stops taken text ≡ true → Runs stops taken text × (taken_behind taken text ≡ false)
runs_are stops taken [] e = (tt, not_true taken e)
runs_are stops true (o ∷ rest) e = runs_are stops false rest e
runs_are stops false (o ∷ rest) e =
    let p = and_parts (not (stops o)) (runs stops (eqb o 92) rest) e in
    let r = runs_are stops (eqb o 92) rest p.1 in
    ((not_true (stops o) p.0, r.0), r.1)

pub runs_both : (stops : ℕ → Bool) (taken : Bool) (a b : List ℕ) → runs stops taken a ≡ true → runs stops false b ≡ true → runs stops taken (a ++ b) ≡ true
runs_both stops taken [] b e f = subst (λ (t : Bool). runs stops t b ≡ true) (sym (not_true taken e)) f
runs_both stops true (o ∷ a) b e f = runs_both stops false a b e f
runs_both stops false (o ∷ a) b e f =
    let p = and_parts (not (stops o)) (runs stops (eqb o 92) a) e in
    and_from (not (stops o)) (runs stops (eqb o 92) (a ++ b)) p.0 (runs_both stops (eqb o 92) a b p.1 f)

-- ---- ordinary octets

abbrev ordinary : ℕ → Bool
ordinary o = not (ends_item o) && not (eqb o 92)

abbrev AreOrdinary : List ℕ → Type 0
AreOrdinary text = AllByRecursion (λ o. ordinary o ≡ true) text

ordinary_run : (text : List ℕ) → AreOrdinary text → runs ends_item false text ≡ true
ordinary_run [] h = refl
ordinary_run (o ∷ rest) h =
    let p = and_parts (not (ends_item o)) (not (eqb o 92)) h.0 in
    and_from (not (ends_item o)) (runs ends_item (eqb o 92) rest) p.0 (subst (λ (t : Bool). runs ends_item t rest ≡ true) (sym (not_true (eqb o 92) p.1)) (ordinary_run rest h.1))

-- ---- items

-- an item that is cut so of any text in which a space or a line end stands after it
abbrev pub CleanAt : Bool → List ℕ → Type 0
CleanAt true raw = runs is_quote false raw ≡ true
CleanAt false [] = ⊥
CleanAt false (o ∷ raw) = runs ends_item false (o ∷ raw) ≡ true

abbrev pub Clean : ItemText → Type 0
Clean item = CleanAt item.quoted item.raw

pub clean_plain : (raw : List ℕ) → 0 < length raw → runs ends_item false raw ≡ true → Clean (plain raw)
clean_plain [] some h = absurd (omega arith)
clean_plain (o ∷ raw) some h = h

clean_ordinary : (raw : List ℕ) → 0 < length raw → AreOrdinary raw → Clean (plain raw)
clean_ordinary raw some h = clean_plain raw some (ordinary_run raw h)

-- ---- names

pub octets_run : (label : List ℕ) → AllByRecursion IsFolded label → runs ends_item false (flat_map names.octet_text label) ≡ true
octets_run [] h = refl
octets_run (o ∷ label) h =
    runs_both ends_item false (names.octet_text o) (flat_map names.octet_text label)
    (agree_below_at (λ n. runs ends_item false (names.octet_text n)) (λ n. true) 256 o refl h.0.below) (octets_run label h.1)

labels_run : (name : List (List ℕ)) → AllByRecursion IsLabel name → runs ends_item false (flat_map label_text name) ≡ true
labels_run [] h = refl
labels_run (label ∷ labels) h =
    runs_both ends_item false (label_text label) (flat_map label_text labels) (runs_both ends_item false (flat_map names.octet_text label) (46 ∷ []) (octets_run label h.0.octets) refl) (labels_run labels h.1)

name_some : (name : List (List ℕ)) → 0 < length (name_text name)
name_some [] = omega arith
name_some (label ∷ labels) =
    omega (arith, length-append (label_text label) (flat_map label_text labels), length-append (flat_map names.octet_text label) (46 ∷ []))

pub name_run : (name : List (List ℕ)) → IsName name → runs ends_item false (name_text name) ≡ true
name_run [] is = refl
name_run (label ∷ labels) is = labels_run (label ∷ labels) is.labels

pub name_clean : (name : List (List ℕ)) → IsName name → Clean (plain (name_text name))
name_clean name is = clean_plain (name_text name) (name_some name) (name_run name is)

-- ---- numbers, addresses and digests

-- the octets of their texts are ordinary
pub text_clean : (text : List ℕ) → IsPlainText text → Clean (plain text)
text_clean text is = clean_ordinary text is.some (plain_passes ordinary refl text is.plain)

pub number_clean : (n : ℕ) → n < 2 ^ 64 → Clean (plain (decimal n))
number_clean n h = text_clean (decimal n) (decimal_plain n h)

-- ---- strings and types

string_run : (string : List ℕ) → AllByRecursion (λ o. o < 256) string → runs is_quote false (string_text string) ≡ true
string_run [] h = refl
string_run (o ∷ string) h =
    runs_both is_quote false (octet_text o) (string_text string) (agree_below_at (λ n. runs is_quote false (octet_text n)) (λ n. true) 256 o refl h.0) (string_run string h.1)

string_clean : (string : List ℕ) → IsString string → Clean (in_quotes (string_text string))
string_clean string is = string_run string is.octets

pub type_clean : (t : RecordType) → Clean (plain (type_text t))
type_clean t = clean_plain (type_text t) (ltb-true 0 (length (type_text t)) (each_passes (λ u. ltb 0 (length (type_text u))) refl t)) (each_passes (λ u. runs ends_item false (type_text u)) refl t)

-- ---- data

pub data_clean : (made : Data) → IsRdata made → AllByRecursion Clean (data_items made)
data_clean = each_item Clean name_clean text_clean string_clean
