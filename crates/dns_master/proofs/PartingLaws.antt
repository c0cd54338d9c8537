-- The printed text of records of any types has these records.
use Rattle.std.proofs.Common.{◌≡◌, ℕ, ◌≤◌, Bool, true, false, cond, List, [], ◌∷◌, ◌++◌, length, map, Result, Ok, refl, sym, ap, subst, ◌∙◌, append_assoc}
use Rattle.std.proofs.lemmas.Bool.{cond_both, le-ltb}
use Rattle.std.specs.Prelude.{codes, decimal}
use Rattle.std.specs.List.{AllByRecursion, flat_map, filter, count_by}
use Rattle.dns_names.specs.Labels.{IsName}
use Rattle.dns_names.specs.Order.{same_name}
use Rattle.dns_names.proofs.SymbolLaws.{IsBytes}
use Rattle.dns_names.proofs.NameLemmas.{same_name-Decides}
use Rattle.dns_names.specs.Spelling.{name_text}
use Rattle.dns_data.specs.declared.record.Record.{Record}
use Rattle.dns_data.specs.Items.{ItemText, plain}
use Rattle.dns_data.specs.Types.{type_text}
use Rattle.dns_data.specs.Rdata.{type_of, IsRecord}
use Rattle.dns_data.specs.Text.{data_items, record_items}
use Rattle.dns_master.specs.declared.entry_fault.EntryFault.{EntryFault}
use Rattle.dns_master.specs.declared.statement.Statement.TheVariants as statements
use Rattle.dns_master.specs.Entries.{Entry, entries}
use Rattle.dns_master.specs.Reader.{text_of}
use Rattle.dns_master.specs.InForce.{InForce, behind_entry, handed_in}
use Rattle.dns_master.specs.Files.{first_left, file_of}
use Rattle.dns_master.specs.FileGrammar.{IsFile}
use Rattle.dns_master.specs.ZoneText.{ended_line, origin_line, records_text, zone_text}
use Rattle.dns_master.proofs.CleanLaws.{Clean}
use Rattle.dns_master.proofs.LineLaws.{AreLines}
use Rattle.dns_master.proofs.JoinedLaws.{IsGood, IsGoodLine, items_of, joined_read, apart_items, flagged_items, apart_good, flagged_good, apart_text}
use Rattle.dns_master.proofs.StatementLaws.{statement_only}
use Rattle.dns_master.proofs.ZoneLaws.{origin_items, origin_said, origin_clean, said, record_said, record_clean, zone_read}
use Rattle.dns_master.proofs.CutLaws.{by_bool}
use Rattle.dns_master.proofs.FileLaws.{text_only}
use Rattle.dns_master.specs.declared.parting.FilePart.{FilePart}
use Rattle.dns_master.specs.declared.parting.FilePart.TheVariants as of_file
use Rattle.dns_master.specs.OtherTypes.{is_signer_type, has_keys}
use Rattle.dns_master.specs.Joined.{Line, apart, line_items, joined_line}
use Rattle.dns_master.specs.AnyRecords.{OtherText, AnyRecord, Kept, Other, AnyTaken, behind_other, any_of, any_taken, with_any, then_any, any_from, any_file_from, placed_any, any_on_lines, any_file}
use Rattle.dns_master.specs.Parting.{IsKept, is_in, records_in, kept_of, all_parts, other_items, line_of, other_line, any_text, part_text}
use Rattle.dns_master.proofs.OtherLaws.{IsOther, other_clean, stated, other_again}
use Rattle.dns_master.proofs.WholeLaws.{IsFound, text_found}

abbrev Labels : Type 0
Labels = List (List ℕ)

-- a record as one is read
abbrev pub IsAny : AnyRecord → Type 0
IsAny (Kept r) = IsRecord r
IsAny (Other o) = IsOther o

-- ---- the lines

-- the lines of an origin, of a record of a kept type and of one of another type
abbrev origin_one : Labels → Line
origin_one origin = record { first = plain (codes "$ORIGIN"); others = apart (plain (name_text origin)) ∷ [] }

abbrev kept_behind : Record → List ItemText
kept_behind r = plain (decimal r.ttl) ∷ plain (codes "IN") ∷ plain (type_text (type_of r.rdata)) ∷ data_items r.rdata

abbrev kept_one : Record → Line
kept_one r = record { first = plain (name_text r.owner); others = map apart (kept_behind r) }

abbrev other_one : OtherText → Line
other_one o = line_of o.owner o.ttl o.kind o.fields

kept_items : (r : Record) → line_items (kept_one r) ≡ record_items r
kept_items r = ap (λ (l : List ItemText). plain (name_text r.owner) ∷ l) (apart_items (kept_behind r))

one_items : (o : OtherText) → line_items (other_one o) ≡ other_items o
one_items o = ap (λ (l : List ItemText). plain (name_text o.owner) ∷ plain (decimal o.ttl) ∷ plain (codes "IN") ∷ plain o.kind ∷ l) (flagged_items (has_keys o.kind) false o.fields)

abbrev change_lines : Bool → Labels → List Line → List Line
change_lines true origin lines = lines
change_lines false origin lines = origin_one origin ∷ lines

-- the lines of records where this origin is in force
abbrev all_lines : Labels → List AnyRecord → List Line
all_lines at [] = []
all_lines at ((Kept r) ∷ rs) = kept_one r ∷ all_lines at rs
all_lines at ((Other o) ∷ rs) = change_lines (same_name at o.origin) o.origin (other_one o ∷ all_lines o.origin rs)

other_text : (b : Bool) (o : OtherText) (text : List ℕ) (lines : List Line) → text ≡ flat_map joined_line lines
    → (cond b [] (origin_line o.origin) ++ other_line o) ++ text ≡ flat_map joined_line (change_lines b o.origin (other_one o ∷ lines))
other_text true o text lines e = ap (λ (t : List ℕ). other_line o ++ t) e
other_text false o text lines e = append_assoc (origin_line o.origin) (other_line o) text ∙ ap (λ (t : List ℕ). origin_line o.origin ++ (other_line o ++ t)) e

text_is : (at : Labels) (rs : List AnyRecord) → any_text at rs ≡ flat_map joined_line (all_lines at rs)
text_is at [] = refl
text_is at ((Kept r) ∷ rs) =
    ap (λ (t : List ℕ). t ++ any_text at rs) (apart_text (plain (name_text r.owner)) (kept_behind r)) ∙ ap (λ (t : List ℕ). joined_line (kept_one r) ++ t) (text_is at rs)
text_is at ((Other o) ∷ rs) = other_text (same_name at o.origin) o (any_text o.origin rs) (all_lines o.origin rs) (text_is o.origin rs)

origin_good : (origin : Labels) → IsName origin → IsGoodLine (origin_one origin)
origin_good origin is = let c = (origin_clean origin is).clean in record { first = c.0; others = apart_good (plain (name_text origin) ∷ []) c.1 }

kept_good : (r : Record) → IsRecord r → IsGoodLine (kept_one r)
kept_good r is = let c = (record_clean r is).clean in record { first = c.0; others = apart_good (kept_behind r) c.1 }

one_good : (item : ItemText) → Clean item → IsGood (apart item)
one_good item h = record { clean = h; quoted = λ e. absurd cc }

other_good : (o : OtherText) → IsOther o → IsGoodLine (other_one o)
other_good o is =
    let c = (other_clean o is).clean in
    record {
      first = c.0;
      others = (
        one_good (plain (decimal o.ttl)) c.1.0,
        (one_good (plain (codes "IN")) c.1.1.0, (one_good (plain o.kind) c.1.1.1.0, flagged_good (has_keys o.kind) false o.fields c.1.1.1.1)),
      );
    }

change_good : (b : Bool) (origin : Labels) (lines : List Line) → IsName origin → AllByRecursion IsGoodLine lines → AllByRecursion IsGoodLine (change_lines b origin lines)
change_good true origin lines is h = h
change_good false origin lines is h = (origin_good origin is, h)

all_good : (at : Labels) (rs : List AnyRecord) → AllByRecursion IsAny rs → AllByRecursion IsGoodLine (all_lines at rs)
all_good at [] h = tt
all_good at ((Kept r) ∷ rs) h = (kept_good r h.0, all_good at rs h.1)
all_good at ((Other o) ∷ rs) h = change_good (same_name at o.origin) o.origin (other_one o ∷ all_lines o.origin rs) h.0.origin (other_good o h.0, all_good o.origin rs h.1)

-- ---- an entry

-- an entry that is taken so, before the others
one_taken : (b : InForce) (e : Entry) (es : List Entry) (line : List ItemText) (t : AnyTaken) (others : List AnyRecord) → e.white ≡ false → map text_of e.items ≡ line
    → any_taken b false line ≡ Ok t → any_from es t.0 ≡ Ok others → any_from (e ∷ es) b ≡ Ok (t.1 ++ others)
one_taken b e es line t others w items p more =
    let here : any_taken b e.white (map text_of e.items) ≡ Ok t = ap (λ (v : Bool). any_taken b v (map text_of e.items)) w ∙ ap (any_taken b false) items ∙ p in
    ap (λ (r : Result AnyTaken EntryFault). then_any (first_left e.items) r (any_from es)) here ∙ ap (with_any t.1) more

kept_again : (b : InForce) (r : Record) → IsName b.origin → IsRecord r → any_taken b false (record_items r) ≡ Ok (behind_entry (said r) b, Kept r ∷ [])
kept_again b r of is = ap (any_of b false (record_items r)) (statement_only b.origin b.owner false (record_items r) (said r) of tt (record_said b.origin r is))

origin_again : (b : InForce) (origin : Labels) → IsName b.origin → IsName origin → any_taken b false (origin_items origin) ≡ Ok (behind_entry (statements.Origin origin) b, [])
origin_again b origin of is = ap (any_of b false (origin_items origin)) (statement_only b.origin b.owner false (origin_items origin) (statements.Origin origin) of tt (origin_said b.origin origin is))

-- ---- all entries

-- what entries with the lines of these records make
abbrev Again : List AnyRecord → Type 0
Again rs = (es : List Entry) (b : InForce) → AreLines es (items_of (all_lines b.origin rs)) → IsName b.origin → any_from es b ≡ Ok rs

other_line_again : (es : List Entry) (b : InForce) (o : OtherText) (rs : List AnyRecord) → b.origin ≡ o.origin → AreLines es (line_items (other_one o) ∷ items_of (all_lines o.origin rs)) → IsName b.origin → IsOther o → Again rs → any_from es b ≡ Ok (Other o ∷ rs)
other_line_again [] b o rs e l of is more = absurd l
other_line_again (x ∷ es) b o rs e l of is more =
    one_taken b x es (other_items o) (behind_other (stated o is) b, Other o ∷ []) rs l.0 (l.1 ∙ one_items o) (other_again o is b e of)
    (more es (behind_other (stated o is) b) (subst (λ (n : Labels). AreLines es (items_of (all_lines n rs))) (sym e) l.2) of)

change_again : (same : Bool) (es : List Entry) (b : InForce) (o : OtherText) (rs : List AnyRecord) → (same ≡ true → b.origin ≡ o.origin) → AreLines es (items_of (change_lines same o.origin (other_one o ∷ all_lines o.origin rs))) → IsName b.origin → IsOther o → Again rs → any_from es b ≡ Ok (Other o ∷ rs)
change_again true es b o rs e l of is more = other_line_again es b o rs (e refl) l of is more
change_again false [] b o rs e l of is more = absurd l
change_again false (x ∷ es) b o rs e l of is more =
    let next = behind_entry (statements.Origin o.origin) b in
    one_taken b x es (origin_items o.origin) (next, []) (Other o ∷ rs) l.0 l.1 (origin_again b o.origin of is.origin)
    (other_line_again es next o rs refl l.2 is.origin is more)

again : (rs : List AnyRecord) → AllByRecursion IsAny rs → Again rs
again [] h [] b l of = refl
again [] h (e ∷ es) b l of = absurd l
again ((Kept r) ∷ rs) h [] b l of = absurd l
again ((Kept r) ∷ rs) h (e ∷ es) b l of =
    one_taken b e es (record_items r) (behind_entry (said r) b, Kept r ∷ []) rs l.0 (l.1 ∙ kept_items r) (kept_again b r of h.0) (again rs h.1 es (behind_entry (said r) b) l.2 of)
again ((Other o) ∷ rs) h es b l of =
    change_again (same_name b.origin o.origin) es b o rs (λ e. (same_name-Decides b.origin o.origin).0 e) l of h.0 (again rs h.1)

first_again : (es : List Entry) (b : InForce) (origin : Labels) (rs : List AnyRecord) → IsName b.origin → IsName origin → AllByRecursion IsAny rs → AreLines es (items_of (origin_one origin ∷ all_lines origin rs)) → any_from es b ≡ Ok rs
first_again [] b origin rs of is h l = absurd l
first_again (e ∷ es) b origin rs of is h l =
    one_taken b e es (origin_items origin) (behind_entry (statements.Origin origin) b, []) rs l.0 l.1 (origin_again b origin of is)
    (again rs h es (behind_entry (statements.Origin origin) b) l.2 is)

-- ---- texts

pub text_again : (handed origin : Labels) (rs : List AnyRecord) → IsName handed → IsName origin → AllByRecursion IsAny rs → placed_any (origin_line origin ++ any_text origin rs) handed ≡ Ok rs
text_again handed origin rs of is h =
    let lines = joined_read (origin_one origin) (all_lines origin rs) (origin_good origin is) (all_good origin rs h) in
    let text : origin_line origin ++ any_text origin rs ≡ flat_map joined_line (origin_one origin ∷ all_lines origin rs) = ap (λ (t : List ℕ). joined_line (origin_one origin) ++ t) (text_is origin rs) in
    ap (any_file_from (handed_in handed)) (ap entries text ∙ lines.1) ∙ first_again lines.0 (handed_in handed) origin rs of is h lines.2

-- the records of a part that were read can be printed
found_again : (test : AnyRecord → Bool) (rs : List AnyRecord) → AllByRecursion IsFound rs → AllByRecursion IsKept (filter test rs) → AllByRecursion IsAny (filter test rs)
found_again test rs h k = both (filter test rs) (filtered IsFound test rs h) k
  where
    filtered : (P : AnyRecord → Type 0) (p : AnyRecord → Bool) (xs : List AnyRecord) → AllByRecursion P xs → AllByRecursion P (filter p xs)
    filtered P p [] all = tt
    filtered P p (x ∷ xs) all = cond_both (p x) (x ∷ filter p xs) (filter p xs) (AllByRecursion P) (λ _. (all.0, filtered P p xs all.1)) (λ _. filtered P p xs all.1)

    both : (xs : List AnyRecord) → AllByRecursion IsFound xs → AllByRecursion IsKept xs → AllByRecursion IsAny xs
    both [] f q = tt
    both ((Kept r) ∷ xs) f q = (q.0, both xs f.1 q.1)
    both ((Other o) ∷ xs) f q = (f.0, both xs f.1 q.1)

-- the text of a part has the records of the part, in their order
pub part_again : (p : FilePart) (text : List ℕ) (handed origin : Labels) (rs : List AnyRecord) → IsName handed → IsName origin → IsBytes text → any_file text origin ≡ Ok rs → AllByRecursion IsKept (records_in p rs)
    → length (part_text p origin rs) ≤ 4194304 → any_file (part_text p origin rs) handed ≡ Ok (records_in p rs)
part_again p text handed origin rs of is bytes e kept short =
    rw (le-ltb 4194304 (length (part_text p origin rs)) short)
    (ap (any_on_lines (part_text p origin rs)) (text_again handed origin (records_in p rs) of is (found_again (is_in p) rs (text_found text origin rs is bytes e) kept)))

-- ---- the part that is kept

kept_text : (at : Labels) (rs : List AnyRecord) → any_text at (records_in of_file.Kept rs) ≡ records_text (kept_of rs)
kept_text at [] = refl
kept_text at ((Kept r) ∷ rs) = ap (λ (t : List ℕ). ended_line r ++ t) (kept_text at rs)
kept_text at ((Other o) ∷ rs) = kept_text at rs

-- the reader of files reads it
pub kept_again_all : (handed origin : Labels) (rs : List AnyRecord) → IsName handed → IsName origin → AllByRecursion IsRecord (kept_of rs) → length (part_text of_file.Kept origin rs) ≤ 4194304 → file_of (part_text of_file.Kept origin rs) handed ≡ Ok (kept_of rs)
kept_again_all handed origin rs of is h short =
    let same : part_text of_file.Kept origin rs ≡ zone_text origin (kept_of rs) = ap (λ (t : List ℕ). origin_line origin ++ t) (kept_text origin rs) in
    text_only (part_text of_file.Kept origin rs) handed (kept_of rs) of (subst (λ (t : List ℕ). IsFile t handed (kept_of rs)) (sym same) (zone_read handed origin (kept_of rs) is h)) short

-- ---- the parts

-- each record is of one
pub one_part : (r : AnyRecord) → count_by (λ p. is_in p r) all_parts ≡ 1
one_part (Kept r) = refl
one_part (Other o) = by_bool (is_signer_type o.kind) (λ e. rw e refl) (λ e. rw e refl)
