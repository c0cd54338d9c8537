-- The relative text of a zone has its records.
use Rattle.std.proofs.Common.{◌≡◌, ℕ, zero, suc, ◌<◌, ◌≤◌, ◌^◌, inl, Bool, true, false, cond, eqb, List, [], ◌∷◌, ◌++◌, length, map, take, Option, Some, None, refl, sym, ap, subst, ◌∙◌, append-nil, arith, eqb-true}
use Rattle.std.proofs.lemmas.Bool.{agree_below_at, cond_both}
use Rattle.std.specs.Prelude.{codes, decimal}
use Rattle.std.specs.List.{AllByRecursion, flat_map}
use Rattle.dns_names.specs.Labels.{IsLabel, IsName, is_within}
use Rattle.dns_names.specs.Spelling.{octet_text, label_octets, name_text, dotted_label, dotted_text, labels_before, relative_text}
use Rattle.dns_names.proofs.RelativeLemmas.{relative_spells}
use Rattle.dns_data.specs.declared.record.Record.{Record}
use Rattle.dns_data.specs.Items.{ItemText, plain}
use Rattle.dns_data.specs.Types.{type_text}
use Rattle.dns_data.specs.Rdata.{type_of, IsRecord}
use Rattle.dns_data.specs.Text.{data_items}
use Rattle.dns_data.proofs.NumberLaws.{decimal_is_number}
use Rattle.dns_data.proofs.DataLaws.{data_relative, data_spells}
use Rattle.dns_master.specs.declared.statement.Statement.{Statement}
use Rattle.dns_master.specs.declared.statement.Statement.TheVariants as statements
use Rattle.dns_master.specs.Entries.{Entry, entries}
use Rattle.dns_master.specs.Pieces.{ends_item}
use Rattle.dns_master.specs.Reader.{text_of}
use Rattle.dns_master.specs.Statements.{begins_with_dollar}
use Rattle.dns_master.specs.InForce.{InForce, ttl_in_force, behind_entry, handed_in}
use Rattle.dns_master.specs.EntryGrammar.{States, AreTtlAndClass}
use Rattle.dns_master.specs.FileGrammar.{AreRecords, AreStated, IsFile}
use Rattle.dns_master.specs.ZoneText.{origin_line, stated_ttl, relative_items, relative_line, relative_zone_text}
use Rattle.dns_master.proofs.CarriedLaws.{carried, carried_in_force}
use Rattle.dns_master.proofs.CutLaws.{view, entries_are}
use Rattle.dns_master.proofs.CleanLaws.{Clean, runs, runs_both, clean_plain, octets_run, name_run, number_clean, type_clean, data_clean}
use Rattle.dns_master.proofs.LineLaws.{line_text, CleanLine, AreLines, lines_read}
use Rattle.dns_master.proofs.ZoneLaws.{starts_other, starts_more, no_dollar, name_starts, origin_items, origin_said, origin_clean, here_said, zone_read}

-- ---- a relative name

all_take : {A : Type 0} (P : A → Type 0) (k : ℕ) (xs : List A) → AllByRecursion P xs → AllByRecursion P (take k xs)
all_take P zero xs h = tt
all_take P (suc k) [] h = tt
all_take P (suc k) (x ∷ xs) h = (h.0, all_take P k xs h.1)

-- what holds of `@`, of labels with dots between them and of a whole name holds of a relative one
relative_cases : (P : List ℕ → Type 0) → P (64 ∷ []) → ((label : List ℕ) (labels : List (List ℕ)) → IsLabel label → AllByRecursion IsLabel labels → P (dotted_text (label ∷ labels))) → ((name : List (List ℕ)) → IsName name → P (name_text name)) → (origin name : List (List ℕ)) → IsName name → P (relative_text origin name)
relative_cases P mark labels whole origin name is =
    cond_both (is_within name origin) (dotted_text (labels_before origin name)) (name_text name) P
    (λ _. dotted (labels_before origin name) (all_take IsLabel _ name is.labels))
    (λ _. whole name is)
  where
    dotted : (before : List (List ℕ)) → AllByRecursion IsLabel before → P (dotted_text before)
    dotted [] h = mark
    dotted (label ∷ others) h = labels label others h.0 h.1

-- it makes no directive
octets_start : (label more : List ℕ) → IsLabel label → starts_other (label_octets label ++ more) ≡ true
octets_start [] more is = absurd (let some = is.not_empty in omega arith)
octets_start (o ∷ label) more is =
    starts_more (label_octets (o ∷ label)) more (starts_more (octet_text o) (flat_map octet_text label) (agree_below_at (λ n. starts_other (octet_text n)) (λ n. true) 256 o refl is.octets.0.below))

relative_starts : (origin name : List (List ℕ)) → IsName name → starts_other (relative_text origin name) ≡ true
relative_starts = relative_cases (λ t. starts_other t ≡ true) refl (λ label labels is h. octets_start label (flat_map dotted_label labels) is) name_starts

-- and is one item
dots_run : (labels : List (List ℕ)) → AllByRecursion IsLabel labels → runs ends_item false (flat_map dotted_label labels) ≡ true
dots_run [] h = refl
dots_run (label ∷ labels) h = runs_both ends_item false (46 ∷ label_octets label) (flat_map dotted_label labels) (runs_both ends_item false (46 ∷ []) (label_octets label) refl (octets_run label h.0.octets)) (dots_run labels h.1)

starts_some : (text : List ℕ) → starts_other text ≡ true → 0 < length text
starts_some [] e = absurd cc
starts_some (o ∷ text) e = omega arith

relative_run : (origin name : List (List ℕ)) → IsName name → runs ends_item false (relative_text origin name) ≡ true
relative_run = relative_cases (λ t. runs ends_item false t ≡ true) refl (λ label labels is h. runs_both ends_item false (label_octets label) (flat_map dotted_label labels) (octets_run label is.octets) (dots_run labels h)) name_run

relative_clean : (origin name : List (List ℕ)) → IsName name → Clean (plain (relative_text origin name))
relative_clean origin name is = clean_plain (relative_text origin name) (starts_some (relative_text origin name) (relative_starts origin name is)) (relative_run origin name is)

-- ---- the lines

module _ (origin : List (List ℕ)) (default : ℕ) where
  -- the TTL that a line states
  abbrev stated : ℕ → Option ℕ
  stated ttl = cond (eqb ttl default) None (Some ttl)

  abbrev said : Record → Statement
  said r = statements.Record (record { owner = Some r.owner; ttl = stated r.ttl; rdata = r.rdata })

  lead_said : (ttl : ℕ) → ttl ≤ 2147483647 → AreTtlAndClass (stated ttl) (stated_ttl default ttl)
  lead_said ttl fits = lead (eqb ttl default)
    where
      lead : (b : Bool) → AreTtlAndClass (cond b None (Some ttl)) (cond b [] (plain (decimal ttl) ∷ []))
      lead true = inl refl
      lead false = let small : ttl < 2 ^ 64 = omega arith in ([], [], decimal ttl, refl, (inl (decimal_is_number ttl small), fits), inl (inl refl, refl))

  line_said : (r : Record) → IsRecord r → States origin false (relative_items origin default r) (said r)
  line_said r is = (
    λ d.
        let same : plain (relative_text origin r.owner) ≡ plain (36 ∷ d.0) = cc in
        let raw : relative_text origin r.owner ≡ 36 ∷ d.0 = ap (λ (i : ItemText). i.raw) same in
        let yes : begins_with_dollar (relative_text origin r.owner) ≡ true = ap begins_with_dollar raw in
        let none = no_dollar (relative_text origin r.owner) (relative_starts origin r.owner is.owner) in
        absurd (let both = sym none ∙ yes in cc),
    record {
      owner = plain (relative_text origin r.owner) ∷ [];
      lead = stated_ttl default r.ttl;
      kind = type_text (type_of r.rdata);
      fields = data_items r.rdata;
      items_are = refl;
      owner_is = (relative_text origin r.owner, refl, (is.owner, relative_spells origin r.owner is.owner));
      lead_is = lead_said r.ttl is.ttl;
      kind_is = refl;
      fields_are = data_relative origin r.rdata (data_items r.rdata) (data_spells r.rdata is.rdata);
    },
  )

  lead_clean : (ttl : ℕ) (items : List ItemText) → ttl < 2 ^ 64 → AllByRecursion Clean items → AllByRecursion Clean (stated_ttl default ttl ++ items)
  lead_clean ttl items small h =
      cond_both (eqb ttl default) [] (plain (decimal ttl) ∷ []) (λ lead. AllByRecursion Clean (lead ++ items)) (λ _. h) (λ _. (number_clean ttl small, h))

  line_clean : (r : Record) → IsRecord r → CleanLine (relative_items origin default r)
  line_clean r is =
      let ttl = is.ttl in
      let small : r.ttl < 2 ^ 64 = omega arith in
      record { some = omega arith; clean = (relative_clean origin r.owner is.owner, lead_clean r.ttl (plain (type_text (type_of r.rdata)) ∷ data_items r.rdata) small (type_clean (type_of r.rdata), data_clean r.rdata is.rdata)) }

  lines_clean : (rs : List Record) → AllByRecursion IsRecord rs → AllByRecursion CleanLine (map (relative_items origin default) rs)
  lines_clean [] h = tt
  lines_clean (r ∷ rs) h = (line_clean r h.0, lines_clean rs h.1)

  lines_printed : (rs : List Record) → flat_map (relative_line origin default) rs ≡ flat_map line_text (map (relative_items origin default) rs)
  lines_printed [] = refl
  lines_printed (r ∷ rs) = ap (λ (t : List ℕ). relative_line origin default r ++ t) (lines_printed rs)

  -- ---- what is in force

  -- a record changes neither the origin nor the TTL of `$TTL`
  kept : (b : InForce) (rs : List Record) (k : ℕ) → ((carried b (map said rs) k).origin ≡ b.origin) × ((carried b (map said rs) k).default_ttl ≡ b.default_ttl)
  kept b rs zero = (refl, refl)
  kept b [] (suc k) = (refl, refl)
  kept b (r ∷ rs) (suc k) = kept (behind_entry (said r) b) rs k

  -- the origin and the TTL that are in force from an entry on
  record Stays (f : ℕ → InForce) (from : ℕ) : Type 0 where
    origins : (k : ℕ) → from ≤ k → (f k).origin ≡ origin
    ttls : (k : ℕ) → from ≤ k → (f k).default_ttl ≡ Some default

  ttl_is : (ttl : ℕ) (before behind : InForce) → before.default_ttl ≡ Some default → ttl_in_force (stated ttl) before behind ≡ Some ttl
  ttl_is ttl before behind e =
      cond_both (eqb ttl default) None (Some ttl) (λ own. ttl_in_force own before behind ≡ Some ttl)
      (λ same. rw e (ap (λ (n : ℕ). Some n) (sym (eqb-true ttl default same))))
      (λ other. refl)

  records_are : (f : ℕ → InForce) (k : ℕ) (rs : List Record) → Stays f k → AreRecords f k (map said rs) rs
  records_are f k [] h = refl
  records_are f k (r ∷ rs) h =
      (record { owner = refl; ttl = ttl_is r.ttl (f k) (f (suc k)) (h.ttls k (omega arith)); rdata = refl }, records_are f (suc k) rs (record { origins = λ j p. h.origins j (omega arith); ttls = λ j p. h.ttls j (omega arith) }))

  lines_said : (f : ℕ → InForce) (k : ℕ) (es : List Entry) (rs : List Record) → Stays f k → AllByRecursion IsRecord rs → AreLines es (map (relative_items origin default) rs) → AreStated f k (map view es) (map said rs)
  lines_said f k [] [] s h l = refl
  lines_said f k [] (r ∷ rs) s h l = absurd l
  lines_said f k (e ∷ es) [] s h l = absurd l
  lines_said f k (e ∷ es) (r ∷ rs) s h l = (
    subst (λ (o : List (List ℕ)). States o e.white (map text_of e.items) (said r)) (sym (s.origins k (omega arith))) (here_said origin e.white (map text_of e.items) (relative_items origin default r) (said r) l.0 l.1 (line_said r h.0)),
    lines_said f (suc k) es rs (record { origins = λ j p. s.origins j (omega arith); ttls = λ j p. s.ttls j (omega arith) }) h.1 l.2,
  )

-- ---- the file

abbrev ttl_items : ℕ → List ItemText
ttl_items ttl = plain (codes "$TTL") ∷ plain (decimal ttl) ∷ []

ttl_said : (origin : List (List ℕ)) (ttl : ℕ) → ttl ≤ 2147483647 → States origin false (ttl_items ttl) (statements.DefaultTtl ttl)
ttl_said origin ttl fits = let small : ttl < 2 ^ 64 = omega arith in (codes "$TTL", decimal ttl, refl, refl, (inl (decimal_is_number ttl small), fits))

ttl_clean : (ttl : ℕ) → ttl ≤ 2147483647 → CleanLine (ttl_items ttl)
ttl_clean ttl fits = let small : ttl < 2 ^ 64 = omega arith in record { some = omega arith; clean = (refl, (number_clean ttl small, tt)) }

module _ (handed origin : List (List ℕ)) (of : IsName origin) (first : Record) (others : List Record) (h : AllByRecursion IsRecord (first ∷ others)) where
  abbrev default : ℕ
  default = first.ttl

  abbrev rs : List Record
  rs = first ∷ others

  abbrev ss : List Statement
  ss = statements.Origin origin ∷ statements.DefaultTtl default ∷ map (said origin default) rs

  abbrev f : ℕ → InForce
  f = carried (handed_in handed) ss

  stays : Stays origin default f 2
  stays = record { origins = origins; ttls = ttls }
    where
      begun : InForce
      begun = behind_entry (statements.DefaultTtl default) (behind_entry (statements.Origin origin) (handed_in handed))

      origins : (k : ℕ) → 2 ≤ k → (f k).origin ≡ origin
      origins zero p = absurd (omega arith)
      origins (suc zero) p = absurd (omega arith)
      origins (suc (suc k)) p = (kept origin default begun rs k).0

      ttls : (k : ℕ) → 2 ≤ k → (f k).default_ttl ≡ Some default
      ttls zero p = absurd (omega arith)
      ttls (suc zero) p = absurd (omega arith)
      ttls (suc (suc k)) p = (kept origin default begun rs k).1

  all_said : (es : List Entry) → AreLines es (origin_items origin ∷ ttl_items default ∷ map (relative_items origin default) rs) → AreStated f 0 (map view es) ss
  all_said [] l = absurd l
  all_said (e ∷ []) l = absurd l.2
  all_said (e ∷ t ∷ es) l = (
    here_said (f 0).origin e.white (map text_of e.items) (origin_items origin) (statements.Origin origin) l.0 l.1 (origin_said (f 0).origin origin of),
    (
      here_said (f 1).origin t.white (map text_of t.items) (ttl_items default) (statements.DefaultTtl default) l.2.0 l.2.1 (ttl_said (f 1).origin default h.0.ttl),
      lines_said origin default f 2 es rs stays h l.2.2,
    ),
  )

  first_read : IsFile (relative_zone_text origin rs) handed rs
  first_read =
      let lines = lines_read (origin_items origin) (ttl_items default ∷ map (relative_items origin default) rs) (origin_clean origin of) (ttl_clean default h.0.ttl, lines_clean origin default rs h) in
      let text : relative_zone_text origin rs ≡ flat_map line_text (origin_items origin ∷ ttl_items default ∷ map (relative_items origin default) rs) = ap (λ (t : List ℕ). line_text (origin_items origin) ++ (line_text (ttl_items default) ++ t)) (lines_printed origin default rs) in
      record {
        of_entries = map view lines.0;
        statements = ss;
        before = f;
        entries_are = entries_are (relative_zone_text origin rs) lines.0 (ap entries text ∙ lines.1);
        in_force = carried_in_force ss handed;
        are_stated = all_said lines.0 lines.2;
        are_records = records_are origin default f 2 rs stays;
      }

pub relative_read : (handed origin : List (List ℕ)) (records : List Record) → IsName origin → AllByRecursion IsRecord records → IsFile (relative_zone_text origin records) handed records
relative_read handed origin [] of h = subst (λ (t : List ℕ). IsFile t handed []) (append-nil (origin_line origin)) (zone_read handed origin [] of h)
relative_read handed origin (first ∷ others) of h = first_read handed origin of first others h
