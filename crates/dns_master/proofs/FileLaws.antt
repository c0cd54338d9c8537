-- Files: what is read is in the grammar, and what is in the grammar is read.
use Rattle.std.proofs.Common.{◌≡◌, ℕ, zero, suc, ◌≤◌, Bool, List, [], ◌∷◌, ◌++◌, length, map, Option, Some, None, Result, Ok, Err, refl, sym, ap, subst, ◌∙◌, arith, ltb}
use Rattle.std.proofs.lemmas.Bool.{cond_both, le-ltb}
use Rattle.std.specs.Prelude.{IfOk}
use Rattle.dns_names.specs.Labels.{IsName}
use Rattle.dns_names.proofs.SymbolLaws.{IsBytes}
use Rattle.dns_data.specs.declared.rdata.Data.{Data}
use Rattle.dns_data.specs.declared.record.Record.{Record}
use Rattle.dns_data.specs.Items.{ItemText}
use Rattle.dns_master.specs.declared.master_fault.MasterFault.{MasterFault}
use Rattle.dns_master.specs.declared.master_fault.MasterFault.TheVariants.{TooLarge}
use Rattle.dns_master.specs.declared.shape.ShapeFault.{ShapeFault}
use Rattle.dns_master.specs.declared.entry_fault.EntryFault.{EntryFault}
use Rattle.dns_master.specs.declared.entry_fault.EntryFault.TheVariants as faults
use Rattle.dns_master.specs.declared.file.FileFault.{FileFault}
use Rattle.dns_master.specs.declared.statement.StatedRecord.{StatedRecord}
use Rattle.dns_master.specs.declared.statement.Statement.{Statement}
use Rattle.dns_master.specs.declared.statement.Statement.TheVariants as statements
use Rattle.dns_master.specs.Entries.{Entry, entries}
use Rattle.dns_master.specs.Reader.{text_of}
use Rattle.dns_master.specs.EntryFaults.{◌>>=◌}
use Rattle.dns_master.specs.Faults.{Gives}
use Rattle.dns_master.specs.Statements.{statement_of}
use Rattle.dns_master.specs.InForce.{InForce, or_else, ttl_in_force, behind_entry, handed_in}
use Rattle.dns_master.specs.Files.{or_refused, records_of, Taken, taken, first_left, with_records, then_entries, read_from, file_from, placed_file, file_on_lines, file_of}
use Rattle.dns_master.specs.EntryTexts.{EntryText}
use Rattle.dns_master.specs.EntryGrammar.{States}
use Rattle.dns_master.specs.FileGrammar.{IsRecordOf, AreRecords, AreStated, IsFile}
use Rattle.dns_master.proofs.PartLaws.{step_ok}
use Rattle.dns_master.proofs.StatementLaws.{HasOwner, statement_found, statement_only}
use Rattle.dns_master.proofs.CarriedLaws.{carried, carried_in_force, one_in_force}
use Rattle.dns_master.proofs.CutLaws.{view, entries_are, entries_read}
use Rattle.dns_master.proofs.ByteLaws.{AreEntryBytes, entries_bytes}

-- ---- two functions say what is in force, and agree

-- so many numbers on
abbrev on : ℕ → ℕ → ℕ
on i zero = i
on i (suc j) = on (suc i) j

on_suc : (i j : ℕ) → on (suc i) j ≡ suc (on i j)
on_suc i zero = refl
on_suc i (suc j) = on_suc (suc i) j

on_zero : (j : ℕ) → on 0 j ≡ j
on_zero zero = refl
on_zero (suc j) = on_suc 0 j ∙ ap (λ (n : ℕ). suc n) (on_zero j)

-- from i on the one says what the other says from k on
abbrev Agree : (f g : ℕ → InForce) → ℕ → ℕ → ℕ → Type 0
Agree f g i k n = (j : ℕ) → j ≤ n → f (on i j) ≡ g (on k j)

stated_along : (f g : ℕ → InForce) (n i k : ℕ) (es : List EntryText) (ss : List Statement) → length ss ≤ n → Agree f g i k n → AreStated f i es ss → AreStated g k es ss
stated_along f g n i k [] ss l a h = h
stated_along f g n i k (e ∷ es) [] l a h = h
stated_along f g zero i k (e ∷ es) (s ∷ ss) l a h = absurd (omega arith)
stated_along f g (suc n) i k (e ∷ es) (s ∷ ss) l a h = (
  subst (λ (b : InForce). States b.origin e.white e.items s) (a 0 (omega arith)) h.0,
  stated_along f g n (suc i) (suc k) es ss (omega arith) (λ j q. a (suc j) (omega arith)) h.1,
)

records_along : (f g : ℕ → InForce) (n i k : ℕ) (ss : List Statement) (rs : List Record) → length ss ≤ n → Agree f g i k n → AreRecords f i ss rs → AreRecords g k ss rs
records_along f g n i k [] rs l a h = h
records_along f g zero i k (s ∷ ss) rs l a h = absurd (omega arith)
records_along f g (suc n) i k ((statements.Origin name) ∷ ss) rs l a h = records_along f g n (suc i) (suc k) ss rs (omega arith) (λ j q. a (suc j) (omega arith)) h
records_along f g (suc n) i k ((statements.DefaultTtl ttl) ∷ ss) rs l a h = records_along f g n (suc i) (suc k) ss rs (omega arith) (λ j q. a (suc j) (omega arith)) h
records_along f g (suc n) i k ((statements.Record stated) ∷ ss) [] l a h = h
records_along f g (suc n) i k ((statements.Record stated) ∷ ss) (r ∷ rs) l a h = (
  subst (λ (b : InForce). IsRecordOf stated b (g (suc k)) r) (a 0 (omega arith)) (subst (λ (b : InForce). IsRecordOf stated (f i) b r) (a 1 (omega arith)) h.0),
  records_along f g n (suc i) (suc k) ss rs (omega arith) (λ j q. a (suc j) (omega arith)) h.1,
)

-- what is carried after the first entry
carried_behind : (b : InForce) (s : Statement) (ss : List Statement) (n : ℕ) → Agree (carried b (s ∷ ss)) (carried (behind_entry s b) ss) 1 0 n
carried_behind b s ss n j q = ap (carried b (s ∷ ss)) (on_suc 0 j)

carried_before : (b : InForce) (s : Statement) (ss : List Statement) (n : ℕ) → Agree (carried (behind_entry s b) ss) (carried b (s ∷ ss)) 0 1 n
carried_before b s ss n j q = sym (carried_behind b s ss n j q)

module _ (b : InForce) (s : Statement) (ss : List Statement) where
  stated_less : (es : List EntryText) → AreStated (carried b (s ∷ ss)) 1 es ss → AreStated (carried (behind_entry s b) ss) 0 es ss
  stated_less es h = stated_along (carried b (s ∷ ss)) (carried (behind_entry s b) ss) (length ss) 1 0 es ss (omega arith) (carried_behind b s ss (length ss)) h

  stated_more : (es : List EntryText) → AreStated (carried (behind_entry s b) ss) 0 es ss → AreStated (carried b (s ∷ ss)) 1 es ss
  stated_more es h = stated_along (carried (behind_entry s b) ss) (carried b (s ∷ ss)) (length ss) 0 1 es ss (omega arith) (carried_before b s ss (length ss)) h

  records_less : (rs : List Record) → AreRecords (carried b (s ∷ ss)) 1 ss rs → AreRecords (carried (behind_entry s b) ss) 0 ss rs
  records_less rs h = records_along (carried b (s ∷ ss)) (carried (behind_entry s b) ss) (length ss) 1 0 ss rs (omega arith) (carried_behind b s ss (length ss)) h

  records_more : (rs : List Record) → AreRecords (carried (behind_entry s b) ss) 0 ss rs → AreRecords (carried b (s ∷ ss)) 1 ss rs
  records_more rs h = records_along (carried (behind_entry s b) ss) (carried b (s ∷ ss)) (length ss) 0 1 ss rs (omega arith) (carried_before b s ss (length ss)) h

-- ---- the record of an entry

pub refused_ok : {A : Type 0} (fault : EntryFault) (o : Option A) (x : A) → or_refused fault o ≡ Ok x → o ≡ Some x
refused_ok fault None x e = absurd cc
refused_ok fault (Some y) x e = cc

ok_same : {A : Type 0} (x y : A) → ◌≡◌ {A = Result A EntryFault} (Ok x) (Ok y) → y ≡ x
ok_same x y e = cc

record_made : (stated : StatedRecord) (b : InForce) (new : List Record) → records_of (statements.Record stated) b ≡ Ok new → (r : Record) × (new ≡ r ∷ []) × IsRecordOf stated b (behind_entry (statements.Record stated) b) r
record_made stated b new e =
    let o = step_ok (or_refused faults.NoOwner (or_else stated.owner b.owner)) _ new e in
    let t = step_ok (or_refused faults.NoTtl (ttl_in_force stated.ttl b (behind_entry (statements.Record stated) b))) _ new o.2 in
    (record { owner = o.0; ttl = t.0; rdata = stated.rdata }, ok_same _ new t.2, record { owner = refused_ok faults.NoOwner _ o.0 o.1; ttl = refused_ok faults.NoTtl _ t.0 t.1; rdata = refl })

record_again : (stated : StatedRecord) (b : InForce) (r : Record) → IsRecordOf stated b (behind_entry (statements.Record stated) b) r → records_of (statements.Record stated) b ≡ Ok (r ∷ [])
record_again stated b r h =
    ap (λ (o : Option (List (List ℕ))). or_refused faults.NoOwner o >>= λ owner. or_refused faults.NoTtl (ttl_in_force stated.ttl b (behind_entry (statements.Record stated) b)) >>= λ ttl. Ok ((record { owner = owner; ttl = ttl; rdata = stated.rdata }) ∷ [])) h.owner
    ∙ ap (λ (o : Option ℕ). or_refused faults.NoTtl o >>= λ ttl. Ok ((record { owner = r.owner; ttl = ttl; rdata = stated.rdata }) ∷ [])) h.ttl
    ∙ ap (λ (d : Data). Ok ((record { owner = r.owner; ttl = r.ttl; rdata = d }) ∷ [])) (sym h.rdata)

-- a record has an owner
pub owner_there : (own owner : Option (List (List ℕ))) (name : List (List ℕ)) → or_else own owner ≡ Some name → HasOwner own owner
owner_there None None name e = absurd cc
owner_there None (Some x) name e = tt
owner_there (Some x) owner name e = tt

-- the origin after an entry is a name
name_behind : (b : InForce) (white : Bool) (items : List ItemText) (s : Statement) → IsName b.origin → States b.origin white items s → IsName (behind_entry s b).origin
name_behind b white items (statements.Origin name) is h = h.4.0
name_behind b white items (statements.DefaultTtl ttl) is h = is
name_behind b white items (statements.Record stated) is h = is

-- ---- all entries

-- what entries state, and their records
pub record FileRead (b : InForce) (es : List Entry) (rs : List Record) : Type 0 where
  pub said : List Statement
  pub stated : AreStated (carried b said) 0 (map view es) said
  pub records : AreRecords (carried b said) 0 said rs

-- an entry and those after it
abbrev Split : InForce → Entry → List Entry → List Record → Type 0
Split b e es rs =
    (s : Statement) × (new others : List Record) × (statement_of b.origin b.owner e.white (map text_of e.items) ≡ Ok s) × (records_of s b ≡ Ok new) × (read_from es (behind_entry s b) ≡ Ok others) × (rs ≡ new ++ others)

with_ok : (records rs : List Record) (r : Result (List Record) FileFault) → with_records records r ≡ Ok rs → (others : List Record) × (r ≡ Ok others) × (rs ≡ records ++ others)
with_ok records rs (Ok others) e = (others, refl, let same : records ++ others ≡ rs = cc in sym same)
with_ok records rs (Err f) e = absurd cc

taken_ok : (left : ℕ) (r : Result Taken EntryFault) (more : InForce → Result (List Record) FileFault) (rs : List Record) → then_entries left r more ≡ Ok rs → (t : Taken) × (r ≡ Ok t) × (with_records t.1 (more t.0) ≡ Ok rs)
taken_ok left (Ok t) more rs e = (t, refl, e)
taken_ok left (Err f) more rs e = absurd cc

entry_split : (b : InForce) (e : Entry) (es : List Entry) (rs : List Record) → read_from (e ∷ es) b ≡ Ok rs → Split b e es rs
entry_split b e es rs h =
    let t = taken_ok (first_left e.items) (taken b e.white (map text_of e.items)) (read_from es) rs h in
    let s = step_ok (statement_of b.origin b.owner e.white (map text_of e.items)) (λ s. records_of s b >>= λ records. Ok (behind_entry s b, records)) t.0 t.1 in
    let r = step_ok (records_of s.0 b) (λ records. Ok (behind_entry s.0 b, records)) t.0 s.2 in
    let same : t.0 ≡ (behind_entry s.0 b, r.0) = ok_same _ t.0 r.2 in
    let w = with_ok r.0 rs (read_from es (behind_entry s.0 b)) (sym (ap (λ (x : Taken). with_records x.1 (read_from es x.0)) same) ∙ t.2) in
    (s.0, r.0, w.0, s.1, r.1, w.1, w.2)

nothing_made : (new others rs : List Record) → ◌≡◌ {A = Result (List Record) EntryFault} (Ok []) (Ok new) → rs ≡ new ++ others → rs ≡ others
nothing_made new others rs e h = h ∙ ap (λ (l : List Record). l ++ others) (ok_same [] new e)

records_before : (b : InForce) (s : Statement) (ss : List Statement) (new others rs : List Record) → records_of s b ≡ Ok new → rs ≡ new ++ others → AreRecords (carried (behind_entry s b) ss) 0 ss others → AreRecords (carried b (s ∷ ss)) 0 (s ∷ ss) rs
records_before b (statements.Origin name) ss new others rs m e h =
    subst (AreRecords (carried b ((statements.Origin name) ∷ ss)) 1 ss) (sym (nothing_made new others rs m e)) (records_more b (statements.Origin name) ss others h)
records_before b (statements.DefaultTtl ttl) ss new others rs m e h =
    subst (AreRecords (carried b ((statements.DefaultTtl ttl) ∷ ss)) 1 ss) (sym (nothing_made new others rs m e)) (records_more b (statements.DefaultTtl ttl) ss others h)
records_before b (statements.Record stated) ss new others rs m e h =
    let r = record_made stated b new m in
    let all : rs ≡ r.0 ∷ others = e ∙ ap (λ (l : List Record). l ++ others) r.1 in
    let behind = records_more b (statements.Record stated) ss others h in
    let whole : AreRecords (carried b ((statements.Record stated) ∷ ss)) 0 ((statements.Record stated) ∷ ss) (r.0 ∷ others) = (r.2, behind) in
    subst (AreRecords (carried b ((statements.Record stated) ∷ ss)) 0 ((statements.Record stated) ∷ ss)) (sym all) whole

entries_found : (b : InForce) (es : List Entry) (rs : List Record) → IsName b.origin → AreEntryBytes es → read_from es b ≡ Ok rs → FileRead b es rs
entries_found b [] rs is bytes e = record { said = []; stated = refl; records = let same : [] ≡ rs = cc in sym same }
entries_found b (e ∷ es) rs is bytes h =
    let p = entry_split b e es rs h in
    let s = p.0 in
    let states = statement_found b.origin b.owner e.white (map text_of e.items) s is bytes.0 p.3 in
    let r = entries_found (behind_entry s b) es p.2 (name_behind b e.white (map text_of e.items) s is states) bytes.1 p.5 in
    record {
      said = s ∷ r.said;
      stated = (states, stated_more b s r.said (map view es) r.stated);
      records = records_before b s r.said p.1 p.2 rs p.4 p.6 r.records;
    }

-- ---- and what is in the grammar is read

entry_again : (b : InForce) (e : Entry) (es : List Entry) (s : Statement) (new others : List Record) → statement_of b.origin b.owner e.white (map text_of e.items) ≡ Ok s → records_of s b ≡ Ok new → read_from es (behind_entry s b) ≡ Ok others → read_from (e ∷ es) b ≡ Ok (new ++ others)
entry_again b e es s new others p m h =
    let t : taken b e.white (map text_of e.items) ≡ Ok (behind_entry s b, new) =
    ap (λ (r : Result Statement EntryFault). r >>= λ x. records_of x b >>= λ records. Ok (behind_entry x b, records)) p
    ∙ ap (λ (r : Result (List Record) EntryFault). r >>= λ records. Ok (behind_entry s b, records)) m in
    ap (λ (r : Result Taken EntryFault). then_entries (first_left e.items) r (read_from es)) t ∙ ap (with_records new) h

entries_only : (b : InForce) (es : List Entry) (ss : List Statement) (rs : List Record) → IsName b.origin → AreStated (carried b ss) 0 (map view es) ss → AreRecords (carried b ss) 0 ss rs → read_from es b ≡ Ok rs
entries_only b [] [] rs is h r = ap (λ (l : List Record). Ok l) (sym r)
entries_only b [] (s ∷ ss) rs is h r = absurd (let no = h in cc)
entries_only b (e ∷ es) [] rs is h r = absurd h
entries_only b (e ∷ es) ((statements.Origin name) ∷ ss) rs is h r =
    let s = statements.Origin name in
    let more = entries_only (behind_entry s b) es ss rs (name_behind b e.white (map text_of e.items) s is h.0) (stated_less b s ss (map view es) h.1) (records_less b s ss rs r) in
    entry_again b e es s [] rs (statement_only b.origin b.owner e.white (map text_of e.items) s is tt h.0) refl more
entries_only b (e ∷ es) ((statements.DefaultTtl ttl) ∷ ss) rs is h r =
    let s = statements.DefaultTtl ttl in
    let more = entries_only (behind_entry s b) es ss rs is (stated_less b s ss (map view es) h.1) (records_less b s ss rs r) in
    entry_again b e es s [] rs (statement_only b.origin b.owner e.white (map text_of e.items) s is tt h.0) refl more
entries_only b (e ∷ es) ((statements.Record stated) ∷ ss) [] is h r = absurd r
entries_only b (e ∷ es) ((statements.Record stated) ∷ ss) (x ∷ rs) is h r =
    let s = statements.Record stated in
    let more = entries_only (behind_entry s b) es ss rs is (stated_less b s ss (map view es) h.1) (records_less b s ss rs r.1) in
    entry_again b e es s (x ∷ []) rs (statement_only b.origin b.owner e.white (map text_of e.items) s is (owner_there stated.owner b.owner x.owner r.0.owner) h.0) (record_again stated b x r.0) more

-- ---- texts

whole_file : (b : InForce) (r : Result (List Entry) ShapeFault) (rs : List Record) → file_from b r ≡ Ok rs → (es : List Entry) × (r ≡ Ok es) × (read_from es b ≡ Ok rs)
whole_file b (Ok es) rs e = (es, refl, e)
whole_file b (Err f) rs e = absurd cc

pub file_found : (text : List ℕ) (origin : List (List ℕ)) (rs : List Record) → IsName origin → IsBytes text → placed_file text origin ≡ Ok rs → IsFile text origin rs
file_found text origin rs is bytes e =
    let f = whole_file (handed_in origin) (entries text) rs e in
    let r = entries_found (handed_in origin) f.0 rs is (entries_bytes text f.0 bytes f.1) f.2 in
    record {
      of_entries = map view f.0;
      statements = r.said;
      before = carried (handed_in origin) r.said;
      entries_are = entries_are text f.0 f.1;
      in_force = carried_in_force r.said origin;
      are_stated = r.stated;
      are_records = r.records;
    }

pub file_only : (text : List ℕ) (origin : List (List ℕ)) (rs : List Record) → IsName origin → IsFile text origin rs → placed_file text origin ≡ Ok rs
file_only text origin rs is h =
    let ss = h.statements in
    let n = length ss in
    let agree : Agree h.before (carried (handed_in origin) ss) 0 0 n = λ j q.
    one_in_force ss origin h.before (carried (handed_in origin) ss) h.in_force (carried_in_force ss origin) (on 0 j) (omega (arith, on_zero j, q)) in
    let read = entries_read text h.of_entries h.entries_are in
    let stated = stated_along h.before (carried (handed_in origin) ss) n 0 0 h.of_entries ss (omega arith) agree h.are_stated in
    let records = records_along h.before (carried (handed_in origin) ss) n 0 0 ss rs (omega arith) agree h.are_records in
    ap (file_from (handed_in origin)) read.1
    ∙ entries_only (handed_in origin) read.0 ss rs is (subst (λ (es : List EntryText). AreStated (carried (handed_in origin) ss) 0 es ss) (sym read.2) stated) records

-- ---- with the limit, and the lines of refusals

lines_ok : (text : List ℕ) (r : Result (List Record) FileFault) (rs : List Record) → file_on_lines text r ≡ Ok rs → r ≡ Ok rs
lines_ok text (Ok x) rs e = let same : x ≡ rs = cc in ap (λ (l : List Record). Ok l) same
lines_ok text (Err f) rs e = absurd cc

pub text_found : (text : List ℕ) (origin : List (List ℕ)) (rs : List Record) → IsName origin → IsBytes text → file_of text origin ≡ Ok rs → IsFile text origin rs
text_found text origin rs is bytes =
    cond_both (ltb 4194304 (length text)) (Err TooLarge) (file_on_lines text (placed_file text origin)) (λ (r : Result (List Record) MasterFault). r ≡ Ok rs → IsFile text origin rs)
    (λ _ e. absurd cc) (λ _ e. file_found text origin rs is bytes (lines_ok text (placed_file text origin) rs e))

pub text_only : (text : List ℕ) (origin : List (List ℕ)) (rs : List Record) → IsName origin → IsFile text origin rs → length text ≤ 4194304 → file_of text origin ≡ Ok rs
text_only text origin rs is h short = rw (le-ltb 4194304 (length text) short) (ap (file_on_lines text) (file_only text origin rs is h))

-- what holds of what the definition reads, holds of what a call answered
pub given : {X Y : Type 0} (view : X → Y) (P : Y → Type 0) (r : Result X MasterFault) (read : Result Y MasterFault) → ((y : Y) → read ≡ Ok y → P y) → Gives view r read → IfOk r (λ x. P (view x))
given view P (Ok x) read all h = all (view x) h
given view P (Err e) read all h = tt
