-- A record that an entry states, taken after those before it.
use Rattle.std.proofs.Common.{◌≡◌, ℕ, ◌-◌, ◌<◌, List, [], ◌∷◌, ◌++◌, length, Option, Some, None, option_map, Result, Ok, Err, refl, sym, ap, subst, ◌∙◌, arith, length-append}
use Rattle.std.proofs.lemmas.Option.{slice_get-get_or}
use Rattle.std.proofs.Math.Seq.{get_or-append_seam}
use Rattle.std.specs.List.{slice_get}
use Rattle.std.specs.Option.{option_or}
use Rattle.dns_data.specs.declared.rdata.Data.{Data}
use Rattle.dns_data.specs.declared.record.Record.{Record}
use Rattle.dns_master.specs.declared.entry_fault.EntryFault.{EntryFault}
use Rattle.dns_master.specs.declared.entry_fault.EntryFault.TheVariants.{NoOwner, NoTtl}
use Rattle.dns_master.specs.declared.file.FileRead.{FileRead}
use Rattle.dns_master.specs.declared.statement.StatedRecord.{StatedRecord}
use Rattle.dns_master.specs.declared.statement.Statement.TheVariants as statements
use Rattle.dns_master.specs.EntryFaults.{◌>>=◌, RefusesEntry}
use Rattle.dns_master.specs.InForce.{or_else, fitting_ttl, minimum_in}
use Rattle.dns_master.specs.Files.{or_refused, records_of}
use Rattle.dns_master.proofs.RecordLemmas.{refused_on}
use Rattle.dns_master.specs.FileViews.{force_of, last_owner, completed, TakesStatement}

or_is : {A : Type 0} (a b : Option A) → option_or a b ≡ or_else a b
or_is None b = refl
or_is (Some x) b = refl

last_is : (records : List Record) (r : Record) → last_owner (records ++ r ∷ []) ≡ Some r.owner
last_is records r =
    let all = records ++ r ∷ [] in
    let size : length all - 1 ≡ length records = omega (arith, length-append records (r ∷ [])) in
    let within : length records < length all = omega (arith, length-append records (r ∷ [])) in
    ap (λ (k : ℕ). option_map (λ (x : Record). x.owner) (slice_get all k)) size
    ∙ ap (option_map (λ (x : Record). x.owner)) (slice_get-get_or all (length records) r within ∙ ap (λ (x : Record). Some x) (get_or-append_seam records r [] r))

-- an owner and a TTL, where they are there
abbrev lead : Option (List (List ℕ)) → Option ℕ → Result (List (List ℕ) × ℕ) EntryFault
lead owner ttl = or_refused NoOwner owner >>= λ o. or_refused NoTtl ttl >>= λ t. Ok (o, t)

-- the record that is made of an owner, a TTL and data
made : (owner : Option (List (List ℕ))) (ttl : Option ℕ) (rdata : Data) (r : Record)
    → (lead owner ttl >>= λ x. Ok (record { owner = x.0; ttl = x.1; rdata = rdata })) ≡ Ok r
    → ((or_refused NoOwner owner >>= λ o. or_refused NoTtl ttl >>= λ t. Ok ((record { owner = o; ttl = t; rdata = rdata }) ∷ [])) ≡ Ok (r ∷ [])) × (owner ≡ Some r.owner)
made None ttl rdata r e = absurd cc
made (Some o) None rdata r e = absurd cc
made (Some o) (Some t) rdata r e =
    let same : record { owner = o; ttl = t; rdata = rdata } ≡ r = cc in
    (ap (λ (x : Record). Ok (x ∷ [])) same, ap (λ (x : Record). Some x.owner) same)

-- a record that was made so is taken, with its TTL and the MINIMUM after it
pub record_taken : (old new : FileRead) (stated : StatedRecord) (r : Record)
    → new.origin ≡ old.origin → new.default_ttl ≡ old.default_ttl → new.stated_ttl ≡ option_or stated.ttl old.stated_ttl → new.minimum ≡ option_or (minimum_in stated.rdata) old.minimum → new.records.items ≡ old.records.items ++ r ∷ []
    → completed (record old { minimum = new.minimum }) stated ≡ Ok r → TakesStatement old new (statements.Record stated) (Ok tt)
record_taken old new stated r origin default ttl minimum items is =
    let own = ttl ∙ or_is stated.ttl old.stated_ttl in
    let least = minimum ∙ or_is (minimum_in stated.rdata) old.minimum in
    let last = ap last_owner items ∙ last_is old.records.items r in
    let it = made (or_else stated.owner (last_owner old.records.items)) (or_else stated.ttl (or_else old.default_ttl (or_else old.stated_ttl (fitting_ttl (or_else (minimum_in stated.rdata) old.minimum))))) stated.rdata r
    (ap (λ (m : Option ℕ). completed (record old { minimum = m }) stated) (sym least) ∙ is) in
    let owner = last ∙ sym it.1 in
    (r ∷ [], it.0, record { in_force = cc; records = items })

-- and what refuses it refuses the entry
unmade : (owner : Option (List (List ℕ))) (ttl : Option ℕ) (rdata : Data) (e : EntryFault)
    → RefusesEntry {Y = Record} e (lead owner ttl >>= λ x. Ok (record { owner = x.0; ttl = x.1; rdata = rdata })) → RefusesEntry {Y = List Record} e (or_refused NoOwner owner >>= λ o. or_refused NoTtl ttl >>= λ t. Ok ((record { owner = o; ttl = t; rdata = rdata }) ∷ []))
unmade None ttl rdata e h = refused_on e (Err NoOwner) (λ (r : Record). Ok (r ∷ [])) h
unmade (Some o) None rdata e h = refused_on e (Err NoTtl) (λ (r : Record). Ok (r ∷ [])) h
unmade (Some o) (Some t) rdata e h = refused_on e (Ok (record { owner = o; ttl = t; rdata = rdata })) (λ (r : Record). Ok (r ∷ [])) h

pub record_refused : (old : FileRead) (minimum : Option ℕ) (stated : StatedRecord) (e : EntryFault)
    → minimum ≡ option_or (minimum_in stated.rdata) old.minimum → RefusesEntry e (completed (record old { minimum = minimum }) stated) → RefusesEntry e (records_of (statements.Record stated) (force_of old))
record_refused old minimum stated e is h =
    unmade (or_else stated.owner (last_owner old.records.items)) (or_else stated.ttl (or_else old.default_ttl (or_else old.stated_ttl (fitting_ttl (or_else (minimum_in stated.rdata) old.minimum))))) stated.rdata e
    (subst (λ (m : Option ℕ). RefusesEntry e (completed (record old { minimum = m }) stated)) (is ∙ or_is (minimum_in stated.rdata) old.minimum) h)
