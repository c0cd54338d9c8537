-- The laws of single fields: what is read from an item is spelled by it, and what it spells is read.
use Rattle.std.proofs.Common.{◌≡◌, ℕ, ◌<◌, ◌≤◌, ◌^◌, Bool, eqb, List, [], ◌∷◌, length, Option, Some, None, Result, Ok, refl, sym, ap, subst, ◌∙◌, append-nil, arith, eqb-true, lit≤}
use Rattle.std.proofs.lemmas.List.{nil_from_length}
use Rattle.std.proofs.lemmas.Option.{cond_some, none-some}
use Rattle.std.proofs.NetLemmas.Ipv4.{read_ipv4_sound, read_ipv4_complete}
use Rattle.std.proofs.NetLemmas.Ipv6.{read_ipv6_sound, read_ipv6_complete, EndsGroups-nil}
use Rattle.std.specs.List.{AllByRecursion}
use Rattle.std.specs.Net.Grammar.{IsDotted, IsColonHex, IsIpv4Text, IsIpv6Text}
use Rattle.std.specs.Net.Reader.{whole_value, read_ipv4, read_ipv6}
use Rattle.std.specs.declared.net.ipv4_addr.Ipv4Addr.{Ipv4Addr}
use Rattle.std.specs.declared.net.ipv6_addr.Ipv6Addr.{Ipv6Addr}
use Rattle.dns_names.specs.Labels.{IsName}
use Rattle.dns_names.specs.Reading.{absolute_name, relative_name}
use Rattle.dns_names.proofs.SymbolLaws.{IsBytes}
use Rattle.dns_names.proofs.ReadingLaws.{absolute_found, absolute_only, relative_found, relative_only}
use Rattle.dns_data.specs.declared.data_fault.DataFault.{DataFault}
use Rattle.dns_data.specs.declared.data_fault.DataFault.TheVariants.{QuotedItem}
use Rattle.dns_data.specs.Faults.{◌>>=◌}
use Rattle.dns_data.specs.Items.{ItemText, plain}
use Rattle.dns_data.specs.Numbers.{number_of, duration_of}
use Rattle.dns_data.specs.Grammar.{SpellsName, SpellsNumber, SpellsSeconds}
use Rattle.dns_data.specs.Fields.{Width, U8, U16, U32, bits}
use Rattle.dns_data.specs.Reading.{field, most, ipv4_from, ipv4_of, ipv6_from, ipv6_of, name_of}
use Rattle.dns_data.proofs.StepLaws.{bind_ok, guarded_ok, ok_is, of_names_ok, of_names_again}
use Rattle.dns_data.proofs.NumberLaws.{number_found, number_only, duration_found, duration_only}

-- the items are octets
abbrev pub AreBytes : List ItemText → Type 0
AreBytes items = AllByRecursion (λ item. IsBytes item.raw) items

-- the origin, where there is one, is a name
abbrev pub IsOrigin : Option (List (List ℕ)) → Type 0
IsOrigin None = Unit {0}
IsOrigin (Some origin) = IsName origin

-- ---- any field

-- a field that was read, by the text that spells it
pub record ReadField {X : Type 0} (Spells : X → List ℕ → Type 0) (items : List ItemText) (x : X) (rest : List ItemText) : Type 0 where
  pub raw : List ℕ
  pub items_are : items ≡ plain raw ∷ rest
  pub spelled : Spells x raw
  pub bytes : AreBytes rest

-- an item by its parts
abbrev item_with : List ℕ → Bool → ItemText
item_with raw quoted = record { raw = raw; quoted = quoted }

-- a field is spelled by its item
pub field_found : {X : Type 0} (read : List ℕ → Result X DataFault) (Spells : X → List ℕ → Type 0) (sound : (raw : List ℕ) (x : X) → IsBytes raw → read raw ≡ Ok x → Spells x raw)
    (items : List ItemText) (x : X) (rest : List ItemText) → AreBytes items → field read items ≡ Ok (x, rest) → ReadField Spells items x rest
field_found read Spells sound [] x rest bytes e = absurd cc
field_found {X} read Spells sound (item ∷ items) x rest bytes e =
    let g = guarded_ok item.quoted QuotedItem (read item.raw >>= λ y. Ok (y, items)) (x, rest) e in
    let b = bind_ok (read item.raw) (λ y. Ok (y, items)) (x, rest) g.1 in
    let same = ok_is (b.0, items) (x, rest) b.2 in
    let spelled = sound item.raw b.0 bytes.0 b.1 in
    subst (λ (p : X × List ItemText). ReadField Spells (item ∷ items) p.0 p.1) same
    (record { raw = item.raw; items_are = ap (λ (q : Bool). item_with item.raw q ∷ items) g.0; spelled = spelled; bytes = bytes.1 })

-- what an item spells is read
pub field_only : {X : Type 0} (read : List ℕ → Result X DataFault) (raw : List ℕ) (x : X) (rest : List ItemText) → read raw ≡ Ok x → field read (plain raw ∷ rest) ≡ Ok (x, rest)
field_only read raw x rest e = rw e refl

-- ---- names

pub name_found : (origin : Option (List (List ℕ))) (is : IsOrigin origin) (raw : List ℕ) (name : List (List ℕ)) → IsBytes raw → name_of origin raw ≡ Ok name → SpellsName origin name raw
name_found None is raw name bytes e = absolute_found raw name bytes (of_names_ok (absolute_name raw) name e)
name_found (Some origin) is raw name bytes e = relative_found origin raw name is bytes (of_names_ok (relative_name origin raw) name e)

pub name_only : (origin : Option (List (List ℕ))) (is : IsOrigin origin) (raw : List ℕ) (name : List (List ℕ)) → SpellsName origin name raw → name_of origin raw ≡ Ok name
name_only None is raw name h = of_names_again (absolute_name raw) name (absolute_only name raw h.0 h.1)
name_only (Some origin) is raw name h = of_names_again (relative_name origin raw) name (relative_only origin name raw is h.0 h.1)

-- ---- numbers

within : (width : Width) (n : ℕ) → n ≤ most width → n < 2 ^ bits width
within U8 n h = omega arith
within U16 n h = omega arith
within U32 n h = omega arith

up_to_most : (width : Width) (n : ℕ) → n < 2 ^ bits width → n ≤ most width
up_to_most U8 n h = omega arith
up_to_most U16 n h = omega arith
up_to_most U32 n h = omega arith

pub number_value : (width : Width) (raw : List ℕ) (n : ℕ) → number_of (most width) raw ≡ Ok n → SpellsNumber (bits width) n raw
number_value width raw n e = let f = number_found (most width) raw n e in (within width n f.1, f.0)

pub number_value_only : (width : Width) (raw : List ℕ) (n : ℕ) → SpellsNumber (bits width) n raw → number_of (most width) raw ≡ Ok n
number_value_only width raw n h = number_only (most width) raw n h.1 (up_to_most width n h.0)

pub seconds_value : (raw : List ℕ) (n : ℕ) → duration_of (most U32) raw ≡ Ok n → SpellsSeconds n raw
seconds_value raw n e = let f = duration_found (most U32) raw n e in (within U32 n f.1, f.0)

pub seconds_value_only : (raw : List ℕ) (n : ℕ) → SpellsSeconds n raw → duration_of (most U32) raw ≡ Ok n
seconds_value_only raw n h = duration_only (most U32) raw n h.1 (up_to_most U32 n h.0)

-- ---- addresses

-- a whole text that was read
whole_some : {A : Type 0} (r : Option (A × List ℕ)) (a : A) → whole_value r ≡ Some a → r ≡ Some (a, [])
whole_some None a e = absurd (none-some a e)
whole_some {A} (Some p) a e =
    let c = cond_some (eqb (length p.1) 0) p.0 a e in
    let nothing : p.1 ≡ [] = nil_from_length p.1 (eqb-true (length p.1) 0 c.0) in
    let value : p.0 ≡ a = c.1 in
    let first : ◌≡◌ {A = Option (A × List ℕ)} (Some (p.0, p.1)) (Some (a, p.1)) = ap (λ (x : A). Some (x, p.1)) value in
    first ∙ ap (λ (t : List ℕ). Some (a, t)) nothing

-- the octets of an address that was read
ipv4_from_ok : (o : Option (List ℕ)) (a : Ipv4Addr) → ipv4_from o ≡ Ok a → o ≡ Some a.octets
ipv4_from_ok None a e = absurd cc
ipv4_from_ok (Some octets) a e = ap (λ (b : Ipv4Addr). Some b.octets) (ok_is (record { octets = octets }) a e)

-- and the segments
ipv6_from_ok : (o : Option (List ℕ)) (a : Ipv6Addr) → ipv6_from o ≡ Ok a → o ≡ Some a.segments
ipv6_from_ok None a e = absurd cc
ipv6_from_ok (Some segments) a e = ap (λ (b : Ipv6Addr). Some b.segments) (ok_is (record { segments = segments }) a e)

pub ipv4_sound : (raw : List ℕ) (a : Ipv4Addr) → ipv4_of raw ≡ Ok a → IsIpv4Text raw a
ipv4_sound raw a e =
    let w = whole_some (read_ipv4 raw) a.octets (ipv4_from_ok (whole_value (read_ipv4 raw)) a e) in
    let s = read_ipv4_sound raw a.octets [] w in
    subst (λ (t : List ℕ). IsDotted t a.octets) (sym (s.1 ∙ append-nil s.0)) s.2

pub ipv4_only : (raw : List ℕ) (a : Ipv4Addr) → IsIpv4Text raw a → ipv4_of raw ≡ Ok a
ipv4_only raw a h =
    let read = ap read_ipv4 (sym (append-nil raw)) ∙ read_ipv4_complete raw a.octets [] h (lit≤ tt) in
    rw read refl

pub ipv6_sound : (raw : List ℕ) (a : Ipv6Addr) → ipv6_of raw ≡ Ok a → IsIpv6Text raw a
ipv6_sound raw a e =
    let w = whole_some (read_ipv6 raw) a.segments (ipv6_from_ok (whole_value (read_ipv6 raw)) a e) in
    let s = read_ipv6_sound raw a.segments [] w in
    subst (λ (t : List ℕ). IsColonHex t a.segments) (sym (s.1 ∙ append-nil s.0)) s.2

pub ipv6_only : (raw : List ℕ) (a : Ipv6Addr) → IsIpv6Text raw a → ipv6_of raw ≡ Ok a
ipv6_only raw a h =
    let read = ap read_ipv6 (sym (append-nil raw)) ∙ read_ipv6_complete raw a.segments [] h EndsGroups-nil in
    rw read refl
