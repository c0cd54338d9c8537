-- What an authoritative server answers from a zone (RFC 1034 section 4.3.2): a relation over what exists. DNSSEC is left out.
use Rattle.std.specs.Prelude.{◌≡◌, ◌⊎◌, ℕ, List, [], ◌∷◌, ◌++◌, length, map, min, Bool, true, false, not, ◌==◌, if◌then◌else◌}
use Rattle.std.specs.List.{Contains, filter, flat_map}
use Rattle.dns_names.specs.Labels.{IsWithin}
use Rattle.dns_data.specs.declared.record.Record.{Record}
use Rattle.dns_data.specs.declared.record_type.RecordType.TheVariants as types
use Rattle.dns_data.specs.declared.rdata.Data.{Data}
use Rattle.dns_data.specs.declared.rdata.Data.TheVariants as variants
use Rattle.dns_data.specs.Rdata.{type_of}
use Rattle.zone_core.specs.declared.rcode.Rcode.{Rcode}
use Rattle.zone_core.specs.declared.rcode.Rcode.TheVariants.{NoError, NxDomain, Refused}
use Rattle.zone_core.specs.Sets.{key_of, at, at_name}
use Rattle.zone_core.specs.Delegations.{IsCutAt}
use Rattle.zone_answers.specs.declared.query_type.QueryType.{QueryType}
use Rattle.zone_answers.specs.declared.query_type.QueryType.TheVariants.{Kept, Any, Other}

-- labels, leftmost first
abbrev pub Name : Type 0
Name = List (List ℕ)

-- ---- names that exist

-- a name exists: a record is at it or below it, so an empty non-terminal does too (RFC 4592 section 2.2.2, RFC 8020 section 2)
abbrev pub Exists : List Record → Name → Type 0
Exists rs name = (r : Record) × Contains rs r × IsWithin r.owner name

-- `*`, the label of a wildcard (RFC 4592 section 2.1.1)
abbrev pub asterisk : List ℕ
asterisk = 42 ∷ []

-- the wildcard below the closest encloser, which exists, while with one label more it does not (RFC 4592 section 3.3.1)
abbrev pub IsWildcardOver : List Record → Name → Name → Type 0
IsWildcardOver rs name wildcard =
    (front : Name) × (label : List ℕ) × (encloser : Name) × (name ≡ front ++ label ∷ encloser)
    × Exists rs encloser × ¬ Exists rs (label ∷ encloser) × (wildcard ≡ asterisk ∷ encloser)

-- the source of the answer exists: the name, or where it does not exist, the wildcard (RFC 4592 section 3.3.1)
abbrev pub IsSourceOf : List Record → Name → Name → Type 0
IsSourceOf rs name source = Exists rs source × ((source ≡ name) ⊎ (¬ Exists rs name × IsWildcardOver rs name source))

-- ---- delegations

-- the outermost cut at or above a name (RFC 1034 section 4.3.2, step 3b)
pub record IsCutOver (origin : Name) (rs : List Record) (name cut : Name) : Type 0 where
  pub here : IsCutAt origin rs cut
  pub over : IsWithin name cut
  pub outermost : (other : Name) → IsCutAt origin rs other → IsWithin name other → IsWithin other cut

-- the question is referred to the servers of that cut; but the DS of the cut itself is the parent's (RFC 4035 section 3.1.4.1)
abbrev pub IsReferred : Name → List Record → Name → QueryType → Name → Type 0
IsReferred origin rs name asked cut = IsCutOver origin rs name cut × ¬ ((name ≡ cut) × (asked ≡ Kept types.Ds))

-- the zone answers by itself: the name is within its origin, and the question is not referred
abbrev pub IsOwn : Name → List Record → Name → QueryType → Type 0
IsOwn origin rs name asked = IsWithin name origin × ((cut : Name) → ¬ IsReferred origin rs name asked cut)

-- ---- records that are asked for

-- the records of a name that a question asks for: a set; all sets (RFC 1035 section 3.2.3); of a type that no zone has, none
abbrev pub asked_at : List Record → Name → QueryType → List Record
asked_at rs name (Kept record_type) = filter (λ r. at name record_type (key_of r)) rs
asked_at rs name Any = filter (λ r. at_name name (key_of r)) rs
asked_at rs name Other = []

-- whether a question is for aliases themselves, which are followed for all others (RFC 1034 section 3.6.2)
abbrev pub asks_alias : QueryType → Bool
asks_alias (Kept types.Cname) = true
asks_alias Any = true
asks_alias asked = false

-- an alias is at a name, and is followed
abbrev pub IsFollowed : List Record → Name → QueryType → Record → Type 0
IsFollowed rs name asked r = (asks_alias asked ≡ false) × Contains rs r × (r.owner ≡ name) × (type_of r.rdata ≡ types.Cname)

-- a record as one of the name that it answers for, which a wildcard's is not yet (RFC 4592 section 3.3.1)
abbrev pub answered_as : Name → Record → Record
answered_as name r = record r { owner = name }

-- ---- what is found for one name

-- the name is outside; a cut; neither name nor wildcard; an alias; records, or none; or a name that was asked for before
pub data Found : Type 0 where
  Outside : Found
  Delegated : Name → Found
  Missing : Found
  Alias : Record → Found
  Listed : List Record → Found
  Again : Found

abbrev pub Finds : Name → List Record → Name → QueryType → Found → Type 0
Finds origin rs name asked Outside = ¬ IsWithin name origin
Finds origin rs name asked (Delegated cut) = IsWithin name origin × IsReferred origin rs name asked cut
Finds origin rs name asked Missing = IsOwn origin rs name asked × ((source : Name) → ¬ IsSourceOf rs name source)
Finds origin rs name asked (Alias r) =
    IsOwn origin rs name asked × ((source : Name) × IsSourceOf rs name source × IsFollowed rs source asked r)
Finds origin rs name asked (Listed found) =
    IsOwn origin rs name asked
    × ((source : Name) × IsSourceOf rs name source × ((r : Record) → ¬ IsFollowed rs source asked r) × (found ≡ asked_at rs source asked))
Finds origin rs name asked Again = ⊥

-- ---- aliases

-- a name was asked for before: it owns one of the aliases that were followed
abbrev pub WasAsked : List Record → Name → Type 0
WasAsked before name = (r : Record) × Contains before r × (r.owner ≡ name)

-- after some aliases, others lead from a name to a last one (RFC 1034 section 4.3.2, step 3a)
abbrev pub Lead : Name → List Record → QueryType → List Record → Name → List Record → Name → Type 0
Lead origin rs asked before name [] last = last ≡ name
Lead origin rs asked before name (alias ∷ aliases) last =
    ¬ WasAsked before name
    × ((r : Record) × Finds origin rs name asked (Alias r) × (alias ≡ answered_as name r)
    × ((target : Name) × (alias.rdata ≡ variants.Cname target) × Lead origin rs asked (before ++ alias ∷ []) target aliases last))

-- what is found for the last name, after aliases: that it was asked for before, or anything but another alias
abbrev pub Ends : Name → List Record → QueryType → List Record → Name → Found → Type 0
Ends origin rs asked aliases last Again = WasAsked aliases last
Ends origin rs asked aliases last (Alias r) = ⊥
Ends origin rs asked aliases last found = ¬ WasAsked aliases last × Finds origin rs last asked found

-- ---- the answer

-- code, AA, and the three sections
pub record AnswerOf : Type 0 where
  pub code : Rcode
  pub authoritative : Bool
  pub answer : List Record
  pub authority : List Record
  pub additional : List Record

-- the code is that of the last name (RFC 6604 section 3); a name outside is refused, but not where an alias leads to it
abbrev pub code_of : Bool → Found → Rcode
code_of first Outside = if first then Refused else NoError
code_of first Missing = NxDomain
code_of first found = NoError

-- AA is that of the first name (RFC 1035 section 4.1.1)
abbrev pub authority_over : Bool → Found → Bool
authority_over first Outside = not first
authority_over first (Delegated cut) = not first
authority_over first found = true

-- the records of the last name, as its own
abbrev pub answer_in : Name → Found → List Record
answer_in name (Listed found) = map (answered_as name) found
answer_in name found = []

-- the TTL of a negative answer: the least of the SOA's and its MINIMUM (RFC 2308 section 5)
abbrev pub negative_ttl : ℕ → Data → ℕ
negative_ttl ttl (variants.Soa soa) = min ttl soa.minimum.0
negative_ttl ttl rdata = ttl

abbrev pub as_negative : Record → Record
as_negative r = record r { ttl = negative_ttl r.ttl r.rdata }

-- the SOA of a negative answer (RFC 2308 section 3)
abbrev pub negative_soa : Name → List Record → List Record
negative_soa origin rs = map as_negative (asked_at rs origin (Kept types.Soa))

-- the servers of a cut, or the SOA where there is no such name or no such record (RFC 1034 section 4.3.2, step 3b; RFC 2308 section 2)
abbrev pub authority_in : Name → List Record → Found → List Record
authority_in origin rs (Delegated cut) = asked_at rs cut (Kept types.Ns)
authority_in origin rs Missing = negative_soa origin rs
authority_in origin rs (Listed []) = negative_soa origin rs
authority_in origin rs found = []

-- the addresses that the zone has for the server of an NS, glue among them
abbrev pub addresses_in : List Record → Data → List Record
addresses_in rs (variants.Ns server) = asked_at rs server (Kept types.A) ++ asked_at rs server (Kept types.Aaaa)
addresses_in rs rdata = []

-- those of the servers of a cut, whatever is available (RFC 1034 section 4.3.2, step 3b; RFC 9471 section 2)
abbrev pub additional_in : List Record → Found → List Record
additional_in rs (Delegated cut) = flat_map (λ r. addresses_in rs r.rdata) (asked_at rs cut (Kept types.Ns))
additional_in rs found = []

-- the answer where aliases lead to a last name
abbrev pub answer_with : Name → List Record → List Record → Name → Found → AnswerOf
answer_with origin rs aliases last found = record {
  code = code_of (length aliases == 0) found;
  authoritative = authority_over (length aliases == 0) found;
  answer = aliases ++ answer_in last found;
  authority = authority_in origin rs found;
  additional = additional_in rs found;
}

-- What a zone answers to a question.
abbrev pub IsAnswer : Name → List Record → Name → QueryType → AnswerOf → Type 0
IsAnswer origin rs name asked a =
    (aliases : List Record) × (last : Name) × (found : Found) × Lead origin rs asked [] name aliases last
    × Ends origin rs asked aliases last found × (a ≡ answer_with origin rs aliases last found)
