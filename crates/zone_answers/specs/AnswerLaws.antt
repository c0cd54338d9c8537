-- What is true of answers, said from outside.
use Rattle.std.specs.Prelude.{◌≡◌, ◌↔◌, ◌⊎◌, List, [], false}
use Rattle.std.specs.List.{Contains}
use Rattle.dns_names.specs.Labels.{IsWithin, IsBelow}
use Rattle.dns_data.specs.declared.record.Record.{Record}
use Rattle.dns_data.specs.declared.record_type.RecordType.TheVariants as types
use Rattle.dns_data.specs.Rdata.{type_of}
use Rattle.zone_core.specs.declared.rcode.Rcode.TheVariants.{NoError, NxDomain}
use Rattle.zone_core.specs.Delegations.{IsCutAt}
use Rattle.zone_core.specs.Views.{AreOfZone}
use Rattle.zone_answers.specs.declared.query_type.QueryType.{QueryType}
use Rattle.zone_answers.specs.declared.query_type.QueryType.TheVariants.{Kept}
use Rattle.zone_answers.specs.Answers.{Name, Exists, IsWildcardOver, IsSourceOf, IsCutOver, asked_at, answered_as, as_negative, AnswerOf, IsAnswer}

-- Each question about a zone has one answer, and no other.
abbrev pub QuestionsHaveOneAnswer : Type 0
QuestionsHaveOneAnswer =
    (origin : Name) (rs : List Record) (name : Name) (asked : QueryType) → AreOfZone origin rs
    → ((a : AnswerOf) × IsAnswer origin rs name asked a)
    × ((a b : AnswerOf) → IsAnswer origin rs name asked a → IsAnswer origin rs name asked b → a ≡ b)

-- a record is one of the zone, at its name or at the wildcard that answers for its name
abbrev pub IsOfZone : List Record → Record → Type 0
IsOfZone rs r = (s : Record) × Contains rs s × IsSourceOf rs r.owner s.owner × (r ≡ answered_as r.owner s)

-- a record is one of the zone, or its SOA with the TTL of negative answers
abbrev pub IsOfAuthority : List Record → Record → Type 0
IsOfAuthority rs r = Contains rs r ⊎ ((s : Record) × Contains rs s × (type_of s.rdata ≡ types.Soa) × (r ≡ as_negative s))

-- No answer has a record that the zone has not.
abbrev pub AnswersAreOfZones : Type 0
AnswersAreOfZones =
    (origin : Name) (rs : List Record) (name : Name) (asked : QueryType) (a : AnswerOf) → IsAnswer origin rs name asked a
    → (r : Record)
    → (Contains a.answer r → IsOfZone rs r) × (Contains a.authority r → IsOfAuthority rs r) × (Contains a.additional r → Contains rs r)

-- an answer refers to the servers of a cut, and has nothing else but addresses
pub record Refers (rs : List Record) (cut : Name) (a : AnswerOf) : Type 0 where
  pub code : a.code ≡ NoError
  pub authoritative : a.authoritative ≡ false
  pub answer : a.answer ≡ []
  pub authority : a.authority ≡ asked_at rs cut (Kept types.Ns)

-- At or below a cut there are only referrals, to the outermost cut, but for the DS of a cut (RFC 1034 section 4.2.1).
abbrev pub CutsRefer : Type 0
CutsRefer =
    (origin : Name) (rs : List Record) (name : Name) (asked : QueryType) (a : AnswerOf) (cut : Name) → IsAnswer origin rs name asked a
    → IsCutAt origin rs cut → IsWithin name cut → IsBelow name cut ⊎ ¬ (asked ≡ Kept types.Ds)
    → (top : Name) × IsCutOver origin rs name top × Refers rs top a

-- neither a name nor anything below it exists, nor a wildcard that applies, and no cut is at or above it
pub record IsNowhere (origin : Name) (rs : List Record) (name : Name) : Type 0 where
  pub inside : IsWithin name origin
  pub answered : (cut : Name) → IsCutAt origin rs cut → ¬ IsWithin name cut
  pub absent : ¬ Exists rs name
  pub uncovered : (wildcard : Name) → IsWildcardOver rs name wildcard → ¬ Exists rs wildcard

-- NXDOMAIN, without an alias before, is the answer exactly there (RFC 8020 section 2, RFC 4592 section 2.2).
abbrev pub MissingNamesAreNowhere : Type 0
MissingNamesAreNowhere =
    (origin : Name) (rs : List Record) (name : Name) (asked : QueryType) (a : AnswerOf) → IsAnswer origin rs name asked a
    → ((a.code ≡ NxDomain) × (a.answer ≡ [])) ↔ IsNowhere origin rs name
