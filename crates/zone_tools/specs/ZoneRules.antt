-- The rules that are checked of a zone: what each is called, and which records are at fault by it.
use Rattle.std.specs.Prelude.{◌≡◌, ◌⊎◌, ℕ, List, [], ◌∷◌, ◌++◌, true, false, codes, Option, Some, None, find, bytes_eq}
use Rattle.std.specs.List.{Contains}
use Rattle.dns_names.specs.Labels.{IsWithin, IsBelow}
use Rattle.dns_data.specs.declared.record.Record.{Record}
use Rattle.dns_data.specs.declared.record_type.RecordType.{RecordType}
use Rattle.dns_data.specs.declared.record_type.RecordType.TheVariants as types
use Rattle.dns_data.specs.declared.rdata.Data.{Data}
use Rattle.dns_data.specs.declared.rdata.Data.TheVariants as variants
use Rattle.dns_data.specs.Rdata.{type_of}
use Rattle.zone_core.specs.Delegations.{IsCutAt, HasAddress}
use Rattle.zone_tools.specs.declared.zone_rule.ZoneRule.{ZoneRule}
use Rattle.zone_tools.specs.declared.zone_rule.ZoneRule.TheVariants.{HostName, AliasTarget, MissingAddress, MissingGlue, BelowCut, DsWithoutNs, WildcardNs, DigestLength, WeakDigest, AddressName, UnreadOctet, DanglingAlias}
use Rattle.zone_tools.specs.HostNames.{has_host_names}
use Rattle.zone_tools.specs.RecordFaults.{is_wildcard_server, is_fit_digest, is_sha1, points_to_address, is_unread_record}

-- ---- the table

-- the rules that there are
abbrev pub all_rules : List ZoneRule
all_rules =
    HostName ∷ AliasTarget ∷ MissingAddress ∷ MissingGlue ∷ BelowCut ∷ DsWithoutNs ∷ WildcardNs ∷ DigestLength ∷ WeakDigest ∷ AddressName ∷ UnreadOctet ∷ DanglingAlias ∷ []

-- the word for a rule, what is wrong by it, and where the standards have it
pub record RuleRow : Type 0 where
  pub text : List ℕ
  pub reason : List ℕ
  pub source : List ℕ

abbrev pub row : List ℕ → List ℕ → List ℕ → RuleRow
row text reason source = record { text = text; reason = reason; source = source }

-- the table of rules
abbrev pub row_of : ZoneRule → RuleRow
row_of HostName =
    row (codes "host-name") (codes "a name is not that of a host: labels of letters, digits and hyphens, with no hyphen at either end")
    (codes "RFC 952, RFC 1123 section 2.1")
row_of AliasTarget =
    row (codes "alias-target") (codes "the server that the record names is an alias")
    (codes "RFC 2181 section 10.3, RFC 2782")
row_of MissingAddress =
    row (codes "missing-address") (codes "the server that the record names is in this zone and has no address there")
    (codes "RFC 1034 section 3.6, RFC 2782")
row_of MissingGlue =
    row (codes "missing-glue") (codes "the server of the delegation is at or below a cut and has no glue")
    (codes "RFC 1034 section 4.2.1, RFC 9471 section 2")
row_of BelowCut =
    row (codes "below-cut") (codes "a delegation occludes the record, which is no glue")
    (codes "RFC 1034 section 4.2.1, RFC 5936 section 3.5")
row_of DsWithoutNs =
    row (codes "ds-without-ns") (codes "a DS is at a name without NS")
    (codes "RFC 4034 section 5")
row_of WildcardNs =
    row (codes "wildcard-ns") (codes "an NS is at a wildcard")
    (codes "RFC 4592 section 4.2")
row_of DigestLength =
    row (codes "digest-length") (codes "the digest of a DS has not the length of its type")
    (codes "RFC 4034 section 5.1, RFC 4509 section 2.1, RFC 6605 section 2")
row_of WeakDigest =
    row (codes "weak-digest") (codes "the digest of a DS is of SHA-1")
    (codes "RFC 8624 section 3.3")
row_of AddressName =
    row (codes "address-name") (codes "the name to which the record points is an IPv4 address")
    (codes "RFC 1035 section 3.3, RFC 1123 section 2.1")
row_of UnreadOctet =
    row (codes "unread-octet") (codes "a name has one of ! # % & ' + , : < = > ? [ ] ^ ` { | } ~, which Knot does not read")
    (codes "RFC 1035 section 5.1")
row_of DanglingAlias =
    row (codes "dangling-alias") (codes "the target of the alias is in this zone and has no records there")
    (codes "RFC 1034 section 3.6.2")

abbrev pub rule_text : ZoneRule → List ℕ
rule_text rule = (row_of rule).text

abbrev pub rule_reason : ZoneRule → List ℕ
rule_reason rule = (row_of rule).reason

abbrev pub rule_source : ZoneRule → List ℕ
rule_source rule = (row_of rule).source

-- the rule of a word
abbrev pub rule_of : List ℕ → Option ZoneRule
rule_of word = find (λ r. bytes_eq (rule_text r) word) all_rules

-- the place of a rule in the table
abbrev pub rule_place : ZoneRule → ℕ
rule_place HostName = 0
rule_place AliasTarget = 1
rule_place MissingAddress = 2
rule_place MissingGlue = 3
rule_place BelowCut = 4
rule_place DsWithoutNs = 5
rule_place WildcardNs = 6
rule_place DigestLength = 7
rule_place WeakDigest = 8
rule_place AddressName = 9
rule_place UnreadOctet = 10
rule_place DanglingAlias = 11

-- ---- servers

-- the server that data name, of an NS, an MX or an SRV (RFC 1035 sections 3.3.9 and 3.3.11, RFC 2782)
abbrev pub server_of : Data → Option (List (List ℕ))
server_of (variants.Ns server) = Some server
server_of (variants.Mx preference exchange) = Some exchange
server_of (variants.Srv priority weight port target) = Some target
server_of rdata = None

-- a record of a type is at a name
abbrev pub HasType : List Record → List (List ℕ) → RecordType → Type 0
HasType rs name record_type = (r : Record) × Contains rs r × (r.owner ≡ name) × (type_of r.rdata ≡ record_type)

-- ---- wildcards

-- a name exists: a record is at it or below it (RFC 4592 section 2.2.2)
abbrev pub Exists : List Record → List (List ℕ) → Type 0
Exists rs name = (r : Record) × Contains rs r × IsWithin r.owner name

-- `*`, the label of a wildcard (RFC 4592 section 2.1.1)
abbrev pub asterisk : List ℕ
asterisk = 42 ∷ []

-- the wildcard below the closest encloser of a name, which exists, while the name with one label more does not (RFC 4592 section 3.3.1)
abbrev pub IsWildcardOver : List Record → List (List ℕ) → List (List ℕ) → Type 0
IsWildcardOver rs name wildcard =
    (front : List (List ℕ)) × (label : List ℕ) × (encloser : List (List ℕ)) × (name ≡ front ++ label ∷ encloser)
    × Exists rs encloser × ¬ Exists rs (label ∷ encloser) × (wildcard ≡ asterisk ∷ encloser)

-- the records of which name answer for a name: its own, if it exists, and otherwise those of the wildcard (RFC 1034 section 4.3.2)
abbrev pub IsSourceOf : List Record → List (List ℕ) → List (List ℕ) → Type 0
IsSourceOf rs name source = (Exists rs name × (source ≡ name)) ⊎ IsWildcardOver rs name source

-- a record that answers for a name has a type that is so
abbrev pub AnswersWith : (RecordType → Type 0) → List Record → List (List ℕ) → Type 0
AnswersWith IsSo rs name = (r : Record) × Contains rs r × IsSourceOf rs name r.owner × IsSo (type_of r.rdata)

-- the name is an alias (RFC 1034 section 3.6.2)
abbrev pub IsAlias : List Record → List (List ℕ) → Type 0
IsAlias rs name = AnswersWith (λ t. t ≡ types.Cname) rs name

-- the name has an address (RFC 1035 section 3.4.1, RFC 3596 section 2.2)
abbrev pub IsAddressed : List Record → List (List ℕ) → Type 0
IsAddressed rs name = AnswersWith (λ t. (t ≡ types.A) ⊎ (t ≡ types.Aaaa)) rs name

-- ---- delegations

-- a name is at or below a cut, where another zone begins (RFC 1034 section 4.2, RFC 2181 section 6)
abbrev pub IsDelegated : List (List ℕ) → List Record → List (List ℕ) → Type 0
IsDelegated origin rs name = (child : List (List ℕ)) × IsCutAt origin rs child × IsWithin name child

-- a name is below a cut
abbrev pub IsBelowCut : List (List ℕ) → List Record → List (List ℕ) → Type 0
IsBelowCut origin rs name = (child : List (List ℕ)) × IsCutAt origin rs child × IsBelow name child

-- an NS or a DS that makes a delegation: below no cut (RFC 1034 section 4.2.1, RFC 4034 section 5)
abbrev pub IsOfDelegation : List (List ℕ) → List Record → Record → Type 0
IsOfDelegation origin rs r = ((type_of r.rdata ≡ types.Ns) ⊎ (type_of r.rdata ≡ types.Ds)) × ¬ IsBelowCut origin rs r.owner

-- a delegation occludes a record: its owner is at or below a cut, and the record does not make the delegation (RFC 5936 section 3.5)
abbrev pub IsOccluded : List (List ℕ) → List Record → Record → Type 0
IsOccluded origin rs r = IsDelegated origin rs r.owner × ¬ IsOfDelegation origin rs r

-- glue: an address of a server that an NS names (RFC 1034 section 4.2.1)
abbrev pub IsGlue : List Record → Record → Type 0
IsGlue rs r =
    ((type_of r.rdata ≡ types.A) ⊎ (type_of r.rdata ≡ types.Aaaa)) × ((ns : Record) × Contains rs ns × (ns.rdata ≡ variants.Ns r.owner))

-- ---- records at fault

-- A record that is not occluded names a server for which the zone answers: within the origin, and neither at nor below a cut.
pub record NamesOwnServer (origin : List (List ℕ)) (rs : List Record) (r : Record) (server : List (List ℕ)) : Type 0 where
  pub named : server_of r.rdata ≡ Some server
  pub visible : ¬ IsOccluded origin rs r
  pub within : IsWithin server origin
  pub answered : ¬ IsDelegated origin rs server

-- An NS that makes a delegation names a server at or below a cut.
pub record NamesDelegatedServer (origin : List (List ℕ)) (rs : List Record) (r : Record) (server : List (List ℕ)) : Type 0 where
  pub named : r.rdata ≡ variants.Ns server
  pub visible : ¬ IsOccluded origin rs r
  pub cut : IsBelow r.owner origin
  pub delegated : IsDelegated origin rs server

-- An alias that is not occluded has a target for which the zone answers, with no record.
pub record NamesNothing (origin : List (List ℕ)) (rs : List Record) (r : Record) (target : List (List ℕ)) : Type 0 where
  pub named : r.rdata ≡ variants.Cname target
  pub visible : ¬ IsOccluded origin rs r
  pub within : IsWithin target origin
  pub answered : ¬ IsDelegated origin rs target
  pub nothing : ¬ AnswersWith (λ t. Unit {0}) rs target

-- A record of a zone is at fault by a rule:
-- a name that has to be that of a host is not (RFC 952, RFC 1123 section 2.1);
-- the server that it names is an alias (RFC 2181 section 10.3, RFC 2782);
-- the server that it names has no address, where the zone would answer with one (RFC 1034 section 3.6, RFC 2782);
-- the server of a delegation has no address, where glue is needed (RFC 1034 section 4.2.1, RFC 9471 section 2);
-- a delegation occludes it, and it is no glue (RFC 1034 section 4.2.1);
-- it is a DS at a name without NS (RFC 4034 section 5);
-- it is an NS at a wildcard (RFC 4592 section 4.2);
-- it is a DS whose digest has not the length of its type (RFC 4034 section 5.1, RFC 4509 section 2.1, RFC 6605 section 2);
-- it is a DS with a digest of SHA-1 (RFC 8624 section 3.3);
-- the name to which it points is an IPv4 address (RFC 1123 section 2.1);
-- a name of it has an octet that Knot does not read as it is printed;
-- it is an alias, and its target has no records, where the zone would answer with one (RFC 1034 section 3.6.2).
abbrev pub IsAtFault : ZoneRule → List (List ℕ) → List Record → Record → Type 0
IsAtFault HostName origin rs r = has_host_names r ≡ false
IsAtFault AliasTarget origin rs r = (server : List (List ℕ)) × NamesOwnServer origin rs r server × IsAlias rs server
IsAtFault MissingAddress origin rs r =
    (server : List (List ℕ)) × NamesOwnServer origin rs r server × ¬ IsAlias rs server × ¬ IsAddressed rs server
IsAtFault MissingGlue origin rs r = (server : List (List ℕ)) × NamesDelegatedServer origin rs r server × ¬ HasAddress rs server
IsAtFault BelowCut origin rs r = IsOccluded origin rs r × ¬ IsGlue rs r
IsAtFault DsWithoutNs origin rs r = (type_of r.rdata ≡ types.Ds) × ¬ HasType rs r.owner types.Ns
IsAtFault WildcardNs origin rs r = is_wildcard_server r.owner r.rdata ≡ true
IsAtFault DigestLength origin rs r = is_fit_digest r.rdata ≡ false
IsAtFault WeakDigest origin rs r = is_sha1 r.rdata ≡ true
IsAtFault AddressName origin rs r = points_to_address r.rdata ≡ true
IsAtFault UnreadOctet origin rs r = is_unread_record r ≡ true
IsAtFault DanglingAlias origin rs r = (target : List (List ℕ)) × NamesNothing origin rs r target
