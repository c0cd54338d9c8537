-- The same as tests that compute.
use Rattle.std.specs.Prelude.{◌≡◌, ℕ, List, [], ◌∷◌, length, Bool, true, false, not, ◌&&◌, ◌||◌, ◌==◌, if◌then◌else◌, Option, Some, None}
use Rattle.std.specs.List.{filter, list_any}
use Rattle.std.specs.List.Sorted.{IsSorted}
use Rattle.dns_names.specs.Labels.{is_within}
use Rattle.dns_names.specs.Order.{canonical_cmp, same_name}
use Rattle.dns_data.specs.declared.record.Record.{Record}
use Rattle.dns_data.specs.declared.rdata.Data.{Data}
use Rattle.dns_data.specs.declared.rdata.Data.TheVariants as variants
use Rattle.dns_data.specs.declared.record_type.RecordType.{RecordType}
use Rattle.dns_data.specs.declared.record_type.RecordType.TheVariants as types
use Rattle.dns_data.specs.Rdata.{type_of}
use Rattle.zone_core.specs.Sets.{key_of, listing}
use Rattle.zone_core.specs.Sets as sets
use Rattle.zone_core.specs.Outermost.{AreApart}
use Rattle.zone_core.specs.Delegations.{is_below, servers_in}
use Rattle.zone_tools.specs.declared.zone_rule.ZoneRule.{ZoneRule}
use Rattle.zone_tools.specs.declared.zone_rule.ZoneRule.TheVariants.{HostName, AliasTarget, MissingAddress, MissingGlue, BelowCut, DsWithoutNs, WildcardNs, DigestLength, WeakDigest, AddressName, UnreadOctet, DanglingAlias}
use Rattle.zone_tools.specs.declared.zone_faults.Lookups.{Lookups}
use Rattle.zone_tools.specs.declared.zone_survey.Survey.{Survey}
use Rattle.zone_tools.specs.HostNames.{has_host_names}
use Rattle.zone_tools.specs.RecordFaults.{is_wildcard_server, is_fit_digest, is_sha1, points_to_address, is_unread_record}
use Rattle.zone_tools.specs.ZoneRules.{rule_place, server_of, asterisk}

-- ---- types

abbrev pub is_ns : RecordType → Bool
is_ns types.Ns = true
is_ns record_type = false

abbrev pub is_cname : RecordType → Bool
is_cname types.Cname = true
is_cname record_type = false

abbrev pub is_ds : RecordType → Bool
is_ds types.Ds = true
is_ds record_type = false

abbrev pub is_address : RecordType → Bool
is_address types.A = true
is_address types.Aaaa = true
is_address record_type = false

-- ---- records at a name

abbrev pub records_at : List Record → List (List ℕ) → List Record
records_at rs name = filter (λ r. sets.at_name name (key_of r)) rs

-- whether a record has a type that passes a test
abbrev pub some_type : (RecordType → Bool) → List Record → Bool
some_type test rs = list_any (λ r. test (type_of r.rdata)) rs

-- ---- wildcards

-- whether a name exists
abbrev pub is_there : List Record → List (List ℕ) → Bool
is_there rs name = list_any (λ r. is_within r.owner name) rs

-- the wildcard below the closest encloser of a name that does not exist
abbrev pub wildcard_over : List Record → List (List ℕ) → Option (List (List ℕ))
wildcard_over rs [] = None
wildcard_over rs (label ∷ labels) = if is_there rs labels then Some (asterisk ∷ labels) else wildcard_over rs labels

-- the records at a name, if there is one
abbrev pub records_from : List Record → Option (List (List ℕ)) → List Record
records_from rs None = []
records_from rs (Some name) = records_at rs name

-- the records that answer for a name
abbrev pub answering : List Record → List (List ℕ) → List Record
answering rs name = if is_there rs name then records_at rs name else records_from rs (wildcard_over rs name)

-- ---- cuts and servers

-- whether a record cuts a zone of this origin at its owner
abbrev pub is_cut : List (List ℕ) → Record → Bool
is_cut origin r = is_ns (type_of r.rdata) && is_below r.owner origin

abbrev pub is_delegated : List (List ℕ) → List Record → List (List ℕ) → Bool
is_delegated origin rs name = list_any (λ r. is_cut origin r && is_within name r.owner) rs

abbrev pub is_below_cut : List (List ℕ) → List Record → List (List ℕ) → Bool
is_below_cut origin rs name = list_any (λ r. is_cut origin r && is_below name r.owner) rs

abbrev pub is_occluded : List (List ℕ) → List Record → Record → Bool
is_occluded origin rs r = is_delegated origin rs r.owner && not ((is_ns (type_of r.rdata) || is_ds (type_of r.rdata)) && not (is_below_cut origin rs r.owner))

-- whether an NS names this server
abbrev pub is_server : List Record → List (List ℕ) → Bool
is_server rs name = list_any (same_name name) (servers_in rs)

-- ---- what is known of a zone while its records are checked

-- the cuts that are below no other
pub record AreTopCuts (origin : List (List ℕ)) (rs : List Record) (cuts : List (List (List ℕ))) : Type 0 where
  pub apart : AreApart cuts
  pub covers : (name : List (List ℕ)) → list_any (λ cut. is_within name cut) cuts ≡ is_delegated origin rs name

-- servers in order, to be searched
pub record AreServers (rs : List Record) (servers : List (List (List ℕ))) : Type 0 where
  pub order : IsSorted canonical_cmp servers
  pub members : (name : List (List ℕ)) → list_any (same_name name) servers ≡ is_server rs name

-- what a survey has of its zone
pub record IsSurvey (survey : Survey) : Type 0 where
  pub cuts : AreTopCuts survey.zone.now.origin (listing survey.zone.now.records) survey.cuts.items
  pub servers : AreServers (listing survey.zone.now.records) survey.servers.items

-- ---- rules

-- the rule that a record breaks by a server at or below a cut, where these records are
abbrev pub glue_rule : List (List ℕ) → List Record → Record → List Record → Option ZoneRule
glue_rule origin rs r there = if not (some_type is_address there) && is_cut origin r && not (is_occluded origin rs r) then Some MissingGlue else None

-- the rule that records break that answer for a server
abbrev pub answer_rule : List Record → Option ZoneRule
answer_rule answers = if some_type is_cname answers then Some AliasTarget else (if some_type is_address answers then None else Some MissingAddress)

-- the rule that a record breaks by any other server of the zone
abbrev pub own_rule : List (List ℕ) → List Record → Record → List (List ℕ) → Option ZoneRule
own_rule origin rs r server = if is_occluded origin rs r then None else answer_rule (answering rs server)

-- whether an address is among the records at a name, and no alias
abbrev pub is_sound : List Record → Bool
is_sound there = some_type is_address there && not (some_type is_cname there)

-- the rule that a record breaks by the server that it names
abbrev pub broken_by : List (List ℕ) → List Record → Record → List (List ℕ) → Option ZoneRule
broken_by origin rs r server =
    if not (is_within server origin) then None
    else (if is_sound (records_at rs server) then None
    else (if is_delegated origin rs server then glue_rule origin rs r (records_at rs server) else own_rule origin rs r server))

abbrev pub broken_by_server : List (List ℕ) → List Record → Record → Option (List (List ℕ)) → Option ZoneRule
broken_by_server origin rs r None = None
broken_by_server origin rs r (Some server) = broken_by origin rs r server

abbrev pub server_rule : List (List ℕ) → List Record → Record → Option ZoneRule
server_rule origin rs r = broken_by_server origin rs r (server_of r.rdata)

-- whether the zone answers for the target of an alias that is not occluded, with no record
abbrev pub is_missing : List (List ℕ) → List Record → Record → List (List ℕ) → Bool
is_missing origin rs r target =
    is_within target origin && not (is_delegated origin rs target) && not (is_occluded origin rs r) && (length (answering rs target) == 0)

abbrev pub dangles_by : List (List ℕ) → List Record → Record → Data → Bool
dangles_by origin rs r (variants.Cname target) = is_missing origin rs r target
dangles_by origin rs r rdata = false

abbrev pub dangles : List (List ℕ) → List Record → Record → Bool
dangles origin rs r = dangles_by origin rs r r.rdata

-- what is looked up for a record: the rule that it breaks by its server, and whether it is an alias of nothing
pub record AreLookups (origin : List (List ℕ)) (rs : List Record) (r : Record) (lookups : Lookups) : Type 0 where
  pub broken : lookups.broken ≡ server_rule origin rs r
  pub dangles : lookups.dangles ≡ dangles origin rs r

abbrev pub is_rule : ZoneRule → Option ZoneRule → Bool
is_rule rule None = false
is_rule rule (Some other) = rule_place other == rule_place rule

abbrev pub is_at_fault : ZoneRule → List (List ℕ) → List Record → Record → Bool
is_at_fault HostName origin rs r = not (has_host_names r)
is_at_fault BelowCut origin rs r = is_occluded origin rs r && not (is_address (type_of r.rdata) && is_server rs r.owner)
is_at_fault DsWithoutNs origin rs r = is_ds (type_of r.rdata) && not (some_type is_ns (records_at rs r.owner))
is_at_fault WildcardNs origin rs r = is_wildcard_server r.owner r.rdata
is_at_fault DigestLength origin rs r = not (is_fit_digest r.rdata)
is_at_fault WeakDigest origin rs r = is_sha1 r.rdata
is_at_fault AddressName origin rs r = points_to_address r.rdata
is_at_fault UnreadOctet origin rs r = is_unread_record r
is_at_fault DanglingAlias origin rs r = dangles origin rs r
is_at_fault rule origin rs r = is_rule rule (server_rule origin rs r)
