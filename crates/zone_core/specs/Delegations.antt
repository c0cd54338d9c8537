-- Delegations (RFC 1034 section 4.2.1): a child zone, its servers, and the addresses of those within it.
use Rattle.std.specs.Prelude.{◌≡◌, ◌↔◌, ◌⊎◌, ℕ, List, [], ◌∷◌, ◌++◌, length, map, Bool, not, ◌&&◌, ◌||◌, ◌==◌, if◌then◌else◌, Result, Ok, Err}
use Rattle.std.specs.List.{AllByRecursion, Contains, list_any, filter, flat_map}
use Rattle.std.specs.List.Sorted.{IsStrictlySortedBy}
use Rattle.std.specs.FinMap.{keys, from_entries}
use Rattle.std.specs.declared.net.ip_addr.IpAddr.{IpAddr}
use Rattle.std.specs.declared.net.ip_addr.IpAddr.TheVariants as addresses
use Rattle.dns_names.specs.Labels.{IsWithin, IsBelow, is_within}
use Rattle.dns_names.specs.Order.{canonical_cmp, same_name}
use Rattle.dns_data.specs.declared.record.Record.{Record}
use Rattle.dns_data.specs.declared.record_type.RecordType.TheVariants as types
use Rattle.dns_data.specs.declared.rdata.Data.{Data}
use Rattle.dns_data.specs.declared.rdata.Data.TheVariants as variants
use Rattle.dns_data.specs.Rdata.{type_of}
use Rattle.zone_core.specs.declared.report.Glue.{Glue}
use Rattle.zone_core.specs.declared.report.Glue.TheVariants as glues
use Rattle.zone_core.specs.declared.report.DelegatedServer.{DelegatedServer}
use Rattle.zone_core.specs.declared.report.Delegation.{Delegation}
use Rattle.zone_core.specs.declared.delegation.ChildServer.{ChildServer}
use Rattle.zone_core.specs.declared.delegation.DelegationRequest.{DelegationRequest}
use Rattle.zone_core.specs.declared.faults.DelegationFault.{DelegationFault}
use Rattle.zone_core.specs.declared.faults.DelegationFault.TheVariants.{NotBelowOrigin, NoServer, GlueMissing, TooManyItems}
use Rattle.zone_core.specs.declared.faults.UpdateFault.{UpdateFault}
use Rattle.zone_core.specs.declared.update.Operation.{Operation}
use Rattle.zone_core.specs.declared.update.Operation.TheVariants.{Add, DeleteRrset}
use Rattle.zone_core.specs.Sets.{key_of, rank_of, set_of, InOrder, has, at}
use Rattle.zone_core.specs.Updates.{UpdateOf, update_of}

-- whether a name is below another: within it, and not equal
abbrev pub is_below : List (List ℕ) → List (List ℕ) → Bool
is_below name top = is_within name top && not (same_name name top)

-- the data of an address (RFC 1035 section 3.4.1, RFC 3596 section 2.2)
abbrev pub address_data : IpAddr → Data
address_data (addresses.V4 address) = variants.A address
address_data (addresses.V6 address) = variants.Aaaa address

-- a server within the child, which needs glue (RFC 1034 section 4.2.1)
abbrev pub needs_glue : List (List ℕ) → ChildServer → Bool
needs_glue child server = is_within server.name child

-- one of them without an address
abbrev pub lacks_glue : List (List ℕ) → ChildServer → Bool
lacks_glue child server = needs_glue child server && (length server.addresses.items == 0)

-- the addresses that a server within the child had are deleted
abbrev pub glue_deletions : List (List ℕ) → ChildServer → List Operation
glue_deletions child server = if needs_glue child server then DeleteRrset server.name types.A ∷ DeleteRrset server.name types.Aaaa ∷ [] else []

-- each server is one of the child's
abbrev pub server_addition : List (List ℕ) → ℕ → ChildServer → Operation
server_addition child ttl server = Add (record { owner = child; ttl = ttl; rdata = variants.Ns server.name })

-- an address of a server
abbrev pub address_addition : List (List ℕ) → ℕ → IpAddr → Operation
address_addition name ttl address = Add (record { owner = name; ttl = ttl; rdata = address_data address })

-- the addresses of a server within the child
abbrev pub glue_additions : List (List ℕ) → ℕ → ChildServer → List Operation
glue_additions child ttl server = if needs_glue child server then map (address_addition server.name ttl) server.addresses.items else []

-- The operations that make a delegation: the child's servers are deleted, and the glue of those that are named now and are
-- within it; then the servers are added, and then their glue. Other glue stays, and so does the DS of the child.
abbrev pub delegation_operations : DelegationRequest → List Operation
delegation_operations request =
    DeleteRrset request.child types.Ns
    ∷ (flat_map (glue_deletions request.child) request.servers.items
    ++ (map (server_addition request.child request.ttl) request.servers.items ++ flat_map (glue_additions request.child request.ttl) request.servers.items))

-- an update, unless it has too many operations
abbrev pub unless_too_many : Result UpdateOf UpdateFault → Result UpdateOf DelegationFault
unless_too_many (Ok update) = Ok update
unless_too_many (Err fault) = Err TooManyItems

-- The update of a request, or the first refusal: the child is not below the origin; no server is named; a server within the
-- child has no address; there are too many operations.
abbrev pub delegation_of : List (List ℕ) → DelegationRequest → Result UpdateOf DelegationFault
delegation_of origin request =
    if not (is_below request.child origin) then Err NotBelowOrigin
    else (if length request.servers.items == 0 then Err NoServer
    else (if list_any (lacks_glue request.child) request.servers.items then Err GlueMissing
    else unless_too_many (update_of [] (delegation_operations request))))

-- ---- the delegations in a zone

-- names are those of a list, in canonical order (RFC 4034 section 6.1), each once
pub record AreNamesOf (names all : List (List (List ℕ))) : Type 0 where
  pub order : IsStrictlySortedBy canonical_cmp names
  pub members : (name : List (List ℕ)) → Contains names name ↔ Contains all name

-- the owner of an NS below the origin, where the zone is cut (RFC 2181 section 6)
abbrev pub cut_owner : List (List ℕ) → Record → List (List (List ℕ))
cut_owner origin r = if ((key_of r).1 == rank_of types.Ns) && is_below r.owner origin then r.owner ∷ [] else []

-- the owners of all of them
abbrev pub cut_owners : List (List ℕ) → List Record → List (List (List ℕ))
cut_owners origin rs = flat_map (cut_owner origin) rs

-- the server that an NS names
abbrev pub server_in : Data → List (List (List ℕ))
server_in (variants.Ns server) = server ∷ []
server_in rdata = []

-- the servers that NS records name
abbrev pub servers_in : List Record → List (List (List ℕ))
servers_in rs = flat_map (λ r. server_in r.rdata) rs

-- the servers of a child among records
abbrev pub server_names : List (List ℕ) → List Record → List (List (List ℕ))
server_names child rs = flat_map (λ r. server_in r.rdata) (filter (λ r. at child types.Ns (key_of r)) rs)

-- What there is of a server's glue among records: none is needed outside the child, and within it an A or AAAA is there or not.
abbrev pub glue_of : List Record → List (List ℕ) → List (List ℕ) → Glue
glue_of rs child server =
    if not (is_within server child) then glues.Outside
    else (if has (set_of rs) (at server types.A) || has (set_of rs) (at server types.Aaaa) then glues.Listed else glues.Unlisted)

-- a server of a child, with its glue
abbrev pub server_of : List Record → List (List ℕ) → List (List ℕ) → DelegatedServer
server_of rs child server = record { name = server; glue = glue_of rs child server }

-- a delegation that records make: its servers in canonical order, each with its glue
abbrev pub IsDelegation : List Record → Delegation → Type 0
IsDelegation rs d = (names : List (List (List ℕ))) × AreNamesOf names (server_names d.child rs) × (d.servers.items ≡ map (server_of rs d.child) names)

-- the delegations that records make, in the canonical order of the children, which are the cuts
pub record AreDelegations (origin : List (List ℕ)) (rs : List Record) (ds : List Delegation) : Type 0 where
  pub children : AreNamesOf (map (λ d. d.child) ds) (cut_owners origin rs)
  pub each : AllByRecursion (IsDelegation rs) ds

-- ---- the same by definitions that compute

-- the names of a list in canonical order (RFC 4034 section 6.1), each once
abbrev pub names_in_order : List (List (List ℕ)) → List (List (List ℕ))
names_in_order names = keys (from_entries {R = canonical_cmp} (map (λ name. (name, tt {0})) names))

-- a child zone and its servers
pub record DelegationOf : Type 0 where
  pub child : List (List ℕ)
  pub servers : List DelegatedServer

-- what the program sees of a delegation
abbrev pub report_of : Delegation → DelegationOf
report_of d = record { child = d.child; servers = d.servers.items }

-- the delegation of a child that records make
abbrev pub child_report : List Record → List (List ℕ) → DelegationOf
child_report rs child = record { child = child; servers = map (server_of rs child) (names_in_order (server_names child rs)) }

-- the delegations that records make
abbrev pub report : List (List ℕ) → List Record → List DelegationOf
report origin rs = map (child_report rs) (names_in_order (cut_owners origin rs))

-- ---- the same record by record

-- a zone of this origin is cut at a name: below the origin, and an NS stands there (RFC 2181 section 6)
abbrev pub IsCutAt : List (List ℕ) → List Record → List (List ℕ) → Type 0
IsCutAt origin rs child = IsBelow child origin × ((r : Record) × Contains rs r × (r.owner ≡ child) × (type_of r.rdata ≡ types.Ns))

-- a server of a child: an NS of the child names it (RFC 1035 section 3.3.11)
abbrev pub IsServerOf : List Record → List (List ℕ) → List (List ℕ) → Type 0
IsServerOf rs child server = (r : Record) × Contains rs r × (r.owner ≡ child) × (r.rdata ≡ variants.Ns server)

-- a name has an address: an A or AAAA stands there (RFC 1035 section 3.4.1, RFC 3596 section 2.2)
abbrev pub HasAddress : List Record → List (List ℕ) → Type 0
HasAddress rs name = (r : Record) × Contains rs r × (r.owner ≡ name) × ((type_of r.rdata ≡ types.A) ⊎ (type_of r.rdata ≡ types.Aaaa))

-- what is told of the glue of a server of a child: none is needed outside the child, and within it an address is there or not
abbrev pub IsGlueOf : List Record → List (List ℕ) → List (List ℕ) → Glue → Type 0
IsGlueOf rs child server glues.Outside = ¬ IsWithin server child
IsGlueOf rs child server glues.Listed = IsWithin server child × HasAddress rs server
IsGlueOf rs child server glues.Unlisted = IsWithin server child × ¬ HasAddress rs server

-- a child as it is reported: its servers and no other name, in canonical order (RFC 4034 section 6.1), each once and with its glue
pub record IsReported (rs : List Record) (d : DelegationOf) : Type 0 where
  pub order : IsStrictlySortedBy canonical_cmp (map (λ s. s.name) d.servers)
  pub servers : (name : List (List ℕ)) → Contains (map (λ s. s.name) d.servers) name ↔ IsServerOf rs d.child name
  pub glue : AllByRecursion (λ s. IsGlueOf rs d.child s.name s.glue) d.servers

-- the delegations that records make as they are reported: the cuts and no other name, in canonical order, each once and as above
pub record AreReported (origin : List (List ℕ)) (rs : List Record) (ds : List DelegationOf) : Type 0 where
  pub order : IsStrictlySortedBy canonical_cmp (map (λ d. d.child) ds)
  pub children : (name : List (List ℕ)) → Contains (map (λ d. d.child) ds) name ↔ IsCutAt origin rs name
  pub each : AllByRecursion (IsReported rs) ds

-- a report tells exactly these
abbrev pub ReportsAreExact : Type 0
ReportsAreExact = (origin : List (List ℕ)) (rs : List Record) → InOrder rs → AreReported origin rs (report origin rs)
