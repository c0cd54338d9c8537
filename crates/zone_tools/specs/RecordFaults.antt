-- What is wrong with a record by itself.
use Rattle.std.specs.Prelude.{ℕ, List, length, Bool, true, false, ◌&&◌, ◌||◌, ◌==◌, codes, is_some, if◌then◌else◌}
use Rattle.std.specs.List.{list_all, list_any}
use Rattle.dns_data.specs.declared.record.Record.{Record}
use Rattle.dns_data.specs.declared.rdata.Data.{Data}
use Rattle.dns_data.specs.declared.rdata.Data.TheVariants.{Ns, Cname, Soa, Ptr, Mx, Srv, Ds}
use Rattle.zone_tools.specs.HostNames.{is_wildcard}
use Rattle.zone_tools.specs.ReverseNames.{octet_of}

-- whether a record is an NS at a wildcard (RFC 4592 section 4.2)
abbrev pub is_wildcard_server : List (List ℕ) → Data → Bool
is_wildcard_server owner (Ns server) = is_wildcard owner
is_wildcard_server owner rdata = false

-- ---- digests

-- whether a digest of a type has its length: SHA-1, SHA-256 and SHA-384 (RFC 4034 appendix A.2, RFC 4509 section 2.1, RFC 6605 section 2)
abbrev pub has_length : ℕ → List ℕ → Bool
has_length digest_type digest =
    if digest_type == 1 then length digest == 20
    else (if digest_type == 2 then length digest == 32 else (if digest_type == 4 then length digest == 48 else true))

-- whether the digest of a DS has the length of its type
abbrev pub is_fit_digest : Data → Bool
is_fit_digest (Ds key_tag algorithm digest_type digest) = has_length digest_type digest
is_fit_digest rdata = true

-- whether data are a DS with a digest of SHA-1 (RFC 8624 section 3.3)
abbrev pub is_sha1 : Data → Bool
is_sha1 (Ds key_tag algorithm digest_type digest) = digest_type == 1
is_sha1 rdata = false

-- ---- addresses in the place of names

-- a name whose labels are the octets of an IPv4 address, in decimal
abbrev pub is_address_name : List (List ℕ) → Bool
is_address_name name = (length name == 4) && list_all (λ label. is_some (octet_of label)) name

-- whether data point to such a name
abbrev pub points_to_address : Data → Bool
points_to_address (Ns server) = is_address_name server
points_to_address (Cname target) = is_address_name target
points_to_address (Ptr target) = is_address_name target
points_to_address (Mx preference exchange) = is_address_name exchange
points_to_address (Srv priority weight port target) = is_address_name target
points_to_address rdata = false

-- ---- octets that Knot does not read

-- an octet that is printed as it stands, and that Knot does not read so
abbrev pub is_unread : ℕ → Bool
is_unread octet = list_any (λ o. o == octet) (codes "!#%&'+,:<=>?[]^`{|}~")

-- a name with one
abbrev pub is_unread_name : List (List ℕ) → Bool
is_unread_name name = list_any (λ label. list_any is_unread label) name

-- whether data have such a name
abbrev pub has_unread_name : Data → Bool
has_unread_name (Ns server) = is_unread_name server
has_unread_name (Cname target) = is_unread_name target
has_unread_name (Soa soa) = is_unread_name soa.mname || is_unread_name soa.rname
has_unread_name (Ptr target) = is_unread_name target
has_unread_name (Mx preference exchange) = is_unread_name exchange
has_unread_name (Srv priority weight port target) = is_unread_name target
has_unread_name rdata = false

-- whether a record has one
abbrev pub is_unread_record : Record → Bool
is_unread_record r = is_unread_name r.owner || has_unread_name r.rdata
