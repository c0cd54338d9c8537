-- The names of hosts (RFC 952, RFC 1123 section 2.1), and which names of a record have to be such names.
use Rattle.std.specs.Prelude.{ℕ, ◌-◌, List, [], ◌∷◌, length, slice_index, Bool, true, false, not, ◌&&◌, ◌||◌, ◌==◌, nat_lt, codes, bytes_eq}
use Rattle.std.specs.List.{list_all, list_any}
use Rattle.std.specs.Char.{is_ascii_digit, is_ascii_lowercase}
use Rattle.dns_names.specs.Labels.{is_within}
use Rattle.dns_data.specs.declared.record.Record.{Record}
use Rattle.dns_data.specs.declared.rdata.Data.{Data}
use Rattle.dns_data.specs.declared.rdata.Data.TheVariants.{A, Aaaa, Ns, Ptr, Mx, Srv, Soa}

-- a letter, which names have in lower case, a digit or a hyphen
abbrev pub is_host_octet : ℕ → Bool
is_host_octet o = is_ascii_lowercase o || is_ascii_digit o || o == 45

-- letters, digits and hyphens, of which neither the first nor the last is a hyphen (RFC 952, RFC 1123 section 2.1)
abbrev pub is_host_label : List ℕ → Bool
is_host_label label = nat_lt 0 (length label) && not (slice_index label 0 == 45) && not (slice_index label (length label - 1) == 45) && list_all is_host_octet label

-- the name of a host: such labels
abbrev pub is_host_name : List (List ℕ) → Bool
is_host_name name = list_all is_host_label name

-- `*`, which makes a name a wildcard where it is the first label (RFC 4592 section 2.1.1)
abbrev pub is_asterisk : List ℕ → Bool
is_asterisk label = (length label == 1) && (slice_index label 0 == 42)

-- a wildcard, which stands for other names (RFC 4592 section 2.1.1)
abbrev pub is_wildcard : List (List ℕ) → Bool
is_wildcard [] = false
is_wildcard (label ∷ labels) = is_asterisk label

-- the name of a host, or a wildcard before one
abbrev pub is_host_owner : List (List ℕ) → Bool
is_host_owner [] = true
is_host_owner (label ∷ labels) = (is_asterisk label || is_host_label label) && is_host_name labels

-- a mailbox: any label, and then the name of a host (RFC 1035 section 3.3.13, RFC 1034 section 3.3)
abbrev pub is_mailbox : List (List ℕ) → Bool
is_mailbox [] = true
is_mailbox (label ∷ labels) = is_host_name labels

-- `gc._msdcs` before the name of a host, where Active Directory has the addresses of its global catalog
abbrev pub is_global_catalog : List (List ℕ) → Bool
is_global_catalog [] = false
is_global_catalog (first ∷ []) = false
is_global_catalog (first ∷ second ∷ labels) = bytes_eq first (codes "gc") && bytes_eq second (codes "_msdcs") && is_host_name labels

-- the owner of an address: the name of a host, or that of a global catalog
abbrev pub is_address_owner : List (List ℕ) → Bool
is_address_owner owner = is_host_owner owner || is_global_catalog owner

-- a label of the names for which the mechanism `exists` asks, always for an A (RFC 7208 section 5.7 and appendix D.1)
abbrev pub is_spf_label : List ℕ → Bool
is_spf_label label = bytes_eq label (codes "_spf") || bytes_eq label (codes "_spf_rate") || bytes_eq label (codes "_spf_verify")

-- whether the owner of such data is fit for them: those of addresses and mail exchanges are hosts
abbrev pub is_fit_owner : List (List ℕ) → Data → Bool
is_fit_owner owner (A address) = is_address_owner owner || list_any is_spf_label owner
is_fit_owner owner (Aaaa address) = is_address_owner owner
is_fit_owner owner (Mx preference exchange) = is_host_owner owner
is_fit_owner owner rdata = true

-- whether the names in data are fit for them: servers are hosts, and the mailbox of an SOA is one
abbrev pub has_fit_names : Data → Bool
has_fit_names (Ns server) = is_host_name server
has_fit_names (Mx preference exchange) = is_host_name exchange
has_fit_names (Srv priority weight port target) = is_host_name target
has_fit_names (Soa soa) = is_host_name soa.mname && is_mailbox soa.rname
has_fit_names rdata = true

-- in-addr.arpa and ip6.arpa
abbrev pub ipv4_names : List (List ℕ)
ipv4_names = codes "in-addr" ∷ codes "arpa" ∷ []

abbrev pub ipv6_names : List (List ℕ)
ipv6_names = codes "ip6" ∷ codes "arpa" ∷ []

-- within one of them, where names stand for addresses (RFC 1035 section 3.5, RFC 3596 section 2.5)
abbrev pub is_reverse : List (List ℕ) → Bool
is_reverse name = is_within name ipv4_names || is_within name ipv6_names

-- a label of the names at which domains are told to browse or register in (RFC 6763 section 11)
abbrev pub is_browsing_label : List ℕ → Bool
is_browsing_label label = bytes_eq label (codes "b") || bytes_eq label (codes "db") || bytes_eq label (codes "r") || bytes_eq label (codes "dr") || bytes_eq label (codes "lb")

-- such a name
abbrev pub is_browsing : List (List ℕ) → Bool
is_browsing [] = false
is_browsing (first ∷ []) = false
is_browsing (first ∷ second ∷ []) = false
is_browsing (first ∷ second ∷ third ∷ labels) = is_browsing_label first && bytes_eq second (codes "_dns-sd") && bytes_eq third (codes "_udp")

-- whether a pointer from such an owner is fit for it: what has an address is a host
abbrev pub is_fit_pointer : List (List ℕ) → Data → Bool
is_fit_pointer owner (Ptr target) = not (is_reverse owner) || is_browsing owner || is_host_name target
is_fit_pointer owner rdata = true

-- whether a record has the names of hosts where it needs them
abbrev pub has_host_names : Record → Bool
has_host_names r = is_fit_owner r.owner r.rdata && has_fit_names r.rdata && is_fit_pointer r.owner r.rdata
