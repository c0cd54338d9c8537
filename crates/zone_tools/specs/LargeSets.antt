-- Record sets that are large.
use Rattle.std.specs.Prelude.{◌≡◌, ◌↔◌, ℕ, ◌+◌, List, [], ◌∷◌, length, Bool, true, false, ◌&&◌, ◌||◌, nat_lt}
use Rattle.std.specs.List.{Contains, filter, sum_by}
use Rattle.dns_names.specs.Labels.{wire_len}
use Rattle.dns_data.specs.declared.record.Record.{Record}
use Rattle.dns_data.specs.declared.rdata.Data.{Data}
use Rattle.dns_data.specs.declared.rdata.Data.TheVariants.{A, Ns, Cname, Soa, Ptr, Mx, Txt, Aaaa, Srv, Ds}
use Rattle.dns_data.specs.Rdata.{type_of}
use Rattle.dns_data.specs.Strings.{strings_len}
use Rattle.zone_core.specs.Sets.{key_of, same_key, at, InOrder}

-- the octets of data in a message (RFC 1035 section 3.3, RFC 2782, RFC 3596 section 2.2, RFC 4034 section 5.1)
abbrev pub data_len : Data → ℕ
data_len (A address) = 4
data_len (Ns server) = wire_len server
data_len (Cname target) = wire_len target
data_len (Soa soa) = wire_len soa.mname + wire_len soa.rname + 20
data_len (Ptr target) = wire_len target
data_len (Mx preference exchange) = 2 + wire_len exchange
data_len (Txt strings) = strings_len strings
data_len (Aaaa address) = 16
data_len (Srv priority weight port target) = 6 + wire_len target
data_len (Ds key_tag algorithm digest_type digest) = 4 + length digest

-- the octets of a record in a set: its data, and their length in two octets (RFC 1035 section 3.2.1)
abbrev pub entry_len : Record → ℕ
entry_len r = 2 + data_len r.rdata

-- the records of a record's set: of its owner and type (RFC 2181 section 5)
abbrev pub set_beside : List Record → Record → List Record
set_beside rs r = filter (λ s. at r.owner (type_of r.rdata) (key_of s)) rs

-- whether a set has more records than these, or more than 65,000 octets
abbrev pub is_large : ℕ → List Record → Bool
is_large most set = nat_lt most (length set) || nat_lt 65000 (sum_by entry_len set)

-- whether a record is the first of its set
abbrev pub is_first : Record → List Record → Bool
is_first r [] = false
is_first r (x ∷ xs) = same_key (key_of x) (key_of r)

abbrev pub begins_large : ℕ → List Record → Record → Bool
begins_large most rs r = is_first r (set_beside rs r) && is_large most (set_beside rs r)

-- the first records of the large sets, in record order
pub record AreLargeSets (most : ℕ) (rs found : List Record) : Type 0 where
  pub each : (r : Record) → Contains found r ↔ (Contains rs r × (is_first r (set_beside rs r) ≡ true) × (is_large most (set_beside rs r) ≡ true))
  pub order : InOrder found
