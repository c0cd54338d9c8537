-- Records and their data.
use Rattle.std.specs.Prelude.{◌≡◌, ◌<◌, ◌≤◌, ◌^◌}
use Rattle.dns_names.specs.Labels.{IsName}
use Rattle.dns_data.specs.declared.record_type.RecordType.{RecordType}
use Rattle.dns_data.specs.declared.record_type.RecordType.TheVariants as types
use Rattle.dns_data.specs.declared.rdata.Data.{Data}
use Rattle.dns_data.specs.declared.rdata.Data.TheVariants as data_of
use Rattle.dns_data.specs.declared.soa.SoaFields.{SoaFields}
use Rattle.dns_data.specs.declared.record.Record.{Record}
use Rattle.dns_data.specs.Fields.{Values, AreValues}
use Rattle.dns_data.specs.Types.{fields_of}

-- the values of an SOA, and the SOA that has them
abbrev pub soa_values : SoaFields → Values (fields_of types.Soa)
soa_values soa = (soa.mname, (soa.rname, (soa.serial.0, (soa.refresh.0, (soa.retry.0, (soa.expire.0, (soa.minimum.0, tt)))))))

abbrev pub soa_with : Values (fields_of types.Soa) → SoaFields
soa_with v = record {
  mname = v.0;
  rname = v.1.0;
  serial = record { 0 = v.1.1.0 };
  refresh = record { 0 = v.1.1.1.0 };
  retry = record { 0 = v.1.1.1.1.0 };
  expire = record { 0 = v.1.1.1.1.1.0 };
  minimum = record { 0 = v.1.1.1.1.1.1.0 };
}

-- what is said of data, by their type and the values of their fields
abbrev pub by_parts {ℓ} : {R : Type ℓ} → ((record_type : RecordType) → Values (fields_of record_type) → R) → Data → R
by_parts say (data_of.A address) = say types.A (address, tt)
by_parts say (data_of.Ns server) = say types.Ns (server, tt)
by_parts say (data_of.Cname target) = say types.Cname (target, tt)
by_parts say (data_of.Soa soa) = say types.Soa (soa_values soa)
by_parts say (data_of.Ptr target) = say types.Ptr (target, tt)
by_parts say (data_of.Mx preference exchange) = say types.Mx (preference, (exchange, tt))
by_parts say (data_of.Txt strings) = say types.Txt strings
by_parts say (data_of.Aaaa address) = say types.Aaaa (address, tt)
by_parts say (data_of.Srv priority weight port target) = say types.Srv (priority, (weight, (port, (target, tt))))
by_parts say (data_of.Ds key_tag algorithm digest_type digest) = say types.Ds (key_tag, (algorithm, (digest_type, digest)))

-- the type of record that has such data
abbrev pub type_of : Data → RecordType
type_of = by_parts (λ t v. t)

-- the data of a type with these values
abbrev pub data_with : (record_type : RecordType) → Values (fields_of record_type) → Data
data_with types.A v = data_of.A v.0
data_with types.Ns v = data_of.Ns v.0
data_with types.Cname v = data_of.Cname v.0
data_with types.Soa v = data_of.Soa (soa_with v)
data_with types.Ptr v = data_of.Ptr v.0
data_with types.Mx v = data_of.Mx v.0 v.1.0
data_with types.Txt v = data_of.Txt v
data_with types.Aaaa v = data_of.Aaaa v.0
data_with types.Srv v = data_of.Srv v.0 v.1.0 v.1.1.0 v.1.1.1.0
data_with types.Ds v = data_of.Ds v.0 v.1.0 v.1.1.0 v.1.1.1

-- ---- what all data and all records are

-- two names and five numbers of 32 bits (RFC 1035 section 3.3.13)
pub record IsSoaRdata (soa : SoaFields) : Type 0 where
  pub mname : IsName soa.mname
  pub rname : IsName soa.rname
  pub serial : soa.serial.0 < 2 ^ 32
  pub refresh : soa.refresh.0 < 2 ^ 32
  pub retry : soa.retry.0 < 2 ^ 32
  pub expire : soa.expire.0 < 2 ^ 32
  pub minimum : soa.minimum.0 < 2 ^ 32

abbrev pub IsRdata : Data → Type 0
IsRdata (data_of.Soa soa) = IsSoaRdata soa
IsRdata rdata = by_parts (λ t v. AreValues (fields_of t) v) rdata

-- a TTL has 31 bits (RFC 2181 section 8)
pub record IsRecord (r : Record) : Type 0 where
  pub owner : IsName r.owner
  pub ttl : r.ttl ≤ 2147483647
  pub rdata : IsRdata r.rdata

-- ---- records that are the same

-- owner, type and data agree; the TTL does not count (RFC 2136 section 1.1.1)
abbrev pub SameRecord : Record → Record → Type 0
SameRecord a b = (a.owner ≡ b.owner) × (a.rdata ≡ b.rdata)
