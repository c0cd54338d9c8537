-- Which decisions are known.
use Rattle.std.specs.Prelude.{List, Bool, Option, None, slice_index_or}
use Rattle.dns_data.specs.declared.record_type.RecordType.{RecordType}
use Rattle.dns_data.specs.Types.{place_of}

-- what is known of a type
abbrev pub known : List (Option Bool) → RecordType → Option Bool
known granted record_type = slice_index_or granted (place_of record_type) None
