-- The text of data, and the data that are read from it again.
use Rattle.std.specs.Prelude.{◌≡◌, ℕ, List, None, Ok}
use Rattle.dns_data.specs.declared.rdata.Data.{Data}
use Rattle.dns_data.specs.Rdata.{type_of, IsRdata}
use Rattle.dns_data.specs.Text.{data_items, data_text}
use Rattle.dns_data.specs.Reading.{data_of}

-- the items of data, read with no origin, are the data
abbrev pub ReadsBack : Data → Type 0
ReadsBack rdata = data_of (type_of rdata) None (data_items rdata) ≡ Ok rdata

-- a text that no other data of their type have
abbrev pub IsTextOfOnly : List ℕ → Data → Type 0
IsTextOfOnly text rdata = (other : Data) → IsRdata other → type_of other ≡ type_of rdata → data_text other ≡ text → other ≡ rdata
