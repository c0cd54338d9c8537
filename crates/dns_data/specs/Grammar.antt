-- The grammar of record data: which items spell which data (RFC 1035 sections 3.3 and 3.4, RFC 2782, RFC 3596 section
-- 2.4, RFC 4034 section 5.3).
use Rattle.std.specs.Prelude.{◌≡◌, ℕ, ◌^◌, ◌<◌, List, [], ◌∷◌, map, Option, Some, None}
use Rattle.std.specs.List.{concat}
use Rattle.std.specs.Net.Grammar.{IsIpv4Text, IsIpv6Text}
use Rattle.dns_names.specs.Labels.{IsName}
use Rattle.dns_names.specs.Spelling.{SpellsAbsolute, SpellsRelative}
use Rattle.dns_data.specs.declared.rdata.Data.{Data}
use Rattle.dns_data.specs.Items.{ItemText, plain, IsGeneric}
use Rattle.dns_data.specs.Numbers.{IsNumber, IsDuration}
use Rattle.dns_data.specs.Strings.{AreStrings, SpellsString}
use Rattle.dns_data.specs.Digests.{IsDigest, SpellsDigest}
use Rattle.dns_data.specs.Fields.{bits, Kind, Name, Number, Seconds, Ipv4, Ipv6, Fields, End, ◌▸◌, Strings, Digest, Value, Values}
use Rattle.dns_data.specs.Types.{fields_of}
use Rattle.dns_data.specs.Rdata.{by_parts}

-- a name, relative to the origin where there is one
abbrev pub SpellsName : Option (List (List ℕ)) → List (List ℕ) → List ℕ → Type 0
SpellsName None name raw = IsName name × SpellsAbsolute name raw
SpellsName (Some origin) name raw = IsName name × SpellsRelative origin name raw

-- a number of so many bits
abbrev pub SpellsNumber : ℕ → ℕ → List ℕ → Type 0
SpellsNumber bits n raw = (n < 2 ^ bits) × IsNumber raw n

abbrev pub SpellsSeconds : ℕ → List ℕ → Type 0
SpellsSeconds n raw = (n < 2 ^ 32) × IsDuration raw n

abbrev pub IsNameItem : Option (List (List ℕ)) → List (List ℕ) → List ItemText → Type 0
IsNameItem origin name items = (raw : List ℕ) × (items ≡ plain raw ∷ []) × SpellsName origin name raw

-- strings, an item for each, quoted or not
abbrev pub SpellStrings : List (List ℕ) → List ItemText → Type 0
SpellStrings [] items = items ≡ []
SpellStrings (string ∷ strings) items =
    (first : ItemText) × (others : List ItemText) × (items ≡ first ∷ others) × SpellsString string first.raw × SpellStrings strings others

-- a digest, which may be cut into several items
abbrev pub IsDigestItems : List ℕ → List ItemText → Type 0
IsDigestItems digest items = (texts : List (List ℕ)) × (items ≡ map plain texts) × IsDigest digest × SpellsDigest digest (concat texts)

-- a value, by the text of its item
abbrev pub SpellsValue : Option (List (List ℕ)) → (kind : Kind) → Value kind → List ℕ → Type 0
SpellsValue origin Name name raw = SpellsName origin name raw
SpellsValue origin (Number width) n raw = SpellsNumber (bits width) n raw
SpellsValue origin Seconds n raw = SpellsSeconds n raw
SpellsValue origin Ipv4 address raw = IsIpv4Text raw address
SpellsValue origin Ipv6 address raw = IsIpv6Text raw address

-- values, by an item for each, which is not quoted. Character-strings and a digest are all items that are left
abbrev pub SpellValues : Option (List (List ℕ)) → (fields : Fields) → Values fields → List ItemText → Type 0
SpellValues origin End values items = items ≡ []
SpellValues origin (kind ▸ fields) values items =
    (raw : List ℕ) × (rest : List ItemText) × (items ≡ plain raw ∷ rest) × SpellsValue origin kind values.0 raw
    × SpellValues origin fields values.1 rest
SpellValues origin Strings strings items = AreStrings strings × SpellStrings strings items
SpellValues origin Digest digest items = IsDigestItems digest items

-- data, by the values of their fields, but not in the generic form
abbrev pub IsData : Option (List (List ℕ)) → Data → List ItemText → Type 0
IsData origin rdata items = ¬ (IsGeneric items) × by_parts (λ t v. SpellValues origin (fields_of t) v items) rdata
