-- The grammar of entries: which items state what (RFC 1035 section 5.1, RFC 2308 section 4).
use Rattle.std.specs.Prelude.{◌≡◌, ℕ, ◌≤◌, ◌⊎◌, List, [], ◌∷◌, ◌++◌, codes, Bool, true, false, Option, Some, None}
use Rattle.std.specs.Str.{str_to_ascii_lowercase}
use Rattle.dns_data.specs.Items.{ItemText, plain}
use Rattle.dns_data.specs.Types.{IsCalled}
use Rattle.dns_data.specs.Numbers.{IsDuration}
use Rattle.dns_data.specs.Rdata.{type_of}
use Rattle.dns_data.specs.Grammar.{SpellsName, IsNameItem, IsData}
use Rattle.dns_master.specs.declared.statement.StatedRecord.{StatedRecord}
use Rattle.dns_master.specs.declared.statement.Statement.{Statement}
use Rattle.dns_master.specs.declared.statement.Statement.TheVariants.{Origin, DefaultTtl, Record}

-- a text is this word, in either letter case
abbrev pub IsWord : List ℕ → List ℕ → Type 0
IsWord word text = str_to_ascii_lowercase text ≡ str_to_ascii_lowercase word

-- a TTL of 31 bits (RFC 2181 section 8)
abbrev pub SpellsTtl : ℕ → List ℕ → Type 0
SpellsTtl ttl raw = IsDuration raw ttl × (ttl ≤ 2147483647)

-- the class IN, or nothing (RFC 1035 section 3.2.4)
abbrev pub IsClassOrNone : List ItemText → Type 0
IsClassOrNone items = (items ≡ []) ⊎ ((raw : List ℕ) × (items ≡ plain raw ∷ []) × IsWord (codes "IN") raw)

-- TTL and class, each at most once and in either order (RFC 1035 section 5.1)
abbrev pub AreTtlAndClass : Option ℕ → List ItemText → Type 0
AreTtlAndClass None items = IsClassOrNone items
AreTtlAndClass (Some ttl) items =
    (front behind : List ItemText) × (raw : List ℕ) × (items ≡ front ++ plain raw ∷ behind) × SpellsTtl ttl raw
    × ((IsClassOrNone front × (behind ≡ [])) ⊎ ((front ≡ []) × IsClassOrNone behind))

-- the owner stands first, unless the entry begins with white space (RFC 1035 section 5.1)
abbrev pub StatesOwner : List (List ℕ) → Bool → Option (List (List ℕ)) → List ItemText → Type 0
StatesOwner origin true None items = items ≡ []
StatesOwner origin false (Some owner) items = IsNameItem (Some origin) owner items
StatesOwner origin white owner items = ⊥

-- owner, TTL and class, type, and data, names relative to this origin (RFC 1035 section 5.1)
pub record StatesRecord (origin : List (List ℕ)) (white : Bool) (items : List ItemText) (stated : StatedRecord) : Type 0 where
  pub owner : List ItemText
  pub lead : List ItemText
  pub kind : List ℕ
  pub fields : List ItemText
  pub items_are : items ≡ owner ++ (lead ++ plain kind ∷ fields)
  pub owner_is : StatesOwner origin white stated.owner owner
  pub lead_is : AreTtlAndClass stated.ttl lead
  pub kind_is : IsCalled (type_of stated.rdata) kind
  pub fields_are : IsData (Some origin) stated.rdata fields

-- the first item is unquoted and begins with `$`
abbrev pub IsDirective : List ItemText → Type 0
IsDirective items = (word : List ℕ) × (others : List ItemText) × (items ≡ plain (36 ∷ word) ∷ others)

-- What an entry states, where names are relative to this origin: `$ORIGIN` and a name, `$TTL` and a TTL, or a record.
abbrev pub States : List (List ℕ) → Bool → List ItemText → Statement → Type 0
States origin white items (Origin name) =
    (word raw : List ℕ) × (items ≡ plain word ∷ plain raw ∷ []) × IsWord (codes "$ORIGIN") word × SpellsName (Some origin) name raw
States origin white items (DefaultTtl ttl) =
    (word raw : List ℕ) × (items ≡ plain word ∷ plain raw ∷ []) × IsWord (codes "$TTL") word × SpellsTtl ttl raw
States origin white items (Record stated) = (IsDirective items → ⊥) × StatesRecord origin white items stated
