-- The grammar of entries of other types: which items state what (RFC 1035 section 5.1, RFC 3597).
use Rattle.std.specs.Prelude.{◌≡◌, ℕ, List, ◌∷◌, ◌++◌, Bool, true, false}
use Rattle.std.specs.List.{AllByRecursion}
use Rattle.dns_data.specs.declared.record_type.RecordType.{RecordType}
use Rattle.dns_data.specs.Items.{ItemText, plain}
use Rattle.dns_data.specs.Types.{IsCalled}
use Rattle.dns_master.specs.EntryGrammar.{AreTtlAndClass, StatesOwner}
use Rattle.dns_master.specs.OtherTypes.{is_other_type}
use Rattle.dns_master.specs.AnyRecords.{ends_open, StatedOther}

-- Owner, TTL and class, a word that can stand for a type that is not kept, and the data, as they are written; none of these ends with a
-- backslash that takes nothing.
pub record StatesOther (origin : List (List ℕ)) (white : Bool) (items : List ItemText) (o : StatedOther) : Type 0 where
  pub owner : List ItemText
  pub lead : List ItemText
  pub items_are : items ≡ owner ++ (lead ++ plain o.kind ∷ o.fields)
  pub owner_is : StatesOwner origin white o.owner owner
  pub lead_is : AreTtlAndClass o.ttl lead
  pub kind_is : is_other_type o.kind ≡ true
  pub not_kept : (t : RecordType) → IsCalled t o.kind → ⊥
  pub whole : AllByRecursion (λ item. ends_open item ≡ false) o.fields
