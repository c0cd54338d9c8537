-- The type that a text names.
use Rattle.std.proofs.Common.{◌≡◌, ◌↔◌, ℕ, List, Option, Some, None, Ok, Err, refl, sym, ap}
use Rattle.dns_data.specs.declared.data_fault.DataFault.{DataFault}
use Rattle.dns_data.specs.declared.data_fault.DataFault.TheVariants.{TypeNotKept}
use Rattle.dns_data.specs.declared.record_type.RecordType.{RecordType}
use Rattle.dns_data.specs.Types.{type_named, IsCalled}
use Rattle.dns_data.proofs.KeptLaws.{named_called}
use Rattle.dns_master.specs.declared.entry_fault.EntryFault.TheVariants.{Data}
use Rattle.dns_master.specs.Fields.{or_not_kept, type_of_text}

kept_some : (o : Option RecordType) (t : RecordType) → or_not_kept o ≡ Ok t → o ≡ Some t
kept_some (Some s) t e = cc
kept_some None t e = absurd cc

-- a type is read exactly of a text that it is called
pub type_read : (raw : List ℕ) (t : RecordType) → (type_of_text raw ≡ Ok t) ↔ IsCalled t raw
type_read raw t = (λ e. (named_called raw t).0 (kept_some (type_named raw) t e), λ h. ap or_not_kept ((named_called raw t).1 h))

pub type_refused : (raw : List ℕ) (fault : DataFault) → ((t : RecordType) → (Err fault ≡ Ok t) ↔ IsCalled t raw) → fault ≡ TypeNotKept → type_of_text raw ≡ Err (Data fault)
type_refused raw fault h e = none_found (type_named raw) (λ t. λ some. absurd (let no = (h t).1 ((type_read raw t).0 some) in cc))
  where
    none_found : (o : Option RecordType) → ((t : RecordType) → or_not_kept o ≡ Ok t → ⊥) → or_not_kept o ≡ Err (Data fault)
    none_found None none = ap (λ (f : DataFault). Err (Data f)) (sym e)
    none_found (Some t) none = absurd (none t refl)
