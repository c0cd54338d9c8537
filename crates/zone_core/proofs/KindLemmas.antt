-- Kinds, lists and codes by their words.
use Rattle.std.proofs.Common.{◌≡◌, ◌↔◌, ℕ, List, Option, Some, None, refl}
use Rattle.std.specs.Prelude.{bytes_eq}
use Rattle.std.specs.List.{find}
use Rattle.dns_data.proofs.WordLemmas.{by_word}
use Rattle.zone_core.specs.declared.kind.PrerequisiteKind.{PrerequisiteKind}
use Rattle.zone_core.specs.declared.kind.PrerequisiteKind.TheVariants.{RrsetExists, RrsetEquals, RrsetAbsent, NameUsed, NameUnused}
use Rattle.zone_core.specs.declared.kind.OperationKind.{OperationKind}
use Rattle.zone_core.specs.declared.kind.OperationKind.TheVariants.{Add, DeleteRrset, DeleteName, DeleteRecord}
use Rattle.zone_core.specs.declared.rcode.Rcode.{Rcode}
use Rattle.zone_core.specs.declared.rcode.Rcode.TheVariants as rcodes
use Rattle.zone_core.specs.declared.update.ItemList.{ItemList}
use Rattle.zone_core.specs.declared.update.ItemList.TheVariants.{Prerequisites, Operations}
use Rattle.zone_core.specs.Kinds.{prerequisite_word, operation_word, list_word, prerequisite_kinds, operation_kinds, item_lists, prerequisite_named, operation_named, list_named}
use Rattle.zone_core.specs.Rcodes.{rcode_text, rcode_named, all_rcodes}

prerequisite_own : (k : PrerequisiteKind) → find (λ s. bytes_eq (prerequisite_word s) (prerequisite_word k)) prerequisite_kinds ≡ Some k
prerequisite_own RrsetExists = refl
prerequisite_own RrsetEquals = refl
prerequisite_own RrsetAbsent = refl
prerequisite_own NameUsed = refl
prerequisite_own NameUnused = refl

operation_own : (k : OperationKind) → find (λ s. bytes_eq (operation_word s) (operation_word k)) operation_kinds ≡ Some k
operation_own Add = refl
operation_own DeleteRrset = refl
operation_own DeleteName = refl
operation_own DeleteRecord = refl

-- a kind is found by its word, and by no other
pub prerequisite_called : (word : List ℕ) (found : Option PrerequisiteKind) → found ≡ prerequisite_named word → (kind : PrerequisiteKind) → (found ≡ Some kind) ↔ (prerequisite_word kind ≡ word)
prerequisite_called = by_word prerequisite_word prerequisite_kinds prerequisite_own

pub prerequisite_is : (word : List ℕ) (kind : PrerequisiteKind) → (prerequisite_named word ≡ Some kind) ↔ (prerequisite_word kind ≡ word)
prerequisite_is word = prerequisite_called word (prerequisite_named word) refl

pub operation_called : (word : List ℕ) (found : Option OperationKind) → found ≡ operation_named word → (kind : OperationKind) → (found ≡ Some kind) ↔ (operation_word kind ≡ word)
operation_called = by_word operation_word operation_kinds operation_own

pub operation_is : (word : List ℕ) (kind : OperationKind) → (operation_named word ≡ Some kind) ↔ (operation_word kind ≡ word)
operation_is word = operation_called word (operation_named word) refl

-- the word of an operation names no prerequisite
pub no_prerequisite : (kind : OperationKind) → prerequisite_named (operation_word kind) ≡ None
no_prerequisite Add = refl
no_prerequisite DeleteRrset = refl
no_prerequisite DeleteName = refl
no_prerequisite DeleteRecord = refl

pub list_own : (list : ItemList) → list_named (list_word list) ≡ Some list
list_own Prerequisites = refl
list_own Operations = refl

pub list_called : (word : List ℕ) (found : Option ItemList) → found ≡ list_named word → (list : ItemList) → (found ≡ Some list) ↔ (list_word list ≡ word)
list_called = by_word list_word item_lists list_own

pub rcode_own : (code : Rcode) → rcode_named (rcode_text code) ≡ Some code
rcode_own rcodes.NoError = refl
rcode_own rcodes.FormErr = refl
rcode_own rcodes.ServFail = refl
rcode_own rcodes.NxDomain = refl
rcode_own rcodes.NotImp = refl
rcode_own rcodes.Refused = refl
rcode_own rcodes.YxDomain = refl
rcode_own rcodes.YxRrset = refl
rcode_own rcodes.NxRrset = refl
rcode_own rcodes.NotAuth = refl
rcode_own rcodes.NotZone = refl

pub rcode_called : (word : List ℕ) (found : Option Rcode) → found ≡ rcode_named word → (code : Rcode) → (found ≡ Some code) ↔ (rcode_text code ≡ word)
rcode_called = by_word rcode_text all_rcodes rcode_own
