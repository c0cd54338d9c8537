-- What `log` prints of a zone: the changes that were made of it, and the receipts of the updates that were sent of it, as far as they are
-- asked for.
use Rattle.std.specs.Prelude.{◌≡◌, ◌↔◌, ◌⊎◌, ℕ, ◌+◌, ◌≤◌, List, [], ◌∷◌, ◌++◌, Bool, true, ◌&&◌, ◌||◌, nat_le, if◌then◌else◌, Option, None, Some, IsSome, IsNone, IfSome, is_some, is_none, map, slice_get, bytes_eq, codes, decimal}
use Rattle.std.specs.List.{Contains, filter, flat_map, list_any}
use Rattle.dns_names.specs.Labels.{IsWithin, is_within}
use Rattle.dns_names.specs.Order.{same_name}
use Rattle.zone_core.specs.Changes.{ChangeOf}
use Rattle.zone_core.specs.Updates.{UpdateOf, tested_name, acted_name}
use Rattle.office_model.specs.Replies.{NumberedOf}
use Rattle.update_lines.specs.Texts.{update_text}
use Rattle.wire_json.specs.Json.{quoted, member, object}
use Rattle.wire_json.specs.Replies.{lines_value, update_body}
use Rattle.wire_json.specs.UpdateTexts.{update_text as body_text}
use Rattle.cli_core.specs.declared.job.TextForm.{TextForm}
use Rattle.cli_core.specs.declared.job.TextForm.TheVariants.{Plain, Json}
use Rattle.office_core.specs.Machine.{numbered}
use Rattle.store_rows.specs.declared.ordered.KeptReceipt.{KeptReceipt}
use Rattle.office_model.specs.ReplyWords.{reply_words}
use Rattle.cli_updates.specs.Plan.{signed_lines}
use Rattle.cli_store.specs.declared.log_choice.LogAsked.{LogAsked}

-- ---- what is asked for

-- a test passes, or there is nothing to be tested
abbrev pub passes : {X : Type 0} → (X → Bool) → Option X → Bool
passes test None = true
passes test (Some x) = test x

-- whether one of some names is within another
abbrev pub some_within : List (List (List ℕ)) → List (List ℕ) → Bool
some_within names top = list_any (λ name. is_within name top) names

-- a change with a number
abbrev pub numbered_as : ℕ → ChangeOf → NumberedOf
numbered_as n c = record { number = n; removed = c.removed; added = c.added }

-- the owners of the records of a change
abbrev pub change_names : NumberedOf → List (List (List ℕ))
change_names c = map (λ r. r.owner) (c.removed ++ c.added)

-- the names at which the items of an update are
abbrev pub update_names : UpdateOf → List (List (List ℕ))
update_names update = map tested_name update.prerequisites ++ map acted_name update.operations

-- Changes are asked for, unless a caller is given and no number; and receipts are, unless a number is given and no caller.
abbrev pub asks_changes : LogAsked → Bool
asks_changes asked = is_some asked.from || is_none asked.caller

abbrev pub asks_receipts : LogAsked → Bool
asks_receipts asked = is_some asked.caller || is_none asked.from

-- a change from the number on that is given, with a record within the name that is given
abbrev pub asks_change : LogAsked → NumberedOf → Bool
asks_change asked c = passes (λ first. nat_le first c.number) asked.from && passes (some_within (change_names c)) asked.name

-- a receipt of an update of the zone, of the caller that is given, with an item within the name that is given
abbrev pub asks_receipt : LogAsked → KeptReceipt → Bool
asks_receipt asked k =
    same_name k.receipt.origin asked.origin
    && (passes (λ caller. bytes_eq k.caller caller) asked.caller && passes (some_within (update_names k.receipt.update)) asked.name)

-- the changes of the zone, numbered from 1, that are asked for
abbrev pub changes_asked : LogAsked → List ChangeOf → List NumberedOf
changes_asked asked changes = if asks_changes asked then filter (asks_change asked) (numbered 1 changes) else []

-- the receipts that are asked for
abbrev pub receipts_asked : LogAsked → List KeptReceipt → List KeptReceipt
receipts_asked asked kept = if asks_receipts asked then filter (asks_receipt asked) kept else []

-- ---- its text

-- the number of a change, the records that went, and those that came
abbrev pub change_text : NumberedOf → List ℕ
change_text c = codes "change " ++ (decimal c.number ++ 10 ∷ []) ++ signed_lines (codes "-") c.removed ++ signed_lines (codes "+") c.added

-- the caller, the identifier and the reply
abbrev pub receipt_line : KeptReceipt → List ℕ
receipt_line k = codes "receipt " ++ (k.caller ++ 32 ∷ (k.id ++ 32 ∷ (reply_words k.receipt.reply ++ 10 ∷ [])))

-- and the items of the update
abbrev pub receipt_text : KeptReceipt → List ℕ
receipt_text k = receipt_line k ++ update_text k.receipt.update

-- a change as an object of JSON, as a request for changes is answered
abbrev pub change_object : NumberedOf → List ℕ
change_object c =
    object (member (codes "added") (lines_value c.added) ∷ member (codes "number") (decimal c.number) ∷ member (codes "removed") (lines_value c.removed) ∷ [])

-- a receipt as an object of JSON: the caller, the body of the reply, and that of the request
abbrev pub receipt_object : KeptReceipt → List ℕ
receipt_object k =
    object
    (member (codes "caller") (quoted k.caller) ∷ member (codes "reply") (update_body k.receipt.reply) ∷ member (codes "request") (body_text k.id k.receipt.update) ∷ [])

-- either in the form that is asked for
abbrev pub change_shown : TextForm → NumberedOf → List ℕ
change_shown Plain c = change_text c
change_shown Json c = change_object c ++ 10 ∷ []

abbrev pub receipt_shown : TextForm → KeptReceipt → List ℕ
receipt_shown Plain k = receipt_text k
receipt_shown Json k = receipt_object k ++ 10 ∷ []

-- the changes of a zone, and the receipts of a store
abbrev pub log_text : LogAsked → List ChangeOf → List KeptReceipt → List ℕ
log_text asked changes kept = flat_map (change_shown asked.form) (changes_asked asked changes) ++ flat_map (receipt_shown asked.form) (receipts_asked asked kept)

-- ---- the same by membership

-- one of some names is within another
abbrev pub SomeWithin : List (List (List ℕ)) → List (List ℕ) → Type 0
SomeWithin names top = (name : List (List ℕ)) × Contains names name × IsWithin name top

-- A change has a number and is asked for: the change at a place, from 0, of those of the zone has the number after it.
pub record IsChangeAsked (asked : LogAsked) (changes : List ChangeOf) (c : NumberedOf) : Type 0 where
  pub place : ℕ
  pub is : slice_get changes place ≡ Some (record { removed = c.removed; added = c.added })
  pub number : c.number ≡ place + 1
  pub wanted : IsSome asked.from ⊎ IsNone asked.caller
  pub from : IfSome asked.from (λ first. first ≤ c.number)
  pub name : IfSome asked.name (SomeWithin (change_names c))

-- a receipt is one of those that are kept, and is asked for
pub record IsReceiptAsked (asked : LogAsked) (kept : List KeptReceipt) (k : KeptReceipt) : Type 0 where
  pub is : Contains kept k
  pub origin : k.receipt.origin ≡ asked.origin
  pub wanted : IsSome asked.caller ⊎ IsNone asked.from
  pub caller : IfSome asked.caller (λ caller. k.caller ≡ caller)
  pub name : IfSome asked.name (SomeWithin (update_names k.receipt.update))

-- what is printed is what is asked for
abbrev pub ChangesAreAsked : Type 0
ChangesAreAsked = (asked : LogAsked) (changes : List ChangeOf) (c : NumberedOf) → Contains (changes_asked asked changes) c ↔ IsChangeAsked asked changes c

abbrev pub ReceiptsAreAsked : Type 0
ReceiptsAreAsked = (asked : LogAsked) (kept : List KeptReceipt) (k : KeptReceipt) → Contains (receipts_asked asked kept) k ↔ IsReceiptAsked asked kept k

-- with no number, name and caller all changes are printed
abbrev pub AllChangesAreAsked : Type 0
AllChangesAreAsked =
    (origin : List (List ℕ)) (form : TextForm) (changes : List ChangeOf)
    → changes_asked (record { origin = origin; from = None; name = None; caller = None; form = form }) changes ≡ numbered 1 changes
