-- The rows of `receipts`.
use Rattle.std.specs.Prelude.{◌≡◌, ℕ, List}
use Rattle.dns_names.specs.Labels.{IsName}
use Rattle.dns_names.specs.Spelling.{name_text}
use Rattle.zone_core.specs.Updates.{IsUpdate}
use Rattle.office_model.specs.declared.receipt.Receipt.{Receipt}
use Rattle.update_lines.specs.Texts.{update_text}
use Rattle.store_sql.specs.Rows.{ReceiptRowOf}
use Rattle.office_model.specs.ReplyWords.{Wording, Current, words_in, AreWordsOf, IsReply}

-- the receipt of a caller under an identifier: the request by its item lines, and the reply by its words, in a wording
abbrev pub receipt_row_in : Wording → List ℕ → List ℕ → Receipt → ReceiptRowOf
receipt_row_in wording caller id receipt = record {
  caller = caller;
  id = id;
  origin = name_text receipt.origin;
  request = update_text receipt.update;
  reply = words_in wording receipt.reply;
}

-- as it is written
abbrev pub receipt_row : List ℕ → List ℕ → Receipt → ReceiptRowOf
receipt_row = receipt_row_in Current

-- a row is that of the receipt of a caller under an identifier, in one of the wordings
abbrev pub IsRowOfReceipt : List ℕ → List ℕ → Receipt → ReceiptRowOf → Type 0
IsRowOfReceipt caller id receipt row = (wording : Wording) × (row ≡ receipt_row_in wording caller id receipt)

-- a row has a receipt, under whatever caller and identifier
pub record HasReceipt (row : ReceiptRowOf) (receipt : Receipt) : Type 0 where
  pub origin_is : row.origin ≡ name_text receipt.origin
  pub request_is : row.request ≡ update_text receipt.update
  pub reply_is : AreWordsOf receipt.reply row.reply

-- what every receipt is: of an origin, an update and a reply
pub record IsReceipt (receipt : Receipt) : Type 0 where
  pub origin : IsName receipt.origin
  pub update : IsUpdate receipt.update
  pub reply : IsReply receipt.reply

-- a row is of one caller, one identifier and one receipt
abbrev pub ReceiptRowsAreApart : Type 0
ReceiptRowsAreApart =
    (b c i j : List ℕ) (r s : Receipt) (row : ReceiptRowOf) → IsReceipt r → IsReceipt s → IsRowOfReceipt b i r row → IsRowOfReceipt c j s row → (b ≡ c) × (i ≡ j) × (r ≡ s)
