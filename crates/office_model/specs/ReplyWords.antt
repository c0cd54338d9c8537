-- A reply to an update as a line of words.
use Rattle.std.specs.Prelude.{◌≡◌, ℕ, ◌^◌, ◌<◌, List, [], ◌∷◌, ◌++◌, Bool, true, false, if◌then◌else◌, Option, None, Some, IfSome, bytes_eq, decimal, codes}
use Rattle.dns_data.specs.Items.{ItemText, plain, in_quotes, items_text}
use Rattle.grant_policy.specs.Identifiers.{IsIdentifier}
use Rattle.zone_core.specs.declared.rcode.Rcode.TheVariants as rcodes
use Rattle.zone_core.specs.declared.update.ItemList.TheVariants.{Prerequisites}
use Rattle.zone_core.specs.declared.update.Place.{Place}
use Rattle.zone_core.specs.Kinds.{list_word}
use Rattle.zone_core.specs.Rcodes.{rcode_text, rcode_of}
use Rattle.office_model.specs.declared.reply.UpdateReply.{UpdateReply}
use Rattle.office_model.specs.declared.reply.UpdateReply.TheVariants.{NoError, NotAuth, NotZone, Refused, Failed}

-- an item: its list, and its number from 0 in decimal digits
abbrev pub place_items : Place → List ItemText
place_items place = plain (list_word place.list) ∷ plain (decimal place.item) ∷ []

-- Who denies an item: a rule, by its identifier, or the closing default, by its word. No rule of a policy is called by this word;
-- such an identifier would be in quotes.
abbrev pub denier_item : Option (List ℕ) → ItemText
denier_item None = plain (codes "closing")
denier_item (Some rule) = if bytes_eq rule (codes "closing") then in_quotes rule else plain rule

-- the code of a reply; the item, where it names one; and who denied it, where it was denied
abbrev pub reply_items : UpdateReply → List ItemText
reply_items NoError = plain (rcode_text rcodes.NoError) ∷ []
reply_items NotAuth = plain (rcode_text rcodes.NotAuth) ∷ []
reply_items (NotZone place) = plain (rcode_text rcodes.NotZone) ∷ place_items place
reply_items (Refused place by) = plain (rcode_text rcodes.Refused) ∷ (place_items place ++ denier_item by ∷ [])
reply_items (Failed failed) = plain (rcode_text (rcode_of failed.code)) ∷ plain (list_word Prerequisites) ∷ plain (decimal failed.item) ∷ []

-- the words, with one space between them
abbrev pub reply_words : UpdateReply → List ℕ
reply_words reply = items_text (reply_items reply)

-- ---- wordings

-- Replies are worded as they are written now, or as they were once: a denial by the closing default without its word.
pub data Wording : Type 0 where
  Current : Wording
  Former : Wording

-- a denial by the closing default
abbrev pub is_by_default : UpdateReply → Bool
is_by_default (Refused place None) = true
is_by_default reply = false

-- the items of a reply in a wording
abbrev pub items_in : Wording → UpdateReply → List ItemText
items_in Former (Refused place None) = plain (rcode_text rcodes.Refused) ∷ place_items place
items_in wording reply = reply_items reply

abbrev pub words_in : Wording → UpdateReply → List ℕ
words_in wording reply = items_text (items_in wording reply)

-- a text is that of a reply, in one of the wordings
abbrev pub AreWordsOf : UpdateReply → List ℕ → Type 0
AreWordsOf reply text = (wording : Wording) × (text ≡ words_in wording reply)

-- ---- what every reply is

-- the number of an item has 64 bits, and a rule has an identifier
abbrev pub IsReply : UpdateReply → Type 0
IsReply NoError = Unit {0}
IsReply NotAuth = Unit {0}
IsReply (NotZone place) = place.item < 2 ^ 64
IsReply (Refused place by) = (place.item < 2 ^ 64) × IfSome by IsIdentifier
IsReply (Failed failed) = failed.item < 2 ^ 64
