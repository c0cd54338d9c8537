-- Replies in words: what is written is read, and what is read was written so.
use Rattle.std.proofs.Common.{◌≡◌, ℕ, ◌-◌, ◌^◌, ◌<◌, ◌≤◌, Bool, true, false, cond, eqb, not, ◌&&◌, ◌||◌, ◌↔◌, ◌⊎◌, inl, inr, List, [], ◌∷◌, ◌++◌, append_assoc, length, map, Option, Some, None, Ok, Err, refl, sym, ap, subst, ◌∙◌, arith}
use Rattle.std.proofs.lemmas.Bool.{false≢true, agree_below_at, le-leb, lt-ltb, and_parts, and_from}
use Rattle.std.proofs.lemmas.List.{append_cancel_right}
use Rattle.std.proofs.lemmas.Slice.Eq.{bytes_eq-Decides}
use Rattle.std.specs.Prelude.{nat_le, nat_lt, decimal, if◌then◌else◌, IfSome, bytes_eq, codes}
use Rattle.std.specs.List.{AllByRecursion, list_all}
use Rattle.std.specs.Str.Parse.{digits_value}
use Rattle.dns_data.specs.declared.item.Item.{Item}
use Rattle.dns_data.specs.Items.{item_of, plain, in_quotes}
use Rattle.dns_data.specs.Numbers.{is_number}
use Rattle.dns_data.proofs.NumberLaws.{is_numeral, decimal_is_number}
use Rattle.dns_master.specs.Pieces.{ends_item}
use Rattle.dns_master.proofs.CleanLaws.{runs, Clean, number_clean}
use Rattle.dns_master.proofs.LineLaws.{CleanLine}
use Rattle.grant_policy.specs.Identifiers.{IsIdentifier, is_identifier_octet}
use Rattle.grant_policy.proofs.IdentifierLemmas.{octet_below}
use Rattle.zone_core.specs.declared.prerequisite_code.PrerequisiteCode.{PrerequisiteCode}
use Rattle.zone_core.specs.declared.prerequisite_code.PrerequisiteCode.TheVariants as prerequisites
use Rattle.zone_core.specs.declared.rcode.Rcode.{Rcode}
use Rattle.zone_core.specs.declared.rcode.Rcode.TheVariants as rcodes
use Rattle.zone_core.specs.declared.update.ItemList.{ItemList}
use Rattle.zone_core.specs.declared.update.ItemList.TheVariants as lists
use Rattle.zone_core.specs.declared.update.Place.{Place}
use Rattle.zone_core.specs.Kinds.{list_word, list_named}
use Rattle.zone_core.specs.Rcodes.{rcode_text, rcode_of}
use Rattle.zone_core.proofs.KindLemmas.{list_own, rcode_own}
use Rattle.office_model.specs.declared.reply.UpdateReply.{UpdateReply}
use Rattle.office_model.specs.declared.reply.UpdateReply.TheVariants.{NoError, NotAuth, NotZone, Refused, Failed}
use Rattle.store_rows.specs.declared.row_fault.RowFault.TheVariants.{BadRow}
use Rattle.office_model.specs.ReplyWords.{place_items, denier_item, reply_items, reply_words, Wording, Current, Former, is_by_default, items_in, words_in, AreWordsOf, IsReply}
use Rattle.store_rows.specs.RowFaults.{◌>>=◌}
use Rattle.store_rows.specs.RowReading.{or_bad, identifier_in, number_named, reply_with, reply_at, denier_in, denied_by, reply_of, reply_in}
use Rattle.store_rows.proofs.RowSteps.{done, ok_is}
use Rattle.store_rows.proofs.FieldsLaws.{fields_read}

-- ---- single words

pub identifier_read : (id : List ℕ) → IsIdentifier id → identifier_in id ≡ Ok id
identifier_read id is =
    ap (λ (b : Bool). cond b (done id) (Err BadRow))
    (and_from (nat_lt 0 (length id)) (nat_le (length id) 64 && list_all is_identifier_octet id) (lt-ltb 0 (length id) is.not_empty)
    (and_from (nat_le (length id) 64) (list_all is_identifier_octet id) (le-leb (length id) 64 is.short) is.octets))

number_read : (n : ℕ) → n < 2 ^ 64 → number_named (decimal n) ≡ Some n
number_read n h =
    let number = decimal_is_number n h in
    let small : n ≤ 2 ^ 64 - 1 = omega arith in
    let fits : nat_le (digits_value 10 (decimal n)) (2 ^ 64 - 1) ≡ true = ap (λ (m : ℕ). nat_le m (2 ^ 64 - 1)) number.1 ∙ le-leb n (2 ^ 64 - 1) small in
    ap (λ (b : Bool). cond b (Some (digits_value 10 (decimal n))) None) (and_from (is_number (decimal n)) (nat_le (digits_value 10 (decimal n)) (2 ^ 64 - 1)) (is_numeral (decimal n) number.0) fits)
    ∙ ap (λ (m : ℕ). Some m) number.1

-- ---- replies by their words

item_read : (code : Rcode) (list : ItemList) (n : ℕ) → n < 2 ^ 64 → reply_at (rcode_text code) (list_word list) (decimal n) ≡ reply_with code list n
item_read code list n h =
    ap (λ o. or_bad o >>= λ c. or_bad (list_named (list_word list)) >>= λ l. or_bad (number_named (decimal n)) >>= λ m. reply_with c l m) (rcode_own code)
    ∙ ap (λ o. or_bad o >>= λ l. or_bad (number_named (decimal n)) >>= λ m. reply_with code l m) (list_own list)
    ∙ ap (λ o. or_bad o >>= λ m. reply_with code list m) (number_read n h)

-- who denied an item is read
denier_read : (by : Option (List ℕ)) → IfSome by IsIdentifier → denier_in (denier_item by) ≡ Ok by
denier_read None is = refl
denier_read (Some rule) is = by_word (bytes_eq rule (codes "closing")) refl
  where
    id_is : (identifier_in rule >>= λ id. done (Some id)) ≡ Ok (Some rule)
    id_is = ap (λ r. r >>= λ id. done (Some id)) (identifier_read rule is)

    by_word : (b : Bool) → bytes_eq rule (codes "closing") ≡ b → denier_in (if b then in_quotes rule else plain rule) ≡ Ok (Some rule)
    by_word true e = id_is
    by_word false e = rw e id_is

denied_read : (place : Place) (by : Option (List ℕ)) → place.item < 2 ^ 64 → IfSome by IsIdentifier → reply_of (reply_items (Refused place by)) ≡ Ok (Refused place by)
denied_read place by h is =
    ap (λ r. r >>= λ d. reply_at (rcode_text rcodes.Refused) (list_word place.list) (decimal place.item) >>= λ reply. denied_by reply d) (denier_read by is)
    ∙ ap (λ r. r >>= λ reply. denied_by reply by) (item_read rcodes.Refused place.list place.item h)

failed_read : (code : PrerequisiteCode) (n : ℕ) → reply_with (rcode_of code) lists.Prerequisites n ≡ Ok (Failed (record { code = code; item = n }))
failed_read prerequisites.NxDomain n = refl
failed_read prerequisites.YxDomain n = refl
failed_read prerequisites.YxRrset n = refl
failed_read prerequisites.NxRrset n = refl

-- the words of a reply say it, in either wording
words_read : (reply : UpdateReply) → IsReply reply → reply_of (reply_items reply) ≡ Ok reply
words_read NoError is = refl
words_read NotAuth is = refl
words_read (NotZone place) is = item_read rcodes.NotZone place.list place.item is
words_read (Refused place by) is = denied_read place by is.0 is.1
words_read (Failed failure) is =
    item_read (rcode_of failure.code) lists.Prerequisites failure.item is ∙ failed_read failure.code failure.item

worded_read : (wording : Wording) (reply : UpdateReply) → IsReply reply → reply_of (items_in wording reply) ≡ Ok reply
worded_read Former (Refused place None) is = item_read rcodes.Refused place.list place.item is.0
worded_read wording reply is = words_read reply is

-- ---- words are items of a line

code_clean : (code : Rcode) → Clean (plain (rcode_text code))
code_clean rcodes.NoError = refl
code_clean rcodes.FormErr = refl
code_clean rcodes.ServFail = refl
code_clean rcodes.NxDomain = refl
code_clean rcodes.NotImp = refl
code_clean rcodes.Refused = refl
code_clean rcodes.YxDomain = refl
code_clean rcodes.YxRrset = refl
code_clean rcodes.NxRrset = refl
code_clean rcodes.NotAuth = refl
code_clean rcodes.NotZone = refl

list_clean : (list : ItemList) → Clean (plain (list_word list))
list_clean lists.Prerequisites = refl
list_clean lists.Operations = refl

place_clean : (place : Place) → place.item < 2 ^ 64 → AllByRecursion Clean (place_items place)
place_clean place h = (list_clean place.list, (number_clean place.item h, tt))

-- an octet of an identifier is of ASCII, and is ordinary in a line
either : {P : Type 0} (a b : Bool) → (a || b) ≡ true → (a ≡ true → P) → (b ≡ true → P) → P
either true b e f g = f refl
either false b e f g = g e

abbrev ordinary : ℕ → Bool
ordinary o = not (ends_item o) && not (eqb o 92)

octet_ordinary : (o : ℕ) → is_identifier_octet o ≡ true → ordinary o ≡ true
octet_ordinary o e =
    let either : (not (is_identifier_octet o) || ordinary o) ≡ true = agree_below_at (λ n. not (is_identifier_octet n) || ordinary n) (λ n. true) 128 o refl (octet_below o e) in
    rw e at either

not_true : (b : Bool) → not b ≡ true → b ≡ false
not_true false e = refl
not_true true e = absurd cc

octets_run : (text : List ℕ) → list_all is_identifier_octet text ≡ true → runs ends_item false text ≡ true
octets_run [] e = refl
octets_run (o ∷ rest) e =
    let p = and_parts (is_identifier_octet o) (list_all is_identifier_octet rest) e in
    let q = and_parts (not (ends_item o)) (not (eqb o 92)) (octet_ordinary o p.0) in
    and_from (not (ends_item o)) (runs ends_item (eqb o 92) rest) q.0 (subst (λ (t : Bool). runs ends_item t rest ≡ true) (sym (not_true (eqb o 92) q.1)) (octets_run rest p.1))

rule_clean : (rule : List ℕ) → IsIdentifier rule → Clean (plain rule)
rule_clean [] is = absurd (let none = is.not_empty in omega arith)
rule_clean (o ∷ rule) is = octets_run (o ∷ rule) is.octets

denier_clean : (by : Option (List ℕ)) → IfSome by IsIdentifier → Clean (denier_item by)
denier_clean None is = refl
denier_clean (Some rule) is = by_word (bytes_eq rule (codes "closing")) refl
  where
    by_word : (b : Bool) → bytes_eq rule (codes "closing") ≡ b → Clean (if b then in_quotes rule else plain rule)
    by_word true e = subst (λ (text : List ℕ). Clean (in_quotes text)) (sym ((bytes_eq-Decides rule (codes "closing")).0 e)) refl
    by_word false e = rule_clean rule is

words_clean : (reply : UpdateReply) → IsReply reply → CleanLine (reply_items reply)
words_clean NoError is = record { some = omega arith; clean = (code_clean rcodes.NoError, tt) }
words_clean NotAuth is = record { some = omega arith; clean = (code_clean rcodes.NotAuth, tt) }
words_clean (NotZone place) is = record { some = omega arith; clean = (code_clean rcodes.NotZone, place_clean place is) }
words_clean (Refused place by) is =
    record { some = omega arith; clean = (code_clean rcodes.Refused, (list_clean place.list, (number_clean place.item is.0, (denier_clean by is.1, tt)))) }
words_clean (Failed failure) is =
    record { some = omega arith; clean = (code_clean (rcode_of failure.code), (list_clean lists.Prerequisites, (number_clean failure.item is, tt))) }

worded_clean : (wording : Wording) (reply : UpdateReply) → IsReply reply → CleanLine (items_in wording reply)
worded_clean Former (Refused place None) is = record { some = omega arith; clean = (code_clean rcodes.Refused, place_clean place is.0) }
worded_clean wording reply is = words_clean reply is

-- ---- the words of a reply

pub reply_read : (wording : Wording) (reply : UpdateReply) → IsReply reply → reply_in (words_in wording reply) ≡ Ok reply
reply_read wording reply is = ap (λ r. r >>= reply_of) (fields_read (items_in wording reply) (worded_clean wording reply is)) ∙ worded_read wording reply is

-- whatever the wording
pub text_read : (reply : UpdateReply) (text : List ℕ) → IsReply reply → AreWordsOf reply text → reply_in text ≡ Ok reply
text_read reply text is (wording, e) = ap reply_in e ∙ reply_read wording reply is

-- the words of one reply are not those of another
pub one_reply : (text : List ℕ) (a b : UpdateReply) → IsReply a → IsReply b → AreWordsOf a text → AreWordsOf b text → a ≡ b
one_reply text a b is also ours theirs = ok_is a b (sym (text_read a text is ours) ∙ text_read b text also theirs)

-- ---- wordings

closing_behind : (place : Place) → reply_words (Refused place None) ≡ words_in Former (Refused place None) ++ codes " closing"
closing_behind place = sym (simp append_assoc)

-- a text is that of a reply where it is what is written, or is that of a denial by the closing default, without its word
pub written_or_former : (reply : UpdateReply) (text written : List ℕ) → written ≡ reply_words reply
    → AreWordsOf reply text ↔ ((text ≡ written) ⊎ ((is_by_default reply ≡ true) × (written ≡ text ++ codes " closing")))
written_or_former reply text written w = (λ are. from are.0 reply w are.1, to reply w)
  where
    Told : UpdateReply → Type 0
    Told r = (text ≡ written) ⊎ ((is_by_default r ≡ true) × (written ≡ text ++ codes " closing"))

    from : (wording : Wording) (r : UpdateReply) → written ≡ reply_words r → text ≡ words_in wording r → Told r
    from Current r v e = inl (e ∙ sym v)
    from Former (Refused place None) v e = inr (refl, v ∙ closing_behind place ∙ ap (λ (l : List ℕ). l ++ codes " closing") (sym e))
    from Former r v e = inl (e ∙ sym v)

    shorter : (r : UpdateReply) → written ≡ reply_words r → is_by_default r ≡ true → written ≡ text ++ codes " closing" → AreWordsOf r text
    shorter (Refused place None) v d e =
        (Former, append_cancel_right text (words_in Former (Refused place None)) (codes " closing") (sym e ∙ v ∙ closing_behind place))
    shorter r v d e = absurd (false≢true d)

    to : (r : UpdateReply) → written ≡ reply_words r → Told r → AreWordsOf r text
    to r v (inl e) = (Current, e ∙ v)
    to r v (inr h) = shorter r v h.0 h.1

-- ---- other words

-- other numbers of words are not a reply
pub reply_none : (xs : List Item) → (length xs ≡ 1 → ⊥) → (length xs ≡ 3 → ⊥) → (length xs ≡ 4 → ⊥) → reply_of (map item_of xs) ≡ Err BadRow
reply_none [] one three four = refl
reply_none (a ∷ []) one three four = absurd (one refl)
reply_none (a ∷ b ∷ []) one three four = refl
reply_none (a ∷ b ∷ d ∷ []) one three four = absurd (three refl)
reply_none (a ∷ b ∷ d ∷ e ∷ []) one three four = absurd (four refl)
reply_none (a ∷ b ∷ d ∷ e ∷ f ∷ words) one three four = refl
