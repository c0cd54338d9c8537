-- What the calls of the reader of items and entries answer.
use Rattle.std.specs.Prelude.{◌≡◌, ℕ, suc, ◌+◌, ◌-◌, ◌<◌, ◌≤◌, ◌^◌, List, ◌∷◌, length, map, if◌then◌else◌, Option, Some, None, Result, Ok, Err, IfSome}
use Rattle.dns_data.specs.declared.item.Item.{Item}
use Rattle.dns_data.specs.Items.{ItemText, item_of}
use Rattle.dns_master.specs.declared.shape.ShapeFault.{ShapeFault}
use Rattle.dns_master.specs.declared.shape.ShapeFault.TheVariants.{NoMemory}
use Rattle.dns_master.specs.declared.entry.EntryEnd.{EntryEnd}
use Rattle.dns_master.specs.declared.reader.Position.{Position}
use Rattle.dns_master.specs.Entries.{◌>>=◌, Found, Entry, Split, with_entry, add, end_of, from, white_first, entries}

-- what a call refused with is the refusal of the definition; out of memory says nothing of the definition
abbrev pub RefusesAt : {Y : Type 0} → ShapeFault → Result Y ShapeFault → Type 0
RefusesAt NoMemory read = Unit {0}
RefusesAt fault read = read ≡ Err fault

-- what a call answered, seen by view, is what the definition reads, unless memory ran out
abbrev pub GivesAt : {X Y : Type 0} → (X → Y) → Result X ShapeFault → Result Y ShapeFault → Type 0
GivesAt view (Ok x) read = read ≡ Ok (view x)
GivesAt view (Err e) read = RefusesAt e read

-- ---- items

-- what is read from a place on
abbrev pub from_place : Position → Result Split ShapeFault
from_place p = from p.depth p.outermost p.rest.now

-- the item that was found before a place
abbrev pub found : Item → Position → Found
found item after = record { item = item_of item; left = (if item.quoted then suc (length item.raw.now + length after.rest.now) else length item.raw.now + length after.rest.now) }

-- the next item of the entry is this, or none is left of it, and the text goes on at that place
abbrev pub NextPart : Position → Option Item → Position → Type 0
NextPart place None after = (after.depth ≡ 0) × (from_place place ≡ (from 0 0 after.rest.now >>= λ s. Ok (end_of (white_first after.rest.now) s)))
NextPart place (Some item) after = from_place place ≡ (from_place after >>= λ s. Ok (add (found item after) s))

-- the first item that is left of an entry, or its end, and the place after it
abbrev pub NextItem : Position → Position → Result (Option Item) ShapeFault → Type 0
NextItem place after (Ok item) = NextPart place item after
NextItem place after (Err e) = RefusesAt e (from_place place)

-- the text gets shorter, unless it is empty, and no deeper than it is long
abbrev pub Shorter : Position → Option Item → Position → Type 0
Shorter place None after = 0 < length place.rest.now → length after.rest.now < length place.rest.now
Shorter place (Some item) after = length after.rest.now < length place.rest.now

-- what is left after a call, which a loop goes on with
pub record Shrunk (place : Position) (item : Option Item) (after : Position) : Type 0 where
  pub shorter : Shorter place item after
  pub no_longer : length after.rest.now ≤ length place.rest.now
  pub room : after.depth + length after.rest.now ≤ place.depth + length place.rest.now
  pub within : IfSome item (λ i. length i.raw.now + length after.rest.now < 2 ^ 64 - 1)

-- the same of an answer
abbrev pub Shrinks : Position → Position → Result (Option Item) ShapeFault → Type 0
Shrinks place after (Ok item) = Shrunk place item after
Shrinks place after (Err e) = Unit {0}

-- ---- entries

-- the item, without its place
abbrev pub text_of : Found → ItemText
text_of f = f.item

-- these are the items of the first entry, so many octets are left from the first of them on, and this is the text after it
pub record EntryRead (text : List ℕ) (items : List Item) (left : ℕ) (rest : List ℕ) : Type 0 where
  pub founds : List Found
  pub texts : map text_of founds ≡ map item_of items
  pub place : (f : Found) (fs : List Found) → founds ≡ f ∷ fs → f.left ≡ left
  pub exact : entries text ≡ (entries rest >>= λ es. Ok (with_entry (white_first text) founds es))

-- the first entry of a text, or its first fault
abbrev pub ReadsEntry : List ℕ → List Item → Result EntryEnd ShapeFault → Type 0
ReadsEntry text items (Ok end) = EntryRead text items end.left end.rest.now
ReadsEntry text items (Err e) = RefusesAt e (entries text)

-- the text after an entry is shorter, unless there was none
abbrev pub ShorterRest : List ℕ → Result EntryEnd ShapeFault → Type 0
ShorterRest text (Ok end) = 0 < length text → length end.rest.now < length text
ShorterRest text (Err e) = Unit {0}

-- a text that falls into entries, or its first fault
abbrev pub Checks : List ℕ → Result (Unit {0}) ShapeFault → Type 0
Checks text (Ok done) = (es : List Entry) × (entries text ≡ Ok es)
Checks text (Err e) = RefusesAt e (entries text)
