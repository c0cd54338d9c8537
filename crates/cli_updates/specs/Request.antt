-- What `request` prints: the body of an update under an identifier, of its items.
use Rattle.std.specs.Prelude.{ℕ, List, [], ◌∷◌, ◌++◌, length, nat_lt, if◌then◌else◌, Result, Ok, Err}
use Rattle.grant_policy.specs.Reading.{identifier_of}
use Rattle.update_lines.specs.Reading.{items_of}
use Rattle.wire_json.specs.UpdateTexts.{update_text}
use Rattle.cli_core.specs.declared.refusal.Refusal.{Refusal}
use Rattle.cli_core.specs.declared.refusal.Refusal.TheVariants.{NoIdentifier, BodyTooLarge}
use Rattle.cli_core.specs.LineFaults.{◌>>=◌, limited, of_items, or_refused}

-- the identifier that a word is
abbrev pub identifier_in : List ℕ → Result (List ℕ) Refusal
identifier_in word = or_refused (identifier_of word) NoIdentifier

-- at most 65,536 octets, which the office reads
abbrev pub short_body : List ℕ → Result (List ℕ) Refusal
short_body body = if nat_lt 65536 (length body) then Err BodyTooLarge else Ok body

-- a body with a line end after it, which is white space there (RFC 8259 section 2)
abbrev pub body_line : List ℕ → Result (List ℕ) Refusal
body_line body = short_body (body ++ 10 ∷ [])

-- the line of the body of items under an identifier
abbrev pub body_of_items : List ℕ → List ℕ → Result (List ℕ) Refusal
body_of_items id items = of_items (items_of items) >>= λ update. body_line (update_text id update)

-- the same of a word that is the identifier, and an input that is the items
abbrev pub request_text : List ℕ → List ℕ → Result (List ℕ) Refusal
request_text word input = identifier_in word >>= λ id. limited input >>= body_of_items id
