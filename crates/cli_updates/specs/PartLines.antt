-- What the lines of parts are read as.
use Rattle.std.specs.Prelude.{◌≡◌, ℕ, ◌+◌, ◌≤◌, List, [], ◌∷◌, ◌++◌, length, Ok}
use Rattle.zone_core.specs.Updates.{UpdateOf}
use Rattle.wire_json.specs.Reading.{update_of_body}
use Rattle.cli_updates.specs.Request.{identifier_in}
use Rattle.cli_updates.specs.Split.{numbered, part_update}

-- The line of a part after so many others: a body of at most 65,536 octets with its line end, which the office reads as the update of the
-- part, under the identifier of its number.
pub record IsPartLine (word : List ℕ) (before : ℕ) (u : UpdateOf) (line : List ℕ) : Type 0 where
  pub id : List ℕ
  pub update : UpdateOf
  pub body : List ℕ
  pub named : identifier_in (numbered word (before + 1)) ≡ Ok id
  pub made : part_update before u ≡ Ok update
  pub ended : line ≡ body ++ 10 ∷ []
  pub short : length line ≤ 65536
  pub read : update_of_body body ≡ Ok (record { id = id; update = update })

-- a text is the lines of parts after so many others
abbrev pub ArePartLines : List ℕ → ℕ → List UpdateOf → List ℕ → Type 0
ArePartLines word before [] text = text ≡ []
ArePartLines word before (u ∷ us) text =
    (line : List ℕ) × (rest : List ℕ) × IsPartLine word before u line × ArePartLines word (before + 1) us rest × (text ≡ line ++ rest)
