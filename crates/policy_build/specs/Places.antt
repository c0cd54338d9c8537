-- The keys of a file of groups, and the places of its tables and of their keys.
use Rattle.std.specs.Prelude.{ℕ, List, Option, Some, None, codes}
use Rattle.policy_build.specs.declared.place.FileKey.{FileKey}
use Rattle.policy_build.specs.declared.place.FileKey.TheVariants as key
use Rattle.policy_build.specs.declared.place.Spot.{Spot}
use Rattle.policy_build.specs.declared.place.Spot.TheVariants as spot
use Rattle.policy_build.specs.declared.place.Place.{Place}

abbrev pub key_text : FileKey → List ℕ
key_text key.Callers = codes "callers"
key_text key.Names = codes "names"
key_text key.Template = codes "template"
key_text key.Rule = codes "rule"
key_text key.Members = codes "members"
key_text key.Id = codes "id"
key_text key.Effect = codes "effect"
key_text key.Types = codes "types"
key_text key.Actions = codes "actions"

-- the document
abbrev pub document_place : Place
document_place = record { spot = spot.Document; key = None }

-- a key of a table
abbrev pub at_key : Place → FileKey → Place
at_key place k = record { spot = place.spot; key = Some k }

-- the rules of a template are tables of their own
abbrev pub nth_rule : ℕ → FileKey → ℕ → Place → Place
nth_rule template key.Rule number place = record { spot = spot.TemplateRule template number; key = None }
nth_rule template _ number place = place

abbrev pub nth_in : FileKey → ℕ → FileKey → ℕ → Place → Place
nth_in key.Template n k number place = nth_rule n k number place
nth_in _ n k number place = place

abbrev pub nth_at : Spot → FileKey → ℕ → Place → Place
nth_at spot.Document k number place = record { spot = spot.Table k number; key = None }
nth_at (spot.Table t n) k number place = nth_in t n k number place
nth_at (spot.TemplateRule t n) k number place = place

abbrev pub nth_with : Spot → Option FileKey → ℕ → Place → Place
nth_with at (Some k) number place = nth_at at k number place
nth_with at None number place = place

-- an item of an array: a table of its own, or a value at the place of the array
abbrev pub nth_of : Place → ℕ → Place
nth_of place number = nth_with place.spot place.key number place
