-- The same as definitions that compute.
use Rattle.std.specs.Prelude.{ℕ, ◌+◌, zero, suc, List, [], ◌∷◌, ◌++◌, length, Bool, ◌&&◌, true, false, if◌then◌else◌, Option, Some, None}
use Rattle.std.specs.List.{list_any}
use Rattle.std.specs.Option.{option_or}
use Rattle.dns_names.specs.Labels.{is_within}
use Rattle.dns_names.specs.Order.{same_name}
use Rattle.dns_data.specs.declared.record.Record.{Record}
use Rattle.dns_data.specs.declared.record_type.RecordType.TheVariants as types
use Rattle.dns_data.specs.declared.rdata.Data.{Data}
use Rattle.dns_data.specs.declared.rdata.Data.TheVariants as variants
use Rattle.zone_core.specs.Zones.{first_of}
use Rattle.zone_core.specs.Delegations.{AreNamesOf, cut_owners}
use Rattle.zone_core.specs.Outermost.{AreOutermost}
use Rattle.zone_answers.specs.declared.query_type.QueryType.{QueryType}
use Rattle.zone_answers.specs.declared.query_type.QueryType.TheVariants.{Kept}
use Rattle.zone_answers.specs.Answers.{Name, asterisk, asked_at, asks_alias, answered_as, Found, Outside, Delegated, Missing, Alias, Listed, Again, AnswerOf, answer_with}

-- whether a name exists
abbrev pub is_there : List Record → Name → Bool
is_there rs name = list_any (λ r. is_within r.owner name) rs

-- the wildcard below the closest encloser of a name that does not exist
abbrev pub wildcard_over : List Record → Name → Option Name
wildcard_over rs [] = None
wildcard_over rs (label ∷ labels) = if is_there rs labels then Some (asterisk ∷ labels) else wildcard_over rs labels

-- a name, if it exists
abbrev pub if_there : List Record → Option Name → Option Name
if_there rs None = None
if_there rs (Some name) = if is_there rs name then Some name else None

-- the name whose records answer
abbrev pub source_of : List Record → Name → Option Name
source_of rs name = if is_there rs name then Some name else if_there rs (wildcard_over rs name)

-- whether the zone is cut at a name
abbrev pub is_cut_at : Name → List Record → Name → Bool
is_cut_at origin rs name = list_any (same_name name) (cut_owners origin rs)

-- the outermost cut at or above a name
abbrev pub cut_over : Name → List Record → Name → Option Name
cut_over origin rs [] = None
cut_over origin rs (label ∷ labels) =
    option_or (cut_over origin rs labels) (if is_cut_at origin rs (label ∷ labels) then Some (label ∷ labels) else None)

-- the names of the cuts of a zone that are within no other
pub record AreTopCuts (origin : Name) (rs : List Record) (cuts : List Name) : Type 0 where
  pub all : List Name
  pub names : AreNamesOf all (cut_owners origin rs)
  pub tops : AreOutermost all cuts

-- whether a question is for a DS
abbrev pub is_ds : QueryType → Bool
is_ds (Kept types.Ds) = true
is_ds asked = false

-- the cut at or above a name, unless the question is for its DS
abbrev pub unless_parent : Name → QueryType → Option Name → Option Name
unless_parent name asked None = None
unless_parent name asked (Some cut) = if is_ds asked && same_name name cut then None else Some cut

abbrev pub referral : Name → List Record → Name → QueryType → Option Name
referral origin rs name asked = unless_parent name asked (cut_over origin rs name)

-- the alias at a name that is followed
abbrev pub followed_at : List Record → Name → QueryType → Option Record
followed_at rs name asked = if asks_alias asked then None else first_of (asked_at rs name (Kept types.Cname))

abbrev pub found_by : List Record → Name → QueryType → Option Record → Found
found_by rs source asked None = Listed (asked_at rs source asked)
found_by rs source asked (Some r) = Alias r

abbrev pub found_from : List Record → QueryType → Option Name → Found
found_from rs asked None = Missing
found_from rs asked (Some source) = found_by rs source asked (followed_at rs source asked)

abbrev pub found_below : List Record → Name → QueryType → Option Name → Found
found_below rs name asked None = found_from rs asked (source_of rs name)
found_below rs name asked (Some cut) = Delegated cut

-- what is found for a name
abbrev pub found_at : Name → List Record → Name → QueryType → Found
found_at origin rs name asked = if is_within name origin then found_below rs name asked (referral origin rs name asked) else Outside

-- the name to which an alias leads from a name
abbrev pub target_of : Name → Data → Name
target_of name (variants.Cname target) = target
target_of name rdata = name

-- whether a name was asked for before
abbrev pub was_asked : List Record → Name → Bool
was_asked before name = list_any (λ r. same_name r.owner name) before

-- the alias that is found
abbrev pub alias_in : Found → Option Record
alias_in (Alias r) = Some r
alias_in found = None

-- what comes of what is found for a name: an alias leads on, and all else ends
abbrev pub by_alias : Name → List Record → List Record → Name → (List Record → Name → AnswerOf) → Found → Option Record → AnswerOf
by_alias origin rs before name next found (Some r) = next (before ++ answered_as name r ∷ []) (target_of name r.rdata)
by_alias origin rs before name next found None = answer_with origin rs before name found

-- what aliases lead to, of which at most so many more are followed
unfoldable pub follow : Name → List Record → QueryType → ℕ → List Record → Name → AnswerOf
follow origin rs asked zero before name = answer_with origin rs before name Again
follow origin rs asked (suc n) before name =
    if was_asked before name then answer_with origin rs before name Again
    else by_alias origin rs before name (follow origin rs asked n) (found_at origin rs name asked) (alias_in (found_at origin rs name asked))

-- the answer to a question: before the last name come the first one, and no more others than there are records
abbrev pub answer_to : Name → List Record → Name → QueryType → AnswerOf
answer_to origin rs name asked = follow origin rs asked (2 + length rs) [] name

-- the answer for a name to which no alias led, from what is found for it
abbrev pub answer_from : Name → List Record → Name → QueryType → Found → AnswerOf
answer_from origin rs name asked found = by_alias origin rs [] name (follow origin rs asked (1 + length rs)) found (alias_in found)
