-- The entries of a file, in order.
use Rattle.std.specs.Prelude.{ℕ, ◌+◌, List, [], ◌∷◌, ◌++◌, length, map, Option, Some, None, Result, Ok, Err, nat_lt, if◌then◌else◌, bytes_eq, is_some}
use Rattle.std.specs.List.{find}
use Rattle.std.specs.Option.{ok_or}
use Rattle.grant_policy.specs.declared.callers.Callers.{Callers}
use Rattle.policy_build.specs.declared.build_fault.BuildFault.{BuildFault}
use Rattle.policy_build.specs.declared.build_fault.BuildFault.TheVariants.{Repeated, UnknownTemplate, TooManyRules}
use Rattle.policy_build.specs.declared.entry.Entry.{Entry}
use Rattle.policy_build.specs.declared.entry.Listing.{Listing}
use Rattle.policy_build.specs.declared.member.Member.{Member}
use Rattle.policy_build.specs.declared.names.Names.{Names}
use Rattle.policy_build.specs.declared.place.FileKey.TheVariants as key
use Rattle.policy_build.specs.declared.place.Place.{Place}
use Rattle.policy_build.specs.declared.group_rule.GroupRule.{GroupRule}
use Rattle.policy_build.specs.declared.statement.Statement.{Statement}
use Rattle.policy_build.specs.declared.statement.Statement.TheVariants as statement
use Rattle.policy_build.specs.Faults.{◌>>=◌}
use Rattle.policy_build.specs.Places.{at_key}
use Rattle.policy_build.specs.Sources.{SourceOf}
use Rattle.policy_build.specs.Templates.{TemplateOf, TemplateUseOf}

-- a list of members, and the place of its table
pub record ListingOf (X : Type 0) : Type 0 where
  pub place : Place
  pub members : List (Member X)

-- an entry: what it is called, what it does, whom it speaks of and which names
pub record EntryOf : Type 0 where
  pub place : Place
  pub id : List ℕ
  pub rule : GroupRule
  pub callers : ListingOf Callers
  pub names : ListingOf Names

-- ---- what they are

-- the list of a rule, or what its parameter stands for
abbrev pub listing : {X : Type 0} → Place → Option (List (Member X)) → ListingOf X → ListingOf X
listing place (Some members) given = record { place = place; members = members }
listing place None given = given

-- the entry of a rule for groups
abbrev pub plain : GroupRule → EntryOf
plain rule = record {
  place = rule.place;
  id = rule.id;
  rule = rule;
  callers = listing rule.place rule.callers (record { place = rule.place; members = [] });
  names = listing rule.place rule.names (record { place = rule.place; members = [] });
}

-- a dot joins the id of a use and that of a rule of the template
abbrev pub used_id : List ℕ → List ℕ → List ℕ
used_id usage rule = usage ++ 46 ∷ rule

-- the entry of a rule of a template in a use
abbrev pub used : TemplateUseOf → GroupRule → EntryOf
used usage rule = record {
  place = usage.place;
  id = used_id usage.id rule.id;
  rule = rule;
  callers = listing rule.place rule.callers (record { place = usage.place; members = usage.callers });
  names = listing rule.place rule.names (record { place = usage.place; members = usage.names });
}

-- the first template that is called so
abbrev pub called : List ℕ → List TemplateOf → Option TemplateOf
called id templates = find (λ template. bytes_eq template.id id) templates

-- ---- with the refusal that comes first

-- at most 1,024 rules
abbrev pub few_rules : Place → ℕ → Result ℕ BuildFault
few_rules place count = if nat_lt 1024 count then Err (TooManyRules place count) else Ok count

-- templates, in order, after others, no two of one name
abbrev pub fresh_templates : List TemplateOf → List TemplateOf → Result (List TemplateOf) BuildFault
fresh_templates before [] = Ok before
fresh_templates before (template ∷ templates) =
    if is_some (called template.id before) then Err (Repeated template.place) else fresh_templates (before ++ template ∷ []) templates

-- the entries so far, and that of a rule for groups
abbrev pub with_plain : List EntryOf → GroupRule → Result (List EntryOf) BuildFault
with_plain before rule = few_rules rule.place (length before + 1) >>= λ count. Ok (before ++ plain rule ∷ [])

-- the entries so far, and those of a use of a template
abbrev pub with_template : List EntryOf → TemplateUseOf → TemplateOf → Result (List EntryOf) BuildFault
with_template before usage template = do
  own ← few_rules template.place (length template.rules)
  count ← few_rules usage.place (length before + length template.rules)
  Ok (before ++ map (used usage) template.rules)

abbrev pub with_use : List TemplateOf → List EntryOf → TemplateUseOf → Result (List EntryOf) BuildFault
with_use templates before usage = ok_or (called usage.template templates) (UnknownTemplate (at_key usage.place key.Template)) >>= with_template before usage

-- the entries so far, and those of a statement
abbrev pub entries_of : List TemplateOf → List EntryOf → Statement → Result (List EntryOf) BuildFault
entries_of templates before (statement.Rule rule) = with_plain before rule
entries_of templates before (statement.Use usage) = with_use templates before usage

-- the entries so far, and those of statements in order
abbrev pub entries_from : List TemplateOf → List EntryOf → List Statement → Result (List EntryOf) BuildFault
entries_from templates before [] = Ok before
entries_from templates before (one ∷ statements) = entries_of templates before one >>= λ entries. entries_from templates entries statements

-- the entries of a file
abbrev pub entries_in : SourceOf → Result (List EntryOf) BuildFault
entries_in source = do
  templates ← fresh_templates [] source.templates
  entries_from source.templates [] source.statements

-- ---- as the program has them

abbrev pub listing_of : {X : Type 0} → Listing X → ListingOf X
listing_of l = record { place = l.place; members = l.members.now }

abbrev pub entry_of : Entry → EntryOf
entry_of e = record { place = e.place; id = e.id.items; rule = e.rule.now; callers = listing_of e.callers; names = listing_of e.names }
