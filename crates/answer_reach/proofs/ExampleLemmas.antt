-- Examples, and names of groups.
use Rattle.std.proofs.Common.{◌≡◌, List, [], ◌∷◌, Bool, true, false, not, Option, Some, None, IfSome, Result, IfOk, refl, sym, subst}
use Rattle.std.specs.List.{Contains}
use Rattle.std.proofs.lemmas.Result.{IfOk-weaker}
use Rattle.dns_names.specs.Labels.{is_within, parent_of}
use Rattle.dns_names.proofs.NameLemmas.{is_within-Decides}
use Rattle.dns_data.specs.declared.record.Record.{Record}
use Rattle.grant_policy.specs.declared.rule.Rule.{Rule}
use Rattle.zone_core.specs.Sets.{listing}
use Rattle.zone_core.specs.Delegations.{AreNamesOf}
use Rattle.zone_core.specs.Effects.{zone_after}
use Rattle.zone_core.specs.Updates.{UpdateOf}
use Rattle.zone_core.proofs.BelowLemmas.{no_test}
use Rattle.zone_answers.specs.declared.query_type.QueryType.{QueryType}
use Rattle.zone_answers.specs.Answers.{Name}
use Rattle.zone_answers.specs.AnswerChanges.{Differs}
use Rattle.answer_reach.specs.declared.reached.ReachedNames.TheVariants.{Others}
use Rattle.answer_reach.specs.declared.reached.ReachedAnswers.{ReachedAnswers}
use Rattle.answer_reach.specs.declared.example.Example.{Example}
use Rattle.answer_reach.specs.Examples.{SearchOf, IsExample, IsExampleOf}
use Rattle.answer_reach.specs.ReachedGroups.{IsIn}
use Rattle.answer_reach.specs.ReachTests.{has_name, named}
use Rattle.answer_reach.specs.Trials.{IsTried}
use Rattle.answer_reach.proofs.NamedLemmas.{is_has, is_known}
use Rattle.answer_reach.proofs.TrialLemmas.{is_permitted}

-- a name that is not known is one of those below the name above it
pub in_group : (origin : Name) (rules : List Rule) (rs : List Record) (known : List Name) → AreNamesOf known (named origin rules rs) → (name above : Name)
    → parent_of name ≡ Some above → has_name known name ≡ false → is_within name origin ≡ true → IsIn rules rs (Others above) name
in_group origin rules rs known are [] above up off inside = absurd cc
in_group origin rules rs known are (label ∷ labels) above up off inside =
    let same : labels ≡ above = cc in
    subst (λ (n : Name). IsIn rules rs (Others n) (label ∷ labels)) same
    ([], label, refl, λ is. no_test (has_name known (label ∷ labels)) (is_has known (label ∷ labels) (is_known origin rules rs known are (label ∷ labels) ((is_within-Decides (label ∷ labels) origin).0 inside) is)) off)

pub is_example : (of : SearchOf) (covered : List Name) (name : Name) (asked : QueryType) (update : UpdateOf) → IsTried of.rules of.caller of.zone.origin covered update
    → Differs of.zone.origin (listing of.zone.records) (listing (zone_after of.zone update).records) name asked → IsExample of name asked update
is_example of covered name asked update tried differs =
    record { permitted = is_permitted of.rules of.caller of.zone.origin covered update tried; unconditional = tried.unconditional; changes = differs }

pub not_false : (b : Bool) → not b ≡ false → b ≡ true
not_false true e = refl
not_false false e = absurd cc

-- an example for a name of a group is one for its row
pub of_row : {E : Type 0} (of : SearchOf) (row : ReachedAnswers) (types : List QueryType) (name : Name) (r : Result (Option Example) E) → IsIn of.rules (listing of.zone.records) row.names name → types ≡ row.types.items
    → IfOk r (λ found. IfSome found (λ (e : Example). (e.name ≡ name) × Contains types e.asked × IsExample of e.name e.asked e.update)) → IfOk r (λ found. IfSome found (IsExampleOf of row))
of_row of row types name r is_in are found = IfOk-weaker r _ _ more found
  where
    more : (o : Option Example) → IfSome o (λ (e : Example). (e.name ≡ name) × Contains types e.asked × IsExample of e.name e.asked e.update) → IfSome o (IsExampleOf of row)
    more None h = h
    more (Some e) h = record {
      name = subst (λ (n : Name). IsIn of.rules (listing of.zone.records) row.names n) (sym h.0) is_in;
      type = subst (λ (l : List QueryType). Contains l e.asked) are h.1;
      is = h.2;
    }
