-- The laws of each query. Whatever is proved of all requests needs nothing else of a query.
use Rattle.std.proofs.Common.{◌≡◌, ℕ, List, ap, refl}
use Rattle.std.specs.Prelude.{if◌then◌else◌, nat_le}
use Rattle.std.specs.List.{filter}
use Rattle.dns_names.specs.Labels.{is_within}
use Rattle.dns_data.specs.declared.record_type.RecordType.{RecordType}
use Rattle.grant_policy.specs.declared.action.Action.{Action}
use Rattle.grant_policy.specs.declared.rule.Rule.{Rule}
use Rattle.grant_policy.specs.Decisions.{decision}
use Rattle.grant_policy.proofs.DecisionLaws.{decision_found}
use Rattle.zone_core.specs.Delegations.{report}
use Rattle.office_model.specs.declared.request.Query.{Query}
use Rattle.office_model.specs.declared.request.Query.TheVariants as queries
use Rattle.office_model.specs.Replies.{ReplyOf, records, file, delegations, changes, not_zone}
use Rattle.office_model.specs.States.{State, AreZones}
use Rattle.office_core.specs.Permissions.{question}
use Rattle.office_core.specs.Machine.{numbered, changes_from, list_reply, list_within_reply, file_reply, delegations_reply, changes_reply, query_reply}
use Rattle.office_core.specs.Promises.{TellsWithin, TellsChanges, QueryIsRight}
use Rattle.office_core.specs.RightAnswers.{QueryIsTold}
use Rattle.office_core.proofs.ToldLemmas.{changes_are_exact}
use Rattle.office_core.proofs.SameLemmas.{Same, all_listed, part_listed, of_zone_alike}
use Rattle.office_core.proofs.QueryLemmas.{of_zone_right, tells_all, tells_within, tells_report}

-- What a query proves: the machine's reply is right; who is told right is told so in words that compute no reply; and a caller to whom two
-- states look the same is replied the same in both (isolation).
pub record QueryLaws (query : Query) : Type 0 where
  pub right : (rules : List Rule) (s : State) → AreZones s → (caller : List ℕ) → QueryIsRight rules s caller query (query_reply rules s caller query)
  pub told : (rules : List Rule) (s : State) (caller : List ℕ) (reply : ReplyOf) → QueryIsRight rules s caller query reply → QueryIsTold rules s caller query reply
  pub alike : (rules : List Rule) (caller : List ℕ) (s t : State) → Same rules caller s t → query_reply rules s caller query ≡ query_reply rules t caller query

list_laws : (origin : List (List ℕ)) → QueryLaws (queries.List origin)
list_laws origin = record {
  right = λ rules s zones caller. tells_all rules s zones caller records origin;
  told = λ rules s caller reply right. right;
  alike = λ rules caller s t same.
      of_zone_alike rules caller origin (s.zones origin) (t.zones origin) (same.zones origin) (list_reply rules caller) (λ a b z. ap records (all_listed rules caller origin a b z));
}

list_within_laws : (origin top : List (List ℕ)) → QueryLaws (queries.ListWithin origin top)
list_within_laws origin top = record {
  right = λ rules s zones caller.
      of_zone_right rules s zones caller origin (λ held. TellsWithin rules caller origin top held.records) (list_within_reply rules caller origin top)
      (λ held zone. tells_within rules s zones caller origin top held zone.kept);
  told = λ rules s caller reply right. right;
  alike = λ rules caller s t same.
      of_zone_alike rules caller origin (s.zones origin) (t.zones origin) (same.zones origin) (list_within_reply rules caller origin top)
      (λ a b z. ap (λ rs. if is_within top origin then records rs else not_zone) (part_listed rules caller origin top a b z));
}

file_laws : (origin : List (List ℕ)) → QueryLaws (queries.File origin)
file_laws origin = record {
  right = λ rules s zones caller. tells_all rules s zones caller (file origin) origin;
  told = λ rules s caller reply right. right;
  alike = λ rules caller s t same.
      of_zone_alike rules caller origin (s.zones origin) (t.zones origin) (same.zones origin) (file_reply rules caller origin) (λ a b z. ap (file origin) (all_listed rules caller origin a b z));
}

delegations_laws : (origin : List (List ℕ)) → QueryLaws (queries.Delegations origin)
delegations_laws origin = record {
  right = λ rules s zones caller. tells_all rules s zones caller (λ rs. delegations (report origin rs)) origin;
  told = λ rules s caller reply right. tells_report rules s caller origin reply right;
  alike = λ rules caller s t same.
      of_zone_alike rules caller origin (s.zones origin) (t.zones origin) (same.zones origin) (delegations_reply rules caller origin)
      (λ a b z. ap (λ rs. delegations (report origin rs)) (all_listed rules caller origin a b z));
}

changes_laws : (origin : List (List ℕ)) (from : ℕ) → QueryLaws (queries.Changes origin from)
changes_laws origin from = record {
  right = λ rules s zones caller.
      of_zone_right rules s zones caller origin (λ held. TellsChanges rules caller from held.changes) (changes_reply rules caller from)
      (λ held zone. (changes_from rules caller from held.changes, changes_are_exact rules caller from held.changes, refl));
  told = λ rules s caller reply right. right;
  alike = λ rules caller s t same.
      of_zone_alike rules caller origin (s.zones origin) (t.zones origin) (same.zones origin) (changes_reply rules caller from)
      (λ a b z. ap (λ cs. changes (filter (λ c. nat_le from c.number) (numbered 1 cs))) z.changes);
}

rights_laws : (name : List (List ℕ)) (record_type : RecordType) (asked : Action) → QueryLaws (queries.Rights name record_type asked)
rights_laws name record_type asked = record {
  right = λ rules s zones caller.
      let it = question caller name record_type asked in (decision it rules, decision_found it rules, refl);
  told = λ rules s caller reply right. right;
  alike = λ rules caller s t same. refl;
}

pub laws_of : (query : Query) → QueryLaws query
laws_of (queries.List origin) = list_laws origin
laws_of (queries.ListWithin origin top) = list_within_laws origin top
laws_of (queries.File origin) = file_laws origin
laws_of (queries.Delegations origin) = delegations_laws origin
laws_of (queries.Changes origin from) = changes_laws origin from
laws_of (queries.Rights name record_type asked) = rights_laws name record_type asked
